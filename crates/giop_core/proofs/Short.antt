-- Messages whose octets are an array: a header, and numbers over the zeros behind it.
use Rattle.std.proofs.Common.{◌≡◌, ℕ, List, [], ◌∷◌, ◌++◌, length, take, drop, refl, sym, ◌∙◌}
use Rattle.std.proofs.lemmas.List.{append-nil}
use borrow.Rule.Slice.PartMut.{put_mid}
use Rattle.cdr_core.specs.declared.order.Order.{Order}
use Rattle.cdr_core.specs.declared.order.Order.TheVariants.{Big, Little}
use Rattle.cdr_core.specs.Numbers.{digits_of}
use Rattle.cdr_core.specs.Value.{no_values}
use Rattle.giop_core.specs.declared.header.MessageKind.{MessageKind}
use Rattle.giop_core.specs.declared.header.MessageKind.TheVariants as kind
use Rattle.giop_core.specs.declared.header.Version.{Version}
use Rattle.giop_core.specs.declared.header.Version.TheVariants.{V10, V11, V12}
use Rattle.giop_core.specs.Headers.{header_octets}
use Rattle.giop_core.specs.Written.{behind_header, cancel_fields, header_for, locate_reply_fields, message_octets}
use Rattle.giop_core.proofs.Longs.{four}

-- zeros behind a header
abbrev pub zeros_4 : List ℕ
zeros_4 = 0 ∷ 0 ∷ 0 ∷ 0 ∷ []

abbrev pub zeros_8 : List ℕ
zeros_8 = 0 ∷ 0 ∷ 0 ∷ 0 ∷ zeros_4

-- octets of this many are a message
sized : (version : Version) (kind : MessageKind) (order : Order) (n : ℕ) (xs after : List ℕ) → after ≡ xs → length xs ≡ n → header_octets (header_for version kind order n) ++ xs ≡ message_octets version kind order after
sized version kind order n xs after e l = rw (e, sym l) refl

-- one number over four zeros

one_put : (version : Version) (kind : MessageKind) (order : Order) (n x : ℕ) (front tail : List ℕ) → front ≡ header_octets (header_for version kind order n)
    → tail ≡ digits_of order 4 x ++ drop 4 (take 4 (drop 12 (front ++ zeros_4))) → put_mid 12 4 (front ++ zeros_4) tail ≡ header_octets (header_for version kind order n) ++ digits_of order 4 x
one_put version kind Big n x front tail f t = rw (t, f) refl
one_put version kind Little n x front tail f t = rw (t, f) refl

cancel_is : (version : Version) (order : Order) (id : ℕ) → behind_header version kind.CancelRequest order (cancel_fields id) no_values ≡ digits_of order 4 id
unfolding behind_header
cancel_is V10 order id = append-nil (digits_of order 4 id ++ []) ∙ append-nil (digits_of order 4 id)
cancel_is V11 order id = append-nil (digits_of order 4 id ++ []) ∙ append-nil (digits_of order 4 id)
cancel_is V12 order id = append-nil (digits_of order 4 id ++ []) ∙ append-nil (digits_of order 4 id)

pub cancel_put : (version : Version) (order : Order) (id : ℕ) (front tail : List ℕ) → front ≡ header_octets (header_for version kind.CancelRequest order 4)
    → tail ≡ digits_of order 4 id ++ drop 4 (take 4 (drop 12 (front ++ zeros_4)))
    → put_mid 12 4 (front ++ zeros_4) tail ≡ message_octets version kind.CancelRequest order (behind_header version kind.CancelRequest order (cancel_fields id) no_values)
cancel_put version order id front tail f t = one_put version kind.CancelRequest order 4 id front tail f t ∙ sized version kind.CancelRequest order 4 (digits_of order 4 id) _ (cancel_is version order id) (four order id)

-- two numbers over eight zeros

module _ (version : Version) (kind : MessageKind) (n x y : ℕ) (front first second : List ℕ) where
  abbrev Tells : Order → Type 0
  Tells order =
      front ≡ header_octets (header_for version kind order n) → first ≡ digits_of order 4 x ++ drop 4 (take 8 (drop 12 (front ++ zeros_8)))
      → second ≡ digits_of order 4 y ++ drop 4 (take 4 (drop 16 (put_mid 12 8 (front ++ zeros_8) first)))
      → put_mid 16 4 (put_mid 12 8 (front ++ zeros_8) first) second ≡ header_octets (header_for version kind order n) ++ (digits_of order 4 x ++ digits_of order 4 y)

  two_put : (order : Order) → Tells order
  two_put Big f a b = rw (b, a, f) refl
  two_put Little f a b = rw (b, a, f) refl

locate_is : (version : Version) (order : Order) (id status : ℕ) → behind_header version kind.LocateReply order (locate_reply_fields id status) no_values ≡ digits_of order 4 id ++ digits_of order 4 status
unfolding behind_header
locate_is V10 Big id status = refl
locate_is V11 Big id status = refl
locate_is V12 Big id status = refl
locate_is V10 Little id status = refl
locate_is V11 Little id status = refl
locate_is V12 Little id status = refl

eight : (order : Order) (x y : ℕ) → length (digits_of order 4 x ++ digits_of order 4 y) ≡ 8
eight Big x y = refl
eight Little x y = refl

pub locate_put : (version : Version) (order : Order) (id status : ℕ) (front first second : List ℕ) → front ≡ header_octets (header_for version kind.LocateReply order 8)
    → first ≡ digits_of order 4 id ++ drop 4 (take 8 (drop 12 (front ++ zeros_8))) → second ≡ digits_of order 4 status ++ drop 4 (take 4 (drop 16 (put_mid 12 8 (front ++ zeros_8) first)))
    → put_mid 16 4 (put_mid 12 8 (front ++ zeros_8) first) second ≡ message_octets version kind.LocateReply order (behind_header version kind.LocateReply order (locate_reply_fields id status) no_values)
locate_put version order id status front first second f a b =
    two_put version kind.LocateReply 8 id status front first second order f a b
    ∙ sized version kind.LocateReply order 8 (digits_of order 4 id ++ digits_of order 4 status) _ (locate_is version order id status) (eight order id status)
