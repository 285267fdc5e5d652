-- A body that comes as octets.
use Rattle.std.proofs.Common.{◌≡◌, ◌==◌, ◌⊎◌, inl, inr, ℕ, ◌+◌, ◌%◌, ◌<◌, ◌≤◌, false, List, [], ◌∷◌, ◌++◌, length, map, replicate, Result, Ok, Err, MatchResult, refl, sym, ap, ◌∙◌, arith, length-append}
use Rattle.std.proofs.lemmas.Bool.{eqb-false}
use Rattle.std.proofs.lemmas.List.{append-nil}
use Rattle.std.specs.Prelude.{if◌then◌else◌}
use Rattle.std.specs.Result.{is_ok}
use Rattle.std.specs.declared.alloc.AllocError.{AllocError}
use Rattle.cdr_core.specs.declared.order.Order.{Order}
use Rattle.cdr_core.specs.declared.order.Order.TheVariants.{Big, Little}
use Rattle.cdr_core.specs.Numbers.{digits_of, padding, AreOctets}
use Rattle.cdr_core.specs.Parts.{octet_value}
use Rattle.cdr_core.specs.Private.{Keeps}
use Rattle.cdr_core.specs.Value.{values}
use Rattle.cdr_core.specs.Writing.{number_octets, octets_of_all, place_in, AreWritable, Writing}
use Rattle.cdr_core.proofs.Appending.{keeps_all, keeps_behind}
use Rattle.cdr_core.proofs.Turns.{count_values}
use Rattle.giop_core.specs.declared.header.MessageKind.TheVariants as kind
use Rattle.giop_core.specs.declared.header.Version.{Version}
use Rattle.giop_core.specs.declared.header.Version.TheVariants.{V10, V11, V12}
use Rattle.giop_core.specs.Laws.{OctetsBodiesAreAsLong, OctetsBodiesAreOctets, OctetsBodiesCanBeWritten}
use Rattle.giop_core.specs.Written.{aligned_octets, body_octets, octets_body}
use Rattle.giop_core.proofs.Whole.{aligned_some}

-- an octet stands alone, without padding

digit : (order : Order) (x : ℕ) → x < 256 → digits_of order 1 x ≡ x ∷ []
digit Big x lt = let e : x % 256 ≡ x = omega (arith, lt) in ap (λ y. y ∷ []) e
digit Little x lt = let e : x % 256 ≡ x = omega (arith, lt) in ap (λ y. y ∷ []) e

digit_one : (order : Order) (x : ℕ) → length (digits_of order 1 x) ≡ 1
digit_one Big x = refl
digit_one Little x = refl

no_padding : (place : ℕ) → padding place 1 ≡ 0
no_padding place = omega arith

octet_digit : (order : Order) (place x : ℕ) → number_octets order 1 place x ≡ digits_of order 1 x
octet_digit order place x = ap (λ n. replicate n 0 ++ digits_of order 1 x) (no_padding place)

-- octets one after another

octets_read : (order : Order) (octets : List ℕ) (place : ℕ) → AreOctets octets → octets_of_all order (values (map octet_value octets)) place ≡ octets
octets_read order [] place are = refl
octets_read order (x ∷ xs) place are =
    let first = number_octets order 1 place x in
    let one : first ≡ x ∷ [] = octet_digit order place x ∙ digit order x are.0 in
    ap (λ ys. first ++ ys) (octets_read order xs (place + length first) are.1) ∙ ap (λ ys. ys ++ xs) one

octets_length : (order : Order) (octets : List ℕ) (place : ℕ) → length (octets_of_all order (values (map octet_value octets)) place) ≡ length octets
octets_length order [] place = refl
octets_length order (x ∷ xs) place =
    let first = number_octets order 1 place x in
    let one : length first ≡ 1 = ap length (octet_digit order place x) ∙ digit_one order x in
    let rest = octets_of_all order (values (map octet_value xs)) (place + length first) in
    omega (arith, one, octets_length order xs (place + length first), length-append first rest)

octets_writable : (octets : List ℕ) → AreWritable (values (map octet_value octets))
octets_writable [] = tt
octets_writable (x ∷ xs) = (tt, octets_writable xs)

-- the body that they are

pub body_read : OctetsBodiesAreOctets
body_read order octets place are = append-nil (octets_of_all order (values (map octet_value octets)) place) ∙ octets_read order octets place are

pub body_length : OctetsBodiesAreAsLong
body_length order octets place = ap length (append-nil (octets_of_all order (values (map octet_value octets)) place)) ∙ octets_length order octets place

pub body_writable : OctetsBodiesCanBeWritten
body_writable octets lt = ((omega (arith, lt, count_values octet_value octets), octets_writable octets), tt)

-- it is appended behind its padding

module _ (w : Writing) (octets old aligned new : List ℕ) (n : ℕ) (are : AreOctets octets) (a : aligned ≡ old ++ replicate (padding (place_in w old) n) 0) where
  abbrev Answers : Version → Result (Unit {0}) AllocError → Type 0
  Answers version r = MatchResult r (λ _. new ≡ old ++ body_octets version kind.Reply w.order (octets_body octets) (place_in w old)) (λ _. Keeps old new)

  kept_put : new ≡ aligned → Keeps old new
  kept_put e = keeps_behind (replicate (padding (place_in w old) n) 0) a (keeps_all aligned new e)

  -- in 1.0 and 1.1 there is none
  plain : n ≡ 1 → new ≡ aligned ++ octets → new ≡ old ++ octets_of_all w.order (octets_body octets) (place_in w old)
  plain one e =
      let none : padding (place_in w old) n ≡ 0 = ap (padding (place_in w old)) one ∙ no_padding (place_in w old) in
      e ∙ ap (λ xs. xs ++ octets) (a ∙ ap (λ m. old ++ replicate m 0) none ∙ append-nil old) ∙ ap (λ xs. old ++ xs) (sym (body_read w.order octets (place_in w old) are))

  pub plain_put : n ≡ 1 → (version : Version) → (version ≡ V10) ⊎ (version ≡ V11) → (r : Result (Unit {0}) AllocError) → new ≡ (if is_ok r then aligned ++ octets else aligned) → Answers version r
  plain_put one version (inl is) (Ok x) e = rw is (plain one e)
  plain_put one version (inr is) (Ok x) e = rw is (plain one e)
  plain_put one version is (Err x) e = kept_put e

  -- in 1.2 it leads to a place divisible by 8
  module _ (le : w.start ≤ length old) (some : (length octets == 0) ≡ false) (eight : n ≡ 8) where
    behind_padding : new ≡ aligned ++ octets → new ≡ old ++ aligned_octets w.order (octets_body octets) (place_in w old)
    behind_padding e =
        aligned_some w (octets_body octets) old aligned new le (rw eight at a) (e ∙ ap (λ xs. aligned ++ xs) (sym (body_read w.order octets (place_in w aligned) are)))
        (λ same. eqb-false (length octets) 0 some (omega (arith, same, ap length e, length-append aligned octets)))

    pub padded_put : (r : Result (Unit {0}) AllocError) → new ≡ (if is_ok r then aligned ++ octets else aligned) → Answers V12 r
    padded_put (Ok x) e = behind_padding e
    padded_put (Err x) e = kept_put e
