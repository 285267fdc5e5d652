-- Where a body stands.
use Rattle.std.proofs.Common.{◌≡◌, ℕ, zero, suc, ◌+◌, ◌<◌, ◌≤◌, List, [], ◌++◌, length, take, drop, Ok, ◌⊎◌, inl, inr, refl, ap, subst, sym, ◌∙◌, arith, append_assoc, length-append}
use Rattle.std.proofs.lemmas.List.{append-nil, drop_all, length-take-le, take-append-drop}
use Rattle.cdr_core.specs.declared.order.Order.{Order}
use Rattle.cdr_core.proofs.Found.{found}
use Rattle.cdr_core.specs.Numbers.{padding}
use Rattle.cdr_core.specs.Value.{Value}
use Rattle.giop_core.specs.declared.header.MessageKind.{MessageKind}
use Rattle.giop_core.specs.declared.header.MessageKind.TheVariants as kind
use Rattle.giop_core.specs.declared.header.Version.{Version}
use Rattle.giop_core.specs.declared.header.Version.TheVariants.{V10, V11, V12}
use Rattle.giop_core.specs.Content as content
use Rattle.giop_core.specs.Content.{content, Content, Rest}
use Rattle.giop_core.specs.Grammar.{IsMessage}
use Rattle.giop_core.specs.Laws.{BodiesAreBacks}
use Rattle.giop_core.specs.Messages.{aligned, directly, message_of, rest_at, IsBack, OnBody, StandsNear}
use Rattle.giop_core.proofs.Spelled.{message_found}

either : (a b : ℕ) → (a ≤ b) ⊎ (b ≤ a)
either zero b = inl (omega arith)
either (suc a) zero = inr (omega arith)
either (suc a) (suc b) = elim (either a b) [ inl h ↦ inl (omega (arith, h)) | inr h ↦ inr (omega (arith, h)) ]

module _ (order : Order) (front rest : List ℕ) where
  directly_back : (version : Version) → IsBack version (front ++ rest) (directly order (12 + length front) rest)
  directly_back version = record { front = front; parts = refl; place = inl refl }

  abbrev gap : ℕ
  gap = padding (12 + length front) 8

  -- the padding is whole, or the octets end in it
  aligned_by : (gap ≤ length rest) ⊎ (length rest ≤ gap) → IsBack V12 (front ++ rest) (aligned order (12 + length front) rest)
  aligned_by (inl le) = record {
    front = front ++ take gap rest;
    parts = ap (λ xs. front ++ xs) (sym (take-append-drop gap rest)) ∙ sym (append_assoc front (take gap rest) (drop gap rest));
    place = inl (omega (arith, length-append front (take gap rest), length-take-le gap rest le));
  }
  aligned_by (inr le) = record {
    front = front ++ rest;
    parts = sym (append-nil (front ++ rest)) ∙ ap (λ xs. (front ++ rest) ++ xs) (sym (drop_all gap rest le));
    place = inr (refl, drop_all gap rest le, omega (arith, le, length-append front rest), omega (arith, length-append front rest));
  }

  aligned_back : IsBack V12 (front ++ rest) (aligned order (12 + length front) rest)
  aligned_back = aligned_by (either gap (length rest))

  rest_back : (version : Version) (kind : MessageKind) → IsBack version (front ++ rest) (rest_at version kind order (12 + length front) rest)
  rest_back V12 kind.Request = aligned_back
  rest_back V12 kind.Reply = aligned_back
  rest_back V12 kind.CancelRequest = directly_back V12
  rest_back V12 kind.LocateRequest = directly_back V12
  rest_back V12 kind.LocateReply = directly_back V12
  rest_back V12 kind.CloseConnection = directly_back V12
  rest_back V12 kind.MessageError = directly_back V12
  rest_back V12 kind.Fragment = directly_back V12
  rest_back V10 kind = directly_back V10
  rest_back V11 kind = directly_back V11

-- a back part stands near
back_near : (version : Version) (octets : List ℕ) (r : Rest) → IsBack version octets r → StandsNear octets r
back_near version octets r b = (by b.place, omega (arith, ap length b.parts, length-append b.front r.octets))
  where
    by : (r.place ≡ 12 + length b.front) ⊎ ((version ≡ V12) × (r.octets ≡ []) × (12 + length b.front ≤ r.place) × (r.place < 12 + length b.front + 8)) → r.place ≤ 12 + length octets + 7
    by (inl e) = omega (arith, e, ap length b.parts, length-append b.front r.octets)
    by (inr h) = omega (arith, h.3, ap length b.parts, length-append b.front r.octets)

content_on : (P : Rest → Type 0) (version : Version) (kind : MessageKind) (fields : List Value) (r : Rest) → P r → OnBody P (content version kind fields r)
unfolding content
content_on P V10 kind.Request fields r h = h
content_on P V11 kind.Request fields r h = h
content_on P V12 kind.Request fields r h = h
content_on P V10 kind.Reply fields r h = h
content_on P V11 kind.Reply fields r h = h
content_on P V12 kind.Reply fields r h = h
content_on P V10 kind.LocateReply fields r h = h
content_on P V11 kind.LocateReply fields r h = h
content_on P V12 kind.LocateReply fields r h = h
content_on P V10 kind fields r h = tt
content_on P V11 kind fields r h = tt
content_on P V12 kind fields r h = tt

on_more : (P Q : Rest → Type 0) → ((r : Rest) → P r → Q r) → (m : Content) → OnBody P m → OnBody Q m
on_more P Q f (content.request id wish to operation contexts r) h = f r h
on_more P Q f (content.reply id status contexts r) h = f r h
on_more P Q f (content.locate_reply id status r) h = f r h
on_more P Q f _ h = tt

spelled_back : (version : Version) (kind : MessageKind) (order : Order) (octets : List ℕ) (m : Content) → IsMessage version kind order octets m → OnBody (IsBack version octets) m
spelled_back version kind order octets m s =
    let back = subst (λ xs. IsBack version xs (rest_at version kind order (12 + length s.front) s.rest)) (sym s.parts) (rest_back order s.front s.rest version kind) in
    subst (OnBody (IsBack version octets)) (sym s.says) (content_on (IsBack version octets) version kind s.fields (rest_at version kind order (12 + length s.front) s.rest) back)

pub message_back : BodiesAreBacks
message_back version kind order octets m e = spelled_back version kind order octets m (message_found found version kind order octets m e)

pub said_near : (version : Version) (kind : MessageKind) (order : Order) (octets : List ℕ) (m : Content) → message_of version kind order octets ≡ Ok m → OnBody (StandsNear octets) m
said_near version kind order octets m e = on_more (IsBack version octets) (StandsNear octets) (back_near version octets) m (message_back version kind order octets m e)
