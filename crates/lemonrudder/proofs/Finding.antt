-- Octets that were read lie in those that they were read from, after their length.
use Rattle.std.proofs.Common.{◌≡◌, ◌∙◌, ℕ, ◌+◌, ◌-◌, ◌^◌, ◌≤◌, Bool, true, false, nat_lt, ltb, if◌then◌else◌, List, [], ◌∷◌, ◌++◌, length, take, drop, Bor, Option, Some, None, Result, Ok, Err, refl, ap, sym, subst, arith, inl, inr, append_assoc, length-append, length-drop}
use Rattle.std.proofs.lemmas.Bool.{ltb-false}
use Rattle.std.proofs.lemmas.List.{drop_at, drop-drop}
use Rattle.std.proofs.Math.Seq.{take-append_seam}
use Rattle.cdr_core.specs.declared.order.Order.{Order}
use Rattle.cdr_core.specs.Cursor.{Position}
use Rattle.cdr_core.specs.Form.{Form}
use Rattle.cdr_core.specs.Laws.{ReadIsSpelled}
use Rattle.cdr_core.specs.Numbers.{padding}
use Rattle.cdr_core.specs.Parts.{raw, text}
use Rattle.cdr_core.specs.Reading.{Read, value_at}
use Rattle.cdr_core.specs.Spelling.{IsText}
use Rattle.cdr_core.specs.Value as value
use Rattle.cdr_core.specs.Value.{Value}
use Rattle.lemonrudder.specs.declared.cdr.Place.{Place}
use Rattle.lemonrudder.specs.declared.refusal.Refusal.{Refusal}
use Rattle.lemonrudder.specs.declared.refusal.Refusal.TheVariants as refusal
use Rattle.lemonrudder.specs.Finds.{Lends, LiesAt, behind_length}
use Rattle.lemonrudder.specs.Naming.{order_named}
use Rattle.lemonrudder.specs.Places.{before, outcome, position_at, read_at, read_in, standing}

-- a part lies behind what stands before it
behind : (front part rest octets : List ℕ) (start : ℕ) → octets ≡ (front ++ part) ++ rest → length front ≡ start → LiesAt start part octets
behind front part rest octets start is long =
    let whole : length octets ≡ (length front + length part) + length rest = ap length is ∙ length-append (front ++ part) rest ∙ ap (λ n. n + length rest) (length-append front part) in
    (omega arith, ap (λ xs. take (length part) (drop start xs)) (is ∙ append_assoc front part rest) ∙ ap (take (length part)) (drop_at front (part ++ rest) start long) ∙ take-append_seam part rest)

-- the same of a text, with the NUL after it
behind_text : (n : ℕ) (front string after rest octets : List ℕ) (o start : ℕ) → octets ≡ (front ++ after) ++ rest → length front ≡ start → IsText n string o after → LiesAt start string octets
behind_text n front string after rest octets o start is long (inl none) = behind front string rest octets start (is ∙ ap (λ xs. (front ++ xs) ++ rest) (none.2 ∙ sym none.1)) long
behind_text n front string after rest octets o start is long (inr some) =
    behind front string (0 ∷ rest) octets start (is ∙ ap (λ xs. (front ++ xs) ++ rest) some.2 ∙ ap (λ xs. xs ++ rest) (sym (append_assoc front string (0 ∷ []))) ∙ append_assoc (front ++ string) (0 ∷ []) rest) long

-- octets after some that were passed over
pub lies_past : (next skip : ℕ) (part octets : List ℕ) → next ≤ length octets → LiesAt skip part (drop next octets) → LiesAt (next + skip) part octets
lies_past next skip part octets le at =
    let left : length (drop next octets) ≡ length octets - next = length-drop next octets in
    let few : skip + length part ≤ length (drop next octets) = at.0 in
    (omega arith, ap (take (length part)) (sym (drop-drop skip next octets)) ∙ at.1)

pub octets_lie : ReadIsSpelled → (order : Order) (o : ℕ) (octets part : List ℕ) (p : ℕ) (rest : List ℕ) → value_at raw order o octets ≡ Ok (value.octets part, p, rest) → LiesAt (padding o 4 + 4) part octets
octets_lie law order o octets part p rest is =
    let t = law raw order o octets (value.octets part) p rest is in
    let i = t.holds.1 in
    behind i.front part rest octets (padding o 4 + 4) (t.parts ∙ ap (λ xs. xs ++ rest) (i.parts ∙ ap (λ xs. i.front ++ xs) i.second)) i.first.long

pub text_lies : ReadIsSpelled → (order : Order) (o : ℕ) (octets string : List ℕ) (p : ℕ) (rest : List ℕ) → value_at text order o octets ≡ Ok (value.string string, p, rest) → LiesAt (padding o 4 + 4) string octets
text_lies law order o octets string p rest is =
    let t = law text order o octets (value.string string) p rest is in
    let i = t.holds.2 in
    behind_text t.holds.1 i.front string i.rest rest octets (o + length i.front) (padding o 4 + 4) (t.parts ∙ ap (λ xs. xs ++ rest) i.parts) i.first.long i.second

-- where a place stands, if it stands in the octets
position_by : (place : Place) (octets : List ℕ) (p : Position) (a b : Bool) (o : Option Order) → ltb (length octets) place.next ≡ b → ◌≡◌ {A = Result Position Refusal} (Ok p) (if a then (if b then Err refusal.Range else standing place octets o) else Err refusal.Range)
    → (place.next ≤ length octets) × (p.place ≡ place.at + place.next) × (p.rest ≡ drop place.next octets)
position_by place octets p true false (Some order) within is =
    let same : p ≡ record { order = order; place = place.at + place.next; rest = drop place.next octets } = cc in
    (ltb-false _ _ within, ap (λ (x : Position). x.place) same, ap (λ (x : Position). x.rest) same)
position_by place octets p true false None within is = absurd cc
position_by place octets p true true o within is = absurd cc
position_by place octets p false b o within is = absurd cc

-- what was read where a place stands
pub lends : (view : List ℕ → Value) (t : Form) (place after : Place) (octets : List ℕ) (p : Position) (found : Bor (List ℕ)) (start q : ℕ) (rest : List ℕ) → ◌≡◌ {A = Result Position Refusal} (Ok p) (position_at place octets) → value_at t p.order p.place p.rest ≡ Ok (view found.now, q, rest)
    → after ≡ before place octets rest → start ≡ behind_length place → LiesAt (padding p.place 4 + 4) found.now p.rest → Lends view (read_at (value_at t) place octets) octets place after (Ok (start, found))
lends view t place after octets p found start q rest stands read follows at lies =
    let where_it_is = position_by place octets p (nat_lt (place.at + place.next) (2 ^ 32)) (nat_lt (length octets) place.next) (order_named place.order) refl stands in
    let there : LiesAt (padding (place.at + place.next) 4 + 4) found.now (drop place.next octets) = subst (λ n. LiesAt (padding n 4 + 4) found.now (drop place.next octets)) where_it_is.1 (subst (LiesAt (padding p.place 4 + 4) found.now) where_it_is.2 lies) in
    let here : LiesAt start found.now octets = subst (λ n. LiesAt n found.now octets) (sym at) (lies_past place.next (padding (place.at + place.next) 4 + 4) found.now octets where_it_is.0 there) in
    subst (λ (r : Result Position Refusal). Lends view (read_in (value_at t) place octets r) octets place after (Ok (start, found))) stands
    (subst (λ (r : Read Value). Lends view (outcome place octets r) octets place after (Ok (start, found))) (sym read) (follows, refl, at, here))
