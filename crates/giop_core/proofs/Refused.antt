-- What is refused stops by the grammar, and what stops is refused, from the same of each type.
use Rattle.std.proofs.Common.{◌≡◌, ◌≢◌, ℕ, ◌+◌, ℤ, pos, Bool, true, false, cond, List, [], ◌∷◌, ◌++◌, length, Result, Ok, Err, ◌⊎◌, inl, inr, refl, sym, ap, subst, ◌∙◌, append_assoc}
use Rattle.std.proofs.lemmas.Bool.Decides.{Decides-int_eq}
use Rattle.std.proofs.lemmas.List.{append-nil}
use Rattle.std.specs.Ordering.{int_eq}
use Rattle.cdr_core.specs.declared.order.Order.{Order}
use Rattle.cdr_core.specs.Form.{Form}
use Rattle.cdr_core.specs.Laws.{FaultsStop, ReadIsSpelled, SpelledIsRead, StopsAreFaults}
use Rattle.cdr_core.specs.Numbers.{padding}
use Rattle.cdr_core.specs.Reading.{Read, value_at}
use Rattle.cdr_core.specs.Parts.{short, short_value}
use Rattle.cdr_core.specs.Spelling.{Chosen, InTurn, Spells, Takes}
use Rattle.cdr_core.specs.Value as value
use Rattle.cdr_core.specs.Value.{Value}
use Rattle.giop_core.specs.declared.error.MessageFault.{MessageFault}
use Rattle.giop_core.specs.declared.error.MessageFault.TheVariants.{BadAddressing, Cdr}
use Rattle.giop_core.specs.Content.{content}
use Rattle.giop_core.specs.Grammar.{StopsField, StopsInFields}
use Rattle.giop_core.specs.Laws.{RefusedMessagesStop, StoppingMessagesAreRefused, UnknownTargetsStop}
use Rattle.giop_core.specs.Messages.{◌>>=◌, field_at, fields_at, is_unknown, message_of, rest_at, unless_unknown}
use Rattle.giop_core.specs.Rows.{row, target}
use Rattle.giop_core.proofs.Choices.{unequal}
use Rattle.giop_core.proofs.Spelled.{known_well}

abbrev failed : {A : Type 0} → MessageFault → Result A MessageFault
failed f = Err f

failed_is : {A : Type 0} (f g : MessageFault) → failed {A = A} f ≡ failed g → f ≡ g
failed_is f g e = cc

-- two steps fail where the first does, or the second after it
bind_fails : {A B : Type 0} (r : Result A MessageFault) (g : A → Result B MessageFault) (f : MessageFault) → (r >>= g) ≡ Err f → (r ≡ Err f) ⊎ ((x : A) × (r ≡ Ok x) × (g x ≡ Err f))
bind_fails {A} {B} (Err d) g f e = inl (ap (λ (h : MessageFault). Err h) (failed_is {A = B} d f e))
bind_fails (Ok x) g f e = inr (x, refl, e)

unknown_is : (v : Value) → is_unknown v ≡ true → (d : Value) × (v ≡ value.union d value.no_values)
unknown_is (value.union d value.no_values) e = (d, refl)
unknown_is (value.union d (value.value v vs)) e = absurd cc
unknown_is _ e = absurd cc

-- a front of the octets is A
begins_so : (A : ℕ → List ℕ → Type 0) (o : ℕ) (octets : List ℕ) (p : ℕ) (rest : List ℕ) → Takes A o octets p rest → InTurn A (λ _ _. Unit {0}) o octets
begins_so A o octets p rest t = record { front = t.front; rest = rest; parts = t.parts; first = t.holds; second = tt }

known_fails : (b : Bool) (place : ℕ) (x : Value × ℕ × List ℕ) (f : MessageFault) → cond b (Err (BadAddressing place)) (Ok x) ≡ failed f → (b ≡ true) × (BadAddressing place ≡ f)
known_fails true place x f e = (refl, failed_is {A = Value × ℕ × List ℕ} (BadAddressing place) f e)
known_fails false place x f e = absurd cc

module _ (t : Form) (order : Order) (o : ℕ) (octets : List ℕ) where
  unless_stops : FaultsStop → ReadIsSpelled → (r : Read Value) → value_at t order o octets ≡ r → (f : MessageFault) → unless_unknown (o + padding o 2) r ≡ Err f → StopsField t order o octets f
  unless_stops law found (Err g) is f e = subst (StopsField t order o octets) (failed_is {A = Value × ℕ × List ℕ} (Cdr g) f e) (law t order o octets g is)
  unless_stops law found (Ok x) is f e =
      let k = known_fails (is_unknown x.0) (o + padding o 2) x f e in
      let u = unknown_is x.0 k.0 in
      let taken = found t order o octets x.0 x.1 x.2 is in
      let here = begins_so (Spells t order x.0) o octets x.1 x.2 taken in
      subst (StopsField t order o octets) k.1 (u.0, subst (λ (v : Value). InTurn (Spells t order v) (λ _ _. Unit {0}) o octets) u.1 here, refl)

  field_stops : FaultsStop → ReadIsSpelled → (f : MessageFault) → field_at t order o octets ≡ Err f → StopsField t order o octets f
  field_stops law found f e = unless_stops law found (value_at t order o octets) refl f e

  field_refused : StopsAreFaults → SpelledIsRead → (f : MessageFault) → StopsField t order o octets f → field_at t order o octets ≡ Err f
  field_refused law only (Cdr g) h = ap (unless_unknown (o + padding o 2)) (law t order o octets g h)
  field_refused law only (BadAddressing place) h =
      let turn = h.1 in
      let read : value_at t order o octets ≡ Ok (value.union h.0 value.no_values, o + length turn.front, turn.rest) =
      ap (value_at t order o) turn.parts ∙ only t order (value.union h.0 value.no_values) o turn.front turn.rest turn.first in
      ap (unless_unknown (o + padding o 2)) read ∙ ap (λ (n : ℕ). Err (BadAddressing n)) (sym h.2)

fields_stop : FaultsStop → ReadIsSpelled → (ts : List Form) (order : Order) (o : ℕ) (octets : List ℕ) (f : MessageFault) → fields_at ts order o octets ≡ Err f → StopsInFields ts order o octets f
fields_stop law found [] order o octets f e = absurd cc
fields_stop law found (t ∷ ts) order o octets f e =
    elim (bind_fails (field_at t order o octets) (λ x. fields_at ts order x.1 x.2 >>= λ xs. Ok (x.0 ∷ xs.0, xs.1, xs.2)) f e) [
      | inl h ↦ inl (field_stops t order o octets law found f h)
      | inr b ↦
          (let k = known_well (o + padding o 2) (value_at t order o octets) b.0.0 b.0.1 b.0.2 b.1 in
          let taken = found t order o octets b.0.0 b.0.1 b.0.2 k.0 in
          elim (bind_fails (fields_at ts order b.0.1 b.0.2) (λ xs. Ok (b.0.0 ∷ xs.0, xs.1, xs.2)) f b.2) [
            | inl h ↦ inr (
              b.0.0,
              record {
                front = taken.front;
                rest = b.0.2;
                parts = taken.parts;
                first = (taken.holds, k.1);
                second = subst (λ (p : ℕ). StopsInFields ts order p b.0.2 f) taken.place (fields_stop law found ts order b.0.1 b.0.2 f h);
              },
            )
            | inr d ↦ absurd (ended d.2)
          ])
    ]
  where
    ended : {A : Type 0} {x : A} {f : MessageFault} → ◌≡◌ {A = Result A MessageFault} (Ok x) (Err f) → ⊥
    ended e = cc

fields_refused : StopsAreFaults → SpelledIsRead → (ts : List Form) (order : Order) (o : ℕ) (octets : List ℕ) (f : MessageFault) → StopsInFields ts order o octets f → fields_at ts order o octets ≡ Err f
fields_refused law only [] order o octets f h = absurd h
fields_refused law only (t ∷ ts) order o octets f (inl h) = rw (field_refused t order o octets law only f h) refl
fields_refused law only (t ∷ ts) order o octets f (inr (v, turn)) =
    rw (turn.parts, only t order v o turn.front turn.rest turn.first.0, turn.first.1, fields_refused law only ts order (o + length turn.front) turn.rest f turn.second) refl

pub message_stops : FaultsStop → ReadIsSpelled → RefusedMessagesStop
unfolding message_of
message_stops law found version kind order octets f e =
    elim (bind_fails (fields_at (row version kind) order 12 octets) (λ x. Ok (content version kind x.0 (rest_at version kind order x.1 x.2))) f e) [
      | inl h ↦ fields_stop law found (row version kind) order 12 octets f h
      | inr b ↦ absurd cc
    ]

pub message_refused : StopsAreFaults → SpelledIsRead → StoppingMessagesAreRefused
unfolding message_of
message_refused law only version kind order octets f h = rw (fields_refused law only (row version kind) order 12 octets f h) refl

-- a target whose discriminator is unknown

not_chosen : (b : Bool) (A : Type 0) → Chosen b ⊥ A → (b ≡ false) × A
not_chosen true A h = absurd h
not_chosen false A h = (refl, h)

differs : (k z : ℤ) → int_eq k z ≡ false → z ≢ k
differs k z e is = clash e ((Decides-int_eq k z).1 (sym is))
  where
    clash : {b : Bool} → b ≡ false → b ≡ true → ⊥
    clash e f = cc

module _ (order : Order) (o : ℕ) (octets : List ℕ) where
  unknown_short : (d : Value) → InTurn (Spells target order (value.union d value.no_values)) (λ _ _. Unit {0}) o octets
      → (z : ℤ) × (z ≢ pos 0) × (z ≢ pos 1) × (z ≢ pos 2) × InTurn (Spells short order (short_value z)) (λ _ _. Unit {0}) o octets
  unknown_short (value.number same z) h =
      let a = not_chosen (int_eq (pos 0) z) _ h.first.second in
      let b = not_chosen (int_eq (pos 1) z) _ a.1 in
      let c = not_chosen (int_eq (pos 2) z) _ b.1 in (
        z,
        differs (pos 0) z a.0,
        differs (pos 1) z b.0,
        differs (pos 2) z c.0,
        record {
          front = h.first.front;
          rest = h.first.rest ++ h.rest;
          parts = h.parts ∙ ap (λ xs. xs ++ h.rest) h.first.parts ∙ append_assoc h.first.front h.first.rest h.rest;
          first = (refl, h.first.first.1, h.first.first.2, h.first.first.3);
          second = tt;
        },
      )
  unknown_short _ h = absurd h.first.first

  short_unknown : (z : ℤ) → z ≢ pos 0 → z ≢ pos 1 → z ≢ pos 2 → InTurn (Spells short order (short_value z)) (λ _ _. Unit {0}) o octets
      → InTurn (Spells target order (value.union (short_value z) value.no_values)) (λ _ _. Unit {0}) o octets
  short_unknown z n0 n1 n2 h = record {
    front = h.front;
    rest = h.rest;
    parts = h.parts;
    first = record { front = h.front; rest = []; parts = sym (append-nil h.front); first = h.first; second = rw (unequal (pos 0) z n0, unequal (pos 1) z n1, unequal (pos 2) z n2) refl };
    second = tt;
  }

pub unknown_target : UnknownTargetsStop
unknown_target order o octets place = (
  (λ h. let u = unknown_short order o octets h.0 h.1 in (u.0, u.1, u.2, u.3, u.4, h.2)),
  (λ h. (short_value h.0, short_unknown order o octets h.0 h.1 h.2 h.3 h.4, h.5)),
)
