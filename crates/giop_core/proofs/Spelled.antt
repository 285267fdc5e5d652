-- What is read of a message is spelled, and what is spelled is read, from the same of each type.
use Rattle.std.proofs.Common.{◌≡◌, ℕ, ◌+◌, Bool, true, false, cond, List, [], ◌∷◌, ◌++◌, length, Result, Ok, Err, refl, sym, ap, subst, ◌∙◌, append_assoc, length-append, arith}
use Rattle.cdr_core.specs.declared.order.Order.{Order}
use Rattle.cdr_core.specs.Form.{Form}
use Rattle.cdr_core.specs.Laws.{ReadIsSpelled, SpelledIsRead}
use Rattle.cdr_core.specs.Numbers.{padding}
use Rattle.cdr_core.specs.Reading.{Read, value_at}
use Rattle.cdr_core.specs.Spelling.{Takes}
use Rattle.cdr_core.specs.Value.{Value}
use Rattle.giop_core.specs.declared.error.MessageFault.{MessageFault}
use Rattle.giop_core.specs.declared.error.MessageFault.TheVariants.{BadAddressing}
use Rattle.giop_core.specs.Content.{Content, content}
use Rattle.giop_core.specs.Grammar.{SpellsFields}
use Rattle.giop_core.specs.Laws.{MessagesAreSpelled, SpelledMessagesAreRead}
use Rattle.giop_core.specs.Messages.{◌>>=◌, field_at, fields_at, is_unknown, unless_unknown, message_of, rest_at}
use Rattle.giop_core.specs.Rows.{row}

abbrev done : {A : Type 0} → A → Result A MessageFault
done x = Ok x

done_is : {A : Type 0} (x y : A) → done x ≡ done y → x ≡ y
done_is x y e = cc

bind_done : {A B : Type 0} (r : Result A MessageFault) (f : A → Result B MessageFault) (y : B) → (r >>= f) ≡ Ok y → (x : A) × (r ≡ Ok x) × (f x ≡ Ok y)
bind_done (Ok x) f y e = (x, refl, e)
bind_done (Err d) f y e = absurd cc

known : (b : Bool) (place : ℕ) (x y : Value × ℕ × List ℕ) → cond b (Err (BadAddressing place)) (done x) ≡ done y → (b ≡ false) × (x ≡ y)
known true place x y e = absurd cc
known false place x y e = (refl, done_is x y e)

pub known_well : (place : ℕ) (r : Read Value) (v : Value) (p : ℕ) (rest : List ℕ) → unless_unknown place r ≡ Ok (v, p, rest) → (r ≡ Ok (v, p, rest)) × (is_unknown v ≡ false)
known_well place (Err f) v p rest e = absurd cc
known_well place (Ok x) v p rest e =
    let k = known (is_unknown x.0) place x (v, p, rest) e in
    (ap (λ (y : Value × ℕ × List ℕ). Ok y) k.1, subst (λ (y : Value × ℕ × List ℕ). is_unknown y.0 ≡ false) k.1 k.0)

fields_found : ReadIsSpelled → (ts : List Form) (order : Order) (o : ℕ) (octets : List ℕ) (vs : List Value) (p : ℕ) (rest : List ℕ) → fields_at ts order o octets ≡ Ok (vs, p, rest) → Takes (SpellsFields ts order vs) o octets p rest
fields_found law [] order o octets vs p rest e =
    subst (λ (y : List Value × ℕ × List ℕ). Takes (SpellsFields [] order y.0) o octets y.1 y.2) (done_is ([], o, octets) (vs, p, rest) e) (record { front = []; parts = refl; place = omega arith; holds = refl })
fields_found law (t ∷ ts) order o octets vs p rest e =
    let a = bind_done (field_at t order o octets) (λ x. fields_at ts order x.1 x.2 >>= λ xs. Ok (x.0 ∷ xs.0, xs.1, xs.2)) (vs, p, rest) e in
    let b = bind_done (fields_at ts order a.0.1 a.0.2) (λ xs. Ok (a.0.0 ∷ xs.0, xs.1, xs.2)) (vs, p, rest) a.2 in
    let k = known_well (o + padding o 2) (value_at t order o octets) a.0.0 a.0.1 a.0.2 a.1 in
    let first = law t order o octets a.0.0 a.0.1 a.0.2 k.0 in
    let others = fields_found law ts order a.0.1 a.0.2 b.0.0 b.0.1 b.0.2 b.1 in
    subst (λ (y : List Value × ℕ × List ℕ). Takes (SpellsFields (t ∷ ts) order y.0) o octets y.1 y.2) (done_is (a.0.0 ∷ b.0.0, b.0.1, b.0.2) (vs, p, rest) b.2)
    (record {
      front = first.front ++ others.front;
      parts = first.parts ∙ ap (λ (ys : List ℕ). first.front ++ ys) others.parts ∙ sym (append_assoc first.front others.front b.0.2);
      place = omega (arith, first.place, others.place, length-append first.front others.front);
      holds = record { front = first.front; rest = others.front; parts = refl; first = (first.holds, k.1); second = subst (λ (q : ℕ). SpellsFields ts order b.0.0 q others.front) first.place others.holds };
    })

fields_only : SpelledIsRead → (ts : List Form) (order : Order) (o : ℕ) (vs : List Value) (front rest : List ℕ) → SpellsFields ts order vs o front → fields_at ts order o (front ++ rest) ≡ Ok (vs, o + length front, rest)
fields_only law [] order o [] front rest s =
    let here : o + 0 ≡ o = omega arith in
    rw (s, here) refl
fields_only law [] order o (v ∷ vs) front rest s = absurd s
fields_only law (t ∷ ts) order o [] front rest s = absurd s
fields_only law (t ∷ ts) order o (v ∷ vs) front rest s =
    let whole : front ++ rest ≡ s.front ++ (s.rest ++ rest) = ap (λ (ys : List ℕ). ys ++ rest) s.parts ∙ append_assoc s.front s.rest rest in
    let first = law t order v o s.front (s.rest ++ rest) s.first.0 in
    let others = fields_only law ts order (o + length s.front) vs s.rest rest s.second in
    let long : (o + length s.front) + length s.rest ≡ o + length front = omega (arith, ap length s.parts, length-append s.front s.rest) in
    rw (whole, first, s.first.1, others, long) refl

pub message_found : ReadIsSpelled → MessagesAreSpelled
unfolding message_of
message_found law version kind order octets m e =
    let a = bind_done (fields_at (row version kind) order 12 octets) (λ x. Ok (content version kind x.0 (rest_at version kind order x.1 x.2))) m e in
    let t = fields_found law (row version kind) order 12 octets a.0.0 a.0.1 a.0.2 a.1 in
    record {
      front = t.front;
      rest = a.0.2;
      fields = a.0.0;
      parts = t.parts;
      spelled = t.holds;
      says = subst (λ (q : ℕ). m ≡ content version kind a.0.0 (rest_at version kind order q a.0.2)) t.place (sym (done_is _ _ a.2));
    }

pub message_only : SpelledIsRead → SpelledMessagesAreRead
unfolding message_of
message_only law version kind order octets m s =
    rw (s.parts, fields_only law (row version kind) order 12 s.fields s.front s.rest s.spelled) (ap (λ (y : Content). Ok y) (sym s.says))
