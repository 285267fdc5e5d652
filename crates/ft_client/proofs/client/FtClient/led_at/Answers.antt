use Rattle.std.proofs.Common.{◌≡◌, ◌<◌, ℤ, List, Some, None, false, not, w32, subst, refl, sym, ap, ◌∙◌}
use Rattle.std.specs.Int.{FitsUnsignedBits}
use Rattle.std.specs.List.{position}
use Rattle.std.specs.Ordering.{int_eq}
use Rattle.std.proofs.Math.IntN.{nat_abs}
use Rattle.std.proofs.lemmas.Int.{to_z-of_z}
use Rattle.ft_client.specs.declared.pending.Pending.{Pending as CodePending}
use Rattle.ft_client.specs.Calling.{is_led}
use Rattle.ft_client.proofs.Places.{find_is, none_there}
use Rattle.ft_client.proofs.Redirecting.{found_by, is_led_by, led_at, none_negative, number_low}
use Rattle.ft_client.proofs.client.FtClient.led_at.Goals as goal

pub returns-in_default-clause-err : goal.returns-in_default-clause-err
returns-in_default-clause-err c = λ m st.
    let s = c.args.self.now in
    let e : position (λ p. int_eq p.id c.args.id) s.pending.items ≡ None = ap (λ (ps : List CodePending). position (λ p. int_eq p.id c.args.id) ps) (sym c.as_slice.ensures.value) ∙ ap (λ (z : ℤ). position (λ (p : CodePending). int_eq p.id z) c.as_slice.result.now) (sym (to_z-of_z w32 c.args.id c.ranges.id)) ∙ sym c.place_of.ensures ∙ c.in_default.is in
    (refl, ap is_led (find_is c.args.id m.pending ∙ none_there m.version m.client_id (λ k. int_eq k.id c.args.id) s.pending.items m.pending e st.fields.pending))

pub returns-in_default-try_from-clause-err : goal.returns-in_default-try_from-clause-err
returns-in_default-try_from-clause-err c = λ m st.
    let same = to_z-of_z w32 c.args.id c.ranges.id in
    (refl, ap is_led (none_negative c.args.id c.ranges.id (λ fits. c.in_default-try_from.ensures (subst (λ z. FitsUnsignedBits 32 z) (sym same) fits)) m.pending))

pub returns-then-is_none-clause-err : goal.returns-then-is_none-clause-err
returns-then-is_none-clause-err c = λ m st.
    let s = c.args.self.now in
    let e : position (λ p. int_eq p.id c.args.id) s.pending.items ≡ Some c.in-Some.place = ap (λ (ps : List CodePending). position (λ p. int_eq p.id c.args.id) ps) (sym c.as_slice.ensures.value) ∙ ap (λ (z : ℤ). position (λ (p : CodePending). int_eq p.id z) c.as_slice.result.now) (sym (to_z-of_z w32 c.args.id c.ranges.id)) ∙ sym c.place_of.ensures ∙ c.in-Some.is in
    let f = found_by c.args.id s m c.in-Some.place c.index.result.now st.fields e c.index.ensures in
    (refl, ap is_led f.find ∙ is_led_by c.args.id s m c.in-Some.place c.index.result.now false f (c.is_none.ensures ∙ ap not c.if-is_none.true))

pub returns-clause-low : goal.returns-clause-low
returns-clause-low c =
    let same = to_z-of_z w32 c.args.id c.ranges.id in
    let h = c.in-Ok.ensures in
    subst (λ n. n < 2147483648) (sym (h.1 ∙ ap nat_abs same)) (number_low c.args.id c.ranges.id (subst (λ z. FitsUnsignedBits 32 z) same h.0))

pub returns-clause-found : goal.returns-clause-found
returns-clause-found c = λ m st.
    let s = c.args.self.now in
    let same = to_z-of_z w32 c.args.id c.ranges.id in
    let e : position (λ p. int_eq p.id c.args.id) s.pending.items ≡ Some c.in-Some.place = ap (λ (ps : List CodePending). position (λ p. int_eq p.id c.args.id) ps) (sym c.as_slice.ensures.value) ∙ ap (λ (z : ℤ). position (λ (p : CodePending). int_eq p.id z) c.as_slice.result.now) (sym same) ∙ sym c.place_of.ensures ∙ c.in-Some.is in
    let d = c.index.result.now in
    led_at c.args.id s m c.in-Some.place d c.in-Ok.number (found_by c.args.id s m c.in-Some.place d st e c.index.ensures) st (c.is_none.ensures ∙ ap not c.if-is_none.false) (c.in-Ok.ensures.1 ∙ ap nat_abs same)
