use Rattle.std.proofs.Common.{◌≡◌, ℤ, Some, None, w32, sym, ap, ◌∙◌}
use Rattle.std.specs.List.{find}
use Rattle.std.specs.Option.{option_map}
use Rattle.std.specs.Ordering.{int_eq}
use Rattle.std.proofs.lemmas.Int.{to_z-of_z}
use Rattle.std.proofs.lemmas.Result.{on_ok_weaker}
use Rattle.ft_ends.specs.declared.taken.Taken.{Taken as CodeTaken}
use Rattle.ft_ends.proofs.Noted.{redirected-by, unfound-is}
use Rattle.ft_ends.proofs.post.redirected.Goals as goal

pub returns-in_default : goal.returns-in_default
returns-in_default c = λ m calls stands are called.
    let taken = c.args.post.now.taken.items in
    let same = to_z-of_z w32 c.args.id c.ranges.id in
    let none : find (λ x. int_eq x.number c.args.id) taken ≡ None = ap (λ (z : ℤ). find (λ (x : CodeTaken). int_eq x.number z) taken) (sym same) ∙ sym c.find.ensures ∙ ap (option_map (λ t. t.now)) c.in_default.is in
    unfound-is c.args.client.now m calls taken c.args.id c.args.object_key.now stands are called none

pub returns : goal.returns
returns c = on_ok_weaker c.after_redirect.result (λ refusal m calls stands are called.
    let taken = c.args.post.now.taken.items in
    let same = to_z-of_z w32 c.args.id c.ranges.id in
    let one = c.in-Some.one.now in
    let there : find (λ x. int_eq x.number c.args.id) taken ≡ Some one = ap (λ (z : ℤ). find (λ (x : CodeTaken). int_eq x.number z) taken) (sym same) ∙ sym c.find.ensures ∙ ap (option_map (λ t. t.now)) c.in-Some.is in
    redirected-by c.args.client.now m calls taken c.args.id c.args.object_key.now stands are called one there _ c.deref.result.now c.deref-2.result.now same c.deref.ensures.value c.deref-2.ensures.value c.redirect.new.self c.redirect.result
    (c.redirect.ensures.fitting, c.redirect.ensures.stands, c.redirect.ensures.err) c.redirect.ensures.same refusal) c.after_redirect.ensures.ok
