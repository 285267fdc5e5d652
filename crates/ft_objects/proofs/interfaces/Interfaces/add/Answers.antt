use Rattle.std.proofs.Common.{◌≡◌, ◌∙◌, ℕ, List, Some, ap, is_some, sym}
use Rattle.std.specs.Option.{option_copied_mut}
use Rattle.std.proofs.lemmas.Result.{on_err_weaker, on_ok_weaker}
use Rattle.ft_objects.specs.Filling.{at, changed, offered_in}
use Rattle.ft_objects.specs.Interfaces.{Interface}
use Rattle.ft_objects.proofs.Filled.{ids_kept, offer_kept, operations_now, raw_kept}
use Rattle.ft_objects.proofs.Named.{at_changed}
use Rattle.ft_objects.proofs.interfaces.Interfaces.add.Goals as goal

pub returns-in-Some-clause-ok : goal.returns-in-Some-clause-ok
returns-in-Some-clause-ok c =
    let was : at c.args.self.now.objects c.args.key.now ≡ Some c.in-Some.object.now = sym c.get_mut.ensures.value ∙ ap option_copied_mut c.in-Some.is in
    let up = (c.get_mut.follows.holds c.add.new.self).3 (ap is_some was) in
    let now : at (c.get_mut.follows.lender c.add.new.self) ≡ changed c.args.key.now (Some c.add.new.self) (at c.args.self.now.objects) = at_changed c.args.self.now.objects (c.get_mut.follows.lender c.add.new.self) c.args.key.now (Some c.add.new.self) up.1 up.3 in
    on_ok_weaker c.add.result (λ is. operations_now (at c.args.self.now.objects) (at (c.get_mut.follows.lender c.add.new.self)) c.args.key.now c.add.new.self now c.in-Some.object.now was (λ (f : List ℕ → Interface). changed c.args.name.now (offered_in (Some c.args.operation)) f) is) c.add.ensures.ok

pub returns-in-Some-clause-err : goal.returns-in-Some-clause-err
returns-in-Some-clause-err c =
    let was : at c.args.self.now.objects c.args.key.now ≡ Some c.in-Some.object.now = sym c.get_mut.ensures.value ∙ ap option_copied_mut c.in-Some.is in
    let up = (c.get_mut.follows.holds c.add.new.self).3 (ap is_some was) in
    let now : at (c.get_mut.follows.lender c.add.new.self) ≡ changed c.args.key.now (Some c.add.new.self) (at c.args.self.now.objects) = at_changed c.args.self.now.objects (c.get_mut.follows.lender c.add.new.self) c.args.key.now (Some c.add.new.self) up.1 up.3 in
    on_err_weaker c.add.result (λ is. offer_kept (at c.args.self.now.objects) (at (c.get_mut.follows.lender c.add.new.self)) c.args.key.now c.add.new.self now c.in-Some.object.now was is) c.add.ensures.err

pub returns-in-Some-clause-raw : goal.returns-in-Some-clause-raw
returns-in-Some-clause-raw c =
    let was : at c.args.self.now.objects c.args.key.now ≡ Some c.in-Some.object.now = sym c.get_mut.ensures.value ∙ ap option_copied_mut c.in-Some.is in
    let up = (c.get_mut.follows.holds c.add.new.self).3 (ap is_some was) in
    let now : at (c.get_mut.follows.lender c.add.new.self) ≡ changed c.args.key.now (Some c.add.new.self) (at c.args.self.now.objects) = at_changed c.args.self.now.objects (c.get_mut.follows.lender c.add.new.self) c.args.key.now (Some c.add.new.self) up.1 up.3 in
    raw_kept (at c.args.self.now.objects) (at (c.get_mut.follows.lender c.add.new.self)) c.args.key.now c.add.new.self now c.in-Some.object.now was c.add.ensures.raw

pub returns-in-Some-clause-ids : goal.returns-in-Some-clause-ids
returns-in-Some-clause-ids c =
    let was : at c.args.self.now.objects c.args.key.now ≡ Some c.in-Some.object.now = sym c.get_mut.ensures.value ∙ ap option_copied_mut c.in-Some.is in
    let up = (c.get_mut.follows.holds c.add.new.self).3 (ap is_some was) in
    let now : at (c.get_mut.follows.lender c.add.new.self) ≡ changed c.args.key.now (Some c.add.new.self) (at c.args.self.now.objects) = at_changed c.args.self.now.objects (c.get_mut.follows.lender c.add.new.self) c.args.key.now (Some c.add.new.self) up.1 up.3 in
    ids_kept (at c.args.self.now.objects) (at (c.get_mut.follows.lender c.add.new.self)) c.args.key.now c.add.new.self now c.in-Some.object.now was c.add.ensures.ids
