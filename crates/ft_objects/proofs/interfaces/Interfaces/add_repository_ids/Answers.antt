use Rattle.std.proofs.Common.{◌≡◌, ◌∙◌, Some, ap, is_some, sym}
use Rattle.std.specs.Option.{option_copied_mut}
use Rattle.std.proofs.lemmas.Result.{on_err_weaker, on_ok_weaker}
use Rattle.ft_objects.specs.Filling.{at, changed, identified, ids_at}
use Rattle.ft_objects.proofs.Filled.{ids_kept, ids_now, offer_kept, operations_now, raw_kept}
use Rattle.ft_objects.proofs.Named.{at_changed}
use Rattle.ft_objects.proofs.interfaces.Interfaces.add_repository_ids.Goals as goal

pub returns-clause-ok : goal.returns-clause-ok
returns-clause-ok c =
    let was : at c.args.self.now.objects c.args.key.now ≡ Some c.in-Some.object.now = sym c.get_mut.ensures.value ∙ ap option_copied_mut c.in-Some.is in
    let up = (c.get_mut.follows.holds c.identify.new.self).3 (ap is_some was) in
    let now : at (c.get_mut.follows.lender c.identify.new.self) ≡ changed c.args.key.now (Some c.identify.new.self) (at c.args.self.now.objects) = at_changed c.args.self.now.objects (c.get_mut.follows.lender c.identify.new.self) c.args.key.now (Some c.identify.new.self) up.1 up.3 in
    on_ok_weaker c.identify.result (λ is. operations_now (at c.args.self.now.objects) (at (c.get_mut.follows.lender c.identify.new.self)) c.args.key.now c.identify.new.self now c.in-Some.object.now was identified is) c.identify.ensures.ok

pub returns-clause-err : goal.returns-clause-err
returns-clause-err c =
    let was : at c.args.self.now.objects c.args.key.now ≡ Some c.in-Some.object.now = sym c.get_mut.ensures.value ∙ ap option_copied_mut c.in-Some.is in
    let up = (c.get_mut.follows.holds c.identify.new.self).3 (ap is_some was) in
    let now : at (c.get_mut.follows.lender c.identify.new.self) ≡ changed c.args.key.now (Some c.identify.new.self) (at c.args.self.now.objects) = at_changed c.args.self.now.objects (c.get_mut.follows.lender c.identify.new.self) c.args.key.now (Some c.identify.new.self) up.1 up.3 in
    on_err_weaker c.identify.result (λ is. offer_kept (at c.args.self.now.objects) (at (c.get_mut.follows.lender c.identify.new.self)) c.args.key.now c.identify.new.self now c.in-Some.object.now was is) c.identify.ensures.err

pub returns-clause-raw : goal.returns-clause-raw
returns-clause-raw c =
    let was : at c.args.self.now.objects c.args.key.now ≡ Some c.in-Some.object.now = sym c.get_mut.ensures.value ∙ ap option_copied_mut c.in-Some.is in
    let up = (c.get_mut.follows.holds c.identify.new.self).3 (ap is_some was) in
    let now : at (c.get_mut.follows.lender c.identify.new.self) ≡ changed c.args.key.now (Some c.identify.new.self) (at c.args.self.now.objects) = at_changed c.args.self.now.objects (c.get_mut.follows.lender c.identify.new.self) c.args.key.now (Some c.identify.new.self) up.1 up.3 in
    raw_kept (at c.args.self.now.objects) (at (c.get_mut.follows.lender c.identify.new.self)) c.args.key.now c.identify.new.self now c.in-Some.object.now was c.identify.ensures.raw

pub returns-clause-named : goal.returns-clause-named
returns-clause-named c =
    let was : at c.args.self.now.objects c.args.key.now ≡ Some c.in-Some.object.now = sym c.get_mut.ensures.value ∙ ap option_copied_mut c.in-Some.is in
    let up = (c.get_mut.follows.holds c.identify.new.self).3 (ap is_some was) in
    let now : at (c.get_mut.follows.lender c.identify.new.self) ≡ changed c.args.key.now (Some c.identify.new.self) (at c.args.self.now.objects) = at_changed c.args.self.now.objects (c.get_mut.follows.lender c.identify.new.self) c.args.key.now (Some c.identify.new.self) up.1 up.3 in
    on_ok_weaker c.identify.result (λ is. ids_now (at c.args.self.now.objects) (at (c.get_mut.follows.lender c.identify.new.self)) c.args.key.now c.identify.new.self now ∙ ap (λ ids. changed c.args.key.now ids (λ k. ids_at (at c.args.self.now.objects k))) is) c.identify.ensures.named

pub returns-clause-kept : goal.returns-clause-kept
returns-clause-kept c =
    let was : at c.args.self.now.objects c.args.key.now ≡ Some c.in-Some.object.now = sym c.get_mut.ensures.value ∙ ap option_copied_mut c.in-Some.is in
    let up = (c.get_mut.follows.holds c.identify.new.self).3 (ap is_some was) in
    let now : at (c.get_mut.follows.lender c.identify.new.self) ≡ changed c.args.key.now (Some c.identify.new.self) (at c.args.self.now.objects) = at_changed c.args.self.now.objects (c.get_mut.follows.lender c.identify.new.self) c.args.key.now (Some c.identify.new.self) up.1 up.3 in
    on_err_weaker c.identify.result (λ is. ids_kept (at c.args.self.now.objects) (at (c.get_mut.follows.lender c.identify.new.self)) c.args.key.now c.identify.new.self now c.in-Some.object.now was is) c.identify.ensures.kept
