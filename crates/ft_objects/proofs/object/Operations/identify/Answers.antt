use Rattle.std.proofs.Common.{◌≡◌, ◌∙◌, ℕ, List, Option, Some, None, ap, sym}
use Rattle.ft_objects.specs.Adding.{AreAbsent}
use Rattle.ft_objects.specs.Filling.{at, changed, is_a_name, non_existent_name}
use Rattle.ft_objects.specs.declared.object.Offered.{Offered}
use Rattle.ft_objects.proofs.Named.{changed_back, led_twice, none_is, why_put}
use Rattle.ft_objects.proofs.object.Operations.identify.Goals as goal

pub returns-in-Err-clause-why : goal.returns-in-Err-clause-why
returns-in-Err-clause-why c =
    let absent : at c.args.self.now.by_name non_existent_name ≡ None = none_is (at c.args.self.now.by_name non_existent_name) (sym c.contains_key-else-contains_key.ensures ∙ c.if-contains_key-2.false) in
    why_put (at c.put.new.map non_existent_name) (AreAbsent (at c.args.self.now.by_name)) c.in-Err.error
    (ap (λ (f : List ℕ → Option Offered). f non_existent_name) c.in_ok-put.ensures.ok ∙ absent) (c.in_ok-put.ensures.free, absent) c.in-Err.ensures.why

pub returns-in-Err-clause-err : goal.returns-in-Err-clause-err
returns-in-Err-clause-err c =
    c.take.ensures.gone ∙ (ap (λ (f : List ℕ → Option Offered). changed is_a_name None f) (c.in-Err.ensures.err ∙ c.in_ok-put.ensures.ok)
    ∙ changed_back (at c.args.self.now.by_name) is_a_name None (Some c.in-Ok.is_a) c.in_ok-put.ensures.free)

pub returns-clause-ok : goal.returns-clause-ok
returns-clause-ok c =
    led_twice (at c.args.self.now.by_name) (at c.put.new.map) (at c.put-2.new.map) c.in-Ok.is_a c.in-Ok-non_existent.non_existent c.in_ok-put.ensures.ok c.in_default-put.ensures.ok c.in-Ok.ensures c.in-Ok-non_existent.ensures
