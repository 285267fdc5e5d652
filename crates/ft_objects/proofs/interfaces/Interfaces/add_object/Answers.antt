use Rattle.std.proofs.Common.{ap}
use Rattle.std.proofs.lemmas.Result.{on_err_weaker, on_ok_weaker}
use Rattle.ft_objects.specs.Filling.{at}
use Rattle.ft_objects.proofs.Filled.{at_both, ids_fresh, ids_of_objects, object_added, on_ok_two, raw_fresh, raw_of_objects}
use Rattle.ft_objects.proofs.interfaces.Interfaces.add_object.Goals as goal

pub returns-clause-ok : goal.returns-clause-ok
returns-clause-ok c = on_ok_weaker c.put.result (λ now. object_added (at c.args.self.now.objects) (at c.put.new.map) c.args.key.now c.new-object.result now c.new-object.ensures.operations) c.put.ensures.ok

pub returns-clause-raw : goal.returns-clause-raw
returns-clause-raw c =
    at_both c.put.result (on_ok_two c.put.result (λ free now. raw_fresh (at c.args.self.now.objects) (at c.put.new.map) c.args.key.now c.new-object.result now free c.new-object.ensures.raw) c.put.ensures.free c.put.ensures.ok)
    (on_err_weaker c.put.result (λ same. ap raw_of_objects same) c.put.ensures.err)

pub returns-clause-ids : goal.returns-clause-ids
returns-clause-ids c =
    at_both c.put.result (on_ok_two c.put.result (λ free now. ids_fresh (at c.args.self.now.objects) (at c.put.new.map) c.args.key.now c.new-object.result now free c.new-object.ensures.ids) c.put.ensures.free c.put.ensures.ok)
    (on_err_weaker c.put.result (λ same. ap ids_of_objects same) c.put.ensures.err)
