use Rattle.std.proofs.Common.{ap, refl}
use Rattle.std.proofs.lemmas.Result.{on_err_weaker, on_ok_weaker}
use Rattle.ft_objects.specs.Filling.{at}
use Rattle.ft_objects.specs.declared.object.Object.TheVariants.{Raw}
use Rattle.ft_objects.proofs.Filled.{at_both, ids_fresh, ids_of_objects, on_ok_two, raw_added, raw_now, raw_of_objects}
use Rattle.ft_objects.proofs.interfaces.Interfaces.add_raw_object.Goals as goal

pub returns-clause-ok : goal.returns-clause-ok
returns-clause-ok c = on_ok_weaker c.put.result (λ now. raw_added (at c.args.self.now.objects) (at c.put.new.map) c.args.key.now Raw now refl) c.put.ensures.ok

pub returns-clause-raw : goal.returns-clause-raw
returns-clause-raw c = on_ok_weaker c.put.result (λ now. raw_now (at c.args.self.now.objects) (at c.put.new.map) c.args.key.now Raw now) c.put.ensures.ok

pub returns-clause-raw_err : goal.returns-clause-raw_err
returns-clause-raw_err c = on_err_weaker c.put.result (λ same. ap raw_of_objects same) c.put.ensures.err

pub returns-clause-ids : goal.returns-clause-ids
returns-clause-ids c =
    at_both c.put.result (on_ok_two c.put.result (λ free now. ids_fresh (at c.args.self.now.objects) (at c.put.new.map) c.args.key.now Raw now free refl) c.put.ensures.free c.put.ensures.ok)
    (on_err_weaker c.put.result (λ same. ap ids_of_objects same) c.put.ensures.err)
