use Rattle.std.proofs.Common.{◌∙◌, ap, sym}
use Rattle.ft_objects.specs.Filling.{at, offer_in}
use Rattle.ft_objects.proofs.Filled.{ids_gone, ids_of_objects, none_gone, offer_gone, raw_gone, raw_of_objects}
use Rattle.ft_objects.proofs.interfaces.Interfaces.remove.Goals as goal

pub returns-clause-offer : goal.returns-clause-offer
returns-clause-offer c = offer_gone (at c.args.self.now.objects) (at c.take.new.map) c.args.key.now c.take.ensures.gone

pub returns-clause-raw : goal.returns-clause-raw
returns-clause-raw c = raw_gone (at c.args.self.now.objects) (at c.take.new.map) c.args.key.now c.take.ensures.gone

pub returns-clause-ids : goal.returns-clause-ids
returns-clause-ids c = ids_gone (at c.args.self.now.objects) (at c.take.new.map) c.args.key.now c.take.ensures.gone

pub returns-clause-none : goal.returns-clause-none
returns-clause-none c = λ none.
    let same = none_gone (at c.args.self.now.objects) (at c.take.new.map) c.args.key.now c.take.ensures.gone (sym c.take.ensures.was ∙ none) in
    (ap offer_in (sym same), ap raw_of_objects (sym same), ap ids_of_objects (sym same))
