use Rattle.std.proofs.Common.{inr, refl}
use Rattle.cdr_core.specs.View.{forms_of}
use Rattle.lemonrudder.proofs.Handing.{read-is}
use Rattle.lemonrudder.proofs.Idling.{not_so}
use Rattle.lemonrudder.proofs.serving.Serving.values.Goals as goal

pub are_values-requires : goal.are_values-requires
are_values-requires c = record { valid = c.requires.valid }

pub returns-then-not-are_values : goal.returns-then-not-are_values
returns-then-not-are_values c = inr (refl, λ vs there. not_so c.if-not-are_values.true (c.are_values.ensures.1 (vs, there)))

pub returns : goal.returns
returns c =
    rw c.of_outcome.ensures
    (read-is (forms_of c.args.types.now) c.args.order c.args.octets.now c.values_of.result (c.are_values.ensures.0 c.if-not-are_values.false) c.values_of.ensures.spelled (c.values_of.ensures.only c.requires.valid))
