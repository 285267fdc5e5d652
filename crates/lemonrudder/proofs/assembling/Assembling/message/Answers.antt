use Rattle.std.proofs.Common.{Ok, refl, subst}
use Rattle.lemonrudder.specs.Assembled.{Assembled}
use Rattle.lemonrudder.specs.Lends.{Tells}
use Rattle.lemonrudder.proofs.Lending.{tells-lent}
use Rattle.lemonrudder.proofs.assembling.Assembling.message.Goals as goal

pub returns-clause-told : goal.returns-clause-told
returns-clause-told c = (
  refl,
  subst (λ (s : Assembled). Tells s.assembler.message c.args.room.now c.tell.new.room (Ok 1)) c.self.view_is
      (tells-lent _ c.in-Some.message c.args.room.now c.tell.new.room c.head_of-head.result c.count_of_contexts.result c.in-Some.ensures.lent c.head_of-head.ensures c.count_of_contexts.ensures c.tell.ensures),
)
