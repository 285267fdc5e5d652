use Rattle.std.proofs.Common.{map, subst, sym}
use Rattle.giop_core.specs.Items.{item_at}
use Rattle.ft_log.specs.View.{performed_in}
use Rattle.ft_orb.specs.Engines.{waits_in}
use Rattle.lemonrudder.specs.declared.serving.questions.Found.{Found}
use Rattle.lemonrudder.specs.Outcomes.{Answers, CanBe}
use Rattle.lemonrudder.specs.Tickets.{IsFound}
use Rattle.lemonrudder.proofs.serving.Serving.answer_found.Goals as goal

pub answer_asked-requires : goal.answer_asked-requires
answer_asked-requires c = record {
  found = subst (λ (f : Found). IsFound f (waits_in c.args.self.now.engine)) c.in-Waits.is c.requires.found;
  can = subst (λ (f : Found). CanBe f (performed_in c.args.outcome) c.args.self.now) c.in-Waits.is c.requires.can;
}

pub settle-requires : goal.settle-requires
settle-requires c = record {
  idle = subst (λ (f : Found). IsFound f (waits_in c.args.self.now.engine)) c.in-Parked.is c.requires.found;
  can = subst (λ (f : Found). CanBe f (performed_in c.args.outcome) c.args.self.now) c.in-Parked.is c.requires.can;
}

pub returns-in-Waits : goal.returns-in-Waits
returns-in-Waits c = subst (λ (f : Found). Answers f c.args.count (performed_in c.args.outcome) (map item_at c.args.contexts.now) c.args.self.now c.answer_asked.new.self c.answer_asked.result) (sym c.in-Waits.is) c.answer_asked.ensures

pub returns-in-Parked : goal.returns-in-Parked
returns-in-Parked c = subst (λ (f : Found). Answers f c.args.count (performed_in c.args.outcome) (map item_at c.args.contexts.now) c.args.self.now c.settle.new.self c.settle.result) (sym c.in-Parked.is) c.settle.ensures
