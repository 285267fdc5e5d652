use Rattle.std.proofs.Common.{ap, not, ◌∙◌}
use Rattle.ft_objects.proofs.Named.{none_is}
use Rattle.ft_log.specs.View.{performed_in}
use Rattle.lemonrudder.proofs.Handing.{answers-unsaid}
use Rattle.lemonrudder.proofs.serving.Serving.give.Goals as goal

pub returns-then-is_none : goal.returns-then-is_none
returns-then-is_none c =
    let s = c.args.self.now in
    answers-unsaid c.args.ticket c.args.found c.args.count (performed_in c.args.outcome) s c.answer_found.new.self c.answer_found.result (none_is s.setup.said (c.is_none.ensures ∙ ap not c.if-is_none.true)) c.answer_found.ensures
