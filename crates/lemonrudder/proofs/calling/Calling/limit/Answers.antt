use Rattle.std.proofs.Common.{ap}
use Rattle.giop_frames.specs.declared.limits.Limits.{Limits}
use Rattle.lemonrudder.proofs.Adjusting.{limited}
use Rattle.lemonrudder.proofs.calling.Calling.limit.Goals as goal

pub returns : goal.returns
returns c = λ x st. limited c.args.message c.args.partials c.limits-cuts.result.cuts x c.make_with.new.self c.make_with.result c.version-version.result c.in_ok-limits.limits (c.version-version.ensures x.client st.client) (ap (λ (l : Limits). l.cuts) (c.limits-cuts.ensures x.client st.client)) c.in_ok-limits.ensures (c.make_with.ensures x st)
