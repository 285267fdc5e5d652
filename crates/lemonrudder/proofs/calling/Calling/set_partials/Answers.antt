use Rattle.std.proofs.Common.{ap}
use Rattle.giop_frames.specs.declared.limits.Limits.{Limits}
use Rattle.lemonrudder.proofs.Adjusting.{limited_as}
use Rattle.lemonrudder.proofs.calling.Calling.set_partials.Goals as goal

pub returns : goal.returns
returns c = λ x st. limited_as x.client.limits.message c.args.value c.limits-message.result.message c.in_ok-in_32_bits.field-0 x c.limit.new.self c.limit.result (ap (λ (l : Limits). l.message) (c.limits-message.ensures x.client st.client)) c.in_ok-in_32_bits.ensures.ok.0 (c.limit.ensures x st)
