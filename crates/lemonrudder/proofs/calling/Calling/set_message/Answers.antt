use Rattle.std.proofs.Common.{◌∙◌, ap}
use Rattle.giop_frames.specs.declared.limits.Limits.{Limits}
use Rattle.lemonrudder.proofs.Adjusting.{limited_as}
use Rattle.lemonrudder.proofs.calling.Calling.set_message.Goals as goal

pub returns : goal.returns
returns c = λ x st. limited_as c.args.value x.client.limits.partials c.in_ok-in_32_bits.field-0 c.from.result x c.limit.new.self c.limit.result c.in_ok-in_32_bits.ensures.ok.0 (c.from.ensures ∙ ap (λ (l : Limits). l.partials) (c.limits-partials.ensures x.client st.client)) (c.limit.ensures x st)
