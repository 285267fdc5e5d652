use Rattle.std.proofs.Common.{is_some, ap, ◌∙◌}
use Rattle.giop_frames.proofs.Found.{place-is_some}
use Rattle.giop_frames.proofs.partial.Part.is_among.Goals as goal

pub returns : goal.returns
returns c = c.is_some.ensures ∙ ap is_some c.place.ensures ∙ place-is_some c.args.key c.args.parts.now
