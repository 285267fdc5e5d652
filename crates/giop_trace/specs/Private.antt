-- Words of private functions: what the code's own values stand for. No public contract cites them, and nobody has to read
-- them to know what is promised.
use Rattle.giop_trace.specs.declared.follow.Line.{Line}
use Rattle.giop_trace.specs.declared.follow.Line.TheVariants as line
use Rattle.giop_trace.specs.Following as follow

-- what the code's line is
abbrev pub line_seen : Line → follow.Line
line_seen line.Head = follow.head
line_seen (line.Gives sender octets) = follow.gives sender octets.items
line_seen line.Other = follow.other
