-- The lines that show a stream.
use Rattle.std.specs.Prelude.{ℕ, List, [], flat_map, Result, Ok, Err}
use Rattle.cdr_core.specs.declared.order.Order.{Order}
use Rattle.giop_core.specs.declared.header.Version.{Version}
use Rattle.giop_core.specs.Content.{Content}
use Rattle.giop_frames.specs.declared.limits.Limits.{Limits}
use Rattle.giop_frames.specs.Fragments.{content_of}
use Rattle.giop_frames.specs.Streams.{messages_of, Completed}
use Rattle.giop_text.specs.MessageLines.{message_lines}

abbrev pub lines_by : {E : Type 0} → Version → Order → Result Content E → List ℕ
lines_by version order (Ok content) = message_lines version order content
lines_by version order (Err fault) = []

-- the lines of a message of a stream, joined
abbrev pub completed_lines : Completed → List ℕ
completed_lines t = lines_by t.message.header.version t.message.header.order (content_of t.message.header t.message.octets)

-- the lines of a stream's messages
abbrev pub stream_lines : Limits → List ℕ → List ℕ
stream_lines limits s = flat_map completed_lines (messages_of limits s)
