use Rattle.std.proofs.Common.{◌≡◌, ◌++◌, string_bytes}
use Rattle.giop_core.specs.Items.{contexts_left}
use Rattle.giop_text.specs.MessageLines as lines
use Rattle.giop_text.proofs.messages.put_contexts.Given as goal

-- the text and the lines of the contexts that are left are the first text and the lines of all
abbrev pub invariant-loop-id : goal.invariant-loop-id
invariant-loop-id l = string_bytes l.text ++ lines.context_lines (contexts_left l.id-iterator) ≡ string_bytes l.fn.text ++ lines.context_lines (contexts_left l.fn.contexts)
