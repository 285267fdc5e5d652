use Rattle.std.proofs.Common.{take}
use Rattle.cdr_core.specs.View.{forms_of}
use Rattle.lemonrudder.specs.Decoding.{HasRead}
use Rattle.lemonrudder.proofs.types.types_of.Given as goal

-- so many codes were read
abbrev pub invariant-loop-code : goal.invariant-loop-code
invariant-loop-code l = HasRead l.spelling.waits (forms_of l.spelling.types.items) (take l.code-index l.codes)
