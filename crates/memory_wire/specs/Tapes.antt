-- What a tape says of a wire.
use Rattle.std.specs.Prelude.{List, map, Option}
use Rattle.std.specs.Option.{option_map}
use Rattle.std.proofs.Common.{Vec, Global}
use Rattle.ft_orb.specs.Wires.{Act, Gave, GaveNone, ReadFailed, Took, TookNone, WriteFailed}
use Rattle.memory_wire.specs.declared.tape.Act.{Act as CodeAct}
use Rattle.memory_wire.specs.declared.tape.Act.TheVariants as code

-- an act of the code, without where its octets lie in memory
abbrev pub act_of : CodeAct → Act
act_of (code.Gave octets) = Gave octets.items
act_of code.GaveNone = GaveNone
act_of code.ReadFailed = ReadFailed
act_of (code.Took octets) = Took octets.items
act_of code.TookNone = TookNone
act_of code.WriteFailed = WriteFailed

-- the acts of a tape; nothing is said where there is none
abbrev pub said_by : Option (Vec CodeAct Global) → Option (List Act)
said_by tape = option_map (λ acts. map act_of acts.items) tape
