use Rattle.std.proofs.Common.{◌<◌, ◌^◌, map, take}
use Rattle.giop_types.specs.Tables.{TellNone, side_of}
use Rattle.giop_types.proofs.table.told_by.Given as goal

-- the signatures before this have no values of the body
abbrev pub invariant-loop-place : goal.invariant-loop-place
invariant-loop-place l = l.body.at < 2 ^ 32 → TellNone (take l.place (map (side_of l.part) l.known)) l.body
