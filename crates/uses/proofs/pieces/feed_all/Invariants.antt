use Rattle.std.proofs.Common.{◌≡◌, ◌++◌, List, map, reverse, take}
use Rattle.ft_orb.specs.History.{Event}
use Rattle.ft_orb.specs.Outputs.{Made, table_says}
use Rattle.ft_orb.specs.Standing.{Stands}
use Rattle.uses.specs.Pieces.{event_of, octets_for}
use Rattle.uses.proofs.pieces.feed_all.Given as goal

-- the pieces so far were fed
abbrev pub invariant-loop-piece : goal.invariant-loop-piece
invariant-loop-piece g l = (made : Made g.row.S.Denot) (past : List Event) → Stands g.S.Servant.meaning made l.fn.server past
    → (l.out.items ≡ l.fn.out.items ++ octets_for made.limits g.S.Servant.meaning.knows (table_says g.S.Servant.meaning made) past (map event_of (take l.piece-index l.pieces)))
    × Stands g.S.Servant.meaning made l.server (reverse (map event_of (take l.piece-index l.pieces)) ++ past)
