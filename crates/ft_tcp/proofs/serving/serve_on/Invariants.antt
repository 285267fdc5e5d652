use Rattle.std.proofs.Common.{◌≡◌, ◌++◌, List, ℕ, length}
use Rattle.ft_orb.specs.History as history
use Rattle.ft_orb.specs.Outputs.{Made, table_says}
use Rattle.ft_orb.specs.Standing.{Stands}
use Rattle.ft_orb.specs.Wires.{IfKnown}
use Rattle.ft_tcp.specs.Visits.{AreVisits, Visit, moments_in, past_with_visits}
use Rattle.ft_tcp.proofs.serving.serve_on.Given as goal

-- as many visits were made as sockets were accepted
abbrev pub invariant-loop-i : goal.invariant-loop-i
invariant-loop-i g l = (made : Made g.row.S.Denot) (past : List history.Event) → Stands g.S.Servant.meaning made l.fn.server past → (visits : List Visit)
    × AreVisits made.limits g.S.Servant.meaning.knows (table_says g.S.Servant.meaning made) past 1 visits
    × Stands g.S.Servant.meaning made l.server (past_with_visits made.limits past 1 visits)
    × IfKnown (λ (before now : List ℕ). now ≡ before ++ moments_in visits) (g.C.Clock.given l.fn.clock) (g.C.Clock.given l.clock)
    × (length visits ≡ l.i)
