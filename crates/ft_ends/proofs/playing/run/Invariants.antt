use Rattle.std.proofs.Common.{◌≤◌, List, map, take}
use Rattle.ft_client.specs.Standing.{down}
use Rattle.ft_orb.specs.Outputs.{Made}
use Rattle.ft_ends.specs.Laws.{sides_of}
use Rattle.ft_ends.specs.Playing.{given_of, step_as}
use Rattle.ft_ends.specs.Private.{AreSet, Runs}
use Rattle.ft_ends.specs.World.{Newcomer, world}
use Rattle.ft_ends.proofs.playing.run.Given as goal

-- all of it stands for the world of the steps so far
abbrev pub invariant-loop-i : goal.invariant-loop-i
invariant-loop-i g l = record {
  few : l.opened ≤ l.i;
  runs : (made : Made g.row.S.Denot) (newcomers : List Newcomer) → AreSet g.S.Servant.meaning made newcomers l.fn.server l.fn.clients l.fn.posts
      → Runs g.S.Servant.meaning made l.server l.opened l.clients l.posts (map given_of l.fn.out.items) l.out.items (world (sides_of g.S.Servant.meaning made down) newcomers (map step_as (take l.i l.steps)));
}
