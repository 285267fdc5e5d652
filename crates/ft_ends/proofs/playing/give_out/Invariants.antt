use Rattle.std.proofs.Common.{◌≡◌, ℕ, ℤ, List, ◌++◌}
use Rattle.std.specs.VecDeque.{deque_len}
use Rattle.ft_client.specs.declared.ended.Ended.{Ended as CodeEnded}
use Rattle.ft_client.specs.Clients.{Client}
use Rattle.ft_client.specs.Standing.{FtStands}
use Rattle.ft_ends.proofs.Given.{IsGiven}
use Rattle.ft_ends.proofs.playing.give_out.Given as goal

-- so many of its completions were given
abbrev pub invariant-loop-id : goal.invariant-loop-id
invariant-loop-id l = record {
  given : (c : Client) → FtStands l.fn.client c → IsGiven l.place c l.client l.fn.out.items l.out.items;
  kept : (more : List (ℕ × ℤ × CodeEnded)) × (l.out.items ≡ l.fn.out.items ++ more);
}

abbrev pub decreases-loop-id : goal.decreases-loop-id
decreases-loop-id l = deque_len l.client.completions
