use Rattle.std.proofs.Common.{◌≡◌, ◌≤◌, ◌+◌, ◌-◌, false, length, take, vec_len}
use Rattle.std.specs.VecDeque.{deque_capacity, deque_len}
use Rattle.ft_client.specs.Clients.{Client, Linked}
use Rattle.ft_client.specs.Private.{CallsStand, IsFedTo}
use Rattle.ft_client.specs.Standing.{IsLinked}
use Rattle.ft_client.proofs.feeding.feed_on.Given as goal

-- the octets that were taken were fed, and the link goes on, whichever client it was
abbrev pub invariant-loop-taken : goal.invariant-loop-taken
invariant-loop-taken l = record {
  within : l.taken ≤ length l.piece;
  room : deque_len l.completions + vec_len l.pending ≤ deque_capacity l.completions;
  few : vec_len l.pending ≤ vec_len l.fn.pending;
  goes : (m : Client) (k : Linked) → m.keeps_transient ≡ l.fn.keeps → m.keeps_forwards ≡ l.fn.leads → CallsStand l.fn.pending.items l.fn.completions.items m → IsLinked l.fn.link m k → IsFedTo m k (take l.taken l.piece) false l.pending.items l.completions.items l.link;
}

abbrev pub decreases-loop-taken : goal.decreases-loop-taken
decreases-loop-taken l = length l.piece - l.taken
