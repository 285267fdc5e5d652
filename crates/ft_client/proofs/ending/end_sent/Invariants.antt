use Rattle.std.proofs.Common.{◌≤◌, ◌+◌, ◌-◌, vec_len}
use Rattle.std.specs.VecDeque.{deque_capacity, deque_len}
use Rattle.ft_client.specs.Clients.{Client}
use Rattle.ft_client.specs.Private.{CallsStand}
use Rattle.ft_client.proofs.SendingOff.{IsEnding}
use Rattle.ft_client.proofs.ending.end_sent.Given as goal

abbrev pub invariant-loop-place : goal.invariant-loop-place
invariant-loop-place l = record {
  room : deque_len l.completions + vec_len l.pending ≤ deque_capacity l.completions;
  few : vec_len l.pending ≤ vec_len l.fn.pending;
  ending : (m : Client) → CallsStand l.fn.pending.items l.fn.completions.items m → IsEnding l.place l.pending.items l.completions.items m;
}

abbrev pub decreases-loop-place : goal.decreases-loop-place
decreases-loop-place l = vec_len l.pending - l.place
