use Rattle.std.proofs.Common.{ℕ, ◌<◌, List, [], subst, sym, arith, w64}
use Rattle.std.proofs.Math.Facts.{Fits-of_lt}
use Rattle.std.specs.Borrow.{Bor}
use Rattle.ft_client.proofs.Contexts.{end_room}
use Rattle.ft_client.proofs.requests.contexts_end.Goals as goal

none : ℕ × Bor (List ℕ)
none = (0, record { ref_ptr = (0, 0); now = [] })

pub next_multiple_of-requires-clause-fits : goal.next_multiple_of-requires-clause-fits
next_multiple_of-requires-clause-fits c =
    let l = c.loop-one in
    let room = end_room l.place l.one-index 8589934592 c.args.contexts.now none c.loop-one-test.true (subst (λ n. n < 8589934592) (sym l.invariant) c.requires) in
    omega (arith, room)

pub overflow_add-place-in-loop-one : goal.overflow_add-place-in-loop-one
overflow_add-place-in-loop-one c =
    let l = c.loop-one in
    let room = end_room l.place l.one-index 8589934592 c.args.contexts.now none c.loop-one-test.true (subst (λ n. n < 8589934592) (sym l.invariant) c.requires) in
    Fits-of_lt {w = w64} (omega (arith, room, c.next_multiple_of.ensures.value))

pub overflow_add-place-in-loop-one-2 : goal.overflow_add-place-in-loop-one-2
overflow_add-place-in-loop-one-2 c =
    let l = c.loop-one in
    let room = end_room l.place l.one-index 8589934592 c.args.contexts.now none c.loop-one-test.true (subst (λ n. n < 8589934592) (sym l.invariant) c.requires) in
    Fits-of_lt {w = w64} (omega (arith, room, c.next_multiple_of.ensures.value))
