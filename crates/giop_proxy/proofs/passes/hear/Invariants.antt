use Rattle.std.proofs.Common.{◌≡◌, ℕ, ◌-◌, ◌≤◌, List, length, take, None}
use Rattle.giop_proxy.specs.PassingMessages.{AreWithin, StandsFor}
use Rattle.giop_proxy.specs.PassingPrivate.{AreHeld, IsHeard, entries}
use Rattle.giop_proxy.proofs.passes.hear.Given as goal

abbrev pub invariant-loop-taken : goal.invariant-loop-taken
invariant-loop-taken l = record {
  in_range : l.taken ≤ length l.piece;
  alone : l.frames.frame ≡ None;
  held : AreWithin l.fn.frames.limits (entries l.fn.parts.items) → AreHeld l.frames None (entries l.parts.items);
  limits : l.frames.limits ≡ l.fn.frames.limits;
  hears : (s : List ℕ) → StandsFor (record { frames = l.fn.frames; place = l.fn.place; parts = entries l.fn.parts.items; passed = l.fn.passed.items; told = None }) s
      → IsHeard l.fn.frames.limits s (take l.taken l.piece) None (record { frames = l.frames; place = l.place; parts = entries l.parts.items; passed = l.passed.items; told = None });
}

abbrev pub decreases-loop-taken : goal.decreases-loop-taken
decreases-loop-taken l = length l.piece - l.taken
