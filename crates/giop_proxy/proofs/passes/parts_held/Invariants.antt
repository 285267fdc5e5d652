use Rattle.std.proofs.Common.{◌≡◌, ◌+◌, drop}
use Rattle.giop_proxy.specs.PassingMessages.{parts_held}
use Rattle.giop_proxy.specs.PassingPrivate.{entries}
use Rattle.giop_proxy.proofs.passes.parts_held.Given as goal

abbrev pub invariant-loop-part : goal.invariant-loop-part
invariant-loop-part l = l.held + parts_held (entries (drop l.part-index l.parts)) ≡ parts_held (entries l.parts)
