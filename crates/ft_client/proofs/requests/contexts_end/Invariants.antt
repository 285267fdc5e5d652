use Rattle.std.proofs.Common.{◌≡◌, drop, map}
use Rattle.giop_core.specs.Items.{item_at}
use Rattle.ft_client.specs.Private.{contexts_end}
use Rattle.ft_client.proofs.requests.contexts_end.Given as goal

-- the end is that of the contexts that are left
abbrev pub invariant-loop-one : goal.invariant-loop-one
invariant-loop-one l = contexts_end l.place (map item_at (drop l.one-index l.contexts)) ≡ contexts_end 16 (map item_at l.contexts)
