use Rattle.std.proofs.Common.{◌-◌, vec_len}
use Rattle.ft_client.specs.Clients.{Client}
use Rattle.ft_client.specs.Standing.{FtStands}
use Rattle.ft_client.proofs.Ticking.{IsTicking}
use Rattle.ft_client.proofs.client.FtClient.tick.Given as goal

abbrev pub invariant-loop-place : goal.invariant-loop-place
invariant-loop-place l = (m : Client) → FtStands l.fn.self m → IsTicking l.now l.place l.self m

abbrev pub decreases-loop-place : goal.decreases-loop-place
decreases-loop-place l = vec_len l.self.pending - l.place
