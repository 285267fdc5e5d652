-- A server of tickets, before and after the octets come.
use Rattle.std.proofs.Common.{◌≡◌, ℕ, List, [], ◌++◌, subst, ap, ◌∙◌}
use Rattle.giop_frames.specs.declared.limits.Limits.{Limits}
use Rattle.ft_orb.specs.Standing.{Shown, Stands}
use Rattle.uses.specs.Tickets.{tickets_meaning}
use Rattle.uses.specs.Serving.{tickets_made}

-- a new server of tickets of which none was given
pub as_made : (limits : Limits) (given : ℕ) (server : Shown ℕ) → given ≡ 0
    → Stands tickets_meaning (record { limits = limits; capacity = 100; share = 10; opening = given }) server [] → Stands tickets_meaning (tickets_made limits) server []
as_made limits given server e = subst (λ g. Stands tickets_meaning (record { limits = limits; capacity = 100; share = 10; opening = g }) server []) e

-- what was appended to nothing
pub appended : (out before written expected : List ℕ) → before ≡ [] → out ≡ before ++ written → written ≡ expected → out ≡ expected
appended out before written expected none is same = is ∙ ap (λ b. b ++ written) none ∙ same
