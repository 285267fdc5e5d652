-- What the server of a play and of a service keeps to.
use Rattle.std.specs.Prelude.{◌≡◌, ◌<◌, ◌⊎◌, ℤ, unwrap_or}
use Rattle.giop_frames.specs.declared.limits.Cuts.TheVariants.{Aligned}
use Rattle.ft_orb.specs.Standing.{IsNew, Shown}
use Rattle.giop_run.specs.declared.play.Terms.{Terms}
use Rattle.giop_run.specs.declared.setting.Numbers.{Numbers}
use Rattle.giop_run.specs.Plays.{made_by}

-- what a server with these numbers keeps to: as many outcomes of each client as of all where no share is given, and aligned cuts
abbrev pub AreTermsOf : Numbers → Terms → Type 0
AreTermsOf n t = (t.capacity ≡ n.capacity) × (t.share ≡ unwrap_or n.share n.capacity) × (t.start ≡ n.start) × (t.limits.message ≡ n.limit) × (t.limits.partials ≡ n.partials) × (t.limits.cuts ≡ Aligned)

-- the share is none of the capacity: 0, or greater
abbrev pub HasBadShare : Numbers → Type 0
HasBadShare n = (unwrap_or n.share n.capacity ≡ 0) ⊎ (n.capacity < unwrap_or n.share n.capacity)

-- a server to which nothing has happened, with these numbers: its servant is a counter with the total at the beginning
abbrev pub IsOffered : Numbers → Shown ℤ → Type 0
IsOffered n server = (t : Terms) × AreTermsOf n t × IsNew (made_by t) server
