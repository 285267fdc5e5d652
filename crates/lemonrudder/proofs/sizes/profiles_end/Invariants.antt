use Rattle.std.proofs.Common.{◌≡◌, drop}
use Rattle.lemonrudder.specs.Sizes.{profiles_end}
use Rattle.lemonrudder.proofs.sizes.profiles_end.Given as goal

-- what is left ends where all do
abbrev pub invariant-loop-profile : goal.invariant-loop-profile
invariant-loop-profile l = profiles_end l.end (drop l.profile-index l.profiles) ≡ profiles_end l.fn.place l.profiles
