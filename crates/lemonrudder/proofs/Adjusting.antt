-- What is set of a client.
use Rattle.std.proofs.Common.{◌≡◌, ℕ, inl, Result, subst}
use Rattle.giop_core.specs.declared.header.Version.{Version}
use Rattle.giop_frames.specs.declared.limits.Cuts.{Cuts}
use Rattle.giop_frames.specs.declared.limits.Limits.{Limits}
use Rattle.lemonrudder.specs.declared.calling.Calling.{Calling}
use Rattle.lemonrudder.specs.declared.refusal.Refusal.{Refusal}
use Rattle.lemonrudder.specs.Calls.{Standing}
use Rattle.lemonrudder.specs.Naming.{HasLimits}
use Rattle.lemonrudder.specs.Adjusts.{Makes, MakesLimited}

-- limits of these numbers, with the cuts of a client and in its version
pub limited : (messages partial : ℕ) (cuts : Cuts) (x : Standing) (t : Calling) (r : Result ℕ Refusal) (version : Version) (limits : Limits) → version ≡ x.client.version → cuts ≡ x.client.limits.cuts → HasLimits messages partial cuts limits → Makes version limits x t r → MakesLimited messages partial x t r
limited messages partial cuts x t r version limits own cut has makes = inl (limits, subst (λ c. HasLimits messages partial c limits) cut has, subst (λ v. Makes v limits x t r) own makes)

-- numbers that the code passes on
pub limited_as : (messages partial m p : ℕ) (x : Standing) (t : Calling) (r : Result ℕ Refusal) → m ≡ messages → p ≡ partial → MakesLimited m p x t r → MakesLimited messages partial x t r
limited_as messages partial m p x t r em ep makes = subst (λ n. MakesLimited n partial x t r) em (subst (λ n. MakesLimited m n x t r) ep makes)
