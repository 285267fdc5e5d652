-- What a server behind is asked, and what is answered by it.
use Rattle.std.specs.Prelude.{◌≡◌, ◌⊎◌, ℕ, List, [], ◌∷◌, ◌++◌, Option, Some, None}
use Rattle.giop_core.specs.Content.{Rest}
use Rattle.giop_frames.specs.declared.limits.Limits.{Limits}
use Rattle.ft_log.specs.Performed.{Performed, system}
use Rattle.ft_log.specs.declared.system_exception.Completion.TheVariants.{No}
use Rattle.ft_log.specs.declared.system_exception.SystemName.TheVariants.{ImpLimit}
use Rattle.ft_orb.specs.Wires.{IfKnown}
use Rattle.uses.specs.Forwarding.{CanBeForwarded, first_said, forwarded_octets, told_by, untold}

-- the octets of a request that a server behind was sent, and what it wrote for it
pub record Exchange : Type 0 where
  pub request : List ℕ
  pub written : List ℕ

-- there was one exchange more
abbrev pub Exchanged : Exchange → Option (List Exchange) → Option (List Exchange) → Type 0
Exchanged x old new = IfKnown (λ before now. now ≡ before ++ x ∷ []) old new

module _ (limits : Limits) (id : ℕ) (key operation : List ℕ) (body : Rest) (outcome : Option Performed) where
  -- nothing was sent: an allocation failed, or the call can't be forwarded
  abbrev pub IsUnsent : Type 0
  IsUnsent = (outcome ≡ None) ⊎ ((CanBeForwarded id key operation body → ⊥) × (outcome ≡ Some (system ImpLimit 0 No)))

  -- the outcome is what these octets say of the request, or an allocation failed
  abbrev pub IsTold : List ℕ → Type 0
  IsTold written = (outcome ≡ told_by id (first_said limits written)) ⊎ (outcome ≡ Some untold)

  -- What became of a call: the server behind was sent nothing; or it was sent the call once, under this id, and the outcome is what
  -- it said.
  abbrev pub IsForwarded : Option (List Exchange) → Option (List Exchange) → Type 0
  IsForwarded old new = (IsUnsent × (new ≡ old))
      ⊎ ((written : List ℕ) × CanBeForwarded id key operation body × IsTold written × Exchanged (record { request = forwarded_octets id key operation body; written = written }) old new)
