-- What a look-up in the map says of a key.
use Rattle.std.proofs.Common.{◌≡◌, List, ℕ, ℤ, Option, Some, sym, ap, ◌∙◌, subst}
use Rattle.std.proofs.lemmas.Int.{to_z-of_z}
use mir.Syntax.{w32}
use mir.Val.{SFits, of_z, to_z}
use Rattle.indexmap.specs.IndexMap.{get_by}
use Rattle.ft_log.specs.Maps.{Outcomes, under}
use Rattle.ft_log.specs.Names.{is_named}
use Rattle.ft_log.specs.declared.shelf.Kept.{Kept}

pub at_is : (m : Outcomes) (client l : List ℕ) (z : ℤ) → SFits w32 z → (o : Option Kept) → l ≡ client → o ≡ get_by (is_named l (Some (to_z w32 (of_z w32 z)))) m → under m (record { client_id = client; retention_id = z }) ≡ o
at_is m client l z fits o same h =
    subst (λ (r : ℤ). under m (record { client_id = client; retention_id = r }) ≡ o) (to_z-of_z w32 z fits)
    (ap (λ (l : List ℕ). get_by (is_named l (Some (to_z w32 (of_z w32 z)))) m) (sym same) ∙ sym h)
