-- What the value of a part says is what the part says.
use Rattle.std.proofs.Common.{◌≡◌, ℕ, List, [], ◌∷◌, map, refl, ap}
use Rattle.cdr_core.specs.Value.{values}
use Rattle.giop_core.specs.Content as content
use Rattle.giop_core.specs.Content.{Addressed, addressed, all_tagged, items_of}
use Rattle.giop_core.specs.Items.{list_value, tagged_value}
use Rattle.giop_core.specs.Written.{target_of}

pub all_again : (xs : List (ℕ × List ℕ)) → all_tagged (values (map tagged_value xs)) ≡ xs
all_again [] = refl
all_again (x ∷ xs) = ap (λ ys. x ∷ ys) (all_again xs)

pub list_again : (xs : List (ℕ × List ℕ)) → items_of (list_value xs) ≡ xs
list_again xs = all_again xs

pub object_again : (a : Addressed) → addressed (target_of a) ≡ a
object_again (content.by_key key) = refl
object_again (content.by_profile tag octets) = refl
object_again (content.by_reference index id profiles) = ap (content.by_reference index id) (all_again profiles)
