-- What keeps a text from being a version.
use Rattle.std.proofs.Common.{◌≡◌, ◌≢◌, ℕ, ◌<◌, ◌^◌, List, sym, ◌∙◌, subst, arith}
use Rattle.corbaloc.specs.Grammar.{IsCut, IsFree, IsVersion, SpellsNumber}
use Rattle.corbaloc.proofs.Cuts.{cut_once, free_not_cut}

-- it has no point
pub no_point : (text : List ℕ) → IsFree 46 text → (minor : ℕ) → IsVersion text minor → ⊥
no_point text free minor v = free_not_cut 46 text v.0 v.1 free v.2

-- what is before the point is no number
pub no_major : (text major digits : List ℕ) → IsCut 46 text major digits → ((n : ℕ) → n < 2 ^ 16 → SpellsNumber major n → ⊥) → (minor : ℕ) → IsVersion text minor → ⊥
no_major text major digits cut none minor v =
    none 1 (omega arith) (subst (λ (t : List ℕ). SpellsNumber t 1) (cut_once 46 text v.0 v.1 major digits v.2 cut).0 v.3)

-- .. or is not 1
pub other_major : (text major digits : List ℕ) (n : ℕ) → IsCut 46 text major digits → SpellsNumber major n → n ≢ 1 → (minor : ℕ) → IsVersion text minor → ⊥
other_major text major digits n cut spelled other minor v =
    other (sym spelled.1 ∙ (subst (λ (t : List ℕ). SpellsNumber t 1) (cut_once 46 text v.0 v.1 major digits v.2 cut).0 v.3).1)

-- what is behind the point is no number
pub no_minor : (text major digits : List ℕ) → IsCut 46 text major digits → ((n : ℕ) → n < 2 ^ 16 → SpellsNumber digits n → ⊥) → (minor : ℕ) → IsVersion text minor → ⊥
no_minor text major digits cut none minor v =
    none minor (omega (arith, v.5)) (subst (λ (t : List ℕ). SpellsNumber t minor) (cut_once 46 text v.0 v.1 major digits v.2 cut).1 v.4)

-- .. or is one that no octet holds
pub great_minor : (text major digits : List ℕ) (n : ℕ) → IsCut 46 text major digits → SpellsNumber digits n → (n < 2 ^ 8 → ⊥) → (minor : ℕ) → IsVersion text minor → ⊥
great_minor text major digits n cut spelled great minor v =
    let same : minor ≡ n = sym (subst (λ (t : List ℕ). SpellsNumber t minor) (cut_once 46 text v.0 v.1 major digits v.2 cut).1 v.4).1 ∙ spelled.1 in
    great (subst (λ (k : ℕ). k < 2 ^ 8) same v.5)
