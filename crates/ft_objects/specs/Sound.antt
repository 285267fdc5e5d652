-- Which types an operation can have that is added to a catalogue.
use Rattle.std.specs.Prelude.{ℕ, List, ⊤}
use Rattle.std.specs.List.{AllByRecursion}
use Rattle.cdr_core.specs.Fitting.{AreValid}
use Rattle.cdr_core.specs.Form.{Forms}
use Rattle.cdr_core.specs.Spelling.{IsClean}
use Rattle.ft_objects.specs.Interfaces.{Interface, Types, checked_operation, operation}

-- each exception has an id without a NUL, and members of valid types
abbrev pub AreSound : List (List ℕ × Forms) → Type 0
AreSound raises = AllByRecursion (λ r. IsClean r.0 × AreValid r.1) raises

-- all types are valid, and no id of an exception has a NUL
abbrev pub AreSoundTypes : Types → Type 0
AreSoundTypes t = AreValid t.arguments × AreValid t.results × AreSound t.raises

abbrev pub IsSound : Interface → Type 0
IsSound (operation t) = AreSoundTypes t
IsSound (checked_operation t) = AreSoundTypes t
IsSound _ = ⊤
