-- The laws, each over the definitions alone.
use Rattle.std.specs.Prelude.{◌≡◌, ◌↔◌, List, ℕ, Ok, Err}
use Rattle.cdr_core.specs.declared.fault.Fault.{Fault}
use Rattle.cdr_core.specs.declared.order.Order.TheVariants.{Big}
use Rattle.cdr_core.specs.Encapsulation.{IsEncapsulated, StopsEncapsulated}
use Rattle.cdr_core.specs.Fitting.{Fits}
use Rattle.cdr_core.specs.Numbers.{AreOctets}
use Rattle.cdr_core.specs.Stopping.{Stops}
use Rattle.cdr_core.specs.Value.{Value}
use Rattle.cdr_core.specs.Writing.{octets_of}
use Rattle.ior_core.specs.Grammar.{reference}
use Rattle.ior_core.specs.Profiles.{body_of, type_of, IsBody, StopsBody}
use Rattle.ior_core.specs.Text.{reference_in, reference_text, text_octets, IsReference}
use Rattle.ior_core.specs.Writing.{encapsulation_of}

-- The reference that is read in an encapsulation is spelled there ..
abbrev pub ReferencesAreSpelled : Type 0
ReferencesAreSpelled = (octets : List ℕ) (v : Value) → reference_in octets ≡ Ok v → IsReference v octets

-- .. and the one that is spelled there is read.
abbrev pub SpelledReferencesAreRead : Type 0
SpelledReferencesAreRead = (octets : List ℕ) (v : Value) → IsReference v octets → reference_in octets ≡ Ok v

-- The same two of the octets of a profile.
abbrev pub ProfilesAreSpelled : Type 0
ProfilesAreSpelled = (octets : List ℕ) (v : Value) → body_of octets ≡ Ok v → IsEncapsulated (λ order. IsBody order v) octets

abbrev pub SpelledProfilesAreRead : Type 0
SpelledProfilesAreRead = (octets : List ℕ) (v : Value) → IsEncapsulated (λ order. IsBody order v) octets → body_of octets ≡ Ok v

-- Reading a reference in an encapsulation fails exactly where the octets have that fault as one ..
abbrev pub ReferencesStop : Type 0
ReferencesStop = (octets : List ℕ) (f : Fault) → (reference_in octets ≡ Err f) ↔ StopsEncapsulated (Stops reference) octets f

-- .. and so does reading a profile.
abbrev pub ProfilesStop : Type 0
ProfilesStop = (octets : List ℕ) (f : Fault) → (body_of octets ≡ Err f) ↔ StopsEncapsulated StopsBody octets f

-- The text of a reference has the digits of an encapsulation, and this is read as the same reference.
abbrev pub IsTextReadAgain : Value → Type 0
IsTextReadAgain v = (text_octets (reference_text v) ≡ Ok (encapsulation_of v)) × (reference_in (encapsulation_of v) ≡ Ok v)

-- A text that was written is read as the same reference.
abbrev pub WrittenTextIsRead : Type 0
WrittenTextIsRead = (v : Value) → Fits reference v → AreOctets (octets_of Big v 1) → IsTextReadAgain v

-- A profile that was written is read as the same profile.
abbrev pub WrittenProfileIsRead : Type 0
WrittenProfileIsRead = (v : Value) → Fits (type_of v) v → body_of (encapsulation_of v) ≡ Ok v
