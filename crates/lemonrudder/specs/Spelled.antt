-- What reading octets as values of types gives.
use Rattle.std.specs.Prelude.{◌≡◌, ◌⊎◌, ℕ, ◌<◌, List, length, take, Result, Ok, Err}
use Rattle.std.proofs.Common.{Vec, Global}
use Rattle.cdr_core.specs.declared.fault.Fault.{Fault}
use Rattle.cdr_core.specs.declared.order.Order.{Order}
use Rattle.cdr_core.specs.declared.values.Val.{Val}
use Rattle.cdr_core.specs.Form.{Forms}
use Rattle.cdr_core.specs.Memory.{MayRunOutInMembers}
use Rattle.cdr_core.specs.Spelling.{SpellsMembers}
use Rattle.cdr_core.specs.Stopping.{StopsInMembers}
use Rattle.cdr_core.specs.Value.{Values}
use Rattle.cdr_core.specs.View.{values_of}
use Rattle.lemonrudder.specs.declared.refusal.Refusal.{Refusal}
use Rattle.lemonrudder.specs.declared.refusal.Refusal.TheVariants as refusal
use Rattle.lemonrudder.specs.Refusals.{refusal_of_fault}

-- octets are values of these types, all of them, from place 0
abbrev pub AreValues : Forms → Order → List ℕ → Type 0
AreValues types order octets = (vs : Values) × SpellsMembers types order vs 0 octets

-- these values, or memory is short
abbrev pub AreThose : Values → Result (Vec Val Global) Refusal → Type 0
AreThose vs (Ok v) = values_of v.items ≡ vs
AreThose vs (Err e) = e ≡ refusal.Memory

-- why octets are not read as values of valid types, all of them: their first fault, octets that are left over, or memory is short, which
-- values take
abbrev pub IsWhyUnread : Forms → Order → List ℕ → Refusal → Type 0
IsWhyUnread types order octets e =
    ((f : Fault) × (e ≡ refusal_of_fault f) × StopsInMembers types order 0 octets f)
    ⊎ (((vs : Values) × (n : ℕ) × (e ≡ refusal.Value) × (n < length octets) × SpellsMembers types order vs 0 (take n octets)) ⊎ ((e ≡ refusal.Memory) × MayRunOutInMembers types order 0 octets))
