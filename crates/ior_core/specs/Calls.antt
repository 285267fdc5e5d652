-- What errors say, and what calls give.
use Rattle.std.specs.Prelude.{◌≡◌, ℕ, ◌+◌, ◌≤◌, List, length, drop, Result, Ok, Err}
use Rattle.cdr_core.specs.declared.fault.CdrError.{CdrError}
use Rattle.cdr_core.specs.declared.fault.CdrError.TheVariants as errors
use Rattle.cdr_core.specs.declared.fault.Fault.{Fault}
use Rattle.cdr_core.specs.Cursor.{Position}
use Rattle.cdr_core.specs.declared.order.Order.{Order}
use Rattle.cdr_core.specs.Reading.{Read, value_at}
use Rattle.ior_core.specs.declared.error.IorError.{IorError}
use Rattle.ior_core.specs.declared.reference.Ior.{Ior}
use Rattle.ior_core.specs.Grammar.{reference}
use Rattle.ior_core.specs.Memory.{StoresReference}
use Rattle.ior_core.specs.View.{ior_value}
use Rattle.ior_core.specs.declared.error.IorError.TheVariants.{Cdr, Memory}

-- the error of cdr_core that an error stands for
abbrev pub ior_error : CdrError → IorError
ior_error (errors.Bad f) = Cdr f
ior_error errors.Memory = Memory

-- A call gives what reading gives, seen by view, and goes on after it. After a fault the cursor is not used again.
abbrev pub GivesOnce : {X Y : Type 0} → (X → Y) → Result X Fault → (ℕ → List ℕ → Read Y) → Position → Position → Type 0
GivesOnce view (Ok x) read old new = (read old.place old.rest ≡ Ok (view x, new.place, new.rest)) × (new.order ≡ old.order)
GivesOnce view (Err f) read old new = read old.place old.rest ≡ Err f

-- a reference and the length of the front that spells it, or the first fault, or out of memory where that may happen
abbrev pub ReadsReference : Order → ℕ → List ℕ → Result (Ior × ℕ) IorError → Type 0
ReadsReference order o octets (Ok x) = (x.1 ≤ length octets) × (value_at reference order o octets ≡ Ok (ior_value x.0, o + x.1, drop x.1 octets))
ReadsReference order o octets (Err (Cdr f)) = value_at reference order o octets ≡ Err f
ReadsReference order o octets (Err Memory) = (p : ℕ) × StoresReference order o octets p
ReadsReference order o octets (Err _) = ⊥
