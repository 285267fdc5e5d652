-- Where reading references and profiles may run out of memory.
use Rattle.std.proofs.Common.{◌≡◌, ℕ, List, Result, Ok, Err, Vec, Global, ◌⊎◌, inl, inr, sym, subst, ◌∙◌, rules}
use Rattle.std.specs.Prelude.{IsOk}
use Rattle.cdr_core.specs.declared.fault.CdrError.{CdrError}
use Rattle.cdr_core.specs.declared.fault.CdrError.TheVariants as errors
use Rattle.cdr_core.specs.declared.fault.Fault.{Fault}
use Rattle.cdr_core.specs.declared.order.Order.{Order}
use Rattle.cdr_core.specs.Cursor.{Position}
use Rattle.cdr_core.specs.Encapsulation.{order_at}
use Rattle.cdr_core.specs.Memory.{AfterRead}
use Rattle.cdr_core.specs.Parts.{most, text}
use Rattle.cdr_core.specs.Private.{GivesUnlessMemory, IfMemory}
use Rattle.cdr_core.specs.Reading.{each_at, length_at, value_at}
use Rattle.cdr_core.specs.Value.{Value}
use Rattle.cdr_core.proofs.Loops.{sequence_fails, sequence_reads}
use Rattle.cdr_core.proofs.Memory.{after_read, if_memory}
use Rattle.ior_core.specs.declared.error.IorError.{IorError}
use Rattle.ior_core.specs.declared.error.IorError.TheVariants.{Memory}
use Rattle.ior_core.specs.declared.profile.IiopProfile.{IiopProfile}
use Rattle.ior_core.specs.declared.tagged.Tagged.{Tagged}
use Rattle.ior_core.specs.Calls.{ior_error}
use Rattle.ior_core.specs.Grammar.{profile_1_0, tagged, tagged_list}
use Rattle.ior_core.specs.Memory.{StoresItems, StoresReference, StoresTagged}
use Rattle.ior_core.specs.Profiles.{body_of, has_minor_0, ProfileMayRunOut, StoresComponents}
use Rattle.ior_core.specs.View.{list_value, tagged_values}

-- the type id of a reference was read, or a profile after it
pub reference_stores : (order : Order) (o : ℕ) (octets : List ℕ) (v : Value) (q : ℕ) (rest : List ℕ) (p : ℕ) → value_at text order o octets ≡ Ok (v, q, rest) → (p ≡ q) ⊎ StoresTagged order q rest p → StoresReference order o octets p
reference_stores order o octets v q rest p e h = after_read (value_at text order o octets) v q rest (λ _ q rest. (p ≡ q) ⊎ StoresTagged order q rest p) e h

-- a count, and so many items
pub list_gives : (r : Result (Vec Tagged Global) CdrError) (old mid new : Position) (count : ℕ) → (length_at old.order 0 most old.place old.rest ≡ Ok (count, mid.place, mid.rest)) × (mid.order ≡ old.order)
    → GivesUnlessMemory (λ v. tagged_values v.items) r (each_at (value_at tagged mid.order) count) (StoresItems mid.order count) mid new
    → GivesUnlessMemory (λ v. list_value v.items) r (value_at tagged_list old.order) (StoresTagged old.order) old new
list_gives (Ok x) old mid new count n h =
    let read = rw n.1 at h.0 in
    (sequence_reads most tagged old.order old.place old.rest count mid.place mid.rest (tagged_values x.items) new.place new.rest n.0 read, h.1 ∙ n.1)
list_gives (Err e) old mid new count n h =
    let fails = rw n.1 at h.0 in
    let may = rw n.1 at h.1 in (
      sequence_fails e most tagged old.order old.place old.rest count mid.place mid.rest n.0 fails,
      if_memory e (after_read (length_at old.order 0 most old.place old.rest) count mid.place mid.rest (λ n q rest. StoresItems old.order n q rest new.place) n.0) may,
    )

-- a component was read
pub components_run_out : (octets : List ℕ) (order : Order) (o : ℕ) (rest : List ℕ) → order_at octets ≡ Ok (order, o, rest) → (v : Value) (q : ℕ) (more : List ℕ) → value_at profile_1_0 order o rest ≡ Ok (v, q, more)
    → (e : CdrError) (p : ℕ) → IfMemory e (StoresComponents (has_minor_0 v) order q more p) → ◌≡◌ {A = Result IiopProfile IorError} (Err (ior_error e)) (Err Memory) → ProfileMayRunOut octets
components_run_out octets order o rest ordered v q more e (errors.Bad f) p may h = absurd cc
components_run_out octets order o rest ordered v q more e errors.Memory p may h =
    inr (after_read (order_at octets) order o rest (λ order o rest. AfterRead (value_at profile_1_0 order o rest) (λ v q more. (p : ℕ) × StoresComponents (has_minor_0 v) order q more p)) ordered
    (after_read (value_at profile_1_0 order o rest) v q more (λ v q more. (p : ℕ) × StoresComponents (has_minor_0 v) order q more p) e (p, may)))

-- the whole profile was read
pub body_read : (octets : List ℕ) (v : Value) → body_of octets ≡ Ok v → ProfileMayRunOut octets
body_read octets v h = inl (subst IsOk (sym h) (is_ok v))
  where
    is_ok : (v : Value) → IsOk {T = Value} {E = Fault} (Ok v)
    is_ok v = search rules
