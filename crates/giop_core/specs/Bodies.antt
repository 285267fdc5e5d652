-- What `Body::read` answers.
use Rattle.std.specs.Prelude.{◌≡◌, ℕ, ◌≤◌, length, take, Result, Ok, Err, ⊤}
use Rattle.std.proofs.Common.{Vec, Global}
use Rattle.cdr_core.specs.declared.values.Val.{Val}
use Rattle.cdr_core.specs.declared.fault.CdrError.{CdrError}
use Rattle.cdr_core.specs.declared.fault.CdrError.TheVariants as errors
use Rattle.cdr_core.specs.Form.{Forms}
use Rattle.cdr_core.specs.Memory.{MayRunOutInMembers}
use Rattle.cdr_core.specs.Value.{Values}
use Rattle.cdr_core.specs.View.{values_of}
use Rattle.cdr_core.specs.Spelling.{SpellsMembers}
use Rattle.cdr_core.specs.Stopping.{StopsInMembers}
use Rattle.giop_core.specs.Content.{Rest}

-- values that a front of the body spells, one of each type, or the first fault, or that memory ran out where that may happen
abbrev pub BodyAnswers : Forms → Rest → Result (Vec Val Global) CdrError → Type 0
BodyAnswers ts r (Ok vs) = (n : ℕ) × (n ≤ length r.octets) × SpellsMembers ts r.order (values_of vs.items) r.place (take n r.octets)
BodyAnswers ts r (Err (errors.Bad f)) = StopsInMembers ts r.order r.place r.octets f
BodyAnswers ts r (Err errors.Memory) = MayRunOutInMembers ts r.order r.place r.octets

-- the answer is those values, unless memory ran out
abbrev pub BodyReads : Values → Result (Vec Val Global) CdrError → Type 0
BodyReads vs (Ok x) = values_of x.items ≡ vs
BodyReads vs (Err (errors.Bad f)) = ⊥
BodyReads vs (Err errors.Memory) = ⊤
