-- What reading all of the octets gives.
use Rattle.std.proofs.Common.{◌≡◌, ◌==◌, ◌∙◌, ◌↔◌, ℕ, Bool, false, IsTrue, List, [], ◌∷◌, ◌++◌, length, take, Result, Ok, Err, ap, append-nil, arith, refl, rules, subst, sym}
use Rattle.std.proofs.lemmas.Bool.{eqb-true, false≢true}
use Rattle.std.proofs.lemmas.Grind.{common_steps}
use Rattle.cdr_core.specs.declared.fault.CdrError.{CdrError}
use Rattle.cdr_core.specs.declared.fault.CdrError.TheVariants as reading
use Rattle.cdr_core.specs.declared.values.Val.{the_lemmas}
use Rattle.cdr_core.specs.declared.values.Val.TheVariants as val
use Rattle.cdr_core.specs.declared.fault.Fault.{Fault}
use Rattle.cdr_core.specs.declared.order.Order.{Order}
use Rattle.cdr_core.specs.Answering.{ListPasses, ListReads}
use Rattle.cdr_core.specs.Form.{Forms}
use Rattle.cdr_core.specs.Spelling.{SpellsMembers}
use Rattle.cdr_core.specs.Value as value
use Rattle.cdr_core.specs.Value.{Values}
use Rattle.cdr_core.specs.View.{value_of}
use Rattle.lemonrudder.specs.declared.refusal.Refusal.TheVariants as refusal
use Rattle.lemonrudder.specs.Refusals.{refusal_of_reading}
use Rattle.lemonrudder.specs.Spelled.{AreValues}

-- octets that spell values are not read only where memory is short
pub short-only : (vs : Values) (n : ℕ) (e : CdrError) → ListReads vs n (Err e) → refusal_of_reading e ≡ refusal.Memory
short-only vs n (reading.Bad f) reads = absurd reads
short-only vs n reading.Memory reads = refl

-- a boolean of the code
pub value-boolean : (b : Bool) → value_of (val.Boolean b) ≡ value.boolean b
value-boolean b = search (rules, the_lemmas)

take-all : (l : List ℕ) → take (length l) l ≡ l
take-all [] = refl
take-all (y ∷ l) = ap (λ (r : List ℕ). y ∷ r) (take-all l)

-- octets that were passed over are values where all of them were
pub passed-all : (types : Forms) (order : Order) (octets : List ℕ) (r : Result ℕ Fault) (n : ℕ) → r ≡ Ok n → ListPasses types order 0 octets r
    → ((vs : Values) (front rest : List ℕ) → octets ≡ front ++ rest → SpellsMembers types order vs 0 front → r ≡ Ok (length front)) → IsTrue (n == length octets) ↔ AreValues types order octets
passed-all types order octets r n is passes only =
    let p = subst (λ x. ListPasses types order 0 octets x) is passes in (
      (λ yes. let same : n ≡ length octets = eqb-true n (length octets) yes in (p.1.0, subst (λ l. SpellsMembers types order p.1.0 0 l) (ap (λ m. take m octets) same ∙ take-all octets) p.1.1)),
      (λ are. let e : ◌≡◌ {A = Result ℕ Fault} (Ok n) (Ok (length octets)) = sym is ∙ only are.0 octets [] (sym (append-nil octets)) are.1 in let same : n ≡ length octets = cc in grind (arith, common_steps)),
    )

-- .. and where there is a fault they are none
pub passed-none : (types : Forms) (order : Order) (octets : List ℕ) (r : Result ℕ Fault) (f : Fault) → r ≡ Err f
    → ((vs : Values) (front rest : List ℕ) → octets ≡ front ++ rest → SpellsMembers types order vs 0 front → r ≡ Ok (length front)) → IsTrue false ↔ AreValues types order octets
passed-none types order octets r f is only =
    ((λ no. absurd (false≢true no)), λ are. let e : ◌≡◌ {A = Result ℕ Fault} (Err f) (Ok (length octets)) = sym is ∙ only are.0 octets [] (sym (append-nil octets)) are.1 in absurd cc)
