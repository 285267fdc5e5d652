-- A machine that codes of types drive: what codes spell no types, and that codes spell one list of types.
use Rattle.std.proofs.Common.{◌≡◌, ◌∙◌, ℕ, zero, suc, ◌+◌, ◌-◌, ◌<◌, ◌≤◌, List, [], ◌∷◌, ◌++◌, length, Option, Some, None, refl, ap, sym, arith, append_assoc, append-nil}
use Rattle.std.proofs.lemmas.Option.{none-some}
use Rattle.cdr_core.specs.Form as form
use Rattle.cdr_core.specs.Form.{Form, Forms, Number}
use Rattle.cdr_core.specs.Parts.{most}
use Rattle.lemonrudder.specs.declared.types.Counted.{Counted}
use Rattle.lemonrudder.specs.declared.types.Counted.TheVariants.{Enum, Struct}
use Rattle.lemonrudder.specs.Codes.{AreCodes, IsCode, count, number_code}

-- a code that waits for a number, and types, the last of them first
abbrev pub State : Type 0
State = Option Counted × List Form

-- what a code does
pub data Act : Type 0 where
  nothing : Act
  push : Form → Act
  sequence : Act
  wait : Counted → Act

-- by its number
abbrev pub acts : List Act
acts = nothing ∷ push form.boolean ∷ push (form.number form.char) ∷ push (form.number form.octet) ∷ push (form.number form.short) ∷ push (form.number form.ushort) ∷ push (form.number form.long) ∷ push (form.number form.ulong)
    ∷ push (form.number form.longlong) ∷ push (form.number form.ulonglong) ∷ push (form.string most) ∷ push (form.octets most) ∷ sequence ∷ wait Enum ∷ wait Struct ∷ []

abbrev pub nth : List Act → ℕ → Act
nth [] n = nothing
nth (a ∷ others) zero = a
nth (a ∷ others) (suc n) = nth others n

abbrev pub done : Act → List Form → Option State
done nothing s = None
done (push t) s = Some (None, t ∷ s)
done sequence [] = None
done sequence (t ∷ s) = Some (None, form.sequence most t ∷ s)
done (wait c) s = Some (Some c, s)

-- so many types are taken, as members of a struct, before these
abbrev pub joined : ℕ → Forms → List Form → Option State
joined zero ts s = Some (None, form.structure ts ∷ s)
joined (suc n) ts [] = None
joined (suc n) ts (t ∷ s) = joined n (form.form t ts) s

abbrev pub step : Option Counted → List Form → ℕ → Option State
step None s c = done (nth acts c) s
step (Some Enum) s n = Some (None, form.enumeration n ∷ s)
step (Some Struct) s n = joined n form.no_forms s

abbrev pub next : Option State → (Option Counted → List Form → Option State) → Option State
next None f = None
next (Some x) f = f x.0 x.1

abbrev pub run : List ℕ → Option Counted → List Form → Option State
run [] w s = Some (w, s)
run (c ∷ cs) w s = next (step w s c) (λ v t. run cs v t)

-- types on a stack
abbrev pub onto : Forms → List Form → List Form
onto form.no_forms s = s
onto (form.form t ts) s = onto ts (t ∷ s)

abbrev both : Forms → Forms → Forms
both form.no_forms us = us
both (form.form t ts) us = form.form t (both ts us)

both-none : (ts : Forms) → both ts form.no_forms ≡ ts
both-none form.no_forms = refl
both-none (form.form t ts) = ap (λ us. form.form t us) (both-none ts)

joined-onto : (ts : Forms) (k : ℕ) (us : Forms) (s : List Form) → joined (count ts + k) us (onto ts s) ≡ joined k (both ts us) s
joined-onto form.no_forms k us s = let e : 0 + k ≡ k = omega arith in ap (λ n. joined n us s) e
joined-onto (form.form t ts) k us s =
    let e : suc (count ts) + k ≡ count ts + suc k = omega arith in
    ap (λ n. joined n us (onto ts (t ∷ s))) e ∙ joined-onto ts (suc k) us (t ∷ s)

joined-all : (ts : Forms) (s : List Form) → joined (count ts) form.no_forms (onto ts s) ≡ Some (None, form.structure ts ∷ s)
joined-all ts s =
    let e : count ts ≡ count ts + 0 = omega arith in
    ap (λ n. joined n form.no_forms (onto ts s)) e ∙ joined-onto ts 0 form.no_forms s ∙ ap (λ (us : Forms). joined 0 us s) (both-none ts)

-- too many
joined-short : (ts : Forms) (n : ℕ) → count ts < n → joined n form.no_forms (onto ts []) ≡ None
joined-short ts n few =
    let e : n ≡ count ts + suc (n - suc (count ts)) = omega arith in
    ap (λ m. joined m form.no_forms (onto ts [])) e ∙ joined-onto ts (suc (n - suc (count ts))) form.no_forms []

number_run : (kind : Number) (s : List Form) (rest : List ℕ) → run (number_code kind ∷ rest) None s ≡ run rest None (form.number kind ∷ s)
number_run form.char s rest = refl
number_run form.octet s rest = refl
number_run form.short s rest = refl
number_run form.ushort s rest = refl
number_run form.long s rest = refl
number_run form.ulong s rest = refl
number_run form.longlong s rest = refl
number_run form.ulonglong s rest = refl

-- codes of which the last are others
run_front : (codes front back rest : List ℕ) (w : Option Counted) (s : List Form) → codes ≡ front ++ back → run (codes ++ rest) w s ≡ run (front ++ (back ++ rest)) w s
run_front codes front back rest w s is = ap (λ xs. run (xs ++ rest) w s) is ∙ ap (λ xs. run xs w s) (append_assoc front back rest)

mutual
  -- the codes of a type push it
  run_code : (t : Form) (codes rest : List ℕ) (s : List Form) → IsCode t codes → run (codes ++ rest) None s ≡ run rest None (t ∷ s)
  run_code form.boolean codes rest s is = ap (λ xs. run (xs ++ rest) None s) is
  run_code (form.number kind) codes rest s is = ap (λ xs. run (xs ++ rest) None s) is ∙ number_run kind s rest
  run_code (form.string bound) codes rest s is = ap (λ xs. run (xs ++ rest) None s) is.1 ∙ ap (λ b. run rest None (form.string b ∷ s)) (sym is.0)
  run_code (form.octets bound) codes rest s is = ap (λ xs. run (xs ++ rest) None s) is.1 ∙ ap (λ b. run rest None (form.octets b ∷ s)) (sym is.0)
  run_code (form.sequence bound t) codes rest s is =
      run_front codes is.1.0 (12 ∷ []) rest None s is.1.1 ∙ run_code t is.1.0 (12 ∷ rest) s is.1.2 ∙ ap (λ b. run rest None (form.sequence b t ∷ s)) (sym is.0)
  run_code (form.array n t) codes rest s is = absurd is
  run_code (form.enumeration names) codes rest s is = ap (λ xs. run (xs ++ rest) None s) is
  run_code (form.structure ts) codes rest s is =
      run_front codes is.0 (14 ∷ count ts ∷ []) rest None s is.1 ∙ run_codes ts is.0 (14 ∷ count ts ∷ rest) s is.2 ∙ ap (λ x. next x (λ v t. run rest v t)) (joined-all ts s)
  run_code (form.union d cs) codes rest s is = absurd is

  run_codes : (ts : Forms) (codes rest : List ℕ) (s : List Form) → AreCodes ts codes → run (codes ++ rest) None s ≡ run rest None (onto ts s)
  run_codes form.no_forms codes rest s is = ap (λ xs. run (xs ++ rest) None s) is
  run_codes (form.form t ts) codes rest s is = run_front codes is.0 is.1 rest None s is.2 ∙ run_code t is.0 (is.1 ++ rest) s is.3 ∙ run_codes ts is.1 rest (t ∷ s) is.4

-- all of the codes
run_all : (ts : Forms) (codes : List ℕ) → AreCodes ts codes → run codes None [] ≡ Some (None, onto ts [])
run_all ts codes is = ap (λ xs. run xs None []) (sym (append-nil codes)) ∙ run_codes ts codes [] [] is

-- types that can be read from a stack again
abbrev from : List Form → Forms → Forms
from [] ts = ts
from (t ∷ s) ts = from s (form.form t ts)

from-onto : (ts : Forms) (us : Forms) (s : List Form) → from (onto ts s) us ≡ from s (both ts us)
from-onto form.no_forms us s = refl
from-onto (form.form t ts) us s = from-onto ts us (t ∷ s)

abbrev stack : Option State → List Form
stack None = []
stack (Some x) = x.1

abbrev waits : Option State → Option Counted
waits None = None
waits (Some x) = x.0

-- codes spell one list of types
pub one_spelling : (ts us : Forms) (codes : List ℕ) → AreCodes ts codes → AreCodes us codes → ts ≡ us
one_spelling ts us codes is also =
    let same : onto ts [] ≡ onto us [] = ap stack (sym (run_all ts codes is) ∙ run_all us codes also) in
    sym (from-onto ts form.no_forms [] ∙ both-none ts) ∙ ap (λ s. from s form.no_forms) same ∙ (from-onto us form.no_forms [] ∙ both-none us)

-- codes that wait for a number are those of no types
pub no_spelling : (w : Counted) (ts us : Forms) (codes front : List ℕ) (c : ℕ) → codes ≡ front ++ c ∷ [] → AreCodes ts front → done (nth acts c) (onto ts []) ≡ Some (Some w, onto ts []) → AreCodes us codes → ⊥
no_spelling w ts us codes front c is read does also =
    let a : run codes None [] ≡ run (c ∷ []) None (onto ts []) = ap (λ xs. run xs None []) is ∙ run_codes ts front (c ∷ []) [] read in
    let b : run (c ∷ []) None (onto ts []) ≡ Some (Some w, onto ts []) = ap (λ x. next x (λ v t. run [] v t)) does in
    let e : None ≡ Some w = ap waits (sym (run_all us codes also) ∙ a ∙ b) in
    absurd cc

-- no codes of types begin with codes that the machine refuses
refused : (ts us : Forms) (front more rest : List ℕ) → AreCodes ts front → run (more ++ rest) None (onto ts []) ≡ None → AreCodes us ((front ++ more) ++ rest) → ⊥
refused ts us front more rest read stops also =
    let a : run ((front ++ more) ++ rest) None [] ≡ None = ap (λ xs. run xs None []) (append_assoc front more rest) ∙ run_codes ts front (more ++ rest) [] read ∙ stops in
    none-some (None, onto us []) (sym a ∙ run_all us ((front ++ more) ++ rest) also)

nth_past : (all : List Act) (n : ℕ) → length all ≤ n → nth all n ≡ nothing
nth_past [] n many = refl
nth_past (a ∷ others) zero many = absurd (omega arith)
nth_past (a ∷ others) (suc n) many = nth_past others n (omega arith)

-- a code that is none
refused_code : (ts us : Forms) (front rest : List ℕ) (c : ℕ) → nth acts c ≡ nothing → AreCodes ts front → AreCodes us ((front ++ c ∷ []) ++ rest) → ⊥
refused_code ts us front rest c is read also =
    refused ts us front (c ∷ []) rest read (ap (λ a. next (done a (onto ts [])) (λ v t. run rest v t)) is) also

pub refused_zero : (ts us : Forms) (front rest : List ℕ) (c : ℕ) → c ≡ 0 → AreCodes ts front → AreCodes us ((front ++ c ∷ []) ++ rest) → ⊥
refused_zero ts us front rest c is read also = refused_code ts us front rest c (ap (λ n. nth acts n) is) read also

pub refused_past : (ts us : Forms) (front rest : List ℕ) (c : ℕ) → 14 < c → AreCodes ts front → AreCodes us ((front ++ c ∷ []) ++ rest) → ⊥
refused_past ts us front rest c past read also =
    let many : 15 ≤ c = omega arith in
    refused_code ts us front rest c (nth_past acts c many) read also

-- a sequence of no type
pub refused_sequence : (us : Forms) (front rest : List ℕ) → AreCodes form.no_forms front → AreCodes us ((front ++ 12 ∷ []) ++ rest) → ⊥
refused_sequence us front rest read also = refused form.no_forms us front (12 ∷ []) rest read refl also

-- a struct of more types than there are
pub refused_struct : (ts us : Forms) (front rest : List ℕ) (n : ℕ) → count ts < n → AreCodes ts front → AreCodes us ((front ++ 14 ∷ n ∷ []) ++ rest) → ⊥
refused_struct ts us front rest n few read also =
    refused ts us front (14 ∷ n ∷ []) rest read (ap (λ x. next x (λ v t. run rest v t)) (joined-short ts n few)) also
