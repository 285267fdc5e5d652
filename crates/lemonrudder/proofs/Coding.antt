-- Codes of types, as they are read one by one.
use Rattle.std.proofs.Common.{◌≡◌, ◌≢◌, ◌∙◌, ◌⊎◌, inl, inr, ℕ, suc, ◌+◌, ◌<◌, ◌≤◌, List, [], ◌∷◌, ◌++◌, length, take, drop, Bool, true, false, IsTrue, ◌↔◌, is_some, Option, Some, None, Result, Err, Box, Vec, Global, refl, ap, sym, subst, rules, arith, append_assoc, append-nil, length-drop}
use Rattle.std.proofs.lemmas.Bool.{false≢true}
use Rattle.std.proofs.lemmas.List.{take-append-drop}
use Rattle.cdr_core.specs.Fitting.{AreValid}
use Rattle.cdr_core.specs.Form as form
use Rattle.cdr_core.specs.Form.{Form, Forms}
use Rattle.cdr_core.specs.Parts.{most}
use Rattle.cdr_core.specs.View.{form_of, forms_of}
use Rattle.cdr_core.specs.declared.types.Ty.{Ty, the_lemmas as ty_lemmas}
use Rattle.cdr_core.specs.declared.types.Ty.TheVariants as ty
use Rattle.lemonrudder.specs.declared.refusal.Refusal.{Refusal}
use Rattle.lemonrudder.specs.declared.refusal.Refusal.TheVariants as refusal
use Rattle.lemonrudder.specs.declared.types.Counted.{Counted}
use Rattle.lemonrudder.specs.declared.types.Counted.TheVariants.{Enum, Struct}
use Rattle.lemonrudder.specs.declared.types.Spelling.{Spelling}
use Rattle.lemonrudder.specs.Codes.{AreCodes, AreTypes, IsCode, SpellNone, count}
use Rattle.lemonrudder.specs.Decoding.{BeginNone, HasRead, Reads}
use Rattle.lemonrudder.proofs.Machine.{no_spelling, one_spelling, refused_past, refused_sequence, refused_struct, refused_zero}

-- the codes of types, and of one more
pub codes_push : (ts : List Ty) (t : Ty) (codes one : List ℕ) → AreCodes (forms_of ts) codes → IsCode (form_of t) one → AreCodes (forms_of (ts ++ t ∷ [])) (codes ++ one)
codes_push [] t codes one all is = (one, [], ap (λ xs. xs ++ one) all ∙ sym (append-nil one), is, refl)
codes_push (u ∷ us) t codes one all is = (all.0, all.1 ++ one, ap (λ xs. xs ++ one) all.2 ∙ append_assoc all.0 all.1 one, all.3, codes_push us t all.1 one all.4 is)

-- the codes of types, and of others after them
pub codes_split : (ts us : List Ty) (codes : List ℕ) → AreCodes (forms_of (ts ++ us)) codes → (front : List ℕ) × (last : List ℕ) × (codes ≡ front ++ last) × AreCodes (forms_of ts) front × AreCodes (forms_of us) last
codes_split [] us codes all = ([], codes, refl, refl, all)
codes_split (t ∷ ts) us codes all =
    let r = codes_split ts us all.1 all.4 in
    (all.0 ++ r.0, r.1, all.2 ∙ ap (λ xs. all.0 ++ xs) r.2 ∙ sym (append_assoc all.0 r.0 r.1), (all.0, r.0, refl, all.3, r.3), r.4)

-- the codes of one type
pub codes_one : (t : Ty) (codes : List ℕ) → AreCodes (forms_of (t ∷ [])) codes → IsCode (form_of t) codes
codes_one t codes all = subst (λ xs. IsCode (form_of t) xs) (sym (all.2 ∙ ap (λ xs. all.0 ++ xs) all.4 ∙ append-nil all.0)) all.3

pub count_forms : (ts : List Ty) → count (forms_of ts) ≡ length ts
count_forms [] = refl
count_forms (t ∷ ts) = ap suc (count_forms ts)

-- what types of the code stand for
pub form_of-Seq : (n : ℕ) (t : Box Ty Global) → form_of (ty.Seq n t) ≡ form.sequence n (form_of t.value)
form_of-Seq n t = search (rules, ty_lemmas)

pub form_of-Struct : (ts : Vec Ty Global) → form_of (ty.Struct ts) ≡ form.structure (forms_of ts.items)
form_of-Struct ts = search (rules, ty_lemmas)

pub form_of-Enum : (n : ℕ) → form_of (ty.Enum n) ≡ form.enumeration n
form_of-Enum n = search (rules, ty_lemmas)

-- a sequence of the last type
pub codes_sequence : (ts : List Ty) (t : Ty) (b : Box Ty Global) (codes : List ℕ) → b.value ≡ t → AreCodes (forms_of (ts ++ t ∷ [])) codes → AreCodes (forms_of (ts ++ ty.Seq most b ∷ [])) (codes ++ 12 ∷ [])
codes_sequence ts t b codes is all =
    let r = codes_split ts (t ∷ []) codes all in
    let one : IsCode (form_of b.value) r.1 = subst (λ u. IsCode (form_of u) r.1) (sym is) (codes_one t r.1 r.4) in
    let made : IsCode (form_of (ty.Seq most b)) (r.1 ++ 12 ∷ []) = subst (λ f. IsCode f (r.1 ++ 12 ∷ [])) (sym (form_of-Seq most b)) (refl, (r.1, refl, one)) in
    subst (λ xs. AreCodes (forms_of (ts ++ ty.Seq most b ∷ [])) xs) (sym (ap (λ xs. xs ++ 12 ∷ []) r.2 ∙ append_assoc r.0 r.1 (12 ∷ []))) (codes_push ts (ty.Seq most b) r.0 (r.1 ++ 12 ∷ []) r.3 made)

-- a struct of the last types
pub codes_struct : (ts us : List Ty) (v : Vec Ty Global) (n : ℕ) (codes : List ℕ) → v.items ≡ us → length us ≡ n → AreCodes (forms_of (ts ++ us)) codes → AreCodes (forms_of (ts ++ ty.Struct v ∷ [])) (codes ++ 14 ∷ n ∷ [])
codes_struct ts us v n codes is long all =
    let r = codes_split ts us codes all in
    let members : AreCodes (forms_of v.items) r.1 = subst (λ xs. AreCodes (forms_of xs) r.1) (sym is) r.4 in
    let number : count (forms_of v.items) ≡ n = count_forms v.items ∙ ap length is ∙ long in
    let made : IsCode (form_of (ty.Struct v)) (r.1 ++ 14 ∷ n ∷ []) = subst (λ f. IsCode f (r.1 ++ 14 ∷ n ∷ [])) (sym (form_of-Struct v)) (r.1, ap (λ k. r.1 ++ 14 ∷ k ∷ []) (sym number), members) in
    subst (λ xs. AreCodes (forms_of (ts ++ ty.Struct v ∷ [])) xs) (sym (ap (λ xs. xs ++ 14 ∷ n ∷ []) r.2 ∙ append_assoc r.0 r.1 (14 ∷ n ∷ []))) (codes_push ts (ty.Struct v) r.0 (r.1 ++ 14 ∷ n ∷ []) r.3 made)

-- an enumeration of so many names
pub codes_enum : (ts : List Ty) (n : ℕ) (codes front : List ℕ) → codes ≡ front ++ 13 ∷ [] → AreCodes (forms_of ts) front → AreCodes (forms_of (ts ++ ty.Enum n ∷ [])) (codes ++ n ∷ [])
codes_enum ts n codes front is all =
    let made : IsCode (form_of (ty.Enum n)) (13 ∷ n ∷ []) = subst (λ f. IsCode f (13 ∷ n ∷ [])) (sym (form_of-Enum n)) refl in
    subst (λ xs. AreCodes (forms_of (ts ++ ty.Enum n ∷ [])) xs) (sym (ap (λ xs. xs ++ n ∷ []) is ∙ append_assoc front (13 ∷ []) (n ∷ []))) (codes_push ts (ty.Enum n) front (13 ∷ n ∷ []) all made)

-- .. of types of which one more was read
more_codes : (ts : Forms) (f : Form) (codes one : List ℕ) → AreCodes ts codes → IsCode f one → (us : Forms) × AreCodes us (codes ++ one)
more_codes form.no_forms f codes one all is = (form.form f form.no_forms, (one, [], ap (λ xs. xs ++ one) all ∙ sym (append-nil one), is, refl))
more_codes (form.form t ts) f codes one all is =
    let r = more_codes ts f all.1 one all.4 is in
    (form.form t r.0, (all.0, all.1 ++ one, ap (λ xs. xs ++ one) all.2 ∙ append_assoc all.0 all.1 one, all.3, r.1))

-- where no code waits for a number
read_none : (w : Option Counted) (types : Forms) (codes : List ℕ) → w ≡ None → HasRead w types codes → AreCodes types codes
read_none w types codes none read = subst (λ x. HasRead x types codes) none read

as_none : (w : Option Counted) (ts us : List Ty) (codes : List ℕ) → w ≡ None → us ≡ ts → AreCodes (forms_of ts) codes → HasRead w (forms_of us) codes
as_none w ts us codes none is read = subst (λ x. HasRead x (forms_of us) codes) (sym none) (subst (λ xs. AreCodes (forms_of xs) codes) (sym is) read)

-- a type of one part
pub takes_basic : (w : Option Counted) (ts us : List Ty) (t : Ty) (code : ℕ) → IsCode (form_of t) (code ∷ []) → us ≡ ts ++ t ∷ [] → w ≡ None → (codes : List ℕ) → HasRead w (forms_of ts) codes → HasRead w (forms_of us) (codes ++ code ∷ [])
takes_basic w ts us t code one is none codes read = as_none w (ts ++ t ∷ []) us (codes ++ code ∷ []) none is (codes_push ts t codes (code ∷ []) (read_none w (forms_of ts) codes none read) one)

pub takes_no_basic : (w : Option Counted) (ts : List Ty) (code : ℕ) → (code ≡ 0) ⊎ (11 < code) → (code ≤ 11) ⊎ (14 < code) → w ≡ None → (codes : List ℕ) → HasRead w (forms_of ts) codes → BeginNone (codes ++ code ∷ [])
takes_no_basic w ts code (inl zero) other none codes read = λ rest us also. refused_zero (forms_of ts) us codes rest code zero (read_none w (forms_of ts) codes none read) also
takes_no_basic w ts code (inr over) (inl under) none codes read = absurd (omega arith)
takes_no_basic w ts code (inr over) (inr past) none codes read = λ rest us also. refused_past (forms_of ts) us codes rest code past (read_none w (forms_of ts) codes none read) also

-- the number after the code of an enumeration
pub takes_names : (w : Option Counted) (ts us : List Ty) (counted : Counted) (n m : ℕ) → counted ≡ Enum → us ≡ ts ++ ty.Enum m ∷ [] → m ≡ n → w ≡ None → (codes : List ℕ) → HasRead (Some counted) (forms_of ts) codes → HasRead w (forms_of us) (codes ++ n ∷ [])
takes_names w ts us counted n m kind is number none codes read =
    let r = subst (λ k. HasRead (Some k) (forms_of ts) codes) kind read in
    as_none w (ts ++ ty.Enum n ∷ []) us (codes ++ n ∷ []) none (is ∙ ap (λ k. ts ++ ty.Enum k ∷ []) number) (codes_enum ts n codes r.0 r.1 r.2)

-- the number after the code of a struct
pub takes_members : (w : Option Counted) (ts us : List Ty) (at n m : ℕ) (v : Vec Ty Global) → m ≡ n → at + m ≡ length ts → v.items ≡ drop at ts → us ≡ take at ts ++ ty.Struct v ∷ [] → w ≡ None
    → (codes : List ℕ) → HasRead (Some Struct) (forms_of ts) codes → HasRead w (forms_of us) (codes ++ n ∷ [])
takes_members w ts us at n m v number place members is none codes read =
    let all : AreCodes (forms_of (take at ts ++ drop at ts)) read.0 = subst (λ xs. AreCodes (forms_of xs) read.0) (sym (take-append-drop at ts)) read.2 in
    let many : length (drop at ts) ≡ n = omega (arith, length-drop at ts) in
    let made = codes_struct (take at ts) (drop at ts) v n read.0 members many all in
    let same : read.0 ++ 14 ∷ n ∷ [] ≡ codes ++ n ∷ [] = sym (append_assoc read.0 (14 ∷ []) (n ∷ [])) ∙ ap (λ xs. xs ++ n ∷ []) (sym read.1) in
    as_none w (take at ts ++ ty.Struct v ∷ []) us (codes ++ n ∷ []) none is (subst (λ xs. AreCodes (forms_of (take at ts ++ ty.Struct v ∷ [])) xs) same made)

pub takes_no_members : (ts : List Ty) (n m len : ℕ) → m ≡ n → len ≡ length ts → ¬ (m ≤ len) → (codes : List ℕ) → HasRead (Some Struct) (forms_of ts) codes → BeginNone (codes ++ n ∷ [])
takes_no_members ts n m len number long short codes read = λ rest us also.
    let few : count (forms_of ts) < n = omega (arith, count_forms ts) in
    let same : (codes ++ n ∷ []) ++ rest ≡ (read.0 ++ 14 ∷ n ∷ []) ++ rest = ap (λ xs. xs ++ rest) (ap (λ xs. xs ++ n ∷ []) read.1 ∙ append_assoc read.0 (14 ∷ []) (n ∷ [])) in
    refused_struct (forms_of ts) us read.0 rest n few read.2 (subst (λ xs. AreCodes us xs) same also)

-- the code of a sequence
pub takes_sequence : (w : Option Counted) (old ts us : List Ty) (t : Ty) (b : Box Ty Global) → old ≡ ts ++ t ∷ [] → b.value ≡ t → us ≡ ts ++ ty.Seq most b ∷ [] → w ≡ None → (codes : List ℕ) → HasRead w (forms_of old) codes → HasRead w (forms_of us) (codes ++ 12 ∷ [])
takes_sequence w old ts us t b was same is none codes read =
    let all : AreCodes (forms_of (ts ++ t ∷ [])) codes = subst (λ xs. AreCodes (forms_of xs) codes) was (read_none w (forms_of old) codes none read) in
    as_none w (ts ++ ty.Seq most b ∷ []) us (codes ++ 12 ∷ []) none is (codes_sequence ts t b codes same all)

pub takes_no_element : (w : Option Counted) (ts : List Ty) → length ts ≡ 0 → w ≡ None → (codes : List ℕ) → HasRead w (forms_of ts) codes → BeginNone (codes ++ 12 ∷ [])
takes_no_element w [] empty none codes read = λ rest us also. refused_sequence us codes rest (read_none w form.no_forms codes none read) also
takes_no_element w (t ∷ ts) empty none codes read = absurd (omega arith)

-- types that take memory are those that were read, and one more

pub lacks_basic : (w : Option Counted) (ts : List Ty) (t : Ty) (code : ℕ) → IsCode (form_of t) (code ∷ []) → w ≡ None → (codes : List ℕ) → HasRead w (forms_of ts) codes → (us : Forms) × AreCodes us (codes ++ code ∷ [])
lacks_basic w ts t code one none codes read = more_codes (forms_of ts) (form_of t) codes (code ∷ []) (read_none w (forms_of ts) codes none read) one

pub lacks_names : (ts : List Ty) (counted : Counted) (n : ℕ) → counted ≡ Enum → (codes : List ℕ) → HasRead (Some counted) (forms_of ts) codes → (us : Forms) × AreCodes us (codes ++ n ∷ [])
lacks_names ts counted n kind codes read =
    let r = subst (λ k. HasRead (Some k) (forms_of ts) codes) kind read in
    let m = more_codes (forms_of ts) (form.enumeration n) r.0 (13 ∷ n ∷ []) r.2 refl in
    (m.0, subst (AreCodes m.0) (sym (append_assoc r.0 (13 ∷ []) (n ∷ [])) ∙ ap (λ xs. xs ++ n ∷ []) (sym r.1)) m.1)

pub lacks_members : (ts : List Ty) (at n m : ℕ) → m ≡ n → at + m ≡ length ts → (codes : List ℕ) → HasRead (Some Struct) (forms_of ts) codes → (us : Forms) × AreCodes us (codes ++ n ∷ [])
lacks_members ts at n m number place codes read =
    let r = codes_split (take at ts) (drop at ts) read.0 (subst (λ xs. AreCodes (forms_of xs) read.0) (sym (take-append-drop at ts)) read.2) in
    let many : n ≡ count (forms_of (drop at ts)) = omega (arith, length-drop at ts, count_forms (drop at ts)) in
    let made : IsCode (form.structure (forms_of (drop at ts))) (r.1 ++ 14 ∷ n ∷ []) = (r.1, ap (λ k. r.1 ++ 14 ∷ k ∷ []) many, r.4) in
    let more = more_codes (forms_of (take at ts)) (form.structure (forms_of (drop at ts))) r.0 (r.1 ++ 14 ∷ n ∷ []) r.3 made in
    let same : r.0 ++ (r.1 ++ 14 ∷ n ∷ []) ≡ codes ++ n ∷ [] =
    sym (append_assoc r.0 r.1 (14 ∷ n ∷ [])) ∙ ap (λ xs. xs ++ 14 ∷ n ∷ []) (sym r.2) ∙ sym (append_assoc read.0 (14 ∷ []) (n ∷ [])) ∙ ap (λ xs. xs ++ n ∷ []) (sym read.1) in
    (more.0, subst (AreCodes more.0) same more.1)

pub lacks_sequence : (w : Option Counted) (old ts : List Ty) (t : Ty) → old ≡ ts ++ t ∷ [] → w ≡ None → (codes : List ℕ) → HasRead w (forms_of old) codes → (us : Forms) × AreCodes us (codes ++ 12 ∷ [])
lacks_sequence w old ts t was none codes read =
    let r = codes_split ts (t ∷ []) codes (subst (λ xs. AreCodes (forms_of xs) codes) was (read_none w (forms_of old) codes none read)) in
    let made : IsCode (form.sequence most (form_of t)) (r.1 ++ 12 ∷ []) = (refl, (r.1, refl, codes_one t r.1 r.4)) in
    let more = more_codes (forms_of ts) (form.sequence most (form_of t)) r.0 (r.1 ++ 12 ∷ []) r.3 made in
    (more.0, subst (AreCodes more.0) (sym (append_assoc r.0 r.1 (12 ∷ [])) ∙ ap (λ xs. xs ++ 12 ∷ []) (sym r.2)) more.1)

-- all codes were read
pub read_no_number : (w : Option Counted) (k : Counted) (ts : List Ty) (codes : List ℕ) → w ≡ Some k → HasRead w (forms_of ts) codes → SpellNone codes
read_no_number w k ts codes is read = λ us also valid. waits_for k ts codes (subst (λ x. HasRead x (forms_of ts) codes) is read) us also where
  waits_for : (k : Counted) (ts : List Ty) (codes : List ℕ) → HasRead (Some k) (forms_of ts) codes → (us : Forms) → AreCodes us codes → ⊥
  waits_for Enum ts codes read us also = no_spelling Enum (forms_of ts) us codes read.0 13 read.1 read.2 refl also
  waits_for Struct ts codes read us also = no_spelling Struct (forms_of ts) us codes read.0 14 read.1 read.2 refl also

read_not_valid : (ts : List Ty) (codes : List ℕ) → AreCodes (forms_of ts) codes → ¬ (AreValid (forms_of ts)) → SpellNone codes
read_not_valid ts codes read bad = λ us also valid. bad (subst (λ x. AreValid x) (one_spelling us (forms_of ts) codes also read) valid)

-- some code waits where not all was read
pub some_waits : (w : Option Counted) (b : Bool) (ts : List Ty) (codes : List ℕ) → b ≡ is_some w → b ≡ true → HasRead w (forms_of ts) codes → SpellNone codes
some_waits None b ts codes is held read = absurd (false≢true (sym is ∙ held))
some_waits (Some k) b ts codes is held read = read_no_number (Some k) k ts codes refl read

pub none_waits : (w : Option Counted) (b v : Bool) (ts xs : List Ty) (codes : List ℕ) → b ≡ is_some w → b ≡ false → (IsTrue v ↔ AreValid (forms_of xs)) → xs ≡ ts → v ≡ false → HasRead w (forms_of ts) codes → SpellNone codes
none_waits None b v ts xs codes is none valid same bad read = read_not_valid ts codes read (λ good. false≢true (sym bad ∙ valid.1 (subst (λ ys. AreValid (forms_of ys)) (sym same) good)))
none_waits (Some k) b v ts xs codes is none valid same bad read = absurd (false≢true (sym none ∙ is))

-- codes of which one was read are some
pub some_last : (xs : List ℕ) (x : ℕ) → xs ++ x ∷ [] ≢ []
some_last [] x e = absurd cc
some_last (y ∷ ys) x e = absurd cc

-- a code that is refused is one of no types
pub refused_types : (codes front rest : List ℕ) (s : Spelling) (e : Refusal) (r : Result (Vec Ty Global) Refusal) → codes ≡ front ++ rest → front ≢ [] → Reads front s (Err e) → r ≡ Err e → AreTypes codes r
refused_types codes front rest s e r is some reads gave = subst (λ x. AreTypes codes x) (sym gave) (by_refusal e reads) where
  by_refusal : (e : Refusal) → Reads front s (Err e) → AreTypes codes (Err e)
  by_refusal refusal.Types reads = λ us also valid. reads rest us (subst (λ xs. AreCodes us xs) is also)
  by_refusal refusal.Memory reads = (reads.0, front, rest, is, some, reads.1)
  by_refusal e reads = absurd reads
