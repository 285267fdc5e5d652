-- What types and values of the code stand for, variant by variant.
use Rattle.std.proofs.Common.{◌≡◌, ℕ, suc, ◌+◌, ◌<◌, List, [], ◌∷◌, ◌++◌, length, take, get_or, Option, Some, None, Box, Vec, Global, refl, sym, ap, ◌∙◌, rules}
use Rattle.std.proofs.lemmas.List.{take_more}
use Rattle.cdr_core.specs.Form as form
use Rattle.cdr_core.specs.Form.{Form, Forms}
use Rattle.cdr_core.specs.Value as value
use Rattle.cdr_core.specs.Value.{Value, Values, count}
use Rattle.cdr_core.proofs.Turns.{values_push, with_last}
use Rattle.cdr_core.specs.View.{form_of, value_of, values_of, held}
use Rattle.cdr_core.specs.declared.types.Ty.{Ty, the_lemmas as ty_lemmas}
use Rattle.cdr_core.specs.declared.types.Ty.TheVariants as ty
use Rattle.cdr_core.specs.declared.values.Val.{Val, the_lemmas}
use Rattle.cdr_core.specs.declared.values.Val.TheVariants as val

pub value_of-Union : (d : Box Val Global) (m : Option (Box Val Global)) → value_of (val.Union d m) ≡ value.union (value_of d.value) (held m)
value_of-Union d None = search (rules, the_lemmas)
value_of-Union d (Some m) = search (rules, the_lemmas)

pub value_of-Seq : (vs : Vec Val Global) → value_of (val.Seq vs) ≡ value.sequence (values_of vs.items)
value_of-Seq vs = search (rules, the_lemmas)

pub value_of-Array : (vs : Vec Val Global) → value_of (val.Array vs) ≡ value.array (values_of vs.items)
value_of-Array vs = search (rules, the_lemmas)

pub value_of-Struct : (vs : Vec Val Global) → value_of (val.Struct vs) ≡ value.structure (values_of vs.items)
value_of-Struct vs = search (rules, the_lemmas)

pub form_of-Seq : (n : ℕ) (t : Box Ty Global) → form_of (ty.Seq n t) ≡ form.sequence n (form_of t.value)
form_of-Seq n t = search (rules, ty_lemmas)

pub form_of-Array : (n : ℕ) (t : Box Ty Global) → form_of (ty.Array n t) ≡ form.array n (form_of t.value)
form_of-Array n t = search (rules, ty_lemmas)

pub count_values_of : (vs : List Val) → count (values_of vs) ≡ length vs
count_values_of [] = refl
count_values_of (v ∷ vs) = ap suc (count_values_of vs)

pub values_of-push : (vs : List Val) (v : Val) → values_of (vs ++ v ∷ []) ≡ with_last (values_of vs) (value_of v)
values_of-push vs v = values_push value_of vs v

-- copies of the first values, and the copy of the next
pub one_more : (all copies : List Val) (i : ℕ) (v w : Val) → i < length all → w ≡ get_or all i w → value_of v ≡ value_of w → values_of copies ≡ values_of (take i all)
    → values_of (copies ++ v ∷ []) ≡ values_of (take (i + 1) all)
one_more all copies i v w lt is same h =
    let more : take (i + 1) all ≡ take i all ++ w ∷ [] = take_more all i w lt ∙ ap (λ x. take i all ++ x ∷ []) (sym is) in
    values_of-push copies v ∙ rw (h, same) (sym (values_of-push (take i all) w)) ∙ ap values_of (sym more)
