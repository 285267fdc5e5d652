-- What the code's values are to the accessors.
use Rattle.std.proofs.Common.{◌≡◌, Bool, ℕ, zero, suc, List, [], ◌∷◌, slice_get, option_map, Bor, is_some, IfSome, ltb, ltb-true, ltb-false, length, get_or, Option, Some, None, Vec, Global, ℤ, refl, sym, ap, ◌∙◌, rules}
use Rattle.std.proofs.lemmas.Option.{slice_get_past, slice_get_read}
use Rattle.cdr_core.specs.Value.{Value}
use Rattle.cdr_core.specs.View.{value_of, value_step, values_of}
use Rattle.cdr_core.specs.declared.values.Val.{Val, fold_out-Val, map-Val, out-Val, roll-Val, roll-out-Val, the_lemmas}
use Rattle.cdr_core.specs.declared.values.Val.TheOpen.{Val-F}
use Rattle.cdr_core.specs.declared.values.Val.TheVariants as val
use Rattle.ft_objects.specs.Accessors.{argument_at, boolean_of, char_of, long_of, longlong_of, octet_of, octets_in, ordinal_of, short_of, string_of, ulong_of, ulonglong_of, ushort_of}

-- the value at an index
pub argument-at : (vs : List Val) (i : ℕ) → argument_at i (values_of vs) ≡ option_map value_of (slice_get vs i)
argument-at [] i = refl
argument-at (v ∷ vs) zero = refl
argument-at (v ∷ vs) (suc i) = argument-at vs i

-- the value that is lent
pub lent : (r : Option (Bor Val)) (vs : List Val) (i : ℕ) → is_some r ≡ ltb i (length vs) → IfSome r (λ v. v.now ≡ get_or vs i v.now) → option_map (λ (v : Bor Val). value_of v.now) r ≡ argument_at i (values_of vs)
lent None vs i there is = sym (argument-at vs i ∙ ap (option_map value_of) (slice_get_past vs i (ltb-false i (length vs) (sym there))))
lent (Some v) vs i there is = sym (argument-at vs i ∙ ap (option_map value_of) (slice_get_read vs (length vs) i v.now refl (ltb-true i (length vs) (sym there)) is))

-- a value by its outermost layer
by_layer : {A : Type 0} (f : Value → Option A) (v : Val) → ((o : Val-F Val) → v ≡ roll-Val o → f (value_step (map-Val Val Value value_of o)) ≡ None) → f (value_of v) ≡ None
by_layer f v none = ap f (fold_out-Val Value value_step v) ∙ none (out-Val v) (sym (roll-out-Val v))

pub of_boolean : (b : Bool) → boolean_of (value_of (val.Boolean b)) ≡ Some b
of_boolean b = search (rules, the_lemmas)

pub no_boolean : (v : Val) → ((b : Bool) → v ≡ val.Boolean b → ⊥) → boolean_of (value_of v) ≡ None
no_boolean v other = by_layer boolean_of v go
  where
    go : (o : Val-F Val) → v ≡ roll-Val o → boolean_of (value_step (map-Val Val Value value_of o)) ≡ None
    go (Val-F.Boolean b) is = absurd (other b (is ∙ val.rolls-Boolean b))
    go (Val-F.Union d None) is = refl
    go (Val-F.Union d (Some m)) is = refl
    go _ is = refl

pub of_char : (n : ℕ) → char_of (value_of (val.Char n)) ≡ Some n
of_char n = search (rules, the_lemmas)

pub no_char : (v : Val) → ((n : ℕ) → v ≡ val.Char n → ⊥) → char_of (value_of v) ≡ None
no_char v other = by_layer char_of v go
  where
    go : (o : Val-F Val) → v ≡ roll-Val o → char_of (value_step (map-Val Val Value value_of o)) ≡ None
    go (Val-F.Char n) is = absurd (other n (is ∙ val.rolls-Char n))
    go (Val-F.Union d None) is = refl
    go (Val-F.Union d (Some m)) is = refl
    go _ is = refl

pub of_octet : (n : ℕ) → octet_of (value_of (val.Octet n)) ≡ Some n
of_octet n = search (rules, the_lemmas)

pub no_octet : (v : Val) → ((n : ℕ) → v ≡ val.Octet n → ⊥) → octet_of (value_of v) ≡ None
no_octet v other = by_layer octet_of v go
  where
    go : (o : Val-F Val) → v ≡ roll-Val o → octet_of (value_step (map-Val Val Value value_of o)) ≡ None
    go (Val-F.Octet n) is = absurd (other n (is ∙ val.rolls-Octet n))
    go (Val-F.Union d None) is = refl
    go (Val-F.Union d (Some m)) is = refl
    go _ is = refl

pub of_short : (z : ℤ) → short_of (value_of (val.Short z)) ≡ Some z
of_short z = search (rules, the_lemmas)

pub no_short : (v : Val) → ((z : ℤ) → v ≡ val.Short z → ⊥) → short_of (value_of v) ≡ None
no_short v other = by_layer short_of v go
  where
    go : (o : Val-F Val) → v ≡ roll-Val o → short_of (value_step (map-Val Val Value value_of o)) ≡ None
    go (Val-F.Short z) is = absurd (other z (is ∙ val.rolls-Short z))
    go (Val-F.Union d None) is = refl
    go (Val-F.Union d (Some m)) is = refl
    go _ is = refl

pub of_ushort : (n : ℕ) → ushort_of (value_of (val.UShort n)) ≡ Some n
of_ushort n = search (rules, the_lemmas)

pub no_ushort : (v : Val) → ((n : ℕ) → v ≡ val.UShort n → ⊥) → ushort_of (value_of v) ≡ None
no_ushort v other = by_layer ushort_of v go
  where
    go : (o : Val-F Val) → v ≡ roll-Val o → ushort_of (value_step (map-Val Val Value value_of o)) ≡ None
    go (Val-F.UShort n) is = absurd (other n (is ∙ val.rolls-UShort n))
    go (Val-F.Union d None) is = refl
    go (Val-F.Union d (Some m)) is = refl
    go _ is = refl

pub of_long : (z : ℤ) → long_of (value_of (val.Long z)) ≡ Some z
of_long z = search (rules, the_lemmas)

pub no_long : (v : Val) → ((z : ℤ) → v ≡ val.Long z → ⊥) → long_of (value_of v) ≡ None
no_long v other = by_layer long_of v go
  where
    go : (o : Val-F Val) → v ≡ roll-Val o → long_of (value_step (map-Val Val Value value_of o)) ≡ None
    go (Val-F.Long z) is = absurd (other z (is ∙ val.rolls-Long z))
    go (Val-F.Union d None) is = refl
    go (Val-F.Union d (Some m)) is = refl
    go _ is = refl

pub of_ulong : (n : ℕ) → ulong_of (value_of (val.ULong n)) ≡ Some n
of_ulong n = search (rules, the_lemmas)

pub no_ulong : (v : Val) → ((n : ℕ) → v ≡ val.ULong n → ⊥) → ulong_of (value_of v) ≡ None
no_ulong v other = by_layer ulong_of v go
  where
    go : (o : Val-F Val) → v ≡ roll-Val o → ulong_of (value_step (map-Val Val Value value_of o)) ≡ None
    go (Val-F.ULong n) is = absurd (other n (is ∙ val.rolls-ULong n))
    go (Val-F.Union d None) is = refl
    go (Val-F.Union d (Some m)) is = refl
    go _ is = refl

pub of_longlong : (z : ℤ) → longlong_of (value_of (val.LongLong z)) ≡ Some z
of_longlong z = search (rules, the_lemmas)

pub no_longlong : (v : Val) → ((z : ℤ) → v ≡ val.LongLong z → ⊥) → longlong_of (value_of v) ≡ None
no_longlong v other = by_layer longlong_of v go
  where
    go : (o : Val-F Val) → v ≡ roll-Val o → longlong_of (value_step (map-Val Val Value value_of o)) ≡ None
    go (Val-F.LongLong z) is = absurd (other z (is ∙ val.rolls-LongLong z))
    go (Val-F.Union d None) is = refl
    go (Val-F.Union d (Some m)) is = refl
    go _ is = refl

pub of_ulonglong : (n : ℕ) → ulonglong_of (value_of (val.ULongLong n)) ≡ Some n
of_ulonglong n = search (rules, the_lemmas)

pub no_ulonglong : (v : Val) → ((n : ℕ) → v ≡ val.ULongLong n → ⊥) → ulonglong_of (value_of v) ≡ None
no_ulonglong v other = by_layer ulonglong_of v go
  where
    go : (o : Val-F Val) → v ≡ roll-Val o → ulonglong_of (value_step (map-Val Val Value value_of o)) ≡ None
    go (Val-F.ULongLong n) is = absurd (other n (is ∙ val.rolls-ULongLong n))
    go (Val-F.Union d None) is = refl
    go (Val-F.Union d (Some m)) is = refl
    go _ is = refl

pub of_string : (text : Vec ℕ Global) → string_of (value_of (val.Str text)) ≡ Some text.items
of_string text = search (rules, the_lemmas)

pub no_string : (v : Val) → ((text : Vec ℕ Global) → v ≡ val.Str text → ⊥) → string_of (value_of v) ≡ None
no_string v other = by_layer string_of v go
  where
    go : (o : Val-F Val) → v ≡ roll-Val o → string_of (value_step (map-Val Val Value value_of o)) ≡ None
    go (Val-F.Str text) is = absurd (other text (is ∙ val.rolls-Str text))
    go (Val-F.Union d None) is = refl
    go (Val-F.Union d (Some m)) is = refl
    go _ is = refl

pub of_octets : (all : Vec ℕ Global) → octets_in (value_of (val.Octets all)) ≡ Some all.items
of_octets all = search (rules, the_lemmas)

pub no_octets : (v : Val) → ((all : Vec ℕ Global) → v ≡ val.Octets all → ⊥) → octets_in (value_of v) ≡ None
no_octets v other = by_layer octets_in v go
  where
    go : (o : Val-F Val) → v ≡ roll-Val o → octets_in (value_step (map-Val Val Value value_of o)) ≡ None
    go (Val-F.Octets all) is = absurd (other all (is ∙ val.rolls-Octets all))
    go (Val-F.Union d None) is = refl
    go (Val-F.Union d (Some m)) is = refl
    go _ is = refl

pub of_ordinal : (n : ℕ) → ordinal_of (value_of (val.Enum n)) ≡ Some n
of_ordinal n = search (rules, the_lemmas)

pub no_ordinal : (v : Val) → ((n : ℕ) → v ≡ val.Enum n → ⊥) → ordinal_of (value_of v) ≡ None
no_ordinal v other = by_layer ordinal_of v go
  where
    go : (o : Val-F Val) → v ≡ roll-Val o → ordinal_of (value_step (map-Val Val Value value_of o)) ≡ None
    go (Val-F.Enum n) is = absurd (other n (is ∙ val.rolls-Enum n))
    go (Val-F.Union d None) is = refl
    go (Val-F.Union d (Some m)) is = refl
    go _ is = refl
