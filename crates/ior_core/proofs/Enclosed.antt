-- References and profiles in encapsulations are spelled where they are read, and read where they are spelled.
use Rattle.std.proofs.Common.{◌≡◌, ℕ, zero, suc, ◌+◌, Bool, List, [], ◌∷◌, ◌++◌, length, Ok, refl, sym, ap, subst, ◌∙◌, arith}
use Rattle.std.proofs.lemmas.List.{append-nil}
use Rattle.hex.specs.Hex.{IsBytes}
use Rattle.hex.proofs.HexLemmas.{decode_of-encode_lower}
use Rattle.cdr_core.specs.declared.order.Order.{Order}
use Rattle.cdr_core.specs.declared.order.Order.TheVariants.{Big, Little}
use Rattle.cdr_core.proofs.Enclosing.{enclosed_found, enclosed_only}
use Rattle.cdr_core.specs.Encapsulation.{byte_order}
use Rattle.cdr_core.specs.Laws.{ReadIsSpelled, SpelledIsRead, WrittenIsSpelled}
use Rattle.cdr_core.specs.Numbers.{AreOctets}
use Rattle.cdr_core.specs.Reading.{◌>>=◌, value_at}
use Rattle.cdr_core.specs.Spelling.{Spells, Takes}
use Rattle.cdr_core.proofs.Steps.{bind_ok, ok_is}
use Rattle.cdr_core.specs.Value as value
use Rattle.cdr_core.specs.Value.{Value, Values}
use Rattle.cdr_core.specs.Writing.{octets_of}
use Rattle.ior_core.specs.Grammar.{profile_1_0, reference}
use Rattle.ior_core.specs.Laws.{ProfilesAreSpelled, ReferencesAreSpelled, SpelledProfilesAreRead, SpelledReferencesAreRead, WrittenProfileIsRead, WrittenTextIsRead}
use Rattle.ior_core.specs.Private.{components_at}
use Rattle.ior_core.specs.Profiles.{body_at, has_minor_0, type_of, type_where, IsBody}
use Rattle.ior_core.proofs.Bodies.{profile_parts}
use Rattle.ior_core.proofs.Structures.{extended}
use Rattle.ior_core.specs.Text.{decoded}
use Rattle.ior_core.specs.Writing.{encapsulation_of}

pub references_found : ReadIsSpelled → ReferencesAreSpelled
references_found found octets v h = enclosed_found found (λ order v. Spells reference order v) (value_at reference) (λ order o octets v p rest h. found reference order o octets v p rest h) octets v h

pub references_only : SpelledIsRead → SpelledReferencesAreRead
references_only only octets v h = enclosed_only only (λ order v. Spells reference order v) (value_at reference) (λ order v o front rest h. only reference order v o front rest h) octets v h

-- a profile has the version with which it is read as 1.0
same_type : ReadIsSpelled → (order : Order) (o : ℕ) (octets : List ℕ) (none : Bool) (h x : Value) (q p : ℕ) (more rest : List ℕ) → value_at profile_1_0 order o octets ≡ Ok (h, q, more) → value_at (type_where none) order o octets ≡ Ok (x, p, rest)
    → has_minor_0 x ≡ has_minor_0 h
same_type found order o octets none h x q p more rest first second =
    let parts = rw first at (sym (profile_parts none order o octets) ∙ second) in
    let b = bind_ok (components_at none order q more) (λ (c : Values × ℕ × List ℕ). Ok (extended h c.0, c.1, c.2)) (x, p, rest) parts in
    let is : extended h b.0.0 ≡ x = ap (λ (t : Value × ℕ × List ℕ). t.0) (ok_is (extended h b.0.0, b.0.1, b.0.2) (x, p, rest) b.2) in
    let t = found profile_1_0 order o octets h q more first in
    subst (λ z. has_minor_0 z ≡ has_minor_0 h) is (same_minor h o t.front b.0.0 t.holds)
  where
    same_minor : (v : Value) (o : ℕ) (front : List ℕ) (c : Values) → Spells profile_1_0 order v o front → has_minor_0 (extended v c) ≡ has_minor_0 v
    same_minor (value.structure (value.value major (value.value minor vs))) o front c s = refl
    same_minor (value.structure (value.value major value.no_values)) o front c s = absurd s.second
    same_minor (value.structure value.no_values) o front c s = absurd s
    same_minor _ o front c s = absurd s

body_found : ReadIsSpelled → (order : Order) (o : ℕ) (octets : List ℕ) (x : Value) (p : ℕ) (rest : List ℕ) → body_at order o octets ≡ Ok (x, p, rest) → Takes (IsBody order x) o octets p rest
unfolding body_at
body_found found order o octets x p rest h =
    let b = bind_ok (value_at profile_1_0 order o octets) (λ (v : Value × ℕ × List ℕ). value_at (type_of v.0) order o octets) (x, p, rest) h in
    let v = b.0 in
    let same = same_type found order o octets (has_minor_0 v.0) v.0 x v.1 p v.2 rest b.1 b.2 in
    subst (λ none. Takes (Spells (type_where none) order x) o octets p rest) (sym same) (found (type_of v.0) order o octets x p rest b.2)

pub profiles_found : ReadIsSpelled → ProfilesAreSpelled
profiles_found found octets v h = enclosed_found found (λ order v. IsBody order v) body_at (body_found found) octets v h

body_reads : ReadIsSpelled → SpelledIsRead → (order : Order) (x : Value) (o : ℕ) (front rest : List ℕ) → IsBody order x o front → body_at order o (front ++ rest) ≡ Ok (x, o + length front, rest)
unfolding body_at
body_reads found only order x o front rest h =
    let whole = only (type_of x) order x o front rest h in
    let parts = sym (profile_parts (has_minor_0 x) order o (front ++ rest)) ∙ whole in
    let b = bind_ok (value_at profile_1_0 order o (front ++ rest)) (λ (v : Value × ℕ × List ℕ). components_at (has_minor_0 x) order v.1 v.2 >>= λ (c : Values × ℕ × List ℕ). Ok (extended v.0 c.0, c.1, c.2)) (x, o + length front, rest) parts in
    let v = b.0 in
    let same = same_type found order o (front ++ rest) (has_minor_0 x) v.0 x v.1 (o + length front) v.2 rest b.1 whole in
    rw (b.1, ← same) whole

pub profiles_only : ReadIsSpelled → SpelledIsRead → SpelledProfilesAreRead
profiles_only found only octets v h = enclosed_only only (λ order v. IsBody order v) body_at (body_reads found only) octets v h

-- what is written

are_bytes : (octets : List ℕ) → AreOctets octets → IsBytes octets
are_bytes [] h i = omega arith
are_bytes (x ∷ xs) h zero = h.0
are_bytes (x ∷ xs) h (suc i) = are_bytes xs h.1 i

after_byte_order : (order : Order) (octets : List ℕ) → AreOctets octets → IsBytes (byte_order order ∷ octets)
after_byte_order Big octets h = are_bytes (0 ∷ octets) (omega arith, h)
after_byte_order Little octets h = are_bytes (1 ∷ octets) (omega arith, h)

pub text_read : SpelledIsRead → WrittenIsSpelled → WrittenTextIsRead
text_read only written v fits octets =
    let whole : encapsulation_of v ≡ byte_order Big ∷ (octets_of Big v 1 ++ []) = ap (λ xs. byte_order Big ∷ xs) (sym (append-nil (octets_of Big v 1))) in
    let bytes : IsBytes (encapsulation_of v) = after_byte_order Big (octets_of Big v 1) octets in
    (ap decoded (decode_of-encode_lower (encapsulation_of v) bytes), references_only only (encapsulation_of v) v (record { order = Big; front = octets_of Big v 1; rest = []; parts = whole; holds = written reference Big v fits 1 }))

pub profile_read : ReadIsSpelled → SpelledIsRead → WrittenIsSpelled → WrittenProfileIsRead
profile_read found only written v fits =
    let front = octets_of Big v 1 in
    let whole : encapsulation_of v ≡ byte_order Big ∷ (front ++ []) = ap (λ xs. byte_order Big ∷ xs) (sym (append-nil front)) in
    profiles_only found only (encapsulation_of v) v (record { order = Big; front = front; rest = []; parts = whole; holds = written (type_of v) Big v fits 1 })
