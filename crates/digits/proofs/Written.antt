-- Digits that are written, a block at a time.
use Rattle.std.proofs.Common.{◌≡◌, ℕ, zero, suc, ◌+◌, ◌*◌, ◌/◌, ◌%◌, ◌^◌, ◌<◌, ◌≤◌, eqb, leb, bit_and, true, cond, List, [], ◌∷◌, ◌++◌, map, length, replicate, take, drop, slice_index, take-add, Fits, w8, eqb-true, refl, sym, ap, ◌∙◌, arith}
use Rattle.std.proofs.lemmas.Bool.{agree_below, agree_below_at}
use Rattle.std.proofs.lemmas.List.{take-take}
use Rattle.std.proofs.lemmas.Nat.{and_le_r}
use Rattle.std.proofs.lemmas.Simd.{Each1-all, Each1-weaker, Each1-zip2, Each2-splat, below_from_Fits, length-zip2, swz_l, SwzOk, SwzOk-from_below}
use Rattle.std.specs.Simd.Lanes.{Each1, pick_l, zip2}
use Rattle.hex.specs.Hex.{encode_lower, encode_with, lower_digits}
use Rattle.digits.proofs.Blocks.{by_elements}

abbrev pub IsBlock : List ℕ → Type 0
IsBlock v = (length v ≡ 16) × Each1 (Fits w8) v

-- the halves of each octet

abbrev pub down : ℕ → ℕ → ℕ
down a b = a / 2 ^ b

pub high_ok : (v : List ℕ) → IsBlock v → SwzOk w8 16 16 0 (zip2 down v (replicate 16 4))
high_ok v fits =
    let small = Each1-weaker (λ a. a < 256) (λ a. a / 16 < 16) (λ a h. omega arith) v (below_from_Fits w8 v fits.1) in
    SwzOk-from_below w8 16 1 16 0 (zip2 down v (replicate 16 4)) refl (omega (arith, length-zip2 down v (replicate 16 4) fits.0))
    (Each1-zip2 down (λ j. j < 16) v (replicate 16 4) (Each2-splat (λ a b. down a b < 16) v 16 4 small))

pub low_ok : (v : List ℕ) → IsBlock v → SwzOk w8 16 16 0 (zip2 bit_and v (replicate 16 15))
low_ok v fits =
    let small = Each1-all (λ a. bit_and a 15 < 16) (λ a. omega (arith, and_le_r a 15)) v in
    SwzOk-from_below w8 16 1 16 0 (zip2 bit_and v (replicate 16 15)) refl (omega (arith, length-zip2 bit_and v (replicate 16 15) fits.0))
    (Each1-zip2 bit_and (λ j. j < 16) v (replicate 16 15) (Each2-splat (λ a b. bit_and a b < 16) v 16 15 small))

-- the digits of the halves

-- what is looked up for an octet
abbrev digit : (ℕ → ℕ) → ℕ → ℕ
digit half c = cond (leb 128 (half c)) 0 (slice_index lower_digits (0 + half c))

same-digits : (half is : ℕ → ℕ) → agree_below (λ c. eqb (digit half c) (is c)) (λ _. true) 256 ≡ true → (v : List ℕ) → Each1 (Fits w8) v → map (digit half) v ≡ map is v
same-digits half is all [] fits = refl
same-digits half is all (c ∷ v) fits =
    let told : eqb (digit half c) (is c) ≡ true = agree_below_at (λ c. eqb (digit half c) (is c)) (λ _. true) 256 c all fits.0.fits in
    rw (eqb-true (digit half c) (is c) told, same-digits half is all v fits.1) refl

abbrev pub high_digits : List ℕ → List ℕ
high_digits v = map (λ octet. slice_index lower_digits (octet / 16)) v

abbrev pub low_digits : List ℕ → List ℕ
low_digits v = map (λ octet. slice_index lower_digits (octet % 16)) v

high-lanes : (v : List ℕ) → length v ≡ 16 → swz_l w8 16 lower_digits 0 (zip2 down v (replicate 16 4)) ≡ map (digit (λ c. down c 4)) v
high-lanes = by_elements 16 (λ v. swz_l w8 16 lower_digits 0 (zip2 down v (replicate 16 4)) ≡ map (digit (λ c. down c 4)) v) (λ x0 x1 x2 x3 x4 x5 x6 x7 x8 x9 x10 x11 x12 x13 x14 x15. refl)

low-lanes : (v : List ℕ) → length v ≡ 16 → swz_l w8 16 lower_digits 0 (zip2 bit_and v (replicate 16 15)) ≡ map (digit (λ c. bit_and c 15)) v
low-lanes = by_elements 16 (λ v. swz_l w8 16 lower_digits 0 (zip2 bit_and v (replicate 16 15)) ≡ map (digit (λ c. bit_and c 15)) v) (λ x0 x1 x2 x3 x4 x5 x6 x7 x8 x9 x10 x11 x12 x13 x14 x15. refl)

pub high_are : (v : List ℕ) → IsBlock v → swz_l w8 16 lower_digits 0 (zip2 down v (replicate 16 4)) ≡ high_digits v
high_are v fits = high-lanes v fits.0 ∙ same-digits (λ c. down c 4) (λ octet. slice_index lower_digits (octet / 16)) refl v fits.1

pub low_are : (v : List ℕ) → IsBlock v → swz_l w8 16 lower_digits 0 (zip2 bit_and v (replicate 16 15)) ≡ low_digits v
low_are v fits = low-lanes v fits.0 ∙ same-digits (λ c. bit_and c 15) (λ octet. slice_index lower_digits (octet % 16)) refl v fits.1

abbrev pub in_turn : List ℕ
in_turn = 0 ∷ 16 ∷ 1 ∷ 17 ∷ 2 ∷ 18 ∷ 3 ∷ 19 ∷ 4 ∷ 20 ∷ 5 ∷ 21 ∷ 6 ∷ 22 ∷ 7 ∷ 23 ∷ 8 ∷ 24 ∷ 9 ∷ 25 ∷ 10 ∷ 26 ∷ 11 ∷ 27 ∷ 12 ∷ 28 ∷ 13 ∷ 29 ∷ 14 ∷ 30 ∷ 15 ∷ 31 ∷ []

-- both digits of each octet in turn
pub both_are : (v : List ℕ) → length v ≡ 16 → pick_l 0 (high_digits v ++ low_digits v) in_turn ≡ encode_lower v
unfolding encode_with
both_are = by_elements 16 (λ v. pick_l 0 (high_digits v ++ low_digits v) in_turn ≡ encode_lower v) (λ x0 x1 x2 x3 x4 x5 x6 x7 x8 x9 x10 x11 x12 x13 x14 x15. refl)

-- digits before others

written-append : (xs ys : List ℕ) → encode_lower (xs ++ ys) ≡ encode_lower xs ++ encode_lower ys
unfolding encode_with
written-append [] ys = refl
written-append (x ∷ xs) ys = ap (λ (ds : List ℕ). slice_index lower_digits (x / 16) ∷ slice_index lower_digits (x % 16) ∷ ds) (written-append xs ys)

take-written : (n : ℕ) (xs : List ℕ) → take (2 * n) (encode_lower xs) ≡ encode_lower (take n xs)
unfolding encode_with
take-written zero xs = refl
take-written (suc n) [] =
    let two : 2 * suc n ≡ suc (suc (2 * n)) = omega arith in
    rw two refl
take-written (suc n) (x ∷ xs) =
    let two : 2 * suc n ≡ suc (suc (2 * n)) = omega arith in
    rw two (ap (λ (ds : List ℕ). slice_index lower_digits (x / 16) ∷ slice_index lower_digits (x % 16) ∷ ds) (take-written n xs))

-- the digits of the octets up to a place are those of the octets up to one before it
fewer-written : (octets digits : List ℕ) (p at : ℕ) → p ≤ at → take (2 * at) digits ≡ encode_lower (take at octets) → take (2 * p) digits ≡ encode_lower (take p octets)
fewer-written octets digits p at le e =
    sym (take-take (2 * p) (2 * at) digits (omega (arith, le))) ∙ ap (take (2 * p)) e ∙ take-written p (take at octets) ∙ ap encode_lower (take-take p at octets le)

pub block_written : (octets old new : List ℕ) (p at : ℕ) → p ≤ at → take (2 * at) old ≡ encode_lower (take at octets)
    → take (2 * (p + 16)) new ≡ take (2 * p) old ++ encode_lower (take 16 (drop p octets)) → take (2 * (p + 16)) new ≡ encode_lower (take (p + 16) octets)
block_written octets old new p at le e written =
    written ∙ ap (λ (ds : List ℕ). ds ++ encode_lower (take 16 (drop p octets))) (fewer-written octets old p at le e)
    ∙ sym (written-append (take p octets) (take 16 (drop p octets))) ∙ ap encode_lower (sym (take-add p 16 octets))
