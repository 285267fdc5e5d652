-- A block of digits, by what its lanes hold.
use Rattle.std.proofs.Common.{◌≡◌, ℕ, zero, suc, ◌+◌, ◌-◌, ◌*◌, ◌%◌, ◌^◌, ◌<◌, ◌≤◌, eqb, leb, ltb, bit_and, bit_or, Bool, true, false, ◌&&◌, ◌||◌, cond, List, [], ◌∷◌, ◌++◌, map, length, replicate, Some, unwrap_or, Ok, Fits, w8, refl, sym, ap, ◌∙◌, arith}
use Rattle.std.proofs.lemmas.Bool.{agree_below, agree_below_at, and_parts, eqb-true, ltb-true}
use Rattle.std.proofs.lemmas.Simd.{mask_l-mod}
use Rattle.std.specs.Simd.Lanes.{Each1, mask_l, pick_l, sel_l, top, zip2}
use Rattle.hex.specs.Hex.{decode_of, decode_pairs, hex_digit_value}
use Rattle.hex.proofs.HexLemmas.{decode_of-even}
use Rattle.hex.proofs.Pairs.{cons_byte, decode_pairs-ok_pair}
use Rattle.digits.proofs.Decoding.{is-digit, pair-good}

-- what holds of each list of n elements that is written out
abbrev pub written_out : ℕ → (List ℕ → Type 0) → Type 0
written_out zero P = P []
written_out (suc n) P = (x : ℕ) → written_out n (λ xs. P (x ∷ xs))

-- it holds of each list that has n elements
pub by_elements : (n : ℕ) (P : List ℕ → Type 0) → written_out n P → (xs : List ℕ) → length xs ≡ n → P xs
by_elements zero P h [] e = h
by_elements zero P h (x ∷ xs) e = absurd (omega arith)
by_elements (suc n) P h [] e = absurd (omega arith)
by_elements (suc n) P h (x ∷ xs) e = by_elements n (λ ys. P (x ∷ ys)) (h x) xs (omega arith)

-- two lanes of values as an octet
abbrev pub paired : List ℕ → List ℕ
paired [] = []
paired (h ∷ []) = []
paired (h ∷ l ∷ rest) = (h * 16 % 256 + l) % 256 ∷ paired rest

-- no lane's bit is set
unset : (b : Bool) (m : ℕ) → cond b 1 0 + 2 * m ≡ 0 → (b ≡ false) × (m ≡ 0)
unset true m e = absurd (omega arith)
unset false m e = (refl, omega arith)

-- a lane of f tells that an octet is no digit, or that of g is its value
abbrev pub tells : (ℕ → ℕ) → (ℕ → ℕ) → ℕ → Bool
tells f g c = top 7 (f c) || (eqb (g c) (unwrap_or (hex_digit_value c) 255) && ltb (g c) 16)

digit-here : (f g : ℕ → ℕ) → agree_below (tells f g) (λ _. true) 256 ≡ true → (c : ℕ) → c < 256 → top 7 (f c) ≡ false → (hex_digit_value c ≡ Some (g c)) × (g c < 16)
digit-here f g all c lt none =
    let told : tells f g c ≡ true = agree_below_at (tells f g) (λ _. true) 256 c all lt in
    let parts = and_parts (eqb (g c) (unwrap_or (hex_digit_value c) 255)) (ltb (g c) 16) (rw none at told) in
    let small : g c < 16 = ltb-true (g c) 16 parts.1 in
    (is-digit c (g c) (eqb-true (g c) (unwrap_or (hex_digit_value c) 255) parts.0) (λ e. absurd (omega (arith, small, e))), small)

pub read_at_once : (f g : ℕ → ℕ) → agree_below (tells f g) (λ _. true) 256 ≡ true → (i : ℕ) (v : List ℕ) → Each1 (Fits w8) v → length v % 2 ≡ 0
    → mask_l (map (top 7) (map f v)) ≡ 0 → decode_pairs i v ≡ Ok (paired (map g v))
unfolding decode_pairs
read_at_once f g all i [] fits even none = refl
read_at_once f g all i (h ∷ []) fits even none = absurd (omega arith)
read_at_once f g all i (h ∷ l ∷ rest) fits even none =
    let first = unset (top 7 (f h)) (mask_l (map (top 7) (map f (l ∷ rest)))) none in
    let second = unset (top 7 (f l)) (mask_l (map (top 7) (map f rest))) first.1 in
    let high = digit-here f g all h fits.0.fits first.0 in
    let low = digit-here f g all l fits.1.0.fits second.0 in
    let same : g h * 16 + g l ≡ (g h * 16 % 256 + g l) % 256 = omega (arith, high.1, low.1) in
    decode_pairs-ok_pair i h l (g h * 16 + g l) rest (pair-good h l (g h) (g l) i high.0 low.0)
    ∙ ap (cons_byte (g h * 16 + g l)) (read_at_once f g all (i + 2) rest fits.1.1 (omega (arith, even)) second.1)
    ∙ ap (λ (b : ℕ). Ok (b ∷ paired (map g rest))) same

-- the lanes of `octets_at`

abbrev decimal : ℕ → ℕ
decimal c = (c + 208) % 256

abbrev letter : ℕ → ℕ
letter c = (bit_or c 32 + 159) % 256

abbrev pub is_bad : ℕ → ℕ
is_bad c = bit_and (cond (leb 10 (decimal c)) 255 0) (cond (leb 6 (letter c)) 255 0)

abbrev value : ℕ → ℕ
value c = cond (top 7 (cond (ltb (decimal c) ((letter c + 10) % 256)) 255 0)) (decimal c) ((letter c + 10) % 256)

abbrev decimals : List ℕ → List ℕ
decimals v = zip2 (λ a b. (a + (256 - b)) % 256) v (replicate 32 48)

abbrev letters : List ℕ → List ℕ
letters v = zip2 (λ a b. (a + (256 - b)) % 256) (zip2 bit_or v (replicate 32 32)) (replicate 32 97)

abbrev pub bad_lanes : List ℕ → List ℕ
bad_lanes v = zip2 bit_and (zip2 (λ a b. cond (leb a b) 255 0) (replicate 32 10) (decimals v)) (zip2 (λ a b. cond (leb a b) 255 0) (replicate 32 6) (letters v))

abbrev higher : List ℕ → List ℕ
higher v = zip2 (λ a b. (a + b) % 256) (letters v) (replicate 32 10)

abbrev values : List ℕ → List ℕ
values v = sel_l (map (top 7) (zip2 (λ a b. cond (ltb a b) 255 0) (decimals v) (higher v))) (decimals v) (higher v)

abbrev pub octet_lanes : List ℕ → List ℕ
octet_lanes v = zip2 (λ a b. (a + b) % 256)
    (zip2 (λ a b. (a * b) % 256) (pick_l 0 (values v ++ values v) (0 ∷ 2 ∷ 4 ∷ 6 ∷ 8 ∷ 10 ∷ 12 ∷ 14 ∷ 16 ∷ 18 ∷ 20 ∷ 22 ∷ 24 ∷ 26 ∷ 28 ∷ 30 ∷ [])) (replicate 16 16))
    (pick_l 0 (values v ++ values v) (1 ∷ 3 ∷ 5 ∷ 7 ∷ 9 ∷ 11 ∷ 13 ∷ 15 ∷ 17 ∷ 19 ∷ 21 ∷ 23 ∷ 25 ∷ 27 ∷ 29 ∷ 31 ∷ []))

octets-are : (v : List ℕ) → length v ≡ 32 → paired (map value v) ≡ octet_lanes v
octets-are = by_elements 32 (λ v. paired (map value v) ≡ octet_lanes v) (λ x0 x1 x2 x3 x4 x5 x6 x7 x8 x9 x10 x11 x12 x13 x14 x15 x16 x17 x18 x19 x20 x21 x22 x23 x24 x25 x26 x27 x28 x29 x30 x31. refl)

bad-are : (v : List ℕ) → length v ≡ 32 → bad_lanes v ≡ map is_bad v
bad-are = by_elements 32 (λ v. bad_lanes v ≡ map is_bad v) (λ x0 x1 x2 x3 x4 x5 x6 x7 x8 x9 x10 x11 x12 x13 x14 x15 x16 x17 x18 x19 x20 x21 x22 x23 x24 x25 x26 x27 x28 x29 x30 x31. refl)

length-of : {A : Type 0} (f : ℕ → A) (xs : List ℕ) → length (map f xs) ≡ length xs
length-of f [] = refl
length-of f (x ∷ xs) = ap suc (length-of f xs)

pub block_gives : (v : List ℕ) → length v ≡ 32 → Each1 (Fits w8) v → mask_l (map (top 7) (bad_lanes v)) % 2 ^ 64 ≡ 0 → decode_of v ≡ Ok (octet_lanes v)
block_gives v long fits none =
    let lanes = map (top 7) (map is_bad v) in
    let few : length lanes ≤ 64 = omega (arith, long, length-of (top 7) (map is_bad v), length-of is_bad v) in
    let set : mask_l lanes ≡ 0 = sym (mask_l-mod lanes 64 few) ∙ ap (λ (l : List ℕ). mask_l (map (top 7) l) % 2 ^ 64) (sym (bad-are v long)) ∙ none in
    decode_of-even v (omega (arith, long)) ∙ read_at_once is_bad value refl 0 v fits (omega (arith, long)) set
    ∙ ap Ok (octets-are v long)
