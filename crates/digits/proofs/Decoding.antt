-- Digits read in pairs, one pair after another, are read as they are all at once.
use Rattle.std.proofs.Common.{◌≡◌, ℕ, ◌+◌, ◌*◌, ◌%◌, ◌<◌, ◌≤◌, ◌⊎◌, List, [], ◌∷◌, ◌++◌, length, drop, slice_index, true, false, append_assoc, Option, Some, None, unwrap_or, Result, Ok, Err, inl, inr, refl, sym, ap, ◌∙◌, arith}
use Rattle.std.proofs.lemmas.Bool.{cases_eq}
use Rattle.std.proofs.lemmas.List.{append-nil, drop_all, drop_more}
use Rattle.hex.specs.Hex.{decode_of, decode_pairs, hex_digit_value, pair_value, digit_or_error, value_at}
use Rattle.hex.specs.declared.error.FromHexError.{FromHexError}
use Rattle.hex.specs.declared.error.FromHexError.TheVariants.{OddLength, InvalidHexCharacter}
use Rattle.hex.proofs.HexLemmas.{decode_of-even}
use Rattle.hex.proofs.Pairs.{cons_byte, decode_pairs-ok_pair}
use Rattle.digits.specs.declared.reading.DigitError.{DigitError}
use Rattle.digits.specs.declared.reading.DigitError.TheVariants as digit
use Rattle.digits.specs.Digits.{decoded, is_blank}
use Rattle.digits.specs.Private.{after, given, odd_or_bad, without_blanks}

-- an odd number of digits is refused first

odd-of : (s : List ℕ) → length s % 2 ≡ 1 → decode_of s ≡ Err OddLength
odd-of s odd = grind (arith)

given-odd : (s : List ℕ) → length s % 2 ≡ 1 → given s ≡ Err digit.Odd
given-odd s odd = ap decoded (odd-of s odd)

given-even : (s : List ℕ) → length s % 2 ≡ 0 → given s ≡ decoded (decode_pairs 0 s)
given-even s even = ap decoded (decode_of-even s even)

refused-odd : (n : ℕ) → n % 2 ≡ 1 → odd_or_bad n ≡ digit.Odd
refused-odd n odd = grind (arith)

refused-even : (n : ℕ) → n % 2 ≡ 0 → odd_or_bad n ≡ digit.Bad
refused-even n even = grind (arith)

-- a digit's value, at any place

good : (c v i : ℕ) → hex_digit_value c ≡ Some v → value_at c i ≡ Ok v
good c v i e = ap (digit_or_error c i) e

bad : (c i : ℕ) → hex_digit_value c ≡ None → value_at c i ≡ Err (InvalidHexCharacter c i)
bad c i e = ap (digit_or_error c i) e

pub pair-good : (h l x y i : ℕ) → hex_digit_value h ≡ Some x → hex_digit_value l ≡ Some y → pair_value h l i ≡ Ok (x * 16 + y)
pair-good h l x y i eh el = rw (good h x i eh, good l y (i + 1) el) refl

pairs-bad-first : (h l i : ℕ) (rest : List ℕ) → hex_digit_value h ≡ None → decoded (decode_pairs i (h ∷ l ∷ rest)) ≡ Err digit.Bad
unfolding decode_pairs
pairs-bad-first h l i rest e = rw (bad h i e) refl

pairs-bad-second : (h l v i : ℕ) (rest : List ℕ) → hex_digit_value h ≡ Some v → hex_digit_value l ≡ None → decoded (decode_pairs i (h ∷ l ∷ rest)) ≡ Err digit.Bad
unfolding decode_pairs
pairs-bad-second h l v i rest eh el = rw (good h v i eh, bad l (i + 1) el) refl

byte-before : (v : ℕ) (r : Result (List ℕ) FromHexError) → decoded (cons_byte v r) ≡ after (v ∷ []) (decoded r)
byte-before v (Ok bytes) = refl
byte-before v (Err e) = refl

pairs-good : (h l x y i : ℕ) (rest : List ℕ) → hex_digit_value h ≡ Some x → hex_digit_value l ≡ Some y
    → decoded (decode_pairs i (h ∷ l ∷ rest)) ≡ after ((x * 16 + y) ∷ []) (decoded (decode_pairs (i + 2) rest))
pairs-good h l x y i rest eh el = ap decoded (decode_pairs-ok_pair i h l (x * 16 + y) rest (pair-good h l x y i eh el)) ∙ byte-before (x * 16 + y) (decode_pairs (i + 2) rest)

-- the places of digits change nothing
anywhere : (i j : ℕ) (s : List ℕ) → decoded (decode_pairs i s) ≡ decoded (decode_pairs j s)
unfolding decode_pairs
anywhere i j [] = refl
anywhere i j (h ∷ []) = refl
anywhere i j (h ∷ l ∷ rest) = by (anywhere (i + 2) (j + 2) rest) (hex_digit_value h) (hex_digit_value l) refl refl
  where
    by : decoded (decode_pairs (i + 2) rest) ≡ decoded (decode_pairs (j + 2) rest) → (x y : Option ℕ) → hex_digit_value h ≡ x → hex_digit_value l ≡ y
        → decoded (decode_pairs i (h ∷ l ∷ rest)) ≡ decoded (decode_pairs j (h ∷ l ∷ rest))
    by same None y eh el = pairs-bad-first h l i rest eh ∙ sym (pairs-bad-first h l j rest eh)
    by same (Some x) None eh el = pairs-bad-second h l x i rest eh el ∙ sym (pairs-bad-second h l x j rest eh el)
    by same (Some x) (Some y) eh el = pairs-good h l x y i rest eh el ∙ ap (after ((x * 16 + y) ∷ [])) same ∙ sym (pairs-good h l x y j rest eh el)

-- a pair, and what is given after it
pub given-pair : (h l x y : ℕ) (rest : List ℕ) → hex_digit_value h ≡ Some x → hex_digit_value l ≡ Some y → given (h ∷ l ∷ rest) ≡ after ((x * 16 + y) ∷ []) (given rest)
given-pair h l x y rest eh el =
    elim (cases_eq (length rest % 2) 1) [
      | inl odd ↦ given-odd (h ∷ l ∷ rest) (omega (arith, odd)) ∙ ap (after ((x * 16 + y) ∷ [])) (sym (given-odd rest odd))
      | inr un ↦
          let even : length rest % 2 ≡ 0 = omega (arith, un) in
          given-even (h ∷ l ∷ rest) (omega (arith, even)) ∙ pairs-good h l x y 0 rest eh el ∙ ap (after ((x * 16 + y) ∷ [])) (anywhere 2 0 rest ∙ sym (given-even rest even))
    ]

-- one that is no digit
pub given-bad : (h l : ℕ) (rest : List ℕ) → decoded (decode_pairs 0 (h ∷ l ∷ rest)) ≡ Err digit.Bad → given (h ∷ l ∷ rest) ≡ Err (odd_or_bad (length (h ∷ l ∷ rest)))
given-bad h l rest e =
    elim (cases_eq (length rest % 2) 1) [
      | inl odd ↦
          let odd2 : length (h ∷ l ∷ rest) % 2 ≡ 1 = omega (arith, odd) in
          given-odd (h ∷ l ∷ rest) odd2 ∙ ap Err (sym (refused-odd (length (h ∷ l ∷ rest)) odd2))
      | inr un ↦
          let even2 : length (h ∷ l ∷ rest) % 2 ≡ 0 = omega (arith, un) in
          given-even (h ∷ l ∷ rest) even2 ∙ e ∙ ap Err (sym (refused-even (length (h ∷ l ∷ rest)) even2))
    ]

-- of two values at least one is no digit's
pub given-refused : (h l : ℕ) (rest : List ℕ) → (x y : Option ℕ) → hex_digit_value h ≡ x → hex_digit_value l ≡ y → (x ≡ None) ⊎ (y ≡ None) → given (h ∷ l ∷ rest) ≡ Err (odd_or_bad (length (h ∷ l ∷ rest)))
given-refused h l rest None y eh el one = given-bad h l rest (pairs-bad-first h l 0 rest eh)
given-refused h l rest (Some x) None eh el one = given-bad h l rest (pairs-bad-second h l x 0 rest eh el)
given-refused h l rest (Some x) (Some y) eh el one = elim one [ inl e ↦ absurd cc | inr e ↦ absurd cc ]

-- octets before octets
pub after-after : (octets : List ℕ) (v : ℕ) (r : Result (List ℕ) DigitError) → after octets (after (v ∷ []) r) ≡ after (octets ++ v ∷ []) r
after-after octets v (Ok more) = ap Ok (sym (append_assoc octets (v ∷ []) more))
after-after octets v (Err e) = refl

-- the next octet of a text, where it is a blank or none
pub passes-blank : (text : List ℕ) (at : ℕ) → at < length text → is_blank (slice_index text at) ≡ true → without_blanks (drop at text) ≡ without_blanks (drop (at + 1) text)
passes-blank text at in_range e = rw (drop_more text at 0 in_range, e) refl

pub keeps-digit : (text : List ℕ) (at : ℕ) → at < length text → is_blank (slice_index text at) ≡ false → without_blanks (drop at text) ≡ slice_index text at ∷ without_blanks (drop (at + 1) text)
keeps-digit text at in_range e = rw (drop_more text at 0 in_range, e) refl

-- two digits with blanks alone between them
pub keeps-pair : (text : List ℕ) (i s : ℕ) → i < length text → is_blank (slice_index text i) ≡ false → without_blanks (drop (i + 1) text) ≡ without_blanks (drop s text) → s < length text → is_blank (slice_index text s) ≡ false
    → without_blanks (drop i text) ≡ slice_index text i ∷ slice_index text s ∷ without_blanks (drop (s + 1) text)
keeps-pair text i s in_range here passed second there =
    keeps-digit text i in_range here ∙ ap (λ (xs : List ℕ). slice_index text i ∷ xs) (passed ∙ keeps-digit text s second there)

-- the value of an octet tells whether it is a digit

by-value : (o : Option ℕ) (v : ℕ) → v ≡ unwrap_or o 255 → (v ≡ 255 → ⊥) → o ≡ Some v
by-value None v e un = absurd (un e)
by-value (Some w) v e un = ap Some (sym e)

pub is-digit : (c v : ℕ) → v ≡ unwrap_or (hex_digit_value c) 255 → (v ≡ 255 → ⊥) → hex_digit_value c ≡ Some v
is-digit c v e un = by-value (hex_digit_value c) v e un

pub no-digit : (c v : ℕ) → v ≡ unwrap_or (hex_digit_value c) 255 → v ≡ 255 → hex_digit_value c ≡ None
no-digit c v e is = grind (arith)

-- a digit is no blank
pub digit-stays : (c v : ℕ) → hex_digit_value c ≡ Some v → is_blank c ≡ false
digit-stays c v e = grind (arith)

-- a pair at a place of a text
pub one-more : (text octets : List ℕ) (i s n x y : ℕ) → without_blanks (drop i text) ≡ slice_index text i ∷ slice_index text s ∷ without_blanks (drop (s + 1) text)
    → hex_digit_value (slice_index text i) ≡ Some x → hex_digit_value (slice_index text s) ≡ Some y → s + 1 ≡ n
    → after octets (given (without_blanks (drop i text))) ≡ after (octets ++ (x * 16 + y) ∷ []) (given (without_blanks (drop n text)))
one-more text octets i s n x y pair ex ey next =
    ap (λ (xs : List ℕ). after octets (given xs)) pair ∙ ap (after octets) (given-pair (slice_index text i) (slice_index text s) x y (without_blanks (drop (s + 1) text)) ex ey)
    ∙ after-after octets (x * 16 + y) (given (without_blanks (drop (s + 1) text))) ∙ ap (λ (k : ℕ). after (octets ++ (x * 16 + y) ∷ []) (given (without_blanks (drop k text)))) next

pub refused-here : (text octets : List ℕ) (i s : ℕ) (e : DigitError) → without_blanks (drop i text) ≡ slice_index text i ∷ slice_index text s ∷ without_blanks (drop (s + 1) text)
    → (hex_digit_value (slice_index text i) ≡ None) ⊎ (hex_digit_value (slice_index text s) ≡ None) → e ≡ odd_or_bad (length (without_blanks (drop i text)))
    → given (without_blanks text) ≡ after octets (given (without_blanks (drop i text)))
    → given (without_blanks text) ≡ Err e
refused-here text octets i s e pair one is whole =
    let h = slice_index text i in
    let l = slice_index text s in
    whole ∙ ap (λ (xs : List ℕ). after octets (given xs)) pair
    ∙ ap (after octets) (given-refused h l (without_blanks (drop (s + 1) text)) (hex_digit_value h) (hex_digit_value l) refl refl one)
    ∙ ap (λ (xs : List ℕ). Err (odd_or_bad (length xs))) (sym pair) ∙ ap Err (sym is)

-- nothing is left
pub all-read : (text octets : List ℕ) (i : ℕ) → length text ≤ i → given (without_blanks text) ≡ after octets (given (without_blanks (drop i text))) → given (without_blanks text) ≡ Ok octets
unfolding decode_pairs
all-read text octets i end whole = whole ∙ ap (λ (xs : List ℕ). after octets (given (without_blanks xs))) (drop_all i text end) ∙ ap Ok (append-nil octets)
