-- Digits that stand together, of which a part is read after another.
use Rattle.std.proofs.Common.{◌≡◌, ℕ, ◌+◌, ◌*◌, ◌<◌, ◌≤◌, List, [], ◌∷◌, ◌++◌, length, take, drop, slice_index, append_assoc, Option, Some, None, Result, Ok, Err, inl, inr, refl, sym, ap, ◌∙◌, arith}
use Rattle.std.proofs.lemmas.List.{append-nil, drop_all, drop_more}
use Rattle.std.proofs.lemmas.Simd.{chunk-drop}
use Rattle.hex.specs.Hex.{decode_of, decode_pairs, hex_digit_value}
use Rattle.hex.specs.declared.error.FromHexError.{FromHexError}
use Rattle.digits.specs.declared.reading.DigitError.{DigitError}
use Rattle.digits.specs.Digits.{decoded}
use Rattle.digits.specs.Private.{IsRead, after, given, without_blanks}
use Rattle.digits.proofs.Decoding.{digit-stays, given-pair, given-refused}

abbrev octets_or_none : Result (List ℕ) DigitError → List ℕ
octets_or_none (Ok octets) = octets
octets_or_none (Err e) = []

after-nil : (r : Result (List ℕ) DigitError) → r ≡ after [] r
after-nil (Ok more) = refl
after-nil (Err e) = refl

after-twice : (a b : List ℕ) (r : Result (List ℕ) DigitError) → after a (after b r) ≡ after (a ++ b) r
after-twice a b (Ok more) = ap Ok (sym (append_assoc a b more))
after-twice a b (Err e) = refl

-- what an octet before others shows of them
rest-of : (v : ℕ) (r : Result (List ℕ) DigitError) (more : List ℕ) → after (v ∷ []) r ≡ Ok more → (others : List ℕ) × (r ≡ Ok others) × (more ≡ v ∷ others)
rest-of v (Ok others) more e = (others, refl, sym (ap octets_or_none e))
rest-of v (Err x) more e = cc e

-- digits that give octets, before others and with the blanks left out
pub before : (digits more rest : List ℕ) → given digits ≡ Ok more
    → (given (digits ++ rest) ≡ after more (given rest)) × (given (without_blanks (digits ++ rest)) ≡ after more (given (without_blanks rest)))
unfolding decode_pairs
before [] more rest e =
    let none : [] ≡ more = ap octets_or_none e in
    rw (← none) (after-nil (given rest), after-nil (given (without_blanks rest)))
before (h ∷ []) more rest e = cc e
before (h ∷ l ∷ digits) more rest e = by (λ others o. before digits others rest o) (hex_digit_value h) (hex_digit_value l) refl refl
  where
    by : ((others : List ℕ) → given digits ≡ Ok others → (given (digits ++ rest) ≡ after others (given rest)) × (given (without_blanks (digits ++ rest)) ≡ after others (given (without_blanks rest))))
        → (x y : Option ℕ) → hex_digit_value h ≡ x → hex_digit_value l ≡ y
        → (given (h ∷ l ∷ digits ++ rest) ≡ after more (given rest)) × (given (without_blanks (h ∷ l ∷ digits ++ rest)) ≡ after more (given (without_blanks rest)))
    by ih None y eh el = cc (sym e ∙ given-refused h l digits None y eh el (inl refl))
    by ih (Some x) None eh el = cc (sym e ∙ given-refused h l digits (Some x) None eh el (inr refl))
    by ih (Some x) (Some y) eh el =
        let octet : ℕ = x * 16 + y in
        let parts = rest-of octet (given digits) more (sym (given-pair h l x y digits eh el) ∙ e) in
        let others = parts.0 in
        let both = ih others parts.1 in
        let kept : without_blanks (h ∷ l ∷ digits ++ rest) ≡ h ∷ l ∷ without_blanks (digits ++ rest) = rw (digit-stays h x eh, digit-stays l y el) refl in
        rw parts.2 (
          given-pair h l x y (digits ++ rest) eh el ∙ ap (after (octet ∷ [])) both.0 ∙ after-twice (octet ∷ []) others (given rest),
          ap given kept ∙ given-pair h l x y (without_blanks (digits ++ rest)) eh el ∙ ap (after (octet ∷ [])) both.1 ∙ after-twice (octet ∷ []) others (given (without_blanks rest)),
        )

pub nothing_read : (text : List ℕ) (at : ℕ) (octets : List ℕ) → IsRead text at at octets octets
unfolding decode_pairs
nothing_read text at octets = record { digits = []; more = []; stand = refl; give = refl; appended = sym (append-nil octets) }

pub read_on : (text : List ℕ) (a b c : ℕ) (x y z : List ℕ) → IsRead text a b x y → IsRead text b c y z → IsRead text a c x z
read_on text a b c x y z first second = record {
  digits = first.digits ++ second.digits;
  more = first.more ++ second.more;
  stand = first.stand ∙ ap (λ (ds : List ℕ). first.digits ++ ds) second.stand ∙ sym (append_assoc first.digits second.digits (drop c text));
  give = (before first.digits first.more second.digits first.give).0 ∙ ap (after first.more) second.give;
  appended = second.appended ∙ ap (λ (ds : List ℕ). ds ++ second.more) first.appended ∙ append_assoc x first.more second.more;
}

pub block_read : (text : List ℕ) (at : ℕ) (octets more : List ℕ) → decode_of (take 32 (drop at text)) ≡ Ok more → IsRead text at (at + 32) octets (octets ++ more)
block_read text at octets more e = record {
  digits = take 32 (drop at text);
  more = more;
  stand = chunk-drop at 32 text;
  give = ap decoded e;
  appended = refl;
}

pub pair_read : (text : List ℕ) (at : ℕ) (octets : List ℕ) (x y : ℕ) → at + 1 < length text
    → hex_digit_value (slice_index text at) ≡ Some x → hex_digit_value (slice_index text (at + 1)) ≡ Some y → IsRead text at (at + 2) octets (octets ++ (x * 16 + y) ∷ [])
unfolding decode_pairs
pair_read text at octets x y fits ex ey =
    let two : at + 1 + 1 ≡ at + 2 = omega arith in
    record {
      digits = slice_index text at ∷ slice_index text (at + 1) ∷ [];
      more = (x * 16 + y) ∷ [];
      stand = drop_more text at 0 (omega arith) ∙ ap (λ (ds : List ℕ). slice_index text at ∷ ds) (drop_more text (at + 1) 0 fits ∙ ap (λ (k : ℕ). slice_index text (at + 1) ∷ drop k text) two);
      give = given-pair (slice_index text at) (slice_index text (at + 1)) x y [] ex ey;
      appended = refl;
    }

-- what is read of a text with blanks
pub read_of : (text : List ℕ) (a b : ℕ) (x y : List ℕ) → IsRead text a b x y → after x (given (without_blanks (drop a text))) ≡ after y (given (without_blanks (drop b text)))
read_of text a b x y r =
    rw (r.stand, r.appended) (ap (after x) (before r.digits r.more (drop b text) r.give).1 ∙ after-twice x r.more (given (without_blanks (drop b text))))

decoded-ok : (r : Result (List ℕ) FromHexError) (octets : List ℕ) → decoded r ≡ Ok octets → r ≡ Ok octets
decoded-ok (Ok some) octets e = ap Ok (ap octets_or_none e)
decoded-ok (Err x) octets e = cc e

-- all is read
pub read_whole : (text : List ℕ) (to : ℕ) (octets : List ℕ) → IsRead text 0 to [] octets → length text ≤ to → decode_of text ≡ Ok octets
read_whole text to octets r end =
    let all : text ≡ r.digits = r.stand ∙ ap (λ (ds : List ℕ). r.digits ++ ds) (drop_all to text end) ∙ append-nil r.digits in
    decoded-ok (decode_of text) octets (ap given all ∙ r.give ∙ ap Ok (sym r.appended))
