-- How many octets messages and references have.
use Rattle.std.proofs.Common.{◌≡◌, ◌∙◌, ℕ, zero, suc, ℤ, ◌+◌, ◌*◌, ◌<◌, ◌≤◌, ◌^◌, ◌⊎◌, inl, inr, Bool, true, false, pos, List, [], ◌∷◌, ◌++◌, length, replicate, get_or, drop, refl, ap, sym, arith, length-append}
use Rattle.std.proofs.lemmas.Bool.{cases_lt}
use Rattle.std.proofs.lemmas.List.{drop_more, length-replicate}
use Rattle.hex.specs.Hex.{encode_lower, lower_digits}
use Rattle.hex.proofs.HexLemmas.{length-encode_with}
use Rattle.cdr_core.specs.declared.order.Order.{Order}
use Rattle.cdr_core.specs.declared.order.Order.TheVariants.{Big, Little}
use Rattle.cdr_core.specs.Numbers.{bits_of, padding}
use Rattle.cdr_core.specs.Form as form
use Rattle.cdr_core.specs.Parts.{long_value, octet_value, short_value, ulong_value, ulonglong_value, ushort_value}
use Rattle.cdr_core.specs.Value as value
use Rattle.cdr_core.specs.Value.{Value, Values, count, no_values, values}
use Rattle.cdr_core.specs.Writing.{number_octets, octets_of, octets_of_all}
use Rattle.cdr_core.proofs.Lengths.{number_length}
use Rattle.giop_core.specs.declared.header.MessageKind.{MessageKind}
use Rattle.giop_core.specs.declared.header.MessageKind.TheVariants as kind
use Rattle.giop_core.specs.declared.header.Version.{Version}
use Rattle.giop_core.specs.declared.header.Version.TheVariants.{V10, V11, V12}
use Rattle.giop_core.specs.declared.request.ReplyWish.{ReplyWish}
use Rattle.giop_core.specs.Content.{by_key}
use Rattle.giop_core.specs.Items.{list_value, tagged_value}
use Rattle.giop_core.specs.Written.{behind_gap, behind_header, body_octets, ft_octets, locate_request_fields, message_octets, octets_body, reply_fields, request_fields, response_expected, response_flags, target_of, zeros}
use Rattle.giop_core.proofs.OctetsBody.{body_length}
use Rattle.giop_core.proofs.Sizes.{replies-size}
use Rattle.ior_core.specs.declared.reference.Ior.{Ior}
use Rattle.ior_core.specs.declared.tagged.Tagged.{Tagged}
use Rattle.ior_core.specs.Profiles.{components_of}
use Rattle.ior_core.specs.Text.{reference_text}
use Rattle.ior_core.specs.View.{ior_value, tagged_values}
use Rattle.ior_core.specs.Writing.{encapsulation_of}
use Rattle.lemonrudder.specs.Makes.{profile_to}
use Rattle.lemonrudder.specs.Sizes.{address_end, behind, body_end, contexts_end, fields_end, ft_end, locate_end, profile_end, profiles_end, text_size}
use Rattle.lemonrudder.specs.Writes.{context_of}

-- one part after another

after_front : (o : Order) (vs : Values) (front : List ℕ) (p q r : ℕ) → p + length front ≡ q → q + length (octets_of_all o vs q) ≡ r → p + length (front ++ octets_of_all o vs (p + length front)) ≡ r
after_front o vs front p q r a b =
    let rest : length (octets_of_all o vs (p + length front)) ≡ length (octets_of_all o vs q) = ap (λ (n : ℕ). length (octets_of_all o vs n)) a in
    omega (arith, rest, a, b, length-append front (octets_of_all o vs (p + length front)))

step : (o : Order) (v : Value) (vs : Values) (p q r : ℕ) → p + length (octets_of o v p) ≡ q → q + length (octets_of_all o vs q) ≡ r → p + length (octets_of_all o (value.value v vs) p) ≡ r
step o v vs p q r a b = after_front o vs (octets_of o v p) p q r a b

last : (o : Order) (v : Value) (p q : ℕ) → p + length (octets_of o v p) ≡ q → p + length (octets_of_all o (value.value v no_values) p) ≡ q
last o v p q a = let none : q + length (octets_of_all o no_values q) ≡ q = omega arith in step o v no_values p q q a none

-- where each ends

ulong_end : (o : Order) (x p : ℕ) → p + length (octets_of o (ulong_value x) p) ≡ behind p 0
unfolding behind
ulong_end o x p = omega (arith, number_length o 4 p (bits_of form.ulong (pos x)))

long_end : (o : Order) (z : ℤ) (p : ℕ) → p + length (octets_of o (long_value z) p) ≡ behind p 0
unfolding behind
long_end o z p = omega (arith, number_length o 4 p (bits_of form.long z))

octet_end : (o : Order) (x p : ℕ) → p + length (octets_of o (octet_value x) p) ≡ p + 1
octet_end o x p = omega (arith, number_length o 1 p (bits_of form.octet (pos x)))

boolean_end : (o : Order) (b : Bool) (p : ℕ) → p + length (octets_of o (value.boolean b) p) ≡ p + 1
boolean_end o true p = refl
boolean_end o false p = refl

string_end : (o : Order) (text : List ℕ) (p : ℕ) → p + length (octets_of o (value.string text) p) ≡ behind p (length text + 1)
unfolding behind
string_end o text p =
    let front : List ℕ = number_octets o 4 p (length text + 1) in
    omega (arith, number_length o 4 p (length text + 1), length-append (front ++ text) (0 ∷ []), length-append front text)

octets_end : (o : Order) (all : List ℕ) (p : ℕ) → p + length (octets_of o (value.octets all) p) ≡ behind p (length all)
unfolding behind
octets_end o all p =
    let front : List ℕ = number_octets o 4 p (length all) in
    omega (arith, number_length o 4 p (length all), length-append front all)

zeros_end : (o : Order) (p : ℕ) → p + length (octets_of o zeros p) ≡ p + 3
zeros_end o p =
    let two : p + 2 + 1 ≡ p + 3 = omega arith in
    let one : p + 1 + 1 ≡ p + 2 = omega arith in
    step o (octet_value 0) (values (octet_value 0 ∷ octet_value 0 ∷ [])) p (p + 1) (p + 3) (octet_end o 0 p)
    (step o (octet_value 0) (values (octet_value 0 ∷ [])) (p + 1) (p + 2) (p + 3) (octet_end o 0 (p + 1) ∙ one)
    (last o (octet_value 0) (p + 2) (p + 3) (octet_end o 0 (p + 2) ∙ two)))

list_end : (o : Order) (id : ℕ) (octets : List ℕ) (p : ℕ) → p + length (octets_of o (list_value (context_of id octets)) p) ≡ contexts_end p (length octets)
unfolding behind
list_end o id [] p =
    let front : List ℕ = number_octets o 4 p 0 in
    omega (arith, number_length o 4 p 0, length-append front [])
list_end o id (x ∷ xs) p =
    let q : ℕ = behind p 0 in
    let r : ℕ = behind (behind q 0) (suc (length xs)) in
    let counted : p + length (number_octets o 4 p 1) ≡ q = omega (arith, number_length o 4 p 1) in
    after_front o (values (tagged_value (id, x ∷ xs) ∷ [])) (number_octets o 4 p 1) p q r counted
    (last o (tagged_value (id, x ∷ xs)) q r
    (step o (ulong_value id) (values (value.octets (x ∷ xs) ∷ [])) q (behind q 0) r (ulong_end o id q)
    (last o (value.octets (x ∷ xs)) (behind q 0) r (octets_end o (x ∷ xs) (behind q 0)))))

-- the fields of a Request

module _ (o : Order) (id : ℕ) (w : ReplyWish) (key operation : List ℕ) (tag : ℕ) (context : List ℕ) where
  abbrev Listed : Values
  Listed = values (list_value (context_of tag context) ∷ [])

  abbrev Named : Values
  Named = values (value.string operation ∷ list_value (context_of tag context) ∷ [])

  abbrev Aimed : Values
  Aimed = values (target_of (by_key key) ∷ value.string operation ∷ list_value (context_of tag context) ∷ [])

  abbrev Reserved : Values
  Reserved = values (zeros ∷ target_of (by_key key) ∷ value.string operation ∷ list_value (context_of tag context) ∷ [])

  abbrev Flagged : Values
  Flagged = values (octet_value (response_flags w) ∷ zeros ∷ target_of (by_key key) ∷ value.string operation ∷ list_value (context_of tag context) ∷ [])

  -- what 1.2 has
  fields_12 : 12 + length (octets_of_all o (values (request_fields V12 id w (by_key key) operation (context_of tag context))) 12) ≡ fields_end V12 (length key) (length operation) (length context)
  fields_12 =
      let a : ℕ = behind 22 (length key) in
      let b : ℕ = behind a (length operation + 1) in
      let r : ℕ = contexts_end b (length context) in
      let first : 12 + length (octets_of o (ulong_value id) 12) ≡ 16 = omega (arith, number_length o 4 12 (bits_of form.ulong (pos id))) in
      let short : 20 + length (octets_of o (short_value (pos 0)) 20) ≡ 22 = omega (arith, number_length o 2 20 (bits_of form.short (pos 0))) in
      step o (ulong_value id) Flagged 12 16 r first
      (step o (octet_value (response_flags w)) Reserved 16 17 r (octet_end o (response_flags w) 16)
      (step o zeros Aimed 17 20 r (zeros_end o 17)
      (step o (target_of (by_key key)) Named 20 a r
      (step o (short_value (pos 0)) (values (value.octets key ∷ [])) 20 22 a short (last o (value.octets key) 22 a (octets_end o key 22)))
      (step o (value.string operation) Listed a b r (string_end o operation a) (last o (list_value (context_of tag context)) b r (list_end o tag context b))))))

  abbrev Principal : Values
  Principal = values (value.octets [] ∷ [])

  abbrev Operated : Values
  Operated = values (value.string operation ∷ value.octets [] ∷ [])

  abbrev Keyed : Values
  Keyed = values (value.octets key ∷ value.string operation ∷ value.octets [] ∷ [])

  -- what 1.0 and 1.1 have behind the id and whether a reply is wished for
  named_end : (p : ℕ) → p + length (octets_of_all o Keyed p) ≡ behind (behind (behind p (length key)) (length operation + 1)) 0
  named_end p =
      let a : ℕ = behind p (length key) in
      let b : ℕ = behind a (length operation + 1) in
      step o (value.octets key) Operated p a (behind b 0) (octets_end o key p) (step o (value.string operation) Principal a b (behind b 0) (string_end o operation a) (last o (value.octets []) b (behind b 0) (octets_end o [] b)))

  fields_size : (v : Version) → 12 + length (octets_of_all o (values (request_fields v id w (by_key key) operation (context_of tag context))) 12) ≡ fields_end v (length key) (length operation) (length context)
  fields_size V10 =
      let p : ℕ = contexts_end 12 (length context) in
      let q : ℕ = behind p 0 in
      let r : ℕ = behind (behind (behind (q + 1) (length key)) (length operation + 1)) 0 in
      step o (list_value (context_of tag context)) (values (ulong_value id ∷ value.boolean (response_expected w) ∷ value.octets key ∷ value.string operation ∷ value.octets [] ∷ [])) 12 p r (list_end o tag context 12)
      (step o (ulong_value id) (values (value.boolean (response_expected w) ∷ value.octets key ∷ value.string operation ∷ value.octets [] ∷ [])) p q r (ulong_end o id p)
      (step o (value.boolean (response_expected w)) Keyed q (q + 1) r (boolean_end o (response_expected w) q) (named_end (q + 1))))
  fields_size V11 =
      let p : ℕ = contexts_end 12 (length context) in
      let q : ℕ = behind p 0 in
      let r : ℕ = behind (behind (behind (q + 4) (length key)) (length operation + 1)) 0 in
      let four : q + 1 + 3 ≡ q + 4 = omega arith in
      step o (list_value (context_of tag context)) (values (ulong_value id ∷ value.boolean (response_expected w) ∷ zeros ∷ value.octets key ∷ value.string operation ∷ value.octets [] ∷ [])) 12 p r (list_end o tag context 12)
      (step o (ulong_value id) (values (value.boolean (response_expected w) ∷ zeros ∷ value.octets key ∷ value.string operation ∷ value.octets [] ∷ [])) p q r (ulong_end o id p)
      (step o (value.boolean (response_expected w)) (values (zeros ∷ value.octets key ∷ value.string operation ∷ value.octets [] ∷ [])) q (q + 1) r (boolean_end o (response_expected w) q)
      (step o zeros Keyed (q + 1) (q + 4) r (zeros_end o (q + 1) ∙ four) (named_end (q + 4)))))
  fields_size V12 = fields_12

gapped : (gap n : ℕ) → ℕ
gapped gap zero = 0
gapped gap (suc n) = gap + suc n

gap_size : (gap : ℕ) (xs : List ℕ) → length (behind_gap gap xs) ≡ gapped gap (length xs)
unfolding gapped
gap_size gap [] = refl
gap_size gap (x ∷ xs) = omega (arith, length-append (replicate gap 0) (x ∷ xs), length-replicate {A = ℕ} gap 0)

behind_gap_size : (front body : List ℕ) (n p g : ℕ) → 12 + length front ≡ p → g ≡ padding p 8 → length body ≡ gapped g n → 12 + length (front ++ body) ≡ body_end V12 p n
unfolding gapped
behind_gap_size front body zero p g is same size = omega (arith, size, is, length-append front body)
behind_gap_size front body (suc n) p g is same size = omega (arith, size, is, same, length-append front body)

-- a body of octets behind fields that end at a place
module _ (o : Order) (octets : List ℕ) where
  behind_fields : (v : Version) (front : List ℕ) (p : ℕ) → 12 + length front ≡ p → 12 + length (front ++ body_octets v kind.Request o (octets_body octets) (12 + length front)) ≡ body_end v p (length octets)
  behind_fields V10 front p is =
      omega (arith, is, length-append front (octets_of_all o (octets_body octets) (12 + length front)), body_length o octets (12 + length front))
  behind_fields V11 front p is =
      omega (arith, is, length-append front (octets_of_all o (octets_body octets) (12 + length front)), body_length o octets (12 + length front))
  behind_fields V12 front p is =
      let gap : ℕ = padding (12 + length front) 8 in
      let body : List ℕ = octets_of_all o (octets_body octets) (12 + length front + gap) in
      behind_gap_size front (behind_gap gap body) (length octets) p gap is (ap (λ (n : ℕ). padding n 8) is)
      (gap_size gap body ∙ ap (gapped gap) (body_length o octets (12 + length front + gap)))

pub request_size : (v : Version) (o : Order) (id : ℕ) (w : ReplyWish) (key operation : List ℕ) (tag : ℕ) (context body : List ℕ)
    → 12 + length (behind_header v kind.Request o (request_fields v id w (by_key key) operation (context_of tag context)) (octets_body body)) ≡ body_end v (fields_end v (length key) (length operation) (length context)) (length body)
unfolding behind_header
request_size v o id w key operation tag context body =
    behind_fields o body v (octets_of_all o (values (request_fields v id w (by_key key) operation (context_of tag context))) 12) _ (fields_size o id w key operation tag context v)

pub message_size : (v : Version) (k : MessageKind) (o : Order) (after : List ℕ) → length (message_octets v k o after) ≡ 12 + length after
message_size v k Big after = omega arith
message_size v k Little after = omega arith

none_behind : (v : Version) (o : Order) (place : ℕ) → body_octets v kind.Request o no_values place ≡ []
none_behind V10 o place = refl
none_behind V11 o place = refl
none_behind V12 o place = refl

-- a Request without a body
pub request_place : (v : Version) (o : Order) (id : ℕ) (w : ReplyWish) (key operation : List ℕ) (tag : ℕ) (context : List ℕ)
    → length (message_octets v kind.Request o (behind_header v kind.Request o (request_fields v id w (by_key key) operation (context_of tag context)) no_values)) ≡ fields_end v (length key) (length operation) (length context)
unfolding behind_header
request_place v o id w key operation tag context =
    let fields = request_fields v id w (by_key key) operation (context_of tag context) in
    let front : List ℕ = octets_of_all o (values fields) 12 in
    let none : length (body_octets v kind.Request o no_values (12 + length front)) ≡ 0 = ap length (none_behind v o (12 + length front)) in
    let size : length (front ++ body_octets v kind.Request o no_values (12 + length front)) ≡ length front = omega (arith, none, length-append front (body_octets v kind.Request o no_values (12 + length front))) in
    message_size v kind.Request o (front ++ body_octets v kind.Request o no_values (12 + length front)) ∙ ap (λ (n : ℕ). 12 + n) size ∙ fields_size o id w key operation tag context v

-- a count and octets take so many at least
behind_least : (p n : ℕ) → p + n + 4 ≤ behind p n
unfolding behind
behind_least p n = omega arith

contexts_least : (p n : ℕ) → p + n ≤ contexts_end p n
contexts_least p zero = omega (arith, behind_least p 0)
contexts_least p (suc n) = omega (arith, behind_least p 0, behind_least (behind p 0) 0, behind_least (behind (behind p 0) 0) (suc n))

fields_least : (v : Version) (k p c : ℕ) → k + p + c + 12 ≤ fields_end v k p c
fields_least V10 k p c =
    let q = contexts_end 12 c in
    omega (arith, contexts_least 12 c, behind_least q 0, behind_least (behind q 0 + 1) k, behind_least (behind (behind q 0 + 1) k) (p + 1), behind_least (behind (behind (behind q 0 + 1) k) (p + 1)) 0)
fields_least V11 k p c =
    let q = contexts_end 12 c in
    omega (arith, contexts_least 12 c, behind_least q 0, behind_least (behind q 0 + 4) k, behind_least (behind (behind q 0 + 4) k) (p + 1), behind_least (behind (behind (behind q 0 + 4) k) (p + 1)) 0)
fields_least V12 k p c = omega (arith, behind_least 22 k, behind_least (behind 22 k) (p + 1), contexts_least (behind (behind 22 k) (p + 1)) c)

-- a Request is as long as its parts, and longer
pub parts_least : (v : Version) (k p c n : ℕ) → k + p + c + n + 12 ≤ body_end v (fields_end v k p c) n
parts_least V10 k p c n = omega (arith, fields_least V10 k p c)
parts_least V11 k p c n = omega (arith, fields_least V11 k p c)
parts_least V12 k p c zero = omega (arith, fields_least V12 k p c)
parts_least V12 k p c (suc n) = omega (arith, fields_least V12 k p c)

-- other messages

pub reply_size : (v : Version) (o : Order) (id status : ℕ) (body : List ℕ) → 12 + length (behind_header v kind.Reply o (reply_fields v id status []) (octets_body body)) ≡ 24 + length body
reply_size v o id status body = omega (arith, (replies-size v o id status (octets_body body)).0, body_length o body 24)

locate_fields : (v : Version) (o : Order) (id : ℕ) (key : List ℕ) → 12 + length (octets_of_all o (values (locate_request_fields v id (by_key key))) 12) ≡ locate_end v (length key)
unfolding behind
locate_fields V12 o id key =
    let first : 12 + length (octets_of o (ulong_value id) 12) ≡ 16 = omega (arith, number_length o 4 12 (bits_of form.ulong (pos id))) in
    let short : 16 + length (octets_of o (short_value (pos 0)) 16) ≡ 18 = omega (arith, number_length o 2 16 (bits_of form.short (pos 0))) in
    let octets : 18 + length (octets_of o (value.octets key) 18) ≡ 24 + length key = octets_end o key 18 in
    step o (ulong_value id) (values (target_of (by_key key) ∷ [])) 12 16 (24 + length key) first
    (last o (target_of (by_key key)) 16 (24 + length key) (step o (short_value (pos 0)) (values (value.octets key ∷ [])) 16 18 (24 + length key) short (last o (value.octets key) 18 (24 + length key) octets)))
locate_fields V11 o id key =
    let first : 12 + length (octets_of o (ulong_value id) 12) ≡ 16 = omega (arith, number_length o 4 12 (bits_of form.ulong (pos id))) in
    let octets : 16 + length (octets_of o (value.octets key) 16) ≡ 20 + length key = octets_end o key 16 in
    step o (ulong_value id) (values (value.octets key ∷ [])) 12 16 (20 + length key) first (last o (value.octets key) 16 (20 + length key) octets)
locate_fields V10 o id key =
    let first : 12 + length (octets_of o (ulong_value id) 12) ≡ 16 = omega (arith, number_length o 4 12 (bits_of form.ulong (pos id))) in
    let octets : 16 + length (octets_of o (value.octets key) 16) ≡ 20 + length key = octets_end o key 16 in
    step o (ulong_value id) (values (value.octets key ∷ [])) 12 16 (20 + length key) first (last o (value.octets key) 16 (20 + length key) octets)

none_located : (v : Version) (o : Order) (place : ℕ) → body_octets v kind.LocateRequest o no_values place ≡ []
none_located V10 o place = refl
none_located V11 o place = refl
none_located V12 o place = refl

pub locate_size : (v : Version) (o : Order) (id : ℕ) (key : List ℕ) → 12 + length (behind_header v kind.LocateRequest o (locate_request_fields v id (by_key key)) no_values) ≡ locate_end v (length key)
unfolding behind_header
locate_size v o id key =
    let front : List ℕ = octets_of_all o (values (locate_request_fields v id (by_key key))) 12 in
    let none : length (body_octets v kind.LocateRequest o no_values (12 + length front)) ≡ 0 = ap length (none_located v o (12 + length front)) in
    omega (arith, none, locate_fields v o id key, length-append front (body_octets v kind.LocateRequest o no_values (12 + length front)))

pub ft_size : (o : Order) (client : List ℕ) (retention_id : ℤ) (expiration : ℕ) → length (ft_octets o client retention_id expiration) ≡ ft_end (length client)
ft_size o client retention_id expiration =
    let p : ℕ = behind 1 (length client + 1) in
    let q : ℕ = behind p 0 in
    let longlong : q + length (octets_of o (ulonglong_value expiration) q) ≡ q + padding q 8 + 8 = omega (arith, number_length o 8 q (bits_of form.ulonglong (pos expiration))) in
    let fields : 1 + length (octets_of_all o (values (value.string client ∷ long_value retention_id ∷ ulonglong_value expiration ∷ [])) 1) ≡ ft_end (length client) =
    step o (value.string client) (values (long_value retention_id ∷ ulonglong_value expiration ∷ [])) 1 p (q + padding q 8 + 8) (string_end o client 1)
    (step o (long_value retention_id) (values (ulonglong_value expiration ∷ [])) p q (q + padding q 8 + 8) (long_end o retention_id p) (last o (ulonglong_value expiration) q (q + padding q 8 + 8) longlong)) in
    omega (arith, fields)

-- the profile of an address

pub bare_profile : (minor host key : ℕ) → minor ≡ 0 → address_end host key ≡ profile_end minor host key
bare_profile minor host key is = ap (λ (n : ℕ). profile_end n host key) (sym is)

pub whole_profile : (minor host key : ℕ) → 0 < minor → behind (address_end host key) 0 ≡ profile_end minor host key
whole_profile zero host key some = absurd (omega arith)
whole_profile (suc n) host key some = refl

none_end : (p : ℕ) → p + length (octets_of Big (value.sequence no_values) p) ≡ behind p 0
unfolding behind
none_end p = omega (arith, number_length Big 4 p 0, length-append {A = ℕ} (number_octets Big 4 p 0) [])

port_end : (port p : ℕ) → p + length (octets_of Big (ushort_value port) p) ≡ p + padding p 2 + 2
port_end port p = omega (arith, number_length Big 2 p (bits_of form.ushort (pos port)))

components_end : (minor host key : ℕ) → address_end host key + length (octets_of_all Big (values (components_of minor [])) (address_end host key)) ≡ profile_end minor host key
components_end zero host key = omega arith
components_end (suc n) host key = last Big (value.sequence no_values) (address_end host key) (behind (address_end host key) 0) (none_end (address_end host key))

pub profile_size : (minor : ℕ) (host : List ℕ) (port : ℕ) (key : List ℕ) → length (encapsulation_of (profile_to minor host port key)) ≡ profile_end minor (length host) (length key)
profile_size minor host port key =
    let p : ℕ = behind 3 (length host + 1) in
    let q : ℕ = p + padding p 2 + 2 in
    let a : ℕ = address_end (length host) (length key) in
    let e : ℕ = profile_end minor (length host) (length key) in
    let more : Values = values (components_of minor []) in
    let two : 1 + 1 ≡ 2 = omega arith in
    let three : 2 + 1 ≡ 3 = omega arith in
    let members : 1 + length (octets_of_all Big (value.value (octet_value 1) (value.value (octet_value minor) (value.value (value.string host) (value.value (ushort_value port) (value.value (value.octets key) more))))) 1) ≡ e =
    step Big (octet_value 1) (value.value (octet_value minor) (value.value (value.string host) (value.value (ushort_value port) (value.value (value.octets key) more)))) 1 2 e (octet_end Big 1 1 ∙ two)
    (step Big (octet_value minor) (value.value (value.string host) (value.value (ushort_value port) (value.value (value.octets key) more))) 2 3 e (octet_end Big minor 2 ∙ three)
    (step Big (value.string host) (value.value (ushort_value port) (value.value (value.octets key) more)) 3 p e (string_end Big host 3)
    (step Big (ushort_value port) (value.value (value.octets key) more) p q e (port_end port p)
    (step Big (value.octets key) more q a e (octets_end Big key q) (components_end minor (length host) (length key)))))) in
    omega (arith, members)

-- a Request whose parts are too long is too long
pub request_long : (v : Version) (o : Order) (id : ℕ) (w : ReplyWish) (key operation : List ℕ) (tag : ℕ) (context body : List ℕ) → (length key + length operation + length context + length body < 2 ^ 32 → ⊥)
    → 2 ^ 32 ≤ length (behind_header v kind.Request o (request_fields v id w (by_key key) operation (context_of tag context)) (octets_body body))
request_long v o id w key operation tag context body never = by (cases_lt (length key + length operation + length context + length body) (2 ^ 32)) where
  by : ((length key + length operation + length context + length body < 2 ^ 32) ⊎ (2 ^ 32 ≤ length key + length operation + length context + length body))
      → 2 ^ 32 ≤ length (behind_header v kind.Request o (request_fields v id w (by_key key) operation (context_of tag context)) (octets_body body))
  by (inl few) = absurd (never few)
  by (inr many) = omega (arith, many, request_size v o id w key operation tag context body, parts_least v (length key) (length operation) (length context) (length body))

-- what is computed step by step

pub contexts_none : (p n : ℕ) → n ≡ 0 → behind p 0 ≡ contexts_end p n
contexts_none p n is = ap (contexts_end p) (sym is)

pub contexts_some : (p n : ℕ) → 0 < n → behind (behind (behind p 0) 0) n ≡ contexts_end p n
contexts_some p zero h = absurd (omega arith)
contexts_some p (suc n) h = refl

pub body_none : (p n : ℕ) → n ≡ 0 → p ≡ body_end V12 p n
body_none p n is = ap (body_end V12 p) (sym is)

pub body_some : (p n : ℕ) → 0 < n → p + padding p 8 + n ≡ body_end V12 p n
body_some p zero h = absurd (omega arith)
body_some p (suc n) h = refl

-- the text of a reference

items_end : (ps : List Tagged) (p : ℕ) → p + length (octets_of_all Big (tagged_values ps) p) ≡ profiles_end p ps
items_end [] p = omega arith
items_end (x ∷ ps) p =
    let q : ℕ = behind p 0 in
    let r : ℕ = behind q (length x.octets.items) in
    let one : p + length (octets_of_all Big (values (ulong_value x.tag ∷ value.octets x.octets.items ∷ [])) p) ≡ r =
    step Big (ulong_value x.tag) (values (value.octets x.octets.items ∷ [])) p q r (ulong_end Big x.tag p) (last Big (value.octets x.octets.items) q r (octets_end Big x.octets.items q)) in
    step Big (value.structure (values (ulong_value x.tag ∷ value.octets x.octets.items ∷ []))) (tagged_values ps) p r (profiles_end r ps) one (items_end ps r)

profiles_size : (ps : List Tagged) (p : ℕ) → p + length (octets_of Big (value.sequence (tagged_values ps)) p) ≡ profiles_end (behind p 0) ps
unfolding behind
profiles_size ps p =
    let counted : p + length (number_octets Big 4 p (count (tagged_values ps))) ≡ behind p 0 = omega (arith, number_length Big 4 p (count (tagged_values ps))) in
    after_front Big (tagged_values ps) (number_octets Big 4 p (count (tagged_values ps))) p (behind p 0) (profiles_end (behind p 0) ps) counted (items_end ps (behind p 0))

pub text_length : (r : Ior) → length (reference_text (ior_value r)) ≡ text_size r
text_length r =
    let a : ℕ = behind 1 (length r.type_id.items + 1) in
    let e : ℕ = profiles_end (behind a 0) r.profiles.items in
    let body : 1 + length (octets_of_all Big (values (value.string r.type_id.items ∷ value.sequence (tagged_values r.profiles.items) ∷ [])) 1) ≡ e =
    step Big (value.string r.type_id.items) (values (value.sequence (tagged_values r.profiles.items) ∷ [])) 1 a e (string_end Big r.type_id.items 1) (last Big (value.sequence (tagged_values r.profiles.items)) a e (profiles_size r.profiles.items a)) in
    let digits : length (encode_lower (encapsulation_of (ior_value r))) ≡ 2 * length (encapsulation_of (ior_value r)) = length-encode_with lower_digits (encapsulation_of (ior_value r)) in
    omega (arith, body, digits)

pub text_long : (r : Ior) (room : List ℕ) → (text_size r ≤ length room → ⊥) → length room < length (reference_text (ior_value r))
text_long r room never = by (cases_lt (length room) (text_size r)) where
  by : ((length room < text_size r) ⊎ (text_size r ≤ length room)) → length room < length (reference_text (ior_value r))
  by (inl lt) = omega (arith, lt, text_length r)
  by (inr le) = absurd (never le)

pub text_short : (r : Ior) (room : List ℕ) → text_size r ≤ length room → length (reference_text (ior_value r)) ≤ length room
text_short r room le = omega (arith, le, text_length r)

pub profiles_least : (p : ℕ) (ps : List Tagged) → p ≤ profiles_end p ps
profiles_least p [] = omega arith
profiles_least p (x ∷ ps) = omega (arith, behind_least p 0, behind_least (behind p 0) (length x.octets.items), profiles_least (behind (behind p 0) (length x.octets.items)) ps)

pub profiles_next : (p : ℕ) (ps : List Tagged) (i : ℕ) (x : Tagged) → i < length ps → x ≡ get_or ps i x → profiles_end (behind (behind p 0) (length x.octets.items)) (drop (i + 1) ps) ≡ profiles_end p (drop i ps)
profiles_next p ps i x lt is = sym (ap (profiles_end p) (drop_more ps i x lt) ∙ ap (λ (y : Tagged). profiles_end (behind (behind p 0) (length y.octets.items)) (drop (i + 1) ps)) (sym is))
