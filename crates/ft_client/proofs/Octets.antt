-- A body that comes as octets, as it stands in its Request.
use Rattle.std.proofs.Common.{◌≡◌, ℕ, ◌+◌, ◌-◌, ◌≤◌, ◌==◌, ◌%◌, ◌||◌, Bool, true, false, List, [], ◌∷◌, ◌++◌, length, map, replicate, refl, sym, ap, ◌∙◌, subst, arith, length-append, append-nil}
use Rattle.std.proofs.lemmas.List.{length-replicate}
use Rattle.cdr_core.specs.Numbers.{padding}
use Rattle.cdr_core.specs.Parts.{octet_value}
use Rattle.cdr_core.specs.Value.{Value, values}
use Rattle.cdr_core.specs.View.{value_of, values_of}
use Rattle.cdr_core.specs.Writing.{AreWritable, octets_of_all}
use Rattle.cdr_core.specs.declared.order.Order.{Order}
use Rattle.cdr_core.specs.declared.values.Val.{Val}
use Rattle.giop_core.specs.Headers.{header_octets}
use Rattle.giop_core.specs.Laws.{rest_after}
use Rattle.giop_core.specs.Written.{behind_gap, behind_header, body_octets, header_for, octets_body}
use Rattle.giop_core.specs.declared.header.MessageKind.TheVariants.{Request}
use Rattle.giop_core.specs.declared.header.Version.{Version}
use Rattle.giop_core.specs.declared.header.Version.TheVariants.{V10, V11, V12}
use Rattle.giop_core.proofs.OctetsBody.{body_length}
use Rattle.ft_client.specs.Calling.{call_raw}
use Rattle.ft_client.specs.Messages.{Transmission, body_in, fields_of, keeps_place, request_behind, request_octets}
use Rattle.ft_client.specs.declared.raw_call.RawCall.{RawCall}
use Rattle.ft_client.specs.Clients.{transmission}
use Rattle.ft_client.proofs.Patching.{head_length}

-- octets as values, one after another, can be written, and are the body of these octets

octets_writable : (octets : List ℕ) → AreWritable (values (map octet_value octets))
octets_writable [] = tt
octets_writable (x ∷ xs) = (tt, octets_writable xs)

pub values_writable : (vs : List Val) (octets : List ℕ) → map value_of vs ≡ map octet_value octets → AreWritable (values_of vs)
values_writable vs octets is = subst (λ all. AreWritable (values all)) (sym is) (octets_writable octets)

same_octets : (o : Order) (octets : List ℕ) (place : ℕ) → octets_of_all o (values (map octet_value octets)) place ≡ octets_of_all o (octets_body octets) place
same_octets o octets place = sym (append-nil (octets_of_all o (values (map octet_value octets)) place))

same_body : (v : Version) (o : Order) (octets : List ℕ) (place : ℕ) → body_octets v Request o (values (map octet_value octets)) place ≡ body_octets v Request o (octets_body octets) place
same_body V10 o octets place = same_octets o octets place
same_body V11 o octets place = same_octets o octets place
same_body V12 o octets place = ap (behind_gap (padding place 8)) (same_octets o octets (place + padding place 8))

same_request : (v : Version) (o : Order) (fields : List Value) (octets : List ℕ) → behind_header v Request o fields (values (map octet_value octets)) ≡ behind_header v Request o fields (octets_body octets)
unfolding behind_header
same_request v o fields octets = ap (λ ys. octets_of_all o (values fields) 12 ++ ys) (same_body v o octets (12 + length (octets_of_all o (values fields) 12)))

pub values_behind : (v : Version) (o : Order) (fields : List Value) (vs : List Val) (octets : List ℕ) → map value_of vs ≡ map octet_value octets → behind_header v Request o fields (values_of vs) ≡ behind_header v Request o fields (octets_body octets)
values_behind v o fields vs octets is = ap (λ all. behind_header v Request o fields (values all)) is ∙ same_request v o fields octets

-- where they stand
record StandsBehind (v : Version) (o : Order) (fields : List Value) (octets : List ℕ) : Type 0 where
  pub count : length (rest_after v Request o fields (octets_body octets)).octets ≡ length octets
  pub within : length octets ≤ length (behind_header v Request o fields (octets_body octets))
  pub place : (length octets == 0) ≡ false → 12 + length (behind_header v Request o fields (octets_body octets)) ≡ (rest_after v Request o fields (octets_body octets)).place + length octets

plain_behind : (front : List ℕ) (o : Order) (octets : List ℕ) → length (front ++ octets_of_all o (octets_body octets) (12 + length front)) ≡ length front + length octets
plain_behind front o octets = length-append front (octets_of_all o (octets_body octets) (12 + length front)) ∙ ap (λ n. length front + n) (body_length o octets (12 + length front))

gap_some : (gap : ℕ) (octets : List ℕ) → (length octets == 0) ≡ false → length (behind_gap gap octets) ≡ gap + length octets
gap_some gap [] some = absurd (let k : true ≡ false = some in cc)
gap_some gap (x ∷ xs) some = length-append (replicate gap 0) (x ∷ xs) ∙ ap (λ n. n + length (x ∷ xs)) (length-replicate {A = ℕ} gap 0)

gap_least : (gap : ℕ) (octets : List ℕ) → length octets ≤ length (behind_gap gap octets)
gap_least gap [] = omega arith
gap_least gap (x ∷ xs) = let e = length-append (replicate gap 0) (x ∷ xs) in omega (arith, e)

stands_behind : (v : Version) (o : Order) (fields : List Value) (octets : List ℕ) → StandsBehind v o fields octets
unfolding behind_header
stands_behind V10 o fields octets =
    let front : List ℕ = octets_of_all o (values fields) 12 in
    let e = plain_behind front o octets in
    record { count = body_length o octets (12 + length front); within = omega (arith, e); place = λ some. omega (arith, e) }
stands_behind V11 o fields octets =
    let front : List ℕ = octets_of_all o (values fields) 12 in
    let e = plain_behind front o octets in
    record { count = body_length o octets (12 + length front); within = omega (arith, e); place = λ some. omega (arith, e) }
stands_behind V12 o fields octets =
    let front : List ℕ = octets_of_all o (values fields) 12 in
    let p = 12 + length front in
    let xs : List ℕ = octets_of_all o (octets_body octets) (p + padding p 8) in
    let n : length xs ≡ length octets = body_length o octets (p + padding p 8) in
    let e : length (front ++ behind_gap (padding p 8) xs) ≡ length front + length (behind_gap (padding p 8) xs) = length-append front (behind_gap (padding p 8) xs) in
    let least = gap_least (padding p 8) xs in
    record {
      count = n;
      within = omega (arith, e, n, least);
      place = λ some. let g : length (behind_gap (padding p 8) xs) ≡ padding p 8 + length xs = gap_some (padding p 8) xs (ap (λ k. k == 0) n ∙ some) in omega (arith, e, n, g);
    }

-- the body of a raw call in its Request
module _ (client_id : List ℕ) (id : ℕ) (version : Version) (c : RawCall) (message : List ℕ) (is : message ≡ request_octets (transmission version client_id id 1 (call_raw c))) where
  abbrev t : Transmission
  t = transmission version client_id id 1 (call_raw c)

  abbrev octets : List ℕ
  octets = c.body.octets.now

  whole : length message ≡ 12 + length (request_behind t)
  whole =
      let head = header_octets (header_for c.version Request c.body.order (length (request_behind t))) in
      let e = length-append head (request_behind t) in
      let h : length head ≡ 12 = head_length c.version c.body.order (length (request_behind t)) in
      ap length is ∙ e ∙ ap (λ n. n + length (request_behind t)) h

  stood : StandsBehind c.version c.body.order (fields_of t) octets
  stood = stands_behind c.version c.body.order (fields_of t) octets

  pub body_within : length octets ≤ length message
  body_within = let w = stood.within in omega (arith, whole, w)

  pub keeps_place_is : keeps_place t ≡ (length octets == 0 || (length message - length octets) % 8 == c.body.at % 8)
  keeps_place_is = by (length octets == 0) refl
    where
      by : (b : Bool) → (length octets == 0) ≡ b → keeps_place t ≡ (length octets == 0 || (length message - length octets) % 8 == c.body.at % 8)
      by true e = ap (λ n. n == 0 || (body_in t).place % 8 == c.body.at % 8) stood.count ∙ ap (λ k. k || (body_in t).place % 8 == c.body.at % 8) e ∙ sym (ap (λ k. k || (length message - length octets) % 8 == c.body.at % 8) e)
      by false e =
          let at : (body_in t).place ≡ length message - length octets = let p = stood.place e in omega (arith, whole, p) in
          ap (λ n. n == 0 || (body_in t).place % 8 == c.body.at % 8) stood.count ∙ ap (λ n. length octets == 0 || n % 8 == c.body.at % 8) at
