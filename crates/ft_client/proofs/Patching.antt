-- Where the request id stands in a Request: the octets before it and after it are the same under each id.
use Rattle.std.proofs.Common.{◌≡◌, ℕ, ◌+◌, ◌≤◌, List, [], ◌++◌, length, take, drop, replicate, refl, sym, take_at, ap, ◌∙◌, arith, length-append, append_assoc}
use Rattle.std.proofs.lemmas.List.{length-replicate, drop_at}
use Rattle.ft_client.proofs.Numbers.{digits_length, number_length}
use Rattle.cdr_core.specs.Numbers.{padding, digits_of}
use Rattle.cdr_core.specs.Value.{Values, no_values, value, values}
use Rattle.cdr_core.specs.Writing.{and_then, number_octets, octets_of, octets_of_all}
use Rattle.cdr_core.specs.declared.order.Order.{Order}
use Rattle.giop_core.specs.Content.{Addressed, by_key}
use Rattle.giop_core.specs.Items.{list_value}
use Rattle.giop_core.specs.Written.{behind_header, body_octets, header_for, request_fields}
use Rattle.giop_core.specs.Headers.{header_octets}
use Rattle.giop_core.specs.declared.header.MessageKind.TheVariants.{Request}
use Rattle.giop_core.specs.declared.header.Version.{Version}
use Rattle.giop_core.specs.declared.header.Version.TheVariants.{V10, V11, V12}
use Rattle.giop_core.specs.declared.request.ReplyWish.{ReplyWish}
use Rattle.ft_client.specs.Clients.{transmission_to}
use Rattle.ft_client.specs.Keeping.{id_place}
use Rattle.ft_client.specs.Messages.{Call, Transmission, contexts_of, order_of, request_behind, request_octets, version_in, wish_of}

-- the four octets of an id in an order
abbrev pub id_octets : Order → ℕ → List ℕ
id_octets order i = digits_of order 4 i

-- where the id stands in the Request of a call
abbrev pub id_in : Version → List ℕ → ℕ → List ℕ → Call → ℕ
id_in version client_id n key call = let t = transmission_to version client_id n 1 key call in id_place t.version (order_of call.form) (contexts_of t)

-- what stands before the id, after the header, and after the id
pub record Parts (version : Version) (client_id : List ℕ) (n : ℕ) (key : List ℕ) (call : Call) : Type 0 where
  pub front : List ℕ
  pub back : List ℕ
  pub is : (i : ℕ) → request_behind (transmission_to version client_id n i key call) ≡ front ++ (id_octets (order_of call.form) i ++ back)
  pub place : 12 + length front ≡ id_in version client_id n key call

-- .. by the fields, which are those of a version
pub record PartsOf (version : Version) (order : Order) (wish : ReplyWish) (to : Addressed) (operation : List ℕ) (contexts : List (ℕ × List ℕ)) (body : Values) : Type 0 where
  pub front : List ℕ
  pub back : List ℕ
  pub is : (i : ℕ) → behind_header version Request order (request_fields version i wish to operation contexts) body ≡ front ++ (id_octets order i ++ back)
  pub place : 12 + length front ≡ id_place version order contexts

-- octets, then what follows at the place after them, twice
two_parts : (o n : ℕ) (N : List ℕ) (R B : ℕ → List ℕ) → length N ≡ n → and_then o (and_then o N R) B ≡ N ++ (R (o + n) ++ B (o + (n + length (R (o + n)))))
two_parts o n N R B e =
    let l : length (N ++ R (o + length N)) ≡ n + length (R (o + n)) = rw e (length-append N (R (o + n)) ∙ ap (λ k. k + length (R (o + n))) e) in
    rw l (rw e (append_assoc N (R (o + n)) (B (o + (n + length (R (o + n)))))))

-- values without the first
abbrev later : Values → Values
later no_values = no_values
later (value v vs) = vs

parts_12 : (order : Order) (wish : ReplyWish) (to : Addressed) (operation : List ℕ) (contexts : List (ℕ × List ℕ)) (body : Values) → PartsOf V12 order wish to operation contexts body
unfolding behind_header
parts_12 order wish to operation contexts body =
    let R : ℕ → List ℕ = octets_of_all order (later (values (request_fields V12 0 wish to operation contexts))) in
    let B : ℕ → List ℕ = body_octets V12 Request order body in
    record { front = []; back = R 16 ++ B (12 + (4 + length (R 16))); is = λ i. two_parts 12 4 (digits_of order 4 i) R B (digits_length order 4 i); place = refl }

three_parts : (o n : ℕ) (L N : List ℕ) (R B : ℕ → List ℕ) → length N ≡ n → and_then o (and_then o L (λ p. and_then p N R)) B ≡ L ++ (N ++ (R ((o + length L) + n) ++ B ((o + length L) + (n + length (R ((o + length L) + n))))))
three_parts o n L N R B e =
    let p = o + length L in
    let P = and_then p N R in
    let l : o + length (L ++ P) ≡ p + length P = omega (arith, length-append L P) in
    append_assoc L P (B (o + length (L ++ P))) ∙ ap (λ k. L ++ (P ++ B k)) l ∙ ap (λ (x : List ℕ). L ++ x) (two_parts p n N R B e)

-- the parts of a message of 1.0 or 1.1, whose contexts stand before the id
parts_of : (L back Z : List ℕ) (D N behind : ℕ → List ℕ)
    → ((i : ℕ) → N i ≡ Z ++ D i) → ((i : ℕ) → behind i ≡ L ++ (N i ++ back)) → (i : ℕ) → behind i ≡ (L ++ Z) ++ (D i ++ back)
parts_of L back Z D N behind n is i =
    is i ∙ ap (λ (x : List ℕ). L ++ (x ++ back)) (n i) ∙ ap (λ (x : List ℕ). L ++ x) (append_assoc Z (D i) back) ∙ sym (append_assoc L Z (D i ++ back))

place_after : (n : ℕ) (L : List ℕ) → 12 + length (L ++ replicate n 0) ≡ (12 + length L) + n
place_after n L = omega (arith, length-append L (replicate n 0), length-replicate {A = ℕ} n 0)

parts_10 : (order : Order) (wish : ReplyWish) (to : Addressed) (operation : List ℕ) (contexts : List (ℕ × List ℕ)) (body : Values) → PartsOf V10 order wish to operation contexts body
unfolding behind_header
parts_10 order wish to operation contexts body =
    let L = octets_of order (list_value contexts) 12 in
    let R : ℕ → List ℕ = octets_of_all order (later (later (values (request_fields V10 0 wish to operation contexts)))) in
    let B : ℕ → List ℕ = body_octets V10 Request order body in
    let p = 12 + length L in
    let s = padding p 4 + 4 in
    record {
      front = L ++ replicate (padding p 4) 0;
      back = R (p + s) ++ B (p + (s + length (R (p + s))));
      is = parts_of L (R (p + s) ++ B (p + (s + length (R (p + s))))) (replicate (padding p 4) 0) (digits_of order 4) (number_octets order 4 p)
          (λ i. behind_header V10 Request order (request_fields V10 i wish to operation contexts) body) (λ i. refl)
          (λ i. three_parts 12 s L (number_octets order 4 p i) R B (number_length order 4 p i));
      place = place_after (padding p 4) L;
    }

parts_11 : (order : Order) (wish : ReplyWish) (to : Addressed) (operation : List ℕ) (contexts : List (ℕ × List ℕ)) (body : Values) → PartsOf V11 order wish to operation contexts body
unfolding behind_header
parts_11 order wish to operation contexts body =
    let L = octets_of order (list_value contexts) 12 in
    let R : ℕ → List ℕ = octets_of_all order (later (later (values (request_fields V11 0 wish to operation contexts)))) in
    let B : ℕ → List ℕ = body_octets V11 Request order body in
    let p = 12 + length L in
    let s = padding p 4 + 4 in
    record {
      front = L ++ replicate (padding p 4) 0;
      back = R (p + s) ++ B (p + (s + length (R (p + s))));
      is = parts_of L (R (p + s) ++ B (p + (s + length (R (p + s))))) (replicate (padding p 4) 0) (digits_of order 4) (number_octets order 4 p)
          (λ i. behind_header V11 Request order (request_fields V11 i wish to operation contexts) body) (λ i. refl)
          (λ i. three_parts 12 s L (number_octets order 4 p i) R B (number_length order 4 p i));
      place = place_after (padding p 4) L;
    }

pub parts_in : (version : Version) (order : Order) (wish : ReplyWish) (to : Addressed) (operation : List ℕ) (contexts : List (ℕ × List ℕ)) (body : Values) → PartsOf version order wish to operation contexts body
parts_in V10 order wish to operation contexts body = parts_10 order wish to operation contexts body
parts_in V11 order wish to operation contexts body = parts_11 order wish to operation contexts body
parts_in V12 order wish to operation contexts body = parts_12 order wish to operation contexts body

pub parts : (version : Version) (client_id : List ℕ) (n : ℕ) (key : List ℕ) (call : Call) → Parts version client_id n key call
parts version client_id n key call =
    let t = transmission_to version client_id n 1 key call in
    let p = parts_in t.version (order_of call.form) (wish_of call.form) (by_key key) call.operation (contexts_of t) call.arguments in
    record { front = p.front; back = p.back; is = p.is; place = p.place }

-- a request is as long under each id
pub same_length : (version : Version) (client_id : List ℕ) (n i j : ℕ) (key : List ℕ) (call : Call) → length (request_behind (transmission_to version client_id n i key call)) ≡ length (request_behind (transmission_to version client_id n j key call))
same_length version client_id n i j key call =
    let p = parts version client_id n key call in
    let order = order_of call.form in
    let a : (k : ℕ) → length (request_behind (transmission_to version client_id n k key call)) ≡ length p.front + (4 + length p.back) = λ k. ap length (p.is k) ∙ length-append p.front (id_octets order k ++ p.back) ∙ ap (λ m. length p.front + m) (length-append (id_octets order k) p.back ∙ ap (λ m. m + length p.back) (digits_length order 4 k)) in
    a i ∙ sym (a j)

-- four octets between two lists
cut_front : (P D Q : List ℕ) (at : ℕ) → length P ≡ at → take at (P ++ (D ++ Q)) ≡ P
cut_front P D Q at e = take_at P (D ++ Q) at e

cut_back : (P D Q : List ℕ) (at : ℕ) → length P ≡ at → length D ≡ 4 → drop (at + 4) (P ++ (D ++ Q)) ≡ Q
cut_back P D Q at e d =
    let l : length (P ++ D) ≡ at + 4 = omega (arith, length-append P D) in
    ap (λ (x : List ℕ). drop (at + 4) x) (sym (append_assoc P D Q)) ∙ drop_at (P ++ D) Q (at + 4) l

-- under another id a request is the same but for the id
pub record IsPatched (version : Version) (client_id : List ℕ) (n : ℕ) (key : List ℕ) (call : Call) (at : ℕ) : Type 0 where
  pub whole : at + 4 ≤ length (request_octets (transmission_to version client_id n 1 key call))
  pub is : (i : ℕ) → request_octets (transmission_to version client_id n i key call) ≡ take at (request_octets (transmission_to version client_id n 1 key call)) ++ (digits_of (order_of call.form) 4 i ++ drop (at + 4) (request_octets (transmission_to version client_id n 1 key call)))

abbrev pub head : Version → Order → ℕ → List ℕ
head version order size = header_octets (header_for version Request order size)

pub head_length : (version : Version) (order : Order) (size : ℕ) → length (head version order size) ≡ 12
head_length version order size = omega (arith, digits_length order 4 size)

whole_by : (at all front back : ℕ) → front ≡ at → all ≡ front + (4 + back) → at + 4 ≤ all
whole_by at all front back e f = omega arith

pub patched : (version : Version) (client_id : List ℕ) (n : ℕ) (key : List ℕ) (call : Call) → IsPatched version client_id n key call (id_in version client_id n key call)
patched version client_id n key call =
    let p = parts version client_id n key call in
    let at = id_in version client_id n key call in
    let order = order_of call.form in
    let t : ℕ → Transmission = λ i. transmission_to version client_id n i key call in
    let v = version_in version call.form in
    let size = length (request_behind (t 1)) in
    let P = head v order size ++ p.front in
    let m : (i : ℕ) → request_octets (t i) ≡ P ++ (digits_of order 4 i ++ p.back) = λ i.
    ap (λ (k : ℕ). head v order k ++ request_behind (t i)) (same_length version client_id n i 1 key call)
    ∙ ap (λ (x : List ℕ). head v order size ++ x) (p.is i)
    ∙ sym (append_assoc (head v order size) p.front (digits_of order 4 i ++ p.back)) in
    let l : length P ≡ at = omega (arith, length-append (head v order size) p.front, head_length v order size, p.place) in
    let a = digits_length order 4 1 in
    record {
      whole = whole_by at (length (request_octets (t 1))) (length P) (length p.back) l (ap length (m 1) ∙ length-append P (digits_of order 4 1 ++ p.back) ∙ ap (λ k. length P + k) (length-append (digits_of order 4 1) p.back ∙ ap (λ k. k + length p.back) a));
      is = λ i.
          let f = ap (λ (x : List ℕ). take at x) (m 1) ∙ cut_front P (digits_of order 4 1) p.back at l in
          let b = ap (λ (x : List ℕ). drop (at + 4) x) (m 1) ∙ cut_back P (digits_of order 4 1) p.back at l a in
          m i ∙ ap (λ (x : List ℕ). x ++ (digits_of order 4 i ++ p.back)) (sym f) ∙ ap (λ (x : List ℕ). take at (request_octets (t 1)) ++ (digits_of order 4 i ++ x)) (sym b);
    }
