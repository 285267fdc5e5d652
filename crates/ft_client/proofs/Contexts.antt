-- The length of an FT_REQUEST context, of service contexts, and of a Request that is kept.
use Rattle.std.proofs.Common.{◌≡◌, ℕ, zero, suc, ◌+◌, ◌<◌, ◌≤◌, ◌^◌, ℤ, false, cond, List, [], ◌∷◌, ◌++◌, length, map, drop, slice_index_or, Err, arith, length-append, append-nil, ap, ◌∙◌}
use Rattle.ft_client.proofs.Numbers.{digits_length, number_length}
use Rattle.std.specs.Borrow.{Bor}
use Rattle.cdr_core.specs.Numbers.{padding}
use Rattle.cdr_core.specs.Parts.{long_value, ulonglong_value}
use Rattle.cdr_core.specs.Value as value
use Rattle.cdr_core.specs.Value.{values}
use Rattle.cdr_core.specs.Writing.{and_then, number_octets, octets_of, octets_of_all}
use Rattle.cdr_core.specs.Value.{Values, count}
use Rattle.cdr_core.specs.declared.order.Order.{Order}
use Rattle.cdr_core.specs.declared.order.Order.TheVariants.{Big}
use Rattle.giop_core.specs.Content.{Addressed}
use Rattle.giop_core.specs.Headers.{header_octets}
use Rattle.giop_core.specs.Items.{item_at, tagged_value}
use Rattle.giop_core.specs.Rows.{has_id_first}
use Rattle.giop_core.specs.Written.{WroteOctets, behind_header, ft_octets, ft_value_of, header_for, message_octets, request_fields}
use Rattle.giop_core.specs.declared.error.WriteError.{WriteError}
use Rattle.giop_core.specs.declared.error.WriteError.TheVariants.{Memory, TooLong}
use Rattle.giop_core.specs.declared.header.MessageKind.TheVariants.{Request}
use Rattle.giop_core.specs.declared.header.Version.{Version}
use Rattle.giop_core.specs.declared.request.ReplyWish.{ReplyWish}
use Rattle.ft_client.specs.Keeping.{after_contexts, id_place}
use Rattle.ft_client.specs.Private.{contexts_end}
use Rattle.ft_client.proofs.Patching.{head_length, id_octets, parts_in}

-- octets and what follows them are at most so many
then_at_most : (o n m : ℕ) (xs : List ℕ) (R : ℕ → List ℕ) → length xs ≤ n → ((p : ℕ) → length (R p) ≤ m) → length (and_then o xs R) ≤ n + m
then_at_most o n m xs R le h =
    let r = h (o + length xs) in
    omega (arith, length-append xs (R (o + length xs)))

four_at_most : (o x : ℕ) → length (number_octets Big 4 o x) ≤ 7
four_at_most o x = omega (arith, number_length Big 4 o x)

eight_at_most : (o x : ℕ) → length (number_octets Big 8 o x) ≤ 15
eight_at_most o x = omega (arith, number_length Big 8 o x)

text_at_most : (o : ℕ) (c : List ℕ) → length c ≤ 256 → length (octets_of Big (value.string c) o) ≤ 264
text_at_most o c le = omega (arith, length-append (number_octets Big 4 o (length c + 1) ++ c) (0 ∷ []), length-append (number_octets Big 4 o (length c + 1)) c, four_at_most o (length c + 1))

fields_at_most : (c : List ℕ) (r : ℤ) (e : ℕ) → length c ≤ 256 → length (octets_of Big (ft_value_of c r e) 1) ≤ 264 + (7 + (15 + 0))
fields_at_most c r e le =
    then_at_most 1 264 (7 + (15 + 0)) (octets_of Big (value.string c) 1) (octets_of_all Big (values (long_value r ∷ ulonglong_value e ∷ []))) (text_at_most 1 c le)
    (λ o. then_at_most o 7 (15 + 0) (octets_of Big (long_value r) o) (octets_of_all Big (values (ulonglong_value e ∷ []))) (four_at_most o _)
    (λ p. then_at_most p 15 0 (octets_of Big (ulonglong_value e) p) (λ _. []) (eight_at_most p _) (λ _. omega arith)))

pub ft_short : (c : List ℕ) (r : ℤ) (e : ℕ) → length c ≤ 256 → length (ft_octets Big c r e) < 2 ^ 32
ft_short c r e le = by_count _ (fields_at_most c r e le)
  where
    by_count : (n : ℕ) → n ≤ 264 + (7 + (15 + 0)) → suc n < 4294967296
    by_count n h = omega arith

-- so it is never too long
pub never_long : (c : List ℕ) (r : ℤ) (e : ℕ) (x : WriteError) (old new : List ℕ) {P : Type 0} → length c ≤ 256 → WroteOctets {A = Unit {0}} (ft_octets Big c r e) (Err x) old new → x ≡ TooLong → P
never_long c r e TooLong old new le w is = absurd (by_both _ w.0 (ft_short c r e le))
  where
    by_both : (n : ℕ) → 4294967296 ≤ n → n < 4294967296 → ⊥
    by_both n a b = omega arith
never_long c r e Memory old new le w is = cc

-- what is written under the request id 1 has the four octets of that
pub whole_in : (version : Version) (order : Order) (wish : ReplyWish) (to : Addressed) (operation : List ℕ) (contexts : List (ℕ × List ℕ)) (body : Values) (at : ℕ) (message : List ℕ) → at ≡ id_place version order contexts
    → message ≡ message_octets version Request order (behind_header version Request order (request_fields version 1 wish to operation contexts) body) → at + 4 ≤ length message
whole_in version order wish to operation contexts body at message ea em =
    let p = parts_in version order wish to operation contexts body in
    let behind = behind_header version Request order (request_fields version 1 wish to operation contexts) body in
    let head = header_octets (header_for version Request order (length behind)) in
    let a : length message ≡ length head + length behind = ap length em ∙ length-append head behind in
    let b : length behind ≡ length p.front + (4 + length p.back) = ap length (p.is 1) ∙ length-append p.front (id_octets order 1 ++ p.back) ∙ ap (λ m. length p.front + m) (length-append (id_octets order 1) p.back ∙ ap (λ m. m + length p.back) (digits_length order 4 1)) in
    let c : length head ≡ 12 = head_length version order (length behind) in
    omega (arith, a, b, c, ea, p.place)

-- The place after service contexts.

tagged_length : (order : Order) (place : ℕ) (x : ℕ × List ℕ) → length (octets_of order (tagged_value x) place) ≡ padding place 4 + 8 + length x.1
tagged_length order place x =
    let first = number_octets order 4 place x.0 in
    let count = number_octets order 4 (place + length first) (length x.1) in
    let a = number_length order 4 place x.0 in
    let b = number_length order 4 (place + length first) (length x.1) in
    let c : length (count ++ x.1) ≡ length count + length x.1 = length-append count x.1 in
    let d : length ((count ++ x.1) ++ []) ≡ length (count ++ x.1) = ap length (append-nil (count ++ x.1)) in
    let e : length (first ++ ((count ++ x.1) ++ [])) ≡ length first + length ((count ++ x.1) ++ []) = length-append first ((count ++ x.1) ++ []) in
    e ∙ omega (arith, a, b, c, d)

end_from : (order : Order) (place : ℕ) (xs : List (ℕ × List ℕ)) → contexts_end place xs ≡ place + length (octets_of_all order (values (map tagged_value xs)) place)
end_from order place [] = omega arith
end_from order place (x ∷ xs) =
    let first = octets_of order (tagged_value x) place in
    let a = tagged_length order place x in
    let at : place + padding place 4 + 8 + length x.1 ≡ place + length first = omega (arith, a) in
    let rest = octets_of_all order (values (map tagged_value xs)) (place + length first) in
    let b : length (first ++ rest) ≡ length first + length rest = length-append first rest in
    let c : contexts_end (place + length first) xs ≡ (place + length first) + length rest = end_from order (place + length first) xs in
    ap (λ n. contexts_end n xs) at ∙ c ∙ omega (arith, b)

pub end_is : (order : Order) (xs : List (ℕ × List ℕ)) → contexts_end 16 xs ≡ after_contexts order xs
end_is order xs =
    let vs = values (map tagged_value xs) in
    let first = number_octets order 4 12 (count vs) in
    let a : length first ≡ 4 = number_length order 4 12 (count vs) in
    let at : 12 + length first ≡ 16 = omega (arith, a) in
    let rest = octets_of_all order vs (12 + length first) in
    let b : length (first ++ rest) ≡ length first + length rest = length-append first rest in
    let c : length rest ≡ length (octets_of_all order vs 16) = ap (λ n. length (octets_of_all order vs n)) at in
    let d = end_from order 16 xs in
    omega (arith, a, b, c, d)

pub end_within : (version : Version) (order : Order) (wish : ReplyWish) (to : Addressed) (operation : List ℕ) (contexts : List (ℕ × List ℕ)) (body : Values) → has_id_first version ≡ false
    → contexts_end 16 contexts ≤ 12 + length (behind_header version Request order (request_fields version 1 wish to operation contexts) body)
end_within version order wish to operation contexts body not_first =
    let p = parts_in version order wish to operation contexts body in
    let behind = behind_header version Request order (request_fields version 1 wish to operation contexts) body in
    let b : length behind ≡ length p.front + (4 + length p.back) = ap length (p.is 1) ∙ length-append p.front (id_octets order 1 ++ p.back) ∙ ap (λ m. length p.front + m) (length-append (id_octets order 1) p.back ∙ ap (λ m. m + length p.back) (digits_length order 4 1)) in
    let at : id_place version order contexts ≡ after_contexts order contexts + padding (after_contexts order contexts) 4 = ap (λ t. cond t 12 (after_contexts order contexts + padding (after_contexts order contexts) 4)) not_first in
    let e = end_is order contexts in
    omega (arith, b, at, e, p.place)

-- The place goes up to the end.

pub end_least : (place : ℕ) (xs : List (ℕ × List ℕ)) → place ≤ contexts_end place xs
end_least place [] = omega arith
end_least place (x ∷ xs) = let h = end_least (place + padding place 4 + 8 + length x.1) xs in omega (arith, h)

pub end_room : (place i most : ℕ) (xs : List (ℕ × Bor (List ℕ))) (d : ℕ × Bor (List ℕ)) → i < length xs → contexts_end place (map item_at (drop i xs)) < most → place + padding place 4 + 8 + length (slice_index_or xs i d).1.now < most
end_room place i most [] d lt h = absurd (omega arith)
end_room place zero most (x ∷ xs) d lt h = let e = end_least (place + padding place 4 + 8 + length x.1.now) (map item_at xs) in omega (arith, h, e)
end_room place (suc i) most (x ∷ xs) d lt h = end_room place i most xs d (omega (arith, lt)) h
