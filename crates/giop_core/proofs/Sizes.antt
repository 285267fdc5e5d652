-- How many octets messages have.
use Rattle.std.proofs.Common.{◌≡◌, ℕ, suc, ◌+◌, List, [], ◌∷◌, ◌++◌, length, replicate, refl, ap, ◌∙◌, arith, length-append}
use Rattle.cdr_core.specs.declared.order.Order.{Order}
use Rattle.cdr_core.specs.declared.order.Order.TheVariants.{Big, Little}
use Rattle.cdr_core.specs.Numbers.{digits_of, padding}
use Rattle.cdr_core.specs.Parts.{octet_value, ulong_value}
use Rattle.cdr_core.specs.Value as value
use Rattle.cdr_core.specs.Value.{Value, Values, values}
use Rattle.cdr_core.specs.Writing.{octets_of, octets_of_all}
use Rattle.giop_core.specs.declared.header.MessageKind.TheVariants.{Request}
use Rattle.giop_core.specs.declared.header.Version.{Version}
use Rattle.giop_core.specs.declared.header.Version.TheVariants.{V10, V11, V12}
use Rattle.giop_core.specs.declared.request.ReplyWish.{ReplyWish}
use Rattle.giop_core.specs.Content.{Addressed}
use Rattle.giop_core.specs.Items.{list_value}
use Rattle.giop_core.specs.Laws.{CancelsHaveOneSize, LocateRepliesHaveOneSize, RepliesHaveOneSize, RequestsHaveOneSize}
use Rattle.giop_core.specs.Written.{behind_gap, behind_header, body_octets, key_value, request_fields, response_expected, response_flags, target_of, zeros}
use Rattle.giop_core.proofs.Longs.{four}

-- a gap of no octets
no-gap : (xs : List ℕ) → behind_gap 0 xs ≡ xs
no-gap [] = refl
no-gap (x ∷ xs) = refl

-- twelve octets and as many as these
abbrev longer : ℕ → ℕ
longer n = suc (suc (suc (suc (suc (suc (suc (suc (suc (suc (suc (suc n)))))))))))

twelve : (n : ℕ) → longer n ≡ 12 + n
twelve n = omega arith

pub replies-size : RepliesHaveOneSize
unfolding behind_header
replies-size V10 Big id status body = (twelve (length (octets_of_all Big body 24)), refl)
replies-size V10 Little id status body = (twelve (length (octets_of_all Little body 24)), refl)
replies-size V11 Big id status body = (twelve (length (octets_of_all Big body 24)), refl)
replies-size V11 Little id status body = (twelve (length (octets_of_all Little body 24)), refl)
replies-size V12 Big id status body = (ap (λ (xs : List ℕ). longer (length xs)) (no-gap (octets_of_all Big body 24)) ∙ twelve (length (octets_of_all Big body 24)), refl)
replies-size V12 Little id status body = (ap (λ (xs : List ℕ). longer (length xs)) (no-gap (octets_of_all Little body 24)) ∙ twelve (length (octets_of_all Little body 24)), refl)

pub locate-replies-size : LocateRepliesHaveOneSize
unfolding behind_header
locate-replies-size V10 Big id status = refl
locate-replies-size V10 Little id status = refl
locate-replies-size V11 Big id status = refl
locate-replies-size V11 Little id status = refl
locate-replies-size V12 Big id status = refl
locate-replies-size V12 Little id status = refl

pub cancels-size : CancelsHaveOneSize
unfolding behind_header
cancels-size V10 Big id = refl
cancels-size V10 Little id = refl
cancels-size V11 Big id = refl
cancels-size V11 Little id = refl
cancels-size V12 Big id = refl
cancels-size V12 Little id = refl

-- two lists of fields, as long as one another at each place
abbrev AreAsLong : Order → List Value → List Value → Type 0
AreAsLong order vs ws = (o : ℕ) → length (octets_of_all order (values vs) o) ≡ length (octets_of_all order (values ws) o)

as-long-after : (order : Order) (v : Value) (vs ws : List Value) → AreAsLong order vs ws → AreAsLong order (v ∷ vs) (v ∷ ws)
as-long-after order v vs ws same o =
    let front = octets_of order v o in
    omega (arith, same (o + length front), length-append front (octets_of_all order (values vs) (o + length front)), length-append front (octets_of_all order (values ws) (o + length front)))

-- an unsigned long has as many octets as another
as-long-id : (order : Order) (id other : ℕ) (vs : List Value) → AreAsLong order (ulong_value id ∷ vs) (ulong_value other ∷ vs)
as-long-id order id other vs o =
    let front = octets_of order (ulong_value id) o in
    let front' = octets_of order (ulong_value other) o in
    let gap : List ℕ = replicate (padding o 4) 0 in
    let same : length front ≡ length front' = omega (arith, four order id, four order other, length-append gap (digits_of order 4 id), length-append gap (digits_of order 4 other)) in
    length-append front (octets_of_all order (values vs) (o + length front))
    ∙ ap (λ (n : ℕ). n + length (octets_of_all order (values vs) (o + n))) same
    ∙ (let e = length-append front' (octets_of_all order (values vs) (o + length front')) in omega arith)

module _ (order : Order) (id other : ℕ) (wish : ReplyWish) (to : Addressed) (operation : List ℕ) (contexts : List (ℕ × List ℕ)) where
  fields-as-long : (version : Version) → AreAsLong order (request_fields version id wish to operation contexts) (request_fields version other wish to operation contexts)
  fields-as-long V10 =
      let more = value.boolean (response_expected wish) ∷ key_value to ∷ value.string operation ∷ value.octets [] ∷ [] in
      as-long-after order (list_value contexts) (ulong_value id ∷ more) (ulong_value other ∷ more) (as-long-id order id other more)
  fields-as-long V11 =
      let more = value.boolean (response_expected wish) ∷ zeros ∷ key_value to ∷ value.string operation ∷ value.octets [] ∷ [] in
      as-long-after order (list_value contexts) (ulong_value id ∷ more) (ulong_value other ∷ more) (as-long-id order id other more)
  fields-as-long V12 = as-long-id order id other (octet_value (response_flags wish) ∷ zeros ∷ target_of to ∷ value.string operation ∷ list_value contexts ∷ [])

  body-as-long : (version : Version) (body : Values) (front front' : List ℕ) → length front ≡ length front'
      → length (front ++ body_octets version Request order body (12 + length front)) ≡ length (front' ++ body_octets version Request order body (12 + length front'))
  body-as-long version body front front' same =
      length-append front (body_octets version Request order body (12 + length front))
      ∙ ap (λ (n : ℕ). n + length (body_octets version Request order body (12 + n))) same
      ∙ (let e = length-append front' (body_octets version Request order body (12 + length front')) in omega arith)

pub requests-size : RequestsHaveOneSize
unfolding behind_header
requests-size version order id other wish to operation contexts body =
    body-as-long order id other wish to operation contexts version body (octets_of_all order (values (request_fields version id wish to operation contexts)) 12) (octets_of_all order (values (request_fields version other wish to operation contexts)) 12)
    (fields-as-long order id other wish to operation contexts version 12)
