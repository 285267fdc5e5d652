-- The fields of a Request with a principal fit its row, where their octets are not too long.
use Rattle.std.proofs.Common.{◌≡◌, ℕ, zero, suc, ◌+◌, ◌<◌, ◌^◌, pos, false, List, [], ◌∷◌, ◌++◌, length, map, refl, arith, length-append}
use Rattle.std.proofs.lemmas.Int.{ints}
use Rattle.std.specs.Int.{FitsUnsigned, w32}
use Rattle.cdr_core.specs.declared.order.Order.{Order}
use Rattle.cdr_core.specs.Fitting.{AllFit, Fits}
use Rattle.cdr_core.specs.Form as form
use Rattle.cdr_core.specs.Parts.{raw, text}
use Rattle.cdr_core.specs.Spelling.{IsClean}
use Rattle.cdr_core.specs.Value as value
use Rattle.cdr_core.specs.Value.{Value, Values, count, values}
use Rattle.cdr_core.specs.Writing.{number_octets, octets_of, octets_of_all}
use Rattle.cdr_core.proofs.Turns.{count_values}
use Rattle.ior_core.specs.Grammar.{tagged}
use Rattle.giop_core.specs.declared.header.MessageKind.TheVariants as kind
use Rattle.giop_core.specs.declared.header.Version.TheVariants.{V10, V11}
use Rattle.giop_core.specs.declared.request.ReplyWish.{ReplyWish}
use Rattle.giop_core.specs.Content.{nth}
use Rattle.giop_core.specs.Items.{list_value, tagged_value}
use Rattle.giop_core.specs.Laws.{HaveTags}
use Rattle.giop_core.specs.Messages.{is_unknown}
use Rattle.giop_core.specs.Rows.{contexts, reserved, row}
use Rattle.giop_core.specs.Written.{zeros}
use Rattle.giop_core.proofs.Longs.{at_least}
use Rattle.giop_core.proofs.ReadAgain.{FitRow}
use Rattle.giop_proxy.specs.Placing.{request_fields}

ulong_fits : (n : ℕ) → n < 2 ^ 32 → FitsUnsigned w32 (pos n)
ulong_fits n lt = (omega (arith, ints), omega (arith, ints, lt))

module _ (order : Order) where
  text_fits : (xs : List ℕ) (o : ℕ) → IsClean xs → length (octets_of order (value.string xs) o) < 2 ^ 32 → Fits text (value.string xs)
  text_fits xs o clean small =
      let front = number_octets order 4 o (length xs + 1) in
      let lt : length xs + 1 < 2 ^ 32 = omega (arith, small, length-append front (xs ++ 0 ∷ []), length-append xs (0 ∷ []), length-append (front ++ xs) (0 ∷ []), length-append front xs) in
      (omega (arith, lt), lt, clean)

  raw_fits : (xs : List ℕ) (o : ℕ) → length (octets_of order (value.octets xs) o) < 2 ^ 32 → Fits raw (value.octets xs)
  raw_fits xs o small =
      let lt : length xs < 2 ^ 32 = omega (arith, small, length-append (number_octets order 4 o (length xs)) xs) in
      (omega (arith, lt), lt)

  first_short : (v : Value) (vs : Values) (o : ℕ) → length (octets_of_all order (value.value v vs) o) < 2 ^ 32 → length (octets_of order v o) < 2 ^ 32
  first_short v vs o small = omega (arith, small, length-append (octets_of order v o) (octets_of_all order vs (o + length (octets_of order v o))))

  rest_short : (v : Value) (vs : Values) (o : ℕ) → length (octets_of_all order (value.value v vs) o) < 2 ^ 32 → length (octets_of_all order vs (o + length (octets_of order v o))) < 2 ^ 32
  rest_short v vs o small = omega (arith, small, length-append (octets_of order v o) (octets_of_all order vs (o + length (octets_of order v o))))

  tagged_fits : (x : ℕ × List ℕ) (o : ℕ) → x.0 < 2 ^ 32 → length (octets_of order (tagged_value x) o) < 2 ^ 32 → Fits tagged (tagged_value x)
  tagged_fits x o lt small =
      let number = value.number form.ulong (pos x.0) in
      let behind = o + length (octets_of order number o) in
      ((refl, ulong_fits x.0 lt), (raw_fits x.1 behind (first_short (value.octets x.1) value.no_values behind (rest_short number (values (value.octets x.1 ∷ [])) o small)), tt))

  items_fit : (xs : List (ℕ × List ℕ)) (o : ℕ) → HaveTags xs → length (octets_of_all order (values (map tagged_value xs)) o) < 2 ^ 32 → AllFit (Fits tagged) (values (map tagged_value xs))
  items_fit [] o h small = tt
  items_fit (x ∷ xs) o h small = (
    tagged_fits x o h.0 (first_short (tagged_value x) (values (map tagged_value xs)) o small),
    items_fit xs (o + length (octets_of order (tagged_value x) o)) h.1 (rest_short (tagged_value x) (values (map tagged_value xs)) o small),
  )

  list_fits : (xs : List (ℕ × List ℕ)) (o : ℕ) → HaveTags xs → length (octets_of order (list_value xs) o) < 2 ^ 32 → Fits contexts (list_value xs)
  list_fits xs o h small =
      let vs = values (map tagged_value xs) in
      let front = number_octets order 4 o (count vs) in
      let behind : length (octets_of_all order vs (o + length front)) < 2 ^ 32 = omega (arith, small, length-append front (octets_of_all order vs (o + length front))) in
      let lt : count vs < 2 ^ 32 = omega (arith, behind, at_least xs order (o + length front), count_values tagged_value xs) in
      (omega (arith, lt), lt, items_fit xs (o + length front) h behind)

  -- of fields that are short each is
  nth_short : (n : ℕ) (fields : List Value) (o : ℕ) → length (octets_of_all order (values fields) o) < 2 ^ 32 → (p : ℕ) × (length (octets_of order (nth n fields) p) < 2 ^ 32)
  nth_short n [] o small = (0, omega arith)
  nth_short zero (v ∷ vs) o small = (o, first_short v (values vs) o small)
  nth_short (suc n) (v ∷ vs) o small = nth_short n vs (o + length (octets_of order v o)) (rest_short v (values vs) o small)

  zeros_fit : Fits reserved zeros × (is_unknown zeros ≡ false)
  zeros_fit = ((refl, omega arith, ((refl, omega arith), ((refl, omega arith), ((refl, omega arith), tt)))), refl)

  module _ (id : ℕ) (lt : id < 2 ^ 32) (wish : ReplyWish) (key operation principal : List ℕ) (items : List (ℕ × List ℕ)) (clean : IsClean operation) (tags : HaveTags items) where
    pub fits_10 : length (octets_of_all order (values (request_fields V10 id wish key operation items principal)) 12) < 2 ^ 32 → FitRow (row V10 kind.Request) (request_fields V10 id wish key operation items principal)
    unfolding row
    fits_10 small =
        let fields = request_fields V10 id wish key operation items principal in
        let c = nth_short 0 fields 12 small in
        let k = nth_short 3 fields 12 small in
        let t = nth_short 4 fields 12 small in
        let p = nth_short 5 fields 12 small in
        ((list_fits items c.0 tags c.1, refl), (((refl, ulong_fits id lt), refl), ((tt, refl), ((raw_fits key k.0 k.1, refl), ((text_fits operation t.0 clean t.1, refl), ((raw_fits principal p.0 p.1, refl), tt))))))

    pub fits_11 : length (octets_of_all order (values (request_fields V11 id wish key operation items principal)) 12) < 2 ^ 32 → FitRow (row V11 kind.Request) (request_fields V11 id wish key operation items principal)
    unfolding row
    fits_11 small =
        let fields = request_fields V11 id wish key operation items principal in
        let c = nth_short 0 fields 12 small in
        let k = nth_short 4 fields 12 small in
        let t = nth_short 5 fields 12 small in
        let p = nth_short 6 fields 12 small in
        ((list_fits items c.0 tags c.1, refl), (((refl, ulong_fits id lt), refl), ((tt, refl), (zeros_fit, ((raw_fits key k.0 k.1, refl), ((text_fits operation t.0 clean t.1, refl), ((raw_fits principal p.0 p.1, refl), tt)))))))
