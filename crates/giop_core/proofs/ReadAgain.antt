-- What is written fits the types of its row, and is read as it was.
use Rattle.std.proofs.Common.{◌≡◌, ℕ, zero, suc, ◌+◌, ◌<◌, ◌^◌, ℤ, pos, false, List, [], ◌∷◌, ◌++◌, FitsSigned, length, drop, map, replicate, Ok, refl, sym, ap, ◌∙◌, arith, length-append}
use Rattle.std.proofs.lemmas.Int.{ints}
use Rattle.std.proofs.lemmas.List.{append-nil, drop_at, length-replicate}
use Rattle.std.specs.Int.{FitsUnsigned, w32}
use Rattle.cdr_core.specs.declared.order.Order.{Order}
use Rattle.cdr_core.specs.Encapsulation.{byte_order}
use Rattle.cdr_core.proofs.Enclosing.{enclosed_only}
use Rattle.cdr_core.specs.Fitting.{AllFit, Fits}
use Rattle.cdr_core.specs.Form.{Form}
use Rattle.cdr_core.specs.Laws.{SpelledIsRead, WrittenIsSpelled}
use Rattle.cdr_core.specs.Numbers.{padding}
use Rattle.cdr_core.specs.Parts.{long_value, octet, octet_value, raw, short_value, text, ulong, ulong_value, ulonglong_value}
use Rattle.cdr_core.specs.Reading.{value_at}
use Rattle.cdr_core.specs.Spelling.{IsClean, Spells}
use Rattle.cdr_core.proofs.Turns.{count_values}
use Rattle.cdr_core.specs.Value as value
use Rattle.cdr_core.specs.Value.{Value, Values, count, values}
use Rattle.cdr_core.specs.Writing.{number_octets, octets_of, octets_of_all}
use Rattle.ior_core.specs.Grammar.{reference, tagged}
use Rattle.giop_core.specs.declared.header.MessageKind.{MessageKind}
use Rattle.giop_core.specs.declared.header.MessageKind.TheVariants as kind
use Rattle.giop_core.specs.declared.header.Version.{Version}
use Rattle.giop_core.specs.declared.header.Version.TheVariants.{V10, V11, V12}
use Rattle.giop_core.specs.declared.request.ReplyWish.{ReplyWish}
use Rattle.giop_core.specs.declared.request.ReplyWish.TheVariants as wish
use Rattle.giop_core.specs.Content as content
use Rattle.giop_core.specs.Content.{addressed, content, nth, wish_if, wish_of, Addressed, Content, Rest}
use Rattle.giop_core.specs.Ft.{ft_by, ft_in, ft_of}
use Rattle.giop_core.specs.Grammar.{IsMessage, SpellsFields}
use Rattle.giop_core.specs.Items.{list_value, reference_as, tagged_value}
use Rattle.giop_core.specs.Laws.{rest_after, written_rest, HaveTags, IsReadAs, IsTarget, WrittenCancelIsRead, WrittenFtIsPresent, WrittenLocateReplyIsRead, WrittenLocateRequestIsRead, WrittenReplyIsRead, WrittenRequestIsRead}
use Rattle.giop_core.specs.Messages.{is_unknown, rest_at}
use Rattle.giop_core.specs.Rows.{contexts, ft_request, reserved, row, target}
use Rattle.giop_core.specs.Written.{behind_gap, behind_header, body_octets, cancel_fields, response_flags, ft_octets, ft_value_of, response_expected, key_value, locate_reply_fields, locate_request_fields, locate_statuses, reply_fields, reply_statuses, request_fields, selected_as, target_of, zeros, CanAddress, CanAsk}
use Rattle.giop_core.proofs.Again.{all_again, object_again}
use Rattle.giop_core.proofs.FirstContext.{first_behind}
use Rattle.giop_core.proofs.Longs.{at_least}
use Rattle.giop_core.proofs.Spelled.{message_only}

-- fields that fit a row, each its type; a union holds one of its members
abbrev pub FitRow : List Form → List Value → Type 0
FitRow [] [] = Unit {0}
FitRow (t ∷ ts) (v ∷ vs) = (Fits t v × (is_unknown v ≡ false)) × FitRow ts vs
FitRow _ _ = ⊥

fields_spelled : WrittenIsSpelled → (ts : List Form) (order : Order) (vs : List Value) (o : ℕ) → FitRow ts vs → SpellsFields ts order vs o (octets_of_all order (values vs) o)
fields_spelled law [] order [] o h = refl
fields_spelled law [] order (v ∷ vs) o h = absurd h
fields_spelled law (t ∷ ts) order [] o h = absurd h
fields_spelled law (t ∷ ts) order (v ∷ vs) o h =
    let front = octets_of order v o in
    record { front = front; rest = octets_of_all order (values vs) (o + length front); parts = refl; first = (law t order v h.0.0 o, h.0.1); second = fields_spelled law ts order vs (o + length front) h.1 }

-- the body is found again at its place

drop_none : (n : ℕ) → drop {A = ℕ} n [] ≡ []
drop_none zero = refl
drop_none (suc n) = refl

aligned_again : (gap : ℕ) (xs : List ℕ) → drop gap (behind_gap gap xs) ≡ xs
aligned_again gap [] = drop_none gap
aligned_again gap (x ∷ xs) = drop_at (replicate gap 0) (x ∷ xs) gap (length-replicate {A = ℕ} gap 0)

body_again : (version : Version) (kind : MessageKind) (order : Order) (body : Values) (place : ℕ) → rest_at version kind order place (body_octets version kind order body place) ≡ written_rest version kind order body place
body_again V12 kind.Request order body place = ap (λ xs. record { order = order; place = place + padding place 8; octets = xs }) (aligned_again (padding place 8) (octets_of_all order body (place + padding place 8)))
body_again V12 kind.Reply order body place = ap (λ xs. record { order = order; place = place + padding place 8; octets = xs }) (aligned_again (padding place 8) (octets_of_all order body (place + padding place 8)))
body_again V12 kind.CancelRequest order body place = refl
body_again V12 kind.LocateRequest order body place = refl
body_again V12 kind.LocateReply order body place = refl
body_again V12 kind.CloseConnection order body place = refl
body_again V12 kind.MessageError order body place = refl
body_again V12 kind.Fragment order body place = refl
body_again V10 kind order body place = refl
body_again V11 kind order body place = refl

pub written_is_message : WrittenIsSpelled → (version : Version) (kind : MessageKind) (order : Order) (fields : List Value) (body : Values) → FitRow (row version kind) fields
    → IsMessage version kind order (behind_header version kind order fields body) (content version kind fields (rest_after version kind order fields body))
unfolding behind_header
written_is_message law version kind order fields body fit =
    let front = octets_of_all order (values fields) 12 in
    record {
      front = front;
      rest = body_octets version kind order body (12 + length front);
      fields = fields;
      parts = refl;
      spelled = fields_spelled law (row version kind) order fields 12 fit;
      says = ap (content version kind fields) (sym (body_again version kind order body (12 + length front)));
    }

-- what fits, where its octets are not too long

ulong_fits : (n : ℕ) → n < 2 ^ 32 → FitsUnsigned w32 (pos n)
ulong_fits n lt = (omega (arith, ints), omega (arith, ints, lt))

module _ (order : Order) where
  text_fits : (xs : List ℕ) (o : ℕ) → IsClean xs → length (octets_of order (value.string xs) o) < 2 ^ 32 → Fits text (value.string xs)
  text_fits xs o clean small =
      let front = number_octets order 4 o (length xs + 1) in
      let lt : length xs + 1 < 2 ^ 32 = omega (arith, small, length-append front (xs ++ 0 ∷ []), length-append xs (0 ∷ []), length-append (front ++ xs) (0 ∷ []), length-append front xs) in
      (omega (arith, lt), lt, clean)

  raw_fits : (xs : List ℕ) (o : ℕ) → length (octets_of order (value.octets xs) o) < 2 ^ 32 → Fits raw (value.octets xs)
  raw_fits xs o small =
      let lt : length xs < 2 ^ 32 = omega (arith, small, length-append (number_octets order 4 o (length xs)) xs) in
      (omega (arith, lt), lt)

  -- the parts of short octets are short
  first_short : (v : Value) (vs : Values) (o : ℕ) → length (octets_of_all order (value.value v vs) o) < 2 ^ 32 → length (octets_of order v o) < 2 ^ 32
  first_short v vs o small = omega (arith, small, length-append (octets_of order v o) (octets_of_all order vs (o + length (octets_of order v o))))

  rest_short : (v : Value) (vs : Values) (o : ℕ) → length (octets_of_all order (value.value v vs) o) < 2 ^ 32 → length (octets_of_all order vs (o + length (octets_of order v o))) < 2 ^ 32
  rest_short v vs o small = omega (arith, small, length-append (octets_of order v o) (octets_of_all order vs (o + length (octets_of order v o))))

  tagged_fits : (x : ℕ × List ℕ) (o : ℕ) → x.0 < 2 ^ 32 → length (octets_of order (tagged_value x) o) < 2 ^ 32 → Fits tagged (tagged_value x)
  tagged_fits x o lt small =
      let number = value.number Rattle.cdr_core.specs.Form.ulong (pos x.0) in
      let behind = o + length (octets_of order number o) in
      ((refl, ulong_fits x.0 lt), (raw_fits x.1 behind (first_short (value.octets x.1) value.no_values behind (rest_short number (values (value.octets x.1 ∷ [])) o small)), tt))

  items_fit : (xs : List (ℕ × List ℕ)) (o : ℕ) → HaveTags xs → length (octets_of_all order (values (map tagged_value xs)) o) < 2 ^ 32 → AllFit (Fits tagged) (values (map tagged_value xs))
  items_fit [] o h small = tt
  items_fit (x ∷ xs) o h small = (
    tagged_fits x o h.0 (first_short (tagged_value x) (values (map tagged_value xs)) o small),
    items_fit xs (o + length (octets_of order (tagged_value x) o)) h.1 (rest_short (tagged_value x) (values (map tagged_value xs)) o small),
  )

  list_fits : (xs : List (ℕ × List ℕ)) (o : ℕ) → HaveTags xs → length (octets_of order (list_value xs) o) < 2 ^ 32 → Fits contexts (list_value xs)
  list_fits xs o h small =
      let vs = values (map tagged_value xs) in
      let front = number_octets order 4 o (count vs) in
      let behind : length (octets_of_all order vs (o + length front)) < 2 ^ 32 = omega (arith, small, length-append front (octets_of_all order vs (o + length front))) in
      let lt : count vs < 2 ^ 32 = omega (arith, behind, at_least xs order (o + length front), count_values tagged_value xs) in
      (omega (arith, lt), lt, items_fit xs (o + length front) h behind)

  -- of fields that are short each is
  nth_short : (n : ℕ) (fields : List Value) (o : ℕ) → length (octets_of_all order (values fields) o) < 2 ^ 32 → (p : ℕ) × (length (octets_of order (nth n fields) p) < 2 ^ 32)
  nth_short n [] o small = (0, omega arith)
  nth_short zero (v ∷ vs) o small = (o, first_short v (values vs) o small)
  nth_short (suc n) (v ∷ vs) o small = nth_short n vs (o + length (octets_of order v o)) (rest_short v (values vs) o small)

  reference_fits : (id : List ℕ) (profiles : List (ℕ × List ℕ)) (o : ℕ) → IsClean id → HaveTags profiles → length (octets_of order (reference_as id profiles) o) < 2 ^ 32 → Fits reference (reference_as id profiles)
  reference_fits id profiles o clean tags small =
      let one = nth_short 0 (value.string id ∷ list_value profiles ∷ []) o small in
      let two = nth_short 1 (value.string id ∷ list_value profiles ∷ []) o small in
      (text_fits id one.0 clean one.1, (list_fits profiles two.0 tags two.1, tt))

  target_fits : (to : Addressed) (o : ℕ) → IsTarget to → length (octets_of order (target_of to) o) < 2 ^ 32 → Fits target (target_of to) × (is_unknown (target_of to) ≡ false)
  target_fits (content.by_key key) o is small =
      let one = nth_short 1 (short_value (pos 0) ∷ value.octets key ∷ []) o small in
      (((refl, omega arith), raw_fits key one.0 one.1), refl)
  target_fits (content.by_profile tag octets) o is small =
      let one = nth_short 1 (short_value (pos 1) ∷ tagged_value (tag, octets) ∷ []) o small in
      (((refl, omega arith), tagged_fits (tag, octets) one.0 is one.1), refl)
  target_fits (content.by_reference index id profiles) o is small =
      let one = nth_short 1 (short_value (pos 2) ∷ selected_as index id profiles ∷ []) o small in
      let two = nth_short 1 (ulong_value index ∷ reference_as id profiles ∷ []) one.0 one.1 in
      (((refl, omega arith), ((refl, ulong_fits index is.0), (reference_fits id profiles two.0 is.1 is.2 two.1, tt))), refl)

  key_fits : (to : Addressed) (o : ℕ) → CanAddress V10 to → length (octets_of order (key_value to) o) < 2 ^ 32 → Fits raw (key_value to) × (is_unknown (key_value to) ≡ false)
  key_fits (content.by_key key) o can small = (raw_fits key o small, refl)
  key_fits (content.by_profile tag octets) o can small = absurd can
  key_fits (content.by_reference index id profiles) o can small = absurd can

  zeros_fit : Fits reserved zeros × (is_unknown zeros ≡ false)
  zeros_fit = ((refl, omega arith, ((refl, omega arith), ((refl, omega arith), ((refl, omega arith), tt)))), refl)

  flags_fit : (wish : ReplyWish) → Fits octet (octet_value (response_flags wish)) × (is_unknown (octet_value (response_flags wish)) ≡ false)
  flags_fit wish.None = ((refl, omega arith), refl)
  flags_fit wish.Empty = ((refl, omega arith), refl)
  flags_fit wish.Full = ((refl, omega arith), refl)

  none_fits : Fits raw (value.octets []) × (is_unknown (value.octets []) ≡ false)
  none_fits = ((omega arith, omega arith), refl)

  module _ (id : ℕ) (lt : id < 2 ^ 32) where
    id_fits : Fits ulong (ulong_value id) × (is_unknown (ulong_value id) ≡ false)
    id_fits = ((refl, ulong_fits id lt), refl)

    request_fits : (version : Version) (wish : ReplyWish) (to : Addressed) (operation : List ℕ) (contexts : List (ℕ × List ℕ)) → CanAddress version to → IsTarget to → IsClean operation → HaveTags contexts
        → length (octets_of_all order (values (request_fields version id wish to operation contexts)) 12) < 2 ^ 32 → FitRow (row version kind.Request) (request_fields version id wish to operation contexts)
    unfolding row
    request_fits V10 wish to operation contexts can is clean tags small =
        let fields = request_fields V10 id wish to operation contexts in
        let c = nth_short 0 fields 12 small in
        let k = nth_short 3 fields 12 small in
        let t = nth_short 4 fields 12 small in
        ((list_fits contexts c.0 tags c.1, refl), (id_fits, ((tt, refl), (key_fits to k.0 can k.1, ((text_fits operation t.0 clean t.1, refl), (none_fits, tt))))))
    request_fits V11 wish to operation contexts can is clean tags small =
        let fields = request_fields V11 id wish to operation contexts in
        let c = nth_short 0 fields 12 small in
        let k = nth_short 4 fields 12 small in
        let t = nth_short 5 fields 12 small in
        ((list_fits contexts c.0 tags c.1, refl), (id_fits, ((tt, refl), (zeros_fit, (key_fits to k.0 can k.1, ((text_fits operation t.0 clean t.1, refl), (none_fits, tt)))))))
    request_fits V12 wish to operation contexts can is clean tags small =
        let fields = request_fields V12 id wish to operation contexts in
        let k = nth_short 3 fields 12 small in
        let t = nth_short 4 fields 12 small in
        let c = nth_short 5 fields 12 small in
        (id_fits, (flags_fit wish, (zeros_fit, (target_fits to k.0 is k.1, ((text_fits operation t.0 clean t.1, refl), ((list_fits contexts c.0 tags c.1, refl), tt))))))

    reply_fits : (version : Version) (status : ℕ) (contexts : List (ℕ × List ℕ)) → status < reply_statuses version → HaveTags contexts
        → length (octets_of_all order (values (reply_fields version id status contexts)) 12) < 2 ^ 32 → FitRow (row version kind.Reply) (reply_fields version id status contexts)
    unfolding row
    reply_fits V10 status contexts below tags small =
        let c = nth_short 0 (reply_fields V10 id status contexts) 12 small in
        ((list_fits contexts c.0 tags c.1, refl), (id_fits, (((below, omega (arith, below)), refl), tt)))
    reply_fits V11 status contexts below tags small =
        let c = nth_short 0 (reply_fields V11 id status contexts) 12 small in
        ((list_fits contexts c.0 tags c.1, refl), (id_fits, (((below, omega (arith, below)), refl), tt)))
    reply_fits V12 status contexts below tags small =
        let c = nth_short 2 (reply_fields V12 id status contexts) 12 small in
        (id_fits, (((below, omega (arith, below)), refl), ((list_fits contexts c.0 tags c.1, refl), tt)))

    pub cancel_fits : (version : Version) → FitRow (row version kind.CancelRequest) (cancel_fields id)
    unfolding row
    cancel_fits V10 = (id_fits, tt)
    cancel_fits V11 = (id_fits, tt)
    cancel_fits V12 = (id_fits, tt)

    pub locate_request_fits : (version : Version) (to : Addressed) → CanAddress version to → IsTarget to
        → length (octets_of_all order (values (locate_request_fields version id to)) 12) < 2 ^ 32 → FitRow (row version kind.LocateRequest) (locate_request_fields version id to)
    unfolding row
    locate_request_fits V10 to can is small = let k = nth_short 1 (locate_request_fields V10 id to) 12 small in (id_fits, (key_fits to k.0 can k.1, tt))
    locate_request_fits V11 to can is small = let k = nth_short 1 (locate_request_fields V11 id to) 12 small in (id_fits, (key_fits to k.0 can k.1, tt))
    locate_request_fits V12 to can is small = let k = nth_short 1 (locate_request_fields V12 id to) 12 small in (id_fits, (target_fits to k.0 is k.1, tt))

    locate_reply_fits : (version : Version) (status : ℕ) → status < locate_statuses version → FitRow (row version kind.LocateReply) (locate_reply_fields id status)
    unfolding row
    locate_reply_fits V10 status below = (id_fits, (((below, omega (arith, below)), refl), tt))
    locate_reply_fits V11 status below = (id_fits, (((below, omega (arith, below)), refl), tt))
    locate_reply_fits V12 status below = (id_fits, (((below, omega (arith, below)), refl), tt))

-- what the fields say

key_again : (to : Addressed) → CanAddress V10 to → addressed (key_value to) ≡ to
key_again (content.by_key key) can = refl
key_again (content.by_profile tag octets) can = absurd can
key_again (content.by_reference index id profiles) can = absurd can

flags_again : (wish : ReplyWish) → wish_of (octet_value (response_flags wish)) ≡ wish
flags_again wish.None = refl
flags_again wish.Empty = refl
flags_again wish.Full = refl

expected_again : (wish : ReplyWish) → CanAsk V10 wish → wish_if (response_expected wish) ≡ wish
expected_again wish.None ask = refl
expected_again wish.Empty ask = absurd ask
expected_again wish.Full ask = refl

request_says : (version : Version) (id : ℕ) (wish : ReplyWish) (to : Addressed) (operation : List ℕ) (contexts : List (ℕ × List ℕ)) (rest : Rest) → CanAsk version wish → CanAddress version to
    → content version kind.Request (request_fields version id wish to operation contexts) rest ≡ content.request id wish to operation contexts rest
unfolding content
request_says V10 id wish to operation contexts rest ask can = rw (expected_again wish ask, key_again to can, all_again contexts) refl
request_says V11 id wish to operation contexts rest ask can = rw (expected_again wish ask, key_again to can, all_again contexts) refl
request_says V12 id wish to operation contexts rest ask can = rw (flags_again wish, object_again to, all_again contexts) refl

reply_says : (version : Version) (id status : ℕ) (contexts : List (ℕ × List ℕ)) (rest : Rest) → content version kind.Reply (reply_fields version id status contexts) rest ≡ content.reply id status contexts rest
unfolding content
reply_says V10 id status contexts rest = rw (all_again contexts) refl
reply_says V11 id status contexts rest = rw (all_again contexts) refl
reply_says V12 id status contexts rest = rw (all_again contexts) refl

pub cancel_says : (version : Version) (id : ℕ) (rest : Rest) → content version kind.CancelRequest (cancel_fields id) rest ≡ content.cancel id
unfolding content
cancel_says V10 id rest = refl
cancel_says V11 id rest = refl
cancel_says V12 id rest = refl

pub locate_request_says : (version : Version) (id : ℕ) (to : Addressed) (rest : Rest) → CanAddress version to → content version kind.LocateRequest (locate_request_fields version id to) rest ≡ content.locate_request id to
unfolding content
locate_request_says V10 id to rest can = rw (key_again to can) refl
locate_request_says V11 id to rest can = rw (key_again to can) refl
locate_request_says V12 id to rest can = rw (object_again to) refl

locate_reply_says : (version : Version) (id status : ℕ) (rest : Rest) → content version kind.LocateReply (locate_reply_fields id status) rest ≡ content.locate_reply id status rest
unfolding content
locate_reply_says V10 id status rest = refl
locate_reply_says V11 id status rest = refl
locate_reply_says V12 id status rest = refl

-- together

fields_small : (version : Version) (kind : MessageKind) (order : Order) (fields : List Value) (body : Values) → length (behind_header version kind order fields body) < 2 ^ 32 → length (octets_of_all order (values fields) 12) < 2 ^ 32
unfolding behind_header
fields_small version kind order fields body small =
    let front = octets_of_all order (values fields) 12 in
    omega (arith, small, length-append front (body_octets version kind order body (12 + length front)))

pub read_as : SpelledIsRead → WrittenIsSpelled → (version : Version) (kind : MessageKind) (order : Order) (fields : List Value) (body : Values) (m : Rest → Content)
    → ((rest : Rest) → content version kind fields rest ≡ m rest) → (length (octets_of_all order (values fields) 12) < 2 ^ 32 → FitRow (row version kind) fields) → IsReadAs version kind order fields body m
read_as read spelled version kind order fields body m says fit small =
    message_only read version kind order (behind_header version kind order fields body) (content version kind fields (rest_after version kind order fields body))
    (written_is_message spelled version kind order fields body (fit (fields_small version kind order fields body small)))
    ∙ ap (λ (x : Content). Ok x) (says (rest_after version kind order fields body))

module _ (read : SpelledIsRead) (spelled : WrittenIsSpelled) where
  pub request_read : WrittenRequestIsRead
  request_read version order id wish to operation contexts body lt ask can is clean tags =
      read_as read spelled version kind.Request order (request_fields version id wish to operation contexts) body (content.request id wish to operation contexts)
      (λ rest. request_says version id wish to operation contexts rest ask can) (request_fits order id lt version wish to operation contexts can is clean tags)

  pub reply_read : WrittenReplyIsRead
  reply_read version order id status contexts body lt below tags =
      read_as read spelled version kind.Reply order (reply_fields version id status contexts) body (content.reply id status contexts)
      (reply_says version id status contexts) (reply_fits order id lt version status contexts below tags)

  pub cancel_read : WrittenCancelIsRead
  cancel_read version order id lt =
      read_as read spelled version kind.CancelRequest order (cancel_fields id) value.no_values (λ _. content.cancel id) (cancel_says version id) (λ _. cancel_fits order id lt version)

  pub locate_request_read : WrittenLocateRequestIsRead
  locate_request_read version order id to lt can is =
      read_as read spelled version kind.LocateRequest order (locate_request_fields version id to) value.no_values (λ _. content.locate_request id to)
      (λ rest. locate_request_says version id to rest can) (locate_request_fits order id lt version to can is)

  pub locate_reply_read : WrittenLocateReplyIsRead
  locate_reply_read version order id status body lt below =
      read_as read spelled version kind.LocateReply order (locate_reply_fields id status) body (content.locate_reply id status)
      (locate_reply_says version id status) (λ _. locate_reply_fits order id lt version status below)

-- a written FT_REQUEST

ft_fits : (order : Order) (client : List ℕ) (id : ℤ) (expiration : ℕ) → IsClean client → FitsSigned w32 id → expiration < 2 ^ 64 → length (ft_octets order client id expiration) < 2 ^ 32 → Fits ft_request (ft_value_of client id expiration)
ft_fits order client id expiration clean signed lt small =
    let one = nth_short order 0 (value.string client ∷ long_value id ∷ ulonglong_value expiration ∷ []) 1 (omega (arith, small)) in
    (text_fits order client one.0 clean one.1, ((refl, signed), ((refl, (omega (arith, ints), omega (arith, ints, lt))), tt)))

pub ft_read : SpelledIsRead → WrittenIsSpelled → WrittenFtIsPresent
unfolding ft_in
ft_read read spelled order client id expiration before more clean signed lt small none =
    let v = ft_value_of client id expiration in
    let octets = octets_of order v 1 in
    let holds = spelled ft_request order v (ft_fits order client id expiration clean signed lt small) 1 in
    ap ft_of (first_behind 13 (ft_octets order client id expiration) more before none)
    ∙ ap ft_by (enclosed_only read (λ o w. Spells ft_request o w) (value_at ft_request) (λ o w p front rest s. read ft_request o w p front rest s) (ft_octets order client id expiration) v
    (record { order = order; front = octets; rest = []; parts = ap (λ xs. byte_order order ∷ xs) (sym (append-nil octets)); holds = holds }))
