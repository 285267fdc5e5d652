-- What is written is read as it was, with its body at its place.
use Rattle.std.proofs.Common.{◌≡◌, ℕ, ◌+◌, ◌<◌, ◌^◌, Bool, true, false, List, [], ◌∷◌, ◌++◌, length, Ok, refl, sym, ap, subst, ◌∙◌, arith}
use Rattle.cdr_core.specs.declared.order.Order.{Order}
use Rattle.cdr_core.specs.Laws.{SpelledIsRead, WrittenIsSpelled}
use Rattle.cdr_core.specs.Numbers.{padding, AreOctets}
use Rattle.cdr_core.specs.Spelling.{IsClean}
use Rattle.cdr_core.specs.Value.{Value}
use Rattle.giop_core.specs.declared.header.MessageKind.TheVariants as kind
use Rattle.giop_core.specs.declared.header.Version.{Version}
use Rattle.giop_core.specs.declared.header.Version.TheVariants.{V10, V11, V12}
use Rattle.giop_core.specs.declared.request.ReplyWish.{ReplyWish}
use Rattle.giop_core.specs.declared.request.ReplyWish.TheVariants as wish
use Rattle.giop_core.specs.Content as content
use Rattle.giop_core.specs.Content.{content, wish_if, Content, Rest}
use Rattle.giop_core.specs.Laws.{HaveTags, IsReadAs, WrittenReplyIsRead, WrittenRequestIsRead, rest_after}
use Rattle.giop_core.specs.Written.{behind_header, octets_body, response_expected}
use Rattle.giop_core.proofs.Again.{all_again}
use Rattle.giop_core.proofs.OctetsBody.{body_read}
use Rattle.giop_core.proofs.ReadAgain.{read_as}
use Rattle.giop_proxy.specs.Placing.{begins_at, contexts_with, end_of, padding_context, principal_for, reply_for, request_fields, request_for, wish_in}
use Rattle.giop_proxy.specs.PlacingLaws.{IsReadAt, PlacedRepliesAreRead, PlacedRequestsAreRead}
use Rattle.giop_proxy.proofs.Choosing.{found}
use Rattle.giop_proxy.proofs.FitAt.{fits_10, fits_11}

-- the body behind fields

abbrev placed_rest : Version → Order → List ℕ → List Value → Rest
placed_rest version order body fields = record { order = order; place = begins_at version (end_of order fields); octets = body }

request_rest : (version : Version) (order : Order) (body : List ℕ) (fields : List Value) → AreOctets body → rest_after version kind.Request order fields (octets_body body) ≡ placed_rest version order body fields
request_rest V10 order body fields are = ap (λ xs. record { order = order; place = end_of order fields; octets = xs }) (body_read order body (end_of order fields) are)
request_rest V11 order body fields are = ap (λ xs. record { order = order; place = end_of order fields; octets = xs }) (body_read order body (end_of order fields) are)
request_rest V12 order body fields are =
    let p = end_of order fields + padding (end_of order fields) 8 in
    ap (λ xs. record { order = order; place = p; octets = xs }) (body_read order body p are)

reply_rest : (version : Version) (order : Order) (body : List ℕ) (fields : List Value) → AreOctets body → rest_after version kind.Reply order fields (octets_body body) ≡ placed_rest version order body fields
reply_rest V10 order body fields are = ap (λ xs. record { order = order; place = end_of order fields; octets = xs }) (body_read order body (end_of order fields) are)
reply_rest V11 order body fields are = ap (λ xs. record { order = order; place = end_of order fields; octets = xs }) (body_read order body (end_of order fields) are)
reply_rest V12 order body fields are =
    let p = end_of order fields + padding (end_of order fields) 8 in
    ap (λ xs. record { order = order; place = p; octets = xs }) (body_read order body p are)

-- the context that says nothing has an id as others have

tags_behind : (xs ys : List (ℕ × List ℕ)) → HaveTags xs → HaveTags ys → HaveTags (xs ++ ys)
tags_behind [] ys a b = b
tags_behind (x ∷ xs) ys a b = (a.0, tags_behind xs ys a.1 b)

tags_with : (padded : Bool) (xs : List (ℕ × List ℕ)) → HaveTags xs → HaveTags (contexts_with padded xs)
tags_with false xs h = h
tags_with true xs h = tags_behind xs (padding_context ∷ []) h (omega arith, tt)

-- a Request

expected : (w : ReplyWish) → wish_if (response_expected (wish_in V10 w)) ≡ wish_in V10 w
expected wish.None = refl
expected wish.Empty = refl
expected wish.Full = refl

module _ (read : SpelledIsRead) (spelled : WrittenIsSpelled) (requests : WrittenRequestIsRead) (order : Order) (id : ℕ) (lt : id < 2 ^ 32) (w : ReplyWish) (key operation principal : List ℕ) (items : List (ℕ × List ℕ)) (clean : IsClean operation) (tags : HaveTags items) (body : List ℕ) where
  says_10 : (rest : Rest) → content V10 kind.Request (request_fields V10 id (wish_in V10 w) key operation items principal) rest ≡ content.request id (wish_in V10 w) (content.by_key key) operation items rest
  unfolding content
  says_10 rest = rw (expected w, all_again items) refl

  says_11 : (rest : Rest) → content V11 kind.Request (request_fields V11 id (wish_in V11 w) key operation items principal) rest ≡ content.request id (wish_in V11 w) (content.by_key key) operation items rest
  unfolding content
  says_11 rest = rw (expected w, all_again items) refl

  request_as : (version : Version) → IsReadAs version kind.Request order (request_fields version id (wish_in version w) key operation items principal) (octets_body body) (content.request id (wish_in version w) (content.by_key key) operation items)
  request_as V10 =
      read_as read spelled V10 kind.Request order (request_fields V10 id (wish_in V10 w) key operation items principal) (octets_body body) (content.request id (wish_in V10 w) (content.by_key key) operation items)
      says_10 (fits_10 order id lt (wish_in V10 w) key operation principal items clean tags)
  request_as V11 =
      read_as read spelled V11 kind.Request order (request_fields V11 id (wish_in V11 w) key operation items principal) (octets_body body) (content.request id (wish_in V11 w) (content.by_key key) operation items)
      says_11 (fits_11 order id lt (wish_in V11 w) key operation principal items clean tags)
  request_as V12 = requests V12 order id w (content.by_key key) operation items (octets_body body) lt tt tt tt clean tags

pub requests_read : SpelledIsRead → WrittenIsSpelled → WrittenRequestIsRead → PlacedRequestsAreRead
requests_read read spelled requests version order id w key operation contexts place body fields lt clean tags are small chosen =
    let f = found version order place body (request_for version id w key operation contexts place body) fields chosen in
    let items = contexts_with f.0 contexts in
    let mine = request_for version id w key operation contexts place body f.0 in
    let fit : length (behind_header version kind.Request order mine (octets_body body)) < 2 ^ 32 = subst (λ (x : List Value). length (behind_header version kind.Request order x (octets_body body)) < 2 ^ 32) (sym f.1) (omega (arith, small)) in
    let one = request_as read spelled requests order id lt w key operation (principal_for place body) items clean (tags_with f.0 contexts tags) body version fit in (
      f.0,
      subst (λ (x : List Value). IsReadAt version kind.Request order place body (behind_header version kind.Request order x (octets_body body)) (content.request id (wish_in version w) (content.by_key key) operation items)) f.1 (record {
        at = begins_at version (end_of order mine);
        reads = one ∙ ap (λ (r : Rest). Ok (content.request id (wish_in version w) (content.by_key key) operation items r)) (request_rest version order body mine are);
        stands = f.2;
      }),
    )

-- a Reply

pub replies_read : WrittenReplyIsRead → PlacedRepliesAreRead
replies_read replies version order id status contexts place body fields lt below tags are small chosen =
    let f = found version order place body (reply_for version id status contexts) fields chosen in
    let items = contexts_with f.0 contexts in
    let mine = reply_for version id status contexts f.0 in
    let fit : length (behind_header version kind.Reply order mine (octets_body body)) < 2 ^ 32 = subst (λ (x : List Value). length (behind_header version kind.Reply order x (octets_body body)) < 2 ^ 32) (sym f.1) (omega (arith, small)) in
    let one = replies version order id status items (octets_body body) lt below (tags_with f.0 contexts tags) fit in (
      f.0,
      subst (λ (x : List Value). IsReadAt version kind.Reply order place body (behind_header version kind.Reply order x (octets_body body)) (content.reply id status items)) f.1 (record {
        at = begins_at version (end_of order mine);
        reads = one ∙ ap (λ (r : Rest). Ok (content.reply id status items r)) (reply_rest version order body mine are);
        stands = f.2;
      }),
    )
