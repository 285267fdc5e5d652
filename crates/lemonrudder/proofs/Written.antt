-- Messages that are written into a room.
use Rattle.std.proofs.Common.{◌≡◌, ◌∙◌, ℕ, ◌+◌, ◌<◌, ◌≤◌, ◌^◌, List, [], ◌∷◌, ◌++◌, length, map, Option, Some, None, Result, Ok, Err, ◌⊎◌, refl, ap, sym, subst, inl, inr, arith, append-nil}
use Rattle.std.proofs.lemmas.Bool.{cases_lt}
use Rattle.std.proofs.lemmas.Result.{err_from_is_err_and}
use Rattle.std.specs.Result.{IsErrAnd}
use Rattle.cdr_core.specs.declared.order.Order.{Order}
use Rattle.cdr_core.specs.declared.values.Val.{Val}
use Rattle.cdr_core.specs.Numbers.{padding}
use Rattle.cdr_core.specs.Parts.{octet_value}
use Rattle.cdr_core.specs.Value.{Value, Values, no_values, values}
use Rattle.cdr_core.specs.View.{value_of, values_of}
use Rattle.cdr_core.specs.Writing.{AreWritable, octets_of_all}
use Rattle.giop_core.specs.declared.error.WriteError.{WriteError}
use Rattle.giop_core.specs.declared.error.WriteError.TheVariants.{Memory, TooLong}
use Rattle.giop_core.specs.declared.header.MessageKind.{MessageKind}
use Rattle.giop_core.specs.declared.header.MessageKind.TheVariants as kind
use Rattle.giop_core.specs.declared.header.Version.{Version}
use Rattle.giop_core.specs.declared.header.Version.TheVariants.{V10, V11, V12}
use Rattle.giop_core.specs.declared.request.ReplyWish.{ReplyWish}
use Rattle.giop_core.specs.Written.{Wrote, WroteOctets, behind_gap, behind_header, body_octets, message_octets, octets_body}
use Rattle.lemonrudder.specs.declared.messages.Asking.{Asking}
use Rattle.lemonrudder.specs.declared.refusal.Refusal.{Refusal}
use Rattle.lemonrudder.specs.declared.refusal.Refusal.TheVariants as refusal
use Rattle.lemonrudder.specs.Naming.{order_named, version_named}
use Rattle.lemonrudder.specs.Refusals.{filled, refusal_of_writing}
use Rattle.lemonrudder.specs.Sizes.{HasRoom, body_end, fields_end}
use Rattle.lemonrudder.specs.Writes.{CanStand, IsManner, Writing, asked, asked_fields, counted, manner, message, named, placed, said_by}
use Rattle.lemonrudder.proofs.Sized.{message_size, request_place, request_size}

-- in a version and an order of which one has no name
no_order : (v : Option Version) (o : Option Order) (W : Version → Order → Writing) (room : List ℕ) → o ≡ None → named v (λ a. named o (W a)) room room (Err refusal.Range)
no_order None o W room is = (refl, refl)
no_order (Some v) o W room is = subst (λ b. named b (W v) room room (Err refusal.Range)) (sym is) (refl, refl)

pub no_manner : (version order : ℕ) (W : Version → Order → Writing) (room : List ℕ) (e : Refusal) → IsManner version order (Err e) → manner version order W room room (Err e)
no_manner version order W room e is = subst (λ f. manner version order W room room (Err f)) (sym is.0) (by is.1) where
  by : ((version_named version ≡ None) ⊎ (order_named order ≡ None)) → manner version order W room room (Err refusal.Range)
  by (inl none) = subst (λ v. named v (λ a. named (order_named order) (W a)) room room (Err refusal.Range)) (sym none) (refl, refl)
  by (inr none) = no_order (version_named version) (order_named order) W room none

-- an error that is handed on
pub from_err : (r : Result ℕ Refusal) (e : Refusal) → IsErrAnd r (λ y. y ≡ e) → r ≡ Err e
from_err r e h = let p = err_from_is_err_and r h in p.1 ∙ ap Err p.2

-- octets as values can be written
octets_writable : (octets : List ℕ) → AreWritable (values (map octet_value octets))
octets_writable [] = tt
octets_writable (x ∷ xs) = (tt, octets_writable xs)

pub read_writable : (vs : List Val) (octets : List ℕ) → map value_of vs ≡ map octet_value octets → AreWritable (values_of vs)
read_writable vs octets is = subst (λ all. AreWritable (values all)) (sym is) (octets_writable octets)

-- a Request with a body that comes as octets

same_octets : (o : Order) (octets : List ℕ) (place : ℕ) → octets_of_all o (values (map octet_value octets)) place ≡ octets_of_all o (octets_body octets) place
same_octets o octets place = sym (append-nil (octets_of_all o (values (map octet_value octets)) place))

same_body : (v : Version) (o : Order) (octets : List ℕ) (place : ℕ) → body_octets v kind.Request o (values (map octet_value octets)) place ≡ body_octets v kind.Request o (octets_body octets) place
same_body V10 o octets place = same_octets o octets place
same_body V11 o octets place = same_octets o octets place
same_body V12 o octets place = ap (behind_gap (padding place 8)) (same_octets o octets (place + padding place 8))

-- octets as values, one after another, are the body of these octets
same_request : (v : Version) (o : Order) (fields : List Value) (octets : List ℕ) → behind_header v kind.Request o fields (values (map octet_value octets)) ≡ behind_header v kind.Request o fields (octets_body octets)
unfolding behind_header
same_request v o fields octets = ap (λ ys. octets_of_all o (values fields) 12 ++ ys) (same_body v o octets (12 + length (octets_of_all o (values fields) 12)))

read_request : (v : Version) (o : Order) (fields : List Value) (vs : List Val) (octets : List ℕ) → map value_of vs ≡ map octet_value octets → behind_header v kind.Request o fields (values_of vs) ≡ behind_header v kind.Request o fields (octets_body octets)
read_request v o fields vs octets is = ap (λ all. behind_header v kind.Request o fields (values all)) is ∙ same_request v o fields octets

-- whether there is room

-- there is none, or a count is too small
pub no_room : (limit size behind : ℕ) (all octets room : List ℕ) (e : Refusal) → limit + 1 ≡ 2 ^ 32 + behind → length all + behind ≡ size → length octets ≡ size → HasRoom limit size (length room) (Err e) → counted all octets room room (Err e)
no_room limit size behind all octets room refusal.Long most of is h = (omega arith, refl)
no_room limit size behind all octets room refusal.Room most of is h = (omega arith, (omega arith, refl))
no_room limit size behind all octets room e most of is h = absurd h

-- there is, and memory is short
pub no_memory : (limit size behind : ℕ) (all octets room : List ℕ) → limit + 1 ≡ 2 ^ 32 + behind → length all + behind ≡ size → length octets ≡ size → HasRoom limit size (length room) (Ok tt) → counted all octets room room (Err refusal.Memory)
no_memory limit size behind all octets room most of is h = (omega arith, omega arith, refl)

-- .. or they are not written
pub octets_unwritten : (limit size : ℕ) (octets room old new : List ℕ) (e : WriteError) → limit + 1 ≡ 2 ^ 32 → length octets ≡ size → HasRoom limit size (length room) (Ok tt) → WroteOctets {A = Unit {0}} octets (Err e) old new
    → counted octets octets room room (Err (refusal_of_writing e))
octets_unwritten limit size octets room old new TooLong most is h wrote = (wrote.0, refl)
octets_unwritten limit size octets room old new Memory most is h wrote = no_memory limit size 0 octets octets room (omega arith) (omega arith) is h

pub octets_no_room : (limit size : ℕ) (octets room : List ℕ) (e : Refusal) → limit + 1 ≡ 2 ^ 32 → length octets ≡ size → HasRoom limit size (length room) (Err e) → counted octets octets room room (Err e)
octets_no_room limit size octets room e most is h = no_room limit size 0 octets octets room e (omega arith) (omega arith) is h

-- a message that there is no room for, or no memory, or which is not written
module _ (v : Version) (k : MessageKind) (o : Order) (after room : List ℕ) (size : ℕ) (is : 12 + length after ≡ size) where
  pub message_no_room : (e : Refusal) → HasRoom 4294967307 size (length room) (Err e) → message v k o after room room (Err e)
  message_no_room e h = no_room 4294967307 size 12 after (message_octets v k o after) room e refl (omega arith) (message_size v k o after ∙ is) h

  pub message_no_memory : HasRoom 4294967307 size (length room) (Ok tt) → message v k o after room room (Err refusal.Memory)
  message_no_memory h = no_memory 4294967307 size 12 after (message_octets v k o after) room refl (omega arith) (message_size v k o after ∙ is) h

  pub message_unwritten : (old new : List ℕ) (e : WriteError) → HasRoom 4294967307 size (length room) (Ok tt) → Wrote {A = Unit {0}} v k o after (Err e) old new → message v k o after room room (Err (refusal_of_writing e))
  message_unwritten old new TooLong h wrote = (wrote.0, refl)
  message_unwritten old new Memory h wrote = message_no_memory h

-- a body that can stand
pub placed_can : (Can : Type 0) (v : Version) (k : MessageKind) (o : Order) (after room new : List ℕ) (e : Refusal) → Can → (e ≡ refusal.Place → ⊥) → message v k o after room new (Err e) → placed Can (message v k o after) room new (Err e)
placed_can Can v k o after room new refusal.Place can never h = absurd (never refl)
placed_can Can v k o after room new refusal.Long can never h = h
placed_can Can v k o after room new e can never h = (can, h)

pub unplaced : (limit size room : ℕ) (e : Refusal) → HasRoom limit size room (Err e) → e ≡ refusal.Place → ⊥
unplaced limit size room e h is = subst (λ x. HasRoom limit size room (Err x)) is h

pub unplaced_writing : (e : WriteError) → refusal_of_writing e ≡ refusal.Place → ⊥
unplaced_writing TooLong is = absurd cc
unplaced_writing Memory is = absurd cc

-- what is written of it
asks : (Can : Type 0) (whole out octets room new : List ℕ) (r : Result ℕ Refusal) → Can → length whole < 2 ^ 32 → out ≡ octets → (length out ≤ length room → (r ≡ Ok (length out)) × (new ≡ filled out room)) → (length room < length out → (r ≡ Err refusal.Room) × (new ≡ room)) → placed Can (counted whole octets) room new r
asks Can whole out octets room new r can few is all none = subst (λ xs. placed Can (counted whole xs) room new r) is (by (cases_lt (length room) (length out))) where
  by : ((length room < length out) ⊎ (length out ≤ length room)) → placed Can (counted whole out) room new r
  by (inr le) = subst (λ s. placed Can (counted whole out) room new s) (sym (all le).0) (can, (few, (refl, le, (all le).1)))
  by (inl lt) = subst (λ s. placed Can (counted whole out) room new s) (sym (none lt).0) (can, (few, (lt, (none lt).1)))

-- with its body
pub asks_whole : (v : Version) (o : Order) (fields : List Value) (place : ℕ) (body old made out room new : List ℕ) (vs : List Val) (r : Result ℕ Refusal) → map value_of vs ≡ map octet_value body → CanStand v place body → old ≡ [] → Wrote {A = Unit {0}} v kind.Request o (behind_header v kind.Request o fields (values_of vs)) (Ok tt) old made → out ≡ made
    → (length out ≤ length room → (r ≡ Ok (length out)) × (new ≡ filled out room)) → (length room < length out → (r ≡ Err refusal.Room) × (new ≡ room)) → placed (CanStand v place body) (message v kind.Request o (behind_header v kind.Request o fields (octets_body body))) room new r
asks_whole v o fields place body old made out room new vs r are can none wrote lent all nothing =
    let after : List ℕ = behind_header v kind.Request o fields (values_of vs) in
    let is : out ≡ message_octets v kind.Request o after = lent ∙ wrote.1 ∙ ap (λ xs. xs ++ message_octets v kind.Request o after) none in
    subst (λ xs. placed (CanStand v place body) (message v kind.Request o xs) room new r) (read_request v o fields vs body are)
    (asks (CanStand v place body) after out (message_octets v kind.Request o after) room new r can wrote.0 is all nothing)

-- A Request that is refused: by the place where its body would begin, and the size that it would have.
module _ (v : Version) (o : Order) (w : ReplyWish) (a : Asking) (place size : ℕ) (room : List ℕ) (placed_at : place ≡ fields_end v (length a.key.now) (length a.operation.now) (length a.context.now)) where
  abbrev After : Values → List ℕ
  After body = behind_header v kind.Request o (asked_fields v w (said_by a)) body

  begins : length (message_octets v kind.Request o (After no_values)) ≡ place
  begins = request_place v o a.request_id w a.key.now a.operation.now a.context_id a.context.now ∙ sym placed_at

  pub stands_there : CanStand v place a.body.now → CanStand v (length (message_octets v kind.Request o (After no_values))) a.body.now
  stands_there can = subst (λ n. CanStand v n a.body.now) (sym begins) can

  pub ask_misplaced : (CanStand v place a.body.now → ⊥) → asked v o w (said_by a) room room (Err refusal.Place)
  ask_misplaced never = (λ can. never (subst (λ n. CanStand v n a.body.now) begins can), refl)

  sized : size ≡ body_end v place (length a.body.now) → 12 + length (After (octets_body a.body.now)) ≡ size
  sized is = request_size v o a.request_id w a.key.now a.operation.now a.context_id a.context.now a.body.now ∙ ap (λ p. body_end v p (length a.body.now)) (sym placed_at) ∙ sym is

  pub ask_no_room : (e : Refusal) → size ≡ body_end v place (length a.body.now) → CanStand v place a.body.now → HasRoom 4294967307 size (length room) (Err e) → asked v o w (said_by a) room room (Err e)
  ask_no_room e is can h =
      placed_can _ v kind.Request o (After (octets_body a.body.now)) room room e (stands_there can) (unplaced _ _ _ e h) (message_no_room v kind.Request o (After (octets_body a.body.now)) room size (sized is) e h)

  pub ask_no_memory : size ≡ body_end v place (length a.body.now) → CanStand v place a.body.now → HasRoom 4294967307 size (length room) (Ok tt) → asked v o w (said_by a) room room (Err refusal.Memory)
  ask_no_memory is can h =
      placed_can _ v kind.Request o (After (octets_body a.body.now)) room room refusal.Memory (stands_there can) (λ e. absurd cc) (message_no_memory v kind.Request o (After (octets_body a.body.now)) room size (sized is) h)

  pub ask_unwritten : (vs : List Val) (old new : List ℕ) (e : WriteError) → map value_of vs ≡ map octet_value a.body.now → size ≡ body_end v place (length a.body.now) → CanStand v place a.body.now → HasRoom 4294967307 size (length room) (Ok tt)
      → Wrote {A = Unit {0}} v kind.Request o (After (values_of vs)) (Err e) old new → asked v o w (said_by a) room room (Err (refusal_of_writing e))
  ask_unwritten vs old new e are is can h wrote =
      placed_can _ v kind.Request o (After (octets_body a.body.now)) room room (refusal_of_writing e) (stands_there can) (unplaced_writing e)
      (message_unwritten v kind.Request o (After (octets_body a.body.now)) room size (sized is) old new e h (subst (λ xs. Wrote {A = Unit {0}} v kind.Request o xs (Err e) old new) (read_request v o (asked_fields v w (said_by a)) vs a.body.now are) wrote))
