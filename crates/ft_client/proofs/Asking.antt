-- A call that is kept is a transmission of it.
use Rattle.std.proofs.Common.{◌≡◌, ℕ, ◌<◌, ◌≤◌, ℤ, List, length, None, sym, ◌∙◌, subst}
use Rattle.cdr_core.specs.View.{values_of}
use Rattle.giop_core.specs.Content.{by_key}
use Rattle.giop_core.specs.Written.{behind_header, message_octets, request_fields}
use Rattle.giop_core.specs.declared.header.MessageKind.TheVariants.{Request}
use Rattle.ft_client.specs.declared.pending.Asked.{Asked}
use Rattle.ft_client.specs.declared.requests.Manner.{Manner}
use Rattle.ft_client.specs.Calling.{IsLong, IsShort}
use Rattle.ft_client.specs.Keeping.{Kept, id_place, kept_as}
use Rattle.ft_client.specs.Messages.{Transmission, request_behind}
use Rattle.ft_client.specs.Private.{IsAsked}

module _ (id : ℤ) (manner : Manner) (contexts : List (ℕ × List ℕ)) (asked : Asked) where
  -- what is written behind the header
  abbrev pub asked_behind : List ℕ
  asked_behind = behind_header manner.version Request manner.order (request_fields manner.version 1 manner.wish (by_key asked.object_key.now) asked.operation.now contexts) (values_of asked.arguments.now)

  pub behind_is : (t : Transmission) → IsAsked id manner contexts asked t → asked_behind ≡ request_behind t
  behind_is t h = (λ i. behind_header (h.version i) Request (h.order i) (request_fields (h.version i) (sym h.first i) (h.wish i) (by_key (h.key i)) (h.operation i) (h.contexts_are i)) (values_of asked.arguments.now)) ∙ h.behind

  pub asked_short : (t : Transmission) → IsAsked id manner contexts asked t → length asked_behind < 4294967296 → IsShort t
  asked_short t h lt = subst (λ (xs : List ℕ). length xs < 4294967296) (behind_is t h) lt

  pub asked_long : (t : Transmission) → IsAsked id manner contexts asked t → 4294967296 ≤ length asked_behind → IsLong t
  asked_long t h le = subst (λ (xs : List ℕ). 4294967296 ≤ length xs) (behind_is t h) le

  pub asked_kept : (t : Transmission) → IsAsked id manner contexts asked t → (k : Kept) → k.id ≡ id → k.expiration ≡ asked.expiration → k.order ≡ manner.order → k.wish ≡ manner.wish
      → k.message ≡ message_octets manner.version Request manner.order asked_behind → k.id_at ≡ id_place manner.version manner.order contexts → k.sent ≡ None → k.led ≡ None → k ≡ kept_as t None None
  asked_kept t h k ei ee eo ew em ea es ed =
      let b = behind_is t h in
      let message = em ∙ (λ i. message_octets (h.version i) Request (h.order i) (b i)) in
      let at = ea ∙ (λ i. id_place (h.version i) (h.order i) (h.contexts_are i)) in
      λ i. record { id = (ei ∙ h.number) i; expiration = (ee ∙ h.expiration) i; order = (eo ∙ h.order) i; wish = (ew ∙ h.wish) i; message = message i; id_at = at i; sent = es i; led = ed i }
