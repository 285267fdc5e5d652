-- Which fields are written.
use Rattle.std.proofs.Common.{◌≡◌, ℕ, ◌+◌, ◌≤◌, Bool, true, false, List, [], ◌∷◌, length, Option, Some, None, refl, arith, length-append}
use Rattle.std.specs.Prelude.{if◌then◌else◌}
use Rattle.cdr_core.specs.declared.order.Order.{Order}
use Rattle.cdr_core.specs.Parts.{octet_value, ulong_value}
use Rattle.cdr_core.specs.Value as value
use Rattle.cdr_core.specs.Value.{Value, values}
use Rattle.cdr_core.specs.Writing.{octets_of, octets_of_all}
use Rattle.giop_core.specs.declared.header.MessageKind.{MessageKind}
use Rattle.giop_core.specs.declared.header.Version.{Version}
use Rattle.giop_core.specs.declared.header.Version.TheVariants.{V10, V11, V12}
use Rattle.giop_core.specs.declared.request.ReplyWish.{ReplyWish}
use Rattle.giop_core.specs.Content as content
use Rattle.giop_core.specs.Items.{list_value}
use Rattle.giop_core.specs.Written.{behind_header, body_octets, octets_body, reply_fields, response_expected, response_flags, target_of, zeros}
use Rattle.giop_proxy.specs.Placing.{contexts_with, fields_at, may_follow, request_fields, size_of}
use Rattle.giop_proxy.proofs.Shifted.{AllShift, bool_shifts, enum_shifts, first_more, last_longer, list_more, octets_shift, string_shifts, zeros_shift}

-- by the tests

module _ (version : Version) (order : Order) (place : ℕ) (body : List ℕ) (fields : Bool → List Value) where
  abbrev pub Follows : Bool → Bool → Type 0
  Follows padded answer = may_follow version order place body (fields padded) ≡ answer

  abbrev pub Chosen : Option (List Value) → Type 0
  Chosen chosen = fields_at version order place body fields ≡ chosen

  pub first_chosen : Follows false true → Chosen (Some (fields false))
  first_chosen here = rw here refl

  pub second_chosen : Follows false false → Follows true true → Chosen (Some (fields true))
  second_chosen not here = rw (not, here) refl

  pub none_chosen : Follows false false → Follows true false → Chosen None
  none_chosen not never = rw (not, never) refl

  abbrev pub Found : List Value → Type 0
  Found fs = (padded : Bool) × (fields padded ≡ fs) × Follows padded true

  by_tests : (a b : Bool) (fs : List Value) → Follows false a → Follows true b → (if a then Some (fields false) else (if b then Some (fields true) else None)) ≡ Some fs → Found fs
  by_tests true b fs here other e = (false, cc, here)
  by_tests false true fs not here e = (true, cc, here)
  by_tests false false fs not never e = absurd cc

  pub found : (fs : List Value) → Chosen (Some fs) → Found fs
  found fs e = by_tests (may_follow version order place body (fields false)) (may_follow version order place body (fields true)) fs refl refl e

-- a message has no fewer octets than its fields

pub fields_within : (version : Version) (kind : MessageKind) (order : Order) (body : List ℕ) (fields : List Value) → 12 + length (octets_of_all order (values fields) 12) ≤ size_of version kind order body fields
unfolding behind_header
fields_within version kind order body fields =
    let front = octets_of_all order (values fields) 12 in
    omega (arith, length-append front (body_octets version kind order (octets_body body) (12 + length front)))

-- the context that says nothing makes fields twelve octets longer, or more

abbrev pub Longer : Order → List Value → List Value → Type 0
Longer order short long = length (octets_of_all order (values short) 12) + 12 ≤ length (octets_of_all order (values long) 12)

module _ (order : Order) (contexts : List (ℕ × List ℕ)) where
  last_list : (o : ℕ) → length (octets_of order (list_value contexts) o) + 12 ≤ length (octets_of order (list_value (contexts_with true contexts)) o)
  last_list o = omega (arith, list_more order contexts 0x4c52_0000 0 0 0 0 o)

  module _ (id : ℕ) (wish : ReplyWish) (key operation principal : List ℕ) where
    pub request_shifts_10 : AllShift order (value.boolean (response_expected wish) ∷ value.octets key ∷ value.string operation ∷ value.octets principal ∷ [])
    request_shifts_10 = (bool_shifts order (response_expected wish), (octets_shift order key, (string_shifts order operation, (octets_shift order principal, tt))))

    pub request_shifts_11 : AllShift order (value.boolean (response_expected wish) ∷ zeros ∷ value.octets key ∷ value.string operation ∷ value.octets principal ∷ [])
    request_shifts_11 = (bool_shifts order (response_expected wish), (zeros_shift order, (octets_shift order key, (string_shifts order operation, (octets_shift order principal, tt)))))

    pub request_longer : (version : Version) → Longer order (request_fields version id wish key operation contexts principal) (request_fields version id wish key operation (contexts_with true contexts) principal)
    request_longer V10 =
        omega (arith, first_more order contexts 0x4c52_0000 0 0 0 0 id (value.boolean (response_expected wish) ∷ value.octets key ∷ value.string operation ∷ value.octets principal ∷ []) 12 request_shifts_10)
    request_longer V11 =
        omega (arith, first_more order contexts 0x4c52_0000 0 0 0 0 id (value.boolean (response_expected wish) ∷ zeros ∷ value.octets key ∷ value.string operation ∷ value.octets principal ∷ []) 12 request_shifts_11)
    request_longer V12 =
        last_longer order (ulong_value id ∷ octet_value (response_flags wish) ∷ zeros ∷ target_of (content.by_key key) ∷ value.string operation ∷ []) (list_value contexts) (list_value (contexts_with true contexts)) 12 last_list 12

  pub reply_longer : (version : Version) (id status : ℕ) → Longer order (reply_fields version id status contexts) (reply_fields version id status (contexts_with true contexts))
  reply_longer V10 id status = omega (arith, first_more order contexts 0x4c52_0000 0 0 0 0 id (value.enumeration status ∷ []) 12 (enum_shifts order status, tt))
  reply_longer V11 id status = omega (arith, first_more order contexts 0x4c52_0000 0 0 0 0 id (value.enumeration status ∷ []) 12 (enum_shifts order status, tt))
  reply_longer V12 id status = last_longer order (ulong_value id ∷ value.enumeration status ∷ []) (list_value contexts) (list_value (contexts_with true contexts)) 12 last_list 12
