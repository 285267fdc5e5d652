-- A Request that is not too long carries its one context.
use Rattle.std.proofs.Common.{ℕ, ◌+◌, ◌<◌, ◌≤◌, ◌^◌, List, [], ◌∷◌, ◌++◌, length, map, inl, inr, arith, length-append}
use Rattle.std.proofs.lemmas.Bool.{cases_lt}
use Rattle.cdr_core.specs.Parts.{octet_value, ulong_value}
use Rattle.cdr_core.specs.Value as value
use Rattle.cdr_core.specs.Value.{Value, Values, values}
use Rattle.cdr_core.specs.Writing.{octets_of_all}
use Rattle.giop_core.specs.declared.header.MessageKind.TheVariants.{Request}
use Rattle.giop_core.specs.declared.header.Version.{Version}
use Rattle.giop_core.specs.declared.header.Version.TheVariants.{V10, V11, V12}
use Rattle.giop_core.specs.declared.request.ReplyWish.{ReplyWish}
use Rattle.giop_core.specs.Content.{Addressed}
use Rattle.giop_core.specs.Items.{list_value, tagged_value}
use Rattle.giop_core.specs.Laws.{WrittenFtIsPresent, WrittenRequestCarriesFt}
use Rattle.giop_core.specs.Private.{AreLong, IsLong}
use Rattle.giop_core.specs.Written.{behind_header, body_octets, ft_octets, key_value, request_fields, response_expected, response_flags, target_of, zeros}
use Rattle.giop_core.proofs.Longs.{first_long, item_long, octets_long, rest_long, sequence_long}

-- fields of which one is too long
one-long : (before : List Value) (v : Value) (more : List Value) → IsLong v → AreLong (values (before ++ v ∷ more))
one-long [] v more long = first_long v (values more) long
one-long (x ∷ before) v more long = rest_long x (values (before ++ v ∷ more)) (one-long before v more long)

module _ (id : ℕ) (wish : ReplyWish) (to : Addressed) (operation : List ℕ) (all : List ℕ) (long : 2 ^ 32 ≤ length all) where
  -- one context that is too long
  list-long : IsLong (list_value ((13, all) ∷ []))
  list-long = sequence_long (values (map tagged_value ((13, all) ∷ []))) (first_long (tagged_value (13, all)) value.no_values (item_long (13, all) (octets_long all long)))

  -- makes the fields too long
  fields-long : (version : Version) → AreLong (values (request_fields version id wish to operation ((13, all) ∷ [])))
  fields-long V10 = one-long [] (list_value ((13, all) ∷ [])) (ulong_value id ∷ value.boolean (response_expected wish) ∷ key_value to ∷ value.string operation ∷ value.octets [] ∷ []) list-long
  fields-long V11 = one-long [] (list_value ((13, all) ∷ [])) (ulong_value id ∷ value.boolean (response_expected wish) ∷ zeros ∷ key_value to ∷ value.string operation ∷ value.octets [] ∷ []) list-long
  fields-long V12 = one-long (ulong_value id ∷ octet_value (response_flags wish) ∷ zeros ∷ target_of to ∷ value.string operation ∷ []) (list_value ((13, all) ∷ [])) [] list-long

pub carries-ft : WrittenFtIsPresent → WrittenRequestCarriesFt
unfolding behind_header
carries-ft law version order id wish to operation client_id retention_id expiration body clean fits small size =
    let all = ft_octets order client_id retention_id expiration in
    let fields = octets_of_all order (values (request_fields version id wish to operation ((13, all) ∷ []))) 12 in
    let short : length all < 2 ^ 32 =
    elim (cases_lt (length all) (2 ^ 32)) [
      | inl h ↦ h
      | inr h ↦ absurd (omega (arith, size, fields-long id wish to operation all h version order 12, length-append fields (body_octets version Request order body (12 + length fields))))
    ] in
    law order client_id retention_id expiration [] [] clean fits small short tt
