use Rattle.std.proofs.Common.{◌≡◌, ℕ, ◌<◌, ℤ, pos, List, ◌∷◌, ◌++◌, map, refl, ap, ◌∙◌, w32, to_z}
use Rattle.std.proofs.lemmas.Int.{to_z_pos}
use Rattle.cdr_core.specs.Parts.{octet_value}
use Rattle.cdr_core.specs.View.{value_of}
use Rattle.cdr_core.specs.declared.order.Order.TheVariants.{Big}
use Rattle.cdr_core.specs.declared.values.Val.{Val}
use Rattle.giop_core.specs.Items.{item_at}
use Rattle.giop_core.specs.Written.{ft_octets}
use Rattle.ft_client.specs.Calling.{call_raw, first_transmission}
use Rattle.ft_client.specs.Messages.{fields_of}
use Rattle.ft_client.proofs.Octets.{values_behind, values_writable}
use Rattle.ft_client.proofs.requests.written_raw.Goals as goal

pub kept-requires-clause-writable : goal.kept-requires-clause-writable
kept-requires-clause-writable c = values_writable c.as_slice-2.result.now c.args.call.now.body.octets.now (ap (λ (vs : List Val). map value_of vs) c.as_slice-2.ensures.value ∙ c.in_ok-octets.ensures)

pub returns : goal.returns
returns c = λ version.
    let a = c.args in
    let call = a.call.now in
    let small : a.number < 2147483648 = c.requires.number in
    let ft : c.write_ft.new.out.items ≡ ft_octets Big a.client_id.now (pos a.number) call.expiration = c.in_ok-write_ft.ensures.1 ∙ ap (λ (x : List ℕ). x ++ ft_octets Big a.client_id.now (to_z w32 a.number) call.expiration) c.new-ft.ensures.items
    ∙ ap (λ (z : ℤ). ft_octets Big a.client_id.now z call.expiration) (to_z_pos w32 a.number small) in
    let t = first_transmission version a.client_id.now a.number (call_raw call) in
    let values : map value_of c.as_slice-2.result.now ≡ map octet_value call.body.octets.now = ap (λ (vs : List Val). map value_of vs) c.as_slice-2.ensures.value ∙ c.in_ok-octets.ensures in
    c.kept.ensures t (record {
      number = to_z_pos w32 a.number small;
      first = refl;
      version = refl;
      order = refl;
      wish = refl;
      contexts_are = ap (λ xs. map item_at xs) c.as_slice-3.ensures.value ∙ c.in_ok-contexts.ensures ∙ ap (λ (x : List ℕ). (13, x) ∷ map item_at call.contexts.now) (c.as_slice.ensures.value ∙ ft);
      key = refl;
      operation = refl;
      behind = values_behind call.version call.body.order (fields_of t) c.as_slice-2.result.now call.body.octets.now values;
      expiration = refl;
    })
