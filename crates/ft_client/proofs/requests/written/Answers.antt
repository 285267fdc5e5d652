use Rattle.std.proofs.Common.{◌≡◌, ℕ, ◌<◌, ℤ, pos, List, [], ◌∷◌, ◌++◌, refl, ap, ◌∙◌, w32, to_z}
use Rattle.std.proofs.lemmas.Int.{to_z_pos}
use Rattle.cdr_core.specs.declared.order.Order.TheVariants.{Big}
use Rattle.giop_core.specs.Written.{ft_octets}
use Rattle.ft_client.specs.Calling.{call_asked, first_transmission}
use Rattle.ft_client.proofs.requests.written.Goals as goal

pub returns : goal.returns
returns c =
    let a = c.args in
    let small : a.number < 2147483648 = c.requires.number in
    let ft : c.write_ft.new.out.items ≡ ft_octets Big a.client_id.now (pos a.number) a.asked.now.expiration = c.in_ok-write_ft.ensures.1 ∙ ap (λ (x : List ℕ). x ++ ft_octets Big a.client_id.now (to_z w32 a.number) a.asked.now.expiration) c.new-ft.ensures.items
    ∙ ap (λ (z : ℤ). ft_octets Big a.client_id.now z a.asked.now.expiration) (to_z_pos w32 a.number small) in
    c.kept.ensures (first_transmission a.version a.client_id.now a.number (call_asked a.asked.now)) (record {
      number = to_z_pos w32 a.number small;
      first = refl;
      version = refl;
      order = refl;
      wish = refl;
      contexts_are = ap (λ (x : List ℕ). (13, x) ∷ []) (c.as_slice.ensures.value ∙ ft);
      key = refl;
      operation = refl;
      behind = refl;
      expiration = refl;
    })
