use Rattle.std.proofs.Common.{◌≡◌, ◌++◌, arith, ap, ◌∙◌}
use Rattle.cdr_core.proofs.Appending.{appended, keeps_both}
use Rattle.cdr_core.specs.Private.{Keeps}
use Rattle.cdr_core.specs.Writing.{PutsAll, number_octets, octets_of_all, place_in}
use Rattle.cdr_core.proofs.Steps.{match_as}
use Rattle.cdr_core.proofs.Turns.{count_values}
use Rattle.cdr_core.specs.Value.{count}
use Rattle.giop_core.specs.Items.{contexts_left, tagged_value}
use Rattle.giop_core.proofs.ItemsPut.{item_values}
use Rattle.giop_core.proofs.target_address.put_profiles.Goals as goal

pub put_items-requires-clause-writable : goal.put_items-requires-clause-writable
put_items-requires-clause-writable c = rw c.fork-cursor.ensures c.requires.writable.1

pub returns : goal.returns
returns c =
    let a = c.args in
    let w = a.writer.now in
    let all = a.all.now in
    let vs = item_values all.cursor.order all.left all.cursor.place all.cursor.rest in
    let old = a.out.now.items in
    let mid = c.ulong.new.out.items in
    let new = c.put_items.new.out.items in
    let many : all.left ≡ count vs = omega (arith, count_values tagged_value (contexts_left all), c.requires.all) in
    let first : mid ≡ old ++ number_octets w.order 4 (place_in w old) (count vs) = c.in_ok-ulong.ensures ∙ ap (λ n. old ++ number_octets w.order 4 (place_in w old) n) many in
    let put = rw c.fork-cursor.ensures at c.put_items.ensures in
    match_as c.put_items.result (λ _. PutsAll w vs mid new) _ (λ _. Keeps mid new) _
    (λ _ h. appended w.at w.start old (number_octets w.order 4 (place_in w old) (count vs)) mid new (octets_of_all w.order vs) c.requires.start first h)
    (λ _ k. keeps_both old mid new (record { more = number_octets w.order 4 (place_in w old) (count vs); parts = first }) k) put
