use Rattle.std.proofs.Common.{◌≡◌, ◌++◌, arith, ap, ◌∙◌, length, map}
use Rattle.std.proofs.Math.Facts.{Fits-of_lt}
use Rattle.std.proofs.lemmas.List.{length-map}
use Rattle.std.specs.Int.{w32}
use Rattle.cdr_core.proofs.Appending.{appended, keeps_both}
use Rattle.cdr_core.specs.Private.{Keeps}
use Rattle.cdr_core.specs.Writing.{PutsAll, number_octets, octets_of_all, place_in}
use Rattle.cdr_core.proofs.Steps.{match_as}
use Rattle.cdr_core.proofs.Turns.{count_values}
use Rattle.cdr_core.specs.Value.{count, values}
use Rattle.giop_core.specs.Items.{item_at, tagged_value}
use Rattle.giop_core.proofs.ItemsPut.{lent_items}
use Rattle.giop_core.proofs.service_context.put_contexts.Goals as goal

pub overflow_cast-all : goal.overflow_cast-all
overflow_cast-all c = Fits-of_lt {w = w32} (omega (arith, c.requires.writable.0, count_values tagged_value (map item_at c.args.all.now), length-map c.args.all.now item_at))

pub put_each-requires-clause-writable : goal.put_each-requires-clause-writable
put_each-requires-clause-writable c = rw (lent_items c.args.all.now) c.requires.writable.1

pub returns : goal.returns
returns c =
    let a = c.args in
    let w = a.writer.now in
    let vs = values (map tagged_value (map item_at a.all.now)) in
    let old = a.out.now.items in
    let mid = c.ulong.new.out.items in
    let new = c.put_each.new.out.items in
    let many : length a.all.now ≡ count vs = omega (arith, count_values tagged_value (map item_at a.all.now), length-map a.all.now item_at) in
    let first : mid ≡ old ++ number_octets w.order 4 (place_in w old) (count vs) = c.in_ok-ulong.ensures ∙ ap (λ n. old ++ number_octets w.order 4 (place_in w old) n) many in
    let put = rw (lent_items a.all.now) at c.put_each.ensures in
    match_as c.put_each.result (λ _. PutsAll w vs mid new) _ (λ _. Keeps mid new) _
    (λ _ h. appended w.at w.start old (number_octets w.order 4 (place_in w old) (count vs)) mid new (octets_of_all w.order vs) c.requires.start first h)
    (λ _ k. keeps_both old mid new (record { more = number_octets w.order 4 (place_in w old) (count vs); parts = first }) k) put
