use Rattle.std.proofs.Common.{◌≡◌, ◌++◌, arith, sym, ap, ◌∙◌}
use Rattle.std.proofs.Math.Facts.{Fits-of_lt}
use Rattle.std.specs.Int.{w32}
use Rattle.cdr_core.proofs.Appending.{appended, keeps_both}
use Rattle.cdr_core.specs.Private.{Keeps}
use Rattle.cdr_core.specs.Writing.{PutsAll, number_octets, octets_of_all, place_in}
use Rattle.cdr_core.proofs.Steps.{match_as}
use Rattle.cdr_core.proofs.Turns.{count_values}
use Rattle.cdr_core.specs.Value.{count}
use Rattle.ior_core.specs.View.{tagged_value, tagged_values}
use Rattle.ior_core.proofs.tagged.put_list.Goals as goal

pub overflow_cast-all : goal.overflow_cast-all
overflow_cast-all c = Fits-of_lt {w = w32} (omega (arith, c.requires.writable.0, count_values tagged_value c.args.all.now))

pub returns : goal.returns
returns c =
    let a = c.args in
    let w = a.writer.now in
    let vs = tagged_values a.all.now in
    let old = a.out.now.items in
    let mid = c.ulong.new.out.items in
    let new = c.put_each.new.out.items in
    let first : mid ≡ old ++ number_octets w.order 4 (place_in w old) (count vs) = c.in_ok-ulong.ensures ∙ ap (λ n. old ++ number_octets w.order 4 (place_in w old) n) (sym (count_values tagged_value a.all.now)) in
    match_as c.put_each.result (λ _. PutsAll w vs mid new) _ (λ _. Keeps mid new) _
    (λ _ h. appended w.at w.start old (number_octets w.order 4 (place_in w old) (count vs)) mid new (octets_of_all w.order vs) c.requires.start first h)
    (λ _ k. keeps_both old mid new (record { more = number_octets w.order 4 (place_in w old) (count vs); parts = first }) k) c.put_each.ensures
