use Rattle.std.proofs.Common.{◌≡◌, ◌+◌, cond, Some, refl, ap, sym, ◌∙◌, bytes_eq, arith}
use Rattle.ft_log.specs.Maps.{held_at}
use Rattle.ft_log.proofs.Counting.{one_more}
use Rattle.std.proofs.lemmas.Bool.Decides.{nat_tests}
use Rattle.ft_log.proofs.Named.{held-client}
use Rattle.ft_log.proofs.Slots.{put_one}
use Rattle.ft_log.proofs.counts.count_up.Goals as goal

pub returns-clause-slots : goal.returns-clause-slots
returns-clause-slots c =
    let no = c.raised.ensures.no c.if-raised.false in
    let none : held_at c.args.counts.now c.args.client_id.items ≡ 0 = ap (held_at c.args.counts.now) (sym c.as_slice.ensures.value) ∙ no.0 in
    let more = put_one c.unwrap.result _ _ (rw c.unwrap.ensures at c.insert.ensures.len) in
    let same = c.raised.ensures.slots in
    grind (arith, nat_tests)

pub returns-clause-held : goal.returns-clause-held
returns-clause-held c = λ client.
    let up = rw c.unwrap.ensures at c.insert.ensures.updates in
    let no = c.raised.ensures.no c.if-raised.false in
    let none = sym (no.1 c.args.client_id.items ∙ ap (held_at c.args.counts.now) (sym c.as_slice.ensures.value) ∙ no.0) in
    held-client _ (λ x y. refl) c.raised.new.counts c.insert.new.self (Some 1) c.args.client_id.items up.1 up.3 client
    ∙ one_more c.raised.new.counts c.args.client_id.items client 0 none ∙ ap (λ k. k + cond (bytes_eq c.args.client_id.items client) 1 0) (no.1 client)
