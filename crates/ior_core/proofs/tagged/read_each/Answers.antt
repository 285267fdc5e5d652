use Rattle.std.proofs.Common.{inl, inr, refl}
use Rattle.std.proofs.lemmas.Result.{err_from_is_err_and}
use Rattle.cdr_core.specs.Reading.{value_at}
use Rattle.cdr_core.proofs.Memory.{stores_later}
use Rattle.cdr_core.proofs.Turns.{each_done, each_more, each_stops, values_push}
use Rattle.ior_core.specs.Grammar.{tagged}
use Rattle.ior_core.specs.View.{lent_value, tag_and_octets, tagged_value, tagged_values}
use Rattle.ior_core.proofs.tagged.read_each.Goals as goal

pub returns-in_err-tag : goal.returns-in_err-tag
returns-in_err-tag c =
    let p = err_from_is_err_and c.from_residual.result c.from_residual.ensures.1 in
    let i = c.loop.invariant in
    let read = rw i.order at c.in_err-tag.ensures in
    rw (p.1, p.2) (each_stops c.in_err-tag.field-0.0 (value_at tagged c.args.cursor.now.order) (tagged_values c.loop.all.items) c.args.count c.loop.counter c.loop.cursor.place c.loop.cursor.rest _ c.loop-test.true read i.whole, tt)

pub loop-preserved : goal.loop-preserved
loop-preserved c =
    let i = c.loop.invariant in
    let read = rw i.order at c.in_ok-tag.ensures in
    let cursor = c.read_tagged.new.cursor in
    let v = tag_and_octets c.in_ok-tag.tag c.in_ok-octets.octets.items in
    record {
      order = read.1;
      stores = λ p h. i.stores p (stores_later (value_at tagged c.args.cursor.now.order) (λ _ _ _. ⊥) c.args.count c.loop.counter c.loop.cursor.place c.loop.cursor.rest v cursor.place cursor.rest p c.loop-test.true (rw c.in_ok-octets.ensures.items read.0) (inr h));
      whole = rw (c.in_ok-push.ensures.items, values_push tagged_value)
          (each_more (value_at tagged c.args.cursor.now.order) (tagged_values c.loop.all.items) c.args.count c.loop.counter c.loop.cursor.place c.loop.cursor.rest v cursor.place cursor.rest _ c.loop-test.true (rw c.in_ok-octets.ensures.items read.0) i.whole);
    }

pub returns : goal.returns
returns c =
    let i = c.loop.invariant in
    (each_done (value_at tagged c.args.cursor.now.order) (tagged_values c.loop.all.items) c.args.count c.loop.counter c.loop.cursor.place c.loop.cursor.rest _ c.loop-test.false i.whole, i.order)

pub returns-in_err-octets : goal.returns-in_err-octets
returns-in_err-octets c =
    let p = err_from_is_err_and c.from_residual-in_err-octets.result c.from_residual-in_err-octets.ensures.1 in
    let i = c.loop.invariant in
    let read = rw i.order at c.in_ok-tag.ensures in
    let cursor = c.read_tagged.new.cursor in
    rw (p.1, p.2) (tt, i.stores cursor.place (stores_later (value_at tagged c.args.cursor.now.order) (λ _ _ _. ⊥) c.args.count c.loop.counter c.loop.cursor.place c.loop.cursor.rest (lent_value (c.in_ok-tag.tag, c.in_ok-tag.octets)) cursor.place cursor.rest cursor.place c.loop-test.true read.0 (inl refl)))

pub returns-in_err-push : goal.returns-in_err-push
returns-in_err-push c =
    let p = err_from_is_err_and c.from_residual-in_err-push.result c.from_residual-in_err-push.ensures.1 in
    let i = c.loop.invariant in
    let read = rw i.order at c.in_ok-tag.ensures in
    let cursor = c.read_tagged.new.cursor in
    rw (p.1, p.2) (tt, i.stores cursor.place (stores_later (value_at tagged c.args.cursor.now.order) (λ _ _ _. ⊥) c.args.count c.loop.counter c.loop.cursor.place c.loop.cursor.rest (lent_value (c.in_ok-tag.tag, c.in_ok-tag.octets)) cursor.place cursor.rest cursor.place c.loop-test.true read.0 (inl refl)))
