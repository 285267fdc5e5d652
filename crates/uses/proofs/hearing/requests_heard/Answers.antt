use Rattle.std.proofs.Common.{◌≡◌, cond, count_by, sym, ap, ◌∙◌, arith}
use Rattle.std.proofs.lemmas.List.{length-drop, take_rest}
use Rattle.giop_link.specs.Listening.{heard_in}
use Rattle.uses.specs.Hearing.{is_request}
use Rattle.uses.proofs.Heard.{asked_on, link_stands_on, none_asked}
use Rattle.uses.proofs.hearing.requests_heard.Goals as goal

pub loop-taken-init : goal.loop-taken-init
loop-taken-init c = record {
  within = omega arith;
  few = omega arith;
  stands = c.new-link.ensures.stands;
  count = sym (none_asked c.args.limits);
}

pub loop-taken-preserved-then-lends_request : goal.loop-taken-preserved-then-lends_request
loop-taken-preserved-then-lends_request c =
    let i = c.loop-taken.invariant in
    let a = c.args in
    let k = c.loop-taken.taken in
    let n = c.in_ok-taken.field-0 in
    let b = c.feed.new.self in
    let e = rw (take_rest a.octets.now k) at c.in_ok-taken.ensures in
    let left = length-drop k a.octets.now in
    let stands = e.stands a.limits _ i.stands in
    let told = e.heard a.limits _ i.stands in
    let one : count_by is_request (heard_in b.inbound) ≡ 1 = c.lends_request.ensures ∙ ap (λ lends. cond lends 1 0) c.if-lends_request.true in
    let asked = asked_on a.limits a.octets.now k n b stands told in
    record {
      within = omega (arith, i.within, e.within, left);
      few = omega (arith, i.few, e.some (omega (arith, left, c.loop-taken-test.true)));
      stands = link_stands_on a.limits a.octets.now k n b stands told;
      count = omega (arith, i.count, asked, one);
    }

pub loop-taken-preserved : goal.loop-taken-preserved
loop-taken-preserved c =
    let i = c.loop-taken.invariant in
    let a = c.args in
    let k = c.loop-taken.taken in
    let n = c.in_ok-taken.field-0 in
    let b = c.feed.new.self in
    let e = rw (take_rest a.octets.now k) at c.in_ok-taken.ensures in
    let left = length-drop k a.octets.now in
    let stands = e.stands a.limits _ i.stands in
    let told = e.heard a.limits _ i.stands in
    let none : count_by is_request (heard_in b.inbound) ≡ 0 = c.lends_request.ensures ∙ ap (λ lends. cond lends 1 0) c.if-lends_request.false in
    let asked = asked_on a.limits a.octets.now k n b stands told in
    record {
      within = omega (arith, i.within, e.within, left);
      few = omega (arith, i.few);
      stands = link_stands_on a.limits a.octets.now k n b stands told;
      count = omega (arith, i.count, asked, none);
    }
