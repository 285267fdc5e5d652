use Rattle.std.proofs.Common.{◌+◌, take, sym, ap, ◌∙◌, arith}
use Rattle.std.proofs.lemmas.List.{length-drop, take_rest}
use Rattle.giop_frames.proofs.Counted.{no_more, none_told, one_lent, one_more, stands_on}
use Rattle.uses.proofs.capture.read_capture.Goals as goal

pub loop-taken-init : goal.loop-taken-init
loop-taken-init c = record {
  within = omega arith;
  few = omega arith;
  limits = c.new-assembler.ensures.limits;
  stands = c.new-assembler.ensures.stands;
  count = sym (none_told c.args.limits);
}

pub loop-taken-preserved-in_ok-note : goal.loop-taken-preserved-in_ok-note
loop-taken-preserved-in_ok-note c =
    let i = c.loop-taken.invariant in
    let a = c.args in
    let k = c.loop-taken.taken in
    let n = c.in_ok-taken.field-0 in
    let e = rw (take_rest a.octets.now k) at c.in_ok-taken.ensures in
    let left = length-drop k a.octets.now in
    let (f, is, lent) = one_lent _ c.feed.new.self.message c.in-Some.ensures.lent in
    record {
      within = omega (arith, i.within, e.within, left);
      few = omega (arith, i.few, e.some (omega (arith, left, c.loop-taken-test.true)));
      limits = e.limits ∙ i.limits;
      stands = stands_on a.limits a.octets.now k n c.loop-taken.assembler c.feed.new.self i.limits (e.stands (take k a.octets.now)) (e.messages (take k a.octets.now)) i.stands;
      count = ap (λ m. m + 1) i.count ∙ sym (one_more a.limits a.octets.now k n c.loop-taken.assembler c.feed.new.self i.limits (e.stands (take k a.octets.now)) (e.messages (take k a.octets.now)) i.stands f is);
    }

pub loop-taken-preserved : goal.loop-taken-preserved
loop-taken-preserved c =
    let i = c.loop-taken.invariant in
    let a = c.args in
    let k = c.loop-taken.taken in
    let n = c.in_ok-taken.field-0 in
    let e = rw (take_rest a.octets.now k) at c.in_ok-taken.ensures in
    let left = length-drop k a.octets.now in
    record {
      within = omega (arith, i.within, e.within, left);
      few = omega (arith, i.few);
      limits = e.limits ∙ i.limits;
      stands = stands_on a.limits a.octets.now k n c.loop-taken.assembler c.feed.new.self i.limits (e.stands (take k a.octets.now)) (e.messages (take k a.octets.now)) i.stands;
      count = i.count ∙ sym (no_more a.limits a.octets.now k n c.loop-taken.assembler c.feed.new.self i.limits (e.stands (take k a.octets.now)) (e.messages (take k a.octets.now)) i.stands c.in_default.ensures.lent);
    }
