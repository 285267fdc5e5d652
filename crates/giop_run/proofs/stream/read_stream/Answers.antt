use Rattle.std.proofs.Common.{◌+◌, length, take, sym, ap, subst, ◌∙◌, arith}
use Rattle.std.proofs.Math.Facts.{Fits-of_lt}
use Rattle.std.proofs.lemmas.List.{length-drop, take_all}
use Rattle.std.specs.Int.{w64}
use Rattle.std.specs.Io.KnownBytes.{Appends}
use Rattle.giop_frames.specs.Standing.{StandsFor}
use Rattle.giop_frames.specs.Streams.{messages_of}
use Rattle.giop_run.specs.Private.{printed}
use Rattle.giop_run.specs.StreamLines.{stream_lines}
use Rattle.giop_frames.proofs.Counted.{no_more, none_told, one_lent, one_more, stands_on, told_on}
use Rattle.giop_run.proofs.Endings.{ended, ended_with}
use Rattle.giop_run.proofs.Printing.{appends_none, ended_printed, lines_on, lines_same, none_printed, printed_on}
use Rattle.giop_run.proofs.stream.read_stream.Goals as goal

pub loop-taken-init : goal.loop-taken-init
loop-taken-init g c = record {
  within = omega arith;
  few = omega arith;
  limits = c.new-assembler.ensures.limits;
  stands = c.new-assembler.ensures.stands;
  count = sym (none_told c.args.limits);
  lines = none_printed (g.W.Write.contents c.args.out.now) c.args.detail c.args.limits;
}

pub returns-in-Err : goal.returns-in-Err
returns-in-Err g c =
    let i = c.loop-taken.invariant in
    let s = take c.loop-taken.taken c.args.octets.now in
    let fault = rw c.split_at.ensures.back at c.in-Err.ensures.fault s i.stands in
    record {
      summary = ended c.args.limits c.args.octets.now c.loop-taken.taken c.loop-taken.assembler c.in-Err.fault c.loop-taken.messages i.limits fault i.count c.summary_at.result c.summary_at.ensures;
      lines = ended_printed c.args.limits c.args.octets.now c.loop-taken.taken c.loop-taken.assembler c.in-Err.fault c.loop-taken.messages i.limits fault c.summary_at.result c.summary_at.ensures
          (g.W.Write.contents c.args.out.now) (g.W.Write.contents c.loop-taken.out) c.args.detail i.lines;
    }

pub overflow_add-messages : goal.overflow_add-messages
overflow_add-messages g c =
    let i = c.loop-taken.invariant in
    Fits-of_lt {w = w64} (omega (arith, i.few, c.loop-taken-test.true))

pub loop-taken-preserved-in-Continue-1 : goal.loop-taken-preserved-in-Continue-1
loop-taken-preserved-in-Continue-1 g c =
    let i = c.loop-taken.invariant in
    let a = c.args in
    let k = c.loop-taken.taken in
    let n = c.in-Ok.n in
    let e = rw c.split_at.ensures.back at c.in-Ok.ensures in
    let left = length-drop k a.octets.now in
    let (f, is, lent) = one_lent _ c.feed.new.self.message c.in-Some.ensures.lent in
    let on = told_on a.limits a.octets.now k n c.loop-taken.assembler c.feed.new.self i.limits (e.stands (take k a.octets.now)) (e.messages (take k a.octets.now)) i.stands in
    let more = lines_on a.limits (take k a.octets.now) (take (k + n) a.octets.now) c.feed.new.self.message (length (take (k + n) a.octets.now)) on c.in-Some.message f is lent in
    record {
      within = omega (arith, i.within, e.within, left);
      few = omega (arith, i.few, e.some (omega (arith, left, c.loop-taken-test.true)));
      limits = e.limits ∙ i.limits;
      stands = stands_on a.limits a.octets.now k n c.loop-taken.assembler c.feed.new.self i.limits (e.stands (take k a.octets.now)) (e.messages (take k a.octets.now)) i.stands;
      count = ap (λ m. m + 1) i.count ∙ sym (one_more a.limits a.octets.now k n c.loop-taken.assembler c.feed.new.self i.limits (e.stands (take k a.octets.now)) (e.messages (take k a.octets.now)) i.stands f is);
      lines = printed_on _ _ _ a.detail _ _ _ more i.lines (rw c.in-Messages.is c.in_ok-print_message-in-Messages.ensures);
    }

pub loop-taken-preserved-in-EndAlone : goal.loop-taken-preserved-in-EndAlone
loop-taken-preserved-in-EndAlone g c =
    let i = c.loop-taken.invariant in
    let a = c.args in
    let k = c.loop-taken.taken in
    let n = c.in-Ok.n in
    let e = rw c.split_at.ensures.back at c.in-Ok.ensures in
    let left = length-drop k a.octets.now in
    let (f, is, lent) = one_lent _ c.feed.new.self.message c.in-Some.ensures.lent in
    let on = told_on a.limits a.octets.now k n c.loop-taken.assembler c.feed.new.self i.limits (e.stands (take k a.octets.now)) (e.messages (take k a.octets.now)) i.stands in
    let more = lines_on a.limits (take k a.octets.now) (take (k + n) a.octets.now) c.feed.new.self.message (length (take (k + n) a.octets.now)) on c.in-Some.message f is lent in
    let none = appends_none (g.W.Write.contents c.loop-taken.out) in
    record {
      within = omega (arith, i.within, e.within, left);
      few = omega (arith, i.few, e.some (omega (arith, left, c.loop-taken-test.true)));
      limits = e.limits ∙ i.limits;
      stands = stands_on a.limits a.octets.now k n c.loop-taken.assembler c.feed.new.self i.limits (e.stands (take k a.octets.now)) (e.messages (take k a.octets.now)) i.stands;
      count = ap (λ m. m + 1) i.count ∙ sym (one_more a.limits a.octets.now k n c.loop-taken.assembler c.feed.new.self i.limits (e.stands (take k a.octets.now)) (e.messages (take k a.octets.now)) i.stands f is);
      lines = printed_on _ _ _ a.detail _ _ _ more i.lines (rw c.in-EndAlone.is none);
    }

pub loop-taken-preserved : goal.loop-taken-preserved
loop-taken-preserved g c =
    let i = c.loop-taken.invariant in
    let a = c.args in
    let k = c.loop-taken.taken in
    let n = c.in-Ok.n in
    let e = rw c.split_at.ensures.back at c.in-Ok.ensures in
    let left = length-drop k a.octets.now in
    let on = told_on a.limits a.octets.now k n c.loop-taken.assembler c.feed.new.self i.limits (e.stands (take k a.octets.now)) (e.messages (take k a.octets.now)) i.stands in
    let same = lines_same a.limits (take k a.octets.now) (take (k + n) a.octets.now) c.feed.new.self.message (length (take (k + n) a.octets.now)) on c.in_default.ensures.lent in
    record {
      within = omega (arith, i.within, e.within, left);
      few = omega (arith, i.few);
      limits = e.limits ∙ i.limits;
      stands = stands_on a.limits a.octets.now k n c.loop-taken.assembler c.feed.new.self i.limits (e.stands (take k a.octets.now)) (e.messages (take k a.octets.now)) i.stands;
      count = i.count ∙ sym (no_more a.limits a.octets.now k n c.loop-taken.assembler c.feed.new.self i.limits (e.stands (take k a.octets.now)) (e.messages (take k a.octets.now)) i.stands c.in_default.ensures.lent);
      lines = rw same i.lines;
    }

pub returns : goal.returns
returns g c =
    let i = c.loop-taken.invariant in
    let a = c.args in
    let all = take_all c.loop-taken.taken a.octets.now c.loop-taken-test.false in
    let stands : StandsFor c.loop-taken.assembler a.octets.now = subst (StandsFor c.loop-taken.assembler) all i.stands in
    let whole = rw i.limits at stands.stands in
    record {
      summary = (
        i.count ∙ ap (λ xs. length (messages_of a.limits xs)) all,
        rw c.ending_with-ending.ensures (ended_with a.limits a.octets.now c.pending.result c.partial.result whole.faultless (rw (← i.limits) (c.pending.ensures.stands a.octets.now stands)) (rw (← i.limits) (c.partial.ensures.stands a.octets.now stands))),
      );
      lines = subst (λ xs. Appends (g.W.Write.contents a.out.now) (g.W.Write.contents c.loop-taken.out) (printed a.detail (stream_lines a.limits xs))) all i.lines;
    }
