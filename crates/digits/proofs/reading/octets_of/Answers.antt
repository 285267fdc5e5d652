use Rattle.std.proofs.Common.{◌≡◌, ◌+◌, ◌<◌, ◌⊎◌, ℕ, List, length, refl, ap, ◌∙◌, inl, inr, None, slice_index, arith}
use Rattle.std.proofs.lemmas.List.{take_rest}
use Rattle.hex.specs.Hex.{hex_digit_value}
use Rattle.digits.specs.Private.{after, given}
use Rattle.digits.proofs.Decoding.{all-read, is-digit, keeps-pair, no-digit, one-more, refused-here}
use Rattle.digits.proofs.Runs.{read_of}
use Rattle.digits.proofs.reading.octets_of.Goals.{then-high-via-then-high, then-high-via-else-high+then-low}
use Rattle.digits.proofs.reading.octets_of.Goals as goal

pub returns-then-high-clause-refused : goal.returns-then-high-clause-refused
returns-then-high-clause-refused c =
    let text = c.as_bytes-text.result.now in
    let i = c.loop-at.invariant in
    let at = c.loop-at.at in
    let second = c.after_blanks-second.result in
    let h = slice_index text at in
    let l = slice_index text second in
    let below : second < length text = omega (arith, c.after_blanks-second.ensures.within, c.if-second-text.false) in
    let pair = keeps-pair text at second c.loop-at-test.true (i.stops c.loop-at-test.true) c.after_blanks-second.ensures.passed below (c.after_blanks-second.ensures.stands below) in
    let one : (hex_digit_value h ≡ None) ⊎ (hex_digit_value l ≡ None) = elim c.then-high.branch [
      | then-high-via-then-high w ↦ inl (no-digit h c.value_of-high.result c.value_of-high.ensures w.if-high.true)
      | then-high-via-else-high+then-low w ↦ inr (no-digit l c.value_of-low.result c.value_of-low.ensures w.if-low.true)
    ] in
    inr (rw c.as_bytes-text.ensures.value at (refused-here text c.loop-at.octets.items at second c.refusal.result pair one (rw (take_rest text at) at c.refusal.ensures) i.whole))

pub loop-at-preserved : goal.loop-at-preserved
loop-at-preserved c =
    let text = c.as_bytes-text.result.now in
    let i = c.loop-at.invariant in
    let at = c.loop-at.at in
    let second = c.after_blanks-second.result in
    let next = c.after_blanks-at-in-loop-at in
    let below : second < length text = omega (arith, c.after_blanks-second.ensures.within, c.if-second-text.false) in
    let pair = keeps-pair text at second c.loop-at-test.true (i.stops c.loop-at-test.true) c.after_blanks-second.ensures.passed below (c.after_blanks-second.ensures.stands below) in
    record {
      within = next.ensures.within;
      stops = next.ensures.stands;
      whole = i.whole
          ∙ one-more text c.loop-at.octets.items at second (second + 1) c.value_of-high.result c.value_of-low.result pair
          (is-digit (slice_index text at) c.value_of-high.result c.value_of-high.ensures c.if-high.false)
          (is-digit (slice_index text second) c.value_of-low.result c.value_of-low.ensures c.if-low.false) refl
          ∙ rw c.push_reserved.ensures.items at (read_of text (second + 1) c.read_pairs.result _ c.read_pairs.new.octets.items c.read_pairs.ensures.read)
          ∙ ap (λ (xs : List ℕ). after c.read_pairs.new.octets.items (given xs)) next.ensures.passed;
      few = omega (arith, c.read_pairs.ensures.few, next.ensures.from);
      room = c.read_pairs.ensures.room;
    }

pub returns-clause-read : goal.returns-clause-read
returns-clause-read c =
    let i = c.loop-at.invariant in
    rw c.as_bytes-text.ensures.value at (all-read c.as_bytes-text.result.now c.loop-at.octets.items c.loop-at.at (omega (arith, c.loop-at-test.false)) i.whole)
