use Rattle.std.proofs.Common.{◌≡◌, ℕ, ◌≤◌, List, length, take, Ok, Err, sym, ap, ◌∙◌, arith}
use Rattle.std.proofs.lemmas.List.{length-take-le, take-take}
use Rattle.giop_frames.proofs.Needs.{judgement, needs-frame, sight-all, sight-early, sight-refused}
use Rattle.giop_frames.proofs.deframer.gather_first.Goals as goal

-- the octets taken have the twelve of the header in front
front-head : (b head piece : List ℕ) (n : ℕ) → b ≡ take n piece → 12 ≤ n → head ≡ take 12 piece → head ≡ take 12 b
front-head b head piece n is long e = e ∙ sym (ap (take 12) is ∙ take-take 12 n piece long)

pub returns-in-Err-clause-seen : goal.returns-in-Err-clause-seen
returns-in-Err-clause-seen c =
    let piece = c.args.piece.now in
    let b = c.extend_from_slice.new.self.items in
    let is : b ≡ take 12 piece = (rw c.requires.empty at c.in_ok-extend_from_slice-in-Err.ensures.items) ∙ c.requires.head in
    sym (sight-refused c.args.limits.now b c.in-Err.fault (omega (arith, ap length is, length-take-le 12 piece c.requires.long))
    (judgement c.args.limits.now b c.args.head.now (Err c.in-Err.fault) (front-head b c.args.head.now piece 12 is (omega arith) c.requires.head) c.in-Err.ensures))

pub returns-then-piece-size-clause-seen : goal.returns-then-piece-size-clause-seen
returns-then-piece-size-clause-seen c =
    let piece = c.args.piece.now in
    let b = c.extend_from_slice-then-piece-size.new.self.items in
    let is : b ≡ piece = rw c.requires.empty at c.in_ok-extend_from_slice.ensures.items in
    rw is (sym (sight-early c.args.limits.now piece c.in-Ok.header c.requires.long
    (judgement c.args.limits.now piece c.args.head.now (Ok c.in-Ok.header) c.requires.head c.in-Ok.ensures) (omega (arith, c.if-piece-size.true, c.frame_size-size.ensures))))

pub returns-then-piece-size-clause-needed : goal.returns-then-piece-size-clause-needed
returns-then-piece-size-clause-needed c =
    let piece = c.args.piece.now in
    let b = c.extend_from_slice-then-piece-size.new.self.items in
    let is : b ≡ piece = rw c.requires.empty at c.in_ok-extend_from_slice.ensures.items in
    rw (is, c.frame_size-size.ensures) (needs-frame c.args.limits.now piece c.in-Ok.header c.requires.long
    (judgement c.args.limits.now piece c.args.head.now (Ok c.in-Ok.header) c.requires.head c.in-Ok.ensures) (omega (arith, c.if-piece-size.true, c.frame_size-size.ensures)))

pub returns-clause-seen : goal.returns-clause-seen
returns-clause-seen c =
    let piece = c.args.piece.now in
    let n = c.frame_size-size.result in
    let b = c.extend_from_slice-2.new.self.items in
    let is : b ≡ take n piece = (rw c.requires.empty at c.in_ok-extend_from_slice-2.ensures.items) ∙ c.split_at.ensures.front in
    let all : n ≤ length piece = omega (arith, c.if-piece-size.false) in
    sym (sight-all c.args.limits.now b c.in-Ok.header (omega (arith, c.frame_size-size.ensures, ap length is, length-take-le n piece all))
    (judgement c.args.limits.now b c.args.head.now (Ok c.in-Ok.header) (front-head b c.args.head.now piece n is (omega (arith, c.frame_size-size.ensures)) c.requires.head) c.in-Ok.ensures)
    (omega (arith, c.frame_size-size.ensures, ap length is, length-take-le n piece all)))
