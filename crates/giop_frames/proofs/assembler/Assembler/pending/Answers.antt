use Rattle.std.proofs.Common.{rules, ◌≡◌, length, arith}
use Rattle.giop_frames.proofs.Awaiting.{begins-before}
use Rattle.giop_frames.proofs.assembler.Assembler.pending.Goals as goal

pub returns-then-is_some-clause-begins : goal.returns-then-is_some-clause-begins
returns-then-is_some-clause-begins c = λ s stands.
    let v = c.args.self.now in
    let none : 0 ≡ length v.pending = search rules in
    omega (arith, none, begins-before v.limits v.pending v.parts s stands.stands)

pub returns-clause-begins : goal.returns-clause-begins
returns-clause-begins c = λ s stands.
    let v = c.args.self.now in
    let all : c.len.result ≡ length v.pending = search rules in
    omega (arith, all, begins-before v.limits v.pending v.parts s stands.stands)
