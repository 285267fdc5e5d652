use Rattle.std.proofs.Common.{rules, ◌≡◌, ◌++◌, ◌∷◌, []}
use Rattle.memory_wire.proofs.Said.{said}
use Rattle.memory_wire.proofs.tape.with_act.Goals as goal

pub returns : goal.returns
returns c =
    let pushed : c.push.new.self.items ≡ c.in_ok-tape.tape.items ++ c.args.act ∷ [] = search rules in
    said c.args.tape c.in_ok-tape.tape c.push.new.self c.args.act c.in_ok-tape.was pushed
