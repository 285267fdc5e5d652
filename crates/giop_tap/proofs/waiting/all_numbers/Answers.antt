use Rattle.std.proofs.Common.{◌≡◌, rules}
use Rattle.giop_tap.specs.Waiting.{gathered}
use Rattle.giop_tap.proofs.Gathered.{sorted-numbers}
use Rattle.giop_tap.proofs.waiting.all_numbers.Goals as goal

pub returns : goal.returns
returns c = λ ws rising stands.
    let all : c.loop-numbers.all.items ≡ gathered c.args.waiting.now.entries = search rules in
    sorted-numbers c.loop-numbers.all.items c.sort_unstable.new.self.items c.args.waiting.now.entries ws all c.values-numbers-items.ensures.ordered c.sort_unstable.ensures.permutation c.sort_unstable.ensures.sorted rising stands
