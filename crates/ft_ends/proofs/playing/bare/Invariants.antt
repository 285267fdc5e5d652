use Rattle.ft_ends.specs.Private.{AreBare}
use Rattle.ft_ends.proofs.playing.bare.Given as goal

-- none of them has a connection or a call
abbrev pub invariant-loop : goal.invariant-loop
invariant-loop l = AreBare l.counter l.posts.items
