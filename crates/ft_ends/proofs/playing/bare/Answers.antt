use Rattle.std.proofs.Common.{◌≡◌, suc, ◌+◌, List, sym, subst, arith}
use Rattle.ft_ends.specs.declared.post.Post.{Post}
use Rattle.ft_ends.specs.Private.{AreBare}
use Rattle.ft_ends.proofs.Held.{bare-push}
use Rattle.ft_ends.proofs.playing.bare.Goals as goal

pub loop-preserved : goal.loop-preserved
loop-preserved c =
    let n = c.loop.counter in
    let one : suc n ≡ n + 1 = omega arith in
    subst (λ k. AreBare k c.push.new.self.items) one
    (subst (λ us. AreBare (suc n) us) (sym {A = List Post} c.in_ok-push.ensures.items) (bare-push n c.loop.posts.items c.new.result c.new.ensures c.loop.invariant))
