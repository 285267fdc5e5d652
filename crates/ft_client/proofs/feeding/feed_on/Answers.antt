use Rattle.std.proofs.Common.{◌≡◌, ◌+◌, List, ◌++◌, ℕ, take, drop, Some, Bool, true, false, sym, ap, ◌∙◌, subst, arith, take-append-drop, take-add, append_assoc}
use Rattle.std.proofs.lemmas.Result.{IfOk-weaker, on_err_weaker}
use Rattle.ft_client.specs.Clients.{told_of}
use Rattle.ft_client.specs.Private.{IsFedTo}
use Rattle.ft_client.specs.Standing.{down, exchange_of, terms_of}
use Rattle.ft_client.proofs.Fed.{ended-more, fed_start, joined, keeps_told, steady, step-cut, step-ended, step-going}
use Rattle.ft_client.proofs.feeding.feed_on.Goals as goal

pub loop-taken-init : goal.loop-taken-init
loop-taken-init c = record {
  within = omega arith;
  room = c.requires;
  few = omega arith;
  goes = λ m k keeps leads st was. fed_start m k _ _ _ st was;
}

pub loop-taken-preserved : goal.loop-taken-preserved
loop-taken-preserved c =
    let l = c.loop-taken in
    let v = l.invariant in
    let h = c.in_ok-take_in.ensures in
    record {
      within = let n = c.in-Ok.ensures.within in let b = c.split_at.ensures.back_len in omega (arith, n, b);
      room = c.take_in.ensures.room;
      few = let x = c.take_in.ensures.few in let y = v.few in omega (arith, x, y);
      goes = λ m k keeps leads st was.
          let p = v.goes m k keeps leads st was in
          let a = take l.taken c.args.piece.now in
          let left = c.split_at.result.1.now in
          let b = take c.in-Ok.n left in
          let n = told_of (down m.limits) a m (Some k) in
          let at = record k { received = k.received ++ a } in
          let qs = c.take_in.new.pending.items in
          let cs = c.take_in.new.completions.items in
          let laws = steady m.limits c.streams_are_heard.ensures.grows c.streams_are_heard.ensures.stays c.streams_are_heard.ensures.silent in
          let whole : take (l.taken + c.in-Ok.n) c.args.piece.now ≡ a ++ b = take-add l.taken c.in-Ok.n c.args.piece.now ∙ ap (λ (xs : List ℕ). a ++ take c.in-Ok.n xs) (sym c.split_at.ensures.back) in
          subst (λ (o : List ℕ). IsFedTo m k o false qs cs c.feed.new.self) (sym whole)
          (joined m k a b false qs cs c.feed.new.self laws
          (step-going n at left c.in-Ok.n l.link c.feed.new.self l.pending.items qs l.completions.items cs p.0 p.1 (c.in-Ok.ensures.takes (terms_of n) (exchange_of at p.1.ids) p.1.stands) (sym h.end ∙ c.if-branch.false) (h.stands n ((keeps_told (down m.limits) a m k).keeps_transient ∙ keeps) ((keeps_told (down m.limits) a m k).keeps_forwards ∙ leads) p.0)));
    }

pub returns-in-Err-clause-stands : goal.returns-in-Err-clause-stands
returns-in-Err-clause-stands c =
    IfOk-weaker c.ended_by.result _ _ (λ ended h m k keeps leads st was.
    let l = c.loop-taken in
    let p = l.invariant.goes m k keeps leads st was in
    let a = take l.taken c.args.piece.now in
    let left = c.split_at.result.1.now in
    let n = told_of (down m.limits) a m (Some k) in
    let at = record k { received = k.received ++ a } in
    let qs = l.pending.items in
    let cs = l.completions.items in
    let laws = steady m.limits c.streams_are_heard.ensures.grows c.streams_are_heard.ensures.stays c.streams_are_heard.ensures.silent in
    let whole : a ++ left ≡ c.args.piece.now = ap (λ (xs : List ℕ). a ++ xs) c.split_at.ensures.back ∙ take-append-drop l.taken c.args.piece.now in
    subst (λ (b : Bool). IsFedTo m k c.args.piece.now b qs cs c.feed.new.self) (sym h.0)
    (subst (λ (o : List ℕ). IsFedTo m k o true qs cs c.feed.new.self) whole
    (joined m k a left true qs cs c.feed.new.self laws (step-cut n at left c.feed.new.self qs cs c.in-Err.fault p.0 (c.in-Err.ensures.fault (terms_of n) (exchange_of at p.1.ids) p.1.stands) h.1)))) c.ended_by.ensures.ok

pub returns-in-Err-clause-err : goal.returns-in-Err-clause-err
returns-in-Err-clause-err c = on_err_weaker c.ended_by.result (λ _ m k keeps leads st was. (c.loop-taken.taken, omega arith, (c.loop-taken.invariant.goes m k keeps leads st was).0)) c.ended_by.ensures.err

pub returns-then-branch-clause-stands : goal.returns-then-branch-clause-stands
returns-then-branch-clause-stands c = λ m k keeps leads st was.
    let l = c.loop-taken in
    let h = c.in_ok-take_in.ensures in
    let p = l.invariant.goes m k keeps leads st was in
    let a = take l.taken c.args.piece.now in
    let left = c.split_at.result.1.now in
    let b = take c.in-Ok.n left in
    let rest = drop c.in-Ok.n left in
    let n = told_of (down m.limits) a m (Some k) in
    let at = record k { received = k.received ++ a } in
    let qs = c.take_in.new.pending.items in
    let cs = c.take_in.new.completions.items in
    let laws = steady m.limits c.streams_are_heard.ensures.grows c.streams_are_heard.ensures.stays c.streams_are_heard.ensures.silent in
    let whole : (a ++ b) ++ rest ≡ c.args.piece.now = append_assoc a b rest ∙ ap (λ (xs : List ℕ). a ++ xs) (take-append-drop c.in-Ok.n left ∙ c.split_at.ensures.back) ∙ take-append-drop l.taken c.args.piece.now in
    subst (λ (o : List ℕ). IsFedTo m k o true qs cs c.feed.new.self) whole
    (ended-more m k (a ++ b) rest qs cs c.feed.new.self laws
    (joined m k a b true qs cs c.feed.new.self laws
    (step-ended n at left c.in-Ok.n l.link c.feed.new.self qs cs p.1 (c.in-Ok.ensures.takes (terms_of n) (exchange_of at p.1.ids) p.1.stands) (sym h.end ∙ c.if-branch.true) (h.stands n ((keeps_told (down m.limits) a m k).keeps_transient ∙ keeps) ((keeps_told (down m.limits) a m k).keeps_forwards ∙ leads) p.0))))
