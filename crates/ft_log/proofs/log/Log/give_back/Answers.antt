use Rattle.std.proofs.Common.{inl, inr, length, ap, ◌∙◌, arith}
use Rattle.std.proofs.lemmas.List.{length-map}
use Rattle.ft_log.specs.Logged.{Logged, Shown, clock_of, logged, stale_of}
use Rattle.ft_log.specs.View.{entry_in}
use Rattle.ft_log.proofs.Live.{entries-live}
use Rattle.ft_log.proofs.Seen.{live_or_stale, seen, shown-is}
use Rattle.ft_log.proofs.log.Log.give_back.Goals as goal

pub returns-clause-same : goal.returns-clause-same
returns-clause-same c =
    let old = seen c.self.inside.clock c.self.inside.store c.args.self.now c.self.view_is in
    shown-is c.self.inside.clock c.forget_some.new.self ∙ c.forget_some.ensures.same ∙ old

pub returns-clause-stale : goal.returns-clause-stale
unfolding logged stale_of
returns-clause-stale c =
    let s = c.self.inside.store in
    let w = c.forget_some.new.self in
    let clock = c.self.inside.clock in
    let was = live_or_stale clock s.story.entries in
    let is = live_or_stale clock w.story.entries in
    let shows = ap length (entries-live clock w.story.entries) in
    let shown_old = ap length (entries-live clock s.story.entries) in
    let many = length-map s.story.entries entry_in in
    let more = length-map w.story.entries entry_in in
    let same = ap (λ (l : Logged). length l.entries) c.forget_some.ensures.same in
    let seen_stale = ap (λ (v : Shown). v.stale) c.self.view_is in
    let few = c.forget_some.ensures.few in
    (elim c.forget_some.ensures.left [
      | inl eight ↦ omega (arith, was, is, shows, shown_old, many, more, same, seen_stale, few, eight)
      | inr all ↦ omega (arith, was, is, shows, shown_old, many, more, same, seen_stale, few, ap length all)
    ])

pub returns-clause-clock : goal.returns-clause-clock
unfolding clock_of
returns-clause-clock c = ap (λ (v : Shown). v.clock) c.self.view_is
