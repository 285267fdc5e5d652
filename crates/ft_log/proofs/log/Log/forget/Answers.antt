use Rattle.std.proofs.Common.{inl, inr, ℕ, length, max, ap, ◌∙◌, arith}
use Rattle.std.proofs.lemmas.List.{length-map}
use Rattle.ft_log.specs.Logged.{Logged, Shown, clock_of, logged, stale_of}
use Rattle.ft_log.specs.Store.{live_from, shown}
use Rattle.ft_log.specs.View.{entry_in}
use Rattle.ft_log.proofs.Live.{entries-live}
use Rattle.ft_log.proofs.Seen.{later, live_or_stale, seen, shown-is}
use Rattle.ft_log.proofs.log.Log.forget.Goals as goal

pub returns-clause-entries : goal.returns-clause-entries
returns-clause-entries c =
    let old = seen c.self.inside.clock c.self.inside.store c.args.self.now c.self.view_is in
    let s = c.self.inside.store in
    shown-is c.max-self-inside.result c.forget_some.new.self ∙ c.forget_some.ensures.same ∙ ap (λ (n : ℕ). live_from n (logged (shown s))) c.max-self-inside.ensures
    ∙ later c.self.inside.clock c.args.now (logged (shown s)) ∙ ap (live_from c.args.now) old

pub returns-clause-stale : goal.returns-clause-stale
unfolding logged stale_of
returns-clause-stale c =
    let old = seen c.self.inside.clock c.self.inside.store c.args.self.now c.self.view_is in
    let s = c.self.inside.store in
    let w = c.forget_some.new.self in
    let clock = c.max-self-inside.result in
    let was = live_or_stale c.self.inside.clock s.story.entries in
    let is = live_or_stale clock w.story.entries in
    let shows = ap length (entries-live clock w.story.entries) in
    let many = length-map s.story.entries entry_in in
    let more = length-map w.story.entries entry_in in
    let seen_live = ap (λ (l : Logged). length l.entries) old in
    let seen_stale = ap (λ (v : Shown). v.stale) c.self.view_is in
    let few = c.forget_some.ensures.few in
    (elim c.forget_some.ensures.left [
      | inl eight ↦ omega (arith, was, is, shows, many, more, seen_live, seen_stale, few, eight)
      | inr all ↦ omega (arith, was, is, shows, many, more, seen_live, seen_stale, few, ap length all)
    ])

pub returns-clause-clock : goal.returns-clause-clock
unfolding clock_of
returns-clause-clock c = c.max-self-inside.ensures ∙ ap (λ (v : Shown). max v.clock c.args.now) c.self.view_is
