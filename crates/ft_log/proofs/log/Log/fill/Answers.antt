use Rattle.std.proofs.Common.{List, length, map, ap, ◌∙◌, arith}
use Rattle.std.proofs.lemmas.List.{length-map}
use Rattle.ft_log.specs.Holding.{Holding}
use Rattle.ft_log.specs.Kept.{KeptOutcome, filled, unexpired}
use Rattle.ft_log.specs.Logged.{Logged, Shown, clock_of, logged, stale_of}
use Rattle.ft_log.specs.Store.{live_from, shown}
use Rattle.ft_log.specs.View.{key_of, performed_in}
use Rattle.ft_log.proofs.Gone.{gone_is}
use Rattle.ft_log.proofs.Live.{unexpired-filled}
use Rattle.ft_log.proofs.Seen.{seen, shown-is}
use Rattle.ft_log.proofs.log.Log.fill.Goals as goal

pub returns-clause-entries : goal.returns-clause-entries
returns-clause-entries c =
    let old = seen c.self.inside.clock c.self.inside.store c.args.self.now c.self.view_is in
    let clock = c.self.inside.clock in
    let was : Logged = logged (shown c.self.inside.store) in
    shown-is clock c.fill.new.self ∙ ap (live_from clock) c.fill.ensures
    ∙ ap (λ (es : List (KeptOutcome Holding)). record was { entries = es }) (unexpired-filled clock (key_of c.args.key) c.args.number (performed_in c.args.outcome) was.entries)
    ∙ ap (λ (l : Logged). record l { entries = map (filled (key_of c.args.key) c.args.number (performed_in c.args.outcome)) l.entries }) old

pub returns-clause-clock : goal.returns-clause-clock
unfolding clock_of
returns-clause-clock c = ap (λ (v : Shown). v.clock) c.self.view_is

pub returns-clause-stale : goal.returns-clause-stale
unfolding logged stale_of
returns-clause-stale c =
    let s = c.self.inside.store in
    let w = c.fill.new.self in
    let clock = c.self.inside.clock in
    let was : List (KeptOutcome Holding) = (logged (shown s)).entries in
    let each = filled (key_of c.args.key) c.args.number (performed_in c.args.outcome) in
    let all = ap (λ (l : Logged). l.entries) c.fill.ensures in
    let live = ap (unexpired clock) all ∙ unexpired-filled clock (key_of c.args.key) c.args.number (performed_in c.args.outcome) was in
    omega (
      arith,
      gone_is clock s.story.entries,
      gone_is clock w.story.entries,
      ap length all,
      ap length live,
      length-map was each,
      length-map (unexpired clock was) each,
      ap (λ (v : Shown). v.stale) c.self.view_is,
    )
