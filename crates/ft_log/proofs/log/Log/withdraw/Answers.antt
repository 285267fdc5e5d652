use Rattle.std.proofs.Common.{List, length, ap, ◌∙◌, arith}
use Rattle.ft_log.specs.Holding.{Holding}
use Rattle.ft_log.specs.Kept.{KeptOutcome, unexpired, withdrawn}
use Rattle.ft_log.specs.Logged.{Logged, Shown, clock_of, logged, stale_of}
use Rattle.ft_log.specs.Store.{live_from, shown}
use Rattle.ft_log.specs.View.{key_of}
use Rattle.ft_log.proofs.Gone.{gone_is, withdrawn_few, withdrawn_fewer}
use Rattle.ft_log.proofs.Live.{length-unexpired, unexpired-withdrawn}
use Rattle.ft_log.proofs.Seen.{seen, shown-is}
use Rattle.ft_log.proofs.log.Log.withdraw.Goals as goal

pub returns-clause-entries : goal.returns-clause-entries
returns-clause-entries c =
    let old = seen c.self.inside.clock c.self.inside.store c.args.self.now c.self.view_is in
    let clock = c.self.inside.clock in
    let was : Logged = logged (shown c.self.inside.store) in
    shown-is clock c.withdraw.new.self ∙ ap (live_from clock) c.withdraw.ensures
    ∙ ap (λ (es : List (KeptOutcome Holding)). record was { entries = es }) (unexpired-withdrawn clock (key_of c.args.key.now) c.args.number was.entries)
    ∙ ap (λ (l : Logged). record l { entries = withdrawn (key_of c.args.key.now) c.args.number l.entries }) old

pub returns-clause-clock : goal.returns-clause-clock
unfolding clock_of
returns-clause-clock c = ap (λ (v : Shown). v.clock) c.self.view_is

pub returns-clause-stale : goal.returns-clause-stale
unfolding logged stale_of
returns-clause-stale c =
    let s = c.self.inside.store in
    let w = c.withdraw.new.self in
    let clock = c.self.inside.clock in
    let key = key_of c.args.key.now in
    let was : List (KeptOutcome Holding) = (logged (shown s)).entries in
    let all = ap (λ (l : Logged). l.entries) c.withdraw.ensures in
    omega (
      arith,
      gone_is clock s.story.entries,
      gone_is clock w.story.entries,
      ap length all,
      ap (λ (l : List (KeptOutcome Holding)). length (unexpired clock l)) all,
      withdrawn_fewer clock key c.args.number was,
      length-unexpired clock was,
      length-unexpired clock (withdrawn key c.args.number was),
      ap (λ (v : Shown). v.stale) c.self.view_is,
    )

pub returns-clause-one : goal.returns-clause-one
unfolding logged stale_of
returns-clause-one c =
    let s = c.self.inside.store in
    let w = c.withdraw.new.self in
    let clock = c.self.inside.clock in
    let key = key_of c.args.key.now in
    let was : List (KeptOutcome Holding) = (logged (shown s)).entries in
    let all = ap (λ (l : Logged). l.entries) c.withdraw.ensures in
    let old = seen clock s c.args.self.now c.self.view_is in
    omega (
      arith,
      gone_is clock s.story.entries,
      gone_is clock w.story.entries,
      ap length all,
      ap (λ (l : Logged). length l.entries) old,
      ap (λ (l : Logged). length l.entries) (shown-is clock w),
      withdrawn_few key c.args.number s.story.entries s.distinct,
      length-unexpired clock was,
      ap (λ (v : Shown). v.stale) c.self.view_is,
    )
