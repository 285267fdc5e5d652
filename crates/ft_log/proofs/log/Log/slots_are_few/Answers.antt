use Rattle.std.proofs.Common.{length, ap, arith}
use Rattle.std.proofs.lemmas.List.{length-map}
use Rattle.ft_log.specs.Keys.{clients_in}
use Rattle.ft_log.specs.Kept.{keys_of}
use Rattle.ft_log.specs.Logged.{Logged, Shown, dues_of, logged, slots_of, stale_of}
use Rattle.ft_log.specs.View.{entries_at, entry_in}
use Rattle.ft_log.proofs.Live.{clients-unexpired}
use Rattle.ft_log.proofs.Seen.{live_or_stale, seen}
use Rattle.ft_log.proofs.log.Log.slots_are_few.Goals as goal

pub returns-clause-each : goal.returns-clause-each
unfolding logged slots_of dues_of stale_of
returns-clause-each c =
    let s = c.self.inside.store in
    let clock = c.self.inside.clock in
    let old = seen clock s c.args.self.now c.self.view_is in
    let is = c.self.view_is in
    omega (
      arith,
      c.slots_are_few.ensures.each,
      live_or_stale clock s.story.entries,
      length-map s.story.entries entry_in,
      clients-unexpired clock (entries_at s.story.entries),
      ap (λ (l : Logged). clients_in (keys_of l.entries)) old,
      ap (λ (l : Logged). length l.entries) old,
      ap (λ (l : Logged). l.capacity) old,
      ap (λ (v : Shown). v.slots) is,
      ap (λ (v : Shown). v.dues) is,
      ap (λ (v : Shown). v.stale) is,
    )

pub returns-clause-twice : goal.returns-clause-twice
unfolding logged slots_of dues_of stale_of
returns-clause-twice c =
    let s = c.self.inside.store in
    let clock = c.self.inside.clock in
    let old = seen clock s c.args.self.now c.self.view_is in
    let is = c.self.view_is in
    omega (
      arith,
      c.slots_are_few.ensures.twice,
      live_or_stale clock s.story.entries,
      length-map s.story.entries entry_in,
      ap (λ (l : Logged). length l.entries) old,
      ap (λ (l : Logged). l.capacity) old,
      ap (λ (v : Shown). v.slots) is,
      ap (λ (v : Shown). v.dues) is,
      ap (λ (v : Shown). v.stale) is,
    )

pub returns-clause-bound : goal.returns-clause-bound
unfolding logged slots_of dues_of stale_of
returns-clause-bound c =
    let s = c.self.inside.store in
    let clock = c.self.inside.clock in
    let old = seen clock s c.args.self.now c.self.view_is in
    let is = c.self.view_is in
    omega (
      arith,
      c.slots_are_few.ensures.bound,
      live_or_stale clock s.story.entries,
      length-map s.story.entries entry_in,
      ap (λ (l : Logged). length l.entries) old,
      ap (λ (l : Logged). l.capacity) old,
      ap (λ (v : Shown). v.slots) is,
      ap (λ (v : Shown). v.dues) is,
      ap (λ (v : Shown). v.stale) is,
    )

pub returns-clause-dues : goal.returns-clause-dues
unfolding logged slots_of dues_of stale_of
returns-clause-dues c =
    let s = c.self.inside.store in
    let clock = c.self.inside.clock in
    let old = seen clock s c.args.self.now c.self.view_is in
    let is = c.self.view_is in
    omega (
      arith,
      c.slots_are_few.ensures.dues,
      live_or_stale clock s.story.entries,
      length-map s.story.entries entry_in,
      ap (λ (l : Logged). length l.entries) old,
      ap (λ (l : Logged). l.capacity) old,
      ap (λ (v : Shown). v.slots) is,
      ap (λ (v : Shown). v.dues) is,
      ap (λ (v : Shown). v.stale) is,
    )

pub returns-clause-within : goal.returns-clause-within
unfolding logged slots_of dues_of stale_of
returns-clause-within c =
    let s = c.self.inside.store in
    let clock = c.self.inside.clock in
    let old = seen clock s c.args.self.now c.self.view_is in
    let is = c.self.view_is in
    omega (
      arith,
      c.slots_are_few.ensures.bound,
      live_or_stale clock s.story.entries,
      length-map s.story.entries entry_in,
      s.within,
      ap (λ (l : Logged). length l.entries) old,
      ap (λ (l : Logged). l.capacity) old,
      ap (λ (v : Shown). v.slots) is,
      ap (λ (v : Shown). v.dues) is,
      ap (λ (v : Shown). v.stale) is,
    )
