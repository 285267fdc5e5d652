use Rattle.std.proofs.Common.{◌≡◌, ◌↔◌, ◌<◌, length, Some, None, Err, OnOk, ap, ◌∙◌, subst, arith}
use Rattle.std.proofs.lemmas.List.{length-map}
use Rattle.ft_log.specs.Keys.{held_of}
use Rattle.ft_log.specs.Kept.{kept_for, keys_of}
use Rattle.ft_log.specs.Logged.{Logged, Shown, clock_of, logged, stale_held, stale_of}
use Rattle.ft_log.specs.View.{entries_at, entry_in, key_of}
use Rattle.ft_log.specs.declared.error.LogError.TheVariants.{Full, ShareFull}
use Rattle.ft_log.proofs.Shares.{held-both}
use Rattle.ft_log.proofs.Live.{entries-live}
use Rattle.ft_log.proofs.Seen.{live_or_stale, on_err, on_ok, seen, shown-is}
use Rattle.ft_log.proofs.log.Log.make_room.Goals as goal

pub make_room_from-requires : goal.make_room_from-requires
make_room_from-requires c =
    let old = seen c.self.inside.clock c.self.inside.store c.args.self.now c.self.view_is in
    ap (λ (l : Logged). kept_for (key_of c.args.key.now) l.entries) old ∙ c.requires

pub returns-clause-ok : goal.returns-clause-ok
returns-clause-ok c =
    let old = seen c.self.inside.clock c.self.inside.store c.args.self.now c.self.view_is in
    on_ok c.make_room_from.result (λ h. shown-is c.self.inside.clock c.make_room_from.new.self ∙ h ∙ ap (λ (l : Logged). record l { room = Some (key_of c.args.key.now) }) old) c.make_room_from.ensures.ok

pub returns-clause-err : goal.returns-clause-err
returns-clause-err c =
    let old = seen c.self.inside.clock c.self.inside.store c.args.self.now c.self.view_is in
    on_err c.make_room_from.result (λ h. shown-is c.self.inside.clock c.make_room_from.new.self ∙ h ∙ ap (λ (l : Logged). record l { room = None }) old) c.make_room_from.ensures.err

pub returns-clause-full : goal.returns-clause-full
returns-clause-full c =
    let old = seen c.self.inside.clock c.self.inside.store c.args.self.now c.self.view_is in
    subst (λ (l : Logged). (c.make_room_from.result ≡ Err Full) ↔ (length l.entries ≡ l.capacity)) old c.make_room_from.ensures.full

pub returns-clause-share_full : goal.returns-clause-share_full
returns-clause-share_full c =
    let old = seen c.self.inside.clock c.self.inside.store c.args.self.now c.self.view_is in
    subst (λ (l : Logged). (c.make_room_from.result ≡ Err ShareFull) ↔ ((length l.entries < l.capacity) × (held_of (key_of c.args.key.now).client_id (keys_of l.entries) ≡ l.share))) old c.make_room_from.ensures.share_full

pub returns-clause-within : goal.returns-clause-within
returns-clause-within c =
    let old = seen c.self.inside.clock c.self.inside.store c.args.self.now c.self.view_is in
    subst (λ (l : Logged). OnOk c.make_room_from.result (length l.entries < l.capacity)) old c.make_room_from.ensures.within

pub returns-clause-shared : goal.returns-clause-shared
returns-clause-shared c =
    let old = seen c.self.inside.clock c.self.inside.store c.args.self.now c.self.view_is in
    subst (λ (l : Logged). OnOk c.make_room_from.result (held_of (key_of c.args.key.now).client_id (keys_of l.entries) < l.share)) old c.make_room_from.ensures.shared

pub returns-clause-stale : goal.returns-clause-stale
unfolding logged stale_of
returns-clause-stale c =
    let s = c.self.inside.store in
    let w = c.make_room_from.new.self in
    let clock = c.self.inside.clock in
    omega (
      arith,
      live_or_stale clock s.story.entries,
      live_or_stale clock w.story.entries,
      ap length (entries-live clock w.story.entries),
      ap length (entries-live clock s.story.entries),
      length-map s.story.entries entry_in,
      length-map w.story.entries entry_in,
      c.make_room_from.ensures.many,
      ap (λ (v : Shown). v.stale) c.self.view_is,
      c.make_room_from.ensures.few,
    )

pub returns-clause-clock : goal.returns-clause-clock
unfolding clock_of
returns-clause-clock c = ap (λ (v : Shown). v.clock) c.self.view_is

pub returns-clause-nine : goal.returns-clause-nine
unfolding logged stale_of stale_held
returns-clause-nine c = λ fewer.
    let s = c.self.inside.store in
    let w = c.make_room_from.new.self in
    let clock = c.self.inside.clock in
    let old = seen clock s c.args.self.now c.self.view_is in
    let client = (key_of c.args.key.now).client_id in
    let was = live_or_stale clock s.story.entries in
    let is = live_or_stale clock w.story.entries in
    let shows = ap length (entries-live clock w.story.entries) in
    let shown_old = ap length (entries-live clock s.story.entries) in
    let many = length-map s.story.entries entry_in in
    let more = length-map w.story.entries entry_in in
    let seen_stale = ap (λ (v : Shown). v.stale) c.self.view_is in
    let held = ap (λ (l : Logged). held_of client (keys_of l.entries)) old in
    let others = ap (λ (v : Shown). held_of client (keys_of (entries_at v.gone))) c.self.view_is in
    let both = held-both client clock s.story.entries in
    let share = ap (λ (l : Logged). l.share) old in
    let same = c.make_room_from.ensures.many in
    let nine = c.make_room_from.ensures.nine (omega (arith, fewer, held, others, both, share)) in
    omega (arith, was, is, shows, shown_old, many, more, same, seen_stale, nine)
