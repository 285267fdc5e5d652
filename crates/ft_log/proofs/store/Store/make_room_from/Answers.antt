use Rattle.std.proofs.Common.{◌≡◌, ◌<◌, ◌≤◌, ℕ, Bool, true, false, nat_lt, refl, length, ap, ◌∙◌, List, Some, None, arith}
use Rattle.std.proofs.lemmas.Bool.{ltb-false, ltb-true}
use Rattle.std.proofs.lemmas.List.{length-map}
use Rattle.ft_log.specs.Holding.{Holding}
use Rattle.ft_log.specs.Keys.{held_of}
use Rattle.ft_log.specs.Kept.{KeptOutcome, keys_of, unexpired}
use Rattle.ft_log.specs.Logged.{Logged, logged}
use Rattle.ft_log.specs.Store.{live_from, shown}
use Rattle.ft_log.specs.View.{entries_at, entry_in, key_of}
use Rattle.ft_log.proofs.Live.{held-unexpired, length-unexpired}
use Rattle.ft_log.proofs.Seen.{on_err, on_ok}
use Rattle.ft_log.proofs.store.Store.make_room_from.Goals as goal
use Rattle.ft_log.proofs.store.Store.make_room_from.Goals.{After-make_room}

-- fewer than may be kept, where all would be live else
below_from : (n capacity m : ℕ) → n ≤ capacity → (n ≡ capacity → m ≡ n) → m < capacity → n < capacity
below_from n capacity m within full lt = by (nat_lt n capacity) refl
  where
    by : (b : Bool) → nat_lt n capacity ≡ b → n < capacity
    by true t = ltb-true n capacity t
    by false t = let is : n ≡ capacity = (let far = ltb-false n capacity t in omega (arith, far, within)) in absurd (let same = full is in omega (arith, same, is, lt))

-- how many are live, in all and of the client, and how many may be kept
module _ (c : After-make_room) where
  abbrev Kept : Type 0
  Kept = KeptOutcome Holding

  abbrev client : List ℕ
  client = (key_of c.args.key.now).client_id

  abbrev old : List Kept
  old = unexpired c.args.now (entries_at c.args.self.now.story.entries)

  abbrev left : List Kept
  left = entries_at c.make_way.new.self.story.entries

  same : live_from c.args.now (logged (shown c.make_way.new.self)) ≡ live_from c.args.now (logged (shown c.args.self.now))
  same = c.make_way.ensures.same

  entries : unexpired c.args.now left ≡ old
  unfolding logged
  entries = ap (λ (l : Logged). l.entries) same

  capacity : c.make_way.new.self.capacity ≡ c.args.self.now.capacity
  unfolding logged
  capacity = ap (λ (l : Logged). l.capacity) same

  share : c.make_way.new.self.share ≡ c.args.self.now.share
  unfolding logged
  share = ap (λ (l : Logged). l.share) same

  many : length (unexpired c.args.now left) ≡ length old
  many = ap length entries

  held : held_of client (keys_of (unexpired c.args.now left)) ≡ held_of client (keys_of old)
  held = ap (λ (l : List Kept). held_of client (keys_of l)) entries

  within : length left ≤ c.make_way.new.self.capacity
  within = let s = c.make_way.new.self in omega (arith, s.within, length-map s.story.entries entry_in)

  -- a full log is full of what is live
  full_live : length left ≡ c.make_way.new.self.capacity → length (unexpired c.args.now left) ≡ length left
  unfolding logged
  full_live is = ap length (c.make_way.ensures.full is)

  -- where the client has its share, it has it by what is live
  share_live : length left < c.make_way.new.self.capacity → held_of client (keys_of left) ≡ c.make_way.new.self.share → held_of client (keys_of (unexpired c.args.now left)) ≡ c.make_way.new.self.share
  unfolding logged
  share_live fewer is = c.make_way.ensures.share fewer is

pub returns-clause-ok : goal.returns-clause-ok
unfolding logged
returns-clause-ok c =
    let inside = (goal.at.returns-clause-ok c).After-make_room in
    on_ok c.make_room.result (λ h. ap (live_from c.args.now) h ∙ ap (λ (g : Logged). record g { room = Some (key_of c.args.key.now) }) (same inside)) c.make_room.ensures.ok

pub returns-clause-err : goal.returns-clause-err
unfolding logged
returns-clause-err c =
    let inside = (goal.at.returns-clause-err c).After-make_room in
    on_err c.make_room.result (λ h. ap (live_from c.args.now) h ∙ ap (λ (g : Logged). record g { room = None }) (same inside)) c.make_room.ensures.err

pub returns-clause-full : goal.returns-clause-full
unfolding logged
returns-clause-full c =
    let i = (goal.at.returns-clause-full c).After-make_room in (
      λ e. let is = c.make_room.ensures.full.0 e in omega (arith, is, full_live i is, many i, capacity i),
      λ e. c.make_room.ensures.full.1 (omega (arith, e, many i, capacity i, within i, length-unexpired c.args.now (left i))),
    )

pub returns-clause-share_full : goal.returns-clause-share_full
unfolding logged
returns-clause-share_full c =
    let i = (goal.at.returns-clause-share_full c).After-make_room in
    let s = c.make_way.new.self in (
      λ e.
          let is = c.make_room.ensures.share_full.0 e in
          let live = share_live i is.0 is.1 in
          (omega (arith, is.0, length-unexpired c.args.now (left i), many i, capacity i), omega (arith, live, held i, share i)),
      λ h.
          let fewer : length (left i) < s.capacity = below_from (length (left i)) s.capacity (length (unexpired c.args.now (left i))) (within i) (full_live i) (omega (arith, h.0, many i, capacity i)) in
          c.make_room.ensures.share_full.1 (fewer, omega (arith, h.1, held i, share i, held-unexpired (client i) c.args.now (left i), s.shared (client i))),
    )

pub returns-clause-within : goal.returns-clause-within
unfolding logged
returns-clause-within c =
    let i = (goal.at.returns-clause-within c).After-make_room in
    on_ok c.make_room.result (λ h. omega (arith, h, many i, capacity i, length-unexpired c.args.now (left i))) c.make_room.ensures.within

pub returns-clause-shared : goal.returns-clause-shared
unfolding logged
returns-clause-shared c =
    let i = (goal.at.returns-clause-shared c).After-make_room in
    on_ok c.make_room.result (λ h. omega (arith, h, held i, share i, held-unexpired (client i) c.args.now (left i))) c.make_room.ensures.shared

pub returns-clause-nine : goal.returns-clause-nine
unfolding logged
returns-clause-nine c = λ few. omega (arith, c.make_way.ensures.nine few, ap length c.make_room.ensures.same)
