-- Requests that are parked, and who waits for their outcomes.
use Rattle.std.specs.Prelude.{◌≡◌, ◌==◌, ℕ, ◌<◌, ◌≤◌, Bool, true, false, not, if◌then◌else◌, List, [], ◌∷◌, ◌++◌, length, Option, Some, None, filter}
use Rattle.std.specs.List.{list_all}
use Rattle.std.specs.Option.{option_map_or}
use Rattle.std.specs.Ordering.{nat_cmp}
use Rattle.std.specs.BTreeMap.{BTreeMap, get}
use Rattle.giop_core.specs.declared.request.ReplyWish.{ReplyWish}
use Rattle.giop_core.specs.declared.request.ReplyWish.TheVariants as wish
use Rattle.giop_link.specs.Linking.{Linked}
use Rattle.ft_log.specs.View.{key_of}
use Rattle.ft_orb.specs.declared.keeper.Retained.{Retained}
use Rattle.ft_orb.specs.declared.waiters.Join.{Join}
use Rattle.ft_orb.specs.declared.waiters.Join.TheVariants as join
use Rattle.ft_orb.specs.declared.parked.Parked.{Parked}
use Rattle.ft_orb.specs.declared.parked.Waiter.{Waiter}
use Rattle.ft_orb.specs.declared.answering.Asker.{Asker}
use Rattle.ft_orb.specs.declared.desk.Step.{Step}
use Rattle.ft_orb.specs.declared.desk.Step.TheVariants.{Answered, Quiet, Unanswered, Unhandled}
use Rattle.ft_orb.specs.declared.keeper.Repeat.{Repeat}
use Rattle.ft_log.specs.Performed.{system}
use Rattle.ft_log.specs.declared.system_exception.Completion.TheVariants.{Maybe}
use Rattle.ft_log.specs.declared.system_exception.SystemName.TheVariants.{Transient}
use Rattle.ft_orb.specs.Tellings.{reply_by}

-- an answer is wished for
abbrev pub is_wished : ReplyWish → Bool
is_wished wish.None = false
is_wished wish.Empty = true
is_wished wish.Full = true

-- what comes on a connection has a meaning
abbrev pub going_in : BTreeMap ℕ Linked → ℕ → Bool
going_in links c = option_map_or (λ (l : Linked). not l.is_closed) (get nat_cmp links c) false

-- those of them who wait on connections that go on
abbrev pub on_going : (ℕ → Bool) → List Waiter → List Waiter
on_going goes waiters = filter (λ w. goes w.connection) waiters

-- those of them who wait on other connections than c
abbrev pub elsewhere : ℕ → List Waiter → List Waiter
elsewhere c waiters = filter (λ (w : Waiter). not (w.connection == c)) waiters

-- the one who waits for the outcome of a request that is parked now: itself, where an answer is wished for
abbrev pub own_waiters : (c : ℕ) → Asker → List Waiter
own_waiters c asker = if is_wished asker.wish then record { connection = c; asker = asker } ∷ [] else []

-- what is kept under one is kept under the other
abbrev pub IsCopy : Option Retained → Option Retained → Type 0
IsCopy None None = Unit {0}
IsCopy (Some r) (Some copy) = (key_of copy.key ≡ key_of r.key) × (copy.expiration ≡ r.expiration)
IsCopy _ _ = ⊥

-- only who waits may be another
abbrev pub IsSameRequest : Parked → Parked → Type 0
IsSameRequest old new = (new.pending ≡ old.pending) × (new.outcome ≡ old.outcome)

-- this was appended; or it was not, and nothing came of the message
abbrev pub IsSaid : List ℕ → Step → (before out : List ℕ) → Type 0
IsSaid octets Answered before out = out ≡ before ++ octets
IsSaid octets Unhandled before out = out ≡ before
IsSaid octets Unanswered before out = ⊥
IsSaid octets Quiet before out = ⊥

-- what is said to who joins so
abbrev pub IsStepOf : Join → Asker → Step → (before out : List ℕ) → Type 0
IsStepOf join.Silent a step before out = (step ≡ Answered) × (out ≡ before)
IsStepOf join.Waits a step before out = (step ≡ Answered) × (out ≡ before)
IsStepOf join.Full a step before out = IsSaid (reply_by a.wish a.version a.request_id (system Transient 0 Maybe)) step before out
IsStepOf join.Memory a step before out = (step ≡ Unhandled) × (out ≡ before)

-- nobody waits now who did not before
abbrev pub AreOf : List Waiter → List Waiter → Type 0
AreOf old new = (test : Waiter → Bool) → list_all test old ≡ true → list_all test new ≡ true

module _ (goes : ℕ → Bool) where
  -- A repeat joins those who wait, where an answer to it is wished for and not more than so many wait on connections that go on.
  abbrev pub JoinsBy : (most : ℕ) → Waiter → Parked → Join → Parked → Type 0
  JoinsBy most w old join.Silent new = (is_wished w.asker.wish ≡ false) × (new ≡ old)
  JoinsBy most w old join.Waits new = (is_wished w.asker.wish ≡ true) × (length (on_going goes old.waiters.items) ≤ most) × IsSameRequest old new × (on_going goes new.waiters.items ≡ on_going goes (old.waiters.items ++ w ∷ [])) × AreOf (old.waiters.items ++ w ∷ []) new.waiters.items
  JoinsBy most w old join.Full new = (is_wished w.asker.wish ≡ true) × (most < length (on_going goes old.waiters.items)) × IsSameRequest old new × (on_going goes new.waiters.items ≡ on_going goes old.waiters.items) × AreOf old.waiters.items new.waiters.items
  JoinsBy most w old join.Memory new = (is_wished w.asker.wish ≡ true) × (length (on_going goes old.waiters.items) ≤ most) × IsSameRequest old new × (on_going goes new.waiters.items ≡ on_going goes old.waiters.items) × AreOf old.waiters.items new.waiters.items

  -- the first who waits does so on a connection that goes on, if anybody waits
  abbrev pub IsClear : List Waiter → Type 0
  IsClear [] = Unit {0}
  IsClear (w ∷ ws) = goes w.connection ≡ true

  abbrev pub IsCleared : Parked → Parked → Type 0
  IsCleared old new = IsSameRequest old new × (on_going goes new.waiters.items ≡ on_going goes old.waiters.items) × IsClear new.waiters.items × AreOf old.waiters.items new.waiters.items × (length new.waiters.items ≤ length old.waiters.items)

  -- .. and is told so, where it can't wait; or an allocation failed, or nothing is parked so
  abbrev pub JoinsAs : (most c : ℕ) → Repeat → Option Parked → Step → Option Parked → (before out : List ℕ) → Type 0
  JoinsAs most c r None step new before out = (step ≡ Unhandled) × (new ≡ None) × (out ≡ before)
  JoinsAs most c r (Some old) step None before out = ⊥
  JoinsAs most c r (Some old) step (Some new) before out = (j : Join) × JoinsBy most (record { connection = c; asker = r.asker }) old j new × IsStepOf j r.asker step before out
