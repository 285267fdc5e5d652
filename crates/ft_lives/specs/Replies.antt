-- What lives reply, and what the store held then.
use Rattle.std.specs.Prelude.{◌≡◌, ◌<◌, ◌≤◌, ℕ, true, false, List, ◌∷◌, ◌++◌, length, Contains, Option, Some, None, Result, Ok, Err, ◌⊎◌}
use Rattle.std.specs.List.{list_any}
use Rattle.std.specs.Option.{option_map}
use Rattle.giop_link.specs.Hearing.{Question}
use Rattle.ft_log.specs.Holding.{known, parked}
use Rattle.ft_log.specs.Keys.{RequestKey}
use Rattle.ft_log.specs.Performed.{Performed}
use Rattle.ft_log.specs.declared.system_exception.Completion.TheVariants.{No}
use Rattle.ft_log.specs.declared.system_exception.SystemName.{SystemName}
use Rattle.ft_log.specs.declared.system_exception.SystemName.TheVariants.{BadContext, NoResources}
use Rattle.ft_orb.specs.Deeds.{Answered, AnsweredUnkept, Deed, GivenUp, Happened, Joined, Ledger, Parked, Settled, SettledUnkept, Stopped, Told, part_of, settles}
use Rattle.ft_orb.specs.Engines.{Awaited}
use Rattle.ft_orb.specs.ExactlyOnce.{Arrival, Present}
use Rattle.ft_orb.specs.History.{Event, completed}
use Rattle.ft_orb.specs.Owners.{owned_rules, owned_table}
use Rattle.ft_orb.specs.Parking.{Settings, by_number, not_now}
use Rattle.ft_orb.specs.Requests.{Origin, Wanted, asking, field_of, is_named_within}
use Rattle.ft_orb.specs.Table.{table_after, table_step}
use Rattle.ft_lives.specs.Lives.{AreLives, Did, IsKept, Life, Step, Stored, deeds_of, ledger_of, requests_of, stored}
use Rattle.ft_lives.specs.Owned.{IsException, IsMaybe, IsOwned, NeverCommits, WasHeld, WasOver}
use Rattle.ft_lives.specs.Stores.{Ask, Committed, Row, held_for}

-- the event of which a deed takes arrivals, if it takes any
abbrev pub event_in : Deed → Option Event
event_in (Happened e written note) = Some e
event_in (Stopped p written w q) = Some (part_of p)
event_in (Joined p written n joined) = Some (part_of p)
event_in (Answered a outcome written note) = None
event_in (Parked a own) = None
event_in (GivenUp a handled) = None
event_in (Settled i n outcome told) = None
event_in (AnsweredUnkept a outcome written) = None
event_in (SettledUnkept i n outcome told) = None

-- What an engine of which so much is known says to an arrival that a deed takes: the number of a call, or what refuses it.
pub record Says (s : Settings) (g : Ledger) (d : Deed) (a : Arrival Wanted) (answer : Result ℕ SystemName) : Type 0 where
  pub event : Event
  pub takes : event_in d ≡ Some event
  pub front : List (Arrival Wanted)
  pub rest : List (Arrival Wanted)
  pub completes : completed s.limits g.past event ≡ front ++ a ∷ rest
  pub says : (table_step (owned_rules (by_number s g.held)) (table_after (owned_rules (by_number s g.held)) (owned_table (by_number s g.held) g.past) front) a).1 ≡ answer

-- Nothing is committed for this request, and the store held nothing for its key when that was looked up, once the request had been asked
-- for; and it holds nothing still, where no other commits the key in between.
pub record IsFree (steps front : List Step) (life number : ℕ) (key : RequestKey) : Type 0 where
  pub before : List Step
  pub after : List Step
  pub point : front ≡ before ++ after
  pub request : Awaited
  pub asked : Contains (requests_of life before) request
  pub numbered : request.number ≡ number
  pub free : held_for key (stored before) ≡ None
  pub uncommitted : (ask : Ask) (row : Row) → Contains steps (Stored (Committed ask row)) → ask.life ≡ life → ask.number ≡ number → ⊥
  pub still : ((ask : Ask) (row : Row) → Contains after (Stored (Committed ask row)) → row.key ≡ key → ⊥) → held_for key (stored front) ≡ None

-- the request of which a deed tells an outcome that is not kept, if it does, and that outcome
abbrev pub unkept_in : Ledger → Deed → Option (Awaited × Performed)
unkept_in g (Happened e written note) = None
unkept_in g (Stopped p written w q) = None
unkept_in g (Joined p written n joined) = None
unkept_in g (Answered a outcome written note) = None
unkept_in g (Parked a own) = None
unkept_in g (GivenUp a handled) = None
unkept_in g (Settled i n outcome told) = None
unkept_in g (AnsweredUnkept a outcome written) = Some (a.request, outcome)
unkept_in g (SettledUnkept i n outcome told) = option_map (λ w. (w, outcome)) (g.there n)

-- a refusal that says that nothing was done is of a request that is over, by the mark, and of which nothing is committed; or of one that
-- is free
abbrev pub IsOverOrFree : (steps front : List Step) → (life : ℕ) → Awaited → RequestKey → (expiration : ℕ) → SystemName → Type 0
IsOverOrFree steps front life w key expiration name = ((name ≡ BadContext) × WasOver front expiration × NeverCommits steps life w.number) ⊎ IsFree steps front life w.number key

-- What was told of a request and not kept is the store's, as `held` says; or it says COMPLETED_MAYBE; or COMPLETED_NO, and that is true.
abbrev pub IsToldRightly : (held : Type 0) → (steps front : List Step) → (life : ℕ) → Awaited → RequestKey → (expiration : ℕ) → Performed → Type 0
IsToldRightly held steps front life w key expiration outcome = held ⊎ (IsMaybe outcome ⊎ ((name : SystemName) × (minor : ℕ) × IsException name minor No outcome × IsOverOrFree steps front life w key expiration name))

module _ (lives : ℕ → Life) where
  -- A repeat that a life answers from its log, by a call that was taken before and whose outcome is known, gets an outcome that the store
  -- held for its key.
  abbrev pub RepeatsAreHeld : Type 0
  RepeatsAreHeld = (steps front rest : List Step) (n : ℕ) (d : Deed) (a : Arrival Wanted) (i : ℕ) (key : RequestKey) (expiration : ℕ) (outcome : Performed) → AreLives lives steps → IsOwned lives steps
      → steps ≡ front ++ Did n d ∷ rest → Says (lives n).settings (ledger_of lives n front) d a (Ok i) → a.field ≡ Present key expiration
      → i < length (ledger_of lives n front).calls → (ledger_of lives n front).held i ≡ known outcome → WasHeld front key outcome

  -- One whose call is parked under a number gets such an outcome once that is settled: what is settled under it next.
  abbrev pub ToldAreHeld : Type 0
  ToldAreHeld = (steps front between rest : List Step) (n : ℕ) (d : Deed) (a : Arrival Wanted) (i j number : ℕ) (key : RequestKey) (expiration : ℕ) (outcome : Performed) (told : List Told) → AreLives lives steps → IsOwned lives steps
      → steps ≡ front ++ Did n d ∷ between ++ Did n (Settled j number outcome told) ∷ rest → Says (lives n).settings (ledger_of lives n front) d a (Ok i) → a.field ≡ Present key expiration
      → i < length (ledger_of lives n front).calls → (ledger_of lives n front).held i ≡ parked number → list_any (settles number) (deeds_of n (Did n d ∷ between)) ≡ false
      → WasHeld (front ++ Did n d ∷ between) key outcome

  -- Where no engine refuses, of its own, a request that is not over and whose key the store holds: for its target, its arguments, its
  -- client's id or since it has no room.
  abbrev pub RefusesNoneHeld : List Step → Type 0
  RefusesNoneHeld steps = (front rest : List Step) (n : ℕ) (d : Deed) (a : Arrival Wanted) (name : SystemName) (key : RequestKey) (expiration : ℕ)
      → steps ≡ front ++ Did n d ∷ rest → Says (lives n).settings (ledger_of lives n front) d a (Err name) → a.field ≡ Present key expiration
      → a.clock ≤ expiration → held_for key (stored front) ≡ None

  -- .. no refusal of an engine is of a key that the store holds, but BAD_CONTEXT of a request that is over.
  abbrev pub RefusedAreFree : Type 0
  RefusedAreFree = (steps front rest : List Step) (n : ℕ) (d : Deed) (a : Arrival Wanted) (name : SystemName) (key : RequestKey) (expiration : ℕ) → RefusesNoneHeld steps
      → steps ≡ front ++ Did n d ∷ rest → Says (lives n).settings (ledger_of lives n front) d a (Err name) → a.field ≡ Present key expiration
      → ((name ≡ BadContext) × (expiration < a.clock)) ⊎ (held_for key (stored front) ≡ None)

  -- Where a life asks its owner first, it refuses none for its target or its arguments: one that is not over, whose client's id is within
  -- the bound, is refused for want of room alone.
  abbrev pub FirstsLackRoomInLives : Type 0
  FirstsLackRoomInLives = (steps front rest : List Step) (n : ℕ) (d : Deed) (a : Arrival Wanted) (c : Origin) (q : Question) (name : SystemName) (key : RequestKey) (expiration : ℕ)
      → steps ≡ front ++ Did n d ∷ rest → Says (lives n).settings (ledger_of lives n front) d a (Err name) → a.content ≡ asking c q → a.field ≡ Present key expiration → field_of q.contexts ≡ Present key expiration
      → a.clock ≤ expiration → ((lives n).settings.terms c.changes).first ≡ true → is_named_within ((lives n).settings.terms c.changes).longest key.client_id ≡ true → name ≡ NoResources

  -- What an owner tells unkept is what the store held for the key, says COMPLETED_MAYBE, or says COMPLETED_NO of what is over or free.
  abbrev pub UnkeptAreRight : Type 0
  UnkeptAreRight = (steps front rest : List Step) (n : ℕ) (d : Deed) (w : Awaited) (outcome : Performed) (key : RequestKey) (expiration : ℕ) → IsKept steps → IsOwned lives steps
      → steps ≡ front ++ Did n d ∷ rest → unkept_in (ledger_of lives n front) d ≡ Some (w, outcome) → w.field ≡ Present key expiration
      → IsToldRightly (WasHeld front key outcome) steps front n w key expiration outcome

  -- So no owner's refusal is of a key that the store holds, but BAD_CONTEXT of one whose expiration lies before the mark, and one that is
  -- itself the outcome that the store held.
  abbrev pub DeclinedAreFree : Type 0
  DeclinedAreFree = (steps front rest : List Step) (n : ℕ) (d : Deed) (w : Awaited) (name : SystemName) (minor : ℕ) (key : RequestKey) (expiration : ℕ) → IsKept steps → IsOwned lives steps
      → steps ≡ front ++ Did n d ∷ rest → unkept_in (ledger_of lives n front) d ≡ Some (w, not_now name minor) → w.field ≡ Present key expiration
      → WasHeld front key (not_now name minor) ⊎ IsOverOrFree steps front n w key expiration name

  -- A repeat that waits with the request under a number is told so too.
  abbrev pub WaitersAreToldRightly : Type 0
  WaitersAreToldRightly = (steps front between rest : List Step) (n : ℕ) (d : Deed) (a : Arrival Wanted) (i j number : ℕ) (key : RequestKey) (expiration : ℕ) (outcome : Performed) (told : List Told) → AreLives lives steps → IsKept steps → IsOwned lives steps
      → steps ≡ front ++ Did n d ∷ between ++ Did n (SettledUnkept j number outcome told) ∷ rest → Says (lives n).settings (ledger_of lives n front) d a (Ok i) → a.field ≡ Present key expiration
      → i < length (ledger_of lives n front).calls → (ledger_of lives n front).held i ≡ parked number → list_any (settles number) (deeds_of n (Did n d ∷ between)) ≡ false
      → (w : Awaited) × (late : ℕ) × (w.field ≡ Present key late) × IsToldRightly (WasHeld (front ++ Did n d ∷ between) key outcome) steps (front ++ Did n d ∷ between) n w key late outcome
