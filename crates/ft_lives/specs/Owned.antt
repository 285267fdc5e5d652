-- What the owners of the engines keep to, in each life: an outcome is handed in, or told, once the store holds it, and no call is committed
-- that was not asked for.
use Rattle.std.specs.Prelude.{◌≡◌, ◌<◌, ℕ, List, [], ◌∷◌, ◌++◌, Contains, Option, Some, None, ◌⊎◌}
use Rattle.cdr_core.specs.Writing.{octets_of_all}
use Rattle.cdr_core.specs.declared.order.Order.{Order}
use Rattle.ft_log.specs.Keys.{RequestKey}
use Rattle.ft_log.specs.Performed.{Performed, raw, system}
use Rattle.ft_log.specs.declared.outcome.RawStatus.TheVariants.{SystemException}
use Rattle.ft_log.specs.declared.system_exception.Completion.{Completion}
use Rattle.ft_log.specs.declared.system_exception.Completion.TheVariants.{Maybe, No}
use Rattle.ft_log.specs.declared.system_exception.SystemName.{SystemName}
use Rattle.ft_log.specs.declared.system_exception.SystemName.TheVariants.{BadContext}
use Rattle.ft_objects.specs.Replies.{body_of}
use Rattle.ft_orb.specs.declared.events.Note.{Note}
use Rattle.ft_orb.specs.Deeds.{Answered, AnsweredUnkept, Asking, Settled, SettledUnkept, Told}
use Rattle.ft_orb.specs.Engines.{Awaited}
use Rattle.ft_orb.specs.ExactlyOnce.{Present}
use Rattle.ft_lives.specs.Lives.{Did, Life, Step, Stored, ledger_of, requests_of, stored}
use Rattle.ft_lives.specs.Stores.{Ask, Committed, Row, Store, held_for}

-- the request was asked for in these steps, with this key and expiration
pub record WasAsked (steps : List Step) (ask : Ask) (key : RequestKey) (expiration : ℕ) : Type 0 where
  pub request : Awaited
  pub there : Contains (requests_of ask.life steps) request
  pub number : request.number ≡ ask.number
  pub call : request.call ≡ ask.call
  pub field : request.field ≡ Present key expiration

-- the store held this outcome for the key at a point of these steps
pub record WasHeld (steps : List Step) (key : RequestKey) (outcome : Performed) : Type 0 where
  pub before : List Step
  pub after : List Step
  pub point : steps ≡ before ++ after
  pub held : held_for key (stored before) ≡ Some outcome

-- its expiration lay before the mark at a point of these steps
pub record WasOver (steps : List Step) (expiration : ℕ) : Type 0 where
  pub before : List Step
  pub after : List Step
  pub point : steps ≡ before ++ after
  pub over : expiration < (stored before).mark

-- The store held nothing for the key at a point of these steps, at which the request of this number had been asked for in that life.
pub record WasFree (steps : List Step) (life number : ℕ) (key : RequestKey) : Type 0 where
  pub before : List Step
  pub after : List Step
  pub point : steps ≡ before ++ after
  pub request : Awaited
  pub asked : Contains (requests_of life before) request
  pub numbered : request.number ≡ number
  pub free : held_for key (stored before) ≡ None

-- no step commits the call of this request
abbrev pub NeverCommits : List Step → (life number : ℕ) → Type 0
NeverCommits steps life number = (ask : Ask) (row : Row) → Contains steps (Stored (Committed ask row)) → ask.life ≡ life → ask.number ≡ number → ⊥

-- A request is declined, of which nothing is committed, before or after: by BAD_CONTEXT, since its expiration lay before the mark; or
-- since the store held nothing for it when that was looked up.
abbrev pub MayDecline : (all front : List Step) → (life : ℕ) → Awaited → RequestKey → (expiration : ℕ) → SystemName → Type 0
MayDecline all front life w key expiration name = (((name ≡ BadContext) × WasOver front expiration) ⊎ WasFree front life w.number key) × NeverCommits all life w.number

-- a system exception, of values, or of octets in either byte order
abbrev pub IsException : SystemName → (minor : ℕ) → Completion → Performed → Type 0
IsException name minor completion outcome = (outcome ≡ system name minor completion) ⊎ ((order : Order) × (outcome ≡ raw SystemException order (octets_of_all order (body_of (system name minor completion)) 24)))

-- one with COMPLETED_MAYBE, which is true whatever the store holds
abbrev pub IsMaybe : Performed → Type 0
IsMaybe outcome = (name : SystemName) × (minor : ℕ) × IsException name minor Maybe outcome

-- What an owner may tell of a request of which its engine keeps nothing: what the store held for its key; COMPLETED_MAYBE; or
-- COMPLETED_NO, where it may decline.
abbrev pub MayTell : (all front : List Step) → (life : ℕ) → Awaited → RequestKey → (expiration : ℕ) → Performed → Type 0
MayTell all front life w key expiration outcome = WasHeld front key outcome ⊎ (IsMaybe outcome ⊎ ((name : SystemName) × (minor : ℕ) × IsException name minor No outcome × MayDecline all front life w key expiration name))

module _ (lives : ℕ → Life) where
  -- The owners' rules, over all steps: at each of them, `front` is what came before.
  pub record IsOwned (steps : List Step) : Type 0 where
    -- what is committed was asked for before, in a life that may have ended since
    pub asked : (front rest : List Step) (ask : Ask) (row : Row) → steps ≡ front ++ Stored (Committed ask row) ∷ rest → WasAsked front ask row.key row.expiration
    -- what is answered, at once or later, is what the store held
    pub answered : (front rest : List Step) (n : ℕ) (a : Asking) (outcome : Performed) (written : List ℕ) (note : Note) (key : RequestKey) (expiration : ℕ) → steps ≡ front ++ Did n (Answered a outcome written note) ∷ rest
        → a.request.field ≡ Present key expiration → WasHeld front key outcome
    pub settled : (front rest : List Step) (n i number : ℕ) (outcome : Performed) (told : List Told) (w : Awaited) (key : RequestKey) (expiration : ℕ) → steps ≡ front ++ Did n (Settled i number outcome told) ∷ rest
        → (ledger_of lives n front).there number ≡ Some w → w.field ≡ Present key expiration → WasHeld front key outcome
    -- and what is told unkept is that, or a refusal that is true
    pub answered_unkept : (front rest : List Step) (n : ℕ) (a : Asking) (outcome : Performed) (written : List ℕ) (key : RequestKey) (expiration : ℕ) → steps ≡ front ++ Did n (AnsweredUnkept a outcome written) ∷ rest
        → a.request.field ≡ Present key expiration → MayTell steps front n a.request key expiration outcome
    pub settled_unkept : (front rest : List Step) (n i number : ℕ) (outcome : Performed) (told : List Told) (w : Awaited) (key : RequestKey) (expiration : ℕ) → steps ≡ front ++ Did n (SettledUnkept i number outcome told) ∷ rest
        → (ledger_of lives n front).there number ≡ Some w → w.field ≡ Present key expiration → MayTell steps front n w key expiration outcome
