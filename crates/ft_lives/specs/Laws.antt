-- What holds of lives over one store, each over the definitions alone. No clock is compared with another.
use Rattle.std.specs.Prelude.{◌≡◌, ◌<◌, ◌≤◌, ℕ, List, [], ◌∷◌, ◌++◌, Contains, Ok}
use Rattle.giop_link.specs.Hearing.{Question}
use Rattle.ft_log.specs.Keys.{RequestKey}
use Rattle.ft_log.specs.Performed.{Performed}
use Rattle.ft_orb.specs.Deeds.{Deed, Part, Stopped, after_deeds, opening, part_of}
use Rattle.ft_orb.specs.Engines.{Awaited}
use Rattle.ft_orb.specs.ExactlyOnce.{Arrival, Present}
use Rattle.ft_orb.specs.History.{completed}
use Rattle.ft_orb.specs.Requests.{Wanted, asked_at, refusal_at}
use Rattle.ft_lives.specs.Lives.{AreLives, IsKept, Life, OneExpirationOf, Step, Stored, deeds_of}
use Rattle.ft_lives.specs.Owned.{IsOwned, WasHeld}
use Rattle.ft_lives.specs.Stores.{Ask, Committed, Row}

-- Of two commits with one key the first was held no longer when the other took place, and its expiration is the lesser: nothing is asked of
-- the key.
abbrev pub CommitsComeLater : Type 0
CommitsComeLater = (steps front between rest : List Step) (p q : Ask) (early late : Row) → IsKept steps
    → steps ≡ front ++ Stored (Committed p early) ∷ between ++ Stored (Committed q late) ∷ rest → early.key ≡ late.key → early.expiration < late.expiration

-- The outcome is that of the one commit of the key.
pub record IsTheOutcome (steps : List Step) (key : RequestKey) (outcome : Performed) : Type 0 where
  pub front : List Step
  pub rest : List Step
  pub ask : Ask
  pub row : Row
  pub committed : steps ≡ front ++ Stored (Committed ask row) ∷ rest
  pub key_is : row.key ≡ key
  pub outcome_is : row.outcome ≡ outcome
  pub only : (other : Ask) (more : Row) → Contains (front ++ rest) (Stored (Committed other more)) → more.key ≡ key → ⊥

module _ (lives : ℕ → Life) where
  -- Where the requests with a key carry one expiration, in all lives, no two commits have it, ..
  abbrev pub KeyCommitsOnce : Type 0
  KeyCommitsOnce = (steps front between rest : List Step) (p q : Ask) (early late : Row) (key : RequestKey) → IsKept steps → IsOwned lives steps → OneExpirationOf key steps
      → steps ≡ front ++ Stored (Committed p early) ∷ between ++ Stored (Committed q late) ∷ rest → early.key ≡ key → late.key ≡ key → ⊥

  -- .. and what the store held for it at any point is the outcome of the one commit.
  abbrev pub HeldIsCommitted : Type 0
  HeldIsCommitted = (steps front rest : List Step) (key : RequestKey) (outcome : Performed) → IsKept steps → IsOwned lives steps → OneExpirationOf key steps
      → steps ≡ front ++ rest → WasHeld front key outcome → IsTheOutcome steps key outcome

  -- Each commit is of a call that an arrival of its life asked for before, with its key and its expiration, which was not over then.
  pub record IsAdmitted (before : List Step) (ask : Ask) (row : Row) : Type 0 where
    pub early : List Deed
    pub late : List Deed
    pub part : Part
    pub written : List ℕ
    pub request : Awaited
    pub question : Question
    pub there : deeds_of ask.life before ≡ early ++ Stopped part written request question ∷ late
    pub number : request.number ≡ ask.number
    pub call : request.call ≡ ask.call
    pub arrival : Arrival Wanted
    pub arrived : Contains (completed (lives ask.life).settings.limits (after_deeds (lives ask.life).settings (opening (lives ask.life).held) early).past (part_of part)) arrival
    pub field : arrival.field ≡ Present row.key row.expiration
    pub asks : asked_at (lives ask.life).settings.terms arrival.content ≡ Ok ask.call
    pub would : request.refused ≡ refusal_at (lives ask.life).settings.terms arrival.content
    pub in_time : arrival.clock ≤ row.expiration

  abbrev pub CommitsWereAdmitted : Type 0
  CommitsWereAdmitted = (steps front rest : List Step) (ask : Ask) (row : Row) → AreLives lives steps → IsOwned lives steps → steps ≡ front ++ Stored (Committed ask row) ∷ rest → IsAdmitted front ask row
