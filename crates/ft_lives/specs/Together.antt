-- The law over lives, in one: what holds of a key whose requests carry one expiration in all lives.
use Rattle.std.specs.Prelude.{◌≡◌, ◌<◌, ℕ, false, List, ◌∷◌, ◌++◌, length, Some, Ok}
use Rattle.std.specs.List.{list_any}
use Rattle.ft_log.specs.Holding.{known, parked}
use Rattle.ft_log.specs.Keys.{RequestKey}
use Rattle.ft_log.specs.Performed.{Performed}
use Rattle.ft_orb.specs.declared.events.Note.{Note}
use Rattle.ft_orb.specs.Deeds.{Answered, AnsweredUnkept, Asking, Deed, Settled, SettledUnkept, Told, settles}
use Rattle.ft_orb.specs.Engines.{Awaited}
use Rattle.ft_orb.specs.ExactlyOnce.{Arrival, Present}
use Rattle.ft_orb.specs.Requests.{Wanted}
use Rattle.ft_lives.specs.Laws.{IsAdmitted, IsTheOutcome}
use Rattle.ft_lives.specs.Lives.{AreLives, Did, IsKept, Life, OneExpirationOf, Step, Stored, deeds_of, ledger_of}
use Rattle.ft_lives.specs.Owned.{IsOwned}
use Rattle.ft_lives.specs.Replies.{IsToldRightly, Says}
use Rattle.ft_lives.specs.Stores.{Ask, Committed, Row}

module _ (lives : ℕ → Life) where
  pub record ActsOnce (steps : List Step) (key : RequestKey) : Type 0 where
    -- no two commits have it
    pub once : (front between rest : List Step) (p q : Ask) (early late : Row) → steps ≡ front ++ Stored (Committed p early) ∷ between ++ Stored (Committed q late) ∷ rest → early.key ≡ key → late.key ≡ key → ⊥
    -- what is committed was asked for before, by an arrival of its life that was not over
    pub admitted : (front rest : List Step) (ask : Ask) (row : Row) → steps ≡ front ++ Stored (Committed ask row) ∷ rest → row.key ≡ key → IsAdmitted lives front ask row
    -- each outcome that a life gives is that of the one commit: at once ..
    pub answered : (front rest : List Step) (n : ℕ) (a : Asking) (outcome : Performed) (written : List ℕ) (note : Note) (expiration : ℕ) → steps ≡ front ++ Did n (Answered a outcome written note) ∷ rest
        → a.request.field ≡ Present key expiration → IsTheOutcome steps key outcome
    -- .. later ..
    pub settled : (front rest : List Step) (n i number : ℕ) (outcome : Performed) (told : List Told) (w : Awaited) (expiration : ℕ) → steps ≡ front ++ Did n (Settled i number outcome told) ∷ rest
        → (ledger_of lives n front).there number ≡ Some w → w.field ≡ Present key expiration → IsTheOutcome steps key outcome
    -- .. again, from its log ..
    pub repeated : (front rest : List Step) (n : ℕ) (d : Deed) (a : Arrival Wanted) (i expiration : ℕ) (outcome : Performed) → steps ≡ front ++ Did n d ∷ rest → Says (lives n).settings (ledger_of lives n front) d a (Ok i)
        → a.field ≡ Present key expiration → i < length (ledger_of lives n front).calls → (ledger_of lives n front).held i ≡ known outcome → IsTheOutcome steps key outcome
    -- .. or to a repeat that waited till it was settled
    pub told : (front between rest : List Step) (n : ℕ) (d : Deed) (a : Arrival Wanted) (i j number expiration : ℕ) (outcome : Performed) (told : List Told)
        → steps ≡ front ++ Did n d ∷ between ++ Did n (Settled j number outcome told) ∷ rest → Says (lives n).settings (ledger_of lives n front) d a (Ok i) → a.field ≡ Present key expiration
        → i < length (ledger_of lives n front).calls → (ledger_of lives n front).held i ≡ parked number → list_any (settles number) (deeds_of n (Did n d ∷ between)) ≡ false → IsTheOutcome steps key outcome
    -- What a life tells and does not keep is that too, or refuses rightly: at once ..
    pub answered_unkept : (front rest : List Step) (n : ℕ) (a : Asking) (outcome : Performed) (written : List ℕ) (expiration : ℕ) → steps ≡ front ++ Did n (AnsweredUnkept a outcome written) ∷ rest
        → a.request.field ≡ Present key expiration → IsToldRightly (IsTheOutcome steps key outcome) steps front n a.request key expiration outcome
    -- .. later ..
    pub settled_unkept : (front rest : List Step) (n i number : ℕ) (outcome : Performed) (told : List Told) (w : Awaited) (expiration : ℕ) → steps ≡ front ++ Did n (SettledUnkept i number outcome told) ∷ rest
        → (ledger_of lives n front).there number ≡ Some w → w.field ≡ Present key expiration → IsToldRightly (IsTheOutcome steps key outcome) steps front n w key expiration outcome
    -- .. or to a repeat that waited
    pub told_unkept : (front between rest : List Step) (n : ℕ) (d : Deed) (a : Arrival Wanted) (i j number expiration : ℕ) (outcome : Performed) (told : List Told)
        → steps ≡ front ++ Did n d ∷ between ++ Did n (SettledUnkept j number outcome told) ∷ rest → Says (lives n).settings (ledger_of lives n front) d a (Ok i) → a.field ≡ Present key expiration
        → i < length (ledger_of lives n front).calls → (ledger_of lives n front).held i ≡ parked number → list_any (settles number) (deeds_of n (Did n d ∷ between)) ≡ false
        → (w : Awaited) × (late : ℕ) × (w.field ≡ Present key late) × IsToldRightly (IsTheOutcome steps key outcome) steps (front ++ Did n d ∷ between) n w key late outcome

  abbrev pub LivesActOnce : Type 0
  LivesActOnce = (steps : List Step) (key : RequestKey) → AreLives lives steps → IsKept steps → IsOwned lives steps → OneExpirationOf key steps → ActsOnce steps key
