-- The law over lives, in one.
use Rattle.std.proofs.Common.{◌≡◌, ℕ}
use Rattle.giop_link.specs.Hearing.{meaning_in}
use Rattle.giop_link.specs.Laws.{HearingGrows}
use Rattle.ft_orb.specs.Deeds.{Answered, AnsweredUnkept, Settled, SettledUnkept}
use Rattle.std.specs.Prelude.{List, ◌∷◌, ◌++◌}
use Rattle.ft_lives.specs.Laws.{IsTheOutcome}
use Rattle.ft_lives.specs.Lives.{Did, Life, Step}
use Rattle.ft_lives.specs.Together.{ActsOnce, LivesActOnce}
use Rattle.ft_lives.proofs.Committed.{commits-were-admitted, held-is-committed, key-commits-once}
use Rattle.ft_lives.proofs.Repeated.{repeats-are-held, told-are-held, told-rightly, waiter-told}

pub lives-act-once : (lives : ℕ → Life) → HearingGrows meaning_in → LivesActOnce lives
lives-act-once lives grow steps key runs kept owned one = record {
  once = λ front between rest p q early late is is_early is_late. key-commits-once lives steps front between rest p q early late key kept owned one is is_early is_late;
  admitted = λ front rest ask row is is_key. commits-were-admitted lives steps front rest ask row runs owned is;
  answered = λ front rest n a outcome written note expiration is field.
      held-is-committed lives steps front (Did n (Answered a outcome written note) ∷ rest) key outcome kept owned one is (owned.answered front rest n a outcome written note key expiration is field);
  settled = λ front rest n i number outcome told w expiration is there field.
      held-is-committed lives steps front (Did n (Settled i number outcome told) ∷ rest) key outcome kept owned one is (owned.settled front rest n i number outcome told w key expiration is there field);
  repeated = λ front rest n d a i expiration outcome is said field less now.
      held-is-committed lives steps front (Did n d ∷ rest) key outcome kept owned one is (repeats-are-held lives grow steps front rest n d a i key expiration outcome runs owned is said field less now);
  told = λ front between rest n d a i j number expiration outcome told is said field less now other.
      held-is-committed lives steps (front ++ Did n d ∷ between) (Did n (Settled j number outcome told) ∷ rest) key outcome kept owned one is
      (told-are-held lives grow steps front between rest n d a i j number key expiration outcome told runs owned is said field less now other);
  answered_unkept = λ front rest n a outcome written expiration is field.
      let x = Did n (AnsweredUnkept a outcome written) in
      told-rightly lives (IsTheOutcome steps key outcome) steps front (x ∷ rest) n a.request key expiration outcome kept is (λ was. held-is-committed lives steps front (x ∷ rest) key outcome kept owned one is was)
      (owned.answered_unkept front rest n a outcome written key expiration is field);
  settled_unkept = λ front rest n i number outcome told w expiration is there field.
      let x = Did n (SettledUnkept i number outcome told) in
      told-rightly lives (IsTheOutcome steps key outcome) steps front (x ∷ rest) n w key expiration outcome kept is (λ was. held-is-committed lives steps front (x ∷ rest) key outcome kept owned one is was)
      (owned.settled_unkept front rest n i number outcome told w key expiration is there field);
  told_unkept = λ front between rest n d a i j number expiration outcome told is said field less now other.
      waiter-told lives grow (IsTheOutcome steps key outcome) steps front between rest n d a i j number key expiration outcome told runs kept owned
      (λ was. held-is-committed lives steps (front ++ Did n d ∷ between) (Did n (SettledUnkept j number outcome told) ∷ rest) key outcome kept owned one is was) is said field less now other;
}
