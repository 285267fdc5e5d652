-- Changes of a store, one after another, and what came of a request by then.
use Rattle.std.proofs.Common.{◌≡◌, ℕ, zero, suc, ◌<◌, ◌≤◌, Bool, true, false, cond, nat_le, ◌⊎◌, inl, inr, List, [], ◌∷◌, ◌++◌, map, Option, Some, None, Contains, refl, sym, ap, subst, ◌∙◌, arith, append_assoc}
use Rattle.std.proofs.lemmas.Bool.{le-leb}
use Rattle.std.proofs.lemmas.List.{append-nil}
use Rattle.std.proofs.lemmas.List.Elements.{Contains-append_cases, Contains-append_left, Contains-append_right, Contains-push, Contains-push_cases}
use Rattle.ft_log.specs.Keys.{RequestKey, same_key}
use Rattle.ft_log.specs.Kept.{KeptOutcome, kept_for, unexpired}
use Rattle.ft_log.specs.Performed.{Performed}
use Rattle.ft_log.specs.View.{performed_in}
use Rattle.ft_log.specs.declared.outcome.Outcome.{Outcome}
use Rattle.ft_orb.specs.Requests.{Call}
use Rattle.ft_orb.specs.declared.asked.Asked.{Asked}
use Rattle.ft_lives.specs.Lives.{Stored}
use Rattle.ft_lives.specs.Private.{IsSoFar}
use Rattle.ft_lives.specs.Serial.{IsSerial}
use Rattle.ft_lives.specs.declared.once.Verdict.{Verdict}
use Rattle.ft_lives.specs.declared.once.Verdict.TheVariants as verdict
use Rattle.ft_lives.specs.declared.store.Commit.{Commit}
use Rattle.ft_lives.specs.Steps.{AreAllowed, AreOthers, Doubt, IsCommit, IsDone, IsDoubtful, IsFreed, IsOnce, IsOwn, Passes, Shown, Waits, ask_of, now_holds, then_holds}
use Rattle.ft_lives.specs.Stores.{Allows, Ask, Change, Committed, Other, Purged, Row, Store, held_for}
use Rattle.ft_lives.proofs.Lists.{same_key-self}

pub then-append : (s : Store) (xs ys : List Change) → then_holds s (xs ++ ys) ≡ then_holds (then_holds s xs) ys
then-append s [] ys = refl
then-append s (c ∷ xs) ys = then-append (now_holds s c) xs ys

allowed-append : (s : Store) (xs ys : List Change) → AreAllowed s xs → AreAllowed (then_holds s xs) ys → AreAllowed s (xs ++ ys)
allowed-append s [] ys a b = b
allowed-append s (c ∷ xs) ys a b = (a.0, allowed-append (now_holds s c) xs ys a.1 b)

allowed-back : (s : Store) (xs ys : List Change) → AreAllowed s (xs ++ ys) → AreAllowed (then_holds s xs) ys
allowed-back s [] ys a = a
allowed-back s (c ∷ xs) ys a = allowed-back (now_holds s c) xs ys a.1

others-append : (life : ℕ) (doubts : List Doubt) (xs ys : List Change) → AreOthers life doubts xs → AreOthers life doubts ys → AreOthers life doubts (xs ++ ys)
others-append life doubts xs ys a b ask row there own = elim (Contains-append_cases xs ys (Committed ask row) there) [ inl h ↦ a ask row h own | inr h ↦ b ask row h own ]

others-more : (life : ℕ) (few more : List Doubt) (xs : List Change) → ((x : Doubt) → Contains few x → Contains more x) → AreOthers life few xs → AreOthers life more xs
others-more life few more xs f a ask row there own = f (record { ask = ask; key = row.key; expiration = row.expiration }) (a ask row there own)

-- a row that was just committed is held
held-new : (rows : List Row) (mark : ℕ) (row : Row) → kept_for row.key (unexpired mark rows) ≡ None → mark ≤ row.expiration → kept_for row.key (unexpired mark (rows ++ row ∷ [])) ≡ Some row.outcome
held-new [] mark row none within =
    (λ i. kept_for row.key (cond (le-leb mark row.expiration within i) (row ∷ []) [])) ∙ ap (λ (b : Bool). cond b (Some row.outcome) None) (same_key-self row.key)
held-new (y ∷ ys) mark row none within =
    let U = unexpired mark ys in
    let V = unexpired mark (ys ++ row ∷ []) in
    elim (nat_le mark y.expiration) as (λ b. kept_for row.key (cond b (y ∷ U) U) ≡ None → kept_for row.key (cond b (y ∷ V) V) ≡ Some row.outcome) [
      | true ↦ λ none.
          elim (same_key row.key y.key) as (λ c. cond c (Some y.outcome) (kept_for row.key U) ≡ None → cond c (Some y.outcome) (kept_for row.key V) ≡ Some row.outcome)
          [ true ↦ λ none. absurd cc | false ↦ λ none. held-new ys mark row none within ] none
      | false ↦ λ none. held-new ys mark row none within
    ] none

-- what commits a request is of it
pub own-commit : (life : ℕ) (d : Doubt) (doubts : List Doubt) (outcome : Performed) → AreOthers life (d ∷ doubts) (Committed d.ask (record { key = d.key; expiration = d.expiration; outcome = outcome }) ∷ [])
own-commit life d doubts outcome ask r there is =
    let row : Row = record { key = d.key; expiration = d.expiration; outcome = outcome } in
    elim (Contains-push_cases [] (Committed d.ask row) (Committed ask r) there) [
      | inl h ↦ absurd (omega (arith, h.1))
      | inr same ↦
          let asks : d.ask ≡ ask = cc in
          let rows : row ≡ r = cc in
          subst (λ (x : Doubt). Contains (d ∷ doubts) x) (λ i. record { ask = asks i; key = (rows i).key; expiration = (rows i).expiration }) (Contains-append_left (d ∷ []) doubts d (Contains-push [] d))
    ]

module _ {State : Type 0} (apply : State → Call → State × Performed) where
  serial-append : (state mid last : State) (xs ys : List Change) → IsSerial apply state (map (λ c. Stored c) xs) mid → IsSerial apply mid (map (λ c. Stored c) ys) last → IsSerial apply state (map (λ c. Stored c) (xs ++ ys)) last
  serial-append state mid last [] ys a b = subst (λ (s : State). IsSerial apply s (map (λ c. Stored c) ys) last) (sym a) b
  serial-append state mid last (Committed ask row ∷ xs) ys a b = (a.0, serial-append (apply state ask.call).0 mid last xs ys a.1 b)
  serial-append state mid last (Purged mark ∷ xs) ys a b = serial-append state mid last xs ys a b
  serial-append state mid last (Other ∷ xs) ys a b = (a.0, serial-append a.0 mid last xs ys a.1 b)

  pub passes-append : (old mid new : Shown State) (xs ys : List Change) → Passes apply old xs mid → Passes apply mid ys new → Passes apply old (xs ++ ys) new
  passes-append old mid new xs ys a b = record {
    allowed = allowed-append old.store xs ys a.allowed (subst (λ (s : Store). AreAllowed s ys) a.store b.allowed);
    store = b.store ∙ ap (λ (s : Store). then_holds s ys) a.store ∙ sym (then-append old.store xs ys);
    state = serial-append old.state mid.state new.state xs ys a.state b.state;
  }

  pub passes-nothing : (s : Shown State) → Passes apply s [] s
  passes-nothing s = record { allowed = tt; store = refl; state = refl }

  waits-nothing : (life : ℕ) (s : Shown State) → Waits apply life s s
  waits-nothing life s = record { changes = []; passes = passes-nothing s; others = λ ask row there own. absurd (omega (arith, there.1)); doubts = refl }

  module _ (life : ℕ) (d : Doubt) where
    in-more : (doubts : List Doubt) (x : Doubt) → Contains doubts x → Contains (d ∷ doubts) x
    in-more doubts x there = Contains-append_right (d ∷ []) doubts x there

    pub far-begun : (s : Shown State) → IsSoFar apply life d false s s
    far-begun s = record {
      changes = [];
      passes = passes-nothing s;
      own = λ ask row there own. absurd (omega (arith, there.1));
      doubts = λ x there. in-more s.doubts x there;
      clear = λ no. (λ ask row there own. absurd (omega (arith, there.1)), refl);
    }

    -- others change what they like
    pub far-waits : (doubtful : Bool) (old mid new : Shown State) → IsSoFar apply life d doubtful old mid → Waits apply life mid new → IsSoFar apply life d doubtful old new
    far-waits doubtful old mid new a w = record {
      changes = a.changes ++ w.changes;
      passes = passes-append old mid new a.changes w.changes a.passes w.passes;
      own = others-append life (d ∷ old.doubts) a.changes w.changes a.own (others-more life mid.doubts (d ∷ old.doubts) w.changes a.doubts w.others);
      doubts = λ x there. a.doubts x (subst (λ (l : List Doubt). Contains l x) w.doubts there);
      clear = λ no.
          let c = a.clear no in
          (others-append life old.doubts a.changes w.changes c.0 (subst (λ (l : List Doubt). AreOthers life l w.changes) c.1 w.others), w.doubts ∙ c.1);
    }

    -- a transaction of it comes into doubt
    pub far-doubtful : (doubtful : Bool) (old mid new : Shown State) → IsSoFar apply life d doubtful old mid → IsDoubtful apply life d mid new → IsSoFar apply life d true old new
    far-doubtful doubtful old mid new a w =
        let more : (x : Doubt) → Contains (d ∷ mid.doubts) x → Contains (d ∷ old.doubts) x = λ x there.
        elim (Contains-append_cases (d ∷ []) mid.doubts x there) [
          | inl h ↦ Contains-append_left (d ∷ []) old.doubts x h
          | inr h ↦ a.doubts x h
        ] in
        record {
          changes = a.changes ++ w.changes;
          passes = passes-append old mid new a.changes w.changes a.passes w.passes;
          own = others-append life (d ∷ old.doubts) a.changes w.changes a.own (others-more life (d ∷ mid.doubts) (d ∷ old.doubts) w.changes more w.others);
          doubts = λ x there.
              elim w.doubts [
                | inl same ↦ a.doubts x (subst (λ (l : List Doubt). Contains l x) same there)
                | inr same ↦ more x (subst (λ (l : List Doubt). Contains l x) same there)
              ];
          clear = λ no. absurd cc;
        }

    pub far-own : (doubtful : Bool) (old new : Shown State) (a : IsSoFar apply life d doubtful old new) → IsOwn apply life d old a.changes new
    far-own doubtful old new a = record { passes = a.passes; own = a.own }

    -- it comes true, and is held then
    pub far-done : (doubtful : Bool) (old mid new : Shown State) (outcome : Performed) → IsSoFar apply life d doubtful old mid → IsDone apply life d outcome mid new
        → (changes : List Change) × IsOwn apply life d old changes new × (held_for d.key new.store ≡ Some outcome)
    far-done doubtful old mid new outcome a w =
        let row : Row = record { key = d.key; expiration = d.expiration; outcome = outcome } in
        let last = Committed d.ask row ∷ [] in
        let own : AreOthers life (d ∷ old.doubts) last = own-commit life d old.doubts outcome in
        let was = then_holds mid.store w.changes in
        let allowed = (allowed-back mid.store w.changes last w.passes.allowed).0 in
        let now : new.store ≡ record { rows = was.rows ++ row ∷ []; mark = was.mark } = w.passes.store ∙ then-append mid.store w.changes last in
        let more = others-append life (d ∷ old.doubts) w.changes last (others-more life mid.doubts (d ∷ old.doubts) w.changes a.doubts w.others) own in (
          a.changes ++ (w.changes ++ last),
          record {
            passes = passes-append old mid new a.changes (w.changes ++ last) a.passes w.passes;
            own = others-append life (d ∷ old.doubts) a.changes (w.changes ++ last) a.own more;
          },
          ap (λ (s : Store). held_for d.key s) now ∙ held-new was.rows was.mark row allowed.0 allowed.1,
        )

    -- it was free, and its transaction failed
    pub far-freed : (old was mid new : Shown State) → IsSoFar apply life d false old was → Waits apply life was mid → held_for d.key mid.store ≡ None → Waits apply life mid new → IsFreed apply life d old new
    far-freed old was mid new a v free w =
        let b = far-waits false old was mid a v in
        let c = b.clear refl in
        record {
          early = b.changes;
          late = w.changes;
          mid = mid;
          before = b.passes;
          after = w.passes;
          free = free;
          others = others-append life old.doubts b.changes w.changes c.0 (subst (λ (l : List Doubt). AreOthers life l w.changes) c.1 w.others);
          doubts = w.doubts ∙ c.1;
        }

    -- What is told, and what is left to try.

    pub told-over : (doubtful : Bool) (old was mid : Shown State) → doubtful ≡ false → IsSoFar apply life d doubtful old was → Waits apply life was mid → d.expiration < mid.store.mark → IsOnce apply life d old verdict.Over mid
    told-over doubtful old was mid sure a w over =
        let b = far-waits doubtful old was mid a w in
        let c = b.clear sure in
        (record { changes = b.changes; passes = b.passes; others = c.0; doubts = c.1 }, over)

    pub told-held : (doubtful : Bool) (old was mid : Shown State) (outcome : Outcome) → IsSoFar apply life d doubtful old was → Waits apply life was mid → held_for d.key mid.store ≡ Some (performed_in outcome)
        → IsOnce apply life d old (verdict.Answer outcome) mid
    told-held doubtful old was mid outcome a w held = let b = far-waits doubtful old was mid a w in (b.changes, far-own doubtful old mid b, held)

    pub told-done : (doubtful : Bool) (old was mid new : Shown State) (outcome : Outcome) → IsSoFar apply life d doubtful old was → Waits apply life was mid → IsDone apply life d (performed_in outcome) mid new
        → IsOnce apply life d old (verdict.Answer outcome) new
    told-done doubtful old was mid new outcome a w done = far-done doubtful old mid new (performed_in outcome) (far-waits doubtful old was mid a w) done

    pub told-failed : (doubtful : Bool) (old was mid new : Shown State) → doubtful ≡ false → IsSoFar apply life d doubtful old was → Waits apply life was mid → held_for d.key mid.store ≡ None → Waits apply life mid new
        → IsOnce apply life d old verdict.Decline new
    told-failed doubtful old was mid new sure a v free w = far-freed old was mid new (subst (λ (b : Bool). IsSoFar apply life d b old was) sure a) v free w

    -- it was free, and nothing was tried
    pub told-free : (old was mid : Shown State) → IsSoFar apply life d false old was → Waits apply life was mid → held_for d.key mid.store ≡ None → IsOnce apply life d old verdict.Decline mid
    told-free old was mid a w free = far-freed old was mid mid a w free (waits-nothing life mid)

    pub again-waits : (doubtful : Bool) (old was mid new : Shown State) → IsSoFar apply life d doubtful old was → Waits apply life was mid → Waits apply life mid new → IsSoFar apply life d doubtful old new
    again-waits doubtful old was mid new a v w = far-waits doubtful old mid new (far-waits doubtful old was mid a v) w

    pub again-doubtful : (doubtful : Bool) (old was mid new : Shown State) → IsSoFar apply life d doubtful old was → Waits apply life was mid → IsDoubtful apply life d mid new → IsSoFar apply life d true old new
    again-doubtful doubtful old was mid new a v w = far-doubtful doubtful old mid new (far-waits doubtful old was mid a v) w

    pub again-sure : (was now : Bool) (old new : Shown State) → was ≡ now → IsSoFar apply life d was old new → IsSoFar apply life d now old new
    again-sure was now old new same a = subst (λ (b : Bool). IsSoFar apply life d b old new) same a

    pub told-unknown : (doubtful : Bool) (old new : Shown State) → IsSoFar apply life d doubtful old new → IsOnce apply life d old verdict.Unknown new
    told-unknown doubtful old new a = (a.changes, far-own doubtful old new a)

  -- what a commit says, for the life as it was before the look-up
  pub commit-along : (life now : ℕ) (asked : Asked) (key : RequestKey) (expiration : ℕ) (old new : Shown State) (c : Commit) → now ≡ life
      → IsCommit apply now (record { ask = ask_of now asked; key = key; expiration = expiration }) old c new → IsCommit apply life (record { ask = ask_of life asked; key = key; expiration = expiration }) old c new
  commit-along life now asked key expiration old new c same h = subst (λ (n : ℕ). IsCommit apply n (record { ask = ask_of n asked; key = key; expiration = expiration }) old c new) same h

  -- .. and a look-up
  pub waits-along : (life now : ℕ) (old new : Shown State) → now ≡ life → Waits apply now old new → Waits apply life old new
  waits-along life now old new same h = subst (λ (n : ℕ). Waits apply n old new) same h

  -- .. and a try
  pub again-along : (life now : ℕ) (asked : Asked) (key : RequestKey) (expiration : ℕ) (before after : Bool) (old was new : Shown State) → now ≡ life
      → ((old : Shown State) → IsSoFar apply now (record { ask = ask_of now asked; key = key; expiration = expiration }) before old was → IsSoFar apply now (record { ask = ask_of now asked; key = key; expiration = expiration }) after old new)
      → IsSoFar apply life (record { ask = ask_of life asked; key = key; expiration = expiration }) before old was → IsSoFar apply life (record { ask = ask_of life asked; key = key; expiration = expiration }) after old new
  again-along life now asked key expiration before after old was new same h a =
      subst (λ (n : ℕ). IsSoFar apply n (record { ask = ask_of n asked; key = key; expiration = expiration }) after old new) same
      (h old (subst (λ (n : ℕ). IsSoFar apply n (record { ask = ask_of n asked; key = key; expiration = expiration }) before old was) (sym same) a))

  pub told-along : (life now : ℕ) (asked : Asked) (key : RequestKey) (expiration : ℕ) (before : Bool) (v : Verdict) (old was new : Shown State) → now ≡ life
      → ((old : Shown State) → IsSoFar apply now (record { ask = ask_of now asked; key = key; expiration = expiration }) before old was → IsOnce apply now (record { ask = ask_of now asked; key = key; expiration = expiration }) old v new)
      → IsSoFar apply life (record { ask = ask_of life asked; key = key; expiration = expiration }) before old was → IsOnce apply life (record { ask = ask_of life asked; key = key; expiration = expiration }) old v new
  told-along life now asked key expiration before v old was new same h a =
      subst (λ (n : ℕ). IsOnce apply n (record { ask = ask_of n asked; key = key; expiration = expiration }) old v new) same
      (h old (subst (λ (n : ℕ). IsSoFar apply n (record { ask = ask_of n asked; key = key; expiration = expiration }) before old was) (sym same) a))
