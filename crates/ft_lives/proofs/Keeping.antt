-- What the owner's steps come to among the steps of all lives.
use Rattle.std.proofs.Common.{◌≡◌, ℕ, ◌<◌, ◌≤◌, Bool, true, false, cond, nat_le, List, [], ◌∷◌, ◌++◌, map, Option, Some, None, Contains, refl, sym, ap, subst, ◌∙◌, arith, append_assoc}
use Rattle.std.proofs.lemmas.Bool.{leb-false, lt-leb}
use Rattle.std.proofs.lemmas.List.{append-nil}
use Rattle.std.proofs.lemmas.List.Elements.{Contains-append_left, Contains-append_right, filter-append}
use Rattle.ft_log.specs.Keys.{RequestKey}
use Rattle.ft_log.specs.Kept.{KeptOutcome, kept_for, unexpired}
use Rattle.ft_log.specs.Performed.{Performed}
use Rattle.ft_log.specs.View.{performed_in}
use Rattle.ft_orb.specs.Engines.{Awaited}
use Rattle.ft_orb.specs.Requests.{Call}
use Rattle.ft_lives.specs.declared.once.Verdict.{Verdict}
use Rattle.ft_lives.specs.declared.once.Verdict.TheVariants as verdict
use Rattle.ft_lives.specs.Keeping.{IsLike, Keeps, OnceIsOwned, StoresMayForget, with_changes}
use Rattle.ft_lives.specs.Lives.{Step, Stored, requests_of, stored, stored_after}
use Rattle.ft_lives.specs.Owned.{WasFree, WasHeld, WasOver}
use Rattle.ft_lives.specs.Steps.{AreAllowed, AreOthers, Doubt, IsFreed, IsOnce, IsOwn, Passes, Shown, now_holds, then_holds}
use Rattle.ft_lives.specs.Stores.{Allows, Ask, Change, Committed, Other, Purged, Row, Store, changed, empty_store, held_for}
use Rattle.ft_lives.proofs.Kept.{asked-later, stored-append}
use Rattle.ft_lives.proofs.Tried.{passes-append, then-append}

-- forgetting at an earlier mark changes nothing of forgetting at a later one
pub unexpired-twice : (w later : ℕ) (rows : List Row) → w ≤ later → unexpired later (unexpired w rows) ≡ unexpired later rows
unexpired-twice w later [] h = refl
unexpired-twice w later (y ∷ ys) h =
    let rest = unexpired-twice w later ys h in
    elim (nat_le w y.expiration) as (λ b. nat_le w y.expiration ≡ b → unexpired later (cond b (y ∷ unexpired w ys) (unexpired w ys)) ≡ unexpired later (y ∷ ys)) [
      | true ↦ λ is. ap (λ (xs : List Row). cond (nat_le later y.expiration) (y ∷ xs) xs) rest
      | false ↦ λ is. rest ∙ sym (ap (λ b. cond b (y ∷ unexpired later ys) (unexpired later ys)) (lt-leb later y.expiration (omega (arith, leb-false w y.expiration is))))
    ] refl

like-held : (s v : Store) → IsLike s v → (key : RequestKey) → held_for key v ≡ held_for key s
like-held s v l key = ap (λ (m : ℕ). kept_for key (unexpired m v.rows)) l.mark ∙ ap (kept_for key) l.rows

like-allows : (s v : Store) → IsLike s v → (c : Change) → Allows v c → Allows s c
like-allows s v l (Committed ask row) a = (sym (like-held s v l row.key) ∙ a.0, subst (λ (m : ℕ). m ≤ row.expiration) l.mark a.1)
like-allows s v l (Purged mark) a = subst (λ (m : ℕ). m ≤ mark) l.mark a
like-allows s v l Other a = tt

like-changed : (s v : Store) → IsLike s v → (c : Change) → Allows s c → IsLike (changed s c) (now_holds v c)
like-changed s v l (Committed ask row) a =
    let test = λ (r : Row). nat_le s.mark r.expiration in
    record {
      mark = l.mark;
      rows = filter-append test v.rows (row ∷ []) ∙ ap (λ (xs : List Row). xs ++ unexpired s.mark (row ∷ [])) l.rows ∙ sym (filter-append test s.rows (row ∷ []));
    }
like-changed s v l (Purged mark) a = record {
  mark = refl;
  rows = unexpired-twice mark mark v.rows (omega arith) ∙ sym (unexpired-twice s.mark mark v.rows a) ∙ ap (unexpired mark) l.rows ∙ unexpired-twice s.mark mark s.rows a;
}
like-changed s v l Other a = l

pub stores-may-forget : StoresMayForget
stores-may-forget s v l = (like-held s v l, λ c a. let b = like-allows s v l c a in (b, like-changed s v l c b))

-- Changes as steps.

steps-append : (front : List Step) (xs ys : List Change) → with_changes front (xs ++ ys) ≡ with_changes (with_changes front xs) ys
steps-append front [] ys = ap (λ (l : List Step). l ++ map (λ c. Stored c) ys) (sym (append-nil front))
steps-append front (c ∷ xs) ys =
    sym (append_assoc front (Stored c ∷ []) (map (λ c. Stored c) (xs ++ ys))) ∙ steps-append (front ++ Stored c ∷ []) xs ys
    ∙ ap (λ (l : List Step). l ++ map (λ c. Stored c) ys) (append_assoc front (Stored c ∷ []) (map (λ c. Stored c) xs))

-- what changes of the one changes of the other
record Alike (front : List Step) (v : Store) (changes : List Change) : Type 0 where
  like : IsLike (stored (with_changes front changes)) (then_holds v changes)
  allows : (early late : List Change) (c : Change) → changes ≡ early ++ c ∷ late → Allows (stored (with_changes front early)) c

alike : (front : List Step) (v : Store) (changes : List Change) → IsLike (stored front) v → AreAllowed v changes → Alike front v changes
alike front v [] l a = record {
  like = subst (λ (x : List Step). IsLike (stored x) v) (sym (append-nil front)) l;
  allows = λ early late c is. absurd (none early c late is);
}
  where
    none : (early : List Change) (c : Change) (late : List Change) → [] ≡ early ++ c ∷ late → ⊥
    none [] c late is = cc
    none (x ∷ early) c late is = cc
alike front v (x ∷ changes) l a =
    let here = like-allows (stored front) v l x a.0 in
    let now : stored (front ++ Stored x ∷ []) ≡ changed (stored front) x = stored-append empty_store front (Stored x ∷ []) in
    let next = alike (front ++ Stored x ∷ []) (now_holds v x) changes (subst (λ (s : Store). IsLike s (now_holds v x)) (sym now) (like-changed (stored front) v l x here)) a.1 in
    record {
      like = subst (λ (y : List Step). IsLike (stored y) (then_holds (now_holds v x) changes)) (append_assoc front (Stored x ∷ []) (map (λ c. Stored c) changes)) next.like;
      allows = λ early late c is. at early late c is here next.allows;
    }
  where
    at : (early late : List Change) (c : Change) → x ∷ changes ≡ early ++ c ∷ late → Allows (stored front) x
        → ((early late : List Change) (c : Change) → changes ≡ early ++ c ∷ late → Allows (stored (with_changes (front ++ Stored x ∷ []) early)) c) → Allows (stored (with_changes front early)) c
    at [] late c is here more =
        let same : x ≡ c = cc in
        subst (λ (y : List Step). Allows (stored y) c) (sym (append-nil front)) (subst (λ (y : Change). Allows (stored front) y) same here)
    at (y ∷ early) late c is here more =
        let same : x ≡ y = cc in
        let rest : changes ≡ early ++ c ∷ late = cc in
        subst (λ (z : Change). Allows (stored (front ++ (Stored z ∷ map (λ c. Stored c) early))) c) same
        (subst (λ (z : List Step). Allows (stored z) c) (append_assoc front (Stored x ∷ []) (map (λ c. Stored c) early)) (more early late c rest))

module _ {State : Type 0} (apply : State → Call → State × Performed) where
  shown-like : (front : List Step) (old new : Shown State) (changes : List Change) → IsLike (stored front) old.store → Passes apply old changes new
      → Alike front old.store changes × IsLike (stored (with_changes front changes)) new.store
  shown-like front old new changes l p =
      let a = alike front old.store changes l p.allowed in
      (a, subst (λ (s : Store). IsLike (stored (with_changes front changes)) s) (sym p.store) a.like)

  pub once-is-owned : OnceIsOwned apply
  once-is-owned front d old new w (verdict.Answer outcome) l there number once =
      let a = shown-like front old new once.0 l once.1.passes in (
        once.0,
        a.1,
        record { before = with_changes front once.0; after = []; point = sym (append-nil (with_changes front once.0)); held = sym (like-held (stored (with_changes front once.0)) new.store a.1 d.key) ∙ once.2 },
        once.1.own,
        a.0.allows,
      )
  once-is-owned front d old new w verdict.Over l there number once =
      let w = once.0 in
      let a = shown-like front old new w.changes l w.passes in (
        w.changes,
        a.1,
        (
          record { before = with_changes front w.changes; after = []; point = sym (append-nil (with_changes front w.changes)); over = subst (λ (m : ℕ). d.expiration < m) a.1.mark once.1 },
          w.others,
        ),
        λ ask row in_it own. Contains-append_right (d ∷ []) old.doubts (record { ask = ask; key = row.key; expiration = row.expiration }) (w.others ask row in_it own),
        a.0.allows,
      )
  once-is-owned front d old new w verdict.Decline l there number once =
      let early = shown-like front old once.mid once.early l once.before in
      let late = shown-like (with_changes front once.early) once.mid new once.late early.1 once.after in
      let changes = once.early ++ once.late in
      let split : with_changes front changes ≡ with_changes (with_changes front once.early) once.late = steps-append front once.early once.late in
      let p : Passes apply old changes new = passes-append apply old once.mid new once.early once.late once.before once.after in
      let all = shown-like front old new changes l p in (
        changes,
        all.1,
        (
          record {
            before = with_changes front once.early;
            after = map (λ c. Stored c) once.late;
            point = split;
            request = w;
            asked = asked-later d.ask.life (with_changes front once.early) front (map (λ c. Stored c) once.early) w refl there;
            numbered = number;
            free = sym (like-held (stored (with_changes front once.early)) once.mid.store early.1 d.key) ∙ once.free;
          },
          once.others,
        ),
        λ ask row in_it own. Contains-append_right (d ∷ []) old.doubts (record { ask = ask; key = row.key; expiration = row.expiration }) (once.others ask row in_it own),
        all.0.allows,
      )
  once-is-owned front d old new w verdict.Unknown l there number once =
      let a = shown-like front old new once.0 l once.1.passes in
      (once.0, a.1, tt, once.1.own, a.0.allows)
