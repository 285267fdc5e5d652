-- Who waits is told, one after another.
use Rattle.std.proofs.Common.{◌≡◌, ◌==◌, ◌||◌, ◌⊎◌, inl, inr, if◌then◌else◌, ◌∙◌, ℕ, Bool, true, false, List, [], ◌∷◌, ◌++◌, Option, Some, None, Result, Ok, Err, is_err, is_ok, OnOk, OnErr, IfErr, length, take, ap, refl, subst, sym, arith, append-nil}
use Rattle.std.proofs.lemmas.Grind.{common_steps}
use Rattle.std.proofs.lemmas.List.{take-append-le}
use Rattle.std.specs.BTreeMap.{is_at}
use Rattle.std.specs.BTreeSet.{BTreeSet, Updates, contains}
use Rattle.std.specs.Ordering.{nat_cmp}
use Rattle.ft_log.specs.Holding.{Holding}
use Rattle.ft_log.specs.Performed.{Performed}
use Rattle.ft_objects.specs.Families.{families_offer}
use Rattle.ft_orb.specs.declared.ending.Ending.TheVariants.{Memory as OutOfMemory}
use Rattle.ft_orb.specs.declared.parked.Waiter.{Waiter}
use Rattle.ft_orb.specs.Carrying.{reply_with}
use Rattle.ft_orb.specs.Engines.{AreEndings, EndsLast, EndsShort}
use Rattle.ft_orb.specs.Deeds.{Missed, Reached, Told, reply_to, rest_of}
use Rattle.ft_orb.specs.declared.engine.Engine.{Engine}
use Rattle.ft_orb.specs.declared.error.ServeError.{ServeError}
use Rattle.ft_orb.specs.declared.error.ServeError.TheVariants as serving
use Rattle.ft_objects.specs.declared.families.Families.{Families}
use Rattle.ft_orb.specs.History.{Event, Lost}
use Rattle.ft_orb.specs.Parking.{IsDueLate, RepliesLate, Settings, Stays, put_at, still, told_in}
use Rattle.ft_orb.specs.Requests.{Call}
use Rattle.lemonrudder.specs.declared.connections.Connections.{Connections}
use Rattle.lemonrudder.specs.declared.due.Due.{Due}
use Rattle.lemonrudder.specs.declared.serving.Serving.{Serving}
use Rattle.lemonrudder.specs.Connected.{AreAsNoted, Notes, OnlyDue, is_there, owed_in}
use Rattle.lemonrudder.specs.Dues.{owed}
use Rattle.lemonrudder.specs.Replying.{Contexts}
use Rattle.lemonrudder.specs.Serves.{KeepsEndings, KeepsNotes, is_named, owed_on}
use Rattle.lemonrudder.specs.Settling.{TellsAll}
use Rattle.lemonrudder.specs.Telling.{AreTold, EndsTold, NotesTold, Parts, PartsFrom, Scene, Tells, after_goodbye, after_one, is_left, is_reached, reply_on, who}
use Rattle.lemonrudder.proofs.Idling.{not_so}

-- what is due after a Due was taken and another was put, which has more
pub due-after : (c q : ℕ) (more : List ℕ) (k l m : Connections) (d e : Due) → owed d ≡ owed_in k c → OnlyDue c k l → (is_there l c ≡ true → owed_in m c ≡ owed e) → OnlyDue c l m
    → owed e ≡ owed d ++ more → is_there k q ≡ true → owed_in m q ≡ owed_in k q ++ (if c == q then more else [])
due-after c q more k l m d e took taken put after grown there = by (c == q) refl
  where
    by : (b : Bool) → (c == q) ≡ b → owed_in m q ≡ owed_in k q ++ (if b then more else [])
    by true is =
        let here : c ≡ q = grind (arith, common_steps) in
        subst (λ y. owed_in m y ≡ owed_in k y ++ more) here (put (taken.0 ∙ subst (λ y. is_there k y ≡ true) (sym here) there) ∙ grown ∙ ap (λ (l : List ℕ). l ++ more) took)
    by false is = (after.1 q is).1 ∙ (taken.1 q is).1 ∙ sym (append-nil (owed_in k q))

-- a reply that was made ended nothing ..
pub reached-ends : {P : Type 0} (r : Result (Unit {0}) ServeError) → is_err r ≡ false → OnOk r P → P
reached-ends (Ok y) made so = so
reached-ends (Err e) made so = absurd cc

-- .. and one for which memory was short its connection, if it was there
pub missed-ends : (r : Result (Unit {0}) ServeError) (old new : Engine Families) (c : ℕ) → is_err r ≡ true → IfErr r (λ e. EndsShort old new c e) → EndsLast new c OutOfMemory ⊎ AreEndings old new
missed-ends (Ok y) old new c missed so = absurd cc
missed-ends (Err serving.NoConnection) old new c missed so = inr so
missed-ends (Err (serving.Memory handled answered)) old new c missed so = inl so

module _ (x : Settings) (held : ℕ → Holding) (calls : List Call) (n : ℕ) (carried : Waiter → Contexts) (outcome : Performed) where
  -- where connections and names are the same, it is the same
  tells-from : (g : Scene) (d : Told) (s m t : Serving) → m.connections ≡ s.connections → m.ready ≡ s.ready → KeepsEndings s m → Tells x held calls n carried outcome g d m t → Tells x held calls n carried outcome g d s t
  tells-from g d s m t connections ready same a = record {
    first = a.first;
    there = λ c. a.there c ∙ ap (λ (k : Connections). is_there k c) connections;
    owed = λ c is. a.owed c (ap (λ (k : Connections). is_there k c) connections ∙ is) ∙ ap (λ (k : Connections). owed_in k c ++ reply_on c carried outcome d) connections;
    named = λ c. a.named c ∙ ap (λ (y : BTreeSet ℕ). contains nat_cmp y c || is_reached c d) ready;
    noted = noted d a.noted;
    ended = ended d a.ended;
    stays = a.stays;
  }
    where
      noted : (d : Told) → NotesTold d m t → NotesTold d s t
      noted (Reached w) h = subst (λ (k : Connections). AreAsNoted k t.connections) connections h
      noted (Missed w) h = subst (λ (k : Connections). Notes w.connection (Some OutOfMemory) k t.connections) connections h

      ended : (d : Told) → EndsTold d m t → EndsTold d s t
      ended (Reached w) h = λ c. h c ∙ same c
      ended (Missed w) (inl h) = inl h
      ended (Missed w) (inr h) = inr (λ c. h c ∙ same c)

  pub told-from : (told : List Told) (g h : Scene) (s m t : Serving) → m.connections ≡ s.connections → m.ready ≡ s.ready → KeepsEndings s m → AreTold x held calls n carried outcome told g h m t → AreTold x held calls n carried outcome told g h s t
  told-from [] g h s m t connections ready same a = (a.0, a.1 ∙ connections, a.2 ∙ ready, λ c. a.3 c ∙ same c)
  told-from (d ∷ told) g h s m t connections ready same a = (a.0, a.1, a.2, tells-from g d s m a.1 connections ready same a.3, a.4, a.5)

  told-to : (told : List Told) (g h : Scene) (s m t : Serving) → t.connections ≡ m.connections → t.ready ≡ m.ready → KeepsEndings m t → AreTold x held calls n carried outcome told g h s m → AreTold x held calls n carried outcome told g h s t
  told-to [] g h s m t connections ready same a = (a.0, connections ∙ a.1, ready ∙ a.2, λ c. same c ∙ a.3 c)
  told-to (d ∷ told) g h s m t connections ready same a = (a.0, a.1, a.2, a.3, a.4, told-to told a.0 h a.2 m t connections ready same a.5)

  -- one more was told
  told-more : (told : List Told) (d : Told) (g h f : Scene) (s m k u t : Serving) → k.connections ≡ m.connections → k.ready ≡ m.ready → KeepsEndings m k → AreTold x held calls n carried outcome told g h s m → Tells x held calls n carried outcome h d k u
      → PartsFrom x (who d).connection (after_one x n h d) f u t → AreTold x held calls n carried outcome (told ++ d ∷ []) g f s t
  told-more [] d g h f s m k u t connections ready same a one part =
      (f, u, t, tells-from g d s k u (connections ∙ a.1) (ready ∙ a.2) (λ c. same c ∙ a.3 c) (subst (λ (y : Scene). Tells x held calls n carried outcome y d k u) a.0 one), subst (λ (y : Scene). PartsFrom x (who d).connection (after_one x n y d) f u t) a.0 part, (refl, refl, refl, λ c. refl))
  told-more (e ∷ told) d g h f s m k u t connections ready same a one part = (a.0, a.1, a.2, a.3, a.4, told-more told d a.0 h f a.2 m k u t connections ready same a.5 one part)

  -- a connection parts, if it is left, and the engine stands for what happened by then
  parts-by : (c : ℕ) (g : Scene) (s t : Serving) → Parts c s t → Stays families_offer x held calls s.engine g.past g.waiting → (f : Scene) × PartsFrom x c g f s t × Stays families_offer x held calls t.engine f.past f.waiting
  parts-by c g s t parts st = by (is_left s c) refl
    where
      by : (b : Bool) → is_left s c ≡ b → (f : Scene) × PartsFrom x c g f s t × Stays families_offer x held calls t.engine f.past f.waiting
      by true is =
          let p = parts.0 is in
          (after_goodbye x c p.0 g, (λ _. (p.0, refl, p.1), λ not. absurd (not_so not is)), (p.1.4 x held calls g.past g.waiting st).stays)
      by false is =
          let p = parts.1 is in
          (g, (λ left. absurd (not_so is left), λ _. (refl, p)), subst (λ (y : Serving). Stays families_offer x held calls y.engine g.past g.waiting) (sym p) st)

  -- who is next was told too
  pub told-next : (told : List Told) (g h : Scene) (s m k u t : Serving) → k.connections ≡ m.connections → k.ready ≡ m.ready → KeepsEndings m k → AreTold x held calls n carried outcome told g h s m → Stays families_offer x held calls m.engine h.past h.waiting → (c : ℕ)
      → told_in m.engine n ≡ Some outcome
      → ((held : ℕ → Holding) (calls : List Call) (past : List Event) (waiting : ℕ → List Waiter) → Stays families_offer x held calls m.engine past waiting → IsDueLate families_offer x held calls past waiting n (told_in m.engine n) (Some c) k.engine)
      → told_in k.engine n ≡ told_in m.engine n
      → ((held : ℕ → Holding) (calls : List Call) (past : List Event) (waiting : ℕ → List Waiter) (w : Waiter) (rest : List Waiter) → Stays families_offer x held calls k.engine past waiting
      → told_in k.engine n ≡ Some outcome → waiting n ≡ w ∷ rest → w.connection ≡ c → (d : Told) × (who d ≡ w) × Tells x held calls n carried outcome (record { past = past; waiting = waiting }) d k u)
      → Parts c u t
      → (told : List Told) × (f : Scene) × AreTold x held calls n carried outcome told g f s t × Stays families_offer x held calls t.engine f.past f.waiting
  told-next told g h s m k u t connections ready kept so st c telling due same tell parts =
      let d = subst (λ (o : Option Performed). IsDueLate families_offer x held calls h.past h.waiting n o (Some c) k.engine) telling (due held calls h.past h.waiting st) in
      let one = tell held calls h.past h.waiting d.1 d.2 d.0 (same ∙ telling) d.3 d.4 in
      let on : (who one.0).connection ≡ c = ap (λ (w : Waiter). w.connection) one.1 ∙ d.4 in
      let p = parts-by (who one.0).connection (after_one x n h one.0) u t (subst (λ y. Parts y u t) (sym on) parts) one.2.stays in
      (told ++ one.0 ∷ [], p.0, told-more told one.0 g h p.0 s m k u t connections ready kept so one.2 p.1, p.2)

  -- nobody is left
  pub tells-all : (told : List Told) (g h : Scene) (s m k : Serving) → k.connections ≡ m.connections → k.ready ≡ m.ready → KeepsEndings m k → AreTold x held calls n carried outcome told g h s m → Stays families_offer x held calls m.engine h.past h.waiting
      → told_in m.engine n ≡ Some outcome
      → ((held : ℕ → Holding) (calls : List Call) (past : List Event) (waiting : ℕ → List Waiter) → Stays families_offer x held calls m.engine past waiting → IsDueLate families_offer x held calls past waiting n (told_in m.engine n) None k.engine)
      → TellsAll x held calls n carried outcome g s k
  tells-all told g h s m k connections ready kept so st telling due =
      let d = subst (λ (o : Option Performed). IsDueLate families_offer x held calls h.past h.waiting n o None k.engine) telling (due held calls h.past h.waiting st) in
      record { i = d.i; taken = d.taken; was = d.was; told = told; last = h; are_told = told-to told g h s m k connections ready kept so; none = d.told; stays = d.stays }

  -- a reply was made
  pub reply-made : (past : List Event) (waiting : ℕ → List Waiter) (w : Waiter) (rest : List Waiter) (r : Result (Unit {0}) ServeError) (e : Engine Families) (before out : List ℕ) → is_err r ≡ false
      → RepliesLate families_offer x held calls past waiting n outcome w rest r e before out → (out ≡ before ++ reply_to outcome w) × Stays families_offer x held calls e past (put_at n rest waiting)
  reply-made past waiting w rest (Ok y) e before out is h = h
  reply-made past waiting w rest (Err y) e before out is h = absurd cc

  -- .. or not
  pub reply-missed : (past : List Event) (waiting : ℕ → List Waiter) (w : Waiter) (rest : List Waiter) (r : Result (Unit {0}) ServeError) (e : Engine Families) (before out : List ℕ) → is_err r ≡ true
      → RepliesLate families_offer x held calls past waiting n outcome w rest r e before out → (out ≡ before) × Stays families_offer x held calls e (Lost w.connection ∷ past) (still x.limits (Lost w.connection ∷ past) (put_at n rest waiting))
  reply-missed past waiting w rest (Ok y) e before out is h = absurd cc
  reply-missed past waiting w rest (Err serving.NoConnection) e before out is h = absurd h
  reply-missed past waiting w rest (Err (serving.Memory handled answered)) e before out is h = (h.2, h.4)

  -- so it was told, or its connection is lost
  pub tells-reached : (past : List Event) (waiting : ℕ → List Waiter) (w : Waiter) (rest : List Waiter) (s t : Serving) → waiting n ≡ w ∷ rest → Stays families_offer x held calls t.engine past (put_at n rest waiting)
      → ((c : ℕ) → is_there t.connections c ≡ is_there s.connections c)
      → ((c : ℕ) → is_there s.connections c ≡ true → owed_on t c ≡ owed_on s c ++ (if w.connection == c then reply_with (carried w) w.asker outcome else []))
      → ((c : ℕ) → is_named t c ≡ (is_named s c || (w.connection == c)))
      → KeepsNotes s t → KeepsEndings s t
      → Tells x held calls n carried outcome (record { past = past; waiting = waiting }) (Reached w) s t
  tells-reached past waiting w rest s t is st there owed named noted ended = record {
    first = is ∙ ap (λ (l : List Waiter). w ∷ l) (sym (ap rest_of is));
    there = there;
    owed = owed;
    named = named;
    noted = noted;
    ended = ended;
    stays = subst (λ (l : List Waiter). Stays families_offer x held calls t.engine past (put_at n l waiting)) (sym (ap rest_of is)) st;
  }

  pub tells-missed : (past : List Event) (waiting : ℕ → List Waiter) (w : Waiter) (rest : List Waiter) (s t : Serving) → waiting n ≡ w ∷ rest
      → Stays families_offer x held calls t.engine (Lost w.connection ∷ past) (still x.limits (Lost w.connection ∷ past) (put_at n rest waiting))
      → ((c : ℕ) → is_there t.connections c ≡ is_there s.connections c)
      → ((c : ℕ) → is_there s.connections c ≡ true → owed_on t c ≡ owed_on s c)
      → ((c : ℕ) → is_named t c ≡ is_named s c)
      → Notes w.connection (Some OutOfMemory) s.connections t.connections → EndsTold (Missed w) s t
      → Tells x held calls n carried outcome (record { past = past; waiting = waiting }) (Missed w) s t
  tells-missed past waiting w rest s t is st there owed named noted ended = record {
    first = is ∙ ap (λ (l : List Waiter). w ∷ l) (sym (ap rest_of is));
    there = there;
    owed = λ c at. owed c at ∙ sym (append-nil (owed_on s c));
    named = λ c. named c ∙ or-false (is_named s c);
    noted = noted;
    ended = ended;
    stays = subst (λ (l : List Waiter). Stays families_offer x held calls t.engine (Lost w.connection ∷ past) (still x.limits (Lost w.connection ∷ past) (put_at n l waiting))) (sym (ap rest_of is)) st;
  }
    where
      or-false : (b : Bool) → b ≡ (b || false)
      or-false true = refl
      or-false false = refl

-- .. which has the same
pub due-kept : (c q : ℕ) (k l m : Connections) (d e : Due) → owed d ≡ owed_in k c → OnlyDue c k l → (is_there l c ≡ true → owed_in m c ≡ owed e) → OnlyDue c l m
    → owed e ≡ owed d → is_there k q ≡ true → owed_in m q ≡ owed_in k q
due-kept c q k l m d e took taken put after kept there =
    due-after c q [] k l m d e took taken put after (kept ∙ sym (append-nil (owed d))) there ∙ (ap (λ (r : List ℕ). owed_in k q ++ r) (same-if (c == q)) ∙ append-nil (owed_in k q))
  where
    same-if : (b : Bool) → ◌≡◌ {A = List ℕ} (if b then [] else []) []
    same-if true = refl
    same-if false = refl

-- what was appended is cut off again
pub cut-back : (before more : List ℕ) (n : ℕ) (out : List ℕ) → n ≡ length before → out ≡ before ++ more → take n out ≡ before
cut-back before more n out size grown = ap (take n) grown ∙ (ap (λ m. take m (before ++ more)) size ∙ (take-append-le (length before) before more (omega arith) ∙ take-all before))
  where
    take-all : (l : List ℕ) → take (length l) l ≡ l
    take-all [] = refl
    take-all (y ∷ l) = ap (λ (r : List ℕ). y ∷ r) (take-all l)

-- a number is in a set once it was put in, and the others are as they were
pub named-with : (c q : ℕ) (s t : BTreeSet ℕ) → Updates nat_cmp s t c true → contains nat_cmp t q ≡ (contains nat_cmp s q || (c == q))
named-with c q s t updates = by (c == q) refl
  where
    or-true : (b : Bool) → true ≡ (b || true)
    or-true true = refl
    or-true false = refl

    or-false : (b : Bool) → b ≡ (b || false)
    or-false true = refl
    or-false false = refl

    by : (b : Bool) → (c == q) ≡ b → contains nat_cmp t q ≡ (contains nat_cmp s q || b)
    by true is = let here : c ≡ q = grind (arith, common_steps) in subst (λ y. contains nat_cmp t y ≡ (contains nat_cmp s y || true)) here (updates.1 ∙ or-true (contains nat_cmp s c))
    by false is = let apart : is_at (nat_cmp c) q ≡ false = grind (arith, common_steps) in updates.2 q apart ∙ or-false (contains nat_cmp s q)

-- what holds where a call succeeded, or did not
pub on-ok : {A E : Type 0} (r : Result A E) (P : Type 0) → is_ok r ≡ true → OnOk r P → P
on-ok (Ok y) P is h = h
on-ok (Err e) P is h = absurd cc

pub on-err : {A E : Type 0} (r : Result A E) (P : Type 0) → is_ok r ≡ false → OnErr r P → P
on-err (Ok y) P is h = absurd cc
on-err (Err e) P is h = h
