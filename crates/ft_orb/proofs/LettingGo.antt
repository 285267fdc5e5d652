-- What is parked is withdrawn: nothing is kept for it any more.
use Rattle.std.proofs.Common.{◌≡◌, ◌==◌, ℕ, ◌<◌, Bool, true, false, not, ◌&&◌, cond, nat_eq, nat_le, nat_lt, pos, List, [], ◌∷◌, filter, length, map, Option, Some, None, IsSome, refl, sym, ap, subst, ◌∙◌}
use Rattle.std.specs.List.{list_all}
use Rattle.std.specs.Option.{option_map_or}
use Rattle.std.proofs.lemmas.Bool.{eq-eqb, eqb-true}
use Rattle.ft_log.specs.Holding.{Holding, known, parked}
use Rattle.ft_log.specs.Keys.{RequestKey, same_key}
use Rattle.ft_log.specs.Kept.{KeptOutcome, is_parked, is_parked_at, unexpired, withdrawn}
use Rattle.ft_log.specs.Logged.{logged}
use Rattle.ft_log.specs.View.{key_of}
use Rattle.ft_objects.specs.Catalogues.{Offer}
use Rattle.ft_orb.specs.Offerings.{terms_by}
use Rattle.ft_orb.specs.declared.engine.Engine.{Engine}
use Rattle.ft_orb.specs.declared.keeper.Retained.{Retained}
use Rattle.ft_orb.specs.declared.parked.Parked.{Parked}
use Rattle.ft_orb.specs.declared.parked.Waiter.{Waiter}
use Rattle.ft_orb.specs.Engines.{StandsOf, as_server, asks_in, waits_in}
use Rattle.ft_orb.specs.History.{Event, Withdrew, line}
use Rattle.ft_orb.specs.Owners.{owned_table}
use Rattle.ft_orb.specs.Parked.{on_going}
use Rattle.ft_orb.specs.Parking.{AreKeyed, Parks, Settings, Stays, WithdrawsLate, by_number, goes_on, key_kept, parked_at, was_opened}
use Rattle.ft_orb.specs.Requests.{Call}
use Rattle.ft_orb.specs.Seen.{seen_entry}
use Rattle.ft_orb.specs.Standing.{IsFor, held_in}
use Rattle.ft_orb.specs.Waits.{without_parked}
use Rattle.ft_orb.proofs.Folded.{same_key-self}
use Rattle.ft_orb.proofs.GoesOn.{and-false}
use Rattle.ft_orb.proofs.Late.{Tally, below-past}
use Rattle.ft_orb.proofs.Numbers.{AreBelow, all-but}

module _ {X : Type 0} where
  filter-cond : (p : X → Bool) (b : Bool) (x : X) (xs : List X) → filter p (cond b (x ∷ xs) xs) ≡ cond b (cond (p x) (x ∷ filter p xs) (filter p xs)) (filter p xs)
  filter-cond p true x xs = refl
  filter-cond p false x xs = refl

  cond-swap : (b c : Bool) (x : X) (xs ys : List X) → xs ≡ ys → cond b (cond c (x ∷ xs) xs) xs ≡ cond c (cond b (x ∷ ys) ys) ys
  cond-swap true true x xs ys h = ap (λ l. x ∷ l) h
  cond-swap true false x xs ys h = h
  cond-swap false true x xs ys h = h
  cond-swap false false x xs ys h = h

  -- two tests may be made in either order
  pub filter-swap : (p q : X → Bool) (xs : List X) → filter p (filter q xs) ≡ filter q (filter p xs)
  filter-swap p q [] = refl
  filter-swap p q (x ∷ xs) =
      filter-cond p (q x) x (filter q xs)
      ∙ cond-swap (q x) (p x) x (filter p (filter q xs)) (filter q (filter p xs)) (filter-swap p q xs)
      ∙ sym (filter-cond q (p x) x (filter p xs))

-- what is kept of other calls
abbrev Others : ℕ → List (KeptOutcome ℕ) → List (KeptOutcome ℕ)
Others i es = filter (λ e. not (e.outcome == i)) es

none-keyed : (i : ℕ) (es : List (KeptOutcome ℕ)) → AreKeyed i None es → Others i es ≡ es
none-keyed i [] h = refl
none-keyed i (e ∷ es) h =
    let apart : (e.outcome == i) ≡ false = by (e.outcome == i) refl in
    (λ j. cond (not (apart j)) (e ∷ Others i es) (Others i es)) ∙ ap (λ (xs : List (KeptOutcome ℕ)). e ∷ xs) (none-keyed i es h.1)
  where
    by : (b : Bool) → (e.outcome == i) ≡ b → b ≡ false
    by false is = refl
    by true is = absurd (let key = h.0 (eqb-true e.outcome i is) in cc)

gone-keyed : (i : ℕ) (key : Option RequestKey) (es : List (KeptOutcome ℕ)) → AreKeyed i key (Others i es)
gone-keyed i key [] = tt
gone-keyed i key (e ∷ es) = by (e.outcome == i) refl (gone-keyed i key es)
  where
    by : (b : Bool) → (e.outcome == i) ≡ b → AreKeyed i key (Others i es) → AreKeyed i key (cond (not b) (e ∷ Others i es) (Others i es))
    by true is rest = rest
    by false is rest = (λ same. absurd (let yes = eq-eqb e.outcome i same in cc), rest)

module _ (held : ℕ → Holding) (calls : List Call) (i n : ℕ) (less : i < length calls) (was : held i ≡ parked n)
    (once : (j k m : ℕ) → j < length calls → k < length calls → held j ≡ parked m → held k ≡ parked m → j ≡ k) (key : RequestKey) where
  parked-is : (h : Holding) → ((m : ℕ) → h ≡ parked m → m ≡ n → ⊥) → is_parked n h ≡ false
  parked-is (known outcome) apart = refl
  parked-is (parked m) apart = by (nat_eq m n) refl
    where
      by : (b : Bool) → nat_eq m n ≡ b → b ≡ false
      by false is = refl
      by true is = absurd (apart m refl (eqb-true m n is))

  one-is : (e : KeptOutcome ℕ) → e.outcome < length calls → (e.outcome ≡ i → Some key ≡ Some e.key) → is_parked_at key n (seen_entry held e) ≡ (e.outcome == i)
  one-is e low keyed = by (e.outcome == i) refl
    where
      by : (b : Bool) → (e.outcome == i) ≡ b → (same_key key e.key && is_parked n (held e.outcome)) ≡ b
      by true is =
          let same = eqb-true e.outcome i is in
          let own : key ≡ e.key = let k = keyed same in cc in
          ap (λ (k : RequestKey). same_key key k && is_parked n (held e.outcome)) (sym own)
          ∙ ap (λ (b : Bool). b && is_parked n (held e.outcome)) (same_key-self key)
          ∙ ap (λ (h : Holding). is_parked n h) (ap held same ∙ was)
          ∙ eq-eqb n n refl
      by false is =
          ap (λ (b : Bool). same_key key e.key && b) (parked-is (held e.outcome) (λ m at same. absurd (let one = once e.outcome i n low less (at ∙ ap parked same) was in let yes = eq-eqb e.outcome i one in cc)))
          ∙ and-false (same_key key e.key)

  seen-others : (es : List (KeptOutcome ℕ)) → AreBelow (length calls) es → AreKeyed i (Some key) es → withdrawn key n (map (seen_entry held) es) ≡ map (seen_entry held) (Others i es)
  seen-others [] low keyed = refl
  seen-others (e ∷ es) low keyed =
      ap (λ (b : Bool). cond (not b) (seen_entry held e ∷ withdrawn key n (map (seen_entry held) es)) (withdrawn key n (map (seen_entry held) es))) (one-is e low.0 keyed.0)
      ∙ ap (λ (xs : List (KeptOutcome Holding)). cond (not (e.outcome == i)) (seen_entry held e ∷ xs) xs) (seen-others es low.1 keyed.1)
      ∙ (elim (e.outcome == i) as (λ (b : Bool). cond (not b) (seen_entry held e ∷ map (seen_entry held) (Others i es)) (map (seen_entry held) (Others i es)) ≡ map (seen_entry held) (cond (not b) (e ∷ Others i es) (Others i es)))
      [ true ↦ refl | false ↦ refl ])

  -- what the log keeps then is what the table does
  kept-others : (clock : ℕ) (o : Option Retained) (log : List (KeptOutcome Holding)) (es : List (KeptOutcome ℕ)) → AreBelow (length calls) es → AreKeyed i (key_kept o) es → ((r : Retained) → o ≡ Some r → key ≡ key_of r.key)
      → unexpired clock log ≡ unexpired clock (map (seen_entry held) es) → unexpired clock (without_parked o n log) ≡ unexpired clock (map (seen_entry held) (Others i es))
  kept-others clock None log es low keyed own same = same ∙ ap (λ (xs : List (KeptOutcome ℕ)). unexpired clock (map (seen_entry held) xs)) (sym (none-keyed i es keyed))
  kept-others clock (Some r) log es low keyed own same =
      let is = own r refl in
      let live : KeptOutcome Holding → Bool = λ e. nat_le clock e.expiration in
      let other : KeptOutcome Holding → Bool = λ e. not (is_parked_at key n e) in
      ap (λ (k : RequestKey). unexpired clock (withdrawn k n log)) (sym is)
      ∙ filter-swap live other log
      ∙ ap (filter other) same
      ∙ sym (filter-swap live other (map (seen_entry held) es))
      ∙ ap (unexpired clock) (seen-others es low (subst (λ (k : RequestKey). AreKeyed i (Some k) es) (sym is) keyed))

-- What is parked under a number is withdrawn.
pub withdraws : {C : Type 0} (offers : C → Offer) (s : Settings) (held : ℕ → Holding) (calls : List Call) (old new : Engine C) (past : List Event) (waiting : ℕ → List Waiter) (n : ℕ) (p now : Parked) → Stays offers s held calls old past waiting
    → parked_at old n ≡ Some p → parked_at new n ≡ Some now → ((q : ℕ) → (q == n) ≡ false → parked_at new q ≡ parked_at old q) → now.pending.waiting.retained ≡ None → now.waiters ≡ p.waiters
    → (logged new.keeper.log).entries ≡ without_parked p.pending.waiting.retained n (logged old.keeper.log).entries → (logged new.keeper.log).capacity ≡ (logged old.keeper.log).capacity → (logged new.keeper.log).share ≡ (logged old.keeper.log).share
    → new.keeper.clock ≡ old.keeper.clock → new.offering ≡ old.offering → waits_in new ≡ waits_in old → new.limits ≡ old.limits → new.greatest ≡ old.greatest → new.links ≡ old.links → new.places ≡ old.places → asks_in new ≡ asks_in old
    → WithdrawsLate offers s held calls past waiting n new
withdraws {C} offers s held calls old new past waiting n p now h was is others none waiters entries capacity share clock catalogue idle limits greatest links places asks = record {
  i = here.0;
  taken = here.1;
  was = here.2;
  stays = record { rests = record { offer_is = ap (terms_by offers) catalogue ∙ h.rests.offer_is; idle = idle ∙ h.rests.idle; stands = stands }; parks = parks };
}
  where
    here : (i : ℕ) × (i < length calls) × (held i ≡ parked n) × AreKeyed i (key_kept p.pending.waiting.retained) (owned_table (by_number s held) past).entries
    here = h.parks.call n p was

    count : (Tally s past).state ≡ calls
    count = sym h.rests.stands.table.state

    low : AreBelow (length calls) (Tally s past).entries
    low = subst (λ (l : List Call). AreBelow (length l) (Tally s past).entries) count (below-past s past)

    table-is : (o : Option Retained) → p.pending.waiting.retained ≡ o → unexpired old.keeper.clock (without_parked o n (logged old.keeper.log).entries) ≡ unexpired old.keeper.clock (map (seen_entry held) (Others here.0 (Tally s past).entries))
    table-is None at =
        kept-others held calls here.0 n here.1 here.2 h.parks.once (record { client_id = []; retention_id = pos 0 }) old.keeper.clock None (logged old.keeper.log).entries (Tally s past).entries low
        (subst (λ (o : Option Retained). AreKeyed here.0 (key_kept o) (Tally s past).entries) at here.3) (λ r some. absurd cc) h.rests.stands.table.entries
    table-is (Some r) at =
        kept-others held calls here.0 n here.1 here.2 h.parks.once (key_of r.key) old.keeper.clock (Some r) (logged old.keeper.log).entries (Tally s past).entries low
        (subst (λ (o : Option Retained). AreKeyed here.0 (key_kept o) (Tally s past).entries) at here.3) (λ t some. let same : r ≡ t = cc in ap (λ (x : Retained). key_of x.key) same) h.rests.stands.table.entries

    stands : StandsOf (by_number s held) (as_server new calls) (Withdrew here.0 ∷ past)
    stands = record {
      limits_are = limits ∙ h.rests.stands.limits_are;
      capacity_is = capacity ∙ h.rests.stands.capacity_is;
      share_is = share ∙ h.rests.stands.share_is;
      moment = clock ∙ h.rests.stands.moment;
      greatest = λ c. h.rests.stands.greatest c ∙ ap (λ (g : Option ℕ). option_map_or (λ (x : ℕ). nat_lt x c) g true) (sym greatest);
      lines = λ c. subst (λ l. IsFor s.limits (held_in l.entries c) (line past c)) (sym links) (h.rests.stands.lines c);
      table = record {
        state = h.rests.stands.table.state;
        entries = ap (λ (k : ℕ). unexpired k (logged new.keeper.log).entries) clock ∙ ap (unexpired old.keeper.clock) entries ∙ table-is p.pending.waiting.retained refl
            ∙ ap (λ (k : ℕ). unexpired k (map (seen_entry held) (Others here.0 (Tally s past).entries))) (sym clock);
      };
    }

    there : (m : ℕ) (b : Bool) → (m == n) ≡ b → IsSome (parked_at old m) → IsSome (parked_at new m)
    there m true at some = subst (λ (o : Option Parked). IsSome o) (sym (ap (parked_at new) (eqb-true m n at) ∙ is)) refl
    there m false at some = subst (λ (o : Option Parked). IsSome o) (sym (others m at)) some

    call-at : (m : ℕ) (x : Parked) (b : Bool) → (m == n) ≡ b → parked_at new m ≡ Some x
        → (j : ℕ) × (j < length calls) × (held j ≡ parked m) × AreKeyed j (key_kept x.pending.waiting.retained) (owned_table (by_number s held) (Withdrew here.0 ∷ past)).entries
    call-at m x true at found =
        let same = eqb-true m n at in
        (here.0, here.1, here.2 ∙ ap parked (sym same), gone-keyed here.0 (key_kept x.pending.waiting.retained) (Tally s past).entries)
    call-at m x false at found =
        let y = h.parks.call m x (sym (others m at) ∙ found) in
        (y.0, y.1, y.2, all-but (λ e. e.outcome ≡ y.0 → key_kept x.pending.waiting.retained ≡ Some e.key) (λ e. not (e.outcome == here.0)) (Tally s past).entries y.3)

    waiters-at : (P : Parked → Type 0) → ((x y : Parked) → x.waiters ≡ y.waiters → P x → P y) → (m : ℕ) (x : Parked) (b : Bool) → (m == n) ≡ b → parked_at new m ≡ Some x → ((y : Parked) → parked_at old m ≡ Some y → P y) → P x
    waiters-at P like m x true at found every =
        let own : now ≡ x = let both : Some now ≡ Some x = sym is ∙ ap (parked_at new) (sym (eqb-true m n at)) ∙ found in cc in
        like p x (sym waiters ∙ ap (λ (y : Parked). y.waiters) own) (every p (ap (parked_at old) (eqb-true m n at) ∙ was))
    waiters-at P like m x false at found every = every x (sym (others m at) ∙ found)

    parks : Parks s held calls new (Withdrew here.0 ∷ past) (asks_in new) waiting
    parks = record {
      places = places ∙ h.parks.places;
      there = λ j m less at. there m (m == n) refl (h.parks.there j m less at);
      call = λ m x found. call-at m x (m == n) refl found;
      once = h.parks.once;
      below = λ j m less at. subst (λ (k : ℕ). m < k) (sym asks) (h.parks.below j m less at);
      lists = λ m x found. waiters-at (λ y. on_going (goes_on s.limits past) y.waiters.items ≡ waiting m) (λ y z same q. ap (λ v. on_going (goes_on s.limits past) v.items) (sym same) ∙ q) m x (m == n) refl found (λ y at. h.parks.lists m y at);
      opened = λ m x found. waiters-at (λ y. list_all (was_opened past) y.waiters.items ≡ true) (λ y z same q. ap (λ v. list_all (was_opened past) v.items) (sym same) ∙ q) m x (m == n) refl found (λ y at. h.parks.opened m y at);
    }
