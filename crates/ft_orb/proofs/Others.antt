-- Who waits on other connections waits on, where only the link of one is changed.
use Rattle.std.proofs.Common.{◌≡◌, ◌==◌, ℕ, Bool, true, false, not, cond, List, [], ◌∷◌, ◌++◌, Option, Some, None, refl, sym, ap, subst, ◌∙◌}
use Rattle.std.specs.Option.{option_map_or}
use Rattle.std.specs.Ordering.{nat_cmp}
use Rattle.std.specs.BTreeMap.{BTreeMap, get}
use Rattle.std.proofs.lemmas.Bool.{eq-eqb, eqb-true}
use Rattle.std.proofs.lemmas.List.{append-nil}
use Rattle.giop_link.specs.Linking.{Linked}
use Rattle.ft_orb.specs.declared.desk.Step.{Step}
use Rattle.ft_orb.specs.declared.keeper.Repeat.{Repeat}
use Rattle.ft_orb.specs.declared.parked.Parked.{Parked}
use Rattle.ft_orb.specs.declared.parked.Waiter.{Waiter}
use Rattle.ft_orb.specs.declared.waiters.Join.{Join}
use Rattle.ft_orb.specs.declared.waiters.Join.TheVariants as join
use Rattle.ft_orb.specs.Parked.{JoinsAs, JoinsBy, elsewhere, going_in, on_going}
use Rattle.ft_orb.specs.Parking.{others_of}
use Rattle.ft_orb.proofs.Clearing.{going-append}

module _ (c : ℕ) where
  pub here-not : (g : Bool) (w : Waiter) (ws : List Waiter) → (w.connection == c) ≡ true → elsewhere c (cond g (w ∷ ws) ws) ≡ elsewhere c ws
  here-not true w ws is = ap (λ (b : Bool). cond (not b) (w ∷ elsewhere c ws) (elsewhere c ws)) is
  here-not false w ws is = refl

  both-by : (g : Bool) (w : Waiter) (ws vs : List Waiter) → elsewhere c ws ≡ elsewhere c vs → elsewhere c (cond g (w ∷ ws) ws) ≡ elsewhere c (cond g (w ∷ vs) vs)
  both-by true w ws vs same = ap (λ (l : List Waiter). cond (not (w.connection == c)) (w ∷ l) l) same
  both-by false w ws vs same = same

  -- only c may go on now and not before, or the other way around
  pub others-same : (was goes : ℕ → Bool) → ((q : ℕ) → (q == c) ≡ false → goes q ≡ was q) → (ws : List Waiter) → elsewhere c (on_going goes ws) ≡ elsewhere c (on_going was ws)
  others-same was goes same [] = refl
  others-same was goes same (w ∷ ws) = by (w.connection == c) refl (others-same was goes same ws)
    where
      by : (b : Bool) → (w.connection == c) ≡ b → elsewhere c (on_going goes ws) ≡ elsewhere c (on_going was ws)
          → elsewhere c (cond (goes w.connection) (w ∷ on_going goes ws) (on_going goes ws)) ≡ elsewhere c (cond (was w.connection) (w ∷ on_going was ws) (on_going was ws))
      by true is rest = here-not (goes w.connection) w (on_going goes ws) is ∙ rest ∙ sym (here-not (was w.connection) w (on_going was ws) is)
      by false is rest =
          ap (λ (g : Bool). elsewhere c (cond g (w ∷ on_going goes ws) (on_going goes ws))) (same w.connection is)
          ∙ both-by (was w.connection) w (on_going goes ws) (on_going was ws) rest

  pub elsewhere-append : (ws vs : List Waiter) → elsewhere c (ws ++ vs) ≡ elsewhere c ws ++ elsewhere c vs
  elsewhere-append [] vs = refl
  elsewhere-append (x ∷ ws) vs =
      ap (λ (l : List Waiter). cond (not (x.connection == c)) (x ∷ l) l) (elsewhere-append ws vs)
      ∙ (elim (not (x.connection == c)) as (λ (b : Bool). cond b (x ∷ (elsewhere c ws ++ elsewhere c vs)) (elsewhere c ws ++ elsewhere c vs) ≡ cond b (x ∷ elsewhere c ws) (elsewhere c ws) ++ elsewhere c vs) [ true ↦ refl | false ↦ refl ])

-- .. so where only the link of c may be another, who waits elsewhere waits on
pub links-others : (c : ℕ) (old new : BTreeMap ℕ Linked) → ((q : ℕ) → (c == q) ≡ false → get nat_cmp new q ≡ get nat_cmp old q) → (o : Option Parked) → others_of (going_in new) c o ≡ others_of (going_in old) c o
links-others c old new others None = refl
links-others c old new others (Some p) =
    others-same c (going_in old) (going_in new) (λ q apart. ap (λ (o : Option Linked). option_map_or (λ (l : Linked). not l.is_closed) o false) (others q (flip q apart))) p.waiters.items
  where
    flip : (q : ℕ) → (q == c) ≡ false → (c == q) ≡ false
    flip q apart = by (c == q) refl
      where
        by : (b : Bool) → (c == q) ≡ b → (c == q) ≡ false
        by true is = absurd (let yes : (q == c) ≡ true = eq-eqb q c (sym (eqb-true c q is)) in let no : (q == c) ≡ false = apart in cc)
        by false is = is

-- A repeat on connection c joined: who waits elsewhere waits on.
module _ (c most : ℕ) (goes : ℕ → Bool) (r : Repeat) where
  joined-elsewhere : (p x : Parked) (j : Join) → JoinsBy goes most (record { connection = c; asker = r.asker }) p j x → elsewhere c (on_going goes x.waiters.items) ≡ elsewhere c (on_going goes p.waiters.items)
  joined-elsewhere p x join.Silent h = ap (λ (y : Parked). elsewhere c (on_going goes y.waiters.items)) h.1
  joined-elsewhere p x join.Waits h =
      let w : Waiter = record { connection = c; asker = r.asker } in
      let old = on_going goes p.waiters.items in
      ap (elsewhere c) h.3
      ∙ ap (elsewhere c) (going-append goes p.waiters.items (w ∷ []))
      ∙ elsewhere-append c old (on_going goes (w ∷ []))
      ∙ ap (λ (l : List Waiter). elsewhere c old ++ l) (here-not c (goes c) w [] (eq-eqb c c refl))
      ∙ append-nil (elsewhere c old)
  joined-elsewhere p x join.Full h = ap (elsewhere c) h.3
  joined-elsewhere p x join.Memory h = ap (elsewhere c) h.3

  joined-by : (step : Step) (mid out : List ℕ) (a b : Option Parked) → JoinsAs goes most c r a step b mid out → others_of goes c b ≡ others_of goes c a
  joined-by step mid out None b h = ap (others_of goes c) h.1
  joined-by step mid out (Some p) None h = absurd h
  joined-by step mid out (Some p) (Some x) h = joined-elsewhere p x h.0 h.1

  pub joined-others : (old new : ℕ → Option Parked) (step : Step) (mid out : List ℕ) → JoinsAs goes most c r (old r.number) step (new r.number) mid out → ((q : ℕ) → (q == r.number) ≡ false → new q ≡ old q)
      → (q : ℕ) → others_of goes c (new q) ≡ others_of goes c (old q)
  joined-others old new step mid out joins others q = by (q == r.number) refl
    where
      by : (b : Bool) → (q == r.number) ≡ b → others_of goes c (new q) ≡ others_of goes c (old q)
      by true is = subst (λ (n : ℕ). others_of goes c (new n) ≡ others_of goes c (old n)) (sym (eqb-true q r.number is)) (joined-by step mid out (old r.number) (new r.number) joins)
      by false is = ap (others_of goes c) (others q is)
