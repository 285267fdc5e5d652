-- What is kept of the requests that wait, as messages come.
use Rattle.std.proofs.Common.{◌≡◌, ℕ, Bool, true, false, ◌||◌, ◌&&◌, cond, List, [], ◌∷◌, ◌++◌, Option, Some, None, refl, sym, ap, ◌∙◌, true≢false}
use Rattle.std.specs.BTreeMap.{is_at as is_at_key}
use Rattle.std.specs.Global.{Vec}
use Rattle.std.specs.Map.{lookup}
use Rattle.std.specs.Option.{option_map_or}
use Rattle.giop_tap.specs.declared.place.Place.{Place}
use Rattle.giop_tap.specs.declared.sender.Sender.{Sender}
use Rattle.giop_tap.specs.declared.place.Wanted.{Wanted}
use Rattle.giop_tap.specs.declared.place.Wanted.TheVariants.{Reply, Location}
use Rattle.giop_tap.specs.Pairing.{Asked, is_asked, is_wanted, latest, number_of, without_latest}
use Rattle.giop_tap.specs.Waiting.{AreRising, AreWaiting, Waits, is_at, is_same_place, last_of, later_of, numbers_at, numbers_in, place_cmp, without_last}
use Rattle.giop_tap.proofs.Places.{apart, asked_at, place-is, waits-here}
use Rattle.giop_tap.proofs.Stacks.{either-latest, last-latest, numbers-passing, push-apart, push-here, without-apart, without-here}

-- what stands under a key, where one changed
pub under-cond : {V A : Type 0} (f : V → A) (d : A) (b : Bool) (w : V) (o : Option V) → option_map_or f (cond b (Some w) o) d ≡ cond b (f w) (option_map_or f o d)
under-cond f d true w o = refl
under-cond f d false w o = refl

-- a request more
pub asked-waiting : (m n : Waits) (p : Place) (number : ℕ) (ws : List Asked) → AreWaiting m ws
    → ((q : Place) → numbers_in n q ≡ cond (is_same_place p q) (numbers_in m p ++ number ∷ []) (numbers_in m q)) → AreWaiting n (ws ++ asked_at number p ∷ [])
asked-waiting m n p number ws stands changed q = by (is_same_place p q) refl
  where
    by : (b : Bool) → is_same_place p q ≡ b → numbers_in n q ≡ numbers_at q (ws ++ asked_at number p ∷ [])
    by true e =
        changed q ∙ ap (λ (b : Bool). cond b (numbers_in m p ++ number ∷ []) (numbers_in m q)) e ∙ ap (λ (ns : List ℕ). ns ++ number ∷ []) (stands p)
        ∙ sym (push-here p ws (asked_at number p) (waits-here number p)) ∙ ap (λ (r : Place). numbers_at r (ws ++ asked_at number p ∷ [])) (place-is p q e)
    by false e =
        changed q ∙ ap (λ (b : Bool). cond b (numbers_in m p ++ number ∷ []) (numbers_in m q)) e ∙ stands q
        ∙ sym (push-apart q ws (asked_at number p) (apart p q (asked_at number p) e (waits-here number p)))

-- a request less
pub answered-waiting : (m n : Waits) (p : Place) (ws : List Asked) → AreWaiting m ws
    → ((q : Place) → numbers_in n q ≡ cond (is_same_place p q) (without_last (numbers_in m p)) (numbers_in m q)) → AreWaiting n (without_latest (is_at p) ws)
answered-waiting m n p ws stands changed q = by (is_same_place p q) refl
  where
    by : (b : Bool) → is_same_place p q ≡ b → numbers_in n q ≡ numbers_at q (without_latest (is_at p) ws)
    by true e =
        changed q ∙ ap (λ (b : Bool). cond b (without_last (numbers_in m p)) (numbers_in m q)) e ∙ ap without_last (stands p ∙ numbers-passing p ws)
        ∙ sym (without-here (is_at p) ws) ∙ sym (numbers-passing p (without_latest (is_at p) ws)) ∙ ap (λ (r : Place). numbers_at r (without_latest (is_at p) ws)) (place-is p q e)
    by false e =
        changed q ∙ ap (λ (b : Bool). cond b (without_last (numbers_in m p)) (numbers_in m q)) e ∙ stands q ∙ numbers-passing q ws
        ∙ sym (without-apart (is_at p) (is_at q) (λ a here. apart p q a e here) ws) ∙ sym (numbers-passing q (without_latest (is_at p) ws))

-- the latest at a place
pub latest-kept : (m : Waits) (p : Place) (ws : List Asked) → AreWaiting m ws → last_of (numbers_in m p) ≡ number_of (latest (is_at p) ws)
latest-kept m p ws stands = ap last_of (stands p ∙ numbers-passing p ws) ∙ last-latest (is_at p) ws

-- no request is about an earlier one
pub none-meant : (test : Asked → Bool) → ((a : Asked) → test a ≡ false) → (ws : List Asked) → latest test ws ≡ None
none-meant test none [] = refl
none-meant test none (a ∷ later) = rw (none-meant test none later, none a) refl

-- the latest of a side and an id, whatever it waits for

some-kind : (b : Bool) (w : Wanted) → b ≡ ((b && is_wanted Reply w) || (b && is_wanted Location w))
some-kind true Reply = refl
some-kind true Location = refl
some-kind false w = refl

one-kind : (b : Bool) (w : Wanted) → (b && is_wanted Reply w) ≡ true → (b && is_wanted Location w) ≡ false
one-kind true Reply is = refl
one-kind true Location is = absurd (true≢false (sym is))
one-kind false w is = refl

pub latest-either : (m : Waits) (connection : ℕ) (sender : Sender) (id : ℕ) (ws : List Asked) → AreRising ws → AreWaiting m ws
    → later_of (last_of (numbers_in m (record { connection = connection; sender = sender; wanted = Reply; id = id }))) (last_of (numbers_in m (record { connection = connection; sender = sender; wanted = Location; id = id })))
    ≡ number_of (latest (is_asked connection sender id) ws)
latest-either m connection sender id ws rising stands =
    let p : Place = record { connection = connection; sender = sender; wanted = Reply; id = id } in
    let q : Place = record { connection = connection; sender = sender; wanted = Location; id = id } in
    ap (λ (o : Option ℕ). later_of o (last_of (numbers_in m q))) (latest-kept m p ws stands)
    ∙ ap (λ (o : Option ℕ). later_of (number_of (latest (is_at p) ws)) o) (latest-kept m q ws stands)
    ∙ either-latest (is_at p) (is_at q) (is_asked connection sender id) (λ a. some-kind (is_asked connection sender id a) a.wanted) (λ a. one-kind (is_asked connection sender id a) a.wanted) ws rising

-- a place that is kept for nothing is forgotten
pub forgotten : (m n : Waits) (p : Place) → numbers_in m p ≡ []
    → ((q : Place) → lookup (is_at_key (place_cmp q)) n ≡ cond (is_same_place p q) None (lookup (is_at_key (place_cmp q)) m)) → (q : Place) → numbers_in n q ≡ numbers_in m q
forgotten m n p empty changed q = by (is_same_place p q) refl
  where
    by : (b : Bool) → is_same_place p q ≡ b → numbers_in n q ≡ numbers_in m q
    by true e =
        ap (λ o. option_map_or (λ (v : Vec ℕ). v.items) o []) (changed q) ∙ ap (λ (b : Bool). option_map_or (λ (v : Vec ℕ). v.items) (cond b None (lookup (is_at_key (place_cmp q)) m)) []) e
        ∙ sym empty ∙ ap (λ (r : Place). numbers_in m r) (place-is p q e)
    by false e =
        ap (λ o. option_map_or (λ (v : Vec ℕ). v.items) o []) (changed q) ∙ ap (λ (b : Bool). option_map_or (λ (v : Vec ℕ). v.items) (cond b None (lookup (is_at_key (place_cmp q)) m)) []) e
