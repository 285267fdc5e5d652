-- The calls of a client are those of its steps.
use Rattle.std.proofs.Common.{◌≡◌, ⊎_elim, ℕ, zero, suc, ◌==◌, Bool, true, false, cond, List, [], ◌∷◌, ◌++◌, map, set, Option, Some, None, refl, sym, ap, ◌∙◌, subst, append_assoc}
use Rattle.std.specs.List.{slice_get}
use Rattle.std.proofs.lemmas.Bool.{cases_eq, eq-eqb}
use Rattle.std.proofs.lemmas.List.{append-nil}
use Rattle.std.proofs.lemmas.Option.{none-some, same_Some}
use Rattle.ft_client.specs.Clients.{Linked, is_resumed, is_taken}
use Rattle.ft_client.specs.Lives.{Life}
use Rattle.ft_client.specs.Messages.{Call}
use Rattle.ft_orb.specs.History.{Event}
use Rattle.ft_ends.specs.Laws.{CallsAreOfSteps, IsPartOf, both, call_in, calls_in, contents, left, none}
use Rattle.ft_ends.specs.Private.{calls_after}
use Rattle.ft_ends.specs.World as world
use Rattle.ft_ends.specs.World.{CallNow, Cancel, Connect, Cut, Down, KeepForwards, KeepOn, Member, Newcomer, RecallNow, RedirectTo, ResendNow, Shut, Sides, SkipTo, Step, Tick, UpTo, Wire, World, client_of, emptied, fed_off, given_out, member_of, moved, run, start, step, step_of}
use Rattle.ft_ends.proofs.Lists.{set-here, set-other}

-- Lists that are part of others.

part-none : {A : Type 0} (ys : List A) → IsPartOf [] ys
part-none [] = none
part-none (y ∷ ys) = left (part-none ys)

part-all : {A : Type 0} (xs : List A) → IsPartOf xs xs
part-all [] = none
part-all (x ∷ xs) = both (part-all xs)

part-append : {A : Type 0} {xs ys : List A} (us vs : List A) → IsPartOf xs ys → IsPartOf us vs → IsPartOf (xs ++ us) (ys ++ vs)
part-append us vs none k = k
part-append us vs (both h) k = both (part-append us vs h k)
part-append us vs (left h) k = left (part-append us vs h k)

contents-append : (xs ys : List (ℕ × Call)) → contents (xs ++ ys) ≡ contents xs ++ contents ys
contents-append [] ys = refl
contents-append (x ∷ xs) ys = ap (λ (zs : List Call). x.1 ∷ zs) (contents-append xs ys)

module _ (sides : Sides) where
  -- what a step of a client adds to its calls
  abbrev Adds : Step → Member → List (ℕ × Call) → Type 0
  Adds s m calls = (own : List (ℕ × Call)) × (calls ≡ m.life.calls ++ own) × IsPartOf (contents own) (call_in (client_of s) s)

  nothing : (s : Step) (m : Member) (calls : List (ℕ × Call)) → calls ≡ m.life.calls → Adds s m calls
  nothing s m calls same = ([], same ∙ sym (append-nil m.life.calls), part-none (call_in (client_of s) s))

  calls-joined : (past : List Event) (opened now : ℕ) (m : Member) (o : Option Wire) → (world.connected sides past opened now m o).member.life.calls ≡ m.life.calls
  calls-joined past opened now m None = append-nil m.life.calls
  calls-joined past opened now m (Some x) = refl

  calls-up : (past : List Event) (opened n now : ℕ) (m : Member) (o : Option Wire) → (world.up sides past opened n now m o).member.life.calls ≡ m.life.calls
  calls-up past opened n now m None = refl
  calls-up past opened n now m (Some x) = refl

  calls-off : (past : List Event) (opened : ℕ) (life : Life) (x : Wire) (n : ℕ) (o : Option Linked) → (fed_off sides past opened life x n o).member.life.calls ≡ life.calls
  calls-off past opened life x n None = refl
  calls-off past opened life x n (Some l) = refl

  calls-down : (past : List Event) (opened n : ℕ) (m : Member) (o : Option Wire) → (world.down sides past opened n m o).member.life.calls ≡ m.life.calls
  calls-down past opened n m None = refl
  calls-down past opened n m (Some x) = calls-off past opened _ x _ _ ∙ append-nil m.life.calls

  calls-cut : (past : List Event) (opened : ℕ) (m : Member) (o : Option Wire) → (world.cut sides past opened m o).member.life.calls ≡ m.life.calls
  calls-cut past opened m None = refl
  calls-cut past opened m (Some x) = append-nil m.life.calls

  calls-shut : (past : List Event) (opened : ℕ) (m : Member) (o : Option Wire) → (world.shut sides past opened m o).member.life.calls ≡ m.life.calls
  calls-shut past opened m None = refl
  calls-shut past opened m (Some x) = refl

  taken-part : (b : Bool) (id : ℕ) (call : Call) (k : ℕ) → IsPartOf (contents (cond b ((id, call) ∷ []) [])) (cond (k == k) (call ∷ []) [])
  taken-part b id call k =
      let here = eq-eqb k k refl in
      subst (λ t. IsPartOf (contents (cond b ((id, call) ∷ []) [])) (cond t (call ∷ []) [])) (sym here)
      (elim b as (λ t. IsPartOf (contents (cond t ((id, call) ∷ []) [])) (call ∷ [])) [ true ↦ part-all (call ∷ []) | false ↦ part-none (call ∷ []) ])

  adds : (past : List Event) (opened : ℕ) (s : Step) (m : Member) → Adds s m (moved sides past opened s m).member.life.calls
  adds past opened (CallNow k now call) m =
      (cond (is_taken now call m.life.client) ((suc m.life.client.last, call) ∷ []) [], refl, taken-part (is_taken now call m.life.client) (suc m.life.client.last) call k)
  adds past opened (RecallNow k now id call) m = (cond (is_resumed now id call m.life.client) ((id, call) ∷ []) [], refl, taken-part (is_resumed now id call m.life.client) id call k)
  adds past opened (SkipTo k id) m = ([], refl, none)
  adds past opened (KeepOn k keeps) m = ([], refl, none)
  adds past opened (KeepForwards k keeps) m = ([], refl, none)
  adds past opened (RedirectTo k id key) m = ([], refl, none)
  adds past opened (Connect k now) m = nothing (Connect k now) m _ (calls-joined past opened now m m.wire)
  adds past opened (ResendNow k now) m = ([], refl, none)
  adds past opened (UpTo k n now) m = nothing (UpTo k n now) m _ (calls-up past opened n now m m.wire)
  adds past opened (Down k n) m = nothing (Down k n) m _ (calls-down past opened n m m.wire)
  adds past opened (Cut k) m = nothing (Cut k) m _ (calls-cut past opened m m.wire)
  adds past opened (Shut k) m = nothing (Shut k) m _ (calls-shut past opened m m.wire)
  adds past opened (Cancel k id) m = ([], refl, none)
  adds past opened (Tick k now) m = ([], refl, none)

  -- .. and which calls it has made then
  pub calls-moved : (past : List Event) (opened : ℕ) (s : Step) (m : Member) → (moved sides past opened s m).member.life.calls ≡ calls_after s m.life.client m.life.calls
  calls-moved past opened (CallNow k now call) m = refl
  calls-moved past opened (RecallNow k now id call) m = refl
  calls-moved past opened (SkipTo k id) m = append-nil m.life.calls
  calls-moved past opened (KeepOn k keeps) m = append-nil m.life.calls
  calls-moved past opened (KeepForwards k keeps) m = append-nil m.life.calls
  calls-moved past opened (RedirectTo k id key) m = append-nil m.life.calls
  calls-moved past opened (Connect k now) m = calls-joined past opened now m m.wire
  calls-moved past opened (ResendNow k now) m = append-nil m.life.calls
  calls-moved past opened (UpTo k n now) m = calls-up past opened n now m m.wire
  calls-moved past opened (Down k n) m = calls-down past opened n m m.wire
  calls-moved past opened (Cut k) m = calls-cut past opened m m.wire
  calls-moved past opened (Shut k) m = calls-shut past opened m m.wire
  calls-moved past opened (Cancel k id) m = append-nil m.life.calls
  calls-moved past opened (Tick k now) m = append-nil m.life.calls

  -- where the calls of each client are part of some, they are part of those and of its step's
  part-step : (w : World) (s : Step) (calls : ℕ → List Call) → ((k : ℕ) (m : Member) → slice_get w.members k ≡ Some m → IsPartOf (contents m.life.calls) (calls k))
      → (k : ℕ) (m : Member) → slice_get (step sides w s).members k ≡ Some m → IsPartOf (contents m.life.calls) (calls k ++ call_in k s)
  part-step w s calls h k m is = by-member (slice_get w.members (client_of s)) refl is
    where
      kept : (n : Member) → slice_get w.members k ≡ Some n → IsPartOf (contents n.life.calls) (calls k ++ call_in k s)
      kept n at = subst (λ (cs : List Call). IsPartOf cs (calls k ++ call_in k s)) (append-nil (contents n.life.calls)) (part-append [] (call_in k s) (h k n at) (part-none (call_in k s)))

      by-member : (o : Option Member) → slice_get w.members (client_of s) ≡ o → slice_get (step_of sides w s o).members k ≡ Some m → IsPartOf (contents m.life.calls) (calls k ++ call_in k s)
      by-member None at is = kept m is
      by-member (Some n) at is =
          let v = moved sides w.past w.opened s n in
          let next : Member = record v.member { life = emptied v.member.life } in
          ⊎_elim
          (λ (own : k ≡ client_of s).
          let same : next ≡ m = same_Some next m (sym (set-here (client_of s) n next w.members at) ∙ ap (slice_get (set w.members (client_of s) next)) (sym own) ∙ is) in
          let added = adds w.past w.opened s n in
          let whole = part-append (contents added.0) (call_in (client_of s) s) (h (client_of s) n at) added.2 in
          let mine : IsPartOf (contents next.life.calls) (calls (client_of s) ++ call_in (client_of s) s) = subst (λ (cs : List Call). IsPartOf cs (calls (client_of s) ++ call_in (client_of s) s)) (sym (ap contents added.1 ∙ contents-append n.life.calls added.0)) whole in
          subst (λ (j : ℕ). IsPartOf (contents m.life.calls) (calls j ++ call_in j s)) (sym own) (subst (λ (p : Member). IsPartOf (contents p.life.calls) (calls (client_of s) ++ call_in (client_of s) s)) same mine))
          (λ (apart : k ≡ client_of s → ⊥). kept m (sym (set-other k (client_of s) next w.members apart) ∙ is)) (cases_eq k (client_of s))

  part-run : (w : World) (ss : List Step) (calls : ℕ → List Call) → ((k : ℕ) (m : Member) → slice_get w.members k ≡ Some m → IsPartOf (contents m.life.calls) (calls k))
      → (k : ℕ) (m : Member) → slice_get (run sides w ss).members k ≡ Some m → IsPartOf (contents m.life.calls) (calls k ++ calls_in k ss)
  part-run w [] calls h k m is = subst (λ (cs : List Call). IsPartOf (contents m.life.calls) cs) (sym (append-nil (calls k))) (h k m is)
  part-run w (s ∷ ss) calls h k m is =
      subst (λ (cs : List Call). IsPartOf (contents m.life.calls) cs) (append_assoc (calls k) (call_in k s) (calls_in k ss))
      (part-run (step sides w s) ss (λ j. calls j ++ call_in j s) (part-step w s calls h) k m is)

new-part : (newcomers : List Newcomer) (k : ℕ) (m : Member) → slice_get (map member_of newcomers) k ≡ Some m → IsPartOf (contents m.life.calls) []
new-part [] k m is = absurd (none-some m is)
new-part (n ∷ ns) zero m is = subst (λ (p : Member). IsPartOf (contents p.life.calls) []) (same_Some (member_of n) m is) none
new-part (n ∷ ns) (suc k) m is = new-part ns k m is

pub calls-are-of-steps : CallsAreOfSteps
calls-are-of-steps sides newcomers steps k m is = part-run sides (start newcomers) steps (λ j. []) (new-part newcomers) k m is
