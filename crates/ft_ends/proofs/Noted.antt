-- The calls that were noted beside a client, and those that it redirects.
use Rattle.std.proofs.Common.{◌≡◌, ℕ, suc, ◌==◌, ◌&&◌, nat_lt, ℤ, pos, Bool, true, false, cond, is_some, List, [], ◌∷◌, ◌++◌, length, map, Option, Some, None, Result, Ok, Err, refl, sym, ap, ◌∙◌, subst}
use Rattle.std.specs.List.{find}
use Rattle.std.specs.Ordering.{int_eq}
use Rattle.std.specs.Result.{IfErr, IfOk, OnErr, OnOk, is_ok, result_ok}
use Rattle.std.proofs.lemmas.Bool.{and_left, and_right, eq-eqb, eqb-true, false≢true}
use Rattle.std.proofs.lemmas.Bool.Decides.{Decides-int_eq}
use Rattle.std.proofs.lemmas.List.{map-append}
use Rattle.std.proofs.lemmas.Option.{none-some, same_Some}
use Rattle.cdr_core.specs.View.{values_of}
use Rattle.cdr_core.specs.declared.values.Val.{Val}
use Rattle.ft_client.specs.declared.client.FtClient.{FtClient}
use Rattle.ft_client.specs.declared.error.CallError.{CallError}
use Rattle.ft_client.specs.declared.error.RecallError.{RecallError}
use Rattle.ft_client.specs.declared.error.RedirectError.{RedirectError}
use Rattle.ft_client.specs.declared.error.RedirectError.TheVariants as redirecting
use Rattle.ft_client.specs.Calling.{IsCallError, IsFitting, IsRecallError, IsRedirectError, call_of, is_led}
use Rattle.ft_client.specs.Clients.{Called, Client, Pending, Redirected, Resumed, after, asked_at, find_pending, fits, is_redirected, is_resumed, is_taken, made, transmission_to}
use Rattle.ft_client.specs.Lives.{call_at}
use Rattle.ft_client.specs.Messages.{Call, keeps_place, request_behind, typed}
use Rattle.ft_client.specs.Standing.{FtStands, down}
use Rattle.ft_ends.specs.declared.taken.Taken.{Taken as CodeTaken}
use Rattle.ft_ends.specs.Playing.{call_as}
use Rattle.ft_ends.specs.Private.{AreCalled, AreTaken, IsRecallRefusal, IsRedirectRefusal, IsRefusal, noted, numbered_call, taken_of}
use Rattle.ft_ends.proofs.Calling.{recall-refused, refused-is}
use Rattle.ft_ends.proofs.Small.{found-each}

-- what holds of an `Ok`, where more is known of it
pub ok-with : {T E A : Type 0} (P Q : T → Type 0) (r : Result T E) → ((x : T) → P x → A → Q x) → IfOk r P → OnOk r A → IfOk r Q
ok-with P Q (Ok x) f p a = f x p a
ok-with P Q (Err e) f p a = tt

-- A call that is noted.

pub taken-more : (old new : List CodeTaken) (o : Option ℤ) (call : Call) (calls more : List (ℕ × Call)) → map taken_of new ≡ map taken_of old ++ noted o call → noted o call ≡ map numbered_call more → AreTaken old calls → AreTaken new (calls ++ more)
taken-more old new o call calls more is same h = is ∙ (λ i. h i ++ same i) ∙ sym (map-append numbered_call calls more)

module _ (client : FtClient) (now : ℕ) (call asked : Call) (alike : call ≡ asked) (m : Client) (stands : FtStands client m) where
  -- what is noted of a call is what its client took
  pub called-noted : (r : Result ℤ CallError) (o : Option ℤ) → o ≡ result_ok r → IfOk r (λ id. (c : Client) → FtStands client c → id ≡ pos (suc c.last)) → OnOk r ((c : Client) → FtStands client c → is_taken now call c ≡ true)
      → IfErr r (λ e. (c : Client) → FtStands client c → IsCallError now call c e) → IfErr r IsRefusal → noted o asked ≡ map numbered_call (made (Called now asked) m)
  called-noted r o is number taken err refusal =
      subst (λ (k : Call). noted o k ≡ map numbered_call (made (Called now k) m)) alike (ap (λ (p : Option ℤ). noted p call) is ∙ by r number taken err refusal)
    where
      by : (r : Result ℤ CallError) → IfOk r (λ id. (c : Client) → FtStands client c → id ≡ pos (suc c.last)) → OnOk r ((c : Client) → FtStands client c → is_taken now call c ≡ true)
          → IfErr r (λ e. (c : Client) → FtStands client c → IsCallError now call c e) → IfErr r IsRefusal → noted (result_ok r) call ≡ map numbered_call (made (Called now call) m)
      by (Ok id) number taken err refusal =
          ap (λ (z : ℤ). (z, call) ∷ []) (number m stands) ∙ sym (ap (λ b. map numbered_call (cond b ((suc m.last, call) ∷ []) [])) (taken m stands))
      by (Err e) number taken err refusal = sym (ap (λ b. map numbered_call (cond b ((suc m.last, call) ∷ []) [])) (refused-is now call m e refusal (err m stands)))

  -- .. and of one that it took up again
  pub recalled-noted : (id : ℕ) (r : Result (Unit {0}) RecallError) → (OnOk r ((c : Client) → FtStands client c → is_resumed now id call c ≡ true)) → is_ok r ≡ true → (pos id, asked) ∷ [] ≡ map numbered_call (made (Resumed now id asked) m)
  recalled-noted id (Ok u) taken is =
      subst (λ (k : Call). (pos id, k) ∷ [] ≡ map numbered_call (made (Resumed now id k) m)) alike (sym (ap (λ b. map numbered_call (cond b ((id, call) ∷ []) [])) (taken m stands)))
  recalled-noted id (Err e) taken is = absurd (false≢true is)

  pub unrecalled-noted : (id : ℕ) (r : Result (Unit {0}) RecallError) → IfErr r (λ e. (c : Client) → FtStands client c → IsRecallError now id call c e) → IfErr r IsRecallRefusal → is_ok r ≡ false → [] ≡ map numbered_call (made (Resumed now id asked) m)
  unrecalled-noted id (Ok u) err refusal is = absurd (false≢true (sym is))
  unrecalled-noted id (Err e) err refusal is =
      subst (λ (k : Call). [] ≡ map numbered_call (made (Resumed now id k) m)) alike (sym (ap (λ b. map numbered_call (cond b ((id, call) ∷ []) [])) (recall-refused now id call m e refusal (err m stands))))

-- A call that is found.

unlike : (y z : ℤ) → (y ≡ z → ⊥) → int_eq y z ≡ false
unlike y z apart = by (int_eq y z) (Decides-int_eq y z).0
  where
    by : (b : Bool) → (b ≡ true → y ≡ z) → b ≡ false
    by false h = refl
    by true h = absurd (apart (h refl))

-- a call of a number is noted under it
pub found-noted : (r : ℕ) (taken : List CodeTaken) (calls : List (ℕ × Call)) (call : Call) → AreTaken taken calls → call_at calls r ≡ Some call → (t : CodeTaken) × (find (λ x. int_eq x.number (pos r)) taken ≡ Some t) × (call_as t.call.now ≡ call)
found-noted r [] [] call h at = absurd (none-some call at)
found-noted r [] (x ∷ calls) call h at = absurd cc
found-noted r (t ∷ taken) [] call h at = absurd (none-some call at)
found-noted r (t ∷ taken) (x ∷ calls) call h at =
    let head : taken_of t ≡ numbered_call x = cc (h) in
    let rest : AreTaken taken calls = cc (h) in
    let number : t.number ≡ pos x.0 = ap (λ (y : ℤ × Call). y.0) head in
    elim (x.0 == r) as (λ b. (x.0 == r) ≡ b → cond b (Some x.1) (call_at calls r) ≡ Some call → (u : CodeTaken) × (find (λ y. int_eq y.number (pos r)) (t ∷ taken) ≡ Some u) × (call_as u.call.now ≡ call)) [
      | true ↦ λ same is.
          let here : int_eq t.number (pos r) ≡ true = (Decides-int_eq t.number (pos r)).1 (number ∙ ap pos (eqb-true x.0 r same)) in
          (t, ap (λ b. cond b (Some t) (find (λ y. int_eq y.number (pos r)) taken)) here, ap (λ (y : ℤ × Call). y.1) head ∙ same_Some x.1 call is)
      | false ↦ λ other is.
          let found = found-noted r taken calls call rest is in
          let apart : t.number ≡ pos r → ⊥ = λ e. let one : pos x.0 ≡ pos r = sym number ∙ e in let two : x.0 ≡ r = cc (one) in false≢true (sym other ∙ eq-eqb x.0 r two) in
          (found.0, ap (λ b. cond b (Some t) (find (λ y. int_eq y.number (pos r)) taken)) (unlike t.number (pos r) apart) ∙ found.1, found.2)
    ] refl at

-- a pending call of a number has it
pub pending-number : (id : ℤ) (p : Pending) (ps : List Pending) → find_pending id ps ≡ Some p → pos p.id ≡ id
pending-number id p [] is = absurd (none-some p is)
pending-number id p (q ∷ ps) is =
    elim (int_eq (pos q.id) id) as (λ b. int_eq (pos q.id) id ≡ b → cond b (Some q) (find_pending id ps) ≡ Some p → pos p.id ≡ id) [
      | true ↦ λ same found. ap (λ (y : Pending). pos y.id) (sym (same_Some q p found)) ∙ (Decides-int_eq (pos q.id) id).0 same
      | false ↦ λ other found. pending-number id p ps found
    ] refl is

-- A call that is redirected.

module _ (client : FtClient) (m : Client) (calls : List (ℕ × Call)) (taken : List CodeTaken) (id : ℤ) (key : List ℕ) (stands : FtStands client m) (are : AreTaken taken calls) (called : AreCalled calls m.pending) where
  -- a pending call of the number is noted
  pending-noted : (p : Pending) → find_pending id m.pending ≡ Some p → (t : CodeTaken) × (find (λ x. int_eq x.number id) taken ≡ Some t) × (call_as t.call.now ≡ p.call)
  pending-noted p is =
      subst (λ (z : ℤ). (t : CodeTaken) × (find (λ x. int_eq x.number z) taken ≡ Some t) × (call_as t.call.now ≡ p.call)) (pending-number id p m.pending is)
      (found-noted p.id taken calls p.call are (found-each (λ q. call_at calls q.id ≡ Some q.call) id p m.pending is called.call))

  still : is_redirected key m (find_pending id m.pending) ≡ false → FtStands client m → FtStands client (after (down m.limits) (Redirected id key) m)
  still none h = subst (λ (n : Client). FtStands client n) (sym (ap (λ b. cond b (record m { pending = asked_at id key m.pending }) m) none)) h

  -- where none is noted nothing happens
  pub unfound-is : find (λ x. int_eq x.number id) taken ≡ None → FtStands client (after (down m.limits) (Redirected id key) m)
  unfound-is none = still (by (find_pending id m.pending) refl) stands
    where
      by : (o : Option Pending) → find_pending id m.pending ≡ o → is_redirected key m o ≡ false
      by None is = refl
      by (Some p) is = let t = pending-noted p is in absurd (none-some t.0 (sym none ∙ t.1))

  module _ (t : CodeTaken) (there : find (λ x. int_eq x.number id) taken ≡ Some t) where
    abbrev asked : ℕ → Call
    asked = call_of key t.call.now.operation.items t.call.now.arguments.items

    -- what is noted is the pending call
    same-call : (p : Pending) → find_pending id m.pending ≡ Some p → call_as t.call.now ≡ p.call
    same-call p is = let n = pending-noted p is in ap (λ (u : CodeTaken). call_as u.call.now) (same_Some t n.0 (sym there ∙ n.1)) ∙ n.2

    -- one that is not led elsewhere stays as it is
    unled-is : (o : Option Pending) → is_led o ≡ false → is_redirected key m o ≡ false
    unled-is None none = refl
    unled-is (Some p) none =
        let t = transmission_to m.version m.client_id p.id 1 key p.call in
        and_left (is_some p.led) (keeps_place t && nat_lt (length (request_behind t)) 4294967296) none

    -- .. and one that would be too long
    long-is : IsFitting id asked m false → is_redirected key m (find_pending id m.pending) ≡ false
    long-is h =
        let p = h.0 in
        let same = same-call p h.1 in
        let u = transmission_to m.version m.client_id p.id 1 key p.call in
        let own : fits p.id m (asked t.call.now.expiration) ≡ false = subst (λ (k : Call). fits p.id m (asked k.expiration) ≡ false) (sym same) h.3 in
        let long : nat_lt (length (request_behind u)) 4294967296 ≡ false = subst (λ (k : Call). nat_lt (length (request_behind (transmission_to m.version m.client_id p.id 1 key k))) 4294967296 ≡ false) same own in
        ap (is_redirected key m) h.1 ∙ and_right (is_some p.led) (keeps_place u && nat_lt (length (request_behind u)) 4294967296) (and_right (keeps_place u) (nat_lt (length (request_behind u)) 4294967296) long)

    redirected-as : (new : FtClient) (r : Result (Unit {0}) RedirectError)
        → OnOk r ((c : Client) → FtStands client c → IsFitting id asked c true)
        → OnOk r ((c : Client) (p : Pending) → FtStands client c → find_pending id c.pending ≡ Some p → p.call.form ≡ typed → p.call.operation ≡ t.call.now.operation.items → p.call.arguments ≡ values_of t.call.now.arguments.items → FtStands new (after (down c.limits) (Redirected id key) c))
        → IfErr r (λ e. (c : Client) → FtStands client c → IsRedirectError id asked c e) → OnErr r ((c : Client) → FtStands client c → FtStands new c) → IfErr r IsRedirectRefusal
        → FtStands new (after (down m.limits) (Redirected id key) m)
    redirected-as new (Ok u) fitting stood err same refusal =
        let f = fitting m stands in
        let own = sym (same-call f.0 f.1) in
        stood m f.0 stands f.1 (ap (λ (k : Call). k.form) own) (ap (λ (k : Call). k.operation) own) (ap (λ (k : Call). k.arguments) own)
    redirected-as new (Err e) fitting stood err same refusal =
        subst (λ (n : Client). FtStands new n) (sym (ap (λ b. cond b (record m { pending = asked_at id key m.pending }) m) (by e refusal (err m stands)))) (same m stands)
      where
        by : (e : RedirectError) → IsRedirectRefusal e → IsRedirectError id asked m e → is_redirected key m (find_pending id m.pending) ≡ false
        by redirecting.NotForwarded h is = unled-is (find_pending id m.pending) is
        by redirecting.TooLong h is = long-is is
        by redirecting.Memory h is = absurd h

    -- what the client is asked to redirect, by words that are those of the call
    abbrev Redirects : ℤ → List ℕ → List Val → FtClient → Result (Unit {0}) RedirectError → Type 0
    Redirects z operation arguments new r =
        OnOk r ((c : Client) → FtStands client c → IsFitting z (call_of key operation arguments) c true)
        × OnOk r ((c : Client) (p : Pending) → FtStands client c → find_pending z c.pending ≡ Some p → p.call.form ≡ typed → p.call.operation ≡ operation → p.call.arguments ≡ values_of arguments → FtStands new (after (down c.limits) (Redirected z key) c))
        × IfErr r (λ e. (c : Client) → FtStands client c → IsRedirectError z (call_of key operation arguments) c e)

    pub redirected-by : (z : ℤ) (operation : List ℕ) (arguments : List Val) → z ≡ id → operation ≡ t.call.now.operation.items → arguments ≡ t.call.now.arguments.items → (new : FtClient) (r : Result (Unit {0}) RedirectError)
        → Redirects z operation arguments new r → OnErr r ((c : Client) → FtStands client c → FtStands new c) → IfErr r IsRedirectRefusal → FtStands new (after (down m.limits) (Redirected id key) m)
    redirected-by z operation arguments is_id is_operation are_arguments new r h same refusal =
        let own =
        subst (λ (x : ℤ). Redirects x t.call.now.operation.items t.call.now.arguments.items new r) is_id
        (subst (λ (o : List ℕ). Redirects z o t.call.now.arguments.items new r) is_operation (subst (λ (vs : List Val). Redirects z operation vs new r) are_arguments h)) in
        redirected-as new r own.0 own.1 own.2 same refusal
