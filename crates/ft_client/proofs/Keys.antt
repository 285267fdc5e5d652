-- Each call is asked for under its own object key, or under one that a redirection of it gave.
use Rattle.std.proofs.Common.{◌≡◌, ◌⊎◌, inl, inr, ℕ, suc, ◌&&◌, nat_lt, ℤ, pos, Bool, true, false, cond, List, [], ◌∷◌, ◌++◌, Option, Some, None, refl, sym, subst, arith}
use Rattle.std.specs.List.{AllByRecursion, Contains}
use Rattle.std.specs.Ordering.{int_eq}
use Rattle.std.proofs.lemmas.Bool.Decides.{Decides-int_eq}
use Rattle.giop_core.specs.Content.{Rest}
use Rattle.giop_core.specs.declared.header.Version.{Version}
use Rattle.giop_link.specs.Hearing.{Ending, Hearing, news}
use Rattle.ft_client.specs.Clients.{Called, Client, Ended, Fed, Happening, Joined, Kept, KeptForwards, Linked, Parted, Pending, Recalled, Redirected, Resent, Resumed, Skipped, Taken, Ticked, after, answered, asked_at, begun, completed_if, ended_by, ending_of, find_pending, is_due, is_in_time, is_kept, is_redirected, is_resumed, is_sent_as, is_taken, is_unsettled, led_by, parted_at, placed, placed_on, put_off, recalled, resent, resent_if, says, says_again, says_placed, says_recalled, says_resent, settled, settled_all, staying, told_of, transmission_to, unsent, waiting, withdrawn}
use Rattle.ft_client.specs.Laws.{CallsKeepTheirKeys}
use Rattle.ft_client.specs.Lives.{IsAskedAt, Life, goes_on, lived, moment_of, new_life, redirection, redirections, sent_at}
use Rattle.ft_client.specs.Messages.{Answer, Asked, Call, Transmission, is_oneway, located, replied, wish_of}
use Rattle.ft_client.proofs.Leaving.{staying-each}
use Rattle.ft_client.proofs.Living.{each-append, each-weaker, without-each}

-- Lists.

-- what holds of each of two lists together holds of both
each-parts : {X : Type 0} (P : X → Type 0) (xs ys : List X) → AllByRecursion P (xs ++ ys) → AllByRecursion P xs × AllByRecursion P ys
each-parts P [] ys h = (tt, h)
each-parts P (x ∷ xs) ys h = let rest = each-parts P xs ys h.1 in ((h.0, rest.0), rest.1)

contains-later : {X : Type 0} (y : X) (xs : List X) (x : X) → Contains xs x → Contains (y ∷ xs) x
contains-later y xs x h = let lt = h.1 in (suc h.0, omega (arith, lt), h.2)

each-itself : {X : Type 0} (xs : List X) → AllByRecursion (Contains xs) xs
each-itself [] = tt
each-itself (x ∷ xs) = ((0, omega arith, refl), each-weaker (Contains xs) (Contains (x ∷ xs)) (contains-later x xs) xs (each-itself xs))

module _ (keys : List (ℤ × List ℕ)) where
  -- asked for under its own object key, or under one that these give its number
  abbrev IsKeyed : Pending → Type 0
  IsKeyed p = (p.at ≡ p.call.object_key) ⊎ Contains keys (pos p.id, p.at)

  abbrev AreKeyed : List Pending → Type 0
  AreKeyed ps = AllByRecursion IsKeyed ps

  abbrev AreAsked : List (ℕ × Transmission) → Type 0
  AreAsked xs = AllByRecursion (λ x. IsAskedAt keys x.1) xs

  -- What is left of pending calls.

  unsent-keyed : (ps : List Pending) → AreKeyed ps → AreKeyed (unsent ps)
  unsent-keyed [] h = tt
  unsent-keyed (p ∷ ps) h = (h.0, unsent-keyed ps h.1)

  resent-keyed : (now n : ℕ) (ps : List Pending) → AreKeyed ps → AreKeyed (resent now n ps)
  resent-keyed now n [] h = tt
  resent-keyed now n (p ∷ ps) h =
      elim (is_due now n p) as (λ b. AreKeyed (cond b (record p { sent = Some (suc n) } ∷ resent now (suc n) ps) (p ∷ resent now n ps))) [ true ↦ (h.0, resent-keyed now (suc n) ps h.1) | false ↦ (h.0, resent-keyed now n ps h.1) ]

  put_off-keyed : (r : ℕ) (led : Option Rest) (ps : List Pending) → AreKeyed ps → AreKeyed (put_off r led ps)
  put_off-keyed r led [] h = tt
  put_off-keyed r led (p ∷ ps) h =
      elim (is_sent_as r p.sent) as (λ b. AreKeyed (cond b (record p { sent = None; led = led } ∷ ps) (p ∷ put_off r led ps))) [ true ↦ h | false ↦ (h.0, put_off-keyed r led ps h.1) ]

  asked_at-keyed : (id : ℤ) (key : List ℕ) (ps : List Pending) → Contains keys (id, key) → AreKeyed ps → AreKeyed (asked_at id key ps)
  asked_at-keyed id key [] given h = tt
  asked_at-keyed id key (p ∷ ps) given h =
      elim (int_eq (pos p.id) id) as (λ b. int_eq (pos p.id) id ≡ b → AreKeyed (cond b (record p { at = key; led = None } ∷ ps) (p ∷ asked_at id key ps))) [
        | true ↦ λ is. (inr (subst (λ (x : ℤ). Contains keys (x, key)) (sym ((Decides-int_eq (pos p.id) id).0 is)) given), h.1)
        | false ↦ λ is. (h.0, asked_at-keyed id key ps given h.1)
      ] refl

  -- What happens to a client.

  keyed-if : (o : Option ℕ) (ended : Ended) (m : Client) → AreKeyed m.pending → AreKeyed (completed_if o ended m).pending
  keyed-if None ended m h = h
  keyed-if (Some id) ended m h = without-each IsKeyed id m.pending h

  keyed-answered : (keeps : Bool) (i : ℕ) (led : Option Rest) (ended : Ended) (m : Client) → AreKeyed m.pending → AreKeyed (answered keeps i led ended m).pending
  keyed-answered true i led ended m h = put_off-keyed i led m.pending h
  keyed-answered false i led ended m h = keyed-if (waiting i m.pending) ended m h

  keyed-settled : (a : Answer) (m : Client) → AreKeyed m.pending → AreKeyed (settled a m).pending
  keyed-settled (replied i shown) m h = keyed-answered (is_kept shown m) i (led_by shown) (ended_by shown) m h
  keyed-settled (located i shown) m h = h

  keyed-settled_all : (answers : List Answer) (m : Client) → AreKeyed m.pending → AreKeyed (settled_all answers m).pending
  keyed-settled_all [] m h = h
  keyed-settled_all (a ∷ answers) m h = keyed-settled_all answers (settled a m) (keyed-settled a m h)

  keyed-told : (down : Hearing Answer) (octets : List ℕ) (m : Client) (l : Option Linked) → AreKeyed m.pending → AreKeyed (told_of down octets m l).pending
  keyed-told down octets m None h = h
  keyed-told down octets m (Some l) h = keyed-settled_all (news down l.received octets) (record m { link = Some (record l { received = l.received ++ octets }) }) h

  keyed-parted_at : (e : Option Ending) (m : Client) → AreKeyed m.pending → AreKeyed (parted_at e m).pending
  keyed-parted_at None m h = h
  keyed-parted_at (Some e) m h = unsent-keyed m.pending h

  keyed-recalled : (o : Option Pending) (m : Client) → AreKeyed m.pending → AreKeyed (recalled o m).pending
  keyed-recalled None m h = h
  keyed-recalled (Some p) m h = without-each IsKeyed p.id m.pending h

  keyed-redirected : (b : Bool) (id : ℤ) (key : List ℕ) (m : Client) → Contains keys (id, key) → AreKeyed m.pending → AreKeyed (cond b (record m { pending = asked_at id key m.pending }) m).pending
  keyed-redirected true id key m given h = asked_at-keyed id key m.pending given h
  keyed-redirected false id key m given h = h

  keyed-again : (now n : ℕ) (ps : List Pending) → AreKeyed ps → AreKeyed (staying is_unsettled (resent now n ps))
  keyed-again now n ps h = staying-each is_unsettled IsKeyed (resent now n ps) (resent-keyed now n ps h)

  keyed-resent_if : (now : ℕ) (m : Client) (l : Option Linked) → AreKeyed m.pending → AreKeyed (resent_if now m l).pending
  keyed-resent_if now m None h = h
  keyed-resent_if now m (Some l) h = keyed-again now l.given m.pending h

  keyed-called : (id : ℕ) (call : Call) (sent : Option ℕ) (ps : List Pending) → AreKeyed ps → AreKeyed (ps ++ begun id call sent ∷ [])
  keyed-called id call sent ps h = each-append IsKeyed ps (begun id call sent ∷ []) h (inl refl, tt)

  keyed-placed_on : (b : Bool) (id : ℕ) (call : Call) (m : Client) (l : Linked) → AreKeyed m.pending → AreKeyed (placed_on b id call m l).pending
  keyed-placed_on true id call m l h = h
  keyed-placed_on false id call m l h = keyed-called id call (Some (suc l.given)) m.pending h

  keyed-placed : (id : ℕ) (call : Call) (m : Client) (l : Option Linked) → AreKeyed m.pending → AreKeyed (placed id call m l).pending
  keyed-placed id call m None h = keyed-called id call None m.pending h
  keyed-placed id call m (Some l) h = keyed-placed_on (is_oneway (wish_of call.form)) id call m l h

  keyed-made : (b : Bool) (id : ℕ) (call : Call) (m : Client) → AreKeyed m.pending → AreKeyed (cond b (placed id call m m.link) m).pending
  keyed-made true id call m h = keyed-placed id call m m.link h
  keyed-made false id call m h = h

  keyed-last : (b : Bool) (id : ℕ) (m : Client) → AreKeyed m.pending → AreKeyed (cond b (record m { last = id }) m).pending
  keyed-last true id m h = h
  keyed-last false id m h = h

  keyed-after : (down : Hearing Answer) (h : Happening) (m : Client) → AllByRecursion (Contains keys) (redirection h) → AreKeyed m.pending → AreKeyed (after down h m).pending
  keyed-after down (Called now call) m given k = keyed-made (is_taken now call m) (suc m.last) call m k
  keyed-after down (Resumed now id call) m given k = keyed-made (is_resumed now id call m) id call m k
  keyed-after down (Skipped id) m given k = keyed-last (nat_lt m.last id && nat_lt id 2147483648) id m k
  keyed-after down (Kept keeps) m given k = k
  keyed-after down (KeptForwards keeps) m given k = k
  keyed-after down (Redirected id key) m given k = keyed-redirected (is_redirected key m (find_pending id m.pending)) id key m given.0 k
  keyed-after down (Joined now) m given k = keyed-again now 0 (unsent m.pending) (unsent-keyed m.pending k)
  keyed-after down (Resent now) m given k = keyed-resent_if now m m.link k
  keyed-after down (Fed octets) m given k = keyed-parted_at (ending_of down octets m.link) (told_of down octets m m.link) (keyed-told down octets m m.link k)
  keyed-after down Parted m given k = unsent-keyed m.pending k
  keyed-after down (Recalled id) m given k = keyed-recalled (find_pending id m.pending) m k
  keyed-after down (Ticked now) m given k = staying-each (is_in_time now) IsKeyed m.pending k
  keyed-after down Taken m given k = k

  -- Transmissions.

  again-asked : (version : Version) (client_id : List ℕ) (now n : ℕ) (ps : List Pending) → AreKeyed ps → AreAsked (sent_at now (says_again version client_id now n ps))
  again-asked version client_id now n [] h = tt
  again-asked version client_id now n (p ∷ ps) h =
      elim (is_due now n p) as (λ b. AreAsked (sent_at now (cond b (Asked (transmission_to version client_id p.id (suc n) p.at p.call) ∷ says_again version client_id now (suc n) ps) (says_again version client_id now n ps))))
      [ true ↦ (h.0, again-asked version client_id now (suc n) ps h.1) | false ↦ again-asked version client_id now n ps h.1 ]

  resent-asked : (now : ℕ) (m : Client) (l : Option Linked) → AreKeyed m.pending → AreAsked (sent_at now (says_resent now m l))
  resent-asked now m None h = tt
  resent-asked now m (Some l) h = again-asked m.version m.client_id now l.given m.pending h

  placed-asked : (now id : ℕ) (call : Call) (m : Client) (l : Option Linked) → AreAsked (sent_at now (says_placed id call m l))
  placed-asked now id call m None = tt
  placed-asked now id call m (Some l) = (inl refl, tt)

  made-asked : (b : Bool) (now id : ℕ) (call : Call) (m : Client) → AreAsked (sent_at now (cond b (says_placed id call m m.link) []))
  made-asked true now id call m = placed-asked now id call m m.link
  made-asked false now id call m = tt

  withdrawn-asked : (version : Version) (sent : Option ℕ) → AreAsked (sent_at 0 (withdrawn version sent))
  withdrawn-asked version None = tt
  withdrawn-asked version (Some i) = tt

  recalled-asked : (version : Version) (o : Option Pending) → AreAsked (sent_at 0 (says_recalled version o))
  recalled-asked version None = tt
  recalled-asked version (Some p) = withdrawn-asked version p.sent

  asked-after : (h : Happening) (m : Client) → AreKeyed m.pending → AreAsked (sent_at (moment_of h) (says h m))
  asked-after (Called now call) m k = made-asked (is_taken now call m) now (suc m.last) call m
  asked-after (Resumed now id call) m k = made-asked (is_resumed now id call m) now id call m
  asked-after (Skipped id) m k = tt
  asked-after (Kept keeps) m k = tt
  asked-after (KeptForwards keeps) m k = tt
  asked-after (Redirected id key) m k = tt
  asked-after (Joined now) m k = again-asked m.version m.client_id now 0 (unsent m.pending) (unsent-keyed m.pending k)
  asked-after (Resent now) m k = resent-asked now m m.link k
  asked-after (Fed octets) m k = tt
  asked-after Parted m k = tt
  asked-after (Recalled id) m k = recalled-asked m.version (find_pending id m.pending)
  asked-after (Ticked now) m k = tt
  asked-after Taken m k = tt

  -- Lives.

  pub asked-lived : (down : Hearing Answer) (hs : List Happening) (l : Life) → AllByRecursion (Contains keys) (redirections hs) → AreKeyed l.client.pending → AreAsked l.sent → AreAsked (lived down hs l).sent
  asked-lived down [] l given k asked = asked
  asked-lived down (h ∷ hs) l given k asked =
      let parts = each-parts (Contains keys) (redirection h) (redirections hs) given in
      asked-lived down hs (goes_on down h l) parts.1 (keyed-after down h l.client parts.0 k)
      (each-append (λ x. IsAskedAt keys x.1) l.sent (sent_at (moment_of h) (says h l.client)) asked (asked-after h l.client k))

pub calls-keep-their-keys : CallsKeepTheirKeys
calls-keep-their-keys client_id version limits down happenings = asked-lived (redirections happenings) down happenings (new_life client_id version limits) (each-itself (redirections happenings)) tt tt
