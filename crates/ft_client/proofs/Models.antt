-- Kept calls and the pending calls of a client that they are.
use Rattle.std.proofs.Common.{◌≡◌, ℕ, suc, true, false, cond, List, [], ◌∷◌, ◌++◌, map, length, take, drop, take_at, Option, Some, None, refl, sym, ap, ◌∙◌, arith}
use Rattle.giop_core.specs.declared.header.Version.{Version}
use Rattle.giop_core.specs.declared.request.ReplyWish.{ReplyWish}
use Rattle.giop_core.specs.declared.request.ReplyWish.TheVariants as wish
use Rattle.giop_core.specs.declared.request.ReplyWish.TheVariants.{Full}
use Rattle.giop_link.specs.Ids.{Ids, entered, one_more, wanted_by}
use Rattle.ft_client.specs.Clients.{Pending, ids_after, is_due, resent, says_again, transmission_to, unsent}
use Rattle.ft_client.specs.Directions.{stream}
use Rattle.ft_client.specs.Keeping.{Kept, awaited, ids_after_sending, kept_of, octets_again, sent_again, under, unmarked}
use Rattle.ft_client.specs.Lives.{AreRising}
use Rattle.ft_client.specs.Messages.{Asked, octets_said, request_octets}
use Rattle.ft_client.specs.Standing.{AreAscending, sent_ids, waiting_ids}
use Rattle.ft_client.proofs.Living.{alike-resent, alike-rising, alike-unsent}
use Rattle.ft_client.proofs.Patching.{patched}

-- No call is sent.

pub unsent_ids : (ps : List Pending) → sent_ids (unsent ps) ≡ []
unsent_ids [] = refl
unsent_ids (p ∷ ps) = unsent_ids ps

-- where none is, they are without that too
pub unsent_is : (ps : List Pending) → sent_ids ps ≡ [] → unsent ps ≡ ps
unsent_is [] e = refl
unsent_is (p ∷ ps) e = by p.sent refl e (unsent_is ps)
  where
    by : (o : Option ℕ) → p.sent ≡ o → sent_ids (record p { sent = o } ∷ ps) ≡ [] → (sent_ids ps ≡ [] → unsent ps ≡ ps) → record p { sent = None } ∷ unsent ps ≡ p ∷ ps
    by None is e f = λ i. record p { sent = sym is i } ∷ f e i
    by (Some n) is e f = absurd (cc)

pub unsent_twice : (ps : List Pending) → unsent (unsent ps) ≡ unsent ps
unsent_twice ps = unsent_is (unsent ps) (unsent_ids ps)

pub rising_unsent : (last : ℕ) (ps : List Pending) → AreRising last ps → AreRising last (unsent ps)
rising_unsent last ps h = alike-rising last ps (unsent ps) (alike-unsent ps) h

module _ (version : Version) (client_id : List ℕ) where
  pub unmarked_kept : (ps : List Pending) → unmarked (map (kept_of version client_id) ps) ≡ map (kept_of version client_id) (unsent ps)
  unmarked_kept [] = refl
  unmarked_kept (p ∷ ps) = ap (λ (ks : List Kept). kept_of version client_id (record p { sent = None }) ∷ ks) (unmarked_kept ps)

  -- They are sent again.

  pub sent_again_kept : (now n : ℕ) (ps : List Pending) → sent_again now n (map (kept_of version client_id) ps) ≡ map (kept_of version client_id) (resent now n ps)
  sent_again_kept now n [] = refl
  sent_again_kept now n (p ∷ ps) =
      let k = kept_of version client_id p in
      elim (is_due now n p) as (λ b. cond b (record k { sent = Some (suc n) } ∷ sent_again now (suc n) (map (kept_of version client_id) ps)) (k ∷ sent_again now n (map (kept_of version client_id) ps))
      ≡ map (kept_of version client_id) (cond b (record p { sent = Some (suc n) } ∷ resent now (suc n) ps) (p ∷ resent now n ps))) [
        | true ↦ ap (λ (ks : List Kept). record k { sent = Some (suc n) } ∷ ks) (sent_again_kept now (suc n) ps)
        | false ↦ ap (λ (ks : List Kept). k ∷ ks) (sent_again_kept now n ps)
      ]

  pub ids_after_kept : (now n : ℕ) (ps : List Pending) → ids_after_sending now n (map (kept_of version client_id) ps) ≡ ids_after now n ps
  ids_after_kept now n [] = refl
  ids_after_kept now n (p ∷ ps) =
      elim (is_due now n p) as (λ b. cond b (ids_after_sending now (suc n) (map (kept_of version client_id) ps)) (ids_after_sending now n (map (kept_of version client_id) ps)) ≡ cond b (ids_after now (suc n) ps) (ids_after now n ps))
      [ true ↦ ids_after_kept now (suc n) ps | false ↦ ids_after_kept now n ps ]

  pub under_kept : (i : ℕ) (p : Pending) → under i (kept_of version client_id p) ≡ request_octets (transmission_to version client_id p.id i p.at p.call)
  under_kept i p = sym ((patched version client_id p.id p.at p.call).is i)

  pub octets_again_kept : (now n : ℕ) (ps : List Pending) → octets_again now n (map (kept_of version client_id) ps) ≡ stream octets_said (says_again version client_id now n ps)
  octets_again_kept now n [] = refl
  octets_again_kept now n (p ∷ ps) =
      elim (is_due now n p) as (λ b. cond b (under (suc n) (kept_of version client_id p) ++ octets_again now (suc n) (map (kept_of version client_id) ps)) (octets_again now n (map (kept_of version client_id) ps))
      ≡ stream octets_said (cond b (Asked (transmission_to version client_id p.id (suc n) p.at p.call) ∷ says_again version client_id now (suc n) ps) (says_again version client_id now n ps))) [
        | true ↦ λ i. under_kept (suc n) p i ++ octets_again_kept now (suc n) ps i
        | false ↦ octets_again_kept now n ps
      ]

pub rising_resent : (last now n : ℕ) (ps : List Pending) → AreRising last ps → AreRising last (resent now n ps)
rising_resent last now n ps h = alike-rising last ps (resent now n ps) (alike-resent now n ps) h

-- The ids of a link.

pub waiting_given : (g : ℕ) (is : List ℕ) → (waiting_ids g is).given ≡ g
waiting_given g [] = refl
waiting_given g (i ∷ is) = refl

-- one more waits
pub waiting_more : (g : ℕ) (is : List ℕ) → one_more (wanted_by Full) (waiting_ids g is) ≡ waiting_ids (suc g) (is ++ suc g ∷ [])
waiting_more g [] = refl
waiting_more g (i ∷ is) =
    ap (λ (n : ℕ). record { given = suc g; outstanding = entered (wanted_by Full) i [] ++ ((waiting_ids g is).outstanding ++ entered (wanted_by Full) (suc n) []) }) (sym (waiting_given g is))
    ∙ ap (λ (ids : Ids). record { given = suc g; outstanding = entered (wanted_by Full) i [] ++ ids.outstanding }) (waiting_more g is)

-- one more is given that no reply is waited for
waiting_skip : (g : ℕ) (is : List ℕ) → one_more None (waiting_ids g is) ≡ waiting_ids (suc g) (is ++ [])
waiting_skip g [] = refl
waiting_skip g (i ∷ is) = ap (λ (ids : Ids). record { given = suc g; outstanding = entered (wanted_by Full) i [] ++ ids.outstanding }) (waiting_skip g is)

-- one more is given, for a request with a wish
pub waiting_wish : (w : ReplyWish) (g : ℕ) (is : List ℕ) → one_more (wanted_by w) (waiting_ids g is) ≡ waiting_ids (suc g) (is ++ awaited w (suc g))
waiting_wish wish.None g is = waiting_skip g is
waiting_wish wish.Empty g is = waiting_more g is
waiting_wish wish.Full g is = waiting_more g is

pub ascending_later : (g : ℕ) (js : List ℕ) → AreAscending g js → AreAscending (suc g) js
ascending_later g [] h = tt
ascending_later g (j ∷ js) h = let le = h.0 in (omega (arith, le), h.1, ascending_later g js h.2)

-- a list that was written over another of its length
pub written_over : {A : Type 0} (xs ys : List A) (n : ℕ) → length xs ≡ n → take n (xs ++ drop (length xs) ys) ≡ xs
written_over xs ys n e = take_at xs (drop (length xs) ys) n e
