-- What a client said on a connection: the request of each id.
use Rattle.std.proofs.Common.{◌≡◌, ◌⊎◌, inl, inr, ⊎_elim, ℕ, suc, ◌+◌, ◌<◌, ◌≤◌, ◌^◌, ◌==◌, ◌&&◌, nat_le, nat_lt, not, is_some, true, false, cond, List, [], ◌∷◌, ◌++◌, length, Option, Some, None, refl, sym, ap, ◌∙◌, subst, arith}
use Rattle.std.specs.List.{AllByRecursion, Contains}
use Rattle.std.proofs.lemmas.Bool.{and_parts, eq-eqb, eqb-true, false≢true, leb-false, leb-true, ltb-true, ne_eqb}
use Rattle.std.proofs.lemmas.List.{append-nil}
use Rattle.std.proofs.lemmas.List.Elements.{Contains-append_left, Contains-append_right}
use Rattle.std.proofs.lemmas.Option.{none-some, same_Some}
use Rattle.cdr_core.specs.Spelling.{IsClean}
use Rattle.giop_core.specs.declared.header.Version.{Version}
use Rattle.ft_client.specs.Clients.{Pending, begun, ids_after, is_due, is_sent_as, resent, says_again, transmission_to, unsent, waiting}
use Rattle.ft_client.specs.Lives.{sent_at}
use Rattle.ft_client.specs.Messages.{Asked, Call, Said, Transmission, Withdrawn, request_behind}
use Rattle.ft_ends.specs.Fine.{IsFine, IsFineCall, IsFineSaid}
use Rattle.ft_ends.proofs.Lists.{contains-head, contains-tail, each-append, each-weaker}

-- the request of an id, if one was sent
abbrev pub asked_as : List Said → ℕ → Option Transmission
asked_as [] i = None
asked_as (Asked t ∷ later) i = cond (t.request_id == i) (Some t) (asked_as later i)
asked_as (Withdrawn version j ∷ later) i = asked_as later i

-- a request is the one of its id
abbrev pub IsListed : List Said → Said → Type 0
IsListed said (Asked t) = asked_as said t.request_id ≡ Some t
IsListed said (Withdrawn version i) = Unit {0}

-- it is among the client's transmissions
abbrev pub IsAmong : List (ℕ × Transmission) → Said → Type 0
IsAmong sent (Asked t) = (now : ℕ) × Contains sent (now, t)
IsAmong sent (Withdrawn version i) = Unit {0}

-- the request of an id, if there is one, is that of call r
abbrev pub IsSentAs : List Said → ℕ → Option ℕ → Type 0
IsSentAs said r None = Unit {0}
IsSentAs said r (Some i) = (t : Transmission) × (asked_as said i ≡ Some t) × (t.retention_id ≡ r)

-- the transmission of a pending call is among what was said
abbrev pub IsSent : List Said → Pending → Type 0
IsSent said p = IsSentAs said p.id p.sent

-- a pending call can be written, under an object key and each request id
pub record IsFinePending (version : Version) (client_id : List ℕ) (id : ℕ) (key : List ℕ) (call : Call) : Type 0 where
  pub fine : IsFineCall call
  pub number : id < 2 ^ 31
  pub size : (i : ℕ) → length (request_behind (transmission_to version client_id id i key call)) < 2 ^ 32

-- what was said on a connection whose link gave so many ids, where these transmissions were made and these calls are pending
pub record IsSpoken (sent : List (ℕ × Transmission)) (said : List Said) (pending : List Pending) (given : ℕ) : Type 0 where
  pub listed : AllByRecursion (λ s. IsListed said s) said
  pub among : AllByRecursion (λ s. IsAmong sent s) said
  pub fine : AllByRecursion IsFineSaid said
  pub waits : AllByRecursion (λ p. IsSent said p) pending
  pub fresh : (i : ℕ) → given < i → asked_as said i ≡ None

-- The request of an id stays.

pub asked_as-append : (said more : List Said) (i : ℕ) (t : Transmission) → asked_as said i ≡ Some t → asked_as (said ++ more) i ≡ Some t
asked_as-append [] more i t h = absurd (none-some t h)
asked_as-append (Asked u ∷ said) more i t h =
    elim (u.request_id == i) as (λ b. cond b (Some u) (asked_as said i) ≡ Some t → cond b (Some u) (asked_as (said ++ more) i) ≡ Some t)
    [ true ↦ λ is. is | false ↦ λ is. asked_as-append said more i t is ] h
asked_as-append (Withdrawn version j ∷ said) more i t h = asked_as-append said more i t h

asked_as-later : (said more : List Said) (i : ℕ) → asked_as said i ≡ None → asked_as (said ++ more) i ≡ asked_as more i
asked_as-later [] more i h = refl
asked_as-later (Asked u ∷ said) more i h =
    elim (u.request_id == i) as (λ b. cond b (Some u) (asked_as said i) ≡ None → cond b (Some u) (asked_as (said ++ more) i) ≡ asked_as more i)
    [ true ↦ λ is. absurd (none-some u (sym is)) | false ↦ λ is. asked_as-later said more i is ] h
asked_as-later (Withdrawn version j ∷ said) more i h = asked_as-later said more i h

asked_as-cons : (t : Transmission) (later : List Said) (i : ℕ) (u : Transmission) → asked_as later t.request_id ≡ None → asked_as later i ≡ Some u → asked_as (Asked t ∷ later) i ≡ Some u
asked_as-cons t later i u none h =
    elim (t.request_id == i) as (λ b. (t.request_id == i) ≡ b → cond b (Some t) (asked_as later i) ≡ Some u)
    [ true ↦ λ is. absurd (none-some u (sym none ∙ ap (asked_as later) (eqb-true t.request_id i is) ∙ h)) | false ↦ λ is. h ] refl

asked_as-self : (t : Transmission) (later : List Said) → asked_as (Asked t ∷ later) t.request_id ≡ Some t
asked_as-self t later = ap (λ b. cond b (Some t) (asked_as later t.request_id)) (eq-eqb t.request_id t.request_id refl)

-- what holds of all that was said holds of the request of an id
pub asked_as-each : (P : Said → Type 0) (said : List Said) (i : ℕ) (t : Transmission) → asked_as said i ≡ Some t → AllByRecursion P said → P (Asked t)
asked_as-each P [] i t h k = absurd (none-some t h)
asked_as-each P (Asked u ∷ said) i t h k =
    elim (u.request_id == i) as (λ b. cond b (Some u) (asked_as said i) ≡ Some t → P (Asked t))
    [ true ↦ λ is. subst (λ (x : Transmission). P (Asked x)) (same_Some u t is) k.0 | false ↦ λ is. asked_as-each P said i t is k.1 ] h
asked_as-each P (Withdrawn version j ∷ said) i t h k = asked_as-each P said i t h k.1

pub asked_as-id : (said : List Said) (i : ℕ) (t : Transmission) → asked_as said i ≡ Some t → t.request_id ≡ i
asked_as-id [] i t h = absurd (none-some t h)
asked_as-id (Asked u ∷ said) i t h =
    elim (u.request_id == i) as (λ b. (u.request_id == i) ≡ b → cond b (Some u) (asked_as said i) ≡ Some t → t.request_id ≡ i) [
      | true ↦ λ same is. ap (λ (x : Transmission). x.request_id) (sym (same_Some u t is)) ∙ eqb-true u.request_id i same
      | false ↦ λ same is. asked_as-id said i t is
    ] refl h
asked_as-id (Withdrawn version j ∷ said) i t h = asked_as-id said i t h

-- More is said.

listed-more : (said more : List Said) (s : Said) → IsListed said s → IsListed (said ++ more) s
listed-more said more (Asked t) h = asked_as-append said more t.request_id t h
listed-more said more (Withdrawn version i) h = tt

among-more : (sent later : List (ℕ × Transmission)) (s : Said) → IsAmong sent s → IsAmong (sent ++ later) s
among-more sent later (Asked t) h = (h.0, Contains-append_left sent later (h.0, t) h.1)
among-more sent later (Withdrawn version i) h = tt

among-later : (sent later : List (ℕ × Transmission)) (s : Said) → IsAmong later s → IsAmong (sent ++ later) s
among-later sent later (Asked t) h = (h.0, Contains-append_right sent later (h.0, t) h.1)
among-later sent later (Withdrawn version i) h = tt

among-cons : (x : ℕ × Transmission) (sent : List (ℕ × Transmission)) (s : Said) → IsAmong sent s → IsAmong (x ∷ sent) s
among-cons x sent (Asked t) h = (h.0, contains-tail x (h.0, t) sent h.1)
among-cons x sent (Withdrawn version i) h = tt

-- what is said at a moment is among the transmissions of that moment
among-sent_at : (now : ℕ) (said : List Said) → AllByRecursion (λ s. IsAmong (sent_at now said) s) said
among-sent_at now [] = tt
among-sent_at now (Asked t ∷ said) =
    ((now, contains-head (now, t) (sent_at now said)), each-weaker (λ s. IsAmong (sent_at now said) s) (λ s. IsAmong ((now, t) ∷ sent_at now said) s) (λ s h. among-cons (now, t) (sent_at now said) s h) said (among-sent_at now said))
among-sent_at now (Withdrawn version i ∷ said) = (tt, among-sent_at now said)

sent_as-more : (said more : List Said) (r : ℕ) (o : Option ℕ) → IsSentAs said r o → IsSentAs (said ++ more) r o
sent_as-more said more r None h = tt
sent_as-more said more r (Some i) h = (h.0, asked_as-append said more i h.0 h.1, h.2)

sent_as-cons : (t : Transmission) (later : List Said) (r : ℕ) (o : Option ℕ) → asked_as later t.request_id ≡ None → IsSentAs later r o → IsSentAs (Asked t ∷ later) r o
sent_as-cons t later r None none h = tt
sent_as-cons t later r (Some i) none h = (h.0, asked_as-cons t later i h.0 none h.1, h.2)

listed-cons : (t : Transmission) (later : List Said) (s : Said) → asked_as later t.request_id ≡ None → IsListed later s → IsListed (Asked t ∷ later) s
listed-cons t later (Asked u) none h = asked_as-cons t later u.request_id u none h
listed-cons t later (Withdrawn version i) none h = tt

-- .. under ids that were not used
pub spoken-more : (sent : List (ℕ × Transmission)) (said more : List Said) (pending more_pending : List Pending) (now given given' : ℕ) → given ≤ given'
    → AllByRecursion (λ s. IsListed (said ++ more) s) more → AllByRecursion IsFineSaid more → AllByRecursion (λ p. IsSent (said ++ more) p) more_pending → ((i : ℕ) → given' < i → asked_as more i ≡ None)
    → IsSpoken sent said pending given → IsSpoken (sent ++ sent_at now more) (said ++ more) (pending ++ more_pending) given'
spoken-more sent said more pending more_pending now given given' low listed fine added fresh h = record {
  listed = each-append (λ s. IsListed (said ++ more) s) said more (each-weaker (λ s. IsListed said s) (λ s. IsListed (said ++ more) s) (λ s is. listed-more said more s is) said h.listed) listed;
  among =
      each-append (λ s. IsAmong (sent ++ sent_at now more) s) said more
      (each-weaker (λ s. IsAmong sent s) (λ s. IsAmong (sent ++ sent_at now more) s) (λ s is. among-more sent (sent_at now more) s is) said h.among)
      (each-weaker (λ s. IsAmong (sent_at now more) s) (λ s. IsAmong (sent ++ sent_at now more) s) (λ s is. among-later sent (sent_at now more) s is) more (among-sent_at now more));
  fine = each-append IsFineSaid said more h.fine fine;
  waits =
      each-append (λ p. IsSent (said ++ more) p) pending more_pending
      (each-weaker (λ p. IsSent said p) (λ p. IsSent (said ++ more) p) (λ p is. sent_as-more said more p.id p.sent is) pending h.waits) added;
  fresh = λ i above. asked_as-later said more i (h.fresh i (omega arith)) ∙ fresh i above;
}

-- other calls are pending
pub spoken-pending : (sent : List (ℕ × Transmission)) (said : List Said) (pending other : List Pending) (given : ℕ) → AllByRecursion (λ p. IsSent said p) other → IsSpoken sent said pending given → IsSpoken sent said other given
spoken-pending sent said pending other given is h = record { listed = h.listed; among = h.among; fine = h.fine; waits = is; fresh = h.fresh }

-- more transmissions were made
pub spoken-sent : (sent later : List (ℕ × Transmission)) (said : List Said) (pending : List Pending) (given : ℕ) → IsSpoken sent said pending given → IsSpoken (sent ++ later) said pending given
spoken-sent sent later said pending given h = record {
  listed = h.listed;
  among = each-weaker (λ s. IsAmong sent s) (λ s. IsAmong (sent ++ later) s) (λ s is. among-more sent later s is) said h.among;
  fine = h.fine;
  waits = h.waits;
  fresh = h.fresh;
}

-- a call more, sent under the next id
pub spoken-called : (sent : List (ℕ × Transmission)) (said : List Said) (pending : List Pending) (now given : ℕ) (t : Transmission) → t.request_id ≡ suc given → IsFine t → IsSpoken sent said pending given
    → IsSpoken (sent ++ sent_at now (Asked t ∷ [])) (said ++ Asked t ∷ []) (pending ++ begun t.retention_id t.call (Some (suc given)) ∷ []) (suc given)
spoken-called sent said pending now given t is fine h =
    let here : asked_as (said ++ Asked t ∷ []) t.request_id ≡ Some t = asked_as-later said (Asked t ∷ []) t.request_id (h.fresh t.request_id (omega (arith, is))) ∙ asked_as-self t [] in
    let p : Pending = begun t.retention_id t.call (Some (suc given)) in
    spoken-more sent said (Asked t ∷ []) pending (p ∷ []) now given (suc given) (omega arith) (here, tt) (fine, tt) ((t, ap (asked_as (said ++ Asked t ∷ [])) (sym is) ∙ here, refl), tt)
    (λ i above. ap (λ b. cond b (Some t) None) (ne_eqb t.request_id i (λ same. absurd (omega (arith, is, same, above))))) h

-- a request is withdrawn
pub spoken-withdrawn : (sent : List (ℕ × Transmission)) (said : List Said) (pending : List Pending) (version : Version) (given i : ℕ) → i < 2 ^ 32 → IsSpoken sent said pending given → IsSpoken sent (said ++ Withdrawn version i ∷ []) pending given
spoken-withdrawn sent said pending version given i fine h =
    let more = spoken-more sent said (Withdrawn version i ∷ []) pending [] 0 given given (omega arith) (tt, tt) (fine, tt) tt (λ j above. refl) h in
    subst (λ (ps : List Pending). IsSpoken sent (said ++ Withdrawn version i ∷ []) ps given) (append-nil pending)
    (subst (λ (xs : List (ℕ × Transmission)). IsSpoken xs (said ++ Withdrawn version i ∷ []) (pending ++ []) given) (append-nil sent) more)

-- What is due is sent.

module _ (version : Version) (client_id : List ℕ) (now : ℕ) where
  abbrev again : ℕ → List Pending → List Said
  again n ps = says_again version client_id now n ps

  abbrev request : ℕ → Pending → Transmission
  request n p = transmission_to version client_id p.id (suc n) p.at p.call

  pub ids-grow : (n : ℕ) (ps : List Pending) → n ≤ ids_after now n ps
  ids-grow n [] = omega arith
  ids-grow n (p ∷ ps) =
      let rest = ids-grow n ps in
      let next = ids-grow (suc n) ps in
      elim (is_due now n p) as (λ b. n ≤ cond b (ids_after now (suc n) ps) (ids_after now n ps)) [ true ↦ omega (arith, next) | false ↦ rest ]

  -- what is due is sent under the first half of the ids
  due-low : (n : ℕ) (p : Pending) → is_due now n p ≡ true → n < 2147483648
  due-low n p is =
      let rest = (and_parts (not (is_some p.sent)) (not (is_some p.led) && (nat_le now p.call.expiration && nat_lt n 2147483648)) is).1 in
      let last = (and_parts (not (is_some p.led)) (nat_le now p.call.expiration && nat_lt n 2147483648) rest).1 in
      ltb-true n 2147483648 (and_parts (nat_le now p.call.expiration) (nat_lt n 2147483648) last).1

  pub ids-few : (n last : ℕ) (ps : List Pending) → n ≤ last + 2147483648 → ids_after now n ps ≤ last + 2147483648
  ids-few n last [] few = few
  ids-few n last (p ∷ ps) few =
      elim (is_due now n p) as (λ b. is_due now n p ≡ b → cond b (ids_after now (suc n) ps) (ids_after now n ps) ≤ last + 2147483648)
      [ true ↦ λ is. (let low = due-low n p is in ids-few (suc n) last ps (omega (arith, low))) | false ↦ λ is. ids-few n last ps few ] refl

  again-low : (n i : ℕ) (ps : List Pending) → i ≤ n → asked_as (again n ps) i ≡ None
  again-low n i [] h = refl
  again-low n i (p ∷ ps) h =
      elim (is_due now n p) as (λ b. asked_as (cond b (Asked (request n p) ∷ again (suc n) ps) (again n ps)) i ≡ None) [
        | true ↦ ap (λ b. cond b (Some (request n p)) (asked_as (again (suc n) ps) i)) (ne_eqb (suc n) i (λ same. absurd (omega arith))) ∙ again-low (suc n) i ps (omega arith)
        | false ↦ again-low n i ps h
      ]

  again-high : (n i : ℕ) (ps : List Pending) → ids_after now n ps < i → asked_as (again n ps) i ≡ None
  again-high n i [] h = refl
  again-high n i (p ∷ ps) h =
      let low = ids-grow (suc n) ps in
      elim (is_due now n p) as (λ b. cond b (ids_after now (suc n) ps) (ids_after now n ps) < i → asked_as (cond b (Asked (request n p) ∷ again (suc n) ps) (again n ps)) i ≡ None) [
        | true ↦ λ above. ap (λ b. cond b (Some (request n p)) (asked_as (again (suc n) ps) i)) (ne_eqb (suc n) i (λ same. absurd (omega (arith, low, above, same)))) ∙ again-high (suc n) i ps above
        | false ↦ λ above. again-high n i ps above
      ] h

  again-listed : (n : ℕ) (ps : List Pending) → AllByRecursion (λ s. IsListed (again n ps) s) (again n ps)
  again-listed n [] = tt
  again-listed n (p ∷ ps) =
      let later = again (suc n) ps in
      elim (is_due now n p) as (λ b. AllByRecursion (λ s. IsListed (cond b (Asked (request n p) ∷ later) (again n ps)) s) (cond b (Asked (request n p) ∷ later) (again n ps))) [
        | true ↦ (
          asked_as-self (request n p) later,
          each-weaker (λ s. IsListed later s) (λ s. IsListed (Asked (request n p) ∷ later) s) (λ s is. listed-cons (request n p) later s (again-low (suc n) (suc n) ps (omega arith)) is) later (again-listed (suc n) ps),
        )
        | false ↦ again-listed n ps
      ]

  again-fine : (n : ℕ) (ps : List Pending) → IsClean client_id → AllByRecursion (λ p. IsFinePending version client_id p.id p.at p.call) ps → AllByRecursion IsFineSaid (again n ps)
  again-fine n [] clean h = tt
  again-fine n (p ∷ ps) clean h =
      elim (is_due now n p) as (λ b. is_due now n p ≡ b → AllByRecursion IsFineSaid (cond b (Asked (request n p) ∷ again (suc n) ps) (again n ps))) [
        | true ↦ λ is. (
          record {
            client = clean;
            call = h.0.fine;
            number = h.0.number;
            id = let low = due-low n p is in omega (arith, low);
            size = h.0.size (suc n);
          },
          again-fine (suc n) ps clean h.1,
        )
        | false ↦ λ is. again-fine n ps clean h.1
      ] refl

  -- a call was sent before, or is sent now
  again-sent : (said : List Said) (n : ℕ) (ps : List Pending) → AllByRecursion (λ p. IsSent said p) ps → AllByRecursion (λ q. IsSent said q ⊎ IsSent (again n ps) q) (resent now n ps)
  again-sent said n [] h = tt
  again-sent said n (p ∷ ps) h =
      let later = again (suc n) ps in
      elim (is_due now n p) as (λ b. AllByRecursion (λ q. IsSent said q ⊎ IsSent (cond b (Asked (request n p) ∷ later) (again n ps)) q) (cond b (record p { sent = Some (suc n) } ∷ resent now (suc n) ps) (p ∷ resent now n ps))) [
        | true ↦ (
          inr (request n p, asked_as-self (request n p) later, refl),
          each-weaker (λ q. IsSent said q ⊎ IsSent later q) (λ q. IsSent said q ⊎ IsSent (Asked (request n p) ∷ later) q)
              (λ q is. ⊎_elim (λ before. inl before) (λ sent. inr (sent_as-cons (request n p) later q.id q.sent (again-low (suc n) (suc n) ps (omega arith)) sent)) is) (resent now (suc n) ps) (again-sent said (suc n) ps h.1),
        )
        | false ↦ (inl h.0, again-sent said n ps h.1)
      ]

  -- it is said under ids that were not used
  above : (said : List Said) (n : ℕ) (ps : List Pending) (i : ℕ) (t : Transmission) → ((j : ℕ) → n < j → asked_as said j ≡ None) → asked_as (again n ps) i ≡ Some t → asked_as (said ++ again n ps) i ≡ Some t
  above said n ps i t fresh is =
      elim (nat_le i n) as (λ b. nat_le i n ≡ b → asked_as (said ++ again n ps) i ≡ Some t) [
        | true ↦ λ low. absurd (none-some t (sym (again-low n i ps (leb-true i n low)) ∙ is))
        | false ↦ λ high. asked_as-later said (again n ps) i (fresh i (leb-false i n high)) ∙ is
      ] refl

  listed-later : (said : List Said) (n : ℕ) (ps : List Pending) → ((j : ℕ) → n < j → asked_as said j ≡ None) → (s : Said) → IsListed (again n ps) s → IsListed (said ++ again n ps) s
  listed-later said n ps fresh (Asked t) h = above said n ps t.request_id t fresh h
  listed-later said n ps fresh (Withdrawn v i) h = tt

  sent-later : (said : List Said) (n : ℕ) (ps : List Pending) → ((j : ℕ) → n < j → asked_as said j ≡ None) → (r : ℕ) (o : Option ℕ) → IsSentAs (again n ps) r o → IsSentAs (said ++ again n ps) r o
  sent-later said n ps fresh r None h = tt
  sent-later said n ps fresh r (Some i) h = (h.0, above said n ps i h.0 fresh h.1, h.2)

  pub spoken-resent : (sent : List (ℕ × Transmission)) (said : List Said) (n : ℕ) (ps : List Pending) → IsClean client_id → AllByRecursion (λ p. IsFinePending version client_id p.id p.at p.call) ps → IsSpoken sent said ps n
      → IsSpoken (sent ++ sent_at now (again n ps)) (said ++ again n ps) (resent now n ps) (ids_after now n ps)
  spoken-resent sent said n ps clean waits h =
      let more = again n ps in
      record {
        listed =
            each-append (λ s. IsListed (said ++ more) s) said more (each-weaker (λ s. IsListed said s) (λ s. IsListed (said ++ more) s) (λ s is. listed-more said more s is) said h.listed)
            (each-weaker (λ s. IsListed more s) (λ s. IsListed (said ++ more) s) (λ s is. listed-later said n ps h.fresh s is) more (again-listed n ps));
        among =
            each-append (λ s. IsAmong (sent ++ sent_at now more) s) said more
            (each-weaker (λ s. IsAmong sent s) (λ s. IsAmong (sent ++ sent_at now more) s) (λ s is. among-more sent (sent_at now more) s is) said h.among)
            (each-weaker (λ s. IsAmong (sent_at now more) s) (λ s. IsAmong (sent ++ sent_at now more) s) (λ s is. among-later sent (sent_at now more) s is) more (among-sent_at now more));
        fine = each-append IsFineSaid said more h.fine (again-fine n ps clean waits);
        waits =
            each-weaker (λ q. IsSent said q ⊎ IsSent more q) (λ q. IsSent (said ++ more) q)
            (λ q is. ⊎_elim (λ before. sent_as-more said more q.id q.sent before) (λ now_sent. sent-later said n ps h.fresh q.id q.sent now_sent) is) (resent now n ps) (again-sent said n ps h.waits);
        fresh = λ i high. let low = ids-grow n ps in asked_as-later said more i (h.fresh i (omega (arith, low, high))) ∙ again-high n i ps high;
      }

-- nothing was said
pub spoken-none : (sent : List (ℕ × Transmission)) (ps : List Pending) → IsSpoken sent [] (unsent ps) 0
spoken-none sent ps = record { listed = tt; among = tt; fine = tt; waits = none ps; fresh = λ i above. refl }
  where
    none : (ps : List Pending) → AllByRecursion (λ p. IsSent [] p) (unsent ps)
    none [] = tt
    none (p ∷ ps) = (tt, none ps)

-- What waits for an id was sent under it.

sent-here : (said : List Said) (r i : ℕ) (o : Option ℕ) → is_sent_as i o ≡ true → IsSentAs said r o → (t : Transmission) × (asked_as said i ≡ Some t) × (t.retention_id ≡ r)
sent-here said r i None is h = absurd (false≢true is)
sent-here said r i (Some j) is h = (h.0, ap (asked_as said) (sym (eqb-true j i is)) ∙ h.1, h.2)

pub waiting-sent : (said : List Said) (i r : ℕ) (ps : List Pending) → AllByRecursion (λ p. IsSent said p) ps → waiting i ps ≡ Some r → (t : Transmission) × (asked_as said i ≡ Some t) × (t.retention_id ≡ r)
waiting-sent said i r [] h is = absurd (none-some r is)
waiting-sent said i r (p ∷ ps) h is =
    elim (is_sent_as i p.sent) as (λ b. is_sent_as i p.sent ≡ b → cond b (Some p.id) (waiting i ps) ≡ Some r → (t : Transmission) × (asked_as said i ≡ Some t) × (t.retention_id ≡ r)) [
      | true ↦ λ here same. let w = sent-here said p.id i p.sent here h.0 in (w.0, w.1, w.2 ∙ same_Some p.id r same)
      | false ↦ λ here same. waiting-sent said i r ps h.1 same
    ] refl is
