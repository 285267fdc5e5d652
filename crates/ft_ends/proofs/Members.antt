-- A client with its connection: what it does, and what it gets.
use Rattle.std.proofs.Common.{◌≡◌, ℕ, suc, ◌+◌, ◌<◌, ◌≤◌, ◌^◌, ◌&&◌, nat_le, nat_lt, ℤ, pos, Bool, true, false, cond, List, [], ◌∷◌, ◌++◌, drop, length, take, Option, Some, None, refl, sym, ap, ◌∙◌, subst, arith, length-append}
use Rattle.std.specs.List.{AllByRecursion, filter_map}
use Rattle.std.proofs.lemmas.Bool.{and_parts, ltb-true}
use Rattle.std.proofs.lemmas.List.{append-nil}
use Rattle.std.proofs.lemmas.Option.{same_Some}
use Rattle.cdr_core.specs.Spelling.{IsClean}
use Rattle.giop_core.specs.declared.header.Version.{Version}
use Rattle.giop_frames.specs.declared.limits.Limits.{Limits}
use Rattle.ft_log.specs.Keys.{RequestKey}
use Rattle.ft_client.specs.Clients.{Called, Cancelled, Client, Ended, Expired, Kept, KeptForwards, Linked, NeedsAddressing, Pending, Recalled, Redirected, Resent, Resumed, Sent, Skipped, Ticked, Told, answered, asked_at, completed_if, ended_by, find_pending, is_kept, is_redirected, is_resumed, is_taken, late, led_by, on_time, placed, placed_on, recalled, resent_if, says_again, says_placed, says_recalled, says_resent, settled, settled_all, transmission, waiting, withdrawn, without}
use Rattle.ft_client.specs.Directions.{stream}
use Rattle.giop_link.specs.Hearing.{Hearing, news}
use Rattle.ft_client.specs.Lives.{IsLife, IsOfCall, Life, ended_count, sent_at}
use Rattle.ft_client.specs.Messages.{Answer, Asked, Call, Said, Shown, Transmission, Withdrawn, is_oneway, located, replied, wish_of}
use Rattle.ft_orb.specs.ExactlyOnce.{Arrival}
use Rattle.ft_orb.specs.History.{Event, arrivals}
use Rattle.ft_orb.specs.Outputs.{Made}
use Rattle.ft_orb.specs.Requests.{Wanted}
use Rattle.ft_objects.specs.Servants.{Meaning}
use Rattle.ft_ends.specs.Both.{key_of}
use Rattle.ft_ends.specs.Fine.{AreFaithful, IsFine, IsFineCall, IsFineSaid, IsFront}
use Rattle.ft_ends.specs.Laws.{sides_of}
use Rattle.ft_ends.specs.Private.{ClientLaws}
use Rattle.ft_orb.specs.Tellings.{octets_told}
use Rattle.ft_ends.specs.Tellings.{answer_in, law_told, tellings}
use Rattle.ft_ends.specs.World.{Member, Wire, acted, emptied, extended}
use Rattle.ft_ends.proofs.Lists.{each-append, each-contains, each-drop, each-front, front-trans}
use Rattle.ft_ends.proofs.Served.{IsReply, IsServed, Traced, front-more, served-said, traced-later}
use Rattle.ft_ends.proofs.Small.{IsSmall, IsTaken, asked_at-each, found-each, on_time-each, resent-as, resumed-is, settled-each, small-after, taken-is, without-each}
use Rattle.ft_ends.proofs.Spoken.{IsAmong, IsSent, IsSentAs, IsSpoken, asked_as, asked_as-each, asked_as-id, ids-few, spoken-called, spoken-pending, spoken-resent, spoken-withdrawn, waiting-sent}
use Rattle.ft_ends.proofs.Ways.{extended-nothing}

-- the key of a client's call
abbrev pub own_key : List ℕ → ℕ → RequestKey
own_key id r = record { client_id = id; retention_id = pos r }

pub ended-append : (r : ℕ) (xs ys : List (ℕ × Ended)) → ended_count r (xs ++ ys) ≡ ended_count r xs + ended_count r ys
ended-append r [] ys = omega arith
ended-append r (x ∷ xs) ys = let rest = ended-append r xs ys in omega (arith, rest)

-- a typed call waits for its reply
waits-for-reply : (call : Call) → IsFineCall call → is_oneway (wish_of call.form) ≡ false
waits-for-reply call fine = ap (λ f. is_oneway (wish_of f)) fine.values

module _ {State : Type 0} (meaning : Meaning State) (made : Made State) where
  -- a completion by a reply has a trace
  abbrev pub IsTold : List (Arrival Wanted) → List ℕ → ℕ → Ended → Type 0
  IsTold all id r Expired = Unit {0}
  IsTold all id r Cancelled = Unit {0}
  IsTold all id r ended = Traced meaning made all (own_key id r) ended

  abbrev pub IsToldOf : List (Arrival Wanted) → List ℕ → ℕ × Ended → Type 0
  IsToldOf all id x = IsTold all id x.0 x.1

  told-from : (all : List (Arrival Wanted)) (id : List ℕ) (r : ℕ) (ended : Ended) → Traced meaning made all (own_key id r) ended → IsTold all id r ended
  told-from all id r Expired h = tt
  told-from all id r Cancelled h = tt
  told-from all id r (Told status body) h = h
  told-from all id r NeedsAddressing h = h
  told-from all id r Sent h = h

  pub told-later : (all more : List (Arrival Wanted)) (id : List ℕ) (r : ℕ) (ended : Ended) → IsTold all id r ended → IsTold (all ++ more) id r ended
  told-later all more id r Expired h = tt
  told-later all more id r Cancelled h = tt
  told-later all more id r (Told status body) h = traced-later meaning made all more (own_key id r) (Told status body) h
  told-later all more id r NeedsAddressing h = traced-later meaning made all more (own_key id r) NeedsAddressing h
  told-later all more id r Sent h = traced-later meaning made all more (own_key id r) Sent h

  late-told : (all : List (Arrival Wanted)) (id : List ℕ) (now : ℕ) (ps : List Pending) → AllByRecursion (λ x. IsToldOf all id x) (late now ps)
  late-told all id now [] = tt
  late-told all id now (p ∷ ps) =
      elim (nat_le now p.call.expiration) as (λ b. AllByRecursion (λ x. IsToldOf all id x) (cond b (late now ps) ((p.id, Expired) ∷ late now ps))) [ true ↦ late-told all id now ps | false ↦ (tt, late-told all id now ps) ]

  -- A link and its connection.

  pub record IsLinked (past : List Event) (opened : ℕ) (sent : List (ℕ × Transmission)) (pending : List Pending) (last : ℕ) (l : Linked) (x : Wire) : Type 0 where
    pub spoken : IsSpoken sent x.said pending l.given
    pub few : l.given ≤ last + 2147483648
    pub served : IsServed meaning made past x.said x.number x.went x.came l.received
    pub known : x.number ≤ opened

  -- the client has a link where it has a connection
  abbrev pub IsWired : List Event → ℕ → List (ℕ × Transmission) → List Pending → ℕ → Option Linked → Option Wire → Type 0
  IsWired past opened sent pending last None None = Unit {0}
  IsWired past opened sent pending last None (Some x) = ⊥
  IsWired past opened sent pending last (Some l) None = ⊥
  IsWired past opened sent pending last (Some l) (Some x) = IsLinked past opened sent pending last l x

  -- a client of this id and version, and its connection
  pub record IsMember (past : List Event) (opened : ℕ) (id : List ℕ) (version : Version) (m : Member) : Type 0 where
    pub life : IsLife id version m.life
    pub small : IsSmall m.life.client
    pub told : AllByRecursion (λ x. IsToldOf (arrivals made.limits past) id x) m.life.client.completions
    pub wired : IsWired past opened m.life.sent m.life.client.pending m.life.client.last m.life.client.link m.wire

  -- A client's own doing.

  module _ (past : List Event) (opened : ℕ) where
    -- where nothing is said
    wired-nothing : (sent : List (ℕ × Transmission)) (pending : List Pending) (last : ℕ) (l : Option Linked) (w : Option Wire) → IsWired past opened sent pending last l w → IsWired past opened (sent ++ []) pending last l (extended [] w)
    wired-nothing sent pending last l w h =
        subst (λ (xs : List (ℕ × Transmission)). IsWired past opened xs pending last l (extended [] w)) (sym (append-nil sent)) (subst (λ (v : Option Wire). IsWired past opened sent pending last l v) (sym (extended-nothing w)) h)

    -- where fewer calls are pending
    wired-fewer : (sent : List (ℕ × Transmission)) (pending fewer : List Pending) (last : ℕ) (l : Option Linked) (w : Option Wire)
        → ((said : List Said) → AllByRecursion (λ p. IsSent said p) pending → AllByRecursion (λ p. IsSent said p) fewer) → IsWired past opened sent pending last l w → IsWired past opened sent fewer last l w
    wired-fewer sent pending fewer last None None f h = h
    wired-fewer sent pending fewer last None (Some x) f h = h
    wired-fewer sent pending fewer last (Some l) None f h = h
    wired-fewer sent pending fewer last (Some l) (Some x) f h = record { spoken = spoken-pending sent x.said pending fewer l.given (f x.said h.spoken.waits) h.spoken; few = h.few; served = h.served; known = h.known }

    -- where greater numbers are given from now on
    wired-later : (sent : List (ℕ × Transmission)) (pending : List Pending) (last next : ℕ) (l : Option Linked) (w : Option Wire) → last ≤ next → IsWired past opened sent pending last l w → IsWired past opened sent pending next l w
    wired-later sent pending last next None None le h = h
    wired-later sent pending last next None (Some x) le h = h
    wired-later sent pending last next (Some l) None le h = h
    wired-later sent pending last next (Some l) (Some x) le h = record { spoken = h.spoken; few = let few = h.few in omega (arith, few, le); served = h.served; known = h.known }

    -- a call is made
    wired-called : (sent : List (ℕ × Transmission)) (now number : ℕ) (call : Call) (c : Client) (l : Option Linked) (w : Option Wire) → IsClean c.client_id → IsTaken c number call → IsWired past opened sent c.pending c.last l w
        → IsWired past opened (sent ++ sent_at now (says_placed number call c l)) (placed number call c l).pending (placed number call c l).last (placed number call c l).link (extended (says_placed number call c l) w)
    wired-called sent now number call c None None clean is h = tt
    wired-called sent now number call c None (Some x) clean is h = absurd h
    wired-called sent now number call c (Some l) None clean is h = absurd h
    wired-called sent now number call c (Some l) (Some x) clean is h =
        let t = transmission c.version c.client_id number (suc l.given) call in
        let few = h.few in
        let low = is.low in
        let greater = is.greater in
        let fine : IsFine t = record {
          client = clean;
          call = is.fine.fine;
          number = is.fine.number;
          id = omega (arith, few, low, greater);
          size = is.fine.size (suc l.given);
        } in
        subst (λ b. IsWired past opened (sent ++ sent_at now (Asked t ∷ [])) (placed_on b number call c l).pending (placed_on b number call c l).last (placed_on b number call c l).link (Some (record x { said = x.said ++ Asked t ∷ [] }))) (sym (waits-for-reply call is.fine.fine)) (record {
          spoken = spoken-called sent x.said c.pending now l.given t refl fine h.spoken;
          few = omega (arith, few, greater);
          served = served-said meaning made past x.said (Asked t ∷ []) x.number x.went x.came l.received h.served;
          known = h.known;
        })

    -- what is due is sent
    wired-resent : (sent : List (ℕ × Transmission)) (now : ℕ) (c : Client) (l : Option Linked) (w : Option Wire) → IsClean c.client_id → IsSmall c → c.link ≡ l → IsWired past opened sent c.pending c.last l w
        → IsWired past opened (sent ++ sent_at now (says_resent now c l)) (resent_if now c l).pending (resent_if now c l).last (resent_if now c l).link (extended (says_resent now c l) w)
    wired-resent sent now c None w clean small is h =
        subst (λ (k : Option Linked). IsWired past opened (sent ++ []) c.pending c.last k (extended [] w)) (sym is) (wired-nothing sent c.pending c.last None w h)
    wired-resent sent now c (Some l) None clean small is h = absurd h
    wired-resent sent now c (Some l) (Some x) clean small is h =
        let said = says_again c.version c.client_id now l.given c.pending in
        subst (λ (y : Client). IsWired past opened (sent ++ sent_at now said) y.pending y.last y.link (Some (record x { said = x.said ++ said }))) (sym (resent-as now c l small)) (record {
          spoken = spoken-resent c.version c.client_id now sent x.said l.given c.pending clean small.waits h.spoken;
          few = ids-few c.version c.client_id now l.given c.last c.pending h.few;
          served = served-said meaning made past x.said said x.number x.went x.came l.received h.served;
          known = h.known;
        })

    -- a request is withdrawn
    wired-withdrawn : (sent : List (ℕ × Transmission)) (pending : List Pending) (last : ℕ) (version : Version) (r : ℕ) (o : Option ℕ) (l : Option Linked) (w : Option Wire)
        → ((said : List Said) → AllByRecursion (λ p. IsSent said p) pending → IsSentAs said r o) → IsWired past opened sent pending last l w
        → IsWired past opened (sent ++ sent_at 0 (withdrawn version o)) pending last l (extended (withdrawn version o) w)
    wired-withdrawn sent pending last version r None l w f h = wired-nothing sent pending last l w h
    wired-withdrawn sent pending last version r (Some i) None None f h = tt
    wired-withdrawn sent pending last version r (Some i) None (Some x) f h = absurd h
    wired-withdrawn sent pending last version r (Some i) (Some l) None f h = absurd h
    wired-withdrawn sent pending last version r (Some i) (Some l) (Some x) f h =
        let is = f x.said h.spoken.waits in
        let fine = asked_as-each IsFineSaid x.said i is.0 is.1 h.spoken.fine in
        let low = subst (λ (k : ℕ). k < 2 ^ 32) (asked_as-id x.said i is.0 is.1) fine.id in
        record {
          spoken =
              subst (λ (xs : List (ℕ × Transmission)). IsSpoken xs (x.said ++ Withdrawn version i ∷ []) pending l.given) (sym (append-nil sent))
              (spoken-withdrawn sent x.said pending version l.given i low h.spoken);
          few = h.few;
          served = served-said meaning made past x.said (Withdrawn version i ∷ []) x.number x.went x.came l.received h.served;
          known = h.known;
        }

    wired-recalled : (sent : List (ℕ × Transmission)) (id : ℤ) (c : Client) (o : Option Pending) (w : Option Wire) → find_pending id c.pending ≡ o → IsWired past opened sent c.pending c.last c.link w
        → IsWired past opened (sent ++ sent_at 0 (says_recalled c.version o)) (recalled o c).pending (recalled o c).last (recalled o c).link (extended (says_recalled c.version o) w)
    wired-recalled sent id c None w is h = wired-nothing sent c.pending c.last c.link w h
    wired-recalled sent id c (Some p) w is h =
        wired-fewer (sent ++ sent_at 0 (withdrawn c.version p.sent)) c.pending (without p.id c.pending) c.last c.link (extended (withdrawn c.version p.sent) w) (λ said each. without-each (λ q. IsSent said q) p.id c.pending each)
        (wired-withdrawn sent c.pending c.last c.version p.id p.sent c.link w (λ said each. found-each (λ q. IsSent said q) id p c.pending is each) h)

  module _ (hears : Limits → Hearing Answer) (past : List Event) (opened : ℕ) (id : List ℕ) (version : Version) (clean : IsClean id) where
    pub own-clean : (m : Member) → IsLife id version m.life → IsClean m.life.client.client_id
    own-clean m h = subst IsClean (sym h.alive.client) clean

    -- a call that is taken, or taken up again
    made-told : (b : Bool) (number : ℕ) (call : Call) (c : Client) → IsFineCall call → AllByRecursion (λ x. IsToldOf (arrivals made.limits past) id x) c.completions
        → AllByRecursion (λ x. IsToldOf (arrivals made.limits past) id x) (cond b (placed number call c c.link) c).completions
    made-told false number call c fine h = h
    made-told true number call c fine h = placed-told c.link
      where
        placed-told : (l : Option Linked) → AllByRecursion (λ x. IsToldOf (arrivals made.limits past) id x) (placed number call c l).completions
        placed-told None = h
        placed-told (Some l) = subst (λ b. AllByRecursion (λ x. IsToldOf (arrivals made.limits past) id x) (placed_on b number call c l).completions) (sym (waits-for-reply call fine)) h

    made-wired : (b : Bool) (now number : ℕ) (call : Call) (m : Member) → (b ≡ true → IsTaken m.life.client number call) → IsMember past opened id version m
        → IsWired past opened (m.life.sent ++ sent_at now (cond b (says_placed number call m.life.client m.life.client.link) [])) (cond b (placed number call m.life.client m.life.client.link) m.life.client).pending (cond b (placed number call m.life.client m.life.client.link) m.life.client).last (cond b (placed number call m.life.client m.life.client.link) m.life.client).link (extended (cond b (says_placed number call m.life.client m.life.client.link) []) m.wire)
    made-wired true now number call m is h = wired-called past opened m.life.sent now number call m.life.client m.life.client.link m.wire (own-clean m h.life) (is refl) h.wired
    made-wired false now number call m is h = wired-nothing past opened m.life.sent m.life.client.pending m.life.client.last m.life.client.link m.wire h.wired

    pub member-called : ClientLaws → (now : ℕ) (call : Call) (m : Member) → IsFineCall call → IsMember past opened id version m → IsMember past opened id version (acted (sides_of meaning made hears) (Called now call) m)
    member-called of_clients now call m fine h =
        let c = m.life.client in
        let down = hears c.limits in
        record {
          life = of_clients.goes_on id version down (Called now call) m.life h.life;
          small = small-after of_clients.as_long down (Called now call) c fine h.small;
          told = made-told (is_taken now call c) (suc c.last) call c fine h.told;
          wired = made-wired (is_taken now call c) now (suc c.last) call m (λ is. taken-is of_clients.as_long now call c fine is) h;
        }

    pub member-resumed : ClientLaws → (now number : ℕ) (call : Call) (m : Member) → IsFineCall call → IsMember past opened id version m → IsMember past opened id version (acted (sides_of meaning made hears) (Resumed now number call) m)
    member-resumed of_clients now number call m fine h =
        let c = m.life.client in
        let down = hears c.limits in
        record {
          life = of_clients.goes_on id version down (Resumed now number call) m.life h.life;
          small = small-after of_clients.as_long down (Resumed now number call) c fine h.small;
          told = made-told (is_resumed now number call c) number call c fine h.told;
          wired = made-wired (is_resumed now number call c) now number call m (λ is. resumed-is of_clients.as_long now number call c fine is) h;
        }

    pub member-skipped : ClientLaws → (number : ℕ) (m : Member) → IsMember past opened id version m → IsMember past opened id version (acted (sides_of meaning made hears) (Skipped number) m)
    member-skipped of_clients number m h =
        let c = m.life.client in
        let down = hears c.limits in
        record {
          life = of_clients.goes_on id version down (Skipped number) m.life h.life;
          small = small-after of_clients.as_long down (Skipped number) c tt h.small;
          told =
              elim (nat_lt c.last number && nat_lt number 2147483648) as (λ b. AllByRecursion (λ x. IsToldOf (arrivals made.limits past) id x) (cond b (record c { last = number }) c).completions)
              [ true ↦ h.told | false ↦ h.told ];
          wired =
              elim (nat_lt c.last number && nat_lt number 2147483648) as (λ b. (nat_lt c.last number && nat_lt number 2147483648) ≡ b
              → IsWired past opened (m.life.sent ++ []) (cond b (record c { last = number }) c).pending (cond b (record c { last = number }) c).last (cond b (record c { last = number }) c).link (extended [] m.wire)) [
                | true ↦ λ is. wired-later past opened (m.life.sent ++ []) c.pending c.last number c.link (extended [] m.wire) (let lt = ltb-true c.last number (and_parts (nat_lt c.last number) (nat_lt number 2147483648) is).0 in omega (arith, lt)) (wired-nothing past opened m.life.sent c.pending c.last c.link m.wire h.wired)
                | false ↦ λ is. wired-nothing past opened m.life.sent c.pending c.last c.link m.wire h.wired
              ] refl;
        }

    pub member-kept : ClientLaws → (keeps : Bool) (m : Member) → IsMember past opened id version m → IsMember past opened id version (acted (sides_of meaning made hears) (Kept keeps) m)
    member-kept of_clients keeps m h =
        let c = m.life.client in
        let down = hears c.limits in
        record {
          life = of_clients.goes_on id version down (Kept keeps) m.life h.life;
          small = small-after of_clients.as_long down (Kept keeps) c tt h.small;
          told = h.told;
          wired = wired-nothing past opened m.life.sent c.pending c.last c.link m.wire h.wired;
        }

    pub member-forwards : ClientLaws → (keeps : Bool) (m : Member) → IsMember past opened id version m → IsMember past opened id version (acted (sides_of meaning made hears) (KeptForwards keeps) m)
    member-forwards of_clients keeps m h =
        let c = m.life.client in
        let down = hears c.limits in
        record {
          life = of_clients.goes_on id version down (KeptForwards keeps) m.life h.life;
          small = small-after of_clients.as_long down (KeptForwards keeps) c tt h.small;
          told = h.told;
          wired = wired-nothing past opened m.life.sent c.pending c.last c.link m.wire h.wired;
        }

    pub member-redirected : ClientLaws → (number : ℤ) (key : List ℕ) (m : Member) → IsMember past opened id version m → IsMember past opened id version (acted (sides_of meaning made hears) (Redirected number key) m)
    member-redirected of_clients number key m h =
        let c = m.life.client in
        let down = hears c.limits in
        let other : Client = record c { pending = asked_at number key c.pending } in
        let still = wired-nothing past opened m.life.sent c.pending c.last c.link m.wire h.wired in
        record {
          life = of_clients.goes_on id version down (Redirected number key) m.life h.life;
          small = small-after of_clients.as_long down (Redirected number key) c tt h.small;
          told =
              elim (is_redirected key c (find_pending number c.pending)) as (λ b. AllByRecursion (λ x. IsToldOf (arrivals made.limits past) id x) (cond b other c).completions)
              [ true ↦ h.told | false ↦ h.told ];
          wired =
              elim (is_redirected key c (find_pending number c.pending)) as (λ b. IsWired past opened (m.life.sent ++ []) (cond b other c).pending (cond b other c).last (cond b other c).link (extended [] m.wire)) [
                | true ↦
                    wired-fewer past opened (m.life.sent ++ []) c.pending (asked_at number key c.pending) c.last c.link (extended [] m.wire)
                    (λ said each. asked_at-each (λ q. IsSent said q) number key c.pending (λ p found is. is) each) still
                | false ↦ still
              ];
        }

    pub member-resent : ClientLaws → (now : ℕ) (m : Member) → IsMember past opened id version m → IsMember past opened id version (acted (sides_of meaning made hears) (Resent now) m)
    member-resent of_clients now m h =
        let c = m.life.client in
        let down = hears c.limits in
        record {
          life = of_clients.goes_on id version down (Resent now) m.life h.life;
          small = small-after of_clients.as_long down (Resent now) c tt h.small;
          told = resent-told c.link;
          wired = wired-resent past opened m.life.sent now c c.link m.wire (own-clean m h.life) h.small refl h.wired;
        }
      where
        resent-told : (l : Option Linked) → AllByRecursion (λ x. IsToldOf (arrivals made.limits past) id x) (resent_if now m.life.client l).completions
        resent-told None = h.told
        resent-told (Some l) = subst (λ (y : Client). AllByRecursion (λ x. IsToldOf (arrivals made.limits past) id x) y.completions) (sym (resent-as now m.life.client l h.small)) h.told

    pub member-recalled : ClientLaws → (number : ℤ) (m : Member) → IsMember past opened id version m → IsMember past opened id version (acted (sides_of meaning made hears) (Recalled number) m)
    member-recalled of_clients number m h =
        let c = m.life.client in
        let down = hears c.limits in
        record {
          life = of_clients.goes_on id version down (Recalled number) m.life h.life;
          small = small-after of_clients.as_long down (Recalled number) c tt h.small;
          told = recalled-told (find_pending number c.pending);
          wired = wired-recalled past opened m.life.sent number c (find_pending number c.pending) m.wire refl h.wired;
        }
      where
        recalled-told : (o : Option Pending) → AllByRecursion (λ x. IsToldOf (arrivals made.limits past) id x) (recalled o m.life.client).completions
        recalled-told None = h.told
        recalled-told (Some p) = each-append (λ x. IsToldOf (arrivals made.limits past) id x) m.life.client.completions ((p.id, Cancelled) ∷ []) h.told (tt, tt)

    pub member-ticked : ClientLaws → (now : ℕ) (m : Member) → IsMember past opened id version m → IsMember past opened id version (acted (sides_of meaning made hears) (Ticked now) m)
    member-ticked of_clients now m h =
        let c = m.life.client in
        let down = hears c.limits in
        record {
          life = of_clients.goes_on id version down (Ticked now) m.life h.life;
          small = small-after of_clients.as_long down (Ticked now) c tt h.small;
          told = each-append (λ x. IsToldOf (arrivals made.limits past) id x) c.completions (late now c.pending) h.told (late-told (arrivals made.limits past) id now c.pending);
          wired =
              wired-fewer past opened (m.life.sent ++ []) c.pending (on_time now c.pending) c.last c.link (extended [] m.wire) (λ said each. on_time-each (λ q. IsSent said q) now c.pending each)
              (wired-nothing past opened m.life.sent c.pending c.last c.link m.wire h.wired);
        }

    -- its completions are taken
    alive-emptied : (l : Life) → IsLife id version l → IsLife id version (emptied l)
    alive-emptied l h = record {
      alive = record {
        client = h.alive.client;
        writes = h.alive.writes;
        numbers = h.alive.numbers;
        single = h.alive.single;
        once = λ r.
            let more = ended-append r l.taken l.client.completions in
            let was = h.alive.once r in
            omega (arith, more, was);
        pending = h.alive.pending;
        rising = h.alive.rising;
      };
      sent = h.sent;
    }

    pub member-emptied : (m : Member) → IsMember past opened id version m → IsMember past opened id version (record m { life = emptied m.life })
    member-emptied m h = record {
      life = alive-emptied m.life h.life;
      small = record { waits = h.small.waits; few = h.small.few; low = h.small.low };
      told = tt;
      wired = h.wired;
    }

  -- What it gets.

  module _ (all : List (Arrival Wanted)) (id : List ℕ) (version : Version) (calls : List (ℕ × Call)) (sent : List (ℕ × Transmission)) (said : List Said)
      (among : AllByRecursion (λ s. IsAmong sent s) said) (of_calls : AllByRecursion (λ x. IsOfCall id version calls x) sent) where
    -- the request of an id is the client's
    own-client : (i : ℕ) (t : Transmission) → asked_as said i ≡ Some t → t.client_id ≡ id
    own-client i t is =
        let at = asked_as-each (λ s. IsAmong sent s) said i t is among in
        (each-contains (λ x. IsOfCall id version calls x) sent (at.0, t) of_calls at.1).client

    -- a reply of a request id completes the call that was sent under it
    told-one : (i : ℕ) (shown : Shown) (c : Client) (o : Option ℕ) → waiting i c.pending ≡ o → AllByRecursion (λ p. IsSent said p) c.pending → IsReply meaning made all said (replied i shown)
        → AllByRecursion (λ x. IsToldOf all id x) c.completions → AllByRecursion (λ x. IsToldOf all id x) (completed_if o (ended_by shown) c).completions
    told-one i shown c None is waits reply h = h
    told-one i shown c (Some n) is waits reply h =
        let w = waiting-sent said i n c.pending waits is in
        let one : Some w.0 ≡ Some reply.0 = sym w.1 ∙ reply.1 in
        let same : w.0 ≡ reply.0 = same_Some w.0 reply.0 one in
        let mine = own-client i reply.0 reply.1 in
        let number : reply.0.retention_id ≡ n = ap (λ (t : Transmission). t.retention_id) (sym same) ∙ w.2 in
        let key : key_of reply.0 ≡ own_key id n = λ j. record { client_id = mine j; retention_id = pos (number j) } in
        each-append (λ x. IsToldOf all id x) c.completions ((n, ended_by shown) ∷ []) h
        (told-from all id n (ended_by shown) (subst (λ (k : RequestKey). Traced meaning made all k (ended_by shown)) key reply.2), tt)

    told-answered : (keeps : Bool) (i : ℕ) (shown : Shown) (c : Client) → AllByRecursion (λ p. IsSent said p) c.pending → IsReply meaning made all said (replied i shown) → AllByRecursion (λ x. IsToldOf all id x) c.completions
        → AllByRecursion (λ x. IsToldOf all id x) (answered keeps i (led_by shown) (ended_by shown) c).completions
    told-answered true i shown c waits reply h = h
    told-answered false i shown c waits reply h = told-one i shown c (waiting i c.pending) refl waits reply h

    told-settled : (a : Answer) (c : Client) → AllByRecursion (λ p. IsSent said p) c.pending → IsReply meaning made all said a → AllByRecursion (λ x. IsToldOf all id x) c.completions → AllByRecursion (λ x. IsToldOf all id x) (settled a c).completions
    told-settled (replied i shown) c waits reply h = told-answered (is_kept shown c) i shown c waits reply h
    told-settled (located i shown) c waits reply h = h

    pub told-settled_all : (xs : List Answer) (c : Client) → AllByRecursion (λ p. IsSent said p) c.pending → AllByRecursion (λ x. IsReply meaning made all said x) xs → AllByRecursion (λ x. IsToldOf all id x) c.completions
        → AllByRecursion (λ x. IsToldOf all id x) (settled_all xs c).completions
    told-settled_all [] c waits replies h = h
    told-settled_all (x ∷ xs) c waits replies h = told-settled_all xs (settled x c) (settled-each (λ p. IsSent said p) (λ l p is. tt) x c waits) replies.1 (told-settled x c waits replies.0 h)

  -- the next octets down bring replies of the connection alone
  pub news-replies : (hears : Limits → Hearing Answer) → AreFaithful made.limits hears → (own : Limits) (past : List Event) (said : List Said) (c went came n : ℕ) (received : List ℕ) → IsServed meaning made past said c went came received
      → AllByRecursion (λ x. IsReply meaning made (arrivals made.limits past) said x) (news (hears own) received (take n (drop came (stream octets_told (tellings (law_told meaning made) past c)))))
  news-replies hears faithful own past said c went came n received h =
      let f = hears own in
      let ts = tellings (law_told meaning made) past c in
      let all = stream octets_told ts in
      let octets = take n (drop came all) in
      let rest = drop n (drop came all) in
      let is : all ≡ (received ++ octets) ++ rest = front-more all received h.rest came n h.down h.taken in
      let near : IsFront (f.heard (received ++ octets)) (f.heard all) = subst (λ (o : List ℕ). IsFront (f.heard (received ++ octets)) (f.heard o)) (sym is) (faithful.grows own (received ++ octets) rest) in
      let P : Answer → Type 0 = λ x. IsReply meaning made (arrivals made.limits past) said x in
      each-drop P (length (f.heard received)) (f.heard (received ++ octets))
      (each-front P (f.heard (received ++ octets)) (filter_map answer_in ts) (front-trans (f.heard (received ++ octets)) (f.heard all) (filter_map answer_in ts) near (faithful.answered own ts h.fine)) h.replies)

  -- .. and are received
  pub served-down : (past : List Event) (said : List Said) (c went came n : ℕ) (received : List ℕ) → IsServed meaning made past said c went came received
      → IsServed meaning made past said c went (came + length (take n (drop came (stream octets_told (tellings (law_told meaning made) past c))))) (received ++ take n (drop came (stream octets_told (tellings (law_told meaning made) past c))))
  served-down past said c went came n received h =
      let all = stream octets_told (tellings (law_told meaning made) past c) in
      let octets = take n (drop came all) in
      let both = length-append received octets in
      let taken = h.taken in
      record {
        up = h.up;
        rest = drop n (drop came all);
        down = front-more all received h.rest came n h.down h.taken;
        taken = omega (arith, both, taken);
        fine = h.fine;
        replies = h.replies;
      }
