-- What a client has pending can be written, and is little.
use Rattle.std.proofs.Common.{◌≡◌, ℕ, suc, ◌<◌, ◌≤◌, ◌==◌, ◌&&◌, nat_le, nat_lt, not, is_some, ℤ, pos, Bool, true, false, cond, List, [], ◌∷◌, ◌++◌, length, Option, Some, None, refl, sym, ap, ◌∙◌, subst, arith, length-append, append-nil}
use Rattle.std.specs.List.{AllByRecursion}
use Rattle.std.specs.Ordering.{int_eq}
use Rattle.std.proofs.lemmas.Bool.{and_parts, ltb-true}
use Rattle.std.proofs.lemmas.Option.{none-some, same_Some}
use Rattle.giop_core.specs.Content.{Rest}
use Rattle.giop_core.specs.declared.header.Version.{Version}
use Rattle.giop_link.specs.Hearing.{Ending, Hearing, news}
use Rattle.ft_client.specs.Clients.{Called, Cancelled, Client, Ended, Fed, Happening, Joined, Kept, KeptForwards, Linked, Parted, Pending, Recalled, Redirected, Resent, Resumed, Sent, Skipped, Taken, Ticked, after, answered, asked_at, begun, completed, completed_if, ended_by, ending_of, find_pending, fits, ids_after, is_due, is_in_time, is_kept, is_redirected, is_resumed, is_sent_as, is_taken, is_unsettled, joined, leaving, led_by, on_time, parted, parted_at, placed, placed_on, put_off, recalled, resent, resent_if, resent_on, sent_off, settled, settled_all, skipped, stands_in, staying, told_of, transmission, transmission_to, unsent, waiting, without}
use Rattle.ft_client.specs.Laws.{RequestsAreAsLong}
use Rattle.ft_client.specs.Messages.{Answer, Call, has_no_ft, is_oneway, keeps_place, located, replied, request_behind, typed, wish_of}
use Rattle.ft_ends.specs.Fine.{IsFineCall}
use Rattle.ft_ends.proofs.Lists.{each-append}
use Rattle.ft_ends.proofs.Spoken.{IsFinePending}

-- what it has pending can be written, and at most 64 calls are; its last number is a long
pub record IsSmall (m : Client) : Type 0 where
  pub waits : AllByRecursion (λ p. IsFinePending m.version m.client_id p.id p.at p.call) m.pending
  pub few : length m.pending ≤ 64
  pub low : m.last ≤ 2147483647

without-length : (id : ℕ) (ps : List Pending) → length (without id ps) ≤ length ps
without-length id [] = omega arith
without-length id (p ∷ ps) =
    let rest = without-length id ps in elim (p.id == id) as (λ b. length (cond b ps (p ∷ without id ps)) ≤ length (p ∷ ps)) [ true ↦ omega arith | false ↦ omega (arith, rest) ]

staying-length : (stays : Pending → Bool) (ps : List Pending) → length (staying stays ps) ≤ length ps
staying-length stays [] = omega arith
staying-length stays (p ∷ ps) =
    let rest = staying-length stays ps in
    elim (stays p) as (λ b. length (cond b (p ∷ staying stays ps) (staying stays ps)) ≤ length (p ∷ ps)) [ true ↦ omega (arith, rest) | false ↦ omega (arith, rest) ]

unsent-length : (ps : List Pending) → length (unsent ps) ≡ length ps
unsent-length [] = refl
unsent-length (p ∷ ps) = ap suc (unsent-length ps)

resent-length : (now n : ℕ) (ps : List Pending) → length (resent now n ps) ≡ length ps
resent-length now n [] = refl
resent-length now n (p ∷ ps) =
    elim (is_due now n p) as (λ b. length (cond b (record p { sent = Some (suc n) } ∷ resent now (suc n) ps) (p ∷ resent now n ps)) ≡ suc (length ps))
    [ true ↦ ap suc (resent-length now (suc n) ps) | false ↦ ap suc (resent-length now n ps) ]

-- What holds of each pending call holds of those that are left.

pub without-each : (P : Pending → Type 0) (id : ℕ) (ps : List Pending) → AllByRecursion P ps → AllByRecursion P (without id ps)
without-each P id [] h = tt
without-each P id (p ∷ ps) h = elim (p.id == id) as (λ b. AllByRecursion P (cond b ps (p ∷ without id ps))) [ true ↦ h.1 | false ↦ (h.0, without-each P id ps h.1) ]

pub staying-each : (P : Pending → Type 0) (stays : Pending → Bool) (ps : List Pending) → AllByRecursion P ps → AllByRecursion P (staying stays ps)
staying-each P stays [] h = tt
staying-each P stays (p ∷ ps) h =
    elim (stays p) as (λ b. AllByRecursion P (cond b (p ∷ staying stays ps) (staying stays ps)))
    [ true ↦ (h.0, staying-each P stays ps h.1) | false ↦ staying-each P stays ps h.1 ]

pub on_time-each : (P : Pending → Type 0) (now : ℕ) (ps : List Pending) → AllByRecursion P ps → AllByRecursion P (on_time now ps)
on_time-each P now ps h = staying-each P (is_in_time now) ps h

-- sent or not
unsent-each : (P : ℕ → List ℕ → Call → Type 0) (ps : List Pending) → AllByRecursion (λ p. P p.id p.at p.call) ps → AllByRecursion (λ p. P p.id p.at p.call) (unsent ps)
unsent-each P [] h = tt
unsent-each P (p ∷ ps) h = (h.0, unsent-each P ps h.1)

resent-each : (P : ℕ → List ℕ → Call → Type 0) (now n : ℕ) (ps : List Pending) → AllByRecursion (λ p. P p.id p.at p.call) ps → AllByRecursion (λ p. P p.id p.at p.call) (resent now n ps)
resent-each P now n [] h = tt
resent-each P now n (p ∷ ps) h =
    elim (is_due now n p) as (λ b. AllByRecursion (λ q. P q.id q.at q.call) (cond b (record p { sent = Some (suc n) } ∷ resent now (suc n) ps) (p ∷ resent now n ps)))
    [ true ↦ (h.0, resent-each P now (suc n) ps h.1) | false ↦ (h.0, resent-each P now n ps h.1) ]

pub completed_if-each : (P : Pending → Type 0) (o : Option ℕ) (e : Ended) (m : Client) → AllByRecursion P m.pending → AllByRecursion P (completed_if o e m).pending
completed_if-each P None e m h = h
completed_if-each P (Some id) e m h = without-each P id m.pending h

put_off-each : (P : Pending → Type 0) → ((led : Option Rest) (p : Pending) → P p → P (record p { sent = None; led = led })) → (r : ℕ) (led : Option Rest) (ps : List Pending) → AllByRecursion P ps → AllByRecursion P (put_off r led ps)
put_off-each P off r led [] h = tt
put_off-each P off r led (p ∷ ps) h =
    elim (is_sent_as r p.sent) as (λ b. AllByRecursion P (cond b (record p { sent = None; led = led } ∷ ps) (p ∷ put_off r led ps)))
    [ true ↦ (off led p h.0, h.1) | false ↦ (h.0, put_off-each P off r led ps h.1) ]

answered-each : (P : Pending → Type 0) → ((led : Option Rest) (p : Pending) → P p → P (record p { sent = None; led = led })) → (keeps : Bool) (i : ℕ) (led : Option Rest) (e : Ended) (m : Client) → AllByRecursion P m.pending → AllByRecursion P (answered keeps i led e m).pending
answered-each P off true i led e m h = put_off-each P off i led m.pending h
answered-each P off false i led e m h = completed_if-each P (waiting i m.pending) e m h

-- what holds of a call whether it is sent or not
pub settled-each : (P : Pending → Type 0) → ((led : Option Rest) (p : Pending) → P p → P (record p { sent = None; led = led })) → (a : Answer) (m : Client) → AllByRecursion P m.pending → AllByRecursion P (settled a m).pending
settled-each P off (replied i shown) m h = answered-each P off (is_kept shown m) i (led_by shown) (ended_by shown) m h
settled-each P off (located i shown) m h = h

pub settled_all-each : (P : Pending → Type 0) → ((led : Option Rest) (p : Pending) → P p → P (record p { sent = None; led = led })) → (xs : List Answer) (m : Client) → AllByRecursion P m.pending → AllByRecursion P (settled_all xs m).pending
settled_all-each P off [] m h = h
settled_all-each P off (x ∷ xs) m h = settled_all-each P off xs (settled x m) (settled-each P off x m h)

pub found-each : (P : Pending → Type 0) (id : ℤ) (p : Pending) (ps : List Pending) → find_pending id ps ≡ Some p → AllByRecursion P ps → P p
found-each P id p [] is h = absurd (none-some p is)
found-each P id p (q ∷ ps) is h =
    elim (int_eq (pos q.id) id) as (λ b. cond b (Some q) (find_pending id ps) ≡ Some p → P p)
    [ true ↦ λ same. subst P (same_Some q p same) h.0 | false ↦ λ same. found-each P id p ps same h.1 ] is

-- What happens to a client.

small-as : (m : Client) (qs : List Pending) (l : Option Linked) → length qs ≡ length m.pending → AllByRecursion (λ p. IsFinePending m.version m.client_id p.id p.at p.call) qs → IsSmall m → IsSmall (record m { pending = qs; link = l })
small-as m qs l as_many waits h = record { waits = waits; few = let few = h.few in omega (arith, few, as_many); low = h.low }

small-linked : (m : Client) (l : Option Linked) → IsSmall m → IsSmall (record m { link = l })
small-linked m l h = record { waits = h.waits; few = h.few; low = h.low }

small-completed : (id : ℕ) (e : Ended) (m : Client) → IsSmall m → IsSmall (completed id e m)
small-completed id e m h = record {
  waits = without-each (λ p. IsFinePending m.version m.client_id p.id p.at p.call) id m.pending h.waits;
  few = let few = h.few in let less = without-length id m.pending in omega (arith, few, less);
  low = h.low;
}

small-if : (o : Option ℕ) (e : Ended) (m : Client) → IsSmall m → IsSmall (completed_if o e m)
small-if None e m h = h
small-if (Some id) e m h = small-completed id e m h

put_off-length : (r : ℕ) (led : Option Rest) (ps : List Pending) → length (put_off r led ps) ≡ length ps
put_off-length r led [] = refl
put_off-length r led (p ∷ ps) =
    elim (is_sent_as r p.sent) as (λ b. length (cond b (record p { sent = None; led = led } ∷ ps) (p ∷ put_off r led ps)) ≡ suc (length ps)) [ true ↦ refl | false ↦ ap suc (put_off-length r led ps) ]

small-answered : (keeps : Bool) (i : ℕ) (led : Option Rest) (e : Ended) (m : Client) → IsSmall m → IsSmall (answered keeps i led e m)
small-answered true i led e m h =
    small-as m (put_off i led m.pending) m.link (put_off-length i led m.pending) (put_off-each (λ p. IsFinePending m.version m.client_id p.id p.at p.call) (λ l p is. is) i led m.pending h.waits) h
small-answered false i led e m h = small-if (waiting i m.pending) e m h

small-settled : (a : Answer) (m : Client) → IsSmall m → IsSmall (settled a m)
small-settled (replied i shown) m h = small-answered (is_kept shown m) i (led_by shown) (ended_by shown) m h
small-settled (located i shown) m h = h

small-settled_all : (xs : List Answer) (m : Client) → IsSmall m → IsSmall (settled_all xs m)
small-settled_all [] m h = h
small-settled_all (x ∷ xs) m h = small-settled_all xs (settled x m) (small-settled x m h)

small-told : (down : Hearing Answer) (octets : List ℕ) (m : Client) (l : Option Linked) → IsSmall m → IsSmall (told_of down octets m l)
small-told down octets m None h = h
small-told down octets m (Some l) h =
    small-settled_all (news down l.received octets) (record m { link = Some (record l { received = l.received ++ octets }) }) (small-linked m (Some (record l { received = l.received ++ octets })) h)

pub small-parted : (m : Client) → IsSmall m → IsSmall (parted m)
small-parted m h = small-as m (unsent m.pending) None (unsent-length m.pending) (unsent-each (IsFinePending m.version m.client_id) m.pending h.waits) h

small-parted_at : (e : Option Ending) (m : Client) → IsSmall m → IsSmall (parted_at e m)
small-parted_at None m h = h
small-parted_at (Some e) m h = small-parted m h

small-recalled : (o : Option Pending) (m : Client) → IsSmall m → IsSmall (recalled o m)
small-recalled None m h = h
small-recalled (Some p) m h = small-completed p.id Cancelled m h

small-sent_off : (m : Client) → IsSmall m → IsSmall (sent_off m)
small-sent_off m h = record {
  waits = staying-each (λ p. IsFinePending m.version m.client_id p.id p.at p.call) is_unsettled m.pending h.waits;
  few = let few = h.few in let less = staying-length is_unsettled m.pending in omega (arith, few, less);
  low = h.low;
}

-- typed calls wait for a reply

abbrev AreTyped : List Pending → Type 0
AreTyped ps = AllByRecursion (λ p. p.call.form ≡ typed) ps

none-off : (ps : List Pending) → AreTyped ps → (staying is_unsettled ps ≡ ps) × (leaving is_unsettled Sent ps ≡ [])
none-off [] h = (refl, refl)
none-off (p ∷ ps) h =
    let here : is_unsettled p ≡ true = ap (λ f. not (is_oneway (wish_of f) && is_some p.sent)) h.0 in
    let rest = none-off ps h.1 in
    (ap (λ b. cond b (p ∷ staying is_unsettled ps) (staying is_unsettled ps)) here ∙ ap (λ (qs : List Pending). p ∷ qs) rest.0, ap (λ b. cond b (leaving is_unsettled Sent ps) ((p.id, Sent) ∷ leaving is_unsettled Sent ps)) here ∙ rest.1)

pub all-typed : (version : Version) (client_id : List ℕ) (ps : List Pending) → AllByRecursion (λ p. IsFinePending version client_id p.id p.at p.call) ps → AreTyped ps
all-typed version client_id [] h = tt
all-typed version client_id (p ∷ ps) h = (h.0.fine.values, all-typed version client_id ps h.1)

pub resent-as : (now : ℕ) (m : Client) (l : Linked) → IsSmall m → sent_off (resent_on now m l) ≡ resent_on now m l
resent-as now m l h =
    let r = none-off (resent now l.given m.pending) (resent-each (λ id at c. c.form ≡ typed) now l.given m.pending (all-typed m.version m.client_id m.pending h.waits)) in
    λ i. record (resent_on now m l) { pending = r.0 i; completions = (ap (λ cs. m.completions ++ cs) r.1 ∙ append-nil m.completions) i }

small-resent : (now : ℕ) (m : Client) (l : Linked) → IsSmall m → IsSmall (resent_on now m l)
small-resent now m l h =
    small-as m (resent now l.given m.pending) (Some (record l { given = ids_after now l.given m.pending })) (resent-length now l.given m.pending) (resent-each (IsFinePending m.version m.client_id) now l.given m.pending h.waits) h

small-resent_if : (now : ℕ) (m : Client) (l : Option Linked) → IsSmall m → IsSmall (resent_if now m l)
small-resent_if now m None h = h
small-resent_if now m (Some l) h = small-sent_off (resent_on now m l) (small-resent now m l h)

-- what is known of a call that is taken
pub record IsTaken (m : Client) (id : ℕ) (call : Call) : Type 0 where
  pub greater : m.last < id
  pub low : id ≤ 2147483647
  pub few : length m.pending < 64
  pub fine : IsFinePending m.version m.client_id id call.object_key call

pub taken-is : RequestsAreAsLong → (now : ℕ) (call : Call) (m : Client) → IsFineCall call → is_taken now call m ≡ true → IsTaken m (suc m.last) call
taken-is as_long now call m fine is =
    let room = nat_lt (length m.pending) 64 && (stands_in (suc m.last) m call && fits (suc m.last) m call) in
    let own = (and_parts (has_no_ft call.form) (nat_le now call.expiration && (nat_lt m.last 2147483647 && room)) is).1 in
    let a = (and_parts (nat_le now call.expiration) (nat_lt m.last 2147483647 && room) own).1 in
    let b = and_parts (nat_lt m.last 2147483647) room a in
    let c = and_parts (nat_lt (length m.pending) 64) (stands_in (suc m.last) m call && fits (suc m.last) m call) b.1 in
    let d = and_parts (stands_in (suc m.last) m call) (fits (suc m.last) m call) c.1 in
    let low = ltb-true m.last 2147483647 b.0 in
    record {
      greater = omega arith;
      low = low;
      few = ltb-true (length m.pending) 64 c.0;
      fine = record {
        fine = fine;
        number = omega (arith, low);
        size = λ i. subst (λ (k : ℕ). k < 4294967296) (as_long m.version m.client_id (suc m.last) 1 i call.object_key call) (ltb-true (length (request_behind (transmission m.version m.client_id (suc m.last) 1 call))) 4294967296 d.1);
      };
    }

pub resumed-is : RequestsAreAsLong → (now id : ℕ) (call : Call) (m : Client) → IsFineCall call → is_resumed now id call m ≡ true → IsTaken m id call
resumed-is as_long now id call m fine is =
    let room = nat_lt (length m.pending) 64 && (stands_in id m call && fits id m call) in
    let own = and_parts (has_no_ft call.form) ((nat_lt m.last id && nat_lt id 2147483648) && (nat_le now call.expiration && room)) is in
    let a = and_parts (nat_lt m.last id && nat_lt id 2147483648) (nat_le now call.expiration && room) own.1 in
    let free = and_parts (nat_lt m.last id) (nat_lt id 2147483648) a.0 in
    let b = and_parts (nat_le now call.expiration) room a.1 in
    let c = and_parts (nat_lt (length m.pending) 64) (stands_in id m call && fits id m call) b.1 in
    let d = and_parts (stands_in id m call) (fits id m call) c.1 in
    let low = ltb-true id 2147483648 free.1 in
    record {
      greater = ltb-true m.last id free.0;
      low = omega (arith, low);
      few = ltb-true (length m.pending) 64 c.0;
      fine = record {
        fine = fine;
        number = omega (arith, low);
        size = λ i. subst (λ (k : ℕ). k < 4294967296) (as_long m.version m.client_id id 1 i call.object_key call) (ltb-true (length (request_behind (transmission m.version m.client_id id 1 call))) 4294967296 d.1);
      };
    }

small-called : (id : ℕ) (call : Call) (sent : Option ℕ) (l : Option Linked) (m : Client) → IsTaken m id call → IsSmall m → IsSmall (record m { last = id; pending = m.pending ++ begun id call sent ∷ []; link = l })
small-called id call sent l m is h =
    let p : Pending = begun id call sent in
    record {
      waits = each-append (λ q. IsFinePending m.version m.client_id q.id q.at q.call) m.pending (p ∷ []) h.waits (is.fine, tt);
      few = let few = is.few in let long = length-append m.pending (p ∷ []) in omega (arith, few, long);
      low = is.low;
    }

small-placed_on : (b : Bool) (id : ℕ) (call : Call) (m : Client) (l : Linked) → IsTaken m id call → IsSmall m → IsSmall (placed_on b id call m l)
small-placed_on true id call m l is h = record { waits = h.waits; few = h.few; low = is.low }
small-placed_on false id call m l is h = small-called id call (Some (suc l.given)) (Some (record l { given = suc l.given })) m is h

small-placed : (id : ℕ) (call : Call) (m : Client) (l : Option Linked) → IsTaken m id call → IsSmall m → IsSmall (placed id call m l)
small-placed id call m None is h = small-called id call None None m is h
small-placed id call m (Some l) is h = small-placed_on (is_oneway (wish_of call.form)) id call m l is h

small-made : (b : Bool) (id : ℕ) (call : Call) (m : Client) → (b ≡ true → IsTaken m id call) → IsSmall m → IsSmall (cond b (placed id call m m.link) m)
small-made true id call m is h = small-placed id call m m.link (is refl) h
small-made false id call m is h = h

small-skipped : (id : ℕ) (m : Client) → IsSmall m → IsSmall (skipped id m)
small-skipped id m h =
    elim (nat_lt m.last id && nat_lt id 2147483648) as (λ b. (nat_lt m.last id && nat_lt id 2147483648) ≡ b → IsSmall (cond b (record m { last = id }) m)) [
      | true ↦ λ is. record { waits = h.waits; few = h.few; low = let low = ltb-true id 2147483648 (and_parts (nat_lt m.last id) (nat_lt id 2147483648) is).1 in omega (arith, low) }
      | false ↦ λ is. h
    ] refl

-- a call that is redirected

asked_at-length : (id : ℤ) (key : List ℕ) (ps : List Pending) → length (asked_at id key ps) ≡ length ps
asked_at-length id key [] = refl
asked_at-length id key (p ∷ ps) =
    elim (int_eq (pos p.id) id) as (λ b. length (cond b (record p { at = key; led = None } ∷ ps) (p ∷ asked_at id key ps)) ≡ suc (length ps)) [ true ↦ refl | false ↦ ap suc (asked_at-length id key ps) ]

-- what holds of each holds of each then, where it holds of the one that is found under the other key
pub asked_at-each : (P : Pending → Type 0) (id : ℤ) (key : List ℕ) (ps : List Pending) → ((p : Pending) → find_pending id ps ≡ Some p → P p → P (record p { at = key; led = None })) → AllByRecursion P ps → AllByRecursion P (asked_at id key ps)
asked_at-each P id key [] at h = tt
asked_at-each P id key (p ∷ ps) at h =
    elim (int_eq (pos p.id) id) as (λ b. ((q : Pending) → cond b (Some p) (find_pending id ps) ≡ Some q → P q → P (record q { at = key; led = None })) → AllByRecursion P (cond b (record p { at = key; led = None } ∷ ps) (p ∷ asked_at id key ps)))
    [ true ↦ λ f. (f p refl h.0, h.1) | false ↦ λ f. (h.0, asked_at-each P id key ps f h.1) ] at

redirected-fine : RequestsAreAsLong → (key : List ℕ) (m : Client) (p : Pending) → is_redirected key m (Some p) ≡ true → IsFinePending m.version m.client_id p.id p.at p.call → IsFinePending m.version m.client_id p.id key p.call
redirected-fine as_long key m p is fine =
    let t = transmission_to m.version m.client_id p.id 1 key p.call in
    let a = and_parts (is_some p.led) (keeps_place t && nat_lt (length (request_behind t)) 4294967296) is in
    let b = and_parts (keeps_place t) (nat_lt (length (request_behind t)) 4294967296) a.1 in
    record { fine = fine.fine; number = fine.number; size = λ i. subst (λ (k : ℕ). k < 4294967296) (as_long m.version m.client_id p.id 1 i key p.call) (ltb-true (length (request_behind t)) 4294967296 b.1) }

small-redirected : RequestsAreAsLong → (id : ℤ) (key : List ℕ) (m : Client) → IsSmall m → IsSmall (cond (is_redirected key m (find_pending id m.pending)) (record m { pending = asked_at id key m.pending }) m)
small-redirected as_long id key m h =
    let o = find_pending id m.pending in
    elim (is_redirected key m o) as (λ b. is_redirected key m o ≡ b → IsSmall (cond b (record m { pending = asked_at id key m.pending }) m)) [
      | true ↦ λ is.
          small-as m (asked_at id key m.pending) m.link (asked_at-length id key m.pending)
          (asked_at-each (λ p. IsFinePending m.version m.client_id p.id p.at p.call) id key m.pending (λ p found fine. redirected-fine as_long key m p (ap (is_redirected key m) (sym found) ∙ is) fine) h.waits) h
      | false ↦ λ is. h
    ] refl

-- the call of a happening, if it is one, can be written
abbrev pub IsFineHappening : Happening → Type 0
IsFineHappening (Called now call) = IsFineCall call
IsFineHappening (Resumed now id call) = IsFineCall call
IsFineHappening h = Unit {0}

pub small-after : RequestsAreAsLong → (down : Hearing Answer) (h : Happening) (m : Client) → IsFineHappening h → IsSmall m → IsSmall (after down h m)
small-after as_long down (Called now call) m fine s = small-made (is_taken now call m) (suc m.last) call m (λ is. taken-is as_long now call m fine is) s
small-after as_long down (Resumed now id call) m fine s = small-made (is_resumed now id call m) id call m (λ is. resumed-is as_long now id call m fine is) s
small-after as_long down (Skipped id) m fine s = small-skipped id m s
small-after as_long down (Kept keeps) m fine s = record { waits = s.waits; few = s.few; low = s.low }
small-after as_long down (KeptForwards keeps) m fine s = record { waits = s.waits; few = s.few; low = s.low }
small-after as_long down (Redirected id key) m fine s = small-redirected as_long id key m s
small-after as_long down (Joined now) m fine s =
    small-sent_off (joined now m) (small-resent now (parted m) (record { given = 0; received = [] }) (small-parted m s))
small-after as_long down (Resent now) m fine s = small-resent_if now m m.link s
small-after as_long down (Fed octets) m fine s = small-parted_at (ending_of down octets m.link) (told_of down octets m m.link) (small-told down octets m m.link s)
small-after as_long down Parted m fine s = small-parted m s
small-after as_long down (Recalled id) m fine s = small-recalled (find_pending id m.pending) m s
small-after as_long down (Ticked now) m fine s = record {
  waits = on_time-each (λ p. IsFinePending m.version m.client_id p.id p.at p.call) now m.pending s.waits;
  few = let few = s.few in let less = staying-length (is_in_time now) m.pending in omega (arith, few, less);
  low = s.low;
}
small-after as_long down Taken m fine s = record { waits = s.waits; few = s.few; low = s.low }
