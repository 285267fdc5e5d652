-- What is known of each client that lived: what is pending can be sent, it is little, and ids are left.
use Rattle.std.proofs.Common.{◌≡◌, ℕ, suc, ◌+◌, ◌<◌, ◌≤◌, ◌==◌, ◌&&◌, nat_le, nat_lt, not, is_some, ℤ, Bool, true, false, cond, List, [], ◌∷◌, ◌++◌, length, Option, Some, None, refl, ap, subst, arith, length-append}
use Rattle.std.specs.List.{AllByRecursion}
use Rattle.std.proofs.lemmas.Bool.{and_parts, ltb-true}
use Rattle.giop_core.specs.Content.{Rest}
use Rattle.giop_core.specs.declared.header.Version.{Version}
use Rattle.giop_frames.specs.declared.limits.Limits.{Limits}
use Rattle.giop_link.specs.Hearing.{Ending, Hearing, news}
use Rattle.ft_client.specs.Clients.{Called, Cancelled, Client, Ended, Expired, Fed, Happening, Joined, Kept, KeptForwards, Linked, Parted, Pending, Recalled, Redirected, Resent, Resumed, Sent, Skipped, Taken, Ticked, after, answered, asked_at, begun, completed, completed_if, ended_by, ending_of, find_pending, fits, ids_after, is_due, is_in_time, is_kept, is_redirected, is_resumed, is_taken, is_unsettled, joined, led_by, new_client, parted, parted_at, placed, placed_on, put_off, recalled, resent, resent_if, resent_on, settled, settled_all, skipped, stands_in, staying, told_of, transmission, unsent, waiting, without}
use Rattle.ft_client.specs.Laws.{IdsAreLeft}
use Rattle.ft_client.specs.Lives.{Life, goes_on, lived, new_life}
use Rattle.ft_client.specs.Messages.{Answer, Call, has_no_ft, is_oneway, keeps_place, located, replied, request_behind, wish_of}
use Rattle.ft_client.proofs.Leaving.{left_by, staying-each}
use Rattle.ft_client.proofs.Living.{AreAlike, alike-asked_at, alike-each, alike-put_off, alike-resent, alike-unsent, each-append, without-each}

-- a call that a client of this id and version can send under a number, whenever it is in time
pub record CanStand (version : Version) (client_id : List ℕ) (id : ℕ) (call : Call) : Type 0 where
  pub numbered : 0 < id
  pub own : has_no_ft call.form ≡ true
  pub stands : keeps_place (transmission version client_id id 1 call) ≡ true
  pub fit : nat_lt (length (request_behind (transmission version client_id id 1 call))) 4294967296 ≡ true

-- a link has given at most 2^31 ids more than the last number
abbrev pub HasIds : ℕ → Option Linked → Type 0
HasIds last None = Unit {0}
HasIds last (Some l) = l.given ≤ last + 2147483648

pub record IsWhole (m : Client) : Type 0 where
  pub each : AllByRecursion (λ p. CanStand m.version m.client_id p.id p.call) m.pending
  pub few : length m.pending ≤ 64
  pub long : m.last < 2147483648
  pub ids : HasIds m.last m.link

-- Lists.

alike-length : (ps qs : List Pending) → AreAlike ps qs → length ps ≡ length qs
alike-length [] [] h = refl
alike-length [] (q ∷ qs) h = absurd h
alike-length (p ∷ ps) [] h = absurd h
alike-length (p ∷ ps) (q ∷ qs) h = ap suc (alike-length ps qs h.2)

without-length : (id : ℕ) (ps : List Pending) → length (without id ps) ≤ length ps
without-length id [] = omega arith
without-length id (p ∷ ps) =
    let rest = without-length id ps in elim (p.id == id) as (λ b. length (cond b ps (p ∷ without id ps)) ≤ length (p ∷ ps)) [ true ↦ omega arith | false ↦ omega (arith, rest) ]

staying-length : (stays : Pending → Bool) (ps : List Pending) → length (staying stays ps) ≤ length ps
staying-length stays [] = omega arith
staying-length stays (p ∷ ps) =
    let rest = staying-length stays ps in
    elim (stays p) as (λ b. length (cond b (p ∷ staying stays ps) (staying stays ps)) ≤ length (p ∷ ps)) [ true ↦ omega (arith, rest) | false ↦ omega (arith, rest) ]

-- what is due goes out where fewer than half of the ids were given
due-low : (now n : ℕ) (p : Pending) → is_due now n p ≡ true → n < 2147483648
due-low now n p is =
    let a = and_parts (not (is_some p.sent)) (not (is_some p.led) && (nat_le now p.call.expiration && nat_lt n 2147483648)) is in
    let b = and_parts (not (is_some p.led)) (nat_le now p.call.expiration && nat_lt n 2147483648) a.1 in
    let c = and_parts (nat_le now p.call.expiration) (nat_lt n 2147483648) b.1 in
    ltb-true n 2147483648 c.1

ids-few : (now n last : ℕ) (ps : List Pending) → n ≤ last + 2147483648 → ids_after now n ps ≤ last + 2147483648
ids-few now n last [] few = few
ids-few now n last (p ∷ ps) few =
    elim (is_due now n p) as (λ b. is_due now n p ≡ b → cond b (ids_after now (suc n) ps) (ids_after now n ps) ≤ last + 2147483648)
    [ true ↦ λ is. (let low = due-low now n p is in ids-few now (suc n) last ps (omega (arith, low))) | false ↦ λ is. ids-few now n last ps few ] refl

-- What happens to a client.

-- the same calls, sent or not, and another link
whole-alike : (m : Client) (qs : List Pending) (l : Option Linked) → AreAlike m.pending qs → HasIds m.last l → IsWhole m → IsWhole (record m { pending = qs; link = l })
whole-alike m qs l same ids h = record {
  each = alike-each (CanStand m.version m.client_id) m.pending qs same h.each;
  few = let few = h.few in let as_many = alike-length m.pending qs same in omega (arith, few, as_many);
  long = h.long;
  ids = ids;
}

whole-completed : (id : ℕ) (ended : Ended) (m : Client) → IsWhole m → IsWhole (completed id ended m)
whole-completed id ended m h = record {
  each = without-each (λ p. CanStand m.version m.client_id p.id p.call) id m.pending h.each;
  few = let few = h.few in let less = without-length id m.pending in omega (arith, few, less);
  long = h.long;
  ids = h.ids;
}

whole-if : (o : Option ℕ) (ended : Ended) (m : Client) → IsWhole m → IsWhole (completed_if o ended m)
whole-if None ended m h = h
whole-if (Some id) ended m h = whole-completed id ended m h

whole-answered : (keeps : Bool) (i : ℕ) (led : Option Rest) (ended : Ended) (m : Client) → IsWhole m → IsWhole (answered keeps i led ended m)
whole-answered true i led ended m h = whole-alike m (put_off i led m.pending) m.link (alike-put_off i led m.pending) h.ids h
whole-answered false i led ended m h = whole-if (waiting i m.pending) ended m h

whole-settled : (a : Answer) (m : Client) → IsWhole m → IsWhole (settled a m)
whole-settled (replied i shown) m h = whole-answered (is_kept shown m) i (led_by shown) (ended_by shown) m h
whole-settled (located i shown) m h = h

whole-settled_all : (answers : List Answer) (m : Client) → IsWhole m → IsWhole (settled_all answers m)
whole-settled_all [] m h = h
whole-settled_all (a ∷ answers) m h = whole-settled_all answers (settled a m) (whole-settled a m h)

whole-told : (down : Hearing Answer) (octets : List ℕ) (m : Client) (l : Option Linked) → HasIds m.last l → IsWhole m → IsWhole (told_of down octets m l)
whole-told down octets m None ids h = h
whole-told down octets m (Some l) ids h =
    whole-settled_all (news down l.received octets) (record m { link = Some (record l { received = l.received ++ octets }) }) (record { each = h.each; few = h.few; long = h.long; ids = ids })

whole-parted : (m : Client) → IsWhole m → IsWhole (parted m)
whole-parted m h = whole-alike m (unsent m.pending) None (alike-unsent m.pending) tt h

whole-parted_at : (e : Option Ending) (m : Client) → IsWhole m → IsWhole (parted_at e m)
whole-parted_at None m h = h
whole-parted_at (Some e) m h = whole-parted m h

whole-recalled : (o : Option Pending) (m : Client) → IsWhole m → IsWhole (recalled o m)
whole-recalled None m h = h
whole-recalled (Some p) m h = whole-completed p.id Cancelled m h

-- a call that is redirected, or not
whole-redirected : (b : Bool) (id : ℤ) (key : List ℕ) (m : Client) → IsWhole m → IsWhole (cond b (record m { pending = asked_at id key m.pending }) m)
whole-redirected true id key m h = whole-alike m (asked_at id key m.pending) m.link (alike-asked_at id key m.pending) h.ids h
whole-redirected false id key m h = h

-- calls that have left
whole-left : (stays : Pending → Bool) (ended : Ended) (m : Client) → IsWhole m → IsWhole (left_by stays ended m)
whole-left stays ended m h = record {
  each = staying-each stays (λ p. CanStand m.version m.client_id p.id p.call) m.pending h.each;
  few = let few = h.few in let less = staying-length stays m.pending in omega (arith, few, less);
  long = h.long;
  ids = h.ids;
}

-- calls that are sent on a link
whole-resent : (now : ℕ) (m : Client) (l : Linked) → HasIds m.last (Some l) → IsWhole m → IsWhole (resent_on now m l)
whole-resent now m l ids h =
    whole-alike m (resent now l.given m.pending) (Some (record l { given = ids_after now l.given m.pending })) (alike-resent now l.given m.pending) (ids-few now l.given m.last m.pending ids) h

whole-resent_if : (now : ℕ) (m : Client) (l : Option Linked) → HasIds m.last l → IsWhole m → IsWhole (resent_if now m l)
whole-resent_if now m None ids h = h
whole-resent_if now m (Some l) ids h = whole-left is_unsettled Sent (resent_on now m l) (whole-resent now m l ids h)

-- what is known of a call that is taken
record CanTake (m : Client) (id : ℕ) (call : Call) : Type 0 where
  pub greater : m.last < id
  pub long : id < 2147483648
  pub few : length m.pending < 64
  pub can : CanStand m.version m.client_id id call

taken-can : (now : ℕ) (call : Call) (m : Client) → is_taken now call m ≡ true → CanTake m (suc m.last) call
taken-can now call m is =
    let room = nat_lt (length m.pending) 64 && (stands_in (suc m.last) m call && fits (suc m.last) m call) in
    let own = and_parts (has_no_ft call.form) (nat_le now call.expiration && (nat_lt m.last 2147483647 && room)) is in
    let a = and_parts (nat_le now call.expiration) (nat_lt m.last 2147483647 && room) own.1 in
    let b = and_parts (nat_lt m.last 2147483647) room a.1 in
    let c = and_parts (nat_lt (length m.pending) 64) (stands_in (suc m.last) m call && fits (suc m.last) m call) b.1 in
    let d = and_parts (stands_in (suc m.last) m call) (fits (suc m.last) m call) c.1 in
    let low = ltb-true m.last 2147483647 b.0 in
    record {
      greater = omega arith;
      long = omega (arith, low);
      few = ltb-true (length m.pending) 64 c.0;
      can = record { numbered = omega arith; own = own.0; stands = d.0; fit = d.1 };
    }

resumed-can : (now id : ℕ) (call : Call) (m : Client) → is_resumed now id call m ≡ true → CanTake m id call
resumed-can now id call m is =
    let room = nat_lt (length m.pending) 64 && (stands_in id m call && fits id m call) in
    let own = and_parts (has_no_ft call.form) ((nat_lt m.last id && nat_lt id 2147483648) && (nat_le now call.expiration && room)) is in
    let a = and_parts (nat_lt m.last id && nat_lt id 2147483648) (nat_le now call.expiration && room) own.1 in
    let free = and_parts (nat_lt m.last id) (nat_lt id 2147483648) a.0 in
    let b = and_parts (nat_le now call.expiration) room a.1 in
    let c = and_parts (nat_lt (length m.pending) 64) (stands_in id m call && fits id m call) b.1 in
    let d = and_parts (stands_in id m call) (fits id m call) c.1 in
    let greater = ltb-true m.last id free.0 in
    record {
      greater = greater;
      long = ltb-true id 2147483648 free.1;
      few = ltb-true (length m.pending) 64 c.0;
      can = record { numbered = omega (arith, greater); own = own.0; stands = d.0; fit = d.1 };
    }

-- a call more, sent or not
whole-called : (id : ℕ) (call : Call) (sent : Option ℕ) (l : Option Linked) (m : Client) → CanTake m id call → HasIds id l → IsWhole m → IsWhole (record m { last = id; pending = m.pending ++ begun id call sent ∷ []; link = l })
whole-called id call sent l m is ids h =
    let p : Pending = begun id call sent in
    record {
      each = each-append (λ q. CanStand m.version m.client_id q.id q.call) m.pending (p ∷ []) h.each (is.can, tt);
      few = let few = is.few in let more = length-append m.pending (p ∷ []) in omega (arith, few, more);
      long = is.long;
      ids = ids;
    }

whole-placed_on : (b : Bool) (id : ℕ) (call : Call) (m : Client) (l : Linked) → CanTake m id call → suc l.given ≤ id + 2147483648 → IsWhole m → IsWhole (placed_on b id call m l)
whole-placed_on true id call m l is ids h = record { each = h.each; few = h.few; long = is.long; ids = ids }
whole-placed_on false id call m l is ids h = whole-called id call (Some (suc l.given)) (Some (record l { given = suc l.given })) m is ids h

whole-placed : (id : ℕ) (call : Call) (m : Client) (l : Option Linked) → CanTake m id call → HasIds m.last l → IsWhole m → IsWhole (placed id call m l)
whole-placed id call m None is ids h = whole-called id call None None m is tt h
whole-placed id call m (Some l) is ids h =
    let greater = is.greater in
    let few : l.given ≤ m.last + 2147483648 = ids in
    whole-placed_on (is_oneway (wish_of call.form)) id call m l is (omega (arith, greater, few)) h

whole-made : (b : Bool) (id : ℕ) (call : Call) (m : Client) → (b ≡ true → CanTake m id call) → IsWhole m → IsWhole (cond b (placed id call m m.link) m)
whole-made true id call m is h = whole-placed id call m m.link (is refl) h.ids h
whole-made false id call m is h = h

ids-later : (last next : ℕ) (l : Option Linked) → last ≤ next → HasIds last l → HasIds next l
ids-later last next None le ids = tt
ids-later last next (Some l) le ids =
    let few : l.given ≤ last + 2147483648 = ids in
    let more : l.given ≤ next + 2147483648 = omega (arith, le, few) in
    more

-- greater numbers from now on
whole-skipped : (id : ℕ) (m : Client) → IsWhole m → IsWhole (skipped id m)
whole-skipped id m h =
    elim (nat_lt m.last id && nat_lt id 2147483648) as (λ b. (nat_lt m.last id && nat_lt id 2147483648) ≡ b → IsWhole (cond b (record m { last = id }) m)) [
      | true ↦ λ is.
          let free = and_parts (nat_lt m.last id) (nat_lt id 2147483648) is in
          let greater = ltb-true m.last id free.0 in
          record { each = h.each; few = h.few; long = ltb-true id 2147483648 free.1; ids = ids-later m.last id m.link (omega (arith, greater)) h.ids }
      | false ↦ λ is. h
    ] refl

whole-after : (down : Hearing Answer) (h : Happening) (m : Client) → IsWhole m → IsWhole (after down h m)
whole-after down (Called now call) m w = whole-made (is_taken now call m) (suc m.last) call m (λ is. taken-can now call m is) w
whole-after down (Resumed now id call) m w = whole-made (is_resumed now id call m) id call m (λ is. resumed-can now id call m is) w
whole-after down (Skipped id) m w = whole-skipped id m w
whole-after down (Kept keeps) m w = record { each = w.each; few = w.few; long = w.long; ids = w.ids }
whole-after down (KeptForwards keeps) m w = record { each = w.each; few = w.few; long = w.long; ids = w.ids }
whole-after down (Redirected id key) m w = whole-redirected (is_redirected key m (find_pending id m.pending)) id key m w
whole-after down (Joined now) m w =
    let none : 0 ≤ m.last + 2147483648 = omega arith in
    whole-left is_unsettled Sent (joined now m) (whole-resent now (parted m) (record { given = 0; received = [] }) none (whole-parted m w))
whole-after down (Resent now) m w = whole-resent_if now m m.link w.ids w
whole-after down (Fed octets) m w = whole-parted_at (ending_of down octets m.link) (told_of down octets m m.link) (whole-told down octets m m.link w.ids w)
whole-after down Parted m w = whole-parted m w
whole-after down (Recalled id) m w = whole-recalled (find_pending id m.pending) m w
whole-after down (Ticked now) m w = whole-left (is_in_time now) Expired m w
whole-after down Taken m w = record { each = w.each; few = w.few; long = w.long; ids = w.ids }

whole-lived : (down : Hearing Answer) (hs : List Happening) (l : Life) → IsWhole l.client → IsWhole (lived down hs l).client
whole-lived down [] l w = w
whole-lived down (h ∷ hs) l w = whole-lived down hs (goes_on down h l) (whole-after down h l.client w)

whole-new : (client_id : List ℕ) (version : Version) (limits : Limits) → IsWhole (new_client client_id version limits)
whole-new client_id version limits =
    let few : 0 ≤ 64 = omega arith in
    let long : 0 < 2147483648 = omega arith in
    record { each = tt; few = few; long = long; ids = tt }

pub whole-life : (client_id : List ℕ) (version : Version) (limits : Limits) (down : Hearing Answer) (hs : List Happening) → IsWhole (lived down hs (new_life client_id version limits)).client
whole-life client_id version limits down hs = whole-lived down hs (new_life client_id version limits) (whole-new client_id version limits)

pub ids-are-left : IdsAreLeft
ids-are-left client_id version limits down happenings m l is linked =
    let w : IsWhole m = subst IsWhole is (whole-life client_id version limits down happenings) in
    let ids : HasIds m.last (Some l) = subst (λ (o : Option Linked). HasIds m.last o) linked w.ids in
    (w.long, ids)
