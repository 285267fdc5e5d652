-- Where forwards never leave a call pending, no call is led elsewhere, and each is asked for under its own object key.
use Rattle.std.proofs.Common.{◌≡◌, ℕ, suc, ◌&&◌, ◌||◌, nat_lt, is_some, ℤ, pos, Bool, true, false, cond, List, [], ◌∷◌, ◌++◌, Option, Some, None, refl, sym, ap, ◌∙◌, subst}
use Rattle.std.specs.List.{AllByRecursion, list_any}
use Rattle.std.specs.Ordering.{int_eq}
use Rattle.std.proofs.lemmas.Bool.{false≢true, or_parts, true≢false}
use Rattle.std.proofs.lemmas.Option.{none-some, same_Some}
use Rattle.giop_core.specs.Content.{Rest}
use Rattle.giop_core.specs.Statuses.{reply_status_of}
use Rattle.giop_core.specs.declared.header.Version.{Version}
use Rattle.giop_core.specs.declared.reply.ReplyStatus.{ReplyStatus}
use Rattle.giop_core.specs.declared.reply.ReplyStatus.TheVariants.{LocationForward, LocationForwardPerm, NeedsAddressingMode, NoException, SystemException, UserException}
use Rattle.giop_frames.specs.declared.limits.Limits.{Limits}
use Rattle.giop_link.specs.Hearing.{Ending, Hearing, news}
use Rattle.ft_client.specs.Clients.{Called, Cancelled, Client, Ended, Expired, Fed, Happening, Joined, Kept, KeptForwards, Linked, Parted, Pending, Recalled, Redirected, Resent, Resumed, Sent, Skipped, Taken, Ticked, after, answered, asked_at, asks_again, begun, completed, completed_if, ended_by, ending_of, find_pending, is_due, is_in_time, is_kept, is_redirected, is_resumed, is_sent_as, is_taken, is_unsettled, joined, led_as, led_by, parted, parted_at, placed, placed_on, put_off, recalled, resent, resent_if, resent_on, settled, settled_all, told_of, unsent, waiting}
use Rattle.ft_client.specs.Lives.{Life, goes_on, lived, new_life}
use Rattle.ft_client.specs.Messages.{Answer, Call, Shown, is_oneway, located, replied, wish_of}
use Rattle.ft_client.specs.Restarting.{keeps_led, led_back}
use Rattle.ft_client.proofs.Leaving.{left_by, staying-each}
use Rattle.ft_client.proofs.Living.{each-append, without-each}

-- asked for under its own object key, and led nowhere
abbrev pub IsOwn : Pending → Type 0
IsOwn p = (p.at ≡ p.call.object_key) × (p.led ≡ None)

pub record IsUnled (m : Client) : Type 0 where
  pub keeps : m.keeps_forwards ≡ false
  pub each : AllByRecursion IsOwn m.pending

pub back-unled : (ps : List Pending) → AllByRecursion IsOwn ps → led_back ps ≡ ps
back-unled [] h = refl
back-unled (p ∷ ps) h = λ i. record p { at = sym h.0.0 i; led = sym h.0.1 i } ∷ back-unled ps h.1 i

-- What is left of pending calls.

unsent-own : (ps : List Pending) → AllByRecursion IsOwn ps → AllByRecursion IsOwn (unsent ps)
unsent-own [] h = tt
unsent-own (p ∷ ps) h = (h.0, unsent-own ps h.1)

resent-own : (now n : ℕ) (ps : List Pending) → AllByRecursion IsOwn ps → AllByRecursion IsOwn (resent now n ps)
resent-own now n [] h = tt
resent-own now n (p ∷ ps) h =
    elim (is_due now n p) as (λ b. AllByRecursion IsOwn (cond b (record p { sent = Some (suc n) } ∷ resent now (suc n) ps) (p ∷ resent now n ps))) [ true ↦ (h.0, resent-own now (suc n) ps h.1) | false ↦ (h.0, resent-own now n ps h.1) ]

put_off-own : (r : ℕ) (led : Option Rest) (ps : List Pending) → led ≡ None → AllByRecursion IsOwn ps → AllByRecursion IsOwn (put_off r led ps)
put_off-own r led [] none h = tt
put_off-own r led (p ∷ ps) none h =
    elim (is_sent_as r p.sent) as (λ b. AllByRecursion IsOwn (cond b (record p { sent = None; led = led } ∷ ps) (p ∷ put_off r led ps))) [ true ↦ ((h.0.0, none), h.1) | false ↦ (h.0, put_off-own r led ps none h.1) ]

found-own : (id : ℤ) (p : Pending) (ps : List Pending) → find_pending id ps ≡ Some p → AllByRecursion IsOwn ps → IsOwn p
found-own id p [] is h = absurd (none-some p is)
found-own id p (q ∷ ps) is h =
    elim (int_eq (pos q.id) id) as (λ b. cond b (Some q) (find_pending id ps) ≡ Some p → IsOwn p) [ true ↦ λ same. subst IsOwn (same_Some q p same) h.0 | false ↦ λ same. found-own id p ps same h.1 ] is

-- What leaves a call pending leads it nowhere.

again-unled : (o : Option ReplyStatus) (body : Rest) → asks_again o body ≡ true → led_as o body ≡ None
again-unled None body is = refl
again-unled (Some NoException) body is = refl
again-unled (Some UserException) body is = refl
again-unled (Some SystemException) body is = refl
again-unled (Some LocationForward) body is = absurd (false≢true is)
again-unled (Some LocationForwardPerm) body is = absurd (false≢true is)
again-unled (Some NeedsAddressingMode) body is = refl

kept-again : (keeps asks forwards leads : Bool) → forwards ≡ false → ((keeps && asks) || (forwards && leads)) ≡ true → asks ≡ true
kept-again true true forwards leads none is = refl
kept-again true false forwards leads none is = absurd (false≢true (sym (ap (λ b. b && leads) none) ∙ is))
kept-again false asks forwards leads none is = absurd (false≢true (sym (ap (λ b. b && leads) none) ∙ is))

-- What happens to a client.

unled-alike : (m : Client) (qs : List Pending) (l : Option Linked) → AllByRecursion IsOwn qs → IsUnled m → IsUnled (record m { pending = qs; link = l })
unled-alike m qs l own h = record { keeps = h.keeps; each = own }

unled-completed : (id : ℕ) (ended : Ended) (m : Client) → IsUnled m → IsUnled (completed id ended m)
unled-completed id ended m h = record { keeps = h.keeps; each = without-each IsOwn id m.pending h.each }

unled-if : (o : Option ℕ) (ended : Ended) (m : Client) → IsUnled m → IsUnled (completed_if o ended m)
unled-if None ended m h = h
unled-if (Some id) ended m h = unled-completed id ended m h

unled-answered : (keeps : Bool) (i : ℕ) (led : Option Rest) (ended : Ended) (m : Client) → (keeps ≡ true → led ≡ None) → IsUnled m → IsUnled (answered keeps i led ended m)
unled-answered true i led ended m none h = unled-alike m (put_off i led m.pending) m.link (put_off-own i led m.pending (none refl) h.each) h
unled-answered false i led ended m none h = unled-if (waiting i m.pending) ended m h

kept-nowhere : (shown : Shown) (m : Client) → IsUnled m → is_kept shown m ≡ true → led_by shown ≡ None
kept-nowhere shown m h is =
    let status = reply_status_of shown.status in
    again-unled status shown.body (kept-again m.keeps_transient (asks_again status shown.body) m.keeps_forwards (is_some (led_as status shown.body)) h.keeps is)

unled-settled : (a : Answer) (m : Client) → IsUnled m → IsUnled (settled a m)
unled-settled (replied i shown) m h = unled-answered (is_kept shown m) i (led_by shown) (ended_by shown) m (kept-nowhere shown m h) h
unled-settled (located i shown) m h = h

unled-settled_all : (answers : List Answer) (m : Client) → IsUnled m → IsUnled (settled_all answers m)
unled-settled_all [] m h = h
unled-settled_all (a ∷ answers) m h = unled-settled_all answers (settled a m) (unled-settled a m h)

unled-told : (down : Hearing Answer) (octets : List ℕ) (m : Client) (l : Option Linked) → IsUnled m → IsUnled (told_of down octets m l)
unled-told down octets m None h = h
unled-told down octets m (Some l) h =
    unled-settled_all (news down l.received octets) (record m { link = Some (record l { received = l.received ++ octets }) }) (record { keeps = h.keeps; each = h.each })

unled-parted : (m : Client) → IsUnled m → IsUnled (parted m)
unled-parted m h = unled-alike m (unsent m.pending) None (unsent-own m.pending h.each) h

unled-parted_at : (e : Option Ending) (m : Client) → IsUnled m → IsUnled (parted_at e m)
unled-parted_at None m h = h
unled-parted_at (Some e) m h = unled-parted m h

unled-recalled : (o : Option Pending) (m : Client) → IsUnled m → IsUnled (recalled o m)
unled-recalled None m h = h
unled-recalled (Some p) m h = unled-completed p.id Cancelled m h

-- no call is redirected
refused : (b c : Bool) → b ≡ false → (b && c) ≡ false
refused true c is = absurd (true≢false is)
refused false c is = refl

not-redirected : (id : ℤ) (key : List ℕ) (m : Client) (o : Option Pending) → find_pending id m.pending ≡ o → IsUnled m → is_redirected key m o ≡ false
not-redirected id key m None is h = refl
not-redirected id key m (Some p) is h = refused (is_some p.led) _ (ap is_some (found-own id p m.pending is h.each).1)

unled-redirected : (id : ℤ) (key : List ℕ) (m : Client) → IsUnled m → IsUnled (cond (is_redirected key m (find_pending id m.pending)) (record m { pending = asked_at id key m.pending }) m)
unled-redirected id key m h =
    subst (λ b. IsUnled (cond b (record m { pending = asked_at id key m.pending }) m)) (sym (not-redirected id key m (find_pending id m.pending) refl h)) h

unled-left : (stays : Pending → Bool) (ended : Ended) (m : Client) → IsUnled m → IsUnled (left_by stays ended m)
unled-left stays ended m h = record { keeps = h.keeps; each = staying-each stays IsOwn m.pending h.each }

unled-resent : (now : ℕ) (m : Client) (l : Linked) → IsUnled m → IsUnled (resent_on now m l)
unled-resent now m l h = record { keeps = h.keeps; each = resent-own now l.given m.pending h.each }

unled-resent_if : (now : ℕ) (m : Client) (l : Option Linked) → IsUnled m → IsUnled (resent_if now m l)
unled-resent_if now m None h = h
unled-resent_if now m (Some l) h = unled-left is_unsettled Sent (resent_on now m l) (unled-resent now m l h)

unled-called : (id : ℕ) (call : Call) (sent : Option ℕ) (l : Option Linked) (m : Client) → IsUnled m → IsUnled (record m { last = id; pending = m.pending ++ begun id call sent ∷ []; link = l })
unled-called id call sent l m h = record { keeps = h.keeps; each = each-append IsOwn m.pending (begun id call sent ∷ []) h.each ((refl, refl), tt) }

unled-placed_on : (b : Bool) (id : ℕ) (call : Call) (m : Client) (l : Linked) → IsUnled m → IsUnled (placed_on b id call m l)
unled-placed_on true id call m l h = record { keeps = h.keeps; each = h.each }
unled-placed_on false id call m l h = unled-called id call (Some (suc l.given)) (Some (record l { given = suc l.given })) m h

unled-placed : (id : ℕ) (call : Call) (m : Client) (l : Option Linked) → IsUnled m → IsUnled (placed id call m l)
unled-placed id call m None h = unled-called id call None None m h
unled-placed id call m (Some l) h = unled-placed_on (is_oneway (wish_of call.form)) id call m l h

unled-made : (b : Bool) (id : ℕ) (call : Call) (m : Client) → IsUnled m → IsUnled (cond b (placed id call m m.link) m)
unled-made true id call m h = unled-placed id call m m.link h
unled-made false id call m h = h

unled-last : (b : Bool) (id : ℕ) (m : Client) → IsUnled m → IsUnled (cond b (record m { last = id }) m)
unled-last true id m h = record { keeps = h.keeps; each = h.each }
unled-last false id m h = h

unled-after : (down : Hearing Answer) (h : Happening) (m : Client) → keeps_led h ≡ false → IsUnled m → IsUnled (after down h m)
unled-after down (Called now call) m none u = unled-made (is_taken now call m) (suc m.last) call m u
unled-after down (Resumed now id call) m none u = unled-made (is_resumed now id call m) id call m u
unled-after down (Skipped id) m none u = unled-last (nat_lt m.last id && nat_lt id 2147483648) id m u
unled-after down (Kept keeps) m none u = record { keeps = u.keeps; each = u.each }
unled-after down (KeptForwards keeps) m none u = record { keeps = none; each = u.each }
unled-after down (Redirected id key) m none u = unled-redirected id key m u
unled-after down (Joined now) m none u = unled-left is_unsettled Sent (joined now m) (unled-resent now (parted m) (record { given = 0; received = [] }) (unled-parted m u))
unled-after down (Resent now) m none u = unled-resent_if now m m.link u
unled-after down (Fed octets) m none u = unled-parted_at (ending_of down octets m.link) (told_of down octets m m.link) (unled-told down octets m m.link u)
unled-after down Parted m none u = unled-parted m u
unled-after down (Recalled id) m none u = unled-recalled (find_pending id m.pending) m u
unled-after down (Ticked now) m none u = unled-left (is_in_time now) Expired m u
unled-after down Taken m none u = record { keeps = u.keeps; each = u.each }

unled-lived : (down : Hearing Answer) (hs : List Happening) (l : Life) → list_any keeps_led hs ≡ false → IsUnled l.client → IsUnled (lived down hs l).client
unled-lived down [] l none u = u
unled-lived down (h ∷ hs) l none u = let parts = or_parts (keeps_led h) (list_any keeps_led hs) none in unled-lived down hs (goes_on down h l) parts.1 (unled-after down h l.client parts.0 u)

pub unled-life : (client_id : List ℕ) (version : Version) (limits : Limits) (down : Hearing Answer) (hs : List Happening) → list_any keeps_led hs ≡ false → IsUnled (lived down hs (new_life client_id version limits)).client
unled-life client_id version limits down hs none = unled-lived down hs (new_life client_id version limits) none (record { keeps = refl; each = tt })
