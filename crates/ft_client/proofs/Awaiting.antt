-- Replies, the ids that wait for them, and the calls that do.
use Rattle.std.proofs.Common.{◌≡◌, ℕ, ◌+◌, ◌==◌, ◌&&◌, ◌||◌, Bool, true, false, cond, List, [], ◌∷◌, Option, Some, None, is_some, refl, sym, ap, ◌∙◌, subst, arith}
use Rattle.std.specs.List.{list_any}
use Rattle.std.proofs.lemmas.Bool.Decides.{nat_tests}
use Rattle.giop_core.specs.Content.{Rest}
use Rattle.giop_core.specs.Statuses.{reply_status_of}
use Rattle.giop_core.specs.declared.reply.ReplyStatus.{ReplyStatus}
use Rattle.giop_core.specs.declared.reply.ReplyStatus.TheVariants as status
use Rattle.giop_link.specs.declared.awaited.Outstanding.{Outstanding}
use Rattle.giop_link.specs.declared.awaited.Wanted.TheVariants as wanted
use Rattle.giop_link.specs.Answering.{Answer, Shown, located, replied}
use Rattle.giop_link.specs.ClientLinking.{all_left, delivered, delivered_as, is_awaited, left_after, reply_by, whole}
use Rattle.giop_link.specs.Hearing.{Sound, ends, says}
use Rattle.giop_link.specs.Ids.{is_of}
use Rattle.giop_link.specs.Listening.{heard_in}
use Rattle.giop_link.specs.Ids as ids
use Rattle.ft_client.specs.Clients.{Client, Ended, Pending, answered, asks_again, completed_if, ended_as, ended_by, is_kept, led_as, led_by, put_off, settled, settled_all, waiting, without}
use Rattle.ft_client.specs.Lives.{AreRising, one_if}
use Rattle.ft_client.specs.Private.{answered_by, plain_end, taken_in}
use Rattle.ft_client.specs.Standing.{AreAscending, sent_ids, times, waiting_ids}
use Rattle.ft_client.proofs.Counts.{AreWished, ascending_dropped, dropped, dropped_none, dropped_times, put_off_none, times_none, times_put_off, times_without, wished_put_off, wished_without}
use Rattle.ft_client.proofs.Withdrawing.{any_none, outs_dropped}

and-true : (b : Bool) → (b && true) ≡ b
and-true true = refl
and-true false = refl

and-false : (b : Bool) → (b && false) ≡ false
and-false true = refl
and-false false = refl

same_id : (n : ℕ) → (n == n) ≡ true
same_id n = grind (arith, nat_tests)

-- without the call that waits
abbrev left_by : Option ℕ → List Pending → List Pending
left_by None ps = ps
left_by (Some id) ps = without id ps

-- The ids of a client's link: each waits for a Reply.

abbrev outs : ℕ → List ℕ → List Outstanding
outs g js = (waiting_ids g js).outstanding

abbrev out_of : ℕ → Outstanding
out_of j = record { id = j; wanted = wanted.Reply }

reply_left : (r g : ℕ) (js : List ℕ) → ids.without (is_of r (Some wanted.Reply)) (outs g js) ≡ ids.without (is_of r None) (outs g js)
reply_left r g [] = refl
reply_left r g (j ∷ js) = λ i. cond (and-true (j == r) i) (outs g js) (out_of j ∷ reply_left r g js i)

reply_awaited : (r g : ℕ) (js : List ℕ) → list_any (is_of r (Some wanted.Reply)) (outs g js) ≡ list_any (is_of r None) (outs g js)
reply_awaited r g [] = refl
reply_awaited r g (j ∷ js) = λ i. and-true (j == r) i || reply_awaited r g js i

location_left : (r g : ℕ) (js : List ℕ) → ids.without (is_of r (Some wanted.Location)) (outs g js) ≡ outs g js
location_left r g [] = refl
location_left r g (j ∷ js) = λ i. cond (and-false (j == r) i) (outs g js) (out_of j ∷ location_left r g js i)

-- An answer.

abbrev pub answered_ids : Answer → List ℕ → List ℕ
answered_ids (replied r shown) is = dropped r is
answered_ids (located r shown) is = is

left_is : (g : ℕ) (a : Answer) (is : List ℕ) → left_after a (outs g is) ≡ outs g (answered_ids a is)
left_is g (replied r shown) is = reply_left r g is ∙ outs_dropped r g is
left_is g (located r shown) is = location_left r g is

ascending_answered : (g : ℕ) (a : Answer) (is : List ℕ) → AreAscending g is → AreAscending g (answered_ids a is)
ascending_answered g (replied r shown) is h = ascending_dropped r g is h
ascending_answered g (located r shown) is h = h

-- ids that are those of the calls, each as often
abbrev pub AreSame : List ℕ → List Pending → Type 0
AreSame is ps = (q : ℕ) → times q is ≡ times q (sent_ids ps)

-- without one of both
same_left : (r : ℕ) (is : List ℕ) (ps qs : List Pending) → AreSame is ps → ((q : ℕ) → times q (sent_ids ps) ≡ one_if (r == q) + times q (sent_ids qs)) → AreSame (dropped r is) qs
same_left r is ps qs h left q =
    let one : one_if (r == r) ≡ 1 = ap one_if (same_id r) in
    let was = h r in
    let l = left r in
    let a = dropped_times r q is (omega (arith, one, was, l)) in
    let b = h q in
    let c = left q in
    omega (arith, a, b, c)

same_none : (r : ℕ) (is : List ℕ) (ps : List Pending) → AreSame is ps → waiting r ps ≡ None → AreSame (dropped r is) ps
same_none r is ps h none q = let z = times_none r ps none in let was = h r in ap (times q) (dropped_none r is (omega (arith, z, was))) ∙ h q

pending_if : (o : Option ℕ) (e : Ended) (m : Client) → (completed_if o e m).pending ≡ left_by o m.pending
pending_if None e m = refl
pending_if (Some id) e m = refl

same_answered : (keeps : Bool) (r : ℕ) (led : Option Rest) (e : Ended) (m : Client) (is : List ℕ) → AreRising m.last m.pending → AreSame is m.pending → AreSame (dropped r is) (answered keeps r led e m).pending
same_answered true r led e m is rising h = by (waiting r m.pending) refl
  where
    by : (o : Option ℕ) → waiting r m.pending ≡ o → AreSame (dropped r is) (put_off r led m.pending)
    by None none = subst (λ ps. AreSame (dropped r is) ps) (sym (put_off_none r led m.pending none)) (same_none r is m.pending h none)
    by (Some id) some = same_left r is m.pending (put_off r led m.pending) h (λ q. times_put_off q r id led m.pending some)
same_answered false r led e m is rising h = subst (λ ps. AreSame (dropped r is) ps) (sym (pending_if (waiting r m.pending) e m)) (by (waiting r m.pending) refl)
  where
    by : (o : Option ℕ) → waiting r m.pending ≡ o → AreSame (dropped r is) (left_by o m.pending)
    by None none = same_none r is m.pending h none
    by (Some id) some = same_left r is m.pending (without id m.pending) h (λ q. times_without q r id m.last m.pending rising some)

same_settled : (a : Answer) (m : Client) (is : List ℕ) → AreRising m.last m.pending → AreSame is m.pending → AreSame (answered_ids a is) (settled a m).pending
same_settled (replied r shown) m is rising h = same_answered (is_kept shown m) r (led_by shown) (ended_by shown) m is rising h
same_settled (located r shown) m is rising h = h

wished_answered : (keeps : Bool) (r : ℕ) (led : Option Rest) (e : Ended) (m : Client) → AreWished m.pending → AreWished (answered keeps r led e m).pending
wished_answered true r led e m h = wished_put_off r led m.pending h
wished_answered false r led e m h = by (waiting r m.pending)
  where
    by : (o : Option ℕ) → AreWished (completed_if o e m).pending
    by None = h
    by (Some id) = wished_without id m.pending h

wished_settled : (a : Answer) (m : Client) → AreWished m.pending → AreWished (settled a m).pending
wished_settled (replied r shown) m h = wished_answered (is_kept shown m) r (led_by shown) (ended_by shown) m h
wished_settled (located r shown) m h = h

-- A message: one answer is heard at most.

abbrev pub heard_ids : Option (Sound Answer) → List ℕ → List ℕ
heard_ids None is = is
heard_ids (Some (says a)) is = answered_ids a is
heard_ids (Some (ends e)) is = is

pub ids_heard : (g : ℕ) (x : Option (Sound Answer)) (is : List ℕ) → all_left (heard_in x) (outs g is) ≡ outs g (heard_ids x is)
ids_heard g None is = refl
ids_heard g (Some (says a)) is = left_is g a is
ids_heard g (Some (ends e)) is = refl

pub ascending_heard : (g : ℕ) (x : Option (Sound Answer)) (is : List ℕ) → AreAscending g is → AreAscending g (heard_ids x is)
ascending_heard g None is h = h
ascending_heard g (Some (says a)) is h = ascending_answered g a is h
ascending_heard g (Some (ends e)) is h = h

pub same_heard : (x : Option (Sound Answer)) (m : Client) (is : List ℕ) → AreRising m.last m.pending → AreSame is m.pending → AreSame (heard_ids x is) (settled_all (heard_in x) m).pending
same_heard None m is rising h = h
same_heard (Some (says a)) m is rising h = same_settled a m is rising h
same_heard (Some (ends e)) m is rising h = h

pub wished_heard : (x : Option (Sound Answer)) (m : Client) → AreWished m.pending → AreWished (settled_all (heard_in x) m).pending
wished_heard None m h = h
wished_heard (Some (says a)) m h = wished_settled a m h
wished_heard (Some (ends e)) m h = h

-- What is lent of an answer is what settles it.

-- a test that fails beside another
or-false : (b c : Bool) → b ≡ (b || (c && false))
or-false true c = refl
or-false false true = refl
or-false false false = refl

-- one that neither forwards nor asks for another addressing
plain : (o : Option ReplyStatus) (r : ℕ) (shown : Shown) (m : Client) → reply_status_of shown.status ≡ o → ((b : Rest) → plain_end o b ≡ ended_as o b) → led_as o shown.body ≡ None
    → taken_in (Some (says (whole (replied r shown)))) m ≡ answered ((m.keeps_transient && asks_again o shown.body) || (m.keeps_forwards && false)) r (led_as o shown.body) (ended_as o shown.body) m
plain o r shown m is ends_so unled =
    (λ i. answered_by (cond (m.keeps_transient && asks_again (is i) shown.body) (Some (r, None)) None) (Some (r, plain_end (is i) shown.body)) m)
    ∙ ap (λ e. answered_by (cond (m.keeps_transient && asks_again o shown.body) (Some (r, None)) None) (Some (r, e)) m) (ends_so shown.body)
    ∙ elim (m.keeps_transient && asks_again o shown.body) as (λ b. answered_by (cond b (Some (r, None)) None) (Some (r, ended_as o shown.body)) m ≡ answered b r None (ended_as o shown.body) m) [ true ↦ refl | false ↦ refl ]
    ∙ (λ i. answered (or-false (m.keeps_transient && asks_again o shown.body) m.keeps_forwards i) r (sym unled i) (ended_as o shown.body) m)

-- one that asks for another addressing
never : (keeps leads : Bool) (r : ℕ) (e : Ended) (m : Client) → completed_if (waiting r m.pending) e m ≡ answered ((keeps && false) || (leads && false)) r None e m
never true true r e m = refl
never true false r e m = refl
never false true r e m = refl
never false false r e m = refl

-- one that forwards
leads : (keeps leads : Bool) (r : ℕ) (body : Rest) (e : Ended) (m : Client) → answered_by (cond leads (Some (r, Some body)) None) (Some (r, e)) m ≡ answered ((keeps && false) || (leads && true)) r (Some body) e m
leads true true r body e m = refl
leads true false r body e m = refl
leads false true r body e m = refl
leads false false r body e m = refl

-- what a link lends of a reply, by its status: the call is left pending, or completed
reply_taken : (o : Option ReplyStatus) (r : ℕ) (shown : Shown) (m : Client) → reply_status_of shown.status ≡ o
    → taken_in (Some (says (reply_by o r shown))) m ≡ answered ((m.keeps_transient && asks_again o shown.body) || (m.keeps_forwards && is_some (led_as o shown.body))) r (led_as o shown.body) (ended_as o shown.body) m
reply_taken None r shown m is = plain None r shown m is (λ b. refl) refl
reply_taken (Some status.NoException) r shown m is = plain (Some status.NoException) r shown m is (λ b. refl) refl
reply_taken (Some status.UserException) r shown m is = plain (Some status.UserException) r shown m is (λ b. refl) refl
reply_taken (Some status.SystemException) r shown m is = plain (Some status.SystemException) r shown m is (λ b. refl) refl
reply_taken (Some status.LocationForward) r shown m is = leads m.keeps_transient m.keeps_forwards r shown.body (ended_as (Some status.LocationForward) shown.body) m
reply_taken (Some status.LocationForwardPerm) r shown m is = leads m.keeps_transient m.keeps_forwards r shown.body (ended_as (Some status.LocationForwardPerm) shown.body) m
reply_taken (Some status.NeedsAddressingMode) r shown m is = never m.keeps_transient m.keeps_forwards r (ended_as (Some status.NeedsAddressingMode) shown.body) m

none_waits : (r : ℕ) (ps : List Pending) → times r (sent_ids ps) ≡ 0 → (o : Option ℕ) → waiting r ps ≡ o → waiting r ps ≡ None
none_waits r ps z None is = is
none_waits r ps z (Some id) is =
    let t = times_put_off r r id None ps is in
    let one : one_if (r == r) ≡ 1 = ap one_if (same_id r) in
    absurd (omega (arith, t, one, z))

nothing_taken : (keeps : Bool) (r : ℕ) (led : Option Rest) (e : Ended) (m : Client) → waiting r m.pending ≡ None → m ≡ answered keeps r led e m
nothing_taken true r led e m none = ap (λ (ps : List Pending). record m { pending = ps }) (sym (put_off_none r led m.pending none))
nothing_taken false r led e m none = ap (λ o. completed_if o e m) (sym none)

pub lent_settles : (g : ℕ) (x : Option (Sound Answer)) (m : Client) (is : List ℕ) → AreSame is m.pending → taken_in (delivered x (outs g is)) m ≡ settled_all (heard_in x) m
lent_settles g None m is h = refl
lent_settles g (Some (ends e)) m is h = refl
lent_settles g (Some (says (located r shown))) m is h =
    elim (is_awaited (located r shown) (outs g is)) as (λ b. taken_in (cond b (Some (says (delivered_as (located r shown)))) None) m ≡ m) [ true ↦ refl | false ↦ refl ]
lent_settles g (Some (says (replied r shown))) m is h = by_test (is_awaited (replied r shown) (outs g is)) refl
  where
    by_test : (b : Bool) → is_awaited (replied r shown) (outs g is) ≡ b → taken_in (cond b (Some (says (delivered_as (replied r shown)))) None) m ≡ answered (is_kept shown m) r (led_by shown) (ended_by shown) m
    by_test true e = reply_taken (reply_status_of shown.status) r shown m refl
    by_test false e =
        let z = any_none r g is (sym (reply_awaited r g is) ∙ e) in
        let was = h r in
        nothing_taken (is_kept shown m) r (led_by shown) (ended_by shown) m (none_waits r m.pending (omega (arith, z, was)) (waiting r m.pending) refl)
