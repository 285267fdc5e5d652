-- A reply that completes the call that waits for it.
use Rattle.std.proofs.Common.{◌≡◌, ℕ, zero, suc, ◌<◌, ℤ, pos, length, arith, Bool, Option, true, false, cond, List, [], ◌∷◌, ◌++◌, map, slice_get, slice_index_or, Some, None, refl, sym, ap, ◌∙◌, subst}
use Rattle.std.specs.List.{position, remove}
use Rattle.std.proofs.lemmas.List.Quantifiers.{position-Some}
use Rattle.giop_link.specs.ClientLinking.{Delivered}
use Rattle.giop_link.specs.Hearing.{Sound}
use Rattle.ft_client.specs.declared.ended.Ended.{Ended as CodeEnded}
use Rattle.ft_client.specs.declared.pending.Pending.{Pending as CodePending}
use Rattle.ft_client.specs.Clients.{Client, Ended, Pending, completed_if, is_sent_as, put_off, waiting}
use Rattle.ft_client.specs.Ends.{completion_of, ended_of, numbered}
use Rattle.ft_client.specs.Lives.{AreRising}
use Rattle.ft_client.specs.Keeping.{Kept, kept_by, kept_of, left_at}
use Rattle.ft_client.specs.Private.{CallsStand, answered_by, held_back, left_in, reply_in, taken_in}
use Rattle.giop_core.specs.Content.{Rest}
use Rattle.giop_core.specs.declared.header.Version.{Version}
use Rattle.ft_client.proofs.Counts.{put_off_none}
use Rattle.ft_client.proofs.Cancelling.{get_is, get_there}
use Rattle.ft_client.proofs.Joining.{map_push}
use Rattle.ft_client.proofs.Living.{alike-put_off, alike-rising, without-rising}
use Rattle.ft_client.proofs.Leaving.{nobody}
use Rattle.ft_client.proofs.Places.{at_both, first_that, found_kept, map_remove, none_there, same_length, waiting_is}

-- no call waits for it
waiting_none : (r : ℕ) (ps : List Pending) → first_that (λ q. is_sent_as r q.sent) ps ≡ None → waiting r ps ≡ None
waiting_none r [] is = refl
waiting_none r (p ∷ ps) is =
    elim (is_sent_as r p.sent) as (λ b. cond b (Some p) (first_that (λ q. is_sent_as r q.sent) ps) ≡ None → cond b (Some p.id) (waiting r ps) ≡ None)
    [ true ↦ λ e. absurd (let k : Some p ≡ None = e in cc) | false ↦ λ e. waiting_none r ps e ] is

pub nothing_settled : (r : ℕ) (qs : List CodePending) (cs : List (ℤ × CodeEnded)) (ended : CodeEnded) (m : Client) → position (λ p. is_sent_as r p.sent) qs ≡ None → CallsStand qs cs m → CallsStand qs cs (completed_if (waiting r m.pending) (ended_of ended) m)
nothing_settled r qs cs ended m is st =
    let none : waiting r m.pending ≡ None = waiting_none r m.pending (none_there m.version m.client_id (λ k. is_sent_as r k.sent) qs m.pending is st.pending_are) in
    subst (λ o. CallsStand qs cs (completed_if o (ended_of ended) m)) (sym none) st

-- one does, and is completed
pub one_settled : (r : ℕ) (qs qs1 : List CodePending) (cs cs1 : List (ℤ × CodeEnded)) (ended : CodeEnded) (m : Client) (i : ℕ) → position (λ p. is_sent_as r p.sent) qs ≡ Some i
    → qs1 ≡ remove qs i → ((p : CodePending) → slice_get qs i ≡ Some p → cs1 ≡ cs ++ (p.id, ended) ∷ []) → CallsStand qs cs m → CallsStand qs1 cs1 (completed_if (waiting r m.pending) (ended_of ended) m)
one_settled r [] qs1 cs cs1 ended m i is left did st = absurd (let k : None ≡ Some i = is in cc)
one_settled r (d ∷ rest) qs1 cs cs1 ended m i is left did st =
    let qs = d ∷ rest in
    let f = found_kept m.version m.client_id (λ k. is_sent_as r k.sent) m.last qs m.pending i d is st.pending_are st.rising in
    let p = f.call in
    let lt = (position-Some (λ (q : CodePending). is_sent_as r q.sent) qs i d is).0 in
    let x = slice_index_or qs i d in
    let k : kept_by x ≡ kept_of m.version m.client_id p = at_both m.version m.client_id qs m.pending i d nobody st.pending_are lt ∙ ap (λ (q : Pending). kept_of m.version m.client_id q) (get_is m.pending i p nobody f.at) in
    let xid : x.id ≡ pos p.id = ap (λ (y : Kept). y.id) k in
    let one : waiting r m.pending ≡ Some p.id = waiting_is r m.pending p f.first in
    subst (λ o. CallsStand qs1 cs1 (completed_if o (ended_of ended) m)) (sym one) (record {
      pending_are = ap (λ (ps : List CodePending). map kept_by ps) left ∙ map_remove kept_by qs i ∙ ap (λ (ks : List Kept). remove ks i) st.pending_are ∙ sym (map_remove (kept_of m.version m.client_id) m.pending i) ∙ ap (λ (ps : List Pending). map (kept_of m.version m.client_id) ps) f.left;
      completions_are = ap (λ xs. map completion_of xs) (did x (get_there qs i d lt)) ∙ map_push completion_of cs (x.id, ended) ∙ (λ j. st.completions_are j ++ (xid j, ended_of ended) ∷ []) ∙ sym (map_push numbered m.completions (p.id, ended_of ended));
      rising = without-rising m.last p.id m.pending st.rising;
    })

-- one does, and is pending still
left_put_off : (version : Version) (client_id : List ℕ) (r i : ℕ) (led : Option Rest) (ps : List Pending) (d : Pending) → i < length ps → is_sent_as r (slice_index_or ps i d).sent ≡ true → ((j : ℕ) → j < i → is_sent_as r (slice_index_or ps j d).sent ≡ false)
    → left_at i led (map (kept_of version client_id) ps) ≡ map (kept_of version client_id) (put_off r led ps)
left_put_off version client_id r i led [] d lt here none = absurd (omega arith)
left_put_off version client_id r zero led (p ∷ ps) d lt here none = sym (ap (λ b. map (kept_of version client_id) (cond b (record p { sent = None; led = led } ∷ ps) (p ∷ put_off r led ps))) here)
left_put_off version client_id r (suc i) led (p ∷ ps) d lt here none =
    ap (λ (ks : List Kept). kept_of version client_id p ∷ ks) (left_put_off version client_id r i led ps d (omega arith) here (λ j less. none (suc j) (omega (arith, less))))
    ∙ sym (ap (λ b. map (kept_of version client_id) (cond b (record p { sent = None; led = led } ∷ ps) (p ∷ put_off r led ps))) (none 0 (omega arith)))

pub one_put_off : (version : Version) (client_id : List ℕ) (r i : ℕ) (led : Option Rest) (qs : List CodePending) (ps : List Pending) → position (λ p. is_sent_as r p.sent) qs ≡ Some i → map kept_by qs ≡ map (kept_of version client_id) ps
    → left_at i led (map kept_by qs) ≡ map (kept_of version client_id) (put_off r led ps)
one_put_off version client_id r i led [] ps is same = absurd (let k : None ≡ Some i = is in cc)
one_put_off version client_id r i led (d ∷ rest) ps is same =
    let qs = d ∷ rest in
    let f = position-Some (λ (p : CodePending). is_sent_as r p.sent) qs i d is in
    let n = same_length kept_by (kept_of version client_id) qs ps same in
    let sent : (j : ℕ) → j < length qs → is_sent_as r (slice_index_or qs j d).sent ≡ is_sent_as r (slice_index_or ps j nobody).sent = λ j lt. ap (λ (k : Kept). is_sent_as r k.sent) (at_both version client_id qs ps j d nobody same lt) in
    ap (left_at i led) same ∙ left_put_off version client_id r i led ps nobody (omega (arith, f.0, n)) (sym (sent i f.0) ∙ f.1) (λ j lt. sym (sent j (omega (arith, f.0))) ∙ f.2 j lt)

pub none_put_off : (version : Version) (client_id : List ℕ) (r : ℕ) (led : Option Rest) (qs : List CodePending) (ps : List Pending) → position (λ p. is_sent_as r p.sent) qs ≡ None → map kept_by qs ≡ map (kept_of version client_id) ps
    → map kept_by qs ≡ map (kept_of version client_id) (put_off r led ps)
none_put_off version client_id r led qs ps is same =
    same ∙ ap (map (kept_of version client_id)) (sym (put_off_none r led ps (waiting_none r ps (none_there version client_id (λ k. is_sent_as r k.sent) qs ps is same))))

-- What a link lends.

pub taken_by : (o : Option (Sound Delivered)) (d : Sound Delivered) (m : Client) (keeps leads : Bool) (l : Option (ℕ × Option Rest)) (x : Option (ℕ × Ended)) → o ≡ Some d → m.keeps_transient ≡ keeps → m.keeps_forwards ≡ leads → left_in keeps leads d ≡ l → reply_in d ≡ x
    → taken_in o m ≡ answered_by l x m
taken_by o d m keeps leads l x is k f el ex = ap (λ y. taken_in y m) is ∙ (λ i. answered_by (left_in (k i) (f i) d) (reply_in d) m) ∙ (λ i. answered_by (el i) (ex i) m)

-- a call that is pending still
pub held_stands : (r : ℕ) (led : Option Rest) (qs : List CodePending) (cs : List (ℤ × CodeEnded)) (m : Client) → map kept_by qs ≡ map (kept_of m.version m.client_id) (put_off r led m.pending) → map completion_of cs ≡ map numbered m.completions → AreRising m.last m.pending → CallsStand qs cs (held_back r led m)
held_stands r led qs cs m kept ended rising =
    record { pending_are = kept; completions_are = ended; rising = alike-rising m.last m.pending (put_off r led m.pending) (alike-put_off r led m.pending) rising }
