-- What feeding octets to the link of a client leaves, piece by piece.
use Rattle.std.proofs.Common.{◌≡◌, ℕ, ℤ, Bool, true, false, List, [], ◌∷◌, ◌++◌, take, Option, Some, None, refl, sym, ap, ◌∙◌, subst, append_assoc}
use Rattle.std.specs.Option.{IsSome, is_some}
use Rattle.std.proofs.lemmas.List.{append-nil}
use Rattle.giop_core.specs.Content.{Rest}
use Rattle.giop_frames.specs.declared.fault.StreamFault.TheVariants as fault
use Rattle.giop_frames.specs.declared.limits.Limits.{Limits}
use Rattle.giop_link.specs.declared.error.LinkFault.{LinkFault}
use Rattle.giop_link.specs.declared.error.LinkFault.TheVariants.{Stream, WrongDirection}
use Rattle.giop_link.specs.Answering.{Answer, answer_to, client_ending, client_heard, client_news}
use Rattle.giop_link.specs.ClientLinking.{ClientLinked, ClientStands, IsClientFaultOf, TakesIn, Terms, all_left, client_link_after, end_in, left_at}
use Rattle.giop_link.specs.Hearing.{Ending, Hearing, faulty, news, wrong_direction}
use Rattle.giop_link.specs.Ids.{Ids}
use Rattle.giop_link.specs.Laws.{EndingsStay, EndsAreSilent, HearingGrows}
use Rattle.giop_link.specs.Listening.{EndsTo, heard_in}
use Rattle.ft_client.specs.declared.client.FtClient.{FtClient}
use Rattle.ft_client.specs.declared.ended.Ended.{Ended as CodeEnded}
use Rattle.ft_client.specs.declared.pending.Pending.{Pending as CodePending}
use Rattle.ft_client.specs.Clients.{Client, Ended, Linked, answered, completed_if, ended_by, fed_on, is_kept, led_by, parted, parted_at, settled, settled_all, told_of, waiting}
use Rattle.ft_client.specs.Messages.{located, replied}
use Rattle.ft_client.specs.Private.{CallsStand, IsFedTo, taken_in}
use Rattle.ft_client.specs.Standing.{FieldsStand, FtStands, IsLinked, LinkFor, down, exchange_of, terms_of, waiting_ids}
use Rattle.ft_client.proofs.Awaiting.{ascending_heard, heard_ids, ids_heard, lent_settles, same_heard, wished_heard}
use Rattle.ft_client.proofs.Feeds.{IsSteady, fed-at, fed-going, news-is, news-silent, told-is, told-link, told-more}
use Rattle.ft_client.proofs.Models.{waiting_given}

-- what a client hears only grows
pub steady : (limits : Limits) → HearingGrows answer_to → EndingsStay answer_to → EndsAreSilent answer_to → IsSteady (down limits)
steady limits grows stays silent = record { grows = grows limits; stays = stays limits; silent = silent limits }

-- What answers leave as it is.

pub record Keeps (m n : Client) : Type 0 where
  pub client_id : n.client_id ≡ m.client_id
  pub version : n.version ≡ m.version
  pub limits : n.limits ≡ m.limits
  pub last : n.last ≡ m.last
  pub keeps_transient : n.keeps_transient ≡ m.keeps_transient
  pub keeps_forwards : n.keeps_forwards ≡ m.keeps_forwards

keeps_if : (o : Option ℕ) (e : Ended) (m : Client) → Keeps m (completed_if o e m)
keeps_if None e m = record { client_id = refl; version = refl; limits = refl; last = refl; keeps_transient = refl; keeps_forwards = refl }
keeps_if (Some id) e m = record { client_id = refl; version = refl; limits = refl; last = refl; keeps_transient = refl; keeps_forwards = refl }

keeps_answered : (keeps : Bool) (r : ℕ) (led : Option Rest) (e : Ended) (m : Client) → Keeps m (answered keeps r led e m)
keeps_answered true r led e m = record { client_id = refl; version = refl; limits = refl; last = refl; keeps_transient = refl; keeps_forwards = refl }
keeps_answered false r led e m = keeps_if (waiting r m.pending) e m

keeps_one : (a : Answer) (m : Client) → Keeps m (settled a m)
keeps_one (replied r shown) m = keeps_answered (is_kept shown m) r (led_by shown) (ended_by shown) m
keeps_one (located r shown) m = record { client_id = refl; version = refl; limits = refl; last = refl; keeps_transient = refl; keeps_forwards = refl }

pub keeps_all : (xs : List Answer) (m : Client) → Keeps m (settled_all xs m)
keeps_all [] m = record { client_id = refl; version = refl; limits = refl; last = refl; keeps_transient = refl; keeps_forwards = refl }
keeps_all (a ∷ xs) m =
    let h = keeps_one a m in
    let k = keeps_all xs (settled a m) in
    record { client_id = k.client_id ∙ h.client_id; version = k.version ∙ h.version; limits = k.limits ∙ h.limits; last = k.last ∙ h.last; keeps_transient = k.keeps_transient ∙ h.keeps_transient; keeps_forwards = k.keeps_forwards ∙ h.keeps_forwards }

pub keeps_told : (by : Hearing Answer) (octets : List ℕ) (m : Client) (l : Linked) → Keeps m (told_of by octets m (Some l))
keeps_told by octets m l =
    let k = keeps_all (news by l.received octets) (record m { link = Some (record l { received = l.received ++ octets }) }) in
    record { client_id = k.client_id; version = k.version; limits = k.limits; last = k.last; keeps_transient = k.keeps_transient; keeps_forwards = k.keeps_forwards }

-- Calls and links, whichever link the client has.

calls_linked : (qs : List CodePending) (cs : List (ℤ × CodeEnded)) (m : Client) (o : Option Linked) → CallsStand qs cs m → CallsStand qs cs (record m { link = o })
calls_linked qs cs m o h = record { pending_are = h.pending_are; completions_are = h.completions_are; rising = h.rising }

calls_plain : (qs : List CodePending) (cs : List (ℤ × CodeEnded)) (m : Client) (o : Option Linked) → CallsStand qs cs (record m { link = o }) → CallsStand qs cs m
calls_plain qs cs m o h = record { pending_are = h.pending_are; completions_are = h.completions_are; rising = h.rising }

linked_too : (link : ClientLinked) (m : Client) (l : Linked) (o : Option Linked) → IsLinked link m l → IsLinked link (record m { link = o }) l
linked_too link m l o h = record { ids = h.ids; stands = h.stands; going = h.going; ascending = h.ascending; same = h.same; wished = h.wished }

abbrev longer : List ℕ → Linked → Linked
longer octets l = record l { received = l.received ++ octets }

told_by : (by : Hearing Answer) (octets : List ℕ) (m : Client) (l : Linked) (xs : List Answer) → news by l.received octets ≡ xs → record (settled_all xs m) { link = Some (longer octets l) } ≡ told_of by octets m (Some l)
told_by by octets m l xs is = sym (told-is by octets m l ∙ ap (λ (ys : List Answer). record (settled_all ys m) { link = Some (longer octets l) }) is)

calls_told : (by : Hearing Answer) (octets : List ℕ) (m : Client) (l : Linked) (qs : List CodePending) (cs : List (ℤ × CodeEnded)) (xs : List Answer) → news by l.received octets ≡ xs → CallsStand qs cs (settled_all xs m) → CallsStand qs cs (told_of by octets m (Some l))
calls_told by octets m l qs cs xs is h = subst (λ n. CallsStand qs cs n) (told_by by octets m l xs is) (calls_linked qs cs (settled_all xs m) (Some (longer octets l)) h)

calls_before : (by : Hearing Answer) (octets : List ℕ) (m : Client) (l : Linked) (qs : List CodePending) (cs : List (ℤ × CodeEnded)) → CallsStand qs cs (told_of by octets m (Some l)) → CallsStand qs cs (settled_all (news by l.received octets) m)
calls_before by octets m l qs cs h =
    calls_plain qs cs (settled_all (news by l.received octets) m) (Some (longer octets l)) (subst (λ n. CallsStand qs cs n) (told-is by octets m l) h)

-- No octets.

pub fed_start : (m : Client) (l : Linked) (qs : List CodePending) (cs : List (ℤ × CodeEnded)) (link : ClientLinked) → CallsStand qs cs m → IsLinked link m l → IsFedTo m l [] false qs cs link
fed_start m l qs cs link h k =
    let by = down m.limits in
    let nothing : news by l.received [] ≡ [] = news-is by l.received [] [] (ap (client_heard m.limits) (append-nil l.received) ∙ sym (append-nil (client_heard m.limits l.received))) in
    let same : IsLinked link (record m { link = Some (longer [] l) }) (longer [] l) = linked_too link m (longer [] l) (Some (longer [] l)) (subst (λ o. IsLinked link m (record l { received = o })) (sym (append-nil l.received)) k) in
    (calls_told by [] m l qs cs [] nothing h, subst (λ n. IsLinked link n (longer [] l)) (told_by by [] m l [] nothing) same)

-- The octets of one call of `feed`.

settles : (n : Client) (k : Linked) (left : List ℕ) (b : ℕ) (old link : ClientLinked) (qs : List CodePending) (cs : List (ℤ × CodeEnded)) → (was : IsLinked old n k) → TakesIn (terms_of n) (exchange_of k was.ids) left b link → CallsStand qs cs (taken_in link.delivery n)
    → CallsStand qs cs (told_of (down n.limits) (take b left) n (Some k))
settles n k left b old link qs cs was t h =
    let xs = heard_in t.message in
    let same : taken_in link.delivery n ≡ settled_all xs n = ap (λ d. taken_in d n) t.lends ∙ lent_settles k.given t.message n was.ids was.same in
    calls_told (down n.limits) (take b left) n k qs cs xs t.heard (subst (λ (c : Client). CallsStand qs cs c) same h)

pub step-ended : (n : Client) (k : Linked) (left : List ℕ) (b : ℕ) (old link : ClientLinked) (qs : List CodePending) (cs : List (ℤ × CodeEnded)) → (was : IsLinked old n k) → TakesIn (terms_of n) (exchange_of k was.ids) left b link
    → is_some (end_in link.delivery) ≡ true → CallsStand qs cs (taken_in link.delivery n) → IsFedTo n k (take b left) true qs cs link
step-ended n k left b old link qs cs was t end h = (settles n k left b old link qs cs was t h, sym (ap is_some (t.left was.going)) ∙ end)

none_is : {A : Type 0} (o : Option A) → is_some o ≡ false → o ≡ None
none_is None e = refl
none_is (Some x) e = absurd (let k : true ≡ false = e in cc)

waiting_parts : (g : ℕ) (js : List ℕ) → record { given = g; outstanding = (waiting_ids g js).outstanding } ≡ waiting_ids g js
waiting_parts g [] = refl
waiting_parts g (j ∷ js) = refl

pub step-going : (n : Client) (k : Linked) (left : List ℕ) (b : ℕ) (old link : ClientLinked) (qs qs1 : List CodePending) (cs cs1 : List (ℤ × CodeEnded)) → CallsStand qs cs n → (was : IsLinked old n k) → TakesIn (terms_of n) (exchange_of k was.ids) left b link
    → is_some (end_in link.delivery) ≡ false → CallsStand qs1 cs1 (taken_in link.delivery n) → IsFedTo n k (take b left) false qs1 cs1 link
step-going n k left b old link qs qs1 cs cs1 st was t end h =
    let c = take b left in
    let s = settled_all (heard_in t.message) n in
    let keeps = keeps_all (heard_in t.message) n in
    let none : client_ending n.limits (k.received ++ c) ≡ None = sym (t.left was.going) ∙ none_is (end_in link.delivery) end in
    let js = heard_ids t.message was.ids in
    let outs = (waiting_ids k.given was.ids).outstanding in
    let left_is : left_at (client_ending n.limits (k.received ++ c)) (all_left (client_news n.limits k.received c) outs) ≡ (waiting_ids k.given js).outstanding =
    (λ i. left_at (none i) (all_left (t.heard i) outs)) ∙ ids_heard k.given t.message was.ids in
    let ids : (client_link_after n.limits (exchange_of k was.ids) c).ids ≡ waiting_ids k.given js =
    (λ i. record { given = waiting_given k.given was.ids i; outstanding = left_is i }) ∙ waiting_parts k.given js in
    let terms : terms_of n ≡ terms_of s = λ i. record { limits = sym keeps.limits i; version = sym keeps.version i; most = 64 } in
    let stands : ClientStands (terms_of s) link (exchange_of (longer c k) js) =
    subst (λ (x : Terms). ClientStands x link (exchange_of (longer c k) js)) terms (subst (λ (x : Ids). ClientStands (terms_of n) link (record { ids = x; received = k.received ++ c })) ids t.stands) in
    let linked : IsLinked link s (longer c k) = record {
      ids = js;
      stands = stands;
      going = ap (λ (x : Limits). client_ending x (k.received ++ c)) keeps.limits ∙ none;
      ascending = ascending_heard k.given t.message was.ids was.ascending;
      same = same_heard t.message n was.ids st.rising was.same;
      wished = wished_heard t.message n was.wished;
    } in
    (settles n k left b old link qs1 cs1 was t h, subst (λ (x : Client). IsLinked link x (longer c k)) (told_by (down n.limits) c n k (heard_in t.message) t.heard) (linked_too link s (longer c k) (Some (longer c k)) linked))

-- A fault.

step-fault : (n : Client) (k : Linked) (left : List ℕ) (link : ClientLinked) (qs : List CodePending) (cs : List (ℤ × CodeEnded)) (e : Ending) → CallsStand qs cs n → EndsTo answer_to n.limits k.received left e → IsFedTo n k left true qs cs link
step-fault n k left link qs cs e st by =
    let nothing : news (down n.limits) k.received left ≡ [] = news-is (down n.limits) k.received left [] (by.same ∙ sym (append-nil (client_heard n.limits k.received))) in
    (calls_told (down n.limits) left n k qs cs [] nothing st, ap is_some by.by)

pub step-cut : (n : Client) (k : Linked) (left : List ℕ) (link : ClientLinked) (qs : List CodePending) (cs : List (ℤ × CodeEnded)) (e : LinkFault) → CallsStand qs cs n → IsClientFaultOf n.limits k.received left e → (e ≡ Stream fault.Memory → ⊥) → IsFedTo n k left true qs cs link
step-cut n k left link qs cs WrongDirection st is other = step-fault n k left link qs cs wrong_direction st is
step-cut n k left link qs cs (Stream fault.Memory) st is other = absurd (other refl)
step-cut n k left link qs cs (Stream fault.Failed) st is other = absurd is
step-cut n k left link qs cs (Stream (fault.Header h)) st is other = step-fault n k left link qs cs (faulty (fault.Header h)) st is
step-cut n k left link qs cs (Stream fault.TooLarge) st is other = step-fault n k left link qs cs (faulty fault.TooLarge) st is
step-cut n k left link qs cs (Stream fault.UnalignedFragment) st is other = step-fault n k left link qs cs (faulty fault.UnalignedFragment) st is
step-cut n k left link qs cs (Stream fault.StrayFragment) st is other = step-fault n k left link qs cs (faulty fault.StrayFragment) st is
step-cut n k left link qs cs (Stream fault.TwiceStarted) st is other = step-fault n k left link qs cs (faulty fault.TwiceStarted) st is
step-cut n k left link qs cs (Stream fault.TooManyPartial) st is other = step-fault n k left link qs cs (faulty fault.TooManyPartial) st is
step-cut n k left link qs cs (Stream (fault.Body b)) st is other = step-fault n k left link qs cs (faulty (fault.Body b)) st is
step-cut n k left link qs cs (Stream fault.MixedOrder) st is other = step-fault n k left link qs cs (faulty fault.MixedOrder) st is

-- Octets after others.

joined-by : (m n : Client) (l : Linked) (a c : List ℕ) (ended : Bool) (qs : List CodePending) (cs : List (ℤ × CodeEnded)) (link : ClientLinked) → n.limits ≡ m.limits → told_of (down n.limits) c n (Some (longer a l)) ≡ told_of (down m.limits) (a ++ c) m (Some l)
    → IsFedTo n (longer a l) c ended qs cs link → IsFedTo m l (a ++ c) ended qs cs link
joined-by m n l a c true qs cs link same told h = (subst (λ x. CallsStand qs cs x) told h.0, sym (λ i. is_some (client_ending (same i) (append_assoc l.received a c i))) ∙ h.1)
joined-by m n l a c false qs cs link same told h = (
  subst (λ x. CallsStand qs cs x) told h.0,
  subst (λ x. IsLinked link x (longer (a ++ c) l)) told (subst (λ (o : List ℕ). IsLinked link (told_of (down n.limits) c n (Some (longer a l))) (record l { received = o })) (append_assoc l.received a c) h.1),
)

pub joined : (m : Client) (l : Linked) (a c : List ℕ) (ended : Bool) (qs : List CodePending) (cs : List (ℤ × CodeEnded)) (link : ClientLinked) → IsSteady (down m.limits)
    → IsFedTo (told_of (down m.limits) a m (Some l)) (record l { received = l.received ++ a }) c ended qs cs link → IsFedTo m l (a ++ c) ended qs cs link
joined m l a c ended qs cs link by h =
    let n = told_of (down m.limits) a m (Some l) in
    let same : n.limits ≡ m.limits = (keeps_told (down m.limits) a m l).limits in
    joined-by m n l a c ended qs cs link same (ap (λ (x : Limits). told_of (down x) c n (Some (longer a l))) same ∙ sym (told-more (down m.limits) by a c m l)) h

some_is : {A : Type 0} (o : Option A) → is_some o ≡ true → (x : A) × (o ≡ Some x)
some_is None e = absurd (let k : false ≡ true = e in cc)
some_is (Some x) e = (x, refl)

-- after the end nothing counts
pub ended-more : (m : Client) (l : Linked) (a d : List ℕ) (qs : List CodePending) (cs : List (ℤ × CodeEnded)) (link : ClientLinked) → IsSteady (down m.limits) → IsFedTo m l a true qs cs link → IsFedTo m l (a ++ d) true qs cs link
ended-more m l a d qs cs link by h =
    let e = some_is (client_ending m.limits (l.received ++ a)) h.1 in (
      calls_told (down m.limits) (a ++ d) m l qs cs (news (down m.limits) l.received a) (news-silent (down m.limits) by l.received a d e.0 e.1) (calls_before (down m.limits) a m l qs cs h.0),
      ap is_some (ap (client_ending m.limits) (sym (append_assoc l.received a d)) ∙ by.stays (l.received ++ a) d e.0 e.1),
    )

-- The client before, and afterwards.

pub calls_of : (c : FtClient) (m : Client) → FieldsStand c m → CallsStand c.pending.items c.completions.items m
calls_of c m f = record { pending_are = f.pending; completions_are = f.completions; rising = f.rising }

pub fields_after : (d : FtClient) (by : Hearing Answer) (octets : List ℕ) (m : Client) (l : Linked) → d.client_id.items ≡ m.client_id → d.version ≡ m.version → d.limits ≡ m.limits → d.last ≡ m.last → d.keeps_transient ≡ m.keeps_transient → d.keeps_forwards ≡ m.keeps_forwards
    → CallsStand d.pending.items d.completions.items (told_of by octets m (Some l)) → FieldsStand d (told_of by octets m (Some l))
fields_after d by octets m l ei ev el en ek ef h =
    let keeps = keeps_told by octets m l in
    record {
      client_id = ei ∙ sym keeps.client_id;
      version = ev ∙ sym keeps.version;
      limits = el ∙ sym keeps.limits;
      last = en ∙ sym keeps.last;
      pending = h.pending_are;
      completions = h.completions_are;
      rising = h.rising;
      keeps = ek ∙ sym keeps.keeps_transient;
      forwards = ef ∙ sym keeps.keeps_forwards;
    }

pub going_stands : (d : FtClient) (link : ClientLinked) (octets : List ℕ) (m : Client) (l : Linked) → m.link ≡ Some l → d.link ≡ Some link → d.client_id.items ≡ m.client_id → d.version ≡ m.version → d.limits ≡ m.limits → d.last ≡ m.last → d.keeps_transient ≡ m.keeps_transient → d.keeps_forwards ≡ m.keeps_forwards
    → IsFedTo m l octets false d.pending.items d.completions.items link → FtStands d (fed_on (down m.limits) octets m)
going_stands d link octets m l is has ei ev el en ek ef h =
    let by = down m.limits in
    let n = told_of by octets m (Some l) in
    let going : client_ending m.limits (l.received ++ octets) ≡ None = ap (λ (x : Limits). client_ending x (l.received ++ octets)) (sym (keeps_told by octets m l).limits) ∙ h.1.going in
    subst (λ x. FtStands d x) (sym (fed-going by octets m l is going)) (record {
      fields = fields_after d by octets m l ei ev el en ek ef h.0;
      link = subst (λ o. LinkFor d.link n o) (sym (told-link by octets m l)) (subst (λ o. LinkFor o n (Some (longer octets l))) (sym has) h.1);
    })

pub ended_is : (octets : List ℕ) (m : Client) (l : Linked) → m.link ≡ Some l → IsSome (client_ending m.limits (l.received ++ octets)) → parted (told_of (down m.limits) octets m (Some l)) ≡ fed_on (down m.limits) octets m
ended_is octets m l is end =
    let by = down m.limits in
    let e = some_is (client_ending m.limits (l.received ++ octets)) end in
    sym (fed-at by octets m l is ∙ ap (λ (o : Option Ending). parted_at o (told_of by octets m (Some l))) e.1)
