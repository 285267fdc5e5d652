-- A client and its link.
use Rattle.std.proofs.Common.{◌≡◌, ℕ, suc, ◌<◌, ◌≤◌, ◌&&◌, not, Bool, true, false, cond, List, [], ◌∷◌, ◌++◌, map, Option, Some, None, refl, sym, ap, ◌∙◌, subst, arith, append_assoc}
use Rattle.std.specs.List.{AllByRecursion}
use Rattle.std.specs.Option.{is_some}
use Rattle.std.proofs.lemmas.List.{append-nil}
use Rattle.giop_core.specs.declared.header.Version.{Version}
use Rattle.giop_core.specs.declared.request.ReplyWish.{ReplyWish}
use Rattle.giop_core.specs.declared.request.ReplyWish.TheVariants as wish
use Rattle.giop_frames.specs.declared.limits.Limits.{Limits}
use Rattle.giop_link.specs.Answering.{client_ending}
use Rattle.giop_link.specs.ClientLinking.{ClientLinked, ClientStands, Exchange, Terms, no_exchange}
use Rattle.giop_link.specs.Ids.{Ids, one_more, wanted_by}
use Rattle.ft_client.specs.declared.client.FtClient.{FtClient}
use Rattle.ft_client.specs.Lives.{AreRising}
use Rattle.ft_client.specs.Clients.{Client, Linked, Pending, begun, ids_after, parted, placed_on, resent, resent_on, sent_off, unsent}
use Rattle.ft_client.specs.Keeping.{Kept, awaited, ids_after_sending, ids_awaited, is_due, kept_of}
use Rattle.ft_client.specs.Messages.{Call, is_oneway, wish_of}
use Rattle.ft_client.specs.Standing.{AreAscending, FieldsStand, FtStands, IsLinked, LinkFor, exchange_of, sent_ids, terms_of, times, waiting_ids}
use Rattle.ft_client.proofs.Counts.{AreWished, times_append, times_resent, wished_push, wished_staying}
use Rattle.ft_client.proofs.Models.{ascending_later, ids_after_kept, unsent_ids, unsent_is, unsent_twice, waiting_given, waiting_wish}

-- where there is no link, there is none in the model, and where there is one, there is one
pub unlinked : (m : Client) (o : Option Linked) → LinkFor None m o → (o ≡ None) × (sent_ids m.pending ≡ [])
unlinked m None h = (refl, h)
unlinked m (Some l) h = absurd h

pub is_linked : (link : ClientLinked) (m : Client) (o : Option Linked) → LinkFor (Some link) m o → (l : Linked) × (o ≡ Some l) × IsLinked link m l
is_linked link m None h = absurd h
is_linked link m (Some l) h = (l, refl, h)

pub without_link : (o : Option ClientLinked) (m : Client) → is_some o ≡ false → sent_ids m.pending ≡ [] → LinkFor o m None
without_link None m e h = h
without_link (Some l) m e h = cc

pub was_unlinked : (o : Option ClientLinked) (m : Client) → is_some o ≡ false → LinkFor o m m.link → sent_ids m.pending ≡ []
was_unlinked None m e h = (unlinked m m.link h).1
was_unlinked (Some l) m e h = cc

-- a client without a link is as it is when it has lost one
pub fields_parted : (c : FtClient) (m : Client) → is_some c.link ≡ false → FtStands c m → FieldsStand c (parted m)
fields_parted c m e st =
    let same = unsent_is m.pending (was_unlinked c.link m e st.link) in
    let f = st.fields in
    record {
      client_id = f.client_id;
      version = f.version;
      limits = f.limits;
      last = f.last;
      pending = f.pending ∙ ap (map (kept_of m.version m.client_id)) (sym same);
      completions = f.completions;
      rising = subst (AreRising m.last) (sym same) f.rising;
      keeps = f.keeps;
      forwards = f.forwards;
    }

pub parted_twice : (m : Client) → parted (parted m) ≡ parted m
parted_twice m = ap (λ ps. record (parted m) { pending = ps }) (unsent_twice m.pending)

-- the ids of a link have changed, and nothing else
pub with_ids : (terms : Terms) (link new : ClientLinked) (x : Exchange) (ids : Ids) → ClientStands terms link x → new ≡ record link { ids = ids } → ClientStands terms new (record x { ids = ids })
with_ids terms link new x ids h is =
    let P : ClientLinked → Type 0 = λ l. ClientStands terms l (record x { ids = ids }) in
    subst P (sym is) (record { terms_are = h.terms_are; ids_are = refl; is_ended = h.is_ended; holds = h.holds })

-- a new link, for a client without one
pub new_linked : (m : Client) (limits : Limits) (version : Version) (link : ClientLinked) → limits ≡ m.limits → version ≡ m.version → ClientStands (record { limits = limits; version = version; most = 64 }) link no_exchange
    → ((l : Limits) → client_ending l [] ≡ None) → IsLinked link (parted m) (record { given = 0; received = [] })
new_linked m limits version link el ev h silent =
    let terms : Terms = record { limits = limits; version = version; most = 64 } in
    let same : terms ≡ terms_of m = λ i. record { limits = el i; version = ev i; most = 64 } in
    record {
      ids = [];
      stands = subst (λ (t : Terms). ClientStands t link no_exchange) same h;
      going = silent m.limits;
      ascending = tt;
      same = λ r. ap (times r) (sym (unsent_ids m.pending));
      wished = unsent_wished m.pending;
    }
  where
    unsettled : (b : Bool) → not (b && false) ≡ true
    unsettled true = refl
    unsettled false = refl

    unsent_wished : (ps : List Pending) → AreWished (unsent ps)
    unsent_wished [] = tt
    unsent_wished (p ∷ ps) = (unsettled (is_oneway (wish_of p.call.form)), unsent_wished ps)

all_push : (i g : ℕ) (js : List ℕ) → i ≤ g → AllByRecursion (λ j. i < j) js → AllByRecursion (λ j. i < j) (js ++ suc g ∷ [])
all_push i g [] le h = (omega arith, tt)
all_push i g (j ∷ js) le h = (h.0, all_push i g js le h.1)

pub ascending_push : (g : ℕ) (js : List ℕ) → AreAscending g js → AreAscending (suc g) (js ++ suc g ∷ [])
ascending_push g [] h = (omega arith, tt, tt)
ascending_push g (j ∷ js) h = let le = h.0 in (omega (arith, le), all_push j g js le h.1, ascending_push g js h.2)

-- the ids that grow, after calls were sent
ascending_again : (now g : ℕ) (is : List ℕ) (ks : List Kept) → AreAscending g is → AreAscending (ids_after_sending now g ks) (is ++ ids_awaited now g ks)
ascending_again now g is [] h = subst (λ js. AreAscending g js) (sym (append-nil is)) h
ascending_again now g is (k ∷ ks) h =
    elim (is_due now g k) as (λ b. AreAscending (cond b (ids_after_sending now (suc g) ks) (ids_after_sending now g ks)) (is ++ cond b (awaited k.wish (suc g) ++ ids_awaited now (suc g) ks) (ids_awaited now g ks))) [
      | true ↦ elim (is_oneway k.wish) as (λ w. AreAscending (ids_after_sending now (suc g) ks) (is ++ (cond w [] (suc g ∷ []) ++ ids_awaited now (suc g) ks))) [
        | true ↦ ascending_again now (suc g) is ks (ascending_later g is h)
        | false ↦ subst (λ js. AreAscending (ids_after_sending now (suc g) ks) js) (append_assoc is (suc g ∷ []) (ids_awaited now (suc g) ks)) (ascending_again now (suc g) (is ++ suc g ∷ []) ks (ascending_push g is h))
      ]
      | false ↦ ascending_again now g is ks h
    ]

-- how many ids it has given
pub given_is : (m : Client) (l : Linked) (link : ClientLinked) → IsLinked link m l → link.ids.given ≡ l.given
given_is m l link h = ap (λ (x : Ids). x.given) h.stands.ids_are ∙ waiting_given l.given h.ids

-- a link on which the pending calls that are due were sent
pub resent_link : (m : Client) (l : Linked) (link new : ClientLinked) (now : ℕ) (ks : List Kept) → ks ≡ map (kept_of m.version m.client_id) m.pending → (h : IsLinked link m l)
    → new ≡ record link { ids = waiting_ids (ids_after_sending now link.ids.given ks) (h.ids ++ ids_awaited now link.ids.given ks) }
    → IsLinked new (sent_off (resent_on now m l)) (record l { given = ids_after now l.given m.pending })
resent_link m l link new now ks ek h is =
    let ps = m.pending in
    let g = given_is m l link h in
    let js = h.ids ++ ids_awaited now l.given (map (kept_of m.version m.client_id) ps) in
    let after : ids_after_sending now l.given (map (kept_of m.version m.client_id) ps) ≡ ids_after now l.given ps = ids_after_kept m.version m.client_id now l.given ps in
    let ids : waiting_ids (ids_after_sending now link.ids.given ks) (h.ids ++ ids_awaited now link.ids.given ks) ≡ waiting_ids (ids_after now l.given ps) js =
    (λ i. waiting_ids (ids_after_sending now (g i) (ek i)) (h.ids ++ ids_awaited now (g i) (ek i))) ∙ ap (λ n. waiting_ids n js) after in
    record {
      ids = js;
      stands = with_ids (terms_of m) link new (exchange_of l h.ids) (waiting_ids (ids_after now l.given ps) js) h.stands (is ∙ ap (λ (x : Ids). record link { ids = x }) ids);
      going = h.going;
      ascending = subst (λ n. AreAscending n js) after (ascending_again now l.given h.ids (map (kept_of m.version m.client_id) ps) h.ascending);
      same = λ r.
          let t = times_resent m.version m.client_id now r l.given ps h.wished in
          let a = times_append r h.ids (ids_awaited now l.given (map (kept_of m.version m.client_id) ps)) in
          let was = h.same r in
          omega (arith, t, a, was);
      wished = wished_staying (resent now l.given ps);
    }

-- one more pending call

pub sent_push : (ps : List Pending) (p : Pending) → sent_ids (ps ++ p ∷ []) ≡ sent_ids ps ++ sent_ids (p ∷ [])
sent_push [] p = refl
sent_push (q ∷ ps) p =
    elim q.sent as (λ o. sent_ids (record q { sent = o } ∷ (ps ++ p ∷ [])) ≡ sent_ids (record q { sent = o } ∷ ps) ++ sent_ids (p ∷ []))
    [ None ↦ sent_push ps p | Some i ↦ ap (λ (js : List ℕ). i ∷ js) (sent_push ps p) ]

pub map_push : {A B : Type 0} (f : A → B) (xs : List A) (x : A) → map f (xs ++ x ∷ []) ≡ map f xs ++ f x ∷ []
map_push f [] x = refl
map_push f (y ∷ xs) x = ap (λ ys. f y ∷ ys) (map_push f xs x)

-- a call that was sent on the link, with a wish
placed_on_link : (m : Client) (number : ℕ) (call : Call) (l : Linked) (link new : ClientLinked) (w : ReplyWish) → IsLinked link m l → is_oneway (wish_of call.form) ≡ is_oneway w → new ≡ record link { ids = one_more (wanted_by w) link.ids }
    → IsLinked new (placed_on (is_oneway w) number call m l) (record l { given = suc l.given })
placed_on_link m number call l link new w h own is = by w refl
  where
    p : Pending
    p = begun number call (Some (suc l.given))

    ids : (x : ReplyWish) → w ≡ x → one_more (wanted_by w) link.ids ≡ waiting_ids (suc l.given) (h.ids ++ awaited x (suc l.given))
    ids x e = ap (one_more (wanted_by w)) h.stands.ids_are ∙ waiting_wish w l.given h.ids ∙ ap (λ y. waiting_ids (suc l.given) (h.ids ++ awaited y (suc l.given))) e

    pushed : is_oneway w ≡ false → one_more (wanted_by w) link.ids ≡ waiting_ids (suc l.given) (h.ids ++ suc l.given ∷ []) → IsLinked new (placed_on false number call m l) (record l { given = suc l.given })
    pushed wishes e = record {
      ids = h.ids ++ suc l.given ∷ [];
      stands = with_ids (terms_of m) link new (exchange_of l h.ids) (waiting_ids (suc l.given) (h.ids ++ suc l.given ∷ [])) h.stands (is ∙ ap (λ (x : Ids). record link { ids = x }) e);
      going = h.going;
      ascending = ascending_push l.given h.ids h.ascending;
      same = λ r.
          let a = times_append r h.ids (suc l.given ∷ []) in
          let b : times r (sent_ids (m.pending ++ p ∷ [])) ≡ times r (sent_ids m.pending ++ suc l.given ∷ []) = ap (times r) (sent_push m.pending p) in
          let c = times_append r (sent_ids m.pending) (suc l.given ∷ []) in
          let was = h.same r in
          omega (arith, a, b, c, was);
      wished = wished_push m.pending p (ap (λ b. not (b && true)) (own ∙ wishes)) h.wished;
    }

    by : (x : ReplyWish) → w ≡ x → IsLinked new (placed_on (is_oneway x) number call m l) (record l { given = suc l.given })
    by wish.None e =
        let all : one_more (wanted_by w) link.ids ≡ waiting_ids (suc l.given) h.ids = ids wish.None e ∙ ap (λ (is : List ℕ). waiting_ids (suc l.given) is) (append-nil h.ids) in
        record {
          ids = h.ids;
          stands = with_ids (terms_of m) link new (exchange_of l h.ids) (waiting_ids (suc l.given) h.ids) h.stands (is ∙ ap (λ (x : Ids). record link { ids = x }) all);
          going = h.going;
          ascending = ascending_later l.given h.ids h.ascending;
          same = h.same;
          wished = h.wished;
        }
    by wish.Empty e = pushed (ap is_oneway e) (ids wish.Empty e)
    by wish.Full e = pushed (ap is_oneway e) (ids wish.Full e)

pub placed_link : (m : Client) (number : ℕ) (call : Call) (l : Linked) (link new : ClientLinked) (w : ReplyWish) (b : Bool) → IsLinked link m l → w ≡ wish_of call.form → is_oneway w ≡ b → new ≡ record link { ids = one_more (wanted_by w) link.ids } → IsLinked new (placed_on b number call m l) (record l { given = suc l.given })
placed_link m number call l link new w b h ew eb is = subst (λ t. IsLinked new (placed_on t number call m l) (record l { given = suc l.given })) eb (placed_on_link m number call l link new w h (ap is_oneway (sym ew)) is)
