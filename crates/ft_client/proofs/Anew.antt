-- A call that is led elsewhere, and of which something else is asked from then on.
use Rattle.std.proofs.Common.{◌≡◌, ℕ, ◌<◌, ◌&&◌, ℤ, pos, true, false, cond, not, List, [], ◌∷◌, map, slice_set, Option, Some, None, is_some, refl, sym, ap, ◌∙◌, subst}
use Rattle.std.specs.List.{AllByRecursion}
use Rattle.std.specs.Ordering.{int_eq}
use Rattle.cdr_core.specs.Value.{Values}
use Rattle.giop_core.specs.declared.header.Version.{Version}
use Rattle.giop_link.specs.ClientLinking.{ClientLinked}
use Rattle.ft_client.specs.declared.client.FtClient.{FtClient}
use Rattle.ft_client.specs.declared.pending.Pending.{Pending as CodePending}
use Rattle.ft_client.specs.Clients.{Client, Linked, Pending, begun, is_unsettled, transmission_to}
use Rattle.ft_client.specs.Ends.{completion_of}
use Rattle.ft_client.specs.Keeping.{Kept, kept_as, kept_by, kept_of}
use Rattle.ft_client.specs.Lives.{AreRising}
use Rattle.ft_client.specs.Messages.{Call, Form, is_oneway, wish_of}
use Rattle.ft_client.specs.Private.{IsLedAt}
use Rattle.ft_client.specs.Redirections.{asked_anew, in_place_of}
use Rattle.ft_client.specs.Standing.{FtStands, LinkFor, sent_ids, times}
use Rattle.ft_client.proofs.Redirecting.{given_again}

module _ (id : ℤ) (key : List ℕ) (anew : Call → Call) where
  abbrev other : Pending → Pending
  other p = record p { call = anew p.call; at = key; led = None }

  -- What it leaves as it is.

  sent_anew : (ps : List Pending) → sent_ids (asked_anew id key anew ps) ≡ sent_ids ps
  sent_anew [] = refl
  sent_anew (p ∷ ps) =
      elim (int_eq (pos p.id) id) as (λ b. sent_ids (cond b (other p ∷ ps) (p ∷ asked_anew id key anew ps)) ≡ sent_ids (p ∷ ps)) [
        | true ↦ refl
        | false ↦ elim p.sent as (λ o. sent_ids (record p { sent = o } ∷ asked_anew id key anew ps) ≡ sent_ids (record p { sent = o } ∷ ps)) [ None ↦ sent_anew ps | Some n ↦ ap (λ (js : List ℕ). n ∷ js) (sent_anew ps) ]
      ]

  above_anew : (n : ℕ) (ps : List Pending) → AllByRecursion (λ q. n < q.id) ps → AllByRecursion (λ q. n < q.id) (asked_anew id key anew ps)
  above_anew n [] h = tt
  above_anew n (p ∷ ps) h =
      elim (int_eq (pos p.id) id) as (λ b. AllByRecursion (λ q. n < q.id) (cond b (other p ∷ ps) (p ∷ asked_anew id key anew ps))) [ true ↦ h | false ↦ (h.0, above_anew n ps h.1) ]

  rising_anew : (last : ℕ) (ps : List Pending) → AreRising last ps → AreRising last (asked_anew id key anew ps)
  rising_anew last [] h = tt
  rising_anew last (p ∷ ps) h =
      elim (int_eq (pos p.id) id) as (λ b. AreRising last (cond b (other p ∷ ps) (p ∷ asked_anew id key anew ps))) [ true ↦ h | false ↦ (h.0, above_anew p.id ps h.1, rising_anew last ps h.2) ]

  module _ (replied : (c : Call) → is_oneway (wish_of (anew c).form) ≡ false) where
    wished_anew : (ps : List Pending) → AllByRecursion (λ p. is_unsettled p ≡ true) ps → AllByRecursion (λ p. is_unsettled p ≡ true) (asked_anew id key anew ps)
    wished_anew [] h = tt
    wished_anew (p ∷ ps) h =
        elim (int_eq (pos p.id) id) as (λ b. AllByRecursion (λ p. is_unsettled p ≡ true) (cond b (other p ∷ ps) (p ∷ asked_anew id key anew ps)))
        [ true ↦ (ap (λ b. not (b && is_some p.sent)) (replied p.call), h.1) | false ↦ (h.0, wished_anew ps h.1) ]

    link_anew : (o : Option ClientLinked) (m : Client) (l : Option Linked) → LinkFor o m l → LinkFor o (record m { pending = asked_anew id key anew m.pending }) l
    link_anew None m None h = sent_anew m.pending ∙ h
    link_anew None m (Some l) h = absurd h
    link_anew (Some link) m None h = absurd h
    link_anew (Some link) m (Some l) h = record {
      ids = h.ids;
      stands = h.stands;
      going = h.going;
      ascending = h.ascending;
      same = λ r. h.same r ∙ ap (λ js. times r js) (sym (sent_anew m.pending));
      wished = wished_anew m.pending h.wished;
    }

    -- a client afterwards
    pub anew_stands : (c d : FtClient) (m : Client) → FtStands c m
        → d.client_id.items ≡ c.client_id.items → d.version ≡ c.version → d.limits ≡ c.limits → d.last ≡ c.last → d.completions.items ≡ c.completions.items → d.link ≡ c.link → d.keeps_transient ≡ c.keeps_transient → d.keeps_forwards ≡ c.keeps_forwards
        → map kept_by d.pending.items ≡ map (kept_of m.version m.client_id) (asked_anew id key anew m.pending) → FtStands d (record m { pending = asked_anew id key anew m.pending })
    anew_stands c d m st ei ev el en ec ek et ef kept =
        let f = st.fields in
        record {
          fields = record {
            client_id = ei ∙ f.client_id;
            version = ev ∙ f.version;
            limits = el ∙ f.limits;
            last = en ∙ f.last;
            pending = kept;
            completions = ap (λ cs. map completion_of cs) ec ∙ f.completions;
            rising = rising_anew m.last m.pending f.rising;
            keeps = et ∙ f.keeps;
            forwards = ef ∙ f.forwards;
          };
          link = subst (λ x. LinkFor x (record m { pending = asked_anew id key anew m.pending }) m.link) (sym ek) (link_anew c.link m m.link st.link);
        }

-- the calls, with what is kept of it now
pub anew_kept : (z : ℤ) (c : FtClient) (m : Client) (place : ℕ) (d : CodePending) (k : Kept) (version : Version) (client_id : List ℕ) (number : ℕ) (key operation : List ℕ) (arguments : Values) (form : Form)
    → (f : IsLedAt z c m place number) → kept_by d ≡ kept_of m.version m.client_id f.call → version ≡ m.version → client_id ≡ m.client_id
    → k ≡ record (kept_of version client_id (begun number (given_again version client_id key operation arguments d.expiration form) None)) { sent = d.sent }
    → slice_set (map kept_by c.pending.items) place k ≡ map (kept_of m.version m.client_id) (asked_anew z key (in_place_of operation arguments form) m.pending)
anew_kept z c m place d k version client_id number key operation arguments form f was ev ei is =
    let expiration : d.expiration ≡ f.call.call.expiration = ap (λ (x : Kept). x.expiration) was in
    let sent : d.sent ≡ f.call.sent = ap (λ (x : Kept). x.sent) was in
    f.put key (in_place_of operation arguments form) k
    (is
    ∙ (λ i. record (kept_of (ev i) (ei i) (begun (f.numbered i) (given_again version client_id key operation arguments d.expiration form) None)) { sent = d.sent })
    ∙ (λ i. kept_as (transmission_to m.version m.client_id f.call.id 1 key (record { object_key = f.call.call.object_key; operation = operation; arguments = arguments; expiration = expiration i; form = form })) (sent i) None))
