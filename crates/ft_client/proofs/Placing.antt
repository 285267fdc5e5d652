-- A call that is taken.
use Rattle.std.proofs.Common.{◌≡◌, ℕ, suc, ◌<◌, ◌≤◌, ◌&&◌, nat_le, nat_lt, Bool, true, false, cond, List, [], ◌∷◌, ◌++◌, map, length, Option, Some, None, refl, sym, ap, ◌∙◌, subst, arith}
use Rattle.std.proofs.lemmas.Bool.{and_parts, ltb-true}
use Rattle.std.proofs.lemmas.Bool.Decides.{nat_tests}
use Rattle.std.proofs.lemmas.List.{append-nil}
use Rattle.giop_core.specs.declared.header.Version.{Version}
use Rattle.giop_link.specs.ClientLinking.{ClientLinked}
use Rattle.giop_link.specs.Ids.{Ids}
use Rattle.ft_client.specs.declared.client.FtClient.{FtClient}
use Rattle.ft_client.specs.declared.pending.Pending.{Pending as CodePending}
use Rattle.ft_client.specs.Clients.{Client, Linked, Pending, begun, fits, is_resumed, is_taken, placed, placed_on, says_placed, skipped, stands_in, transmission}
use Rattle.ft_client.specs.Directions.{stream}
use Rattle.ft_client.specs.Keeping.{Kept, kept_by, kept_of, under}
use Rattle.ft_client.specs.Messages.{Call, has_no_ft, is_oneway, octets_said, request_behind, request_octets, wish_of}
use Rattle.ft_client.specs.Standing.{FtStands, IsLinked, LinkFor, sent_ids}
use Rattle.ft_client.proofs.Joining.{is_linked, map_push, sent_push, unlinked}
use Rattle.ft_client.specs.Ends.{completion_of}
use Rattle.ft_client.proofs.Living.{rising-later}
use Rattle.ft_client.proofs.Marking.{length_kept}
use Rattle.ft_client.proofs.Models.{under_kept, waiting_given}

le_true : (m n : ℕ) → m ≤ n → nat_le m n ≡ true
le_true m n le = grind (arith, nat_tests)

lt_false : (m n : ℕ) → n ≤ m → nat_lt m n ≡ false
lt_false m n le = grind (arith, nat_tests)

lt_true : (m n : ℕ) → m < n → nat_lt m n ≡ true
lt_true m n lt = grind (arith, nat_tests)

pub length_kept_of : (v : Version) (id : List ℕ) (ps : List Pending) → length (map (kept_of v id) ps) ≡ length ps
length_kept_of v id [] = refl
length_kept_of v id (p ∷ ps) = ap suc (length_kept_of v id ps)

-- what is written is not too long
pub fits_is : (call : Call) (m : Client) (version : Version) (client_id : List ℕ) (id : ℕ) → version ≡ m.version → client_id ≡ m.client_id → length (request_behind (transmission version client_id id 1 call)) < 4294967296 → fits id m call ≡ true
fits_is call m version client_id id ev ei short =
    let e : length (request_behind (transmission version client_id id 1 call)) ≡ length (request_behind (transmission m.version m.client_id id 1 call)) = λ i. length (request_behind (transmission (ev i) (ei i) id 1 call)) in
    lt_true _ 4294967296 (subst (λ n. n < 4294967296) e short)

pub unfit_is : (call : Call) (m : Client) (version : Version) (client_id : List ℕ) (id : ℕ) → version ≡ m.version → client_id ≡ m.client_id → 4294967296 ≤ length (request_behind (transmission version client_id id 1 call)) → fits id m call ≡ false
unfit_is call m version client_id id ev ei long =
    let e : length (request_behind (transmission version client_id id 1 call)) ≡ length (request_behind (transmission m.version m.client_id id 1 call)) = λ i. length (request_behind (transmission (ev i) (ei i) id 1 call)) in
    lt_false _ 4294967296 (subst (λ n. 4294967296 ≤ n) e long)

-- what the tests of a call have shown
pub taken_is : (now : ℕ) (call : Call) (m : Client) → has_no_ft call.form ≡ true → now ≤ call.expiration → m.last < 2147483647 → length m.pending < 64 → stands_in (suc m.last) m call ≡ true → fits (suc m.last) m call ≡ true → is_taken now call m ≡ true
taken_is now call m own le last few place short =
    λ i. own i && (le_true now call.expiration le i && (lt_true m.last 2147483647 last i && (lt_true (length m.pending) 64 few i && (place i && short i))))

pub resumed_is : (now id : ℕ) (call : Call) (m : Client) → has_no_ft call.form ≡ true → (nat_lt m.last id && nat_lt id 2147483648) ≡ true → now ≤ call.expiration → length m.pending < 64 → stands_in id m call ≡ true → fits id m call ≡ true
    → is_resumed now id call m ≡ true
resumed_is now id call m own free le few place short = λ i. own i && (free i && (le_true now call.expiration le i && (lt_true (length m.pending) 64 few i && (place i && short i))))

pub free_is : (last id : ℕ) → (nat_lt last id && nat_lt id 2147483648) ≡ true → (last < id) × (id < 2147483648)
free_is last id is = let p = and_parts (nat_lt last id) (nat_lt id 2147483648) is in (ltb-true last id p.0, ltb-true id 2147483648 p.1)

pub few_pending : (c : FtClient) (m : Client) → map kept_by c.pending.items ≡ map (kept_of m.version m.client_id) m.pending → length c.pending.items ≡ length m.pending
few_pending c m is = sym (length_kept c.pending.items) ∙ ap length is ∙ length_kept_of m.version m.client_id m.pending

pub kept_like : (m : Client) (call : Call) (version : Version) (client_id : List ℕ) (number : ℕ) (k : Kept) → version ≡ m.version → client_id ≡ m.client_id
    → k ≡ kept_of version client_id (begun number call None) → k ≡ kept_of m.version m.client_id (begun number call None)
kept_like m call version client_id number k ev ei is = is ∙ (λ i. kept_of (ev i) (ei i) (begun number call None))

-- the calls with one more
pub kept_push : (m : Client) (ps qs new : List CodePending) (x : CodePending) (p : Pending) → new ≡ qs ++ x ∷ [] → qs ≡ ps → map kept_by ps ≡ map (kept_of m.version m.client_id) m.pending → kept_by x ≡ kept_of m.version m.client_id p
    → map kept_by new ≡ map (kept_of m.version m.client_id) (m.pending ++ p ∷ [])
kept_push m ps qs new x p is same old one = ap (λ (ys : List CodePending). map kept_by ys) is ∙ ap (λ (ys : List CodePending). map kept_by (ys ++ x ∷ [])) same ∙ map_push kept_by ps x ∙ (λ i. old i ++ one i ∷ []) ∙ sym (map_push (kept_of m.version m.client_id) m.pending p)

pub unlinked_push : (o : Option ClientLinked) (m n : Client) (id : ℕ) (call : Call) → o ≡ None → sent_ids m.pending ≡ [] → n.pending ≡ m.pending ++ begun id call None ∷ [] → LinkFor o n None
unlinked_push None m n id call is none e = ap sent_ids e ∙ sent_push m.pending (begun id call None) ∙ ap (λ js. js ++ []) none
unlinked_push (Some l) m n id call is none e = cc

pub no_link : (o : Option ClientLinked) (m : Client) → o ≡ None → LinkFor o m m.link → (m.link ≡ None) × (sent_ids m.pending ≡ [])
no_link None m is h = unlinked m m.link h
no_link (Some l) m is h = cc

pub has_link : (o : Option ClientLinked) (link : ClientLinked) (m : Client) → o ≡ Some link → LinkFor o m m.link → (l : Linked) × (m.link ≡ Some l) × IsLinked link m l
has_link None link m is h = cc
has_link (Some l) link m is h = let same : l ≡ link = cc in is_linked link m m.link (subst (λ x. LinkFor (Some x) m m.link) same h)

pub next_id : (m : Client) (l : Linked) (link : ClientLinked) (id : ℕ) → IsLinked link m l → id ≡ suc link.ids.given → id ≡ suc l.given
next_id m l link id h is = is ∙ ap (λ (x : Ids). suc x.given) h.stands.ids_are ∙ ap suc (waiting_given l.given h.ids)

pub kept_sent : (m : Client) (call : Call) (k : Kept) (number id given : ℕ) → k ≡ kept_of m.version m.client_id (begun number call None) → id ≡ suc given
    → record k { sent = Some id } ≡ kept_of m.version m.client_id (begun number call (Some (suc given)))
kept_sent m call k number id given is e = ap (λ (x : Kept). record x { sent = Some id }) is ∙ ap (λ i. kept_of m.version m.client_id (begun number call (Some i))) e

pub says_sent : (number : ℕ) (call : Call) (m : Client) (l : Linked) (k : Kept) (id : ℕ) (out new : List ℕ) → m.link ≡ Some l → k ≡ kept_of m.version m.client_id (begun number call None) → id ≡ suc l.given → new ≡ out ++ under id k
    → new ≡ out ++ stream octets_said (says_placed number call m m.link)
says_sent number call m l k id out new is ek ei written =
    let p : Pending = begun number call None in
    let o : under id k ≡ request_octets (transmission m.version m.client_id number (suc l.given) call) = (λ i. under (ei i) (ek i)) ∙ under_kept m.version m.client_id (suc l.given) p in
    written ∙ ap (λ x. out ++ x) (o ∙ sym (append-nil (request_octets (transmission m.version m.client_id number (suc l.given) call)))) ∙ ap (λ (w : Option Linked). out ++ stream octets_said (says_placed number call m w)) (sym is)

pub placed_at : (d : FtClient) (id : ℕ) (call : Call) (m : Client) (o : Option Linked) → m.link ≡ o → FtStands d (placed id call m o) → FtStands d (placed id call m m.link)
placed_at d id call m o is h = subst (λ (w : Option Linked). FtStands d (placed id call m w)) (sym is) h

-- what stands for a call that was sent, by whether it wishes for no reply
pub placed_sent : (d : FtClient) (id : ℕ) (call : Call) (m : Client) (l : Linked) (b : Bool) → m.link ≡ Some l → is_oneway (wish_of call.form) ≡ b → FtStands d (placed_on b id call m l) → FtStands d (placed id call m m.link)
placed_sent d id call m l b is eb h = placed_at d id call m (Some l) is (subst (λ t. FtStands d (placed_on t id call m l)) (sym eb) h)

-- a client after a call that is taken, or taken up again, and what it says
pub after_taken : (b : Bool) (d : FtClient) (id : ℕ) (call : Call) (m : Client) → b ≡ true → FtStands d (placed id call m m.link) → FtStands d (cond b (placed id call m m.link) m)
after_taken b d id call m is h = subst (λ (x : Client). FtStands d x) (sym (ap (λ t. cond t (placed id call m m.link) m) is)) h

pub says_taken : (b : Bool) (id : ℕ) (call : Call) (m : Client) (out new : List ℕ) → b ≡ true → new ≡ out ++ stream octets_said (says_placed id call m m.link) → new ≡ out ++ stream octets_said (cond b (says_placed id call m m.link) [])
says_taken b id call m out new is h = h ∙ ap (λ t. out ++ stream octets_said (cond t (says_placed id call m m.link) [])) (sym is)

-- a client whose numbers go on from a greater one
linked_later : (o : Option ClientLinked) (m : Client) (l : Option Linked) (id : ℕ) → LinkFor o m l → LinkFor o (record m { last = id }) l
linked_later None m None id h = h
linked_later None m (Some l) id h = absurd h
linked_later (Some link) m None id h = absurd h
linked_later (Some link) m (Some l) id h = record { ids = h.ids; stands = h.stands; going = h.going; ascending = h.ascending; same = h.same; wished = h.wished }

pub skipped_stands : (c d : FtClient) (id : ℕ) (m : Client) (free : Bool) → free ≡ (nat_lt c.last id && nat_lt id 2147483648) → free ≡ true → FtStands c m
    → d.client_id.items ≡ c.client_id.items → d.version ≡ c.version → d.limits ≡ c.limits → d.last ≡ id → d.pending.items ≡ c.pending.items → d.completions.items ≡ c.completions.items → d.link ≡ c.link → d.keeps_transient ≡ c.keeps_transient → d.keeps_forwards ≡ c.keeps_forwards
    → FtStands d (skipped id m)
skipped_stands c d id m free is was st ei ev el en ep ec ek et ef =
    let same : (nat_lt m.last id && nat_lt id 2147483648) ≡ true = ap (λ (n : ℕ). nat_lt n id && nat_lt id 2147483648) (sym st.fields.last) ∙ sym is ∙ was in
    let low = (free_is m.last id same).0 in
    subst (λ (x : Client). FtStands d x) (sym (ap (λ b. cond b (record m { last = id }) m) same)) (record {
      fields = record {
        client_id = ei ∙ st.fields.client_id;
        version = ev ∙ st.fields.version;
        limits = el ∙ st.fields.limits;
        last = en;
        pending = ap (λ (ps : List CodePending). map kept_by ps) ep ∙ st.fields.pending;
        completions = ap (λ cs. map completion_of cs) ec ∙ st.fields.completions;
        rising = rising-later m.last id m.pending (omega (arith, low)) st.fields.rising;
        keeps = et ∙ st.fields.keeps;
        forwards = ef ∙ st.fields.forwards;
      };
      link = linked_later d.link m m.link id (subst (λ (o : Option ClientLinked). LinkFor o m m.link) (sym ek) st.link);
    })

pub says_nothing : (number : ℕ) (call : Call) (m : Client) (out : List ℕ) → m.link ≡ None → out ≡ out ++ stream octets_said (says_placed number call m m.link)
says_nothing number call m out is = sym (append-nil out) ∙ ap (λ (w : Option Linked). out ++ stream octets_said (says_placed number call m w)) (sym is)
