-- A call that is led elsewhere, and is redirected.
use Rattle.std.proofs.Common.{◌≡◌, ℕ, zero, suc, ◌<◌, ◌&&◌, ℤ, pos, negsuc, w32, SFits, nat_lt, Bool, true, false, cond, List, [], ◌∷◌, map, length, slice_index_or, slice_set, Option, Some, None, is_some, refl, sym, ap, ◌∙◌, subst, arith}
use Rattle.std.specs.Int.{FitsUnsignedBits}
use Rattle.std.specs.List.{AllByRecursion, position}
use Rattle.std.specs.Option.{option_map}
use Rattle.std.specs.Ordering.{int_eq}
use Rattle.std.proofs.Math.IntN.{nat_abs}
use Rattle.std.proofs.lemmas.Bool.Decides.{Decides-int_eq}
use Rattle.std.proofs.lemmas.List.Quantifiers.{position-Some}
use Rattle.cdr_core.specs.Value.{Values}
use Rattle.giop_core.specs.Content.{Rest}
use Rattle.giop_core.specs.declared.header.Version.{Version}
use Rattle.giop_link.specs.ClientLinking.{ClientLinked}
use Rattle.ft_client.specs.declared.client.FtClient.{FtClient}
use Rattle.ft_client.specs.declared.ended.ReplyBody.{ReplyBody}
use Rattle.ft_client.specs.declared.pending.Pending.{Pending as CodePending}
use Rattle.giop_core.specs.declared.error.WriteError.{WriteError}
use Rattle.giop_core.specs.declared.error.WriteError.TheVariants.{Memory, TooLong}
use Rattle.ft_client.specs.Calling.{IsFitting, IsRedirectError, is_led}
use Rattle.ft_client.specs.Errors.{redirect_error_of}
use Rattle.ft_client.specs.Clients.{Client, Linked, Pending, asked_at, begun, find_pending, first_led, fits, is_redirected, is_unsettled, stands_in, transmission_to}
use Rattle.ft_client.specs.Ends.{body_of, completion_of, led_to}
use Rattle.ft_client.specs.Keeping.{Kept, kept_as, kept_by, kept_of}
use Rattle.ft_client.specs.Messages.{Call, Form, keeps_place, request_behind}
use Rattle.ft_client.specs.Private.{IsLedAt}
use Rattle.ft_client.specs.Redirections.{asked_anew}
use Rattle.ft_client.specs.Standing.{FieldsStand, FtStands, LinkFor, sent_ids, times}
use Rattle.ft_client.proofs.Leaving.{nobody}
use Rattle.ft_client.proofs.Living.{alike-asked_at, alike-rising}
use Rattle.ft_client.proofs.Places.{at_both, find_is, first_that, found_kept, same_length}
use Rattle.ft_client.proofs.Cancelling.{get_is}

-- The first that is led.

pub first_led_is : (ps : List Pending) → first_led ps ≡ first_that (λ p. is_some p.led) ps
first_led_is [] = refl
first_led_is (p ∷ ps) = ap (λ rest. cond (is_some p.led) (Some p) rest) (first_led_is ps)

pub some_led : (o : Option ReplyBody) → is_some o ≡ is_some (option_map body_of o)
some_led None = refl
some_led (Some b) = refl

pub led_place : (qs : List CodePending) → position (λ p. is_some p.led) qs ≡ position (λ p. is_some (kept_by p).led) qs
led_place qs = λ i. position (λ p. some_led p.led i) qs

-- its number and the reference
pub led_is : (z : ℤ) (p : Pending) (body : Rest) (o : Option Pending) → o ≡ Some p → z ≡ pos p.id → Some body ≡ p.led → Some (z, body) ≡ led_to o
led_is z p body o is ez el = (λ i. Some (ez i, body)) ∙ ap (option_map (λ (b : Rest). (pos p.id, b))) el ∙ ap led_to (sym is)

-- Numbers.

pub number_low : (z : ℤ) → SFits w32 z → FitsUnsignedBits 32 z → nat_abs z < 2147483648
number_low (pos n) s u = s.sfits
number_low (negsuc n) s u = absurd u

-- a number that is no u32 is that of no call
pub none_negative : (z : ℤ) → SFits w32 z → (FitsUnsignedBits 32 z → ⊥) → (ps : List Pending) → find_pending z ps ≡ None
none_negative (pos n) s not ps = absurd (not (let low : n < 2147483648 = s.sfits in omega (arith, low)))
none_negative (negsuc n) s not [] = refl
none_negative (negsuc n) s not (p ∷ ps) = none_negative (negsuc n) s not ps

-- What is kept of it.

module _ (version : Version) (client_id : List ℕ) where
  heads : (x y : Kept) (xs ys : List Kept) → x ∷ xs ≡ y ∷ ys → (x ≡ y) × (xs ≡ ys)
  heads x y xs ys e = (cc, cc)

  pub anew_set : (id : ℤ) (key : List ℕ) (anew : Call → Call) (i : ℕ) (k : Kept) (qs : List CodePending) (ps : List Pending) (d : Pending) → i < length ps → int_eq (pos (slice_index_or ps i d).id) id ≡ true → ((j : ℕ) → j < i → int_eq (pos (slice_index_or ps j d).id) id ≡ false)
      → k ≡ kept_of version client_id (record (slice_index_or ps i d) { call = anew (slice_index_or ps i d).call; at = key; led = None }) → map kept_by qs ≡ map (kept_of version client_id) ps
      → slice_set (map kept_by qs) i k ≡ map (kept_of version client_id) (asked_anew id key anew ps)
  anew_set id key anew i k qs [] d lt here none one same = absurd (omega arith)
  anew_set id key anew i k [] (p ∷ ps) d lt here none one same = absurd (let e : [] ≡ kept_of version client_id p ∷ map (kept_of version client_id) ps = same in cc)
  anew_set id key anew zero k (q ∷ qs) (p ∷ ps) d lt here none one same =
      let h = heads (kept_by q) (kept_of version client_id p) (map kept_by qs) (map (kept_of version client_id) ps) same in
      (λ i. one i ∷ h.1 i) ∙ sym (ap (λ b. map (kept_of version client_id) (cond b (record p { call = anew p.call; at = key; led = None } ∷ ps) (p ∷ asked_anew id key anew ps))) here)
  anew_set id key anew (suc i) k (q ∷ qs) (p ∷ ps) d lt here none one same =
      let h = heads (kept_by q) (kept_of version client_id p) (map kept_by qs) (map (kept_of version client_id) ps) same in
      let rest = anew_set id key anew i k qs ps d (omega arith) here (λ j less. none (suc j) (omega (arith, less))) one h.1 in
      (λ j. h.0 j ∷ rest j) ∙ sym (ap (λ b. map (kept_of version client_id) (cond b (record p { call = anew p.call; at = key; led = None } ∷ ps) (p ∷ asked_anew id key anew ps))) (none 0 (omega arith)))

  -- the call as it is given again
  abbrev pub given_again : List ℕ → List ℕ → Values → ℕ → Form → Call
  given_again key operation arguments expiration form = record { object_key = key; operation = operation; arguments = arguments; expiration = expiration; form = form }

  module _ (key operation : List ℕ) (arguments : Values) (expiration : ℕ) (form : Form) (p : Pending) (ef : p.call.form ≡ form) (eo : p.call.operation ≡ operation) (ea : p.call.arguments ≡ arguments) (ee : expiration ≡ p.call.expiration) where
    pub again_kept : (sent : Option ℕ) → record (kept_of version client_id (begun p.id (given_again key operation arguments expiration form) None)) { sent = sent } ≡ kept_of version client_id (record p { at = key; sent = sent; led = None })
    again_kept sent = λ i. kept_as (transmission_to version client_id p.id 1 key (record { object_key = p.call.object_key; operation = sym eo i; arguments = sym ea i; expiration = ee i; form = sym ef i })) sent None

    pub again_behind : request_behind (transmission_to version client_id p.id 1 key (given_again key operation arguments expiration form)) ≡ request_behind (transmission_to version client_id p.id 1 key p.call)
    again_behind = λ i. request_behind (transmission_to version client_id p.id 1 key (record { object_key = p.call.object_key; operation = sym eo i; arguments = sym ea i; expiration = ee i; form = sym ef i }))

    pub again_placed : keeps_place (transmission_to version client_id p.id 1 key (given_again key operation arguments expiration form)) ≡ keeps_place (transmission_to version client_id p.id 1 key p.call)
    again_placed = λ i. keeps_place (transmission_to version client_id p.id 1 key (record { object_key = p.call.object_key; operation = sym eo i; arguments = sym ea i; expiration = ee i; form = sym ef i }))

-- it is redirected
pub redirected_is : (m : Client) (key operation : List ℕ) (arguments : Values) (form : Form) (p : Pending) (o : Option Pending) → o ≡ Some p → p.call.form ≡ form → p.call.operation ≡ operation → p.call.arguments ≡ arguments → is_some p.led ≡ true
    → stands_in p.id m (given_again m.version m.client_id key operation arguments p.call.expiration form) ≡ true → fits p.id m (given_again m.version m.client_id key operation arguments p.call.expiration form) ≡ true → is_redirected key m o ≡ true
redirected_is m key operation arguments form p o is ef eo ea led placed short =
    let t = transmission_to m.version m.client_id p.id 1 key p.call in
    let place : keeps_place t ≡ true = sym (again_placed m.version m.client_id key operation arguments p.call.expiration form p ef eo ea refl) ∙ placed in
    let fit : nat_lt (length (request_behind t)) 4294967296 ≡ true = ap (λ xs. nat_lt (length xs) 4294967296) (sym (again_behind m.version m.client_id key operation arguments p.call.expiration form p ef eo ea refl)) ∙ short in
    ap (is_redirected key m) is ∙ (λ i. led i && (place i && fit i))

-- What it leaves as it is.

sent_asked_at : (id : ℤ) (key : List ℕ) (ps : List Pending) → sent_ids (asked_at id key ps) ≡ sent_ids ps
sent_asked_at id key [] = refl
sent_asked_at id key (p ∷ ps) =
    elim (int_eq (pos p.id) id) as (λ b. sent_ids (cond b (record p { at = key; led = None } ∷ ps) (p ∷ asked_at id key ps)) ≡ sent_ids (p ∷ ps)) [
      | true ↦ refl
      | false ↦ elim p.sent as (λ o. sent_ids (record p { sent = o } ∷ asked_at id key ps) ≡ sent_ids (record p { sent = o } ∷ ps)) [ None ↦ sent_asked_at id key ps | Some n ↦ ap (λ (js : List ℕ). n ∷ js) (sent_asked_at id key ps) ]
    ]

wished_asked_at : (id : ℤ) (key : List ℕ) (ps : List Pending) → AllByRecursion (λ p. is_unsettled p ≡ true) ps → AllByRecursion (λ p. is_unsettled p ≡ true) (asked_at id key ps)
wished_asked_at id key [] h = tt
wished_asked_at id key (p ∷ ps) h =
    elim (int_eq (pos p.id) id) as (λ b. AllByRecursion (λ p. is_unsettled p ≡ true) (cond b (record p { at = key; led = None } ∷ ps) (p ∷ asked_at id key ps)))
    [ true ↦ h | false ↦ (h.0, wished_asked_at id key ps h.1) ]

link_asked_at : (id : ℤ) (key : List ℕ) (o : Option ClientLinked) (m : Client) (l : Option Linked) → LinkFor o m l → LinkFor o (record m { pending = asked_at id key m.pending }) l
link_asked_at id key None m None h = sent_asked_at id key m.pending ∙ h
link_asked_at id key None m (Some l) h = absurd h
link_asked_at id key (Some link) m None h = absurd h
link_asked_at id key (Some link) m (Some l) h = record {
  ids = h.ids;
  stands = h.stands;
  going = h.going;
  ascending = h.ascending;
  same = λ r. h.same r ∙ ap (λ js. times r js) (sym (sent_asked_at id key m.pending));
  wished = wished_asked_at id key m.pending h.wished;
}

-- A call that was found by its number.

pub record FoundBy (z : ℤ) (c : FtClient) (m : Client) (place : ℕ) (d : CodePending) : Type 0 where
  pub call : Pending
  pub find : find_pending z m.pending ≡ Some call
  pub kept : kept_by d ≡ kept_of m.version m.client_id call
  pub within : place < length m.pending
  pub here : slice_index_or m.pending place nobody ≡ call
  pub holds : int_eq (pos (slice_index_or m.pending place nobody).id) z ≡ true
  pub before : (j : ℕ) → j < place → int_eq (pos (slice_index_or m.pending j nobody).id) z ≡ false
  pub number : pos call.id ≡ z

pub found_by : (z : ℤ) (c : FtClient) (m : Client) (place : ℕ) (d : CodePending) → FieldsStand c m → position (λ p. int_eq p.id z) c.pending.items ≡ Some place → d ≡ slice_index_or c.pending.items place d → FoundBy z c m place d
found_by z c m place d st e is =
    let qs = c.pending.items in
    let f = found_kept m.version m.client_id (λ k. int_eq k.id z) m.last qs m.pending place d e st.pending st.rising in
    let at = position-Some (λ p. int_eq p.id z) qs place d e in
    let n = same_length kept_by (kept_of m.version m.client_id) qs m.pending st.pending in
    let id : (j : ℕ) → j < length qs → (slice_index_or qs j d).id ≡ pos (slice_index_or m.pending j nobody).id = λ j lt. ap (λ (k : Kept). k.id) (at_both m.version m.client_id qs m.pending j d nobody st.pending lt) in
    let here = get_is m.pending place f.call nobody f.at in
    let holds : int_eq (pos (slice_index_or m.pending place nobody).id) z ≡ true = ap (λ y. int_eq y z) (sym (id place at.0)) ∙ at.1 in
    record {
      call = f.call;
      find = find_is z m.pending ∙ f.first;
      kept = ap kept_by is ∙ at_both m.version m.client_id qs m.pending place d nobody st.pending at.0 ∙ ap (kept_of m.version m.client_id) here;
      within = omega (arith, at.0, n);
      here = here;
      holds = holds;
      before = λ j lt. ap (λ y. int_eq y z) (sym (id j (omega (arith, lt, at.0)))) ∙ at.2 j lt;
      number = ap (λ (q : Pending). pos q.id) (sym here) ∙ (Decides-int_eq (pos (slice_index_or m.pending place nobody).id) z).0 holds;
    }

pub number_is : (z : ℤ) (c : FtClient) (m : Client) (place : ℕ) (d : CodePending) (n : ℕ) → (f : FoundBy z c m place d) → n ≡ nat_abs z → n ≡ f.call.id
number_is z c m place d n f is = is ∙ ap nat_abs (sym f.number)

pub is_led_by : (z : ℤ) (c : FtClient) (m : Client) (place : ℕ) (d : CodePending) (b : Bool) → (f : FoundBy z c m place d) → is_some d.led ≡ b → is_some f.call.led ≡ b
is_led_by z c m place d b f is = ap (λ (k : Kept). is_some k.led) (sym f.kept) ∙ sym (some_led d.led) ∙ is

-- why it is not redirected
pub write_error_led : (id : ℤ) (asked : ℕ → Call) (m : Client) (e : WriteError) → (e ≡ TooLong → IsFitting id asked m false) → is_led (find_pending id m.pending) ≡ true → IsRedirectError id asked m (redirect_error_of e)
write_error_led id asked m TooLong long led = long refl
write_error_led id asked m Memory long led = led

-- .. and is led elsewhere
pub led_at : (z : ℤ) (c : FtClient) (m : Client) (place : ℕ) (d : CodePending) (n : ℕ) → (f : FoundBy z c m place d) → FieldsStand c m → is_some d.led ≡ true → n ≡ nat_abs z → IsLedAt z c m place n
led_at z c m place d n f st led is = record {
  call = f.call;
  find = f.find;
  led = is_led_by z c m place d true f led;
  numbered = number_is z c m place d n f is;
  kept = λ x. at_both m.version m.client_id c.pending.items m.pending place x nobody st.pending (let n = same_length kept_by (kept_of m.version m.client_id) c.pending.items m.pending st.pending in let w = f.within in omega (arith, n, w)) ∙ ap (kept_of m.version m.client_id) f.here;
  put = λ key anew k e. anew_set m.version m.client_id z key anew place k c.pending.items m.pending nobody f.within f.holds f.before (e ∙ ap (λ (q : Pending). kept_of m.version m.client_id (record q { call = anew q.call; at = key; led = None })) (sym f.here)) st.pending;
}

-- one by which it is itself is that which was asked
same_asked : (id : ℤ) (key : List ℕ) (ps : List Pending) → asked_anew id key (λ c. c) ps ≡ asked_at id key ps
same_asked id key [] = refl
same_asked id key (p ∷ ps) = ap (λ rest. cond (int_eq (pos p.id) id) (record p { at = key; led = None } ∷ ps) (p ∷ rest)) (same_asked id key ps)

-- the calls, with what is kept of it now
pub redirected_kept : (z : ℤ) (c : FtClient) (m : Client) (place : ℕ) (d : CodePending) (k : Kept) (version : Version) (client_id : List ℕ) (number : ℕ) (key operation : List ℕ) (arguments : Values) (form : Form)
    → (f : IsLedAt z c m place number) → kept_by d ≡ kept_of m.version m.client_id f.call → version ≡ m.version → client_id ≡ m.client_id → f.call.call.form ≡ form → f.call.call.operation ≡ operation → f.call.call.arguments ≡ arguments
    → k ≡ record (kept_of version client_id (begun number (given_again version client_id key operation arguments d.expiration form) None)) { sent = d.sent }
    → slice_set (map kept_by c.pending.items) place k ≡ map (kept_of m.version m.client_id) (asked_at z key m.pending)
redirected_kept z c m place d k version client_id number key operation arguments form f was ev ei ef eo ea is =
    let expiration : d.expiration ≡ f.call.call.expiration = ap (λ (x : Kept). x.expiration) was in
    let sent : d.sent ≡ f.call.sent = ap (λ (x : Kept). x.sent) was in
    f.put key (λ c. c) k
    (is
    ∙ (λ i. record (kept_of (ev i) (ei i) (begun (f.numbered i) (given_again version client_id key operation arguments d.expiration form) None)) { sent = d.sent })
    ∙ again_kept m.version m.client_id key operation arguments d.expiration form f.call ef eo ea expiration d.sent
    ∙ ap (λ o. kept_of m.version m.client_id (record f.call { at = key; sent = o; led = None })) sent)
    ∙ ap (map (kept_of m.version m.client_id)) (same_asked z key m.pending)

-- a client afterwards
pub redirected_stands : (c d : FtClient) (m : Client) (id : ℤ) (key : List ℕ) (o : Option Pending) → is_redirected key m o ≡ true → FtStands c m
    → d.client_id.items ≡ c.client_id.items → d.version ≡ c.version → d.limits ≡ c.limits → d.last ≡ c.last → d.completions.items ≡ c.completions.items → d.link ≡ c.link → d.keeps_transient ≡ c.keeps_transient → d.keeps_forwards ≡ c.keeps_forwards
    → map kept_by d.pending.items ≡ map (kept_of m.version m.client_id) (asked_at id key m.pending) → FtStands d (cond (is_redirected key m o) (record m { pending = asked_at id key m.pending }) m)
redirected_stands c d m id key o is st ei ev el en ec ek et ef kept =
    let f = st.fields in
    subst (λ b. FtStands d (cond b (record m { pending = asked_at id key m.pending }) m)) (sym is) (record {
      fields = record {
        client_id = ei ∙ f.client_id;
        version = ev ∙ f.version;
        limits = el ∙ f.limits;
        last = en ∙ f.last;
        pending = kept;
        completions = ap (λ cs. map completion_of cs) ec ∙ f.completions;
        rising = alike-rising m.last m.pending (asked_at id key m.pending) (alike-asked_at id key m.pending) f.rising;
        keeps = et ∙ f.keeps;
        forwards = ef ∙ f.forwards;
      };
      link = subst (λ x. LinkFor x (record m { pending = asked_at id key m.pending }) m.link) (sym ek) (link_asked_at id key c.link m m.link st.link);
    })
