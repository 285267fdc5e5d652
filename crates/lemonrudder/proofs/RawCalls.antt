-- Raw calls that a client makes, takes up again or by which it redirects one, in the words of what it stands for.
use Rattle.std.proofs.Common.{◌≡◌, ◌∙◌, ◌⊎◌, inl, inr, ℕ, suc, ℤ, true, false, List, ◌++◌, Option, Some, FitsSigned, Result, Ok, Err, Vec, Global, refl, ap, subst, sym}
use Rattle.std.specs.Int.{w32}
use Rattle.giop_core.specs.declared.header.Version.{Version}
use Rattle.giop_core.specs.declared.request.ReplyWish.{ReplyWish}
use Rattle.giop_core.specs.declared.request.ReplyWish.TheVariants as wish
use Rattle.ft_client.specs.declared.client.FtClient.{FtClient}
use Rattle.ft_client.specs.declared.error.RawCallError.{RawCallError}
use Rattle.ft_client.specs.declared.error.RawRecallError.{RawRecallError}
use Rattle.ft_client.specs.declared.error.RawRedirectError.{RawRedirectError}
use Rattle.ft_client.specs.Calling.{IsFitting, IsRawCallError, IsRawRecallError, IsRawRedirectError}
use Rattle.ft_client.specs.Clients.{Called, Client, Pending, Redirected, Resumed, after, find_pending, is_resumed, is_taken, says}
use Rattle.ft_client.specs.Directions.{stream}
use Rattle.ft_client.specs.Messages.{Call, Raw, is_oneway, octets_said}
use Rattle.ft_client.specs.Redirections.{asked_anew, in_place_of}
use Rattle.ft_client.specs.Standing.{FtStands, down}
use Rattle.lemonrudder.specs.declared.calling.Calling.{Calling}
use Rattle.lemonrudder.specs.declared.calling.raw.RawManner.{RawManner}
use Rattle.lemonrudder.specs.declared.refusal.Refusal.{Refusal}
use Rattle.lemonrudder.specs.Calls.{Stays}
use Rattle.lemonrudder.specs.Naming.{call_numbered, wish_named}
use Rattle.lemonrudder.specs.RawCalls.{AreContexts, AreNoContexts, IsRawAsked, IsRawManner, IsShortFor, IsWhyUnaskedRaw, OnCallRaw, OnRecallRaw, OnRedirectRaw, RawQuestion, raw_asked, raw_in}
use Rattle.lemonrudder.specs.Refusals.{refusal_of_raw_calling, refusal_of_raw_recalling, refusal_of_raw_redirecting}
use Rattle.lemonrudder.proofs.Clients.{stands_after, stands_silent}

-- it is asked in the version of a client
pub raw_is : (version : Version) (q : RawQuestion) (m : RawManner) (all : List (ℕ × List ℕ)) → IsRawManner version q (Ok m) → AreContexts m.order all q.contexts → IsRawAsked version q (raw_in m all)
raw_is version q m all is are = ((is.0, is.1, are, refl), is.2)

-- its octets are no service contexts
pub no_contexts : (version : Version) (q : RawQuestion) (m : RawManner) (e : Refusal) → IsRawManner version q (Ok m) → AreNoContexts m.order q.contexts e ⊎ IsShortFor m.order q.contexts e → IsWhyUnaskedRaw version q e
no_contexts version q m e is why = inr (m.order, m.wish, is.1, is.2, why)

module _ (now expiration : ℕ) (q : RawQuestion) (s t : Calling) (version : Version) (own : (m : Client) → FtStands s.client m → version ≡ m.version) where
  -- it can't be asked
  pub call_misasked : (e : Refusal) (r : Result ℕ Refusal) → IsWhyUnaskedRaw version q e → Stays s t → r ≡ Err e → OnCallRaw now expiration q s t r
  call_misasked e r why same gave = subst (λ o. OnCallRaw now expiration q s t o) (sym gave) (same, λ x st. inl (subst (λ v. IsWhyUnaskedRaw v q e) (own x.client st.client) why))

  pub recall_misasked : (call : ℤ) (id : ℕ) (e : Refusal) (r : Result ℕ Refusal) → call_numbered call ≡ Some id → IsWhyUnaskedRaw version q e → Stays s t → r ≡ Err e → OnRecallRaw call now expiration q s t r
  recall_misasked call id e r number why same gave = subst (λ o. OnRecallRaw call now expiration q s t o) (sym gave) (same, λ x st. inr (id, number, inl (subst (λ v. IsWhyUnaskedRaw v q e) (own x.client st.client) why)))

  module _ (form : Raw) (are : IsRawAsked version q form) (asked : Call) (is : asked ≡ raw_asked q form expiration) where
    -- the client does not take it
    pub raw_refused : (f : RawCallError) (r : Result ℕ Refusal) → ((m : Client) → FtStands s.client m → IsRawCallError now asked m f) → Stays s t → r ≡ Err (refusal_of_raw_calling f) → OnCallRaw now expiration q s t r
    raw_refused f r why same gave = subst (λ o. OnCallRaw now expiration q s t o) (sym gave)
        (same, λ x st. inr (form, subst (λ v. IsRawAsked v q form) (own x.client st.client) are, f, refl, subst (λ c. IsRawCallError now c x.client f) is (why x.client st.client)))

    -- it is not taken up again
    pub raw_left : (call : ℤ) (id : ℕ) (f : RawRecallError) (r : Result ℕ Refusal) → call_numbered call ≡ Some id → ((m : Client) → FtStands s.client m → IsRawRecallError now id asked m f) → Stays s t → r ≡ Err (refusal_of_raw_recalling f)
        → OnRecallRaw call now expiration q s t r
    raw_left call id f r number why same gave = subst (λ o. OnRecallRaw call now expiration q s t o) (sym gave)
        (same, λ x st. inr (id, number, inr (form, subst (λ v. IsRawAsked v q form) (own x.client st.client) are, f, refl, subst (λ c. IsRawRecallError now id c x.client f) is (why x.client st.client))))

module _ (now expiration : ℕ) (q : RawQuestion) (s : Calling) (version : Version) (own : (m : Client) → FtStands s.client m → version ≡ m.version) (form : Raw) (are : IsRawAsked version q form) (asked : Call) (is : asked ≡ raw_asked q form expiration) where
  -- it is taken
  pub raw_taken : (c : FtClient) (octets : Vec ℕ Global) (n : ℕ) → ((m : Client) → FtStands s.client m → n ≡ suc m.last) → ((m : Client) → FtStands s.client m → is_taken now asked m ≡ true)
      → ((m : Client) → FtStands s.client m → FtStands c (after (down m.limits) (Called now asked) m)) → ((m : Client) → FtStands s.client m → octets.items ≡ s.due.octets.items ++ stream octets_said (says (Called now asked) m))
      → OnCallRaw now expiration q s (record s { client = c; due = record s.due { octets = octets } }) (Ok n)
  raw_taken c octets n number taken stands out = λ x st. (
    form,
    subst (λ v. IsRawAsked v q form) (own x.client st.client) are,
    number x.client st.client,
    ap (λ a. is_taken now a x.client) (sym is) ∙ taken x.client st.client,
    stands_after (Called now (raw_asked q form expiration)) s c octets x st (subst (λ a. FtStands c (after (down x.client.limits) (Called now a) x.client)) is (stands x.client st.client))
        (out x.client st.client ∙ ap (λ a. s.due.octets.items ++ stream octets_said (says (Called now a) x.client)) is),
  )

  -- it is taken up again
  pub raw_resumed : (call : ℤ) (id : ℕ) (c : FtClient) (octets : Vec ℕ Global) → call_numbered call ≡ Some id → ((m : Client) → FtStands s.client m → is_resumed now id asked m ≡ true)
      → ((m : Client) → FtStands s.client m → FtStands c (after (down m.limits) (Resumed now id asked) m)) → ((m : Client) → FtStands s.client m → octets.items ≡ s.due.octets.items ++ stream octets_said (says (Resumed now id asked) m))
      → OnRecallRaw call now expiration q s (record s { client = c; due = record s.due { octets = octets } }) (Ok 0)
  raw_resumed call id c octets number taken stands out = (
    refl,
    id,
    number,
    λ x st. (
      form,
      subst (λ v. IsRawAsked v q form) (own x.client st.client) are,
      ap (λ a. is_resumed now id a x.client) (sym is) ∙ taken x.client st.client,
      stands_after (Resumed now id (raw_asked q form expiration)) s c octets x st (subst (λ a. FtStands c (after (down x.client.limits) (Resumed now id a) x.client)) is (stands x.client st.client))
          (out x.client st.client ∙ ap (λ a. s.due.octets.items ++ stream octets_said (says (Resumed now id a) x.client)) is),
    ),
  )

-- no reply can be wished for by a wish that is not the one for none
pub has_reply : (w : ReplyWish) (o : Option ReplyWish) → o ≡ Some w → ¬ (o ≡ Some wish.None) → is_oneway w ≡ false
has_reply wish.None o is not = absurd (not is)
has_reply wish.Empty o is not = refl
has_reply wish.Full o is not = refl

-- what a client is that asks for a call under another key, by what is asked
pub record AsksAnew (call : ℤ) (c k : FtClient) (a : Call) : Type 0 where
  pub fitting : (m : Client) → FtStands c m → IsFitting call (λ e. record a { expiration = e }) m true
  pub same : (m : Client) (p : Pending) → FtStands c m → find_pending call m.pending ≡ Some p → p.call.form ≡ a.form → p.call.operation ≡ a.operation → p.call.arguments ≡ a.arguments
      → FtStands k (after (down m.limits) (Redirected call a.object_key) m)
  pub anew : (m : Client) → FtStands c m → FtStands k (record m { pending = asked_anew call a.object_key (in_place_of a.operation a.arguments a.form) m.pending })

module _ (call : ℤ) (q : RawQuestion) (s : Calling) (fits : FitsSigned w32 call) (wished : ¬ (wish_named q.wish ≡ Some wish.None)) (version : Version) (own : (m : Client) → FtStands s.client m → version ≡ m.version) where
  -- nothing can be asked in place of it
  pub redirect_misasked : (e : Refusal) (r : Result ℕ Refusal) → IsWhyUnaskedRaw version q e → r ≡ Err e → OnRedirectRaw call q s s r
  redirect_misasked e r why gave = subst (λ o. OnRedirectRaw call q s s o) (sym gave) (λ x st. st, λ x st. inr (fits, wished, inl (subst (λ v. IsWhyUnaskedRaw v q e) (own x.client st.client) why)))

  module _ (form : Raw) (are : IsRawAsked version q form) (replied : is_oneway form.wish ≡ false) (a : Call) (is : a ≡ raw_asked q form 0) where
    -- the client does not redirect it
    pub raw_unled : (t : Calling) (f : RawRedirectError) (r : Result ℕ Refusal) → ((m : Client) → FtStands s.client m → IsRawRedirectError call (λ e. record a { expiration = e }) m f) → Stays s t → r ≡ Err (refusal_of_raw_redirecting f)
        → OnRedirectRaw call q s t r
    raw_unled t f r why same gave = subst (λ o. OnRedirectRaw call q s t o) (sym gave)
        (same, λ x st. inr (fits, wished, inr (form, subst (λ v. IsRawAsked v q form) (own x.client st.client) are, replied, f, refl, subst (λ (b : Call). IsRawRedirectError call (λ e. record b { expiration = e }) x.client f) is (why x.client st.client))))

    -- it does
    pub raw_redirected : (k : FtClient) → AsksAnew call s.client k a → OnRedirectRaw call q s (record s { client = k }) (Ok 0)
    raw_redirected k given = let led = subst (AsksAnew call s.client k) is given in (
      refl,
      λ x st. (
        form,
        record {
          asked = subst (λ v. IsRawAsked v q form) (own x.client st.client) are;
          replied = replied;
          fitting = led.fitting x.client st.client;
          anew = record { client = led.anew x.client st.client; placed = st.placed; due = st.due; last = st.last };
          same = λ p find so operation arguments. stands_silent s k x _ st (led.same x.client p st.client find so operation arguments);
        },
      ),
    )
