-- Calls that a client makes, takes up again or redirects, in the words of what it stands for.
use Rattle.std.proofs.Common.{◌≡◌, ◌∙◌, ◌↔◌, inl, inr, ℕ, suc, ℤ, Bool, true, false, IsTrue, List, ◌++◌, Some, FitsSigned, Result, Ok, Err, Vec, Global, refl, subst, sym}
use Rattle.std.specs.Int.{w32}
use Rattle.std.proofs.lemmas.Bool.{false≢true}
use Rattle.cdr_core.specs.declared.fault.Kind.{Kind}
use Rattle.cdr_core.specs.declared.fault.Kind.TheVariants as fault
use Rattle.cdr_core.specs.declared.order.Order.{Order}
use Rattle.cdr_core.specs.declared.types.Ty.{Ty}
use Rattle.cdr_core.specs.declared.values.Val.{Val}
use Rattle.cdr_core.specs.Form.{Forms}
use Rattle.cdr_core.specs.Spelling.{SpellsMembers}
use Rattle.cdr_core.specs.View.{forms_of, values_of}
use Rattle.cdr_core.specs.Writing.{AreWritable}
use Rattle.ft_client.specs.declared.client.FtClient.{FtClient}
use Rattle.ft_client.specs.declared.error.CallError.{CallError}
use Rattle.ft_client.specs.declared.error.RecallError.{RecallError}
use Rattle.ft_client.specs.declared.error.RedirectError.{RedirectError}
use Rattle.ft_client.specs.Calling.{IsCallError, IsFitting, IsRecallError, IsRedirectError, call_of}
use Rattle.ft_client.specs.Clients.{Called, Client, Pending, Redirected, Resumed, after, find_pending, is_resumed, is_taken, says}
use Rattle.ft_client.specs.Directions.{stream}
use Rattle.ft_client.specs.Messages.{octets_said, typed}
use Rattle.ft_client.specs.Redirections.{asked_anew, in_place_of}
use Rattle.ft_client.specs.Standing.{FtStands, down}
use Rattle.lemonrudder.specs.declared.calling.Calling.{Calling}
use Rattle.lemonrudder.specs.declared.refusal.Refusal.{Refusal}
use Rattle.lemonrudder.specs.Calls.{Stays}
use Rattle.lemonrudder.specs.Declares.{Spell}
use Rattle.lemonrudder.specs.Invokes.{AreArguments, AreAsked, AreNoArguments, IsTyped, IsWhyUnasked, OnCall, Question, asked}
use Rattle.lemonrudder.specs.Naming.{call_numbered, or_range, order_named}
use Rattle.lemonrudder.specs.Refusals.{refusal_of_calling, refusal_of_fault, refusal_of_recalling, refusal_of_redirecting}
use Rattle.lemonrudder.specs.Resuming.{OnRecall, OnRedirect}
use Rattle.lemonrudder.specs.Spelled.{IsWhyUnread}
use Rattle.lemonrudder.proofs.Clients.{named_ok, stands_after, stands_silent}

-- the values that were read, as the code lends them
pub arguments_are : (q : Question) (ts lent : List Ty) (order : Order) (xs vs : List Val) → Spell (forms_of ts) q.types → ◌≡◌ {A = Result Order Refusal} (Ok order) (or_range (order_named q.order)) → lent ≡ ts → xs ≡ vs
    → SpellsMembers (forms_of lent) order (values_of vs) 0 q.arguments → AreArguments q (values_of xs)
arguments_are q ts lent order xs vs spell named types values spelled =
    let read : SpellsMembers (forms_of ts) order (values_of xs) 0 q.arguments =
    subst (λ zs. SpellsMembers (forms_of zs) order (values_of xs) 0 q.arguments) types (subst (λ zs. SpellsMembers (forms_of lent) order (values_of zs) 0 q.arguments) (sym values) spelled) in
    (forms_of ts, order, (spell, named_ok (order_named q.order) order named), read)

pub not_writable : (b : Bool) (xs : List Val) → (IsTrue b ↔ AreWritable (values_of xs)) → b ≡ false → ¬ (AreWritable (values_of xs))
not_writable b xs decides not = λ may. false≢true (sym not ∙ decides.1 may)

-- the values that can be asked for, as the code lends them
pub asked_are : (q : Question) (xs vs : List Val) → xs ≡ vs → AreAsked q (values_of vs) → AreAsked q (values_of xs)
asked_are q xs vs same are = subst (λ zs. AreAsked q (values_of zs)) (sym same) are

-- octets that are not read as arguments
kind_why : (q : Question) (k : Kind) (n : ℕ) → AreNoArguments q (refusal_of_fault (record { kind = k; at = n })) → IsWhyUnasked q (refusal_of_fault (record { kind = k; at = n }))
kind_why q fault.Short n why = why
kind_why q k n why = why

pub unread_why : (q : Question) (types : Forms) (order : Order) (e : Refusal) → IsTyped q types order → IsWhyUnread types order q.arguments e → IsWhyUnasked q e
unread_why q types order e of (inl why) = subst (IsWhyUnasked q) (sym why.1) (kind_why q why.0.kind why.0.at (types, order, of, inl (why.0, refl, why.2)))
unread_why q types order e of (inr (inl why)) = subst (IsWhyUnasked q) (sym why.2) (types, order, of, inr (inl (why.0, why.1, refl, why.3, why.4)))
unread_why q types order e of (inr (inr why)) = subst (IsWhyUnasked q) (sym why.0) (inr (types, order, of, inr (inr (refl, why.1))))

-- the client does not take it
pub client_refuses : (now expiration : ℕ) (q : Question) (s t : Calling) (xs : List Val) (f : CallError) (r : Result ℕ Refusal) → AreAsked q (values_of xs)
    → ((m : Client) → FtStands s.client m → IsCallError now (call_of q.key q.operation xs expiration) m f) → Stays s t → r ≡ Err (refusal_of_calling f) → OnCall now expiration q s t r
client_refuses now expiration q s t xs f r are why same gave = subst (λ x. OnCall now expiration q s t x) (sym gave) (same, inr (values_of xs, are, f, refl, λ x st. why x.client st.client))

-- it takes it
pub client_takes : (now expiration : ℕ) (q : Question) (s : Calling) (c : FtClient) (octets : Vec ℕ Global) (xs : List Val) (n : ℕ) → AreAsked q (values_of xs)
    → ((m : Client) → FtStands s.client m → n ≡ suc m.last)
    → ((m : Client) → FtStands s.client m → is_taken now (call_of q.key q.operation xs expiration) m ≡ true)
    → ((m : Client) → FtStands s.client m → FtStands c (after (down m.limits) (Called now (call_of q.key q.operation xs expiration)) m))
    → ((m : Client) → FtStands s.client m → octets.items ≡ s.due.octets.items ++ stream octets_said (says (Called now (call_of q.key q.operation xs expiration)) m))
    → OnCall now expiration q s (record s { client = c; due = record s.due { octets = octets } }) (Ok n)
client_takes now expiration q s c octets xs n are number taken stands out = (
  values_of xs,
  are,
  λ x st. (number x.client st.client, taken x.client st.client, stands_after (Called now (asked q (values_of xs) expiration)) s c octets x st (stands x.client st.client) (out x.client st.client)),
)

-- one of before is not taken up again
pub client_leaves : (call : ℤ) (now expiration : ℕ) (q : Question) (s t : Calling) (id : ℕ) (xs : List Val) (f : RecallError) (r : Result ℕ Refusal) → call_numbered call ≡ Some id → AreAsked q (values_of xs)
    → ((m : Client) → FtStands s.client m → IsRecallError now id (call_of q.key q.operation xs expiration) m f) → Stays s t → r ≡ Err (refusal_of_recalling f) → OnRecall call now expiration q s t r
client_leaves call now expiration q s t id xs f r number are why same gave =
    subst (λ x. OnRecall call now expiration q s t x) (sym gave) (same, inr (id, number, inr (values_of xs, are, f, refl, λ x st. why x.client st.client)))

-- .. where nothing can be asked so
pub client_unasked : (call : ℤ) (now expiration : ℕ) (q : Question) (s : Calling) (id : ℕ) (e : Refusal) (r : Result ℕ Refusal) → call_numbered call ≡ Some id → IsWhyUnasked q e → r ≡ Err e → OnRecall call now expiration q s s r
client_unasked call now expiration q s id e r number why gave = subst (λ x. OnRecall call now expiration q s s x) (sym gave) ((λ x st. st), inr (id, number, inl why))

-- it is taken up again
pub client_resumes : (call : ℤ) (now expiration : ℕ) (q : Question) (s : Calling) (c : FtClient) (octets : Vec ℕ Global) (id : ℕ) (xs : List Val) → call_numbered call ≡ Some id → AreAsked q (values_of xs)
    → ((m : Client) → FtStands s.client m → is_resumed now id (call_of q.key q.operation xs expiration) m ≡ true)
    → ((m : Client) → FtStands s.client m → FtStands c (after (down m.limits) (Resumed now id (call_of q.key q.operation xs expiration)) m))
    → ((m : Client) → FtStands s.client m → octets.items ≡ s.due.octets.items ++ stream octets_said (says (Resumed now id (call_of q.key q.operation xs expiration)) m))
    → OnRecall call now expiration q s (record s { client = c; due = record s.due { octets = octets } }) (Ok 0)
client_resumes call now expiration q s c octets id xs number are taken stands out = (
  refl,
  id,
  values_of xs,
  number,
  are,
  λ x st. (taken x.client st.client, stands_after (Resumed now id (asked q (values_of xs) expiration)) s c octets x st (stands x.client st.client) (out x.client st.client)),
)

-- a call is not redirected
pub client_unled : (call : ℤ) (q : Question) (s t : Calling) (xs : List Val) (f : RedirectError) (r : Result ℕ Refusal) → FitsSigned w32 call → AreAsked q (values_of xs)
    → ((m : Client) → FtStands s.client m → IsRedirectError call (call_of q.key q.operation xs) m f) → Stays s t → r ≡ Err (refusal_of_redirecting f) → OnRedirect call q s t r
client_unled call q s t xs f r fits are why same gave = subst (λ x. OnRedirect call q s t x) (sym gave) (same, inr (fits, inr (values_of xs, are, f, refl, λ x st. why x.client st.client)))

-- .. where nothing can be asked so
pub client_misled : (call : ℤ) (q : Question) (s : Calling) (e : Refusal) (r : Result ℕ Refusal) → FitsSigned w32 call → IsWhyUnasked q e → r ≡ Err e → OnRedirect call q s s r
client_misled call q s e r fits why gave = subst (λ x. OnRedirect call q s s x) (sym gave) ((λ x st. st), inr (fits, inl why))

-- it is
pub client_redirects : (call : ℤ) (q : Question) (s : Calling) (c : FtClient) (xs : List Val) → AreAsked q (values_of xs)
    → ((m : Client) → FtStands s.client m → IsFitting call (call_of q.key q.operation xs) m true)
    → ((m : Client) (p : Pending) → FtStands s.client m → find_pending call m.pending ≡ Some p → p.call.form ≡ typed → p.call.operation ≡ q.operation → p.call.arguments ≡ values_of xs
    → FtStands c (after (down m.limits) (Redirected call q.key) m))
    → ((m : Client) → FtStands s.client m → FtStands c (record m { pending = asked_anew call q.key (in_place_of q.operation (values_of xs) typed) m.pending }))
    → OnRedirect call q s (record s { client = c }) (Ok 0)
client_redirects call q s c xs are fitting stands anew = (
  refl,
  values_of xs,
  are,
  λ x st. record {
    fitting = fitting x.client st.client;
    anew = record { client = anew x.client st.client; placed = st.placed; due = st.due; last = st.last };
    same = λ p find form operation arguments. stands_silent s c x _ st (stands x.client p st.client find form operation arguments);
  },
)
