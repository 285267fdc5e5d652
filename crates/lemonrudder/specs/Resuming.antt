-- Calls of a client that go on: those that are sent again, those of before, and those that are led elsewhere.
use Rattle.std.specs.Prelude.{◌≡◌, ◌≢◌, ◌⊎◌, ℕ, ℤ, true, List, [], FitsSigned, Option, Some, None, Result, Ok, Err}
use Rattle.std.specs.Int.{w32}
use Rattle.std.specs.Option.{option_map}
use Rattle.cdr_core.specs.Value.{Values}
use Rattle.giop_core.specs.Content.{Rest}
use Rattle.giop_core.specs.declared.reply.ReplyStatus.TheVariants.{LocationForward}
use Rattle.ft_client.specs.declared.error.RecallError.{RecallError}
use Rattle.ft_client.specs.declared.error.RedirectError.{RedirectError}
use Rattle.ft_client.specs.Calling.{IsFitting, IsRecallError, IsRedirectError}
use Rattle.ft_client.specs.Clients.{Happening, Pending, Redirected, Resent, Resumed, Skipped, Told, find_pending, first_led, is_resumed, parted, says}
use Rattle.ft_client.specs.Ends.{led_to}
use Rattle.ft_client.specs.Messages.{typed}
use Rattle.ft_client.specs.Redirections.{asked_anew, in_place_of}
use Rattle.lemonrudder.specs.declared.calling.Calling.{Calling}
use Rattle.lemonrudder.specs.declared.refusal.Refusal.{Refusal}
use Rattle.lemonrudder.specs.declared.refusal.Refusal.TheVariants as refusal
use Rattle.lemonrudder.specs.Calls.{Becomes, Standing, Stands, Stays, happened, head_of}
use Rattle.lemonrudder.specs.Invokes.{AreAsked, IsWhyUnasked, Question, asked}
use Rattle.lemonrudder.specs.Layouts.{laid, octets_of_completion}
use Rattle.lemonrudder.specs.Naming.{call_numbered}
use Rattle.lemonrudder.specs.Refusals.{filled, refusal_of_recalling, refusal_of_redirecting}

-- something happens to a client; or a number is none of those that are allowed, and nothing has changed
abbrev pub HappensIf : Option Happening → Calling → Calling → Result ℕ Refusal → Type 0
HappensIf None s t r = (r ≡ Err refusal.Range) × (t ≡ s)
HappensIf (Some h) s t r = (r ≡ Ok 0) × Becomes (happened h) s t

-- numbers up to one were given to calls of before
abbrev pub OnSkip : (call : ℤ) → Calling → Calling → Result ℕ Refusal → Type 0
OnSkip call s t r = HappensIf (option_map Skipped (call_numbered call)) s t r

-- what is due is sent on the connection that is there; or an allocation failed, which only a call that is to be sent needs, and
-- the connection is lost
abbrev pub OnResend : (now : ℕ) → Calling → Calling → Result ℕ Refusal → Type 0
OnResend now s t (Ok n) = (n ≡ 0) × Becomes (happened (Resent now)) s t
OnResend now s t (Err e) = (e ≡ refusal.Lost) × Becomes (λ x. record x { client = parted x.client }) s t × ((x : Standing) → Stands s x → says (Resent now) x.client ≢ [])

-- why a call of before is not taken up again, the first that holds: its number is none, it can't be asked, or the client does not take it
abbrev pub IsWhyUnresumed : (call : ℤ) → (now expiration : ℕ) → Question → Calling → Refusal → Type 0
IsWhyUnresumed call now expiration q s e = ((e ≡ refusal.Range) × (call_numbered call ≡ None))
    ⊎ ((id : ℕ) × (call_numbered call ≡ Some id) × (IsWhyUnasked q e
    ⊎ ((vs : Values) × AreAsked q vs
    × (f : RecallError) × (e ≡ refusal_of_recalling f) × ((x : Standing) → Stands s x → IsRecallError now id (asked q vs expiration) x.client f))))

-- a call of before is taken up again under its number, and sent where the client is connected; or it is not, and nothing has changed
abbrev pub OnRecall : (call : ℤ) → (now expiration : ℕ) → Question → Calling → Calling → Result ℕ Refusal → Type 0
OnRecall call now expiration q s t (Ok n) = (n ≡ 0) × (id : ℕ) × (vs : Values) × (call_numbered call ≡ Some id) × AreAsked q vs
    × ((x : Standing) → Stands s x → (is_resumed now id (asked q vs expiration) x.client ≡ true) × Stands t (happened (Resumed now id (asked q vs expiration)) x))
OnRecall call now expiration q s t (Err e) = Stays s t × IsWhyUnresumed call now expiration q s e

-- the call that is led elsewhere is told of as one that ended so, and the reference to which is copied, as much of each as its room has
abbrev pub LeadsTo : Option (ℤ × Rest) → (head new : List ℕ) → (room filled_room : List ℕ) → Result ℕ Refusal → Type 0
LeadsTo None head new room filled_room r = (r ≡ Ok 0) × (new ≡ head) × (filled_room ≡ room)
LeadsTo (Some l) head new room filled_room r = (r ≡ Ok 1) × (new ≡ laid (octets_of_completion (head_of l.0 (Told LocationForward l.1))) head) × (filled_room ≡ filled l.1.octets room)

-- the first call that is led elsewhere is asked for
abbrev pub OnForwarded : (head new : List ℕ) → (room filled_room : List ℕ) → Calling → Calling → Result ℕ Refusal → Type 0
OnForwarded head new room filled_room s t r = (t ≡ s) × ((x : Standing) → Stands s x → LeadsTo (led_to (first_led x.client.pending)) head new room filled_room r)

-- A call that is led elsewhere is asked for under another key. This is what it asks from now on, whatever it asked before; where it asked
-- the same, it is that call.
pub record Redirects (call : ℤ) (q : Question) (vs : Values) (x : Standing) (t : Calling) : Type 0 where
  pub fitting : IsFitting call (asked q vs) x.client true
  pub anew : Stands t (record x { client = record x.client { pending = asked_anew call q.key (in_place_of q.operation vs typed) x.client.pending } })
  pub same : (p : Pending) → find_pending call x.client.pending ≡ Some p → p.call.form ≡ typed → p.call.operation ≡ q.operation → p.call.arguments ≡ vs → Stands t (happened (Redirected call q.key) x)

-- why a call is not redirected, the first that holds: its number is none of 32 bits, it can't be asked, or the client does not redirect it
abbrev pub IsWhyUnled : (call : ℤ) → Question → Calling → Refusal → Type 0
IsWhyUnled call q s e = ((e ≡ refusal.Range) × (¬ (FitsSigned w32 call)))
    ⊎ (FitsSigned w32 call × (IsWhyUnasked q e
    ⊎ ((vs : Values) × AreAsked q vs × (f : RedirectError) × (e ≡ refusal_of_redirecting f) × ((x : Standing) → Stands s x → IsRedirectError call (asked q vs) x.client f))))

abbrev pub OnRedirect : (call : ℤ) → Question → Calling → Calling → Result ℕ Refusal → Type 0
OnRedirect call q s t (Ok n) = (n ≡ 0) × (vs : Values) × AreAsked q vs × ((x : Standing) → Stands s x → Redirects call q vs x t)
OnRedirect call q s t (Err e) = Stays s t × IsWhyUnled call q s e
