-- What waits is a request that came, and says what its question says.
use Rattle.std.proofs.Common.{◌≡◌, ◌∙◌, ℕ, Option, Some, None, option_map, ap, refl, sym}
use Rattle.std.proofs.lemmas.Option.{none-some}
use Rattle.giop_core.specs.declared.header.Version.{Version}
use Rattle.giop_core.specs.declared.request.Request.{Request}
use Rattle.giop_core.specs.Items.{contexts_left}
use Rattle.giop_core.specs.Lent.{addressed_by, rest_of}
use Rattle.giop_link.specs.declared.inbound.Inbound.{Inbound}
use Rattle.giop_link.specs.declared.inbound.Inbound.TheVariants as inbound
use Rattle.giop_link.specs.Hearing.{Meaning, Question, asks, question_in, says}
use Rattle.giop_link.specs.Linking.{meaning_at}
use Rattle.lemonrudder.specs.declared.request.RequestHead.{RequestHead}
use Rattle.lemonrudder.specs.Asking.{no_request}

pub never-none : (m : Option Inbound) (x : Meaning) → option_map meaning_at m ≡ Some x → m ≡ None → ⊥
never-none None x told is = none-some x told
never-none (Some i) x told is = none-some i (sym is)

-- what is reported of what is lent
told-some : (m : Option Inbound) (i : Inbound) (x : Meaning) → option_map meaning_at m ≡ Some x → m ≡ Some i → meaning_at i ≡ x
told-some m i x told is = let e : Some (meaning_at i) ≡ Some x = sym (ap (option_map meaning_at) is) ∙ told in cc

other : (i : Inbound) (q : Question) → meaning_at i ≡ says (asks q) → ((v : Version) (r : Request) → i ≡ inbound.Request v r → ⊥) → ⊥
other (inbound.Request v r) q e never = never v r refl
other (inbound.Locate v id target) q e never = cc
other (inbound.Cancelled id) q e never = cc
other inbound.PeerClosed q e never = cc
other inbound.PeerError q e never = cc

pub never-other : (m : Option Inbound) (i : Inbound) (q : Question) → option_map meaning_at m ≡ Some (says (asks q)) → m ≡ Some i → ((v : Version) (r : Request) → i ≡ inbound.Request v r → ⊥) → ⊥
never-other m i q told is never = other i q (told-some m i (says (asks q)) told is) never

-- the question of a request that is lent
abbrev pub question_of : Version → Request → Question
question_of v r = question_in v r.request_id r.reply (addressed_by r.target) r.operation.now (contexts_left r.contexts) (rest_of r.body)

pub question-is : (m : Option Inbound) (i : Inbound) (v : Version) (r : Request) (q : Question) → option_map meaning_at m ≡ Some (says (asks q)) → m ≡ Some i → i ≡ inbound.Request v r → question_of v r ≡ q
question-is m i v r q told is request =
    let e : says (asks (question_of v r)) ≡ says (asks q) = sym (ap meaning_at request) ∙ told-some m i (says (asks q)) told is in cc

-- a head with the ticket, the connection and the sizes of what waits
pub base-is : (n : RequestHead) (t c k o t' k' o' : ℕ) → n ≡ no_request → t ≡ t' → k ≡ k' → o ≡ o'
    → record n { ticket = t; connection = c; key_size = k; operation_size = o } ≡ record no_request { ticket = t'; connection = c; key_size = k'; operation_size = o' }
base-is n t c k o t' k' o' none ticket key name =
    ap (λ (x : RequestHead). record x { ticket = t; connection = c; key_size = k; operation_size = o }) none
    ∙ (ap (λ (x : ℕ). record no_request { ticket = x; connection = c; key_size = k; operation_size = o }) ticket
    ∙ (ap (λ (x : ℕ). record no_request { ticket = t'; connection = c; key_size = x; operation_size = o }) key ∙ ap (λ (x : ℕ). record no_request { ticket = t'; connection = c; key_size = k'; operation_size = x }) name))
