-- A call that a client makes.
use Rattle.std.specs.Prelude.{◌≡◌, ◌⊎◌, ℕ, suc, true, List, Some, None, Result, Ok, Err}
use Rattle.cdr_core.specs.declared.order.Order.{Order}
use Rattle.cdr_core.specs.Form.{Forms}
use Rattle.cdr_core.specs.Spelling.{IsClean, SpellsMembers}
use Rattle.cdr_core.specs.Value.{Values}
use Rattle.cdr_core.specs.Writing.{AreWritable}
use Rattle.ft_client.specs.declared.error.CallError.{CallError}
use Rattle.ft_client.specs.Calling.{IsCallError}
use Rattle.ft_client.specs.Clients.{Called, is_taken}
use Rattle.ft_client.specs.Messages.{Call, typed}
use Rattle.lemonrudder.specs.declared.calling.Calling.{Calling}
use Rattle.lemonrudder.specs.declared.calling.Question.{Question as QuestionOfCode}
use Rattle.lemonrudder.specs.declared.refusal.Refusal.{Refusal}
use Rattle.lemonrudder.specs.declared.refusal.Refusal.TheVariants as refusal
use Rattle.lemonrudder.specs.Calls.{Standing, Stands, Stays, happened}
use Rattle.lemonrudder.specs.Codes.{BeginTypes, SpellNone}
use Rattle.lemonrudder.specs.Declares.{Spell}
use Rattle.lemonrudder.specs.Naming.{order_named}
use Rattle.lemonrudder.specs.Refusals.{refusal_of_calling}
use Rattle.lemonrudder.specs.Spelled.{IsWhyUnread}

-- what a call asks, as C says it
pub record Question : Type 0 where
  pub key : List ℕ
  pub operation : List ℕ
  pub types : List ℕ
  pub order : ℕ
  pub arguments : List ℕ

abbrev pub question : (key operation types : List ℕ) → (order : ℕ) → (arguments : List ℕ) → Question
question key operation types order arguments = record { key = key; operation = operation; types = types; order = order; arguments = arguments }

abbrev pub question_of : QuestionOfCode → Question
question_of q = question q.key.now q.operation.now q.types.now q.order q.arguments.now

-- the types that its codes spell, and the order that its number names
abbrev pub IsTyped : Question → Forms → Order → Type 0
IsTyped q types order = Spell types q.types × (order_named q.order ≡ Some order)

-- its octets are these arguments
abbrev pub AreArguments : Question → Values → Type 0
AreArguments q vs = (types : Forms) × (order : Order) × IsTyped q types order × SpellsMembers types order vs 0 q.arguments

-- its octets are not read as arguments
abbrev pub AreNoArguments : Question → Refusal → Type 0
AreNoArguments q e = (types : Forms) × (order : Order) × IsTyped q types order × IsWhyUnread types order q.arguments e

-- .. and they and the operation may be asked for
abbrev pub AreAsked : Question → Values → Type 0
AreAsked q vs = AreArguments q vs × IsClean q.operation

-- the call of these arguments, until a moment
abbrev pub asked : Question → Values → (expiration : ℕ) → Call
asked q vs expiration = record { object_key = q.key; operation = q.operation; arguments = vs; form = typed; expiration = expiration }

-- why nothing can be asked so
abbrev pub IsWhyUnasked : Question → Refusal → Type 0
IsWhyUnasked q refusal.Types = SpellNone q.types
IsWhyUnasked q refusal.Range = (types : Forms) × Spell types q.types × (order_named q.order ≡ None)
IsWhyUnasked q refusal.Short = AreNoArguments q refusal.Short
IsWhyUnasked q refusal.Value = AreNoArguments q refusal.Value
IsWhyUnasked q refusal.Text = (vs : Values) × AreArguments q vs × (¬ (IsClean q.operation))
IsWhyUnasked q refusal.Long = (vs : Values) × AreAsked q vs × (¬ (AreWritable vs))
IsWhyUnasked q refusal.Memory = BeginTypes q.types ⊎ AreNoArguments q refusal.Memory
IsWhyUnasked q e = ⊥

-- why a call is not made: it can't be asked, or the client does not take it
abbrev pub IsWhyNot : (now expiration : ℕ) → Question → Calling → Refusal → Type 0
IsWhyNot now expiration q s e = IsWhyUnasked q e
    ⊎ ((vs : Values) × AreAsked q vs × (f : CallError) × (e ≡ refusal_of_calling f) × ((x : Standing) → Stands s x → IsCallError now (asked q vs expiration) x.client f))

-- a call is made with the next number, and sent where the client is connected; or it is not, and nothing has changed
abbrev pub OnCall : (now expiration : ℕ) → Question → Calling → Calling → Result ℕ Refusal → Type 0
OnCall now expiration q s t (Ok n) = (vs : Values) × AreAsked q vs
    × ((x : Standing) → Stands s x → (n ≡ suc x.client.last) × (is_taken now (asked q vs expiration) x.client ≡ true) × Stands t (happened (Called now (asked q vs expiration)) x))
OnCall now expiration q s t (Err e) = Stays s t × IsWhyNot now expiration q s e
