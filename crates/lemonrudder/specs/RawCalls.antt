-- A raw call that a client makes, takes up again, or by which it redirects one: its body goes out as it came.
use Rattle.std.specs.Prelude.{◌≡◌, ◌⊎◌, ℕ, suc, ℤ, ◌<◌, true, false, List, [], ◌∷◌, length, map, take, Some, None, Result, Ok, Err, FitsSigned}
use Rattle.std.specs.Borrow.{Bor}
use Rattle.std.specs.Int.{w32}
use Rattle.std.proofs.Common.{Vec, Global}
use Rattle.cdr_core.specs.declared.fault.Fault.{Fault}
use Rattle.cdr_core.specs.declared.order.Order.{Order}
use Rattle.cdr_core.specs.Cursor.{Position}
use Rattle.cdr_core.specs.Parts.{most}
use Rattle.cdr_core.specs.Reading.{each_at, length_at, value_at}
use Rattle.cdr_core.specs.Spelling.{IsClean, Spells}
use Rattle.cdr_core.specs.Stopping.{Stops}
use Rattle.cdr_core.specs.Value.{values}
use Rattle.ior_core.specs.Grammar.{tagged}
use Rattle.ior_core.specs.View.{lent_value}
use Rattle.giop_core.specs.declared.header.Version.{Version}
use Rattle.giop_core.specs.declared.request.ReplyWish.{ReplyWish}
use Rattle.giop_core.specs.declared.request.ReplyWish.TheVariants as wish
use Rattle.giop_core.specs.Items.{item_at, list_value}
use Rattle.giop_core.specs.Rows.{contexts}
use Rattle.giop_core.specs.Written.{CanAsk, octets_body}
use Rattle.ft_client.specs.declared.error.RawCallError.{RawCallError}
use Rattle.ft_client.specs.declared.error.RawRecallError.{RawRecallError}
use Rattle.ft_client.specs.declared.error.RawRedirectError.{RawRedirectError}
use Rattle.ft_client.specs.Calling.{IsFitting, IsRawCallError, IsRawRecallError, IsRawRedirectError}
use Rattle.ft_client.specs.Clients.{Called, Client, Pending, Redirected, Resumed, find_pending, is_resumed, is_taken}
use Rattle.ft_client.specs.Messages.{Call, Raw, is_oneway, raw}
use Rattle.ft_client.specs.Redirections.{asked_anew, in_place_of}
use Rattle.lemonrudder.specs.declared.calling.Calling.{Calling}
use Rattle.lemonrudder.specs.declared.calling.raw.RawManner.{RawManner}
use Rattle.lemonrudder.specs.declared.calling.raw.RawQuestion.{RawQuestion as QuestionOfCode}
use Rattle.lemonrudder.specs.declared.refusal.Refusal.{Refusal}
use Rattle.lemonrudder.specs.declared.refusal.Refusal.TheVariants as refusal
use Rattle.lemonrudder.specs.Calls.{Standing, Stands, Stays, happened}
use Rattle.lemonrudder.specs.Naming.{call_numbered, order_named, wish_named}
use Rattle.lemonrudder.specs.Refusals.{refusal_of_fault, refusal_of_raw_calling, refusal_of_raw_recalling, refusal_of_raw_redirecting}

-- what a raw call asks, as C says it: its wish and its order by number, its service contexts and its body as octets
pub record RawQuestion : Type 0 where
  pub wish : ℕ
  pub key : List ℕ
  pub operation : List ℕ
  pub order : ℕ
  pub contexts : List ℕ
  pub body : List ℕ

abbrev pub raw_question : (wish : ℕ) → (key operation : List ℕ) → (order : ℕ) → (contexts body : List ℕ) → RawQuestion
raw_question wish key operation order contexts body = record { wish = wish; key = key; operation = operation; order = order; contexts = contexts; body = body }

abbrev pub raw_question_of : QuestionOfCode → RawQuestion
raw_question_of q = raw_question q.wish q.key.now q.operation.now q.order q.contexts.now q.body.now

-- IOP 7.7: no octets are no service contexts, and any others are a ServiceContextList in CDR, aligned from place 0
abbrev pub AreContexts : Order → List (ℕ × List ℕ) → List ℕ → Type 0
AreContexts order all [] = all ≡ []
AreContexts order all (octet ∷ octets) = Spells contexts order (list_value all) 0 (octet ∷ octets)

-- .. or have a fault, or a list is in front of some that are left over
abbrev pub AreNoContexts : Order → List ℕ → Refusal → Type 0
AreNoContexts order [] e = ⊥
AreNoContexts order (octet ∷ octets) e =
    ((f : Fault) × (e ≡ refusal_of_fault f) × Stops contexts order 0 (octet ∷ octets) f)
    ⊎ ((all : List (ℕ × List ℕ)) × (n : ℕ) × (e ≡ refusal.Value) × (n < length (octet ∷ octets)) × Spells contexts order (list_value all) 0 (take n (octet ∷ octets)))

-- .. or are some, for which memory is short
abbrev pub IsShortFor : Order → List ℕ → Refusal → Type 0
IsShortFor order octets e = (e ≡ refusal.Memory) × (all : List (ℕ × List ℕ)) × AreContexts order all octets × (0 < length all)

-- octets are read as service contexts; or they are none, or memory is short
abbrev pub ReadsContexts : Order → List ℕ → Result (Vec (ℕ × Bor (List ℕ)) Global) Refusal → Type 0
ReadsContexts order octets (Ok v) = AreContexts order (map item_at v.items) octets
ReadsContexts order octets (Err e) = AreNoContexts order octets e ⊎ IsShortFor order octets e

-- the order and the wish that its numbers name, of which a client of this version can ask
abbrev pub IsNamed : Version → RawQuestion → Order → ReplyWish → Type 0
IsNamed version q order wish = (order_named q.order ≡ Some order) × (wish_named q.wish ≡ Some wish) × CanAsk version wish

-- how a raw call goes out in this version: so, with these service contexts, and a body for a place divisible by 8
abbrev pub IsRaw : Version → RawQuestion → Raw → Type 0
IsRaw version q r = (r.version ≡ version) × IsNamed version q r.order r.wish × AreContexts r.order r.contexts q.contexts × (r.place ≡ 0)

-- .. where its operation may be asked for
abbrev pub IsRawAsked : Version → RawQuestion → Raw → Type 0
IsRawAsked version q r = IsRaw version q r × IsClean q.operation

-- the raw call that goes out so, until a moment
abbrev pub raw_asked : RawQuestion → Raw → (expiration : ℕ) → Call
raw_asked q r expiration = record { object_key = q.key; operation = q.operation; arguments = octets_body q.body; form = raw r; expiration = expiration }

-- nothing of such an order and wish can be asked in this version; or the operation has a NUL
abbrev pub IsMisasked : Version → RawQuestion → Refusal → Type 0
IsMisasked version q e = ((e ≡ refusal.Range) × ((order : Order) (wish : ReplyWish) → ¬ (IsNamed version q order wish)))
    ⊎ ((e ≡ refusal.Text) × (order : Order) × (wish : ReplyWish) × IsNamed version q order wish × (¬ (IsClean q.operation)))

-- why nothing can be asked so in this version: that, or its octets are no service contexts, or memory is short for those
abbrev pub IsWhyUnaskedRaw : Version → RawQuestion → Refusal → Type 0
IsWhyUnaskedRaw version q e = IsMisasked version q e
    ⊎ ((order : Order) × (wish : ReplyWish) × IsNamed version q order wish × IsClean q.operation × (AreNoContexts order q.contexts e ⊎ IsShortFor order q.contexts e))

-- why a raw call is not made by a client: it can't be asked, or the client does not take it
abbrev pub IsWhyNotRaw : (now expiration : ℕ) → RawQuestion → Client → Refusal → Type 0
IsWhyNotRaw now expiration q m e = IsWhyUnaskedRaw m.version q e
    ⊎ ((r : Raw) × IsRawAsked m.version q r × (f : RawCallError) × (e ≡ refusal_of_raw_calling f) × IsRawCallError now (raw_asked q r expiration) m f)

-- a raw call is made with the next number, and sent where the client is connected; or it is not, and nothing has changed
abbrev pub OnCallRaw : (now expiration : ℕ) → RawQuestion → Calling → Calling → Result ℕ Refusal → Type 0
OnCallRaw now expiration q s t (Ok n) = (x : Standing) → Stands s x → (r : Raw) × IsRawAsked x.client.version q r
    × (n ≡ suc x.client.last) × (is_taken now (raw_asked q r expiration) x.client ≡ true) × Stands t (happened (Called now (raw_asked q r expiration)) x)
OnCallRaw now expiration q s t (Err e) = Stays s t × ((x : Standing) → Stands s x → IsWhyNotRaw now expiration q x.client e)

-- why a raw call of before is not taken up again by a client, the first that holds: its number is none, it can't be asked, or the client does
-- not take it
abbrev pub IsWhyUnresumedRaw : (call : ℤ) → (now expiration : ℕ) → RawQuestion → Client → Refusal → Type 0
IsWhyUnresumedRaw call now expiration q m e = ((e ≡ refusal.Range) × (call_numbered call ≡ None))
    ⊎ ((id : ℕ) × (call_numbered call ≡ Some id) × (IsWhyUnaskedRaw m.version q e
    ⊎ ((r : Raw) × IsRawAsked m.version q r × (f : RawRecallError) × (e ≡ refusal_of_raw_recalling f) × IsRawRecallError now id (raw_asked q r expiration) m f)))

-- a raw call of before is taken up again under its number, and sent where the client is connected; or it is not, and nothing has changed
abbrev pub OnRecallRaw : (call : ℤ) → (now expiration : ℕ) → RawQuestion → Calling → Calling → Result ℕ Refusal → Type 0
OnRecallRaw call now expiration q s t (Ok n) = (n ≡ 0) × (id : ℕ) × (call_numbered call ≡ Some id)
    × ((x : Standing) → Stands s x → (r : Raw) × IsRawAsked x.client.version q r
    × (is_resumed now id (raw_asked q r expiration) x.client ≡ true) × Stands t (happened (Resumed now id (raw_asked q r expiration)) x))
OnRecallRaw call now expiration q s t (Err e) = Stays s t × ((x : Standing) → Stands s x → IsWhyUnresumedRaw call now expiration q x.client e)

-- A call that is led elsewhere is asked for under another key, by a raw call that wishes for a reply. This is what it asks from now on,
-- whatever it asked before; where it asked the same, it is that call.
pub record RedirectsRaw (call : ℤ) (q : RawQuestion) (r : Raw) (x : Standing) (t : Calling) : Type 0 where
  pub asked : IsRawAsked x.client.version q r
  pub replied : is_oneway r.wish ≡ false
  pub fitting : IsFitting call (raw_asked q r) x.client true
  pub anew : Stands t (record x { client = record x.client { pending = asked_anew call q.key (in_place_of q.operation (octets_body q.body) (raw r)) x.client.pending } })
  pub same : (p : Pending) → find_pending call x.client.pending ≡ Some p → p.call.form ≡ raw r → p.call.operation ≡ q.operation → p.call.arguments ≡ octets_body q.body → Stands t (happened (Redirected call q.key) x)

-- why a call is not redirected by a raw one, the first that holds: its number is none of 32 bits, or no reply is wished for; it can't be asked;
-- or the client does not redirect it
abbrev pub IsWhyUnledRaw : (call : ℤ) → RawQuestion → Client → Refusal → Type 0
IsWhyUnledRaw call q m e = ((e ≡ refusal.Range) × ((¬ (FitsSigned w32 call)) ⊎ (wish_named q.wish ≡ Some wish.None)))
    ⊎ (FitsSigned w32 call × (¬ (wish_named q.wish ≡ Some wish.None)) × (IsWhyUnaskedRaw m.version q e
    ⊎ ((r : Raw) × IsRawAsked m.version q r × (is_oneway r.wish ≡ false) × (f : RawRedirectError) × (e ≡ refusal_of_raw_redirecting f) × IsRawRedirectError call (raw_asked q r) m f)))

abbrev pub OnRedirectRaw : (call : ℤ) → RawQuestion → Calling → Calling → Result ℕ Refusal → Type 0
OnRedirectRaw call q s t (Ok n) = (n ≡ 0) × ((x : Standing) → Stands s x → (r : Raw) × RedirectsRaw call q r x t)
OnRedirectRaw call q s t (Err e) = Stays s t × ((x : Standing) → Stands s x → IsWhyUnledRaw call q x.client e)

-- Words of private functions.

-- so many service contexts are passed over; or one has a fault
abbrev pub PassesOver : ℕ → Result (Unit {0}) Fault → Position → Position → Type 0
PassesOver n (Ok x) old new = (xs : List (ℕ × Bor (List ℕ))) × (length xs ≡ n) × (each_at (value_at tagged old.order) n old.place old.rest ≡ Ok (values (map lent_value xs), new.place, new.rest))
PassesOver n (Err f) old new = each_at (value_at tagged old.order) n old.place old.rest ≡ Err f

-- octets are service contexts, as many as their count says; or they are none
abbrev pub AreJudged : Order → List ℕ → Result (Unit {0}) Refusal → Type 0
AreJudged order octets (Ok x) = (n : ℕ) × (q : ℕ) × (more : List ℕ) × (xs : List (ℕ × Bor (List ℕ))) × (p : ℕ) × (length_at order 0 most 0 octets ≡ Ok (n, q, more)) × (length xs ≡ n)
    × (each_at (value_at tagged order) n q more ≡ Ok (values (map lent_value xs), p, []))
AreJudged order octets (Err e) = AreNoContexts order octets e

-- how a raw call goes out that is asked in a manner, with service contexts
abbrev pub raw_in : RawManner → List (ℕ × List ℕ) → Raw
raw_in m all = record { version = m.version; order = m.order; wish = m.wish; contexts = all; place = 0 }

-- a manner in which it can be asked; or why there is none
abbrev pub IsRawManner : Version → RawQuestion → Result RawManner Refusal → Type 0
IsRawManner version q (Ok m) = (m.version ≡ version) × IsNamed version q m.order m.wish × IsClean q.operation
IsRawManner version q (Err e) = IsMisasked version q e
