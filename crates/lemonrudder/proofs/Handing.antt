-- What comes of an outcome: by what waits, by the octets that are read, and by the numbers that name its parts.
use Rattle.std.proofs.Common.{◌≡◌, ◌==◌, ◌∙◌, ◌↔◌, ◌⊎◌, ◌+◌, ◌*◌, ◌/◌, ◌<◌, ◌≤◌, if◌then◌else◌, Bool, true, false, ℕ, List, [], ◌∷◌, ◌++◌, length, length-append, Option, Some, None, IsSome, IsTrue, Result, Ok, Err, Bor, Vec, Global, map, inl, inr, ap, refl, subst, sym, arith}
use Rattle.std.specs.Result.{IfOk}
use Rattle.std.proofs.lemmas.Bool.{cases_lt}
use Rattle.cdr_core.specs.declared.order.Order.{Order}
use Rattle.cdr_core.specs.declared.values.Val.{Val}
use Rattle.cdr_core.specs.Form.{Forms}
use Rattle.cdr_core.specs.Spelling.{SpellsMembers}
use Rattle.cdr_core.specs.Value as value
use Rattle.cdr_core.specs.Value.{Values}
use Rattle.cdr_core.specs.View.{values_of}
use Rattle.cdr_core.specs.Writing.{AreWritable, number_octets, octets_of, octets_of_all}
use Rattle.cdr_core.proofs.Lengths.{number_length}
use Rattle.giop_core.specs.Written.{exception_body}
use Rattle.giop_core.proofs.OctetsBody.{body_length}
use Rattle.ft_log.specs.declared.outcome.RawStatus.{RawStatus}
use Rattle.ft_log.specs.declared.outcome.RawStatus.TheVariants.{UserException}
use Rattle.ft_log.specs.Performed.{Performed, raw}
use Rattle.ft_orb.specs.Engines.{Awaited, CanAnswer, IsOpen, waits_in}
use Rattle.lemonrudder.specs.declared.refusal.Refusal.{Refusal}
use Rattle.lemonrudder.specs.declared.refusal.Refusal.TheVariants as refusal
use Rattle.lemonrudder.specs.declared.serving.Serving.{Serving}
use Rattle.lemonrudder.specs.declared.serving.questions.Found.{Found}
use Rattle.lemonrudder.specs.declared.serving.questions.Found.TheVariants as found
use Rattle.std.proofs.Math.Bool.{Bool-set}
use Rattle.lemonrudder.specs.Connected.{is_asked_there}
use Rattle.ft_objects.specs.Families.{families_offer}
use Rattle.ft_objects.specs.Catalogues.{Offer}
use Rattle.ft_objects.specs.Replies.{body_limit}
use Rattle.ft_orb.specs.declared.parked.Parked.{Parked}
use Rattle.ft_orb.specs.Parking.{CanSettle, parked_at, parked_in}
use Rattle.lemonrudder.specs.Beforehand.{ByNamed, OnReplyContexts, Says, TellsException, TellsIfCan}
use Rattle.lemonrudder.specs.Naming.{or_range, order_named}
use Rattle.lemonrudder.specs.Outcomes.{Answers, AnswersWith, AreRead, AreValuesOf, ByName, CanBe, HandsIn, IsBody, MayBeRaised, Raises, exception_octets, forgetting, outcome_read}
use Rattle.giop_core.specs.Items.{item_at}
use Rattle.lemonrudder.specs.declared.serving.replying.Said.{Said}
use Rattle.lemonrudder.specs.RawCalls.{AreNoContexts, IsShortFor}
use Rattle.lemonrudder.specs.Replying.{AreLent, AreSaid, Contexts, IsSaid, IsWhyUnsaid, left_for, said_for}
use Rattle.lemonrudder.specs.Serves.{ByFound, ByWaiting}
use Rattle.lemonrudder.specs.Spelled.{AreThose, AreValues}
use Rattle.lemonrudder.specs.Tickets.{named_by, ticket_of, waiting_by}
use Rattle.lemonrudder.proofs.Reaching.{members_reach}

-- a number names nothing
pub unnamed : {A : Type 0} (x : Option A) (e : Refusal) (s : Serving) (r : Result ℕ Refusal) (Does : A → Type 0) → or_range x ≡ Err e → r ≡ Err e → ByName x s s r Does
unnamed None e s r Does is said = let same : e ≡ refusal.Range = cc in (subst (λ y. r ≡ Err y) same said, refl)
unnamed (Some x) e s r Does is said = absurd cc

-- a number names this
pub named : {A : Type 0} (x : Option A) (y : A) (s t : Serving) (r : Result ℕ Refusal) (Does : A → Type 0) → or_range x ≡ Ok y → Does y → ByName x s t r Does
named None y s t r Does is holds = absurd cc
named (Some x) y s t r Does is holds = let same : y ≡ x = cc in subst Does same holds

waits_by : (b : Bool) (x w : Awaited) → (if b then Ok x else Err refusal.Ticket) ≡ Ok w → x ≡ w
waits_by true x w is = cc
waits_by false x w is = absurd cc

-- no request has the ticket
pub no_ticket : (x : Result Awaited Refusal) (e : Refusal) (s : Serving) (r : Result ℕ Refusal) (Does : Awaited → Type 0) → x ≡ Err e → r ≡ Err e → ByWaiting x s s r Does
no_ticket x e s r Does is said = subst (λ y. ByWaiting y s s r Does) (sym is) (said, refl)

-- this request has it
pub by_ticket : (x : Result Awaited Refusal) (w : Awaited) (s t : Serving) (r : Result ℕ Refusal) (Does : Awaited → Type 0) → x ≡ Ok w → Does w → ByWaiting x s t r Does
by_ticket x w s t r Does is holds = subst (λ y. ByWaiting y s t r Does) (sym is) holds

-- no request has the ticket, or what has it is parked while another waits
pub not_called : (x : Result (Found × Awaited) Refusal) (e : Refusal) (s : Serving) (r : Result ℕ Refusal) (Does : Found → Awaited → Type 0) → x ≡ Err e → r ≡ Err e → ByFound x s s r Does
not_called x e s r Does is said = subst (λ y. ByFound y s s r Does) (sym is) (said, refl)

-- this request has it
pub by_found : (x : Result (Found × Awaited) Refusal) (f : Found) (w : Awaited) (s t : Serving) (r : Result ℕ Refusal) (Does : Found → Awaited → Type 0) → x ≡ Ok (f, w) → Does f w → ByFound x s t r Does
by_found x f w s t r Does is holds = subst (λ y. ByFound y s t r Does) (sym is) holds

-- it waits
pub waits-are : (ticket : ℕ) (o : Option Awaited) (w : Awaited) → waiting_by ticket o ≡ Ok w → o ≡ Some w
waits-are ticket None w is = absurd cc
waits-are ticket (Some x) w is = ap Some (waits_by (ticket_of x.number == ticket) x w is)

pub open_by : (ticket : ℕ) (o : Option Awaited) (w : Awaited) → waiting_by ticket o ≡ Ok w → IsOpen w.number o
open_by ticket None w is = absurd cc
open_by ticket (Some x) w is = let same = waits_by (ticket_of x.number == ticket) x w is in ap (λ (v : Awaited). v.number) same

-- what was read and has no other fault
pub read-is : (types : Forms) (order : Order) (octets : List ℕ) (r : Result (Vec Val Global) Refusal) → AreValues types order octets → IfOk r (λ v. SpellsMembers types order (values_of v.items) 0 octets) → ((vs : Values) → SpellsMembers types order vs 0 octets → AreThose vs r)
    → AreRead (Some types) order octets (outcome_read r)
read-is types order octets (Ok v) are spelled only = (spelled, only)
read-is types order octets (Err refusal.Memory) are spelled only = inl (refl, are)
read-is types order octets (Err e) are spelled only = inr (refl, λ vs there. let same = only vs there in absurd cc)

pub read-none : (types : Option Forms) (order : Order) (octets : List ℕ) → types ≡ None → AreRead types order octets (Err refusal.Outcome)
read-none types order octets none = subst (λ ts. AreRead ts order octets (Err refusal.Outcome)) (sym none) refl

pub read-some : (types : Option Forms) (order : Order) (octets : List ℕ) (ts : Forms) (r : Result (Vec Val Global) Refusal) → types ≡ Some ts → AreRead (Some ts) order octets r → AreRead types order octets r
read-some types order octets ts r some read = subst (λ x. AreRead x order octets r) (sym some) read

-- members were not read, so there is no body of an exception of them
pub body-unread : (id : List ℕ) (types : Option Forms) (order : Order) (octets : List ℕ) (e : Refusal) → AreRead types order octets (Err e) → MayBeRaised id octets → IsBody id types order octets (Err e)
body-unread id None order octets e is may = is
body-unread id (Some types) order octets e (inl short) may = inl (short.0, short.1, may)
body-unread id (Some types) order octets e (inr (is, none)) may = inr (is, λ vs are. absurd (none vs are.0))

-- .. or they can't be written
pub body-unwritable : (id : List ℕ) (types : Option Forms) (order : Order) (octets : List ℕ) (v : Vec Val Global) → AreRead types order octets (Ok v) → ¬ (AreWritable (exception_body id (values_of v.items))) → IsBody id types order octets (Err refusal.Outcome)
body-unwritable id None order octets v is cannot = absurd is
body-unwritable id (Some types) order octets v is cannot = inr (refl, λ vs are. absurd (cannot (subst (λ us. AreWritable (exception_body id us)) (sym (is.1 vs are.0)) are.1)))

-- .. or memory is short for it
pub body-short : (id : List ℕ) (types : Option Forms) (order : Order) (octets : List ℕ) (v : Vec Val Global) → AreRead types order octets (Ok v) → MayBeRaised id octets → IsBody id types order octets (Err refusal.Memory)
body-short id None order octets v is may = absurd is
body-short id (Some types) order octets v is may = inl (refl, (values_of v.items, is.0), may)

-- what is longer than it may be
body_long : (id : List ℕ) (types : Forms) (order : Order) (octets : List ℕ) (vs : Values) → ¬ (MayBeRaised id octets) → SpellsMembers types order vs 0 octets → body_limit < length (exception_octets order id vs)
body_long id types order octets vs far spelled =
    let least = (length id + 5) / 8 * 8 + length octets in
    let name : List ℕ = number_octets order 4 0 (length id + 1) in
    let front : List ℕ = octets_of order (value.string id) 0 in
    let long : length front ≡ 5 + length id = omega (arith, number_length order 4 0 (length id + 1), length-append (name ++ id) (0 ∷ []), length-append name id) in
    let begins : 0 + 8 * ((length id + 5) / 8) ≤ 0 + length front = omega (arith, long) in
    let ends = members_reach types order ((length id + 5) / 8) vs 0 octets spelled (0 + length front) begins in
    elim (cases_lt body_limit least) [
      | inl over ↦ omega (arith, over, ends, length-append front (octets_of_all order vs (0 + length front)))
      | inr within ↦ absurd (far within)
    ]

pub body-long : (id : List ℕ) (types : Option Forms) (order : Order) (octets : List ℕ) → ¬ (MayBeRaised id octets) → IsBody id types order octets (Err refusal.Outcome)
body-long id None order octets far = refl
body-long id (Some types) order octets far = inr (refl, λ vs are. body_long id types order octets vs far are.0)

-- what is that long is no outcome
long_answer : (offer : Offer) (o : Option Awaited) (n : ℕ) (status : RawStatus) (order : Order) (octets : List ℕ) → CanAnswer offer o n (raw status order octets) → length octets ≤ body_limit
long_answer offer None n status order octets can = absurd can
long_answer offer (Some w) n status order octets can = omega (arith, can.1.1, body_length order octets 24)

long_settled : (offer : Offer) (o : Option Parked) (status : RawStatus) (order : Order) (octets : List ℕ) → CanSettle offer o (raw status order octets) → length octets ≤ body_limit
long_settled offer None status order octets can = absurd can
long_settled offer (Some p) status order octets can = omega (arith, can.1.1, body_length order octets 24)

too_long : (f : Found) (status : RawStatus) (order : Order) (octets : List ℕ) (s : Serving) → body_limit < length octets → CanBe f (raw status order octets) s → ⊥
too_long (found.Waits n c) status order octets s long can = let most = long_answer (families_offer s.engine.offering.catalogue) (waits_in s.engine) n status order octets can in omega (arith, most, long)
too_long (found.Parked n) status order octets s long can = let most = long_settled (families_offer s.engine.offering.catalogue) (parked_at s.engine n) status order octets can in omega (arith, most, long)

pub body-is : (id : List ℕ) (types : Option Forms) (order : Order) (octets : List ℕ) (v : Vec Val Global) (body : Vec ℕ Global) → AreRead types order octets (Ok v) → AreWritable (exception_body id (values_of v.items)) → body.items ≡ exception_octets order id (values_of v.items)
    → IsBody id types order octets (Ok body)
body-is id None order octets v body is can written = absurd is
body-is id (Some types) order octets v body is can written = (values_of v.items, (is.0, can), (λ us are. is.1 us are.0), written)

-- there is no body of an exception
pub raises-none : (ticket : ℕ) (f : Found) (id : List ℕ) (types : Option Forms) (order : Order) (octets : List ℕ) (s : Serving) (e : Refusal) → IsBody id types order octets (Err e) → Raises ticket f id types order octets s s (Err e)
raises-none ticket f id None order octets s e is = (ap Err is, refl)
raises-none ticket f id (Some types) order octets s e (inl (short, are, may)) = let said : ◌≡◌ {A = Result ℕ Refusal} (Err e) (Err refusal.Memory) = ap Err short in (λ vs members. inl (may, (said, refl)), λ none. inl (are, may, (said, refl)))
raises-none ticket f id (Some types) order octets s e (inr (is, long)) =
    let said : ◌≡◌ {A = Result ℕ Refusal} (Err e) (Err refusal.Outcome) = ap Err is in
    (λ vs are. inr ((λ cannot. (said, refl)), λ can. absurd (too_long f UserException order (exception_octets order id vs) s (long vs are) can)), λ _. inr (said, refl))

-- there is one, which was handed in
pub raises-it : (ticket : ℕ) (f : Found) (id : List ℕ) (types : Option Forms) (order : Order) (octets : List ℕ) (s t : Serving) (r : Result ℕ Refusal) (body : Vec ℕ Global) → IsBody id types order octets (Ok body) → HandsIn ticket f 0 (raw UserException order body.items) s t r
    → Raises ticket f id types order octets s t r
raises-it ticket f id None order octets s t r body is handed = absurd is
raises-it ticket f id (Some types) order octets s t r body is handed =
    (λ vs are. inr (subst (λ os. HandsIn ticket f 0 (raw UserException order os) s t r) (is.3 ∙ ap (exception_octets order id) (is.2 vs are)) handed), λ none. absurd (none is.0 is.1))

-- the types of results, as they are lent
pub results-are : (o : Option Forms) (ts : Forms) (order : Order) (octets : List ℕ) (b : Bool) → o ≡ Some ts → IsTrue b ↔ AreValues ts order octets → IsTrue b ↔ AreValuesOf o order octets
results-are o ts order octets b some are = subst (λ x. IsTrue b ↔ AreValuesOf x order octets) (sym some) are

pub results-none : (o : Option Forms) (order : Order) (octets : List ℕ) → o ≡ None → ¬ (AreValuesOf o order octets)
results-none o order octets none are = subst (λ x. AreValuesOf x order octets) none are

-- what was said is lent, or it is there and memory is short for it
pub lent-said : (said other : Option Said) (r : Result (Vec (ℕ × Bor (List ℕ)) Global) Refusal) (v : Vec (ℕ × Bor (List ℕ)) Global) → said ≡ other → r ≡ Ok v → AreLent said r → AreSaid other (map item_at v.items)
lent-said said other r v is ok lent = subst (λ (o : Option Said). AreSaid o (map item_at v.items)) is (subst (λ x. AreLent said x) ok lent)

short-err : (said : Option Said) (e : Refusal) → AreLent said (Err e) → IsSome said
short-err None e lent = absurd lent
short-err (Some x) e lent = refl

pub short-said : (said : Option Said) (r : Result (Vec (ℕ × Bor (List ℕ)) Global) Refusal) → AreLent said r → ((v : Vec (ℕ × Bor (List ℕ)) Global) → r ≡ Ok v → ⊥) → IsSome said
short-said said (Ok v) lent never = absurd (never v refl)
short-said said (Err e) lent never = short-err said e lent

-- there is no body of an exception to be told
pub tells-none : (f : Found) (id : List ℕ) (types : Option Forms) (order : Order) (octets room : List ℕ) (s : Serving) (e : Refusal) → IsBody id types order octets (Err e) → TellsException f id types order octets room room s (Err e)
tells-none f id None order octets room s e is = (ap Err is, refl)
tells-none f id (Some types) order octets room s e (inl (short, are, may)) = inl (are, may, (ap Err short, refl))
tells-none f id (Some types) order octets room s e (inr (is, long)) =
    inr ((λ vs are. ((λ can. absurd (too_long f UserException order (exception_octets order id vs) s (long vs are) can)), λ cannot. (ap Err is, refl))), λ _. (ap Err is, refl))

-- .. or there is one
pub tells-it : (f : Found) (id : List ℕ) (types : Option Forms) (order : Order) (octets room new : List ℕ) (s : Serving) (r : Result ℕ Refusal) (body : Vec ℕ Global) → IsBody id types order octets (Ok body) → TellsIfCan f order body.items room new s r
    → TellsException f id types order octets room new s r
tells-it f id None order octets room new s r body is told = absurd is
tells-it f id (Some types) order octets room new s r body is told =
    inr ((λ vs are. subst (λ os. TellsIfCan f order os room new s r) (is.3 ∙ ap (exception_octets order id) (is.2 vs are)) told), λ none. absurd (none is.0 is.1))

-- why octets are not kept, of which there are some
some-octets : (octets : List ℕ) (b : Bool) → b ≡ (length octets == 0) → b ≡ false → 0 < length octets
some-octets [] b counts some = absurd cc
some-octets (octet ∷ octets) b counts some = omega arith

pub unsaid-by : (order : Order) (octets : List ℕ) (e : Refusal) (b : Bool) → b ≡ (length octets == 0) → b ≡ false → AreNoContexts order octets e ⊎ IsShortFor order octets e → IsWhyUnsaid order octets e
unsaid-by order octets e b counts some (inl none) = inl none
unsaid-by order octets e b counts some (inr short) = inr (short.0, some-octets octets b counts some, short.1, short.2)

-- octets are kept for a ticket, of which there are some
pub said-is : (ticket : ℕ) (order : Order) (octets : List ℕ) (x : Said) (b : Bool) → b ≡ (length octets == 0) → b ≡ false → x.ticket ≡ ticket → x.order ≡ order → x.octets.items ≡ octets → IsSaid ticket order octets (Some x)
said-is ticket order [] x b counts some named ordered kept = absurd cc
said-is ticket order (octet ∷ octets) x b counts some named ordered kept = (x, refl, named, ordered, kept)

-- service contexts are said
pub says-it : (ticket order : ℕ) (octets : List ℕ) (s t : Serving) (o : Order) (f : Found) (w : Awaited) → or_range (order_named order) ≡ Ok o → named_by ticket (waits_in s.engine) (parked_in s.engine) ≡ Ok (f, w) → Says ticket o octets s t (Ok 0) → OnReplyContexts ticket order octets s t (Ok 0)
says-it ticket order octets s t o f w is found says =
    named (order_named order) o s t (Ok 0) (λ x. ByNamed ticket s t (Ok 0) (λ g v. Says ticket x octets s t (Ok 0))) is
    (by_found (named_by ticket (waits_in s.engine) (parked_in s.engine)) f w s t (Ok 0) (λ g v. Says ticket o octets s t (Ok 0)) found says)

-- What is asked is there, however that is shown.

asked-same : (s : Serving) (a : IsTrue (is_asked_there s.connections s.engine)) → record s { asked = a } ≡ s
asked-same s a = ap (λ (q : IsTrue (is_asked_there s.connections s.engine)). record s { asked = q }) (Bool-set (is_asked_there s.connections s.engine) true a s.asked)

pub answers-asked : (f : Found) (n : ℕ) (p : Performed) (said : Contexts) (s t : Serving) (r : Result ℕ Refusal) (a : IsTrue (is_asked_there s.connections s.engine)) → Answers f n p said (record s { asked = a }) t r → Answers f n p said s t r
answers-asked f n p said s t r a answers = subst (λ (m : Serving). Answers f n p said m t r) (asked-same s a) answers

-- where nothing was said nothing is told with an outcome
pub answers-unsaid : (ticket : ℕ) (f : Found) (n : ℕ) (p : Performed) (s t : Serving) (r : Result ℕ Refusal) → s.setup.said ≡ None → Answers f n p [] s t r → AnswersWith ticket f n p s t r
answers-unsaid ticket f n p s t r none answers =
    let same : s ≡ forgetting ticket s = ap (λ (o : Option Said). record s { setup = record s.setup { said = o } }) (none ∙ sym (ap (left_for ticket) none)) in
    inr ([], subst (λ (o : Option Said). AreSaid (said_for ticket o) []) (sym none) refl, subst (λ (m : Serving). Answers f n p [] m t r) same answers)

-- what may be an outcome is so by the engine alone
pub can-same : (f : Found) (p : Performed) (s m : Serving) → m.engine ≡ s.engine → CanBe f p s → CanBe f p m
can-same (found.Waits n c) p s m is can = subst (λ e. CanAnswer (families_offer e.offering.catalogue) (waits_in e) n p) (sym is) can
can-same (found.Parked n) p s m is can = subst (λ e. CanSettle (families_offer e.offering.catalogue) (parked_at e n) p) (sym is) can
