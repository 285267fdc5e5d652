-- What a call does that answers a request that waits or is parked.
use Rattle.std.specs.Prelude.{◌≡◌, ◌⊎◌, ℕ, ◌+◌, ◌*◌, ◌/◌, ◌<◌, ◌≤◌, Bool, false, not, bytes_eq, codes, if◌then◌else◌, List, [], ◌∷◌, ◌++◌, length, IsSome, Option, Some, None, option_map, Result, Ok, Err}
use Rattle.std.proofs.Common.{Bor, Vec, Global}
use Rattle.cdr_core.specs.declared.order.Order.{Order}
use Rattle.cdr_core.specs.declared.types.Ty.{Ty}
use Rattle.cdr_core.specs.declared.values.Val.{Val}
use Rattle.cdr_core.specs.Form.{Forms}
use Rattle.cdr_core.specs.Spelling.{SpellsMembers}
use Rattle.cdr_core.specs.Value as value
use Rattle.cdr_core.specs.Value.{Values, values}
use Rattle.cdr_core.specs.View.{forms_of, values_of}
use Rattle.cdr_core.specs.Writing.{AreWritable, octets_of_all}
use Rattle.giop_core.specs.Written.{exception_body}
use Rattle.ft_log.specs.declared.outcome.RawStatus.{RawStatus}
use Rattle.ft_log.specs.declared.outcome.RawStatus.TheVariants.{NoException, UserException}
use Rattle.ft_log.specs.Performed.{Performed, raw, returned, system}
use Rattle.ft_orb.specs.declared.error.ServeError.{ServeError}
use Rattle.ft_objects.specs.Accessors.{read_at, string_of}
use Rattle.ft_orb.specs.Engines.{Awaited, CanAnswer, waits_in}
use Rattle.ft_orb.specs.Carrying.{asker_in, reply_if, unless_failed}
use Rattle.ft_orb.specs.Parking.{CanSettle, parked_at}
use Rattle.ft_objects.specs.Families.{families_ids, families_offer}
use Rattle.ft_objects.specs.Replies.{body_limit}
use Rattle.ft_objects.specs.Filling.{is_a_name, names_id, non_existent_name}
use Rattle.ft_log.specs.declared.system_exception.SystemName.{SystemName}
use Rattle.ft_objects.specs.Interfaces.{Interface, Types, checked_operation, operation, raw_operation}
use Rattle.ft_orb.specs.Requests.{Call}
use Rattle.lemonrudder.specs.declared.refusal.Refusal.{Refusal}
use Rattle.lemonrudder.specs.declared.refusal.Refusal.TheVariants as refusal
use Rattle.lemonrudder.specs.declared.serving.Serving.{Serving}
use Rattle.lemonrudder.specs.declared.serving.questions.Found.{Found}
use Rattle.lemonrudder.specs.declared.serving.questions.Found.TheVariants as found
use Rattle.lemonrudder.specs.Late.{AnswersLate}
use Rattle.lemonrudder.specs.Naming.{completion_named, order_named, raw_status_named, system_name_named}
use Rattle.lemonrudder.specs.Refusals.{refusal_of_serving}
use Rattle.lemonrudder.specs.Replying.{AreCarried, AreSaid, Contexts, left_for, said_for}
use Rattle.lemonrudder.specs.Serves.{ByCalled, ChangesDue, EndsIfShort, IsIdle, IsRefused, IsSame, KeepsCatalogue, KeepsParked, NotesWhy, done_of, owed_on}
use Rattle.lemonrudder.specs.Settling.{Settles}
use Rattle.lemonrudder.specs.Spelled.{AreValues}
use Rattle.lemonrudder.specs.Tallied.{one_answered}

-- an outcome may be that of the request, which waits or is parked, as its operation is on offer now
abbrev pub CanBe : Found → Performed → Serving → Type 0
CanBe (found.Waits number c) outcome s = CanAnswer (families_offer s.engine.offering.catalogue) (waits_in s.engine) number outcome
CanBe (found.Parked number) outcome s = CanSettle (families_offer s.engine.offering.catalogue) (parked_at s.engine number) outcome

-- the reply is due after what was, on its connection, and carries what was said where it can
abbrev pub Sends : (c : ℕ) → Performed → (said : Contexts) → Serving → Serving → Result (Unit {0}) ServeError → Type 0
Sends c outcome said s t o = (carried : Contexts) × AreCarried said carried (asker_in s.engine) (Some outcome) × (owed_on t c ≡ owed_on s c ++ unless_failed o (reply_if carried (asker_in s.engine) (Some outcome)))

-- an outcome of the request that waits, which came on a connection, is kept, if it is to be, and n is answered
abbrev pub AnswersAsked : (c n : ℕ) → Performed → (said : Contexts) → Serving → Serving → Result ℕ Refusal → Type 0
AnswersAsked c n outcome said s t r =
    (o : Result (Unit {0}) ServeError) × (r ≡ done_of n refusal_of_serving o) × IsIdle t × ChangesDue c s t × KeepsCatalogue s t × KeepsParked one_answered s t × Sends c outcome said s t o × AnswersLate c outcome s t o × NotesWhy c s t × EndsIfShort c s.engine t.engine o

-- .. of one that waits or is parked
abbrev pub Answers : Found → (n : ℕ) → Performed → (said : Contexts) → Serving → Serving → Result ℕ Refusal → Type 0
Answers (found.Waits number c) n outcome said s t r = AnswersAsked c n outcome said s t r
Answers (found.Parked number) n outcome said s t r = Settles number n outcome said s t r

-- what was said for a ticket is said no more
abbrev pub forgetting : ℕ → Serving → Serving
forgetting ticket s = record s { setup = record s.setup { said = left_for ticket s.setup.said } }

-- .. and its outcome is told with it; or memory is short to tell what was said, and nothing has changed
abbrev pub AnswersWith : (ticket : ℕ) → Found → (n : ℕ) → Performed → Serving → Serving → Result ℕ Refusal → Type 0
AnswersWith ticket found n outcome s t r = (IsSome (said_for ticket s.setup.said) × (r ≡ Err refusal.Memory) × IsSame s t)
    ⊎ ((said : Contexts) × AreSaid (said_for ticket s.setup.said) said × Answers found n outcome said (forgetting ticket s) t r)

-- an outcome of the request of a ticket is handed in: not where it can't be that
abbrev pub HandsIn : (ticket : ℕ) → Found → (n : ℕ) → Performed → Serving → Serving → Result ℕ Refusal → Type 0
HandsIn ticket found n outcome s t r = (¬ (CanBe found outcome s) → IsRefused refusal.Outcome s t r) × (CanBe found outcome s → AnswersWith ticket found n outcome s t r)

-- memory is short, and nothing has changed; or this
abbrev pub UnlessShort : Serving → Serving → Result ℕ Refusal → Type 0 → Type 0
UnlessShort s t r Does = IsRefused refusal.Memory s t r ⊎ Does

-- .. for octets that are kept, which no memory is taken for where there are none
abbrev pub UnlessShortFor : List ℕ → Serving → Serving → Result ℕ Refusal → Type 0 → Type 0
UnlessShortFor octets s t r Does = ((0 < length octets) × IsRefused refusal.Memory s t r) ⊎ Does

-- a call with a number that names nothing is refused, and else does this by what is named
abbrev pub ByName : {A : Type 0} → Option A → Serving → Serving → Result ℕ Refusal → (A → Type 0) → Type 0
ByName None s t r Does = IsRefused refusal.Range s t r
ByName (Some x) s t r Does = Does x

-- what the operation of a call is: raw, where it would be refused
abbrev pub asked_as : Option SystemName → Interface → Interface
asked_as None i = i
asked_as (Some name) i = raw_operation

abbrev pub interface_at : Serving → Awaited → Interface
interface_at s w = asked_as w.refused ((families_offer s.engine.offering.catalogue).interface w.call.object_key w.call.operation)

-- the types of an operation, if it has types
abbrev pub types_in : Interface → Option Types
types_in (operation t) = Some t
types_in (checked_operation t) = Some t
types_in _ = None

-- .. of its results
abbrev pub result_types : Interface → Option Forms
result_types i = option_map (λ t. t.results) (types_in i)

-- the types of the members of an exception, by the first that is declared with its id
abbrev pub members_in : List ℕ → List (List ℕ × Forms) → Option Forms
members_in id [] = None
members_in id (x ∷ xs) = if bytes_eq x.0 id then Some x.1 else members_in id xs

abbrev pub members_of : List ℕ → Option Types → Option Forms
members_of id None = None
members_of id (Some t) = members_in id t.raises

-- .. of an operation, if it declares one with this id
abbrev pub member_types : List ℕ → Interface → Option Forms
member_types id i = members_of id (types_in i)

-- octets are values of these types, if there are types
abbrev pub AreValuesOf : Option Forms → Order → List ℕ → Type 0
AreValuesOf None order octets = ⊥
AreValuesOf (Some types) order octets = AreValues types order octets

-- octets are results of an operation
abbrev pub AreResults : Interface → Order → List ℕ → Type 0
AreResults i order octets = AreValuesOf (result_types i) order octets

-- octets are kept as they stand, as the body of a reply: not where they can't be that, for which no memory is taken
abbrev pub HandsInBody : (ticket : ℕ) → Found → RawStatus → Order → List ℕ → Serving → Serving → Result ℕ Refusal → Type 0
HandsInBody ticket found status order octets s t r = (¬ (CanBe found (raw status order octets) s) → IsRefused refusal.Outcome s t r)
    × (CanBe found (raw status order octets) s → UnlessShortFor octets s t r (AnswersWith ticket found 0 (raw status order octets) s t r))

-- .. of no exception, where they are results; others are no outcome
abbrev pub HandsInResults : (ticket : ℕ) → Order → List ℕ → Serving → Serving → Result ℕ Refusal → Found → Awaited → Type 0
HandsInResults ticket order octets s t r found w =
    (AreResults (interface_at s w) order octets → HandsInBody ticket found NoException order octets s t r)
    × (¬ (AreResults (interface_at s w) order octets) → IsRefused refusal.Outcome s t r)

-- results of the operation
abbrev pub OnAnswer : (ticket order : ℕ) → List ℕ → Serving → Serving → Result ℕ Refusal → Type 0
OnAnswer ticket order octets s t r = ByName (order_named order) s t r (λ o. ByCalled ticket s t r (HandsInResults ticket o octets s t r))

-- GIOP 9.4.3: the body of a Reply that raises an exception, written for a place divisible by 8: its repository id, and then its members
abbrev pub exception_octets : Order → List ℕ → Values → List ℕ
exception_octets order id members = octets_of_all order (exception_body id members) 0

-- Octets of members behind this repository id may be a body that a Reply takes, which has at least so many: how many it has the members
-- alone tell, which stand elsewhere there.
abbrev pub MayBeRaised : (id octets : List ℕ) → Type 0
MayBeRaised id octets = (length id + 5) / 8 * 8 + length octets ≤ body_limit

-- octets are these members of an exception, which can be written
abbrev pub AreMembers : List ℕ → Forms → Order → List ℕ → Values → Type 0
AreMembers id types order octets vs = SpellsMembers types order vs 0 octets × AreWritable (exception_body id vs)

-- memory is short, which a body that is too long takes none of, and nothing has changed; or this
abbrev pub UnlessShortToRaise : (id octets : List ℕ) → Serving → Serving → Result ℕ Refusal → Type 0 → Type 0
UnlessShortToRaise id octets s t r Does = (MayBeRaised id octets × IsRefused refusal.Memory s t r) ⊎ Does

-- An exception is raised whose members are these octets: that body is kept. Where there are no types, or the octets are no members, that is
-- no outcome. Only values of its types take memory.
abbrev pub Raises : (ticket : ℕ) → Found → List ℕ → Option Forms → Order → List ℕ → Serving → Serving → Result ℕ Refusal → Type 0
Raises ticket found id None order octets s t r = IsRefused refusal.Outcome s t r
Raises ticket found id (Some types) order octets s t r =
    ((vs : Values) → AreMembers id types order octets vs → UnlessShortToRaise id octets s t r (HandsIn ticket found 0 (raw UserException order (exception_octets order id vs)) s t r))
    × (((vs : Values) → ¬ (AreMembers id types order octets vs)) → (AreValues types order octets × MayBeRaised id octets × IsRefused refusal.Memory s t r) ⊎ IsRefused refusal.Outcome s t r)

-- an exception that the operation declares
abbrev pub OnRaise : ℕ → List ℕ → ℕ → List ℕ → Serving → Serving → Result ℕ Refusal → Type 0
OnRaise ticket id order octets s t r = ByName (order_named order) s t r (λ o. ByCalled ticket s t r (λ found w. Raises ticket found id (member_types id (interface_at s w)) o octets s t r))

-- a system exception
abbrev pub OnSystem : (ticket name minor completed : ℕ) → Serving → Serving → Result ℕ Refusal → Type 0
OnSystem ticket name minor completed s t r = ByName (system_name_named name) s t r (λ n. ByName (completion_named completed) s t r (λ c. ByCalled ticket s t r (λ found w. HandsIn ticket found 0 (system n minor c) s t r)))

-- the body of a reply, as octets
abbrev pub OnAnswerRaw : (ticket status order : ℕ) → List ℕ → Serving → Serving → Result ℕ Refusal → Type 0
OnAnswerRaw ticket status order body s t r = ByName (raw_status_named status) s t r (λ n. ByName (order_named order) s t r (λ o. ByCalled ticket s t r (λ found w. HandsInBody ticket found n o body s t r)))

-- CORBA 3.3 Part 1, 8.3: what an object that names these repository ids answers, if that is what is asked
abbrev pub identity_by : Option (List (List ℕ)) → Call → Option Bool
identity_by ids call = if not (names_id ids (codes "IDL:omg.org/CORBA/Object:1.0")) then None else (if bytes_eq call.operation non_existent_name then Some false else (if bytes_eq call.operation is_a_name then option_map (names_id ids) (read_at string_of 0 call.arguments) else None))

abbrev pub identity_at : Serving → Awaited → Option Bool
identity_at s w = identity_by (families_ids s.engine.offering.catalogue w.call.object_key) w.call

-- the answer to `_is_a` or `_non_existent`; where the request is neither, nothing changes
abbrev pub Identifies : (ticket : ℕ) → Found → Option Bool → Serving → Serving → Result ℕ Refusal → Type 0
Identifies ticket found None s t r = (r ≡ Ok 0) × (t ≡ s)
Identifies ticket found (Some truth) s t r = UnlessShort s t r (HandsIn ticket found 1 (returned (values (value.boolean truth ∷ []))) s t r)

abbrev pub OnIdentify : ℕ → Serving → Serving → Result ℕ Refusal → Type 0
OnIdentify ticket s t r = ByCalled ticket s t r (λ found w. Identifies ticket found (identity_at s w) s t r)

-- Words of private functions.

-- types that are lent, if they are there
abbrev pub forms_in : Option (Bor (List Ty)) → Option Forms
forms_in types = option_map (λ ts. forms_of ts.now) types

-- octets that are no values of types are no outcome
abbrev pub outcome_read : {A : Type 0} → Result A Refusal → Result A Refusal
outcome_read (Ok v) = Ok v
outcome_read (Err refusal.Memory) = Err refusal.Memory
outcome_read (Err e) = Err refusal.Outcome

-- what reading octets as values gave: all of them, and no others; or memory is short for these, or they are no values of the types
abbrev pub AreRead : Option Forms → Order → List ℕ → Result (Vec Val Global) Refusal → Type 0
AreRead None order octets (Ok v) = ⊥
AreRead None order octets (Err e) = e ≡ refusal.Outcome
AreRead (Some types) order octets (Ok v) = SpellsMembers types order (values_of v.items) 0 octets × ((vs : Values) → SpellsMembers types order vs 0 octets → values_of v.items ≡ vs)
AreRead (Some types) order octets (Err e) = ((e ≡ refusal.Memory) × AreValues types order octets) ⊎ ((e ≡ refusal.Outcome) × ((vs : Values) → ¬ (SpellsMembers types order vs 0 octets)))

-- the body of an exception of such members, and of no others; or memory is short for these, or they are no members of one, or too long
abbrev pub IsBody : List ℕ → Option Forms → Order → List ℕ → Result (Vec ℕ Global) Refusal → Type 0
IsBody id None order octets (Ok body) = ⊥
IsBody id None order octets (Err e) = e ≡ refusal.Outcome
IsBody id (Some types) order octets (Ok body) = (vs : Values) × AreMembers id types order octets vs × ((us : Values) → AreMembers id types order octets us → vs ≡ us) × (body.items ≡ exception_octets order id vs)
IsBody id (Some types) order octets (Err e) = ((e ≡ refusal.Memory) × AreValues types order octets × MayBeRaised id octets)
    ⊎ ((e ≡ refusal.Outcome) × ((vs : Values) → AreMembers id types order octets vs → body_limit < length (exception_octets order id vs)))

-- a copy of octets; or memory is short, which none take
abbrev pub IsCopy : List ℕ → Result (Vec ℕ Global) Refusal → Type 0
IsCopy octets (Ok copy) = copy.items ≡ octets
IsCopy octets (Err e) = (e ≡ refusal.Memory) × (0 < length octets)
