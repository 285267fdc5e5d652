-- The laws, each over the definitions alone.
use Rattle.std.specs.Prelude.{◌≡◌, ℕ, ◌≤◌, ◌==◌, if◌then◌else◌, List, [], ◌∷◌, ◌++◌, Some, length, map, slice_get, IsTrue}
use Rattle.std.specs.List.{AllByRecursion}
use Rattle.cdr_core.specs.Numbers.{AreOctets}
use Rattle.cdr_core.specs.Spelling.{IsClean}
use Rattle.cdr_core.specs.Writing.{octets_of_all}
use Rattle.giop_frames.specs.declared.limits.Limits.{Limits}
use Rattle.ft_log.specs.Performed.{Performed}
use Rattle.ft_client.specs.Directions.{stream}
use Rattle.giop_link.specs.Hearing.{Hearing}
use Rattle.ft_client.specs.Messages.{Answer, Call, octets_said}
use Rattle.ft_client.specs.Standing.{down}
use Rattle.ft_orb.specs.ExactlyOnce.{Arrival, answer_of}
use Rattle.ft_orb.specs.History.{Event}
use Rattle.ft_orb.specs.Outputs.{Made, law_says, output}
use Rattle.ft_objects.specs.Replies.{answered_as, body_limit, body_of, order_of}
use Rattle.ft_orb.specs.Requests.{Wanted, asking, locating, rules_of}
use Rattle.ft_objects.specs.Servants.{Meaning}
use Rattle.ft_ends.specs.Both.{ActsOnce, AreDistinct}
use Rattle.ft_ends.specs.Fine.{AreFaithful, IsFineCall}
use Rattle.ft_orb.specs.Tellings.{octets_told}
use Rattle.ft_ends.specs.Tellings.{law_told}
use Rattle.ft_ends.specs.World.{CallNow, Member, Newcomer, RecallNow, Sides, Step, world}

-- What an event makes a server write are the octets of these messages, one after another.
abbrev pub TellingsAreWritten : {State : Type 0} → Meaning State → Type 0
TellingsAreWritten {State} meaning = (made : Made State) (past : List Event) (e : Event) → stream octets_told (law_told meaning made past e) ≡ output made.limits meaning.knows (law_says meaning made) past e

-- the directions of a server, to clients that hear so
abbrev pub sides_of : {State : Type 0} → Meaning State → Made State → (Limits → Hearing Answer) → Sides
sides_of meaning made hears = record { said = octets_said; telling = octets_told; hears = hears; says = law_told meaning made }

-- the call of a step, if it has one, can be written
abbrev pub IsFineStep : Step → Type 0
IsFineStep (CallNow k now call) = IsFineCall call
IsFineStep (RecallNow k now id call) = IsFineCall call
IsFineStep s = Unit {0}

-- the body of what arrived is octets
abbrev pub IsPlain : Wanted → Type 0
IsPlain (asking c q) = AreOctets q.body.octets
IsPlain (locating c version id to) = Unit {0}

abbrev pub ArePlain : List (Arrival Wanted) → Type 0
ArePlain arrivals = AllByRecursion (λ a. IsPlain a.content) arrivals

-- the body of an outcome takes at most 1,048,576 octets, in its order at the place 24
abbrev pub IsShort : Performed → Type 0
IsShort p = length (octets_of_all (order_of p) (body_of p) 24) ≤ body_limit

-- so does that of each answer of a server
abbrev pub AreShort : {State : Type 0} → Meaning State → Made State → Type 0
AreShort meaning made =
    (before : List (Arrival Wanted)) (a : Arrival Wanted) → ArePlain before → IsPlain a.content
    → IsShort (answered_as (answer_of (rules_of meaning made.capacity made.share) made.opening before a))

-- A servant that keeps its promises, from one of its states on, gives such answers.
abbrev pub AnswersAreShort : {State : Type 0} → Meaning State → Type 0
AnswersAreShort {State} meaning = (made : Made State) → IsTrue (meaning.is_state made.opening) → AreShort meaning made

-- Nothing is heard on either direction but what was said.
abbrev pub DirectionsAreFaithful : Type 0
DirectionsAreFaithful = (limits : Limits) → AreFaithful limits down

-- the call that a step has client k make, or take up again, if it has one
abbrev pub call_in : ℕ → Step → List Call
call_in k (CallNow j now call) = if j == k then call ∷ [] else []
call_in k (RecallNow j now id call) = if j == k then call ∷ [] else []
call_in k s = []

-- the calls that steps have it make, in order
abbrev pub calls_in : ℕ → List Step → List Call
calls_in k [] = []
calls_in k (s ∷ ss) = call_in k s ++ calls_in k ss

-- the first list is the second but for items that are left out
pub data IsPartOf {A : Type 0} : List A → List A → Type 0 where
  none : IsPartOf [] []
  both : {x : A} {xs ys : List A} → IsPartOf xs ys → IsPartOf (x ∷ xs) (x ∷ ys)
  left : {y : A} {xs ys : List A} → IsPartOf xs ys → IsPartOf xs (y ∷ ys)

-- calls without their numbers
abbrev pub contents : List (ℕ × Call) → List Call
contents calls = map (λ x. x.1) calls

-- What a client called are calls of its steps, in order: all but those that were refused.
abbrev pub CallsAreOfSteps : Type 0
CallsAreOfSteps = (sides : Sides) (newcomers : List Newcomer) (steps : List Step) (k : ℕ) (m : Member) → slice_get (world sides newcomers steps).members k ≡ Some m → IsPartOf (contents m.life.calls) (calls_in k steps)

-- Over every schedule both ends act as one, where the servant begins in one of its states, the clients' ids differ and have no
-- NUL, and what is called can be written.
abbrev pub BothEndsActOnce : {State : Type 0} → Meaning State → Type 0
BothEndsActOnce {State} meaning =
    (made : Made State) (newcomers : List Newcomer) (steps : List Step) → IsTrue (meaning.is_state made.opening)
    → AreDistinct newcomers → AllByRecursion (λ n. IsClean n.client_id) newcomers → AllByRecursion IsFineStep steps
    → ActsOnce meaning made newcomers (world (sides_of meaning made down) newcomers steps)
