-- An owner of an engine: who performs the calls. Its state is the list of the calls that it has answered, the oldest first.
use Rattle.std.specs.Prelude.{◌≡◌, ℕ, Bool, true, not, filter, List, [], ◌∷◌, ◌++◌, Option, Some, None, Result, Ok, Err, refl}
use Rattle.giop_frames.specs.declared.limits.Limits.{Limits}
use Rattle.ft_log.specs.Keys.{has_room_for}
use Rattle.ft_log.specs.Kept.{KeptOutcome}
use Rattle.ft_log.specs.Performed.{Performed}
use Rattle.ft_objects.specs.Catalogues.{Offer}
use Rattle.ft_orb.specs.ExactlyOnce.{Rules, answers_after}
use Rattle.ft_orb.specs.Outputs.{Made}
use Rattle.ft_orb.specs.Requests.{Call, Terms, Wanted, asked_at, asked_of, terms_of}
use Rattle.ft_objects.specs.Servants.{Meaning}
use Rattle.ft_orb.specs.Table.{Table, table_after, table_answers}
use Rattle.ft_log.specs.Holding.{Holding, known}
use Rattle.ft_orb.specs.Tellings.{Later, Teller, answer_told, held_told, nothing_yet, told_at}
use Rattle.ft_orb.specs.Seen.{seen_answer}
use Rattle.ft_log.specs.declared.system_exception.SystemName.{SystemName}
use Rattle.ft_orb.specs.History.{Changed, Close, Event, Lost, Opened, Piece, Withdrew, arrivals, completed}
use Rattle.ft_orb.specs.Now.{answers_now_after}

-- the rules of an owner that answers a call by the calls answered before, in any way whatever
abbrev pub owner_rules : {Outcome : Type 0} → (Wanted → Result Call SystemName) → (List Call → Call → Outcome) → ℕ → ℕ → Rules (List Call) Wanted Call Outcome
owner_rules asked answers capacity share = record {
  asked = asked;
  apply = λ calls call. (calls ++ call ∷ [], answers calls call);
  has_room = has_room_for capacity share;
}

-- an owner with its engine, as it was made: what is on offer; what the owner answers a call, by the calls answered before; the
-- limits of connections; and how many outcomes may be kept, how many of each client
pub record Owner : Type 0 where
  pub offer : Offer
  pub answers : List Call → Call → Performed
  pub limits : Limits
  pub capacity : ℕ
  pub share : ℕ

-- its rules
abbrev pub rules_with : Owner → Rules (List Call) Wanted Call Performed
rules_with o = owner_rules (asked_of o.offer.interface) o.answers o.capacity o.share

-- an owner as a servant, whose state is the list of the calls answered so far
abbrev pub meaning_of : Owner → Meaning (List Call)
meaning_of o = record {
  is_state = λ calls. true;
  interface = o.offer.interface;
  knows = o.offer.knows;
  apply = λ calls key operation arguments. (calls ++ record { object_key = key; operation = operation; arguments = arguments } ∷ [], o.answers calls (record { object_key = key; operation = operation; arguments = arguments }));
}

abbrev pub made_of : Owner → Made (List Call)
made_of o = record { limits = o.limits; capacity = o.capacity; share = o.share; opening = [] }

-- what an owner says, as its engine's log has it: its answer to a call, by the calls answered before; and what is said for a call that
-- is parked
pub record Voice : Type 0 where
  pub answers : List Call → Call → Holding
  pub late : Later

-- An owner whose answers are of any kind: what its engine serves, by how often that has changed; how its log holds each answer, what is said where that is parked, and what is told for it.
-- An outcome is held as known. Where it withdraws calls, it is known of each answer whether it is that of the call before which so
-- many were taken.
pub record OwnerOf (Outcome : Type 0) : Type 0 where
  pub terms : ℕ → Terms
  pub answers : List Call → Call → Outcome
  pub limits : Limits
  pub capacity : ℕ
  pub share : ℕ
  pub hold : Outcome → Holding
  pub is : Option (Outcome → ℕ → Bool)
  pub late : Later
  pub tell : Teller Outcome
  pub tells : (w : Wanted) (answer : Result Outcome SystemName) → tell w answer ≡ told_at late terms w (seen_answer hold answer)

pub tells_known : (late : Later) (knows : List ℕ → Bool) (w : Wanted) (answer : Result Performed SystemName) → answer_told knows w answer ≡ held_told late knows w (seen_answer known answer)
tells_known late knows w (Ok outcome) = refl
tells_known late knows w (Err refusal) = refl

abbrev pub owning : Owner → OwnerOf Performed
owning o = record {
  terms = λ n. terms_of None o.offer;
  answers = o.answers;
  limits = o.limits;
  capacity = o.capacity;
  share = o.share;
  hold = known;
  is = None;
  late = nothing_yet;
  tell = answer_told o.offer.knows;
  tells = tells_known nothing_yet o.offer.knows;
}

module _ {Outcome : Type 0} where
  -- the table, once what is kept for a call is kept no longer, where an event withdraws it
  abbrev pub let_go : (is : Outcome → ℕ → Bool) → Event → Table (List Call) Outcome → Table (List Call) Outcome
  let_go is (Opened c) t = t
  let_go is (Piece c moment octets) t = t
  let_go is (Close c) t = t
  let_go is (Lost c) t = t
  let_go is Changed t = t
  let_go is (Withdrew i) t = record { state = t.state; entries = filter (λ e. not (is e.outcome i)) t.entries }

  -- the table of a new engine, folded over the arrivals of a past and what is withdrawn in it
  abbrev pub table_over : Rules (List Call) Wanted Call Outcome → Limits → (is : Outcome → ℕ → Bool) → List Event → Table (List Call) Outcome
  table_over rules limits is [] = record { state = []; entries = [] }
  table_over rules limits is (e ∷ past) = let_go is e (table_after rules (table_over rules limits is past) (completed limits past e))

  -- .. and over its arrivals alone, where the owner tells outcomes not by their calls, and withdraws nothing
  abbrev pub table_by : Rules (List Call) Wanted Call Outcome → Limits → Option (Outcome → ℕ → Bool) → List Event → Table (List Call) Outcome
  table_by rules limits None past = table_after rules (record { state = []; entries = [] }) (arrivals limits past)
  table_by rules limits (Some is) past = table_over rules limits is past

module _ {Outcome : Type 0} (o : OwnerOf Outcome) where
  -- its rules
  abbrev pub owned_rules : Rules (List Call) Wanted Call Outcome
  owned_rules = owner_rules (asked_at o.terms) o.answers o.capacity o.share

  -- what its engine keeps of its answers
  abbrev pub kept_of : List Call → Call → Holding
  kept_of calls call = o.hold (o.answers calls call)

  abbrev pub voice_of : Voice
  voice_of = record { answers = kept_of; late = o.late }

  -- the table of a new engine, and its answers to the arrivals that an event completes
  abbrev pub owned_table : List Event → Table (List Call) Outcome
  owned_table past = table_by owned_rules o.limits o.is past

  abbrev pub owned_says : List Event → Event → List (Result Outcome SystemName)
  owned_says past e = table_answers owned_rules (owned_table past) (completed o.limits past e)

  -- the answers of the fold that remembers all, and those with each key by itself
  abbrev pub owned_law : List Event → Event → List (Result Outcome SystemName)
  owned_law past e = answers_after owned_rules [] (arrivals o.limits past) (completed o.limits past e)

  abbrev pub owned_now : List Event → Event → List (Result Outcome SystemName)
  owned_now past e = answers_now_after owned_rules [] (arrivals o.limits past) (completed o.limits past e)

-- the table with the calls answered so far
abbrev pub answered_so_far : {Outcome : Type 0} → List Call → List (KeptOutcome Outcome) → Table (List Call) Outcome
answered_so_far calls entries = record { state = calls; entries = entries }
