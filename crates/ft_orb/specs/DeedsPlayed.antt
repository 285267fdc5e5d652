-- What a list of deeds makes of an engine, and what it says of it.
use Rattle.std.specs.Prelude.{◌≡◌, ◌+◌, ◌≤◌, ◌<◌, ℕ, suc, nat_lt, false, if◌then◌else◌, List, [], ◌∷◌, ◌++◌, flat_map, length, map, take, Option, Some, None, IsSome, IfSome, Result, Ok, Err}
use Rattle.std.specs.List.{list_any}
use Rattle.ft_log.specs.Holding.{Holding, known, parked}
use Rattle.ft_log.specs.Performed.{Performed}
use Rattle.ft_log.specs.View.{performed_in}
use Rattle.ft_objects.specs.Catalogues.{Offer}
use Rattle.ft_objects.specs.Replies.{IsRenderable}
use Rattle.ft_orb.specs.declared.deeds.Deed.{Deed as CodeDeed}
use Rattle.ft_orb.specs.declared.deeds.Deed.TheVariants as code
use Rattle.ft_orb.specs.declared.deeds.DeedError.{DeedError}
use Rattle.ft_orb.specs.declared.deeds.DeedError.TheVariants as refused
use Rattle.ft_orb.specs.declared.deeds.DeedsError.{DeedsError}
use Rattle.ft_orb.specs.declared.deeds.DeedsError.TheVariants as deeds
use Rattle.ft_orb.specs.declared.engine.Engine.{Engine}
use Rattle.ft_orb.specs.declared.engine.Fed.{Fed}
use Rattle.ft_orb.specs.declared.engine.Fed.TheVariants as fed
use Rattle.ft_orb.specs.declared.error.ServeError.{ServeError}
use Rattle.ft_orb.specs.declared.error.ParkError.TheVariants as unparked
use Rattle.ft_orb.specs.declared.events.Event.TheVariants as happening
use Rattle.ft_orb.specs.declared.events.Note.{Note}
use Rattle.ft_orb.specs.declared.events.Written.{Written}
use Rattle.ft_orb.specs.Declined.{standing}
use Rattle.ft_orb.specs.Deeds.{Answered, AnsweredUnkept, AreTold, Asking, Deed, GivenUp, Happened, IsDeed, IsLeftOf, Joined, Ledger, Parked, Runs, Settled, SettledUnkept, Stopped, Told, after_deed, after_deeds, came_to, changing, note_told, notes_of, opening, reply_to, settles, told_all, told_of}
use Rattle.ft_orb.specs.Engines.{Awaited, CanAnswer, asks_in, waits_in}
use Rattle.ft_orb.specs.ExactlyOnce.{OneExpiration, state_after, state_of}
use Rattle.ft_orb.specs.History.{KeepsAll, Piece, arrivals, changes, event_of}
use Rattle.ft_orb.specs.Now.{performed_now}
use Rattle.ft_orb.specs.Offerings.{terms_by}
use Rattle.ft_orb.specs.Outputs.{Noted, noted}
use Rattle.ft_orb.specs.Owners.{owned_rules}
use Rattle.ft_orb.specs.Parking.{AsksLate, CanSettle, Settings, Stays, by_number, goes_on, not_now, parked_at, parked_count, parked_in, parked_of, places_of, places_of_one, put_at, told_in, waiter_of, waits_on}

-- A deed is one of what the code was told to do: a part is one of its piece. What is to be declined, or told, may be given up, where there
-- are octets to write.
abbrev pub IsOf : CodeDeed → Deed → Type 0
IsOf (code.Event e) (Happened happened written note) = happened ≡ event_of e
IsOf (code.Event e) (Stopped p written w q) = event_of e ≡ Piece p.connection p.moment p.piece
IsOf (code.Event e) (Joined p written n joined) = event_of e ≡ Piece p.connection p.moment p.piece
IsOf (code.Answer o) (Answered a outcome written note) = outcome ≡ performed_in o
IsOf code.Park (Parked a own) = Unit {0}
IsOf code.GiveUp (GivenUp a handled) = Unit {0}
IsOf (code.Decline name minor) (AnsweredUnkept a outcome written) = outcome ≡ not_now name minor
IsOf (code.Decline name minor) (GivenUp a handled) = 0 < length (reply_to (not_now name minor) (waiter_of a.request.connection a.question))
IsOf (code.Withdraw n name minor) (SettledUnkept i number outcome told) = (number ≡ n) × (outcome ≡ not_now name minor)
IsOf (code.Tell o) (AnsweredUnkept a outcome written) = outcome ≡ performed_in o
IsOf (code.Tell o) (GivenUp a handled) = 0 < length (reply_to (performed_in o) (waiter_of a.request.connection a.question))
IsOf (code.TellParked n o) (SettledUnkept i number outcome told) = (number ≡ n) × (outcome ≡ performed_in o)
IsOf (code.Settle n o) (Settled i number outcome told) = (number ≡ n) × (outcome ≡ performed_in o)
IsOf _ _ = ⊥

abbrev pub AreOf : List CodeDeed → List Deed → Type 0
AreOf [] [] = Unit {0}
AreOf (c ∷ cs) (d ∷ ds) = IsOf c d × AreOf cs ds
AreOf [] (d ∷ ds) = ⊥
AreOf (c ∷ cs) [] = ⊥

-- how many octets of its piece were taken, where some are left
abbrev pub left_after : (taken size : ℕ) → Option ℕ
left_after taken size = if nat_lt taken size then Some taken else None

abbrev pub left_of : Deed → Option ℕ
left_of (Happened e written note) = None
left_of (Stopped p written w q) = left_after p.taken (length p.piece)
left_of (Joined p written n joined) = left_after p.taken (length p.piece)
left_of (Answered a outcome written note) = None
left_of (Parked a own) = None
left_of (GivenUp a handled) = None
left_of (Settled i n outcome told) = None
left_of (AnsweredUnkept a outcome written) = None
left_of (SettledUnkept i n outcome told) = None

-- The deeds took all their pieces whole, but of that of the last this is left.
abbrev pub LeaveAtLast : List Deed → Option ℕ → Type 0
LeaveAtLast [] left = left ≡ None
LeaveAtLast (d ∷ []) left = left_of d ≡ left
LeaveAtLast (d ∷ e ∷ ds) left = (left_of d ≡ None) × LeaveAtLast (e ∷ ds) left

abbrev pub left_fed : (size : ℕ) → Result Fed ServeError → Option ℕ
left_fed size (Ok fed.Whole) = None
left_fed size (Ok (fed.Asks taken)) = left_after taken size
left_fed size (Ok (fed.Repeats taken)) = left_after taken size
left_fed size (Err e) = None

-- Why an engine did not do what the code was told: a request waits, or none does; the outcome is none of its operation, or can't be sent;
-- no more may be parked, in all or of its connection; somebody waits on the connection that is to be closed. An allocation may fail for
-- each deed.
abbrev pub IsRefused : {C : Type 0} → (C → Offer) → Engine C → CodeDeed → DeedError → Type 0
IsRefused offers e (code.Event happening) refused.Asking = IsSome (waits_in e)
IsRefused offers e (code.Event (happening.Close c)) refused.Waits = 0 < waits_on e c
IsRefused offers e (code.Settle n o) refused.Asking = IsSome (waits_in e)
IsRefused offers e (code.Settle n o) refused.NotParked = CanSettle (offers e.offering.catalogue) (parked_at e n) (performed_in o) → ⊥
IsRefused offers e (code.Withdraw n name minor) refused.Asking = IsSome (waits_in e)
IsRefused offers e (code.Withdraw n name minor) refused.NotParked = CanSettle (offers e.offering.catalogue) (parked_at e n) (not_now name minor) → ⊥
IsRefused offers e (code.Decline name minor) refused.NothingAsked = waits_in e ≡ None
IsRefused offers e (code.Tell o) refused.NothingAsked = waits_in e ≡ None
IsRefused offers e (code.Tell o) refused.NotFit = IsSome (waits_in e) × (IsRenderable (performed_in o) → ⊥)
IsRefused offers e (code.TellParked n o) refused.Asking = IsSome (waits_in e)
IsRefused offers e (code.TellParked n o) refused.NotParked = CanSettle (offers e.offering.catalogue) (parked_at e n) (performed_in o) → ⊥
IsRefused offers e (code.Answer o) refused.NothingAsked = waits_in e ≡ None
IsRefused offers e code.Park refused.NothingAsked = waits_in e ≡ None
IsRefused offers e code.GiveUp refused.NothingAsked = waits_in e ≡ None
IsRefused offers e (code.Answer o) refused.NotFit = (w : Awaited) × (waits_in e ≡ Some w) × (CanAnswer (offers e.offering.catalogue) (waits_in e) w.number (performed_in o) → ⊥)
IsRefused offers e code.Park (refused.Unparked unparked.Full) = IsSome (waits_in e) × (places_of e ≤ parked_count e)
IsRefused offers e code.Park (refused.Unparked unparked.Share) = IsSome (waits_in e) × (parked_count e < places_of e) × IfSome (waits_in e) (λ w. places_of_one e ≤ parked_of e w.connection)
IsRefused offers e code.Park (refused.Unparked unparked.Memory) = IsSome (waits_in e)
IsRefused offers e told refused.Memory = Unit {0}
IsRefused offers e told why = ⊥

-- the deed that was not done, if one was not
abbrev pub IsRefusedIn : {C A : Type 0} → (C → Offer) → Engine C → List CodeDeed → Result A DeedsError → Type 0
IsRefusedIn offers e all (Ok x) = Unit {0}
IsRefusedIn offers e all (Err (deeds.Left done taken)) = Unit {0}
IsRefusedIn offers e all (Err (deeds.Refused done why)) = (told : CodeDeed) × (take (done + 1) all ≡ take done all ++ told ∷ []) × IsRefused offers e told why

-- how many of the deeds were done, and how many octets were taken of the piece of the last, where some are left
abbrev pub deeds_done : {A : Type 0} → ℕ → Result A DeedsError → ℕ
deeds_done all (Ok x) = all
deeds_done all (Err (deeds.Left done taken)) = done
deeds_done all (Err (deeds.Refused done why)) = done

abbrev pub left_in : {A : Type 0} → Result A DeedsError → Option ℕ
left_in (Ok x) = None
left_in (Err (deeds.Left done taken)) = Some taken
left_in (Err (deeds.Refused done why)) = None

module _ {C : Type 0} (offers : C → Offer) (s : Settings) where
  -- The engine is one of which so much is known: it rests, or a request waits ..
  abbrev pub StandsAt : Ledger → Option Asking → Engine C → Type 0
  StandsAt g None engine = Stays offers s g.held g.calls engine g.past g.waiting
  StandsAt g (Some a) engine = (x : AsksLate offers s g.held g.calls engine g.past g.waiting a.moment a.octets a.written a.request) × (x.asks.question ≡ a.question)

  -- so many requests were asked for, this is parked under each number, and none of it has an outcome that is still to be told
  pub record Shows (count : ℕ) (lies : ℕ → Option Awaited) (engine : Engine C) : Type 0 where
    pub asked : asks_in engine ≡ count
    pub there : (n : ℕ) → parked_in engine n ≡ lies n
    pub told : (n : ℕ) → told_in engine n ≡ None

  -- .. and nobody waits under a number under which nothing is parked.
  pub record Holds (g : Ledger) (engine : Engine C) : Type 0 where
    pub stands : StandsAt g g.asking engine
    pub nobody : (n : ℕ) → g.there n ≡ None → g.waiting n ≡ []
    pub shows : Shows g.asked g.there engine

  -- a deed was done, which wrote this, and left so much of its piece
  abbrev pub IsDone : Ledger → CodeDeed → Option ℕ → List Noted → Engine C → Type 0
  IsDone g told left notes new = (d : Deed) × IsOf told d × IsDeed s g d × (notes_of d ≡ notes) × (left_of d ≡ left) × Holds (after_deed s g d) new

  -- All who waited under a number were told its outcome, so much was written, and the outcome is known of its call.
  pub record IsTold (g : Ledger) (n : ℕ) (outcome : Performed) (new : Engine C) (before out : List Written) : Type 0 where
    pub written : List Written
    pub appended : out ≡ before ++ written
    pub told : List Told
    pub are_told : AreTold s n outcome g told
    pub notes : map (note_told outcome) told ≡ map noted written
    pub none : (told_all s n g told).waiting n ≡ []
    pub i : ℕ
    pub taken : i < length g.calls
    pub was : g.held i ≡ parked n
    pub stays : Stays offers s (put_at i (known outcome) g.held) g.calls new (told_all s n g told).past (told_all s n g told).waiting

-- over every ledger: a deed was done, or none was
abbrev pub Becomes : {C : Type 0} → (C → Offer) → CodeDeed → Option ℕ → List Noted → Engine C → Engine C → Type 0
Becomes {C} offers told left notes old new = (s : Settings) (g : Ledger) → Holds offers s g old → IsDone offers s g told left notes new

abbrev pub Remains : {C : Type 0} → (C → Offer) → Engine C → Engine C → Type 0
Remains {C} offers old new = (s : Settings) (g : Ledger) → Holds offers s g old → Holds offers s g new

-- What is served has changed, to what the settings have for it next. That is a deed too, after which all wait who waited before.
abbrev pub IsChange : {C : Type 0} → (C → Offer) → Engine C → Engine C → Type 0
IsChange {C} offers old new = (s : Settings) (g : Ledger) → Holds offers s g old → s.terms (suc (changes g.past)) ≡ terms_by offers new.offering
    → IsDeed s g changing × ((n : ℕ) → (after_deed s g changing).waiting n ≡ g.waiting n) × Holds offers s (after_deed s g changing) new

-- What holds of a run from a new engine on: what is answered or told of a call, kept or not, is the outcome that is known of it at the
-- end; of those who came to wait under a number each is told once, waits on, or its connection has ended; and what is told under it
-- first is of the call that was parked there. Where something is kept of each, the calls that were taken are those of the distinct
-- admissible requests, each once, in the order of their first arrivals, where requests with one key carry one expiration, and those
-- that are performed with each key by itself, whatever they carry.
pub record IsAnsweredLate (s : Settings) (held : ℕ → Holding) (ds : List Deed) : Type 0 where
  pub runs : Runs s (opening held) ds
  pub answered : (xs ys : List Deed) (a : Asking) (outcome : Performed) (written : List ℕ) (note : Note) → ds ≡ xs ++ Answered a outcome written note ∷ ys
      → (after_deeds s (opening held) ds).held (length (after_deeds s (opening held) xs).calls) ≡ known outcome
  pub answered_unkept : (xs ys : List Deed) (a : Asking) (outcome : Performed) (written : List ℕ) → ds ≡ xs ++ AnsweredUnkept a outcome written ∷ ys
      → (after_deeds s (opening held) ds).held (length (after_deeds s (opening held) xs).calls) ≡ known outcome
  pub settled_unkept : (xs ys : List Deed) (i n : ℕ) (outcome : Performed) (told : List Told) → ds ≡ xs ++ SettledUnkept i n outcome told ∷ ys → (after_deeds s (opening held) ds).held i ≡ known outcome
  pub known : (xs ys : List Deed) (i n : ℕ) (outcome : Performed) (told : List Told) → ds ≡ xs ++ Settled i n outcome told ∷ ys → (after_deeds s (opening held) ds).held i ≡ known outcome
  pub once : KeepsAll (after_deeds s (opening held) ds).past → OneExpiration (arrivals s.limits (after_deeds s (opening held) ds).past)
      → (after_deeds s (opening held) ds).calls ≡ state_of (owned_rules (by_number s held)) [] (arrivals s.limits (after_deeds s (opening held) ds).past)
  pub now : KeepsAll (after_deeds s (opening held) ds).past → (after_deeds s (opening held) ds).calls ≡ state_after (owned_rules (by_number s held)) [] (performed_now (owned_rules (by_number s held)) (arrivals s.limits (after_deeds s (opening held) ds).past))
  pub stand : (after_deeds s (opening held) ds).calls ≡ (standing s (after_deeds s (opening held) ds).past).calls
  pub told : (n : ℕ) → IsLeftOf (goes_on s.limits (after_deeds s (opening held) ds).past) (flat_map (came_to n) ds) (flat_map (told_of n) ds ++ (after_deeds s (opening held) ds).waiting n)
  pub theirs : (xs ms ys : List Deed) (i j n : ℕ) (outcome : Performed) (told : List Told) → ds ≡ xs ++ (ms ++ Settled j n outcome told ∷ ys)
      → i < length (after_deeds s (opening held) xs).calls → (after_deeds s (opening held) xs).held i ≡ parked n → list_any (settles n) ms ≡ false → i ≡ j
  pub theirs_unkept : (xs ms ys : List Deed) (i j n : ℕ) (outcome : Performed) (told : List Told) → ds ≡ xs ++ (ms ++ SettledUnkept j n outcome told ∷ ys)
      → i < length (after_deeds s (opening held) xs).calls → (after_deeds s (opening held) xs).held i ≡ parked n → list_any (settles n) ms ≡ false → i ≡ j

-- every run from a new engine on is so
abbrev pub RunsAreAnsweredLate : Settings → Type 0
RunsAreAnsweredLate s = (held : ℕ → Holding) (ds : List Deed) → Runs s (opening held) ds → IsAnsweredLate s held ds
