-- What an engine stands for while requests are parked: their outcomes come later, in any order.
use Rattle.std.specs.Prelude.{◌≡◌, ◌==◌, ℕ, ◌+◌, ◌<◌, Bool, true, false, not, nat_lt, ◌&&◌, if◌then◌else◌, List, [], ◌∷◌, ◌++◌, length, take, Option, Some, None, Result, Ok, Err, IsSome, refl}
use Rattle.std.specs.List.{AllByRecursion, list_all}
use Rattle.std.specs.Option.{option_map}
use Rattle.std.specs.Ordering.{nat_cmp}
use Rattle.std.specs.BTreeMap.{btree_map_len, get}
use Rattle.giop_frames.specs.declared.limits.Limits.{Limits}
use Rattle.giop_link.specs.Hearing.{Question}
use Rattle.ft_log.specs.Holding.{Holding, known, parked}
use Rattle.ft_log.specs.Keys.{RequestKey}
use Rattle.ft_log.specs.Kept.{KeptOutcome}
use Rattle.ft_log.specs.Performed.{Performed, system}
use Rattle.ft_log.specs.View.{key_of, performed_in}
use Rattle.ft_log.specs.declared.system_exception.Completion.TheVariants.{Maybe, No}
use Rattle.ft_log.specs.declared.system_exception.SystemName.{SystemName}
use Rattle.ft_log.specs.declared.system_exception.SystemName.TheVariants.{Transient}
use Rattle.ft_objects.specs.Catalogues.{Offer}
use Rattle.ft_objects.specs.Interfaces.{IsAnswerOf}
use Rattle.ft_objects.specs.Replies.{IsRenderable}
use Rattle.ft_orb.specs.declared.engine.Engine.{Engine}
use Rattle.ft_orb.specs.declared.engine.Fed.{Fed}
use Rattle.ft_orb.specs.declared.engine.Fed.TheVariants as fed
use Rattle.ft_orb.specs.declared.error.ServeError.{ServeError}
use Rattle.ft_orb.specs.declared.error.ServeError.TheVariants as serving
use Rattle.ft_orb.specs.declared.events.Note.{Note}
use Rattle.ft_orb.specs.declared.events.Note.TheVariants.{Done}
use Rattle.ft_orb.specs.declared.keeper.Retained.{Retained}
use Rattle.ft_orb.specs.declared.parked.Parked.{Parked}
use Rattle.ft_orb.specs.declared.parked.Places.{Places}
use Rattle.ft_orb.specs.declared.parked.Waiter.{Waiter}
use Rattle.ft_orb.specs.Counts.{is_parked_for, parked_on, waiters_on}
use Rattle.ft_orb.specs.Engines.{AsksOf, Awaited, EndsOf, RestsOf, ResumesOf, StopsOf, asks_in, awaited_of}
use Rattle.ft_orb.specs.ExactlyOnce.{Absent, Arrival}
use Rattle.ft_orb.specs.History.{Event, Lost, Piece, Withdrew, changes, completed, does_count, line, origin, shortened}
use Rattle.ft_orb.specs.Outputs.{WritesBy, after, is_going, output_cut}
use Rattle.ft_orb.specs.Owners.{OwnerOf, owned_rules, owned_says, owned_table}
use Rattle.ft_orb.specs.Parked.{elsewhere, going_in, is_wished, on_going}
use Rattle.ft_orb.specs.Requests.{Call, Terms, Wanted, asking}
use Rattle.ft_orb.specs.Seen.{seen_answer}
use Rattle.ft_orb.specs.Standing.{note_of}
use Rattle.ft_orb.specs.Table.{table_after, table_step}
use Rattle.ft_orb.specs.Tellings.{Later, answer_told, nothing_yet, reply_by, told_at}
use Rattle.ft_orb.specs.Waits.{asker_of}

-- an engine: what it serves, by how often that has changed, the limits of connections, how many outcomes may be kept, how many of each client, and
-- how many requests may be parked, in all and of one connection, and repeats wait for one outcome
pub record Settings : Type 0 where
  pub terms : ℕ → Terms
  pub limits : Limits
  pub capacity : ℕ
  pub share : ℕ
  pub places : Places

-- Its owner, by numbers: a call is answered by how many calls were taken before it, and `held i` is what is known of that: the outcome
-- of call i, or the number under which it is parked. So which requests act, which are repeats and which are refused depends on no
-- outcome.
abbrev pub numbering : Settings → Later → (ℕ → Holding) → OwnerOf ℕ
numbering s late held = record {
  terms = s.terms;
  answers = λ calls call. length calls;
  limits = s.limits;
  capacity = s.capacity;
  share = s.share;
  hold = held;
  is = Some (λ n i. n == i);
  late = late;
  tell = λ w answer. told_at late s.terms w (seen_answer held answer);
  tells = λ w answer. refl;
}

-- .. where nothing is said of what is parked
abbrev pub by_number : Settings → (ℕ → Holding) → OwnerOf ℕ
by_number s held = numbering s nothing_yet held

-- f, but x at n
abbrev pub put_at : {X : Type 0} → ℕ → X → (ℕ → X) → ℕ → X
put_at n x f m = if m == n then x else f m

-- what a repeat is told for which there is no place: its request may have acted, or not
abbrev pub no_place : (List ℕ → Bool) → Later
no_place knows w number = answer_told knows w (Ok (system Transient 0 Maybe))

-- .. where there is none
abbrev pub unless_placed : Bool → (List ℕ → Bool) → Later
unless_placed true knows = nothing_yet
unless_placed false knows = no_place knows

-- who asks by a question on a connection
abbrev pub waiter_of : ℕ → Question → Waiter
waiter_of c q = record { connection = c; asker = asker_of q }

-- .. and waits first for its outcome, where an answer is wished for
abbrev pub own_of : ℕ → Question → List Waiter
own_of c q = if is_wished q.wish then waiter_of c q ∷ [] else []

-- what an engine has parked under a number, as its owner sees it; how many requests it has parked; and the outcome that it tells
abbrev pub parked_at : {C : Type 0} → Engine C → ℕ → Option Parked
parked_at e n = get nat_cmp e.parked.requests n

abbrev pub parked_in : {C : Type 0} → Engine C → ℕ → Option Awaited
parked_in e n = option_map (λ (p : Parked). awaited_of p.pending) (parked_at e n)

abbrev pub parked_count : {C : Type 0} → Engine C → ℕ
parked_count e = btree_map_len e.parked.requests

-- whether one of these is a request of an object
abbrev pub is_wanted_in : {C : Type 0} → Engine C → List ℕ → Bool
is_wanted_in e key = is_parked_for key e.parked.requests

-- how many of these came on a connection; and how many wait on it, which goes on, for outcomes of any of them
abbrev pub parked_of : {C : Type 0} → Engine C → ℕ → ℕ
parked_of e c = parked_on e.parked.requests c

abbrev pub waits_on : {C : Type 0} → Engine C → ℕ → ℕ
waits_on e c = if going_in e.links c then waiters_on e.parked.requests c else 0

-- how many requests may be parked, in all and of those that came on one connection
abbrev pub places_of : {C : Type 0} → Engine C → ℕ
places_of e = e.places.parked

abbrev pub places_of_one : {C : Type 0} → Engine C → ℕ
places_of_one e = e.places.of_one

abbrev pub told_of : Option Parked → Option Performed
told_of None = None
told_of (Some p) = option_map performed_in p.outcome

abbrev pub told_in : {C : Type 0} → Engine C → ℕ → Option Performed
told_in e n = told_of (parked_at e n)

-- what is parked is as it was, and so are the outcomes that are told
abbrev pub AreParked : {C : Type 0} → Engine C → Engine C → Type 0
AreParked old new = (q : ℕ) → (parked_in new q ≡ parked_in old q) × (told_in new q ≡ told_in old q)

-- how many wait for it, those among them whose connections have ended
abbrev pub left_of : Option Parked → ℕ
left_of None = 0
left_of (Some p) = length p.waiters.items

abbrev pub left_in : {C : Type 0} → Engine C → ℕ → ℕ
left_in e n = left_of (parked_at e n)

-- how many of those who wait for it do so on connections that go on
abbrev pub wanted_of : (goes : ℕ → Bool) → Option Parked → ℕ
wanted_of goes None = 0
wanted_of goes (Some p) = length (on_going goes p.waiters.items)

abbrev pub wanted_in : {C : Type 0} → Engine C → (n : ℕ) → ℕ
wanted_in e n = wanted_of (going_in e.links) (parked_at e n)

-- those who wait for it on connections that go on, other than c
abbrev pub others_of : (goes : ℕ → Bool) → (c : ℕ) → Option Parked → List Waiter
others_of goes c None = []
others_of goes c (Some p) = elsewhere c (on_going goes p.waiters.items)

abbrev pub others_under : {C : Type 0} → Engine C → (c n : ℕ) → List Waiter
others_under e c n = others_of (going_in e.links) c (parked_at e n)

-- an outcome can be that of the request that is parked so: it has none yet, and it can be sent, and may be handed in for its operation
-- as that is on offer now
abbrev pub CanSettle : Offer → Option Parked → Performed → Type 0
CanSettle offer None outcome = ⊥
CanSettle offer (Some p) outcome = (p.outcome ≡ None) × IsRenderable outcome × IsAnswerOf (offer.interface p.pending.waiting.object_key.items p.pending.waiting.operation.items) outcome

-- what a request is told that is declined: it has done nothing (GIOP 9.4.3, COMPLETED_NO)
abbrev pub not_now : SystemName → (minor : ℕ) → Performed
not_now name minor = system name minor No

-- what is parked, once nothing is kept for it any more
abbrev pub keyless : Awaited → Awaited
keyless w = record { number = w.number; connection = w.connection; call = w.call; field = Absent; refused = w.refused }

-- the key under which an outcome is kept, if it is
abbrev pub key_kept : Option Retained → Option RequestKey
key_kept None = None
key_kept (Some r) = Some (key_of r.key)

-- what is kept of call i is kept under this key
abbrev pub AreKeyed : ℕ → Option RequestKey → List (KeptOutcome ℕ) → Type 0
AreKeyed i key entries = AllByRecursion (λ e. e.outcome ≡ i → key ≡ Some e.key) entries

-- what comes on a connection after this past has a meaning
abbrev pub goes_on : Limits → List Event → ℕ → Bool
goes_on limits past c = is_going limits (line past c)

-- its connection was opened, so no other has its number
abbrev pub was_opened : List Event → Waiter → Bool
was_opened past w = not (does_count past w.connection)

-- those who still wait after this past
abbrev pub still : Limits → List Event → (ℕ → List Waiter) → ℕ → List Waiter
still limits past waiting n = on_going (goes_on limits past) (waiting n)

-- What is parked: `waiting n` is who waits for the outcome under number n, on connections that go on, in the order in which they came.
-- The numbers are below `bound`.
pub record Parks {C : Type 0} (s : Settings) (held : ℕ → Holding) (calls : List Call) (engine : Engine C) (past : List Event) (bound : ℕ) (waiting : ℕ → List Waiter) : Type 0 where
  pub places : engine.places ≡ s.places
  -- what is parked can be answered
  pub there : (i n : ℕ) → i < length calls → held i ≡ parked n → IsSome (parked_at engine n)
  -- .. and nothing else is there
  pub call : (n : ℕ) (p : Parked) → parked_at engine n ≡ Some p → (i : ℕ) × (i < length calls) × (held i ≡ parked n) × AreKeyed i (key_kept p.pending.waiting.retained) (owned_table (by_number s held) past).entries
  pub once : (i j n : ℕ) → i < length calls → j < length calls → held i ≡ parked n → held j ≡ parked n → i ≡ j
  pub below : (i n : ℕ) → i < length calls → held i ≡ parked n → n < bound
  pub lists : (n : ℕ) (p : Parked) → parked_at engine n ≡ Some p → on_going (goes_on s.limits past) p.waiters.items ≡ waiting n
  pub opened : (n : ℕ) (p : Parked) → parked_at engine n ≡ Some p → list_all (was_opened past) p.waiters.items ≡ true

module _ {C : Type 0} (offers : C → Offer) (s : Settings) where
  -- nothing is asked, these calls were taken, of which so much is known, and these wait
  pub record Stays (held : ℕ → Holding) (calls : List Call) (engine : Engine C) (past : List Event) (waiting : ℕ → List Waiter) : Type 0 where
    pub rests : RestsOf offers (by_number s held) calls engine past
    pub parks : Parks s held calls engine past (asks_in engine) waiting

  -- a request waits for its outcome, or for its owner to park it
  pub record AsksLate (held : ℕ → Holding) (calls : List Call) (engine : Engine C) (past : List Event) (waiting : ℕ → List Waiter) (moment : ℕ) (octets written : List ℕ) (w : Awaited) : Type 0 where
    pub asks : AsksOf offers (by_number s held) calls engine past moment octets written w
    pub below : w.number < asks_in engine
    pub parks : Parks s held calls engine past w.number waiting

  -- An event was served to its end, and ended so. Whatever would be said to who asks for what is parked: nobody did.
  pub record EndsLate (held : ℕ → Holding) (calls : List Call) (past : List Event) (waiting : ℕ → List Waiter) (e : Event) (note : Note) (engine : Engine C) (before out : List ℕ) : Type 0 where
    pub ends : (late : Later) → EndsOf offers (numbering s late held) calls past e note engine before out
    pub stays : Stays held calls engine (after s.limits past e note) (still s.limits (after s.limits past e note) waiting)

  pub record StopsLate (held : ℕ → Holding) (calls : List Call) (past : List Event) (waiting : ℕ → List Waiter) (c moment : ℕ) (piece : List ℕ) (taken : ℕ) (engine : Engine C) (before out : List ℕ) : Type 0 where
    pub stops : (late : Later) → StopsOf offers (numbering s late held) calls past c moment piece taken engine before out
    pub asks : (written : List ℕ) × (number : ℕ) × (call : Call) × (w : Awaited) × (w.connection ≡ c) × AsksLate held calls engine past waiting moment (take taken piece) written w

  -- A piece was served up to a repeat of a request that is parked. It waits, where an answer is wished for and not more than so many wait
  -- already; else it is told so.
  pub record RepeatsLate (held : ℕ → Holding) (calls : List Call) (past : List Event) (waiting : ℕ → List Waiter) (c moment : ℕ) (piece : List ℕ) (taken : ℕ) (engine : Engine C) (before out : List ℕ) : Type 0 where
    pub front : List (Arrival Wanted)
    pub last : Arrival Wanted
    pub completes : completed s.limits past (Piece c moment (take taken piece)) ≡ front ++ last ∷ []
    pub short : shortened s.limits past (Piece c moment piece) (length front + 1) ≡ Piece c moment (take taken piece)
    pub question : Question
    pub content : last.content ≡ asking (origin past c) question
    pub i : ℕ
    pub number : ℕ
    pub is_parked : held i ≡ parked number
    pub says : (table_step (owned_rules (by_number s held)) (table_after (owned_rules (by_number s held)) (owned_table (by_number s held) past) front) last).1 ≡ Ok i
    -- whatever would be said to who asks for what is parked: before it nobody did
    pub quiet : (late : Later) → output_cut s.limits (numbering s late held).tell (owned_says (by_number s held)) past (Piece c moment (take taken piece)) (length front)
        ≡ output_cut s.limits (by_number s held).tell (owned_says (by_number s held)) past (Piece c moment (take taken piece)) (length front)
    pub placed : Bool
    pub place_is : placed ≡ not (nat_lt s.places.joined (length (still s.limits (Piece c moment (take taken piece) ∷ past) waiting number)))
    pub ends : EndsOf offers (numbering s (unless_placed placed (s.terms (changes past)).knows) held) calls past (Piece c moment (take taken piece)) Done engine before out
    pub stays : Stays held calls engine (Piece c moment (take taken piece) ∷ past)
        (still s.limits (Piece c moment (take taken piece) ∷ past) (put_at number (waiting number ++ (if is_wished question.wish && placed then waiter_of c question ∷ [] else [])) waiting))

  abbrev pub FeedsLate : (held : ℕ → Holding) → List Call → List Event → (waiting : ℕ → List Waiter) → (c moment : ℕ) → List ℕ → Result Fed ServeError → Engine C → List ℕ → List ℕ → Type 0
  FeedsLate held calls past waiting c moment piece (Ok fed.Whole) engine before out = EndsLate held calls past waiting (Piece c moment piece) Done engine before out
  FeedsLate held calls past waiting c moment piece (Ok (fed.Asks taken)) engine before out = StopsLate held calls past waiting c moment piece taken engine before out
  FeedsLate held calls past waiting c moment piece (Ok (fed.Repeats taken)) engine before out = RepeatsLate held calls past waiting c moment piece taken engine before out
  FeedsLate held calls past waiting c moment piece (Err e) engine before out = EndsLate held calls past waiting (Piece c moment piece) (note_of {A = Fed} (Err e)) engine before out

  -- What waited has its outcome, was parked, or was given up: what is known of its call is this, and these wait.
  pub record ResumesLate (held : ℕ → Holding) (calls : List Call) (past : List Event) (waiting : ℕ → List Waiter) (c moment : ℕ) (octets written : List ℕ) (note : Note) (engine : Engine C) (before out : List ℕ) : Type 0 where
    pub resumes : ResumesOf offers (by_number s held) calls past c moment octets written note engine before out
    pub stays : Stays held calls engine (after s.limits past (Piece c moment octets) note) (still s.limits (after s.limits past (Piece c moment octets) note) waiting)

  -- What waited was declined: its call was taken, and withdrawn at once, so that nothing is kept for it, and the answer to it is that
  -- refusal.
  pub record DeclinesLate (held : ℕ → Holding) (calls : List Call) (past : List Event) (waiting : ℕ → List Waiter) (moment : ℕ) (octets written : List ℕ) (w : Awaited) (refusal : Performed) (engine : Engine C) (before out : List ℕ) : Type 0 where
    pub more : List ℕ
    pub appended : out ≡ before ++ more
    pub writes : WritesBy s.limits (by_number s (put_at (length calls) (known refusal) held)).tell (owned_says (by_number s (put_at (length calls) (known refusal) held))) past (Piece w.connection moment octets) (written ++ more) Done
    pub stays : Stays (put_at (length calls) (known refusal) held) (calls ++ w.call ∷ []) engine (Withdrew (length calls) ∷ Piece w.connection moment octets ∷ past) (still s.limits (Piece w.connection moment octets ∷ past) waiting)

  -- .. or it was parked, and nothing is kept for its call any more, which is i; it is still to be told
  pub record WithdrawsLate (held : ℕ → Holding) (calls : List Call) (past : List Event) (waiting : ℕ → List Waiter) (n : ℕ) (engine : Engine C) : Type 0 where
    pub i : ℕ
    pub taken : i < length calls
    pub was : held i ≡ parked n
    pub stays : Stays held calls engine (Withdrew i ∷ past) waiting

  -- the outcome of call i, which was parked under number n, was told to all who waited, and is kept where it is to be
  pub record IsSettled (held : ℕ → Holding) (calls : List Call) (past : List Event) (waiting : ℕ → List Waiter) (n : ℕ) (outcome : Performed) (engine : Engine C) : Type 0 where
    pub i : ℕ
    pub taken : i < length calls
    pub was : held i ≡ parked n
    pub told : waiting n ≡ []
    pub stays : Stays (put_at i (known outcome) held) calls engine past waiting

  -- a reply is due on this connection; or all replies were made; or there is no outcome to tell
  abbrev pub IsDueLate : (held : ℕ → Holding) → List Call → List Event → (waiting : ℕ → List Waiter) → (n : ℕ) → Option Performed → Option ℕ → Engine C → Type 0
  IsDueLate held calls past waiting n (Some outcome) (Some c) engine = Stays held calls engine past waiting × (w : Waiter) × (rest : List Waiter) × (waiting n ≡ w ∷ rest) × (w.connection ≡ c)
  IsDueLate held calls past waiting n (Some outcome) None engine = IsSettled held calls past waiting n outcome engine
  IsDueLate held calls past waiting n None (Some c) engine = ⊥
  IsDueLate held calls past waiting n None None engine = Stays held calls engine past waiting

  -- a reply was made, or an allocation failed for it, and the connection is lost
  abbrev pub RepliesLate : (held : ℕ → Holding) → List Call → List Event → (waiting : ℕ → List Waiter) → (n : ℕ) → Performed → Waiter → List Waiter → Result (Unit {0}) ServeError → Engine C → List ℕ → List ℕ → Type 0
  RepliesLate held calls past waiting n outcome w rest (Ok x) engine before out =
      (out ≡ before ++ reply_by w.asker.wish w.asker.version w.asker.request_id outcome) × Stays held calls engine past (put_at n rest waiting)
  RepliesLate held calls past waiting n outcome w rest (Err serving.NoConnection) engine before out = ⊥
  RepliesLate held calls past waiting n outcome w rest (Err (serving.Memory handled answered)) engine before out =
      (handled ≡ 0) × (answered ≡ 0) × (out ≡ before) × (0 < length (reply_by w.asker.wish w.asker.version w.asker.request_id outcome))
      × Stays held calls engine (Lost w.connection ∷ past) (still s.limits (Lost w.connection ∷ past) (put_at n rest waiting))
