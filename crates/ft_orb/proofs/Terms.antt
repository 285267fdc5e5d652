-- One arrival, under what is served when it arrives.
use Rattle.std.proofs.Common.{◌≡◌, ℕ, ◌<◌, Bool, true, false, cond, nat_lt, List, [], ◌∷◌, ◌++◌, length, Option, Some, None, Result, Ok, Err, refl, sym, ap, subst, ◌∙◌}
use Rattle.giop_core.specs.Keys.{key_of_addressed}
use Rattle.giop_link.specs.Hearing.{Incoming, Question, asks, cancels, locates}
use Rattle.ft_log.specs.Holding.{Holding}
use Rattle.ft_log.specs.Keys.{RequestKey}
use Rattle.ft_log.specs.Kept.{KeptOutcome, kept_for, keys_of, unexpired}
use Rattle.ft_log.specs.declared.system_exception.SystemName.{SystemName}
use Rattle.ft_log.specs.declared.system_exception.SystemName.TheVariants.{BadContext}
use Rattle.ft_orb.specs.Begun.{Begun}
use Rattle.ft_orb.specs.Begun as begun
use Rattle.ft_orb.specs.Decided.{AreTallied, decided_by}
use Rattle.ft_orb.specs.Decisions.{counted_with, decision_by, decision_for, decision_on}
use Rattle.ft_orb.specs.ExactlyOnce.{Absent, Arrival, Bad, Field, Present, Rules}
use Rattle.ft_orb.specs.Owners.{Voice, answered_so_far, owner_rules}
use Rattle.ft_orb.specs.Private.{StepsOne, arrivals_at}
use Rattle.ft_orb.specs.Requests.{Call, Origin, Terms, Wanted, asked_at, asked_of, arrival_at, asked_within, asking, call_first, call_for, call_keyed, call_within, field_in, field_of, first_with, is_named_within, is_within, locating, origin_of, raw_call, refusal_at, refusal_first}
use Rattle.ft_orb.specs.Table.{Table, forgotten, keyed_step, performing_step, step_by_field, table_step}
use Rattle.ft_orb.specs.Tellings.{held_told, octets_if, rendering, told_at}
use Rattle.ft_orb.specs.Waits.{Begins, BeginsAll, Joins, Spells, Waits}
use Rattle.ft_objects.specs.Interfaces.{Interface}
use Rattle.ft_objects.specs.declared.decided.Decision.{Decision}
use Rattle.ft_orb.specs.declared.counts.Counts.{Counts}
use Rattle.ft_orb.specs.declared.desk.Step.{Step}
use Rattle.ft_orb.specs.declared.desk.Step.TheVariants.{Answered, Quiet, Unanswered, Unhandled}
use Rattle.ft_orb.specs.declared.keeper.Repeat.{Repeat}
use Rattle.ft_orb.specs.declared.keeper.Waiting.{Waiting}

-- A step asks for one call alone.
module _ {Outcome : Type 0} (ask other : Wanted → Result Call SystemName) (answers : List Call → Call → Outcome) (capacity share : ℕ) where
  abbrev A : Rules (List Call) Wanted Call Outcome
  A = owner_rules ask answers capacity share

  abbrev B : Rules (List Call) Wanted Call Outcome
  B = owner_rules other answers capacity share

  performing-same : (t : Table (List Call) Outcome) (key : RequestKey) (e : ℕ) (call : Call) (room : Bool) → performing_step A t key e call room ≡ performing_step B t key e call room
  performing-same t key e call true = refl
  performing-same t key e call false = refl

  keyed-same : (t : Table (List Call) Outcome) (key : RequestKey) (e : ℕ) (asked : Result Call SystemName) (kept : Option Outcome) → keyed_step A t key e asked kept ≡ keyed_step B t key e asked kept
  keyed-same t key e asked (Some outcome) = refl
  keyed-same t key e (Err refusal) None = refl
  keyed-same t key e (Ok call) None = performing-same t key e call (A.has_room key (keys_of t.entries))

  field-same : (t : Table (List Call) Outcome) (clock : ℕ) (asked : Result Call SystemName) (f : Field) → step_by_field A t clock asked f ≡ step_by_field B t clock asked f
  field-same t clock asked Bad = refl
  field-same t clock asked Absent = refl
  field-same t clock asked (Present key e) = ap (λ (x : Table (List Call) Outcome × Result Outcome SystemName). cond (nat_lt e clock) (t, Err BadContext) x) (keyed-same (forgotten clock t) key e asked (kept_for key (unexpired clock t.entries)))

  pub step-same : (t : Table (List Call) Outcome) (a : Arrival Wanted) → ask a.content ≡ other a.content → table_step A t a ≡ table_step B t a
  step-same t a is = field-same t a.clock (ask a.content) a.field ∙ ap (λ (r : Result Call SystemName). step_by_field B t a.clock r a.field) is

-- what is asked for and said under what was served when it arrived
asked-served : (terms : ℕ → Terms) (served : Terms) (w : Wanted) → terms (origin_of w).changes ≡ served → asked_at terms w ≡ asked_at (λ n. served) w
asked-served terms served w is = ap (λ (t : Terms). asked_within t.first t.longest t.interface w) is

would-served : (terms : ℕ → Terms) (served : Terms) (w : Wanted) → terms (origin_of w).changes ≡ served → refusal_at terms w ≡ refusal_at (λ n. served) w
would-served terms served w is = ap (λ (t : Terms). refusal_first (first_with t.first (field_in w)) (asked_of t.interface w)) is

module _ (terms : ℕ → Terms) (served : Terms) (voice : Voice) (capacity share now : ℕ) where
  abbrev Ours : Rules (List Call) Wanted Call Holding
  Ours = owner_rules (asked_at terms) voice.answers capacity share

  abbrev Fixed : Rules (List Call) Wanted Call Holding
  Fixed = owner_rules (asked_at (λ n. served)) voice.answers capacity share

  step-served : (t : Table (List Call) Holding) (a : Arrival Wanted) → terms (origin_of a.content).changes ≡ served → table_step Ours t a ≡ table_step Fixed t a
  step-served t a is = step-same (asked_at terms) (asked_at (λ n. served)) voice.answers capacity share t a (asked-served terms served a.content is)

  said-served : (w : Wanted) (r : Result Holding SystemName) → terms (origin_of w).changes ≡ served → rendering (told_at voice.late terms) w r ≡ rendering (told_at voice.late (λ n. served)) w r
  unfolding rendering
  said-served w r is = ap (λ (t : Terms). octets_if (held_told voice.late t.knows w r)) is

  both-served : (t : Table (List Call) Holding) (a : Arrival Wanted) → terms (origin_of a.content).changes ≡ served
      → rendering (told_at voice.late terms) a.content (table_step Ours t a).1 ≡ rendering (told_at voice.late (λ n. served)) a.content (table_step Fixed t a).1
  both-served t a is = said-served a.content (table_step Ours t a).1 is ∙ ap (λ (x : Table (List Call) Holding × Result Holding SystemName). rendering (told_at voice.late (λ n. served)) a.content x.1) (step-served t a is)

  steps-served : (a : Arrival Wanted) (old : Table (List Call) Holding) (step : Step) (new : Table (List Call) Holding) (before out : List ℕ) → terms (origin_of a.content).changes ≡ served
      → StepsOne Fixed (told_at voice.late (λ n. served)) now a old step new before out → StepsOne Ours (told_at voice.late terms) now a old step new before out
  steps-served a old Quiet new before out is h = absurd h
  steps-served a old Answered new before out is h = (
    ap (λ (x : Table (List Call) Holding × Result Holding SystemName). x.0) (step-served old a is) ∙ h.0,
    h.1 ∙ ap (λ (l : List ℕ). before ++ l) (sym (both-served old a is)),
  )
  steps-served a old Unanswered new before out is h = (
    ap (λ (x : Table (List Call) Holding × Result Holding SystemName). x.0) (step-served old a is) ∙ h.0,
    h.1,
    subst (λ (l : List ℕ). 0 < length l) (sym (both-served old a is)) h.2,
  )
  steps-served a old Unhandled new before out is h = h

  origin-served : (w : Wanted) (c : Origin) → terms (origin_of w).changes ≡ served → origin_of w ≡ c → terms c.changes ≡ served
  origin-served w c is from = ap (λ (o : Origin). terms o.changes) (sym from) ∙ is

  waits-served : (a : Arrival Wanted) (w : Waiting) (calls : List Call) (old new : List (KeptOutcome Holding)) → terms (origin_of a.content).changes ≡ served
      → Waits (λ n. served) voice capacity share now a w calls old new → Waits terms voice capacity share now a w calls old new
  waits-served a w calls old new is h = record {
    c = h.c;
    q = h.q;
    content = h.content;
    field = h.field;
    spells = subst (λ (t : Terms). Spells (first_with t.first a.field) t.interface h.q w) (sym (origin-served a.content h.c is (ap origin_of h.content))) h.spells;
    asks = asked-served terms served a.content is ∙ h.asks;
    refused = h.refused ∙ sym (would-served terms served a.content is);
    still = h.still;
    steps = step-served (answered_so_far calls old) a is ∙ h.steps;
  }

  joins-served : (a : Arrival Wanted) (r : Repeat) (calls : List Call) (old new : List (KeptOutcome Holding)) → terms (origin_of a.content).changes ≡ served
      → Joins (λ n. served) voice capacity share now a r calls old new → Joins terms voice capacity share now a r calls old new
  joins-served a r calls old new is h = record {
    c = h.c;
    q = h.q;
    content = h.content;
    asker = h.asker;
    still = h.still;
    steps = step-served (answered_so_far calls old) a is ∙ h.steps;
  }

  begins-one : (calls : List Call) (a : Arrival Wanted) (old : List (KeptOutcome Holding)) (b : Begun) (new : List (KeptOutcome Holding)) (before out : List ℕ) → terms (origin_of a.content).changes ≡ served
      → Begins (λ n. served) voice capacity share now calls a old b new before out → Begins terms voice capacity share now calls a old b new before out
  begins-one calls a old (begun.Done step) new before out is h = steps-served a (answered_so_far calls old) step (answered_so_far calls new) before out is h
  begins-one calls a old (begun.Asks w) new before out is h = (h.0, waits-served a w calls old new is h.1)
  begins-one calls a old (begun.Repeats r) new before out is h = (h.0, joins-served a r calls old new is h.1)

  -- what comes of a message from there
  pub begins-served : (c : Origin) (o : Option Incoming) (calls : List Call) (old : List (KeptOutcome Holding)) (b : Begun) (new : List (KeptOutcome Holding)) (before out : List ℕ) → terms c.changes ≡ served
      → BeginsAll (λ n. served) voice capacity share now calls (arrivals_at c now o) old b new before out → BeginsAll terms voice capacity share now calls (arrivals_at c now o) old b new before out
  begins-served c None calls old b new before out is h = h
  begins-served c (Some (asks q)) calls old b new before out is h = begins-one calls (arrival_at c now q) old b new before out is h
  begins-served c (Some (locates version id to)) calls old b new before out is h = begins-one calls (record { field = Absent; clock = now; content = locating c version id to }) old b new before out is h
  begins-served c (Some (cancels id)) calls old b new before out is h = h

-- .. is counted so
module _ (terms : ℕ → Terms) (served : Terms) (capacity share now : ℕ) where
  decision-served : (entries : List (KeptOutcome Holding)) (a : Arrival Wanted) → terms (origin_of a.content).changes ≡ served → decision_on terms capacity share entries a ≡ decision_on (λ n. served) capacity share entries a
  decision-served entries a is = ap (λ (r : Result Call SystemName). decision_for a.content (decision_by capacity share (unexpired a.clock entries) a.clock r a.field)) (asked-served terms served a.content is)

  tallied-one : (entries : List (KeptOutcome Holding)) (a : Arrival Wanted) (b : Begun) (old new : Counts) → terms (origin_of a.content).changes ≡ served → AreTallied (λ n. served) capacity share entries (a ∷ []) b old new → AreTallied terms capacity share entries (a ∷ []) b old new
  tallied-one entries a b old new is h = h ∙ ap (λ (d : Decision). counted_with old (decided_by b d)) (sym (decision-served entries a is))

  pub tallied-served : (c : Origin) (o : Option Incoming) (entries : List (KeptOutcome Holding)) (b : Begun) (old new : Counts) → terms c.changes ≡ served
      → AreTallied (λ n. served) capacity share entries (arrivals_at c now o) b old new → AreTallied terms capacity share entries (arrivals_at c now o) b old new
  tallied-served c None entries b old new is h = h
  tallied-served c (Some (asks q)) entries b old new is h = tallied-one entries (arrival_at c now q) b old new is h
  tallied-served c (Some (locates version id to)) entries b old new is h = tallied-one entries (record { field = Absent; clock = now; content = locating c version id to }) b old new is h
  tallied-served c (Some (cancels id)) entries b old new is h = h

-- what is asked by a request without a key, whatever the bound is
pub asked-free : (first : Bool) (longest : Option ℕ) (interface : List ℕ → List ℕ → Interface) (c : Origin) (q : Question) → field_of q.contexts ≡ Absent → asked_within first longest interface (asking c q) ≡ asked_of interface (asking c q)
asked-free false None interface c q has = refl
asked-free false (Some longest) interface c q has = ap (λ (f : Field). call_within (is_within (Some longest) f) (asked_of interface (asking c q))) has
asked-free true longest interface c q has = ap (λ (f : Field). call_within (is_within longest f) (call_first (first_with true f) (raw_call q) (asked_of interface (asking c q)))) has ∙ free longest
  where
    free : (longest : Option ℕ) → call_within (is_within longest Absent) (asked_of interface (asking c q)) ≡ asked_of interface (asking c q)
    free None = refl
    free (Some longest) = refl

-- .. by one with a key, whose client's id is within the bound or beyond it
pub asked-by-key : (first : Bool) (longest : Option ℕ) (interface : List ℕ → List ℕ → Interface) (c : Origin) (q : Question) (key : RequestKey) (e : ℕ) → field_of q.contexts ≡ Present key e
    → asked_within first longest interface (asking c q) ≡ call_within (is_named_within longest key.client_id) (call_first first (raw_call q) (call_for interface q (key_of_addressed q.target)))
asked-by-key false None interface c q key e is = refl
asked-by-key false (Some longest) interface c q key e is = ap (λ (f : Field). call_within (is_within (Some longest) f) (asked_of interface (asking c q))) is
asked-by-key true longest interface c q key e is = ap (λ (f : Field). call_within (is_within longest f) (call_first (first_with true f) (raw_call q) (asked_of interface (asking c q)))) is ∙ named longest
  where
    named : (longest : Option ℕ) → call_within (is_within longest (Present key e)) (call_first true (raw_call q) (asked_of interface (asking c q))) ≡ call_within (is_named_within longest key.client_id) (call_first true (raw_call q) (asked_of interface (asking c q)))
    named None = refl
    named (Some longest) = refl

-- .. where it is within it: the call, or what refuses it
pub asked-in : (first : Bool) (longest : Option ℕ) (interface : List ℕ → List ℕ → Interface) (c : Origin) (q : Question) (key : RequestKey) (e : ℕ) (r : Result Call SystemName) → field_of q.contexts ≡ Present key e → is_named_within longest key.client_id ≡ true
    → call_first first (raw_call q) (call_for interface q (key_of_addressed q.target)) ≡ r → asked_within first longest interface (asking c q) ≡ r
asked-in first longest interface c q key e r has within is =
    asked-by-key first longest interface c q key e has ∙ ap (λ (b : Bool). call_within b (call_first first (raw_call q) (call_for interface q (key_of_addressed q.target)))) within ∙ is

-- .. and where it is beyond it
pub asked-beyond : (first : Bool) (longest : Option ℕ) (interface : List ℕ → List ℕ → Interface) (c : Origin) (q : Question) (key : RequestKey) (e : ℕ) → field_of q.contexts ≡ Present key e → is_named_within longest key.client_id ≡ false
    → asked_within first longest interface (asking c q) ≡ Err BadContext
asked-beyond first longest interface c q key e has beyond =
    asked-by-key first longest interface c q key e has ∙ ap (λ (b : Bool). call_within b (call_first first (raw_call q) (call_for interface q (key_of_addressed q.target)))) beyond
