-- What a server, or an engine, goes by; and its table with outcomes as the log keeps them.
use Rattle.std.proofs.Common.{◌≡◌, ℕ, Bool, true, false, cond, nat_le, nat_lt, List, [], ◌∷◌, map, Option, Some, None, Result, Ok, Err, refl, sym, ap, ◌∙◌}
use Rattle.std.specs.List.{cons_option}
use Rattle.std.specs.Option.{option_map}
use Rattle.std.proofs.lemmas.List.{map-append}
use Rattle.giop_frames.specs.declared.limits.Limits.{Limits}
use Rattle.ft_log.specs.Holding.{Holding, known}
use Rattle.ft_log.specs.Keys.{RequestKey, same_key}
use Rattle.ft_log.specs.Kept.{KeptOutcome, kept_for, keys_of, unexpired}
use Rattle.ft_log.specs.Performed.{Performed}
use Rattle.ft_log.specs.declared.system_exception.SystemName.{SystemName}
use Rattle.ft_log.specs.declared.system_exception.SystemName.TheVariants.{BadContext}
use Rattle.ft_objects.specs.Servants.{Meaning}
use Rattle.ft_orb.specs.ExactlyOnce.{Absent, Arrival, Bad, Field, Present, Rules, answers_after}
use Rattle.ft_orb.specs.History.{Changed, Close, Event, KeepsAll, Lost, Opened, Piece, Withdrew, arrivals, completed}
use Rattle.ft_orb.specs.Outputs.{Made, table_of_past}
use Rattle.ft_orb.specs.Requests.{Call, Wanted, rules_of, asked_at}
use Rattle.ft_orb.specs.Seen.{TablesAreSeen, seen_answer, seen_entry, seen_rules, seen_table}
use Rattle.ft_orb.specs.Standing.{Shown, StandsBy}
use Rattle.ft_orb.specs.Table.{Table, forgotten, keyed_step, performing_step, step_by_field, table_after, table_answers, table_step}
use Rattle.ft_orb.specs.Tellings.{Later, Teller, Telling, answer_told, answers_told, held_told, nothing_yet, octets_told, rendered, told_at}
use Rattle.std.specs.List.{flat_map}
use Rattle.ft_orb.specs.Now.{answers_now_after}
use Rattle.ft_orb.specs.Owners.{Owner, OwnerOf, owned_rules, owned_table, owner_rules, owning, table_by as owner_table}
use Rattle.ft_orb.proofs.Folded.{table_after-append}

-- the event takes nothing out of a table
abbrev pub IsLive : Event → Type 0
IsLive (Opened c) = Unit {0}
IsLive (Piece c moment octets) = Unit {0}
IsLive (Close c) = Unit {0}
IsLive (Lost c) = Unit {0}
IsLive (Withdrew i) = ⊥
IsLive Changed = Unit {0}

-- limits of connections, how many outcomes are kept, how many of each client, the state at first, the rules, by how many are kept,
-- how an outcome is held, what is told of it as it is held, and as it is, and the table of a past
pub record Book (S O : Type 0) : Type 0 where
  pub limits : Limits
  pub capacity : ℕ
  pub share : ℕ
  pub opening : S
  pub rules : ℕ → ℕ → Rules S Wanted Call O
  pub hold : O → Holding
  pub said : Teller Holding
  pub tell : Teller O
  pub tells : (w : Wanted) (a : Result O SystemName) → said w (seen_answer hold a) ≡ tell w a
  pub table : List Event → Table S O
  pub next : (past : List Event) (e : Event) → IsLive e → table (e ∷ past) ≡ table_after (rules capacity share) (table past) (completed limits past e)

module _ {S O : Type 0} (b : Book S O) where
  abbrev pub ruled : Rules S Wanted Call O
  ruled = b.rules b.capacity b.share

  abbrev pub table_by : List Event → Table S O
  table_by past = b.table past

  -- it is folded over all arrivals of the past
  abbrev pub IsFolded : List Event → Type 0
  IsFolded past = table_by past ≡ table_after ruled (record { state = b.opening; entries = [] }) (arrivals b.limits past)

  abbrev pub says_by : List Event → Event → List (Result O SystemName)
  says_by past e = table_answers ruled (table_by past) (completed b.limits past e)

  -- the answers of the fold that remembers all, and those with each key by itself
  abbrev pub law_by : List Event → Event → List (Result O SystemName)
  law_by past e = answers_after ruled b.opening (arrivals b.limits past) (completed b.limits past e)

  abbrev pub now_by : List Event → Event → List (Result O SystemName)
  now_by past e = answers_now_after ruled b.opening (arrivals b.limits past) (completed b.limits past e)

  abbrev pub StandsFor : Shown S → List Event → Type 0
  StandsFor server past = StandsBy b.limits b.capacity b.share (λ p. seen_table b.hold (table_by p)) server past

  answers-seen : (xs : List (Arrival Wanted)) (answers : List (Result O SystemName)) → answers_told b.said xs (map (seen_answer b.hold) answers) ≡ answers_told b.tell xs answers
  answers-seen [] answers = refl
  answers-seen (x ∷ xs) [] = refl
  answers-seen (x ∷ xs) (a ∷ answers) = λ i. cons_option (b.tells x.content a i) (answers-seen xs answers i)

  -- the octets of answers are those of what is held of them
  pub rendered-seen : (xs : List (Arrival Wanted)) (answers : List (Result O SystemName)) → rendered b.said xs (map (seen_answer b.hold) answers) ≡ rendered b.tell xs answers
  rendered-seen xs answers = ap (λ (ts : List Telling). flat_map octets_told ts) (answers-seen xs answers)

pub known-tells : (late : Later) (knows : List ℕ → Bool) (w : Wanted) (a : Result Performed SystemName) → held_told late knows w (seen_answer known a) ≡ answer_told knows w a
known-tells late knows w (Ok outcome) = refl
known-tells late knows w (Err refusal) = refl

-- a servant's
abbrev pub book_of : {S : Type 0} → Meaning S → Made S → Book S Performed
book_of meaning made = record {
  limits = made.limits;
  capacity = made.capacity;
  share = made.share;
  opening = made.opening;
  rules = λ capacity share. rules_of meaning capacity share;
  hold = known;
  said = held_told nothing_yet meaning.knows;
  tell = answer_told meaning.knows;
  tells = known-tells nothing_yet meaning.knows;
  table = table_of_past meaning made;
  next = λ past e live. table_after-append (rules_of meaning made.capacity made.share) (record { state = made.opening; entries = [] }) (arrivals made.limits past) (completed made.limits past e);
}

-- an owner's table after an event that takes nothing out
pub owned-next : {O : Type 0} (o : OwnerOf O) (past : List Event) (e : Event) → IsLive e → owned_table o (e ∷ past) ≡ table_after (owned_rules o) (owned_table o past) (completed o.limits past e)
owned-next {O} o past e live = by o.is e live
  where
    by : (x : Option (O → ℕ → Bool)) (e : Event) → IsLive e → owner_table (owned_rules o) o.limits x (e ∷ past) ≡ table_after (owned_rules o) (owner_table (owned_rules o) o.limits x past) (completed o.limits past e)
    by None e live = table_after-append (owned_rules o) (record { state = []; entries = [] }) (arrivals o.limits past) (completed o.limits past e)
    by (Some is) (Opened c) live = refl
    by (Some is) (Piece c moment octets) live = refl
    by (Some is) (Close c) live = refl
    by (Some is) (Lost c) live = refl
    by (Some is) (Withdrew i) live = absurd live
    by (Some is) Changed live = refl

folded-next : {O : Type 0} (o : OwnerOf O) (x : Option (O → ℕ → Bool)) (past : List Event) (e : Event) → owner_table (owned_rules o) o.limits x past ≡ table_after (owned_rules o) (record { state = []; entries = [] }) (arrivals o.limits past)
    → table_after (owned_rules o) (owner_table (owned_rules o) o.limits x past) (completed o.limits past e) ≡ table_after (owned_rules o) (record { state = []; entries = [] }) (arrivals o.limits (e ∷ past))
folded-next {O} o x past e before =
    ap (λ (t : Table (List Call) O). table_after (owned_rules o) t (completed o.limits past e)) before
    ∙ sym (table_after-append (owned_rules o) (record { state = []; entries = [] }) (arrivals o.limits past) (completed o.limits past e))

-- an owner's
abbrev pub book_by : {O : Type 0} → OwnerOf O → Book (List Call) O
book_by o = record {
  limits = o.limits;
  capacity = o.capacity;
  share = o.share;
  opening = [];
  rules = λ capacity share. owner_rules (asked_at o.terms) o.answers capacity share;
  hold = o.hold;
  said = told_at o.late o.terms;
  tell = o.tell;
  tells = λ w a. sym (o.tells w a);
  table = owned_table o;
  next = owned-next o;
}

-- where nothing was withdrawn, the table is folded over all arrivals
pub kept-folded : {O : Type 0} (o : OwnerOf O) (past : List Event) → KeepsAll past → IsFolded (book_by o) past
kept-folded {O} o past kept = by o.is past kept
  where
    by : (x : Option (O → ℕ → Bool)) (past : List Event) → KeepsAll past → owner_table (owned_rules o) o.limits x past ≡ table_after (owned_rules o) (record { state = []; entries = [] }) (arrivals o.limits past)
    by None past kept = refl
    by (Some is) [] kept = refl
    by (Some is) (Opened c ∷ past) kept = folded-next o (Some is) past (Opened c) (by (Some is) past kept)
    by (Some is) (Piece c moment octets ∷ past) kept = folded-next o (Some is) past (Piece c moment octets) (by (Some is) past kept)
    by (Some is) (Close c ∷ past) kept = folded-next o (Some is) past (Close c) (by (Some is) past kept)
    by (Some is) (Lost c ∷ past) kept = folded-next o (Some is) past (Lost c) (by (Some is) past kept)
    by (Some is) (Withdrew i ∷ past) kept = absurd kept
    by (Some is) (Changed ∷ past) kept = folded-next o (Some is) past Changed (by (Some is) past kept)

-- .. and where nothing ever can be
pub owning-folded : (o : Owner) (past : List Event) → IsFolded (book_by (owning o)) past
owning-folded o past = refl

-- Tables are seen.
module _ {O P : Type 0} (see : O → P) where
  seen-keys : (es : List (KeptOutcome O)) → keys_of (map (seen_entry see) es) ≡ keys_of es
  seen-keys [] = refl
  seen-keys (e ∷ es) = ap (λ (ks : List RequestKey). e.key ∷ ks) (seen-keys es)

  pub seen-unexpired : (clock : ℕ) (es : List (KeptOutcome O)) → unexpired clock (map (seen_entry see) es) ≡ map (seen_entry see) (unexpired clock es)
  seen-unexpired clock [] = refl
  seen-unexpired clock (e ∷ es) =
      ap (λ (xs : List (KeptOutcome P)). cond (nat_le clock e.expiration) (seen_entry see e ∷ xs) xs) (seen-unexpired clock es)
      ∙ (elim (nat_le clock e.expiration) as (λ (b : Bool). cond b (seen_entry see e ∷ map (seen_entry see) (unexpired clock es)) (map (seen_entry see) (unexpired clock es)) ≡ map (seen_entry see) (cond b (e ∷ unexpired clock es) (unexpired clock es)))
      [ true ↦ refl | false ↦ refl ])

  seen-found : (key : RequestKey) (es : List (KeptOutcome O)) → kept_for key (map (seen_entry see) es) ≡ option_map see (kept_for key es)
  seen-found key [] = refl
  seen-found key (e ∷ es) =
      ap (λ (o : Option P). cond (same_key key e.key) (Some (see e.outcome)) o) (seen-found key es)
      ∙ (elim (same_key key e.key) as (λ (b : Bool). cond b (Some (see e.outcome)) (option_map see (kept_for key es)) ≡ option_map see (cond b (Some e.outcome) (kept_for key es))) [ true ↦ refl | false ↦ refl ])

  module _ {S C K : Type 0} (rules : Rules S C K O) where
    abbrev Seen : Rules S C K P
    Seen = seen_rules see rules

    abbrev Step : Table S O × Result O SystemName → Table S P × Result P SystemName
    Step x = (seen_table see x.0, seen_answer see x.1)

    performing-seen : (t : Table S O) (key : RequestKey) (e : ℕ) (call : K) (room : Bool) → performing_step Seen (seen_table see t) key e call room ≡ Step (performing_step rules t key e call room)
    performing-seen t key e call false = refl
    performing-seen t key e call true =
        ap (λ (es : List (KeptOutcome P)). (record { state = (rules.apply t.state call).0; entries = es }, Ok (see (rules.apply t.state call).1)))
        (sym (map-append (seen_entry see) t.entries (record { key = key; expiration = e; outcome = (rules.apply t.state call).1 } ∷ [])))

    keyed-seen : (t : Table S O) (key : RequestKey) (e : ℕ) (asked : Result K SystemName) (kept : Option O) → keyed_step Seen (seen_table see t) key e asked (option_map see kept) ≡ Step (keyed_step rules t key e asked kept)
    keyed-seen t key e asked (Some outcome) = refl
    keyed-seen t key e (Err refusal) None = refl
    keyed-seen t key e (Ok call) None =
        ap (λ (ks : List RequestKey). performing_step Seen (seen_table see t) key e call (rules.has_room key ks)) (seen-keys t.entries) ∙ performing-seen t key e call (rules.has_room key (keys_of t.entries))

    field-seen : (t : Table S O) (clock : ℕ) (asked : Result K SystemName) (f : Field) → step_by_field Seen (seen_table see t) clock asked f ≡ Step (step_by_field rules t clock asked f)
    field-seen t clock asked Bad = refl
    field-seen t clock (Err refusal) Absent = refl
    field-seen t clock (Ok call) Absent = refl
    field-seen t clock asked (Present key e) =
        by (nat_lt e clock) (λ i. keyed_step Seen (record { state = t.state; entries = seen-unexpired clock t.entries i }) key e asked (found i)) ∙ by-step (nat_lt e clock) (keyed_step rules (forgotten clock t) key e asked (kept_for key (unexpired clock t.entries))) (keyed-seen (forgotten clock t) key e asked (kept_for key (unexpired clock t.entries)))
      where
        found : kept_for key (unexpired clock (map (seen_entry see) t.entries)) ≡ option_map see (kept_for key (unexpired clock t.entries))
        found = ap (kept_for key) (seen-unexpired clock t.entries) ∙ seen-found key (unexpired clock t.entries)

        by : (b : Bool) {x y : Table S P × Result P SystemName} → x ≡ y → cond b (seen_table see t, Err BadContext) x ≡ cond b (seen_table see t, Err BadContext) y
        by true same = refl
        by false same = same

        by-step : (b : Bool) {x : Table S P × Result P SystemName} (y : Table S O × Result O SystemName) → x ≡ Step y → cond b (seen_table see t, Err BadContext) x ≡ Step (cond b (t, Err BadContext) y)
        by-step true y same = refl
        by-step false y same = same

    pub step-seen : (t : Table S O) (a : Arrival C) → table_step Seen (seen_table see t) a ≡ Step (table_step rules t a)
    step-seen t a = field-seen t a.clock (rules.asked a.content) a.field

    pub tables-are-seen : TablesAreSeen see rules
    tables-are-seen t [] = (refl, refl)
    tables-are-seen t (a ∷ later) =
        let one = step-seen t a in
        let rest = tables-are-seen (table_step rules t a).0 later in (
          ap (λ (x : Table S P × Result P SystemName). table_after Seen x.0 later) one ∙ rest.0,
          ap (λ (x : Table S P × Result P SystemName). x.1 ∷ table_answers Seen x.0 later) one ∙ ap (λ (rs : List (Result P SystemName)). seen_answer see (table_step rules t a).1 ∷ rs) rest.1,
        )
