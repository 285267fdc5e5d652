-- What is said of the entries of an engine's table, where it is known which outcomes may be given for which key.
use Rattle.std.proofs.Common.{◌≡◌, ◌==◌, ℕ, ◌<◌, ◌≤◌, ◌+◌, Bool, true, false, cond, not, List, [], ◌∷◌, ◌++◌, length, length-append, Option, Some, None, refl, sym, ap, subst, ◌∙◌, arith}
use Rattle.std.specs.List.{AllByRecursion}
use Rattle.std.proofs.lemmas.Bool.{eq-eqb, eqb-true}
use Rattle.std.proofs.lemmas.List.{append-nil}
use Rattle.giop_link.specs.Hearing.{meaning_in}
use Rattle.giop_link.specs.Laws.{HearingGrows}
use Rattle.ft_log.specs.Holding.{Holding, known, parked}
use Rattle.ft_log.specs.Keys.{RequestKey}
use Rattle.ft_log.specs.Kept.{KeptOutcome}
use Rattle.ft_log.specs.Performed.{Performed}
use Rattle.ft_orb.specs.declared.events.Note.{Note}
use Rattle.ft_orb.specs.declared.events.Note.TheVariants.{Done, Memory, Refused}
use Rattle.ft_orb.specs.declared.parked.Waiter.{Waiter}
use Rattle.ft_orb.specs.Declined.{asks_by, room_by}
use Rattle.ft_orb.specs.Deeds.{Asking, Ledger, Missed, Reached, Told, piece_of, told_all, told_one}
use Rattle.ft_orb.specs.Engines.{Awaited}
use Rattle.ft_orb.specs.ExactlyOnce.{Arrival, Present}
use Rattle.ft_orb.specs.History.{Changed, Close, Event, Lost, Opened, Piece, Withdrew, completed, shortened}
use Rattle.ft_orb.specs.Outputs.{after}
use Rattle.ft_orb.specs.Owners.{let_go, owned_table}
use Rattle.ft_orb.specs.Parking.{Settings, by_number, put_at}
use Rattle.ft_orb.specs.Requests.{Call, Wanted}
use Rattle.ft_orb.specs.Table.{Table, table_after}
use Rattle.ft_orb.specs.Withdrawing.{number_rules}
use Rattle.ft_lives.proofs.Heard.{shortened-front}
use Rattle.ft_lives.proofs.Tables.{all-filter, all-map, none-taken, one-taken}

pub put-here : {X : Type 0} (n : ℕ) (x : X) (f : ℕ → X) → put_at n x f n ≡ x
put-here n x f = ap (λ (b : Bool). cond b x (f n)) (eq-eqb n n refl)

pub put-else : {X : Type 0} (n : ℕ) (x : X) (f : ℕ → X) (m : ℕ) → (m ≡ n → ⊥) → put_at n x f m ≡ f m
put-else n x f m apart = by (m == n) refl
  where
    by : (b : Bool) → (m == n) ≡ b → cond b x (f m) ≡ f m
    by true is = absurd (apart (eqb-true m n is))
    by false is = refl

-- the request has this key
abbrev pub HasKey : Option Awaited → RequestKey → Type 0
HasKey None key = ⊥
HasKey (Some w) key = (expiration : ℕ) × (w.field ≡ Present key expiration)

module _ (May : RequestKey → Performed → Type 0) where
  -- The entry has the number of a call that was taken. If its outcome is known it may be given for the key; if it is parked its request
  -- has the key.
  pub record IsSound (count : ℕ) (held : ℕ → Holding) (there : ℕ → Option Awaited) (e : KeptOutcome ℕ) : Type 0 where
    pub taken : e.outcome < count
    pub gives : (outcome : Performed) → held e.outcome ≡ known outcome → May e.key outcome
    pub waits : (number : ℕ) → held e.outcome ≡ parked number → HasKey (there number) e.key

-- the table of a past
module _ (s : Settings) (grow : HearingGrows meaning_in) where
  abbrev pub table : List Event → Table (List Call) ℕ
  table past = owned_table (by_number s (λ n. parked n)) past

  module _ (P : KeptOutcome ℕ → Type 0) where
    let-go-all : (e : Event) (t : Table (List Call) ℕ) → AllByRecursion P t.entries → AllByRecursion P (let_go (λ n i. n == i) e t).entries
    let-go-all (Opened c) t all = all
    let-go-all (Piece c moment octets) t all = all
    let-go-all (Close c) t all = all
    let-go-all (Lost c) t all = all
    let-go-all Changed t all = all
    let-go-all (Withdrew i) t all = all-map (λ e. (not (e.outcome == i) ≡ true) × P e) P _ (λ e x. x.1) (all-filter P (λ e. not (e.outcome == i)) t.entries all)

    let-go-state : (e : Event) (t : Table (List Call) ℕ) → (let_go (λ n i. n == i) e t).state ≡ t.state
    let-go-state (Opened c) t = refl
    let-go-state (Piece c moment octets) t = refl
    let-go-state (Close c) t = refl
    let-go-state (Lost c) t = refl
    let-go-state Changed t = refl
    let-go-state (Withdrew i) t = refl

    -- where an event takes no call no entry is new ..
    pub event-kept : (past : List Event) (e : Event) → AllByRecursion P (table past).entries → length (table (e ∷ past)).state ≤ length (table past).state → AllByRecursion P (table (e ∷ past)).entries
    event-kept past e all few =
        let t = table_after (number_rules (asks_by s) (room_by s)) (table past) (completed s.limits past e) in
        let n = ap (λ (l : List Call). length l) (let-go-state e t) in
        let-go-all e t (none-taken (asks_by s) (room_by s) P (table past) (completed s.limits past e) all (omega (arith, n, few)))

    -- .. also where it was cut short
    pub after-kept : (past : List Event) (e : Event) (note : Note) → AllByRecursion P (table past).entries → length (table (after s.limits past e note)).state ≤ length (table past).state
        → AllByRecursion P (table (after s.limits past e note)).entries
    after-kept past e Done all few = event-kept past e all few
    after-kept past e Refused all few = event-kept past e all few
    after-kept past (Opened c) (Memory handled answered) all few = all
    after-kept past (Piece c moment octets) (Memory handled answered) all few = event-kept past (shortened s.limits past (Piece c moment octets) handled) all few
    after-kept past (Close c) (Memory handled answered) all few = all
    after-kept past (Lost c) (Memory handled answered) all few = all
    after-kept past (Withdrew i) (Memory handled answered) all few = all
    after-kept past Changed (Memory handled answered) all few = all

  -- a request waits in an engine: its piece ends with it, which alone is taken of it
  pub record Waits (g : Ledger) (a : Asking) : Type 0 where
    pub front : List (Arrival Wanted)
    pub last : Arrival Wanted
    pub completes : completed s.limits g.past (piece_of a) ≡ front ++ last ∷ []
    pub field : last.field ≡ a.request.field
    pub before : (table_after (number_rules (asks_by s) (room_by s)) (table g.past) front).state ≡ g.calls

  module _ (P : KeptOutcome ℕ → Type 0) where
    -- where the call of what waits is taken, its entry alone is new, ..
    taken-of : (g : Ledger) (a : Asking) (w : Waits g a) (xs more : List (Arrival Wanted)) → g.calls ≡ (table g.past).state → completed s.limits g.past (piece_of a) ≡ xs ++ more → AllByRecursion P (table g.past).entries
        → (table_after (number_rules (asks_by s) (room_by s)) (table g.past) xs).state ≡ g.calls ++ a.request.call ∷ []
        → ((key : RequestKey) (expiration : ℕ) → a.request.field ≡ Present key expiration → P (record { key = key; expiration = expiration; outcome = length g.calls }))
        → AllByRecursion P (table_after (number_rules (asks_by s) (room_by s)) (table g.past) xs).entries
    taken-of g a w xs more taken split all grew new =
        let n = ap (λ (l : List Call). length l) grew ∙ length-append g.calls (a.request.call ∷ []) in
        let before = ap (λ (l : List Call). length l) w.before in
        one-taken (asks_by s) (room_by s) P (length g.calls) (table g.past) w.front w.last xs more (ap (λ (l : List Call). length l) (sym taken)) (sym w.completes ∙ split) all (omega (arith, before)) (omega (arith, n))
        (λ key expiration is. new key expiration (sym w.field ∙ is))

    pub piece-taken : (g : Ledger) (a : Asking) (w : Waits g a) → g.calls ≡ (table g.past).state → AllByRecursion P (table g.past).entries → g.calls ++ a.request.call ∷ [] ≡ (table (piece_of a ∷ g.past)).state
        → ((key : RequestKey) (expiration : ℕ) → a.request.field ≡ Present key expiration → P (record { key = key; expiration = expiration; outcome = length g.calls }))
        → AllByRecursion P (table (piece_of a ∷ g.past)).entries
    piece-taken g a w taken all grew new = taken-of g a w (completed s.limits g.past (piece_of a)) [] taken (sym (append-nil (completed s.limits g.past (piece_of a)))) all (sym grew) new

    -- .. also where an allocation fails for its answer
    pub answer-taken : (g : Ledger) (a : Asking) (w : Waits g a) (note : Note) → g.calls ≡ (table g.past).state → AllByRecursion P (table g.past).entries → g.calls ++ a.request.call ∷ [] ≡ (table (after s.limits g.past (piece_of a) note)).state
        → ((key : RequestKey) (expiration : ℕ) → a.request.field ≡ Present key expiration → P (record { key = key; expiration = expiration; outcome = length g.calls }))
        → AllByRecursion P (table (after s.limits g.past (piece_of a) note)).entries
    answer-taken g a w Done taken all grew new = piece-taken g a w taken all grew new
    answer-taken g a w Refused taken all grew new = piece-taken g a w taken all grew new
    answer-taken g a w (Memory handled answered) taken all grew new =
        let cut = shortened-front grow s.limits g.past a.request.connection a.moment a.octets handled in
        taken-of g a w (completed s.limits g.past (shortened s.limits g.past (piece_of a) handled)) cut.0 taken cut.1 all (sym grew) new

  -- who is told changes no table
  pub told-table : (n : ℕ) (g : Ledger) (told : List Told) → table (told_all s n g told).past ≡ table g.past
  told-table n g [] = refl
  told-table n g (Reached w ∷ told) = told-table n (told_one s n g (Reached w)) told
  told-table n g (Missed w ∷ told) = told-table n (told_one s n g (Missed w)) told
