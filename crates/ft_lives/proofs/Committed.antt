-- Of each key at most one commit, and each of a call that was asked for.
use Rattle.std.proofs.Common.{◌≡◌, ℕ, zero, suc, ◌<◌, ◌≤◌, ◌+◌, Bool, true, false, cond, nat_lt, ◌⊎◌, inl, inr, List, [], ◌∷◌, ◌++◌, Option, Some, None, Ok, Err, Contains, flat_map, get_or, length, length-append, refl, sym, ap, subst, ◌∙◌, arith, append_assoc}
use Rattle.std.proofs.lemmas.Bool.{ltb-false}
use Rattle.std.proofs.lemmas.List.Elements.{Contains-append_cases, Contains-push}
use Rattle.giop_link.specs.Hearing.{Question}
use Rattle.ft_log.specs.Keys.{RequestKey}
use Rattle.ft_log.specs.Kept.{KeptOutcome, kept_for, unexpired}
use Rattle.ft_log.specs.Performed.{Performed}
use Rattle.ft_log.specs.Holding.{Holding}
use Rattle.ft_log.specs.declared.system_exception.SystemName.TheVariants.{BadContext}
use Rattle.ft_orb.specs.Deeds.{Answered, AnsweredUnkept, Deed, GivenUp, Happened, IsDeed, Joined, Ledger, Parked, Part, Runs, Settled, SettledUnkept, Stopped, Stops, after_deed, after_deeds, opening, part_of}
use Rattle.ft_orb.specs.Engines.{Awaited}
use Rattle.ft_orb.specs.ExactlyOnce.{Arrival, Field, Present}
use Rattle.ft_orb.specs.History.{completed}
use Rattle.ft_orb.specs.Owners.{owned_rules, owned_table}
use Rattle.ft_orb.specs.Parking.{Settings, by_number}
use Rattle.ft_orb.specs.Requests.{Call, Wanted, asked_at}
use Rattle.ft_orb.specs.Table.{Table, forgotten, keyed_step, step_by_field, table_after, table_step}
use Rattle.ft_lives.specs.Laws.{CommitsComeLater, CommitsWereAdmitted, HeldIsCommitted, IsAdmitted, IsTheOutcome, KeyCommitsOnce}
use Rattle.ft_lives.specs.Lives.{AreLives, IsKept, Life, OneExpirationOf, Step, Stored, asked_by, deeds_of, requests_of, stored, stored_after}
use Rattle.ft_lives.specs.Owned.{IsOwned, WasAsked, WasHeld}
use Rattle.ft_lives.specs.Stores.{Ask, Committed, Row, Store, changed, empty_store, held_for}
use Rattle.ft_lives.proofs.Lists.{contains-along, contains-middle, split-at}
use Rattle.ft_lives.proofs.Kept.{asked-later, committed-row, deeds-append, none-held, row-held, rows-grow, stored-append}

pub commits-come-later : CommitsComeLater
commits-come-later steps front between rest p q early late kept is same =
    let before = front ++ Stored (Committed p early) ∷ between in
    let mid = changed (stored front) (Committed p early) in
    let split : stored before ≡ stored_after mid between = stored-append empty_store front (Stored (Committed p early) ∷ between) in
    let grown = rows-grow mid between in
    let rows : (stored before).rows ≡ (stored front).rows ++ early ∷ grown.0 = ap (λ (s : Store). s.rows) split ∙ grown.1 ∙ append_assoc (stored front).rows (early ∷ []) grown.0 in
    let allows = kept before rest (Committed q late) is in
    let over : early.expiration < (stored before).mark =
    none-held late.key (stored before).mark (stored front).rows grown.0 early same (subst (λ (l : List Row). kept_for late.key (unexpired (stored before).mark l) ≡ None) rows allows.0) in
    let within = allows.1 in
    omega arith

module _ (lives : ℕ → Life) where
  pub key-commits-once : KeyCommitsOnce lives
  key-commits-once steps front between rest p q early late key kept owned one is is_early is_late =
      let before = front ++ Stored (Committed p early) ∷ between in
      let less = commits-come-later steps front between rest p q early late kept is (is_early ∙ sym is_late) in
      let tail = Stored (Committed p early) ∷ between ++ Stored (Committed q late) ∷ rest in
      let from : steps ≡ front ++ tail = is ∙ append_assoc front (Stored (Committed p early) ∷ between) (Stored (Committed q late) ∷ rest) in
      let a = owned.asked front (between ++ Stored (Committed q late) ∷ rest) p early from in
      let b = owned.asked before rest q late is in
      let same : early.expiration ≡ late.expiration =
      one p.life q.life a.request b.request early.expiration late.expiration
      (asked-later p.life steps front tail a.request from a.there)
      (asked-later q.life steps before (Stored (Committed q late) ∷ rest) b.request is b.there)
      (a.field ∙ ap (λ (k : RequestKey). Present k early.expiration) is_early)
      (b.field ∙ ap (λ (k : RequestKey). Present k late.expiration) is_late) in
      omega arith

  pub held-is-committed : HeldIsCommitted lives
  held-is-committed steps front rest key outcome kept owned one is held =
      let r = row-held key (stored held.before).mark outcome (stored held.before).rows held.held in
      let w = committed-row held.before r.row r.there in
      let x = Stored (Committed w.ask r.row) in
      let tail = w.rest ++ held.after ++ rest in
      let whole : steps ≡ w.front ++ x ∷ tail =
      is ∙ ap (λ (l : List Step). l ++ rest) (held.point ∙ ap (λ (l : List Step). l ++ held.after) w.is)
      ∙ ap (λ (l : List Step). l ++ rest) (append_assoc w.front (x ∷ w.rest) held.after)
      ∙ append_assoc w.front (x ∷ w.rest ++ held.after) rest in
      record {
        front = w.front;
        rest = tail;
        ask = w.ask;
        row = r.row;
        committed = whole;
        key_is = r.key_is;
        outcome_is = r.outcome_is;
        only = λ other more there is_key.
            elim (Contains-append_cases w.front tail (Stored (Committed other more)) there) [
              | inl there ↦
                  let s = split-at w.front (Stored (Committed other more)) there in
                  key-commits-once steps s.front s.rest tail other w.ask more r.row key kept owned one (whole ∙ ap (λ (l : List Step). l ++ x ∷ tail) s.is) is_key r.key_is
              | inr there ↦
                  let s = split-at tail (Stored (Committed other more)) there in
                  key-commits-once steps w.front s.front s.rest w.ask other r.row more key kept owned one
                  (whole ∙ ap (λ (l : List Step). w.front ++ x ∷ l) s.is ∙ sym (append_assoc w.front (x ∷ s.front) (Stored (Committed other more) ∷ s.rest))) r.key_is is_key
            ];
      }

-- What was asked for stopped a part of a piece.

pub record Found (ds : List Deed) (w : Awaited) : Type 0 where
  pub early : List Deed
  pub late : List Deed
  pub part : Part
  pub written : List ℕ
  pub question : Question
  pub is : ds ≡ early ++ Stopped part written w question ∷ late

found-later : (d : Deed) (ds : List Deed) (w : Awaited) → Found ds w → Found (d ∷ ds) w
found-later d ds w f = record { early = d ∷ f.early; late = f.late; part = f.part; written = f.written; question = f.question; is = ap (λ (l : List Deed). d ∷ l) f.is }

pub found : (ds : List Deed) (w : Awaited) → Contains (flat_map asked_by ds) w → Found ds w
found [] w there = absurd (omega (arith, there.1))
found (Happened e written note ∷ ds) w there = found-later (Happened e written note) ds w (found ds w there)
found (Stopped p written v q ∷ ds) w there = here there.0 there.1 there.2 (λ k less at. found ds w (k, less, at))
  where
    here : (k : ℕ) → k < length (v ∷ flat_map asked_by ds) → get_or (v ∷ flat_map asked_by ds) k w ≡ w
        → ((k : ℕ) → k < length (flat_map asked_by ds) → get_or (flat_map asked_by ds) k w ≡ w → Found ds w) → Found (Stopped p written v q ∷ ds) w
    here zero lt at more = record { early = []; late = ds; part = p; written = written; question = q; is = ap (λ (x : Awaited). Stopped p written x q ∷ ds) at }
    here (suc k) lt at more = found-later (Stopped p written v q) ds w (more k (omega (arith, lt)) at)
found (Joined p written n joined ∷ ds) w there = found-later (Joined p written n joined) ds w (found ds w there)
found (Answered a outcome written note ∷ ds) w there = found-later (Answered a outcome written note) ds w (found ds w there)
found (Parked a own ∷ ds) w there = found-later (Parked a own) ds w (found ds w there)
found (GivenUp a handled ∷ ds) w there = found-later (GivenUp a handled) ds w (found ds w there)
found (Settled i n outcome told ∷ ds) w there = found-later (Settled i n outcome told) ds w (found ds w there)
found (AnsweredUnkept a outcome written ∷ ds) w there = found-later (AnsweredUnkept a outcome written) ds w (found ds w there)
found (SettledUnkept i n outcome told ∷ ds) w there = found-later (SettledUnkept i n outcome told) ds w (found ds w there)

module _ (s : Settings) where
  -- a deed of a run is one of what was known before it
  pub deed-at : (g : Ledger) (xs ys : List Deed) (d : Deed) → Runs s g (xs ++ d ∷ ys) → IsDeed s (after_deeds s g xs) d
  deed-at g [] ys d runs = runs.0
  deed-at g (x ∷ xs) ys d runs = deed-at (after_deed s g x) xs ys d runs.1

  -- what acts with a key is not over
  acts-in-time : (t : Table (List Call) ℕ) (a : Arrival Wanted) (key : RequestKey) (expiration : ℕ) (f : Field) (more : List Call) → a.field ≡ f → f ≡ Present key expiration → (held : ℕ → Holding)
      → (table_step (owned_rules (by_number s held)) t a).0.state ≡ t.state ++ more → 0 < length more → a.clock ≤ expiration
  acts-in-time t a key expiration f more is present held acts some =
      let rules = owned_rules (by_number s held) in
      let asked = rules.asked a.content in
      let here : (step_by_field rules t a.clock asked (Present key expiration)).0.state ≡ t.state ++ more =
      ap (λ (f : Field). (step_by_field rules t a.clock asked f).0.state) (sym (is ∙ present)) ∙ acts in
      let kept = keyed_step rules (forgotten a.clock t) key expiration asked (kept_for key (unexpired a.clock t.entries)) in
      elim (nat_lt expiration a.clock) as (λ b. nat_lt expiration a.clock ≡ b → (cond b (t, Err BadContext) kept).0.state ≡ t.state ++ more → a.clock ≤ expiration) [
        | true ↦ λ over same. let n = ap (λ (l : List Call). length l) same ∙ length-append t.state more in absurd (omega (arith, n, some))
        | false ↦ λ in_time same. ltb-false expiration a.clock in_time
      ] refl here

module _ (lives : ℕ → Life) where
  pub commits-were-admitted : CommitsWereAdmitted lives
  commits-were-admitted steps front rest ask row runs owned is =
      let s = (lives ask.life).settings in
      let start = opening (lives ask.life).held in
      let w = owned.asked front rest ask row is in
      let f = found (deeds_of ask.life front) w.request w.there in
      let tail = deeds_of ask.life (Stored (Committed ask row) ∷ rest) in
      let d = Stopped f.part f.written w.request f.question in
      let all : deeds_of ask.life steps ≡ f.early ++ d ∷ (f.late ++ tail) =
      ap (deeds_of ask.life) is ∙ deeds-append ask.life front (Stored (Committed ask row) ∷ rest)
      ∙ ap (λ (l : List Deed). l ++ tail) f.is ∙ append_assoc f.early (d ∷ f.late) tail in
      let g = after_deeds s start f.early in
      let x = (deed-at s start f.early (f.late ++ tail) d (subst (λ (l : List Deed). Runs s start l) all (runs ask.life))).1 in
      let rules = owned_rules (by_number s g.held) in
      let t = table_after rules (owned_table (by_number s g.held) g.past) x.front in
      let acts : (table_step rules t x.last).0.state ≡ t.state ++ w.request.call ∷ [] = x.acts ∙ ap (λ (l : List Call). l ++ w.request.call ∷ []) (sym x.before) in
      record {
        early = f.early;
        late = f.late;
        part = f.part;
        written = f.written;
        request = w.request;
        question = f.question;
        there = f.is;
        number = w.number;
        call = w.call;
        arrival = x.last;
        arrived = contains-along (x.front ++ x.last ∷ []) (completed s.limits g.past (part_of f.part)) x.last (sym x.completes) (Contains-push x.front x.last);
        field = x.field ∙ w.field;
        asks = x.asks ∙ ap (λ (c : Call). Ok c) w.call;
        would = x.refused;
        in_time = acts-in-time s t x.last row.key row.expiration w.request.field (w.request.call ∷ []) x.field w.field g.held acts (omega arith);
      }
