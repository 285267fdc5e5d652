-- An engine with each key by itself: a request that waits is one that acts so, whatever expirations requests carry.
use Rattle.std.proofs.Common.{◌≡◌, ℕ, Bool, true, false, cond, List, [], ◌∷◌, ◌++◌, length, take, Option, Result, refl, sym, ap, subst, ◌∙◌, arith, append_assoc, length-append}
use Rattle.std.specs.Option.{option_map}
use Rattle.std.proofs.lemmas.List.{append-nil, nil_from_length}
use Rattle.giop_link.specs.Linking.{Linked}
use Rattle.ft_log.specs.declared.system_exception.SystemName.{SystemName}
use Rattle.ft_orb.specs.declared.engine.Engine.{Engine}
use Rattle.ft_orb.specs.declared.events.Note.{Note}
use Rattle.ft_orb.specs.declared.keeper.Waiting.{Waiting}
use Rattle.ft_orb.specs.declared.pausing.Pending.{Pending}
use Rattle.ft_objects.specs.Catalogues.{Offer}
use Rattle.ft_orb.specs.Engines.{Awaited, EndsOf, KeepsOf, ResumesOf, StopsOf, as_server, awaited_of, waits_in}
use Rattle.ft_orb.specs.EnginesNow.{AsksNowOf, EndsNowOf, IsDueNowOf, IsNowOf, ResumesNowOf}
use Rattle.ft_orb.specs.ExactlyOnce.{Arrival, ClocksGrow, Rules, clock_after, state_after}
use Rattle.ft_orb.specs.History.{Event, Piece, arrivals, completed}
use Rattle.ft_orb.specs.Now.{acts_now, performed_now, performed_now_after}
use Rattle.ft_orb.specs.Owners.{OwnerOf, owned_rules, owned_table}
use Rattle.ft_orb.specs.Requests.{Call, Wanted}
use Rattle.ft_orb.specs.Tellings.{rendered}
use Rattle.ft_orb.specs.Waits.{call_of, field_with}
use Rattle.ft_orb.proofs.Due.{counts}
use Rattle.ft_orb.proofs.Folded.{ClocksGrow-front}
use Rattle.ft_orb.proofs.Headline.{arrivals-grow, event-clocks}
use Rattle.ft_orb.proofs.Now.{grown_now, performed_now-calls, performed_now-push, run_now}
use Rattle.ft_orb.proofs.Owning.{Brings, brings-of}
use Rattle.ft_orb.proofs.Said.{event_now_by, past_now_by, says_now_at_by}
use Rattle.ft_orb.proofs.Books.{IsFolded, book_by}

module _ {S C K O : Type 0} (rules : Rules S C K O) where
  performed_now-append : (performed xs ys : List (Arrival C)) → performed_now_after rules performed (xs ++ ys) ≡ performed_now_after rules (performed_now_after rules performed xs) ys
  performed_now-append performed [] ys = refl
  performed_now-append performed (x ∷ xs) ys = performed_now-append (grown_now rules performed x) xs ys

  -- what was performed stays performed
  performed_now-grows : (performed xs : List (Arrival C)) → (more : List (Arrival C)) × (performed_now_after rules performed xs ≡ performed ++ more)
  performed_now-grows performed [] = ([], sym (append-nil performed))
  performed_now-grows performed (x ∷ xs) =
      elim (acts_now rules performed x) as (λ (b : Bool). (more : List (Arrival C)) × (performed_now_after rules (cond b (performed ++ x ∷ []) performed) xs ≡ performed ++ more)) [
        | true ↦ let r = performed_now-grows (performed ++ x ∷ []) xs in (x ∷ r.0, r.1 ∙ append_assoc performed (x ∷ []) r.0)
        | false ↦ performed_now-grows performed xs
      ]

module _ {Outcome : Type 0} (owner : OwnerOf Outcome) where
  abbrev Theirs : Rules (List Call) Wanted Call Outcome
  Theirs = owned_rules owner

  abbrev Calls : List (Arrival Wanted) → List Call
  Calls xs = state_after Theirs [] (performed_now Theirs xs)

  -- where the calls are as before, no request acted
  none-acted-now : (xs front : List (Arrival Wanted)) → Calls (xs ++ front) ≡ Calls xs → performed_now Theirs (xs ++ front) ≡ performed_now Theirs xs
  none-acted-now xs front same =
      let all = performed_now-append Theirs [] xs front in
      let more = performed_now-grows Theirs (performed_now Theirs xs) front in
      let is : performed_now Theirs (xs ++ front) ≡ performed_now Theirs xs ++ more.0 = all ∙ more.1 in
      let first = counts owner [] (performed_now Theirs xs) (performed_now-calls Theirs [] xs tt) in
      let last = counts owner [] (performed_now Theirs (xs ++ front)) (performed_now-calls Theirs [] (xs ++ front) tt) in
      let lengths = ap (λ (calls : List Call). length calls) same in
      let size = length-append (performed_now Theirs xs) more.0 in
      let both = ap (λ (ps : List (Arrival Wanted)). length ps) is in
      let none : more.0 ≡ [] = nil_from_length more.0 (omega (arith, first, last, lengths, size, both)) in
      is ∙ ap (λ (ps : List (Arrival Wanted)). performed_now Theirs xs ++ ps) none ∙ append-nil (performed_now Theirs xs)

  -- where there is a call more, the last request acts
  last-acts-now : (xs : List (Arrival Wanted)) (a : Arrival Wanted) (calls : List Call) (call : Call) → Calls xs ≡ calls → Calls (xs ++ a ∷ []) ≡ calls ++ call ∷ [] → acts_now Theirs (performed_now Theirs xs) a ≡ true
  last-acts-now xs a calls call before now =
      let grows : performed_now Theirs (xs ++ a ∷ []) ≡ grown_now Theirs (performed_now Theirs xs) a = performed_now-push Theirs [] xs a in
      (elim (acts_now Theirs (performed_now Theirs xs) a) as (λ (b : Bool). acts_now Theirs (performed_now Theirs xs) a ≡ b → b ≡ true) [
        | true ↦ λ is. refl
        | false ↦ λ is.
            let idle : performed_now Theirs (xs ++ a ∷ []) ≡ performed_now Theirs xs = grows ∙ ap (λ (b : Bool). cond b (performed_now Theirs xs ++ a ∷ []) (performed_now Theirs xs)) is in
            let same : calls ++ call ∷ [] ≡ calls = sym now ∙ ap (λ (ps : List (Arrival Wanted)). state_after Theirs [] ps) idle ∙ before in
            let lengths = ap (λ (l : List Call). length l) same in
            let size = length-append calls (call ∷ []) in
            absurd (omega (arith, lengths, size))
      ]) refl

-- where its table is folded over all arrivals of each past
module _ {C Outcome : Type 0} (offers : C → Offer) (owner : OwnerOf Outcome) (folded : (past : List Event) → IsFolded (book_by owner) past) where
  -- each request that is performed so is answered once
  pub ends-now : (calls : List Call) (past : List Event) (e : Event) (note : Note) (new : Engine C) (out grown : List ℕ) → EndsOf offers owner calls past e note new out grown → EndsNowOf owner calls past e note out grown
  ends-now calls past e note new out grown x =
      let all = event_now_by (book_by owner) folded (as_server new calls) past e note out grown (x.written, x.appended, x.writes, x.rests.stands) in
      (all.0, all.1, (all.2, all.3))

  pub resumes-now : (calls : List Call) (past : List Event) (c moment : ℕ) (octets written : List ℕ) (note : Note) (new : Engine C) (out grown : List ℕ) → ResumesOf offers owner calls past c moment octets written note new out grown
      → ResumesNowOf owner calls past c moment octets written note out grown
  resumes-now calls past c moment octets written note new out grown x =
      let all = event_now_by (book_by owner) folded (as_server new calls) past (Piece c moment octets) note [] (written ++ x.more) (written ++ x.more, refl, x.writes, x.rests.stands) in
      (x.more, x.appended, subst (λ (l : List ℕ). IsNowOf owner calls past (Piece c moment octets) note l) (sym all.1) (all.2, all.3))

  -- and one that waits is the first that acts
  due-now : (calls : List Call) (past : List Event) (c moment : ℕ) (octets written : List ℕ) (handled : ℕ) (w : Waiting) {link : Linked} (b : Brings offers owner calls past c moment octets written handled w link)
      → (owned_table owner past).state ≡ calls → IsDueNowOf owner calls past (Piece c moment octets) b.front b.last written
  due-now calls past c moment octets written handled w b now =
      let e = Piece c moment octets in
      let xs = arrivals owner.limits past in
      let start = clock_after 0 xs in
      let table = owned_table owner past in
      let grow : ClocksGrow start (b.front ++ b.last ∷ []) = subst (λ (l : List (Arrival Wanted)). ClocksGrow start l) b.completes (event-clocks owner.limits past e start (arrivals-grow owner.limits past).1).0 in
      let split = sym (append_assoc xs b.front (b.last ∷ [])) in
      let stands = past_now_by (book_by owner) past (folded past) in
      let first = (run_now (Theirs owner) [] start xs b.front table (ClocksGrow-front start b.front (b.last ∷ []) grow) stands).1 in
      let last = (run_now (Theirs owner) [] start xs (b.front ++ b.last ∷ []) table grow stands).1 in
      let was : Calls owner xs ≡ calls = sym stands.state ∙ now in
      let mid : Calls owner (xs ++ b.front) ≡ calls = sym first.state ∙ b.before in
      let then : Calls owner ((xs ++ b.front) ++ b.last ∷ []) ≡ calls ++ call_of w ∷ [] = ap (λ (l : List (Arrival Wanted)). Calls owner l) (sym split) ∙ sym last.state ∙ b.then in
      record {
        acts = last-acts-now owner (xs ++ b.front) b.last calls (call_of w) mid then;
        is_first = none-acted-now owner xs b.front (mid ∙ sym was);
        calls_are = sym was;
        out = b.out ∙ ap (λ (answers : List (Result Outcome SystemName)). rendered owner.tell (take (length b.front) (completed owner.limits past e)) answers) (says_now_at_by (book_by owner) past e (folded past));
      }

  keeps-now : (calls : List Call) (engine : Engine C) (past : List Event) (moment : ℕ) (octets written : List ℕ) (p : Pending) (out grown : List ℕ) → KeepsOf offers owner calls engine past moment octets written p → grown ≡ out ++ written
      → AsksNowOf owner calls past p.connection moment octets (waits_in engine) out grown
  keeps-now calls engine past moment octets written p out grown k appended =
      let b = brings-of offers owner calls engine past moment octets written p k in
      record {
        written = written;
        appended = appended;
        number = p.number;
        call = call_of p.waiting;
        field = field_with p.waiting.retained;
        refused = p.waiting.refused;
        is_awaited = ap (λ (o : Option Pending). option_map awaited_of o) k.waits;
        front = b.front;
        last = b.last;
        completes = b.completes;
        asks = b.asks;
        carries = b.field;
        would = b.refused;
        due = due-now calls past p.connection moment octets written p.place.handled p.waiting b (sym k.stands.table.state ∙ k.answered);
      }

  pub asks-now : (calls : List Call) (past : List Event) (c moment : ℕ) (piece : List ℕ) (taken : ℕ) (engine : Engine C) (out grown : List ℕ) → StopsOf offers owner calls past c moment piece taken engine out grown
      → AsksNowOf owner calls past c moment (take taken piece) (waits_in engine) out grown
  asks-now calls past c moment piece taken engine out grown x =
      subst (λ (v : Awaited). AsksNowOf owner calls past v.connection moment (take taken piece) (waits_in engine) out grown) x.asks.is
      (keeps-now calls engine past moment (take taken piece) x.written x.asks.pending out grown x.asks.keeps x.appended)
