-- A piece that an engine serves in parts, and what its owner answers in them.
use Rattle.std.proofs.Common.{◌≡◌, ◌⊎◌, ℕ, ◌+◌, ◌≤◌, ◌<◌, Bool, true, false, if◌then◌else◌, List, [], ◌∷◌, ◌++◌, drop, length, take, Option, Some, None, Result, Ok, Err, inl, inr, refl, sym, ap, subst, ◌∙◌, arith, append_assoc, length-append}
use Rattle.std.proofs.Math.Seq.{take-add, take-length}
use Rattle.std.proofs.lemmas.List.{append-nil, length-drop, map-append, take_all}
use Rattle.giop_frames.specs.declared.limits.Limits.{Limits}
use Rattle.giop_link.specs.Laws.{EndingsStay, EndsAreSilent, HearingGrows}
use Rattle.giop_link.specs.Hearing.{meaning_in}
use Rattle.ft_log.specs.Performed.{Performed}
use Rattle.ft_orb.specs.declared.engine.Engine.{Engine}
use Rattle.ft_orb.specs.declared.error.ServeError.{ServeError}
use Rattle.ft_orb.specs.declared.error.ServeError.TheVariants as serving
use Rattle.ft_orb.specs.declared.events.Note.{Note}
use Rattle.ft_orb.specs.declared.events.Note.TheVariants.{Done, Memory, Refused}
use Rattle.ft_orb.specs.declared.wire.StreamEnd.{StreamEnd}
use Rattle.ft_orb.specs.declared.wire.StreamEnd.TheVariants as stream
use Rattle.ft_orb.specs.Answers.{Agrees, Answer, calls_of}
use Rattle.ft_objects.specs.Catalogues.{Offer}
use Rattle.ft_orb.specs.Engines.{Asks, Awaited, Ends, Rests, Resumes, Stops, waits_in}
use Rattle.ft_orb.specs.ExactlyOnce.{Arrival}
use Rattle.ft_orb.specs.Handovers.{AreHandedIn, Handover, IsHandedIn, OwnerSays, given_in, handed_in}
use Rattle.ft_orb.specs.History.{Event, Gone, Line, Piece, Shut, Up, line, longer}
use Rattle.ft_orb.specs.Laws.{is_memory}
use Rattle.ft_orb.specs.Outputs.{after, is_going, is_gone, table_says}
use Rattle.ft_orb.specs.Owners.{Owner, made_of, meaning_of}
use Rattle.ft_orb.specs.Requests.{Call, Wanted, Terms, offer_in}
use Rattle.ft_orb.specs.Standing.{note_of}
use Rattle.ft_orb.specs.Sessions.{Attends, EndsSo, IsEnded, StayParked, calls_with}
use Rattle.ft_orb.specs.Visits.{HandsIn, IsShortest, IsTakenTo, TakesPart, count_to}
use Rattle.ft_orb.proofs.Joining.{cut-joined, cut-stands, cut-within, cut-within-stands, shortest-by, shortest-more, stands-joined, writes-joined}
use Rattle.ft_orb.proofs.Pieces.{same-by}
use Rattle.ft_orb.proofs.Streams.{all-append, grows-none, grows-then}

-- what is parked stays, and stays
pub stay-then : {H A B : Type 0} (parked : H → ℕ → A) (told : H → ℕ → B) (old mid new : H) → StayParked parked told old mid → StayParked parked told mid new → StayParked parked told old new
stay-then parked told old mid new x y q = ((y q).0 ∙ (x q).0, (y q).1 ∙ (x q).1)

-- Logs, one after the other.

pub handed-joined : (xs ys : List Handover) → handed_in (xs ++ ys) ≡ handed_in xs ++ handed_in ys
handed-joined xs ys = map-append (λ (h : Handover). record { call = h.call; outcome = h.handed }) xs ys

pub says-joined : (xs ys : List Handover) (old mid new : Option (List Answer)) → OwnerSays xs old mid → OwnerSays ys mid new → OwnerSays (xs ++ ys) old new
says-joined xs ys old mid new x y = grows-then (given_in xs) (given_in ys) (given_in (xs ++ ys)) old mid new x y (sym (map-append (λ (h : Handover). record { call = h.call; outcome = h.gave }) xs ys))

pub are-joined : (offer : Offer) (xs ys : List Handover) → AreHandedIn offer xs → AreHandedIn offer ys → AreHandedIn offer (xs ++ ys)
are-joined offer xs ys x y = all-append (λ (h : Handover). IsHandedIn offer h.call h.gave h.handed) xs ys x y

pub calls-joined : (calls : List Call) (xs ys : List Handover) → calls_with (calls_with calls xs) ys ≡ calls_with calls (xs ++ ys)
calls-joined calls xs ys =
    append_assoc calls (calls_of (handed_in xs)) (calls_of (handed_in ys))
    ∙ ap (λ (l : List Call). calls ++ l) (sym (map-append (λ (a : Answer). a.call) (handed_in xs) (handed_in ys)) ∙ ap (λ (l : List Answer). calls_of l) (sym (handed-joined xs ys)))

agrees-parts : (rule : List Call → Call → Performed) (calls : List Call) (xs ys : List Answer) → Agrees rule calls (xs ++ ys) → Agrees rule calls xs × Agrees rule (calls ++ calls_of xs) ys
agrees-parts rule calls [] ys h = (tt, subst (λ (l : List Call). Agrees rule l ys) (sym (append-nil calls)) h)
agrees-parts rule calls (a ∷ xs) ys h =
    let r = agrees-parts rule (calls ++ a.call ∷ []) xs ys h.1 in
    ((h.0, r.0), subst (λ (l : List Call). Agrees rule l ys) (append_assoc calls (a.call ∷ []) (calls_of xs)) r.1)

pub agrees-joined : (rule : List Call → Call → Performed) (calls : List Call) (xs ys : List Handover) → Agrees rule calls (handed_in (xs ++ ys)) → Agrees rule calls (handed_in xs) × Agrees rule (calls_with calls xs) (handed_in ys)
agrees-joined rule calls xs ys h = agrees-parts rule calls (handed_in xs) (handed_in ys) (subst (λ (l : List Answer). Agrees rule calls l) (handed-joined xs ys) h)

-- What was performed, and what follows.
module _ {W : Type 0} {old new : W → List Call → List Event → Type 0} (owner : W → Owner) where
  -- nothing was performed ..
  pub attends-none : (now : Option (List Answer)) → ((w : W) (calls : List Call) (past : List Event) → old w calls past → new w calls past) → Attends owner now now old new
  attends-none now h = record { log = []; said = grows-none now; so = λ w calls past x agrees. (tt, subst (λ (l : List Call). new w l past) (sym (append-nil calls)) (h w calls past x)) }

  module _ {before mid : Option (List Answer)} {made : W → List Call → List Event → Type 0} (x : Attends owner before mid old made) where
    -- .. this was ..
    pub attends-so : ((w : W) (calls later : List Call) (past : List Event) → old w calls past → made w later past → new w later past) → Attends owner before mid old new
    attends-so h = record { log = x.log; said = x.said; so = λ w calls past at agrees. let y = x.so w calls past at agrees in (y.0, h w calls (calls_with calls x.log) past at y.1) }

    -- .. and more after it
    pub attends-then : {now : Option (List Answer)} {on next : W → List Call → List Event → Type 0} → Attends owner mid now on next
        → ((w : W) (calls since : List Call) (past : List Event) → old w calls past → made w since past → (q : List Event) × on w since q × ((later : List Call) → next w later q → new w later past)) → Attends owner before now old new
    attends-then {now} y h = record {
      log = x.log ++ y.log;
      said = says-joined x.log y.log before mid now x.said y.said;
      so = λ w calls past at agrees.
          let both = agrees-joined (owner w).answers calls x.log y.log agrees in
          let m = x.so w calls past at both.0 in
          let n = h w calls (calls_with calls x.log) past at m.1 in
          let z = y.so w (calls_with calls x.log) n.0 n.1 both.1 in
          (are-joined (owner w).offer x.log y.log m.0 z.0, subst (λ (l : List Call). new w l past) (calls-joined calls x.log y.log) (n.2 (calls_with (calls_with calls x.log) y.log) z.1));
    }

-- .. by who is known to have performed nothing
pub attends-alone : {W : Type 0} {old new : W → List Call → List Event → Type 0} (owner : W → Owner) → Attends owner (Some []) (Some []) old new → (w : W) (calls : List Call) (past : List Event) → old w calls past → new w (calls_with calls []) past
attends-alone {W} {old} {new} owner x w calls past at = alone x.log x.so (x.said [] refl)
  where
    nil-cons : (xs : List Answer) (y : Answer) (ys : List Answer) → [] ≡ xs ++ y ∷ ys → ⊥
    nil-cons [] y ys is = cc
    nil-cons (x ∷ xs) y ys is = cc

    alone : (log : List Handover) → ((w : W) (calls : List Call) (past : List Event) → old w calls past → Agrees (owner w).answers calls (handed_in log) → AreHandedIn (owner w).offer log × new w (calls_with calls log) past)
        → ((before : List Answer) × (Some [] ≡ Some before) × ([] ≡ before ++ given_in log)) → new w (calls_with calls []) past
    alone [] so is = (so w calls past at tt).1
    alone (h ∷ log) so is = absurd (nil-cons is.0 (record { call = h.call; outcome = h.gave }) (given_in log) is.2)

-- how a piece ended that was not taken
pub memory-ended : (A B : Type 0) (end : StreamEnd) (note : Note) → IsEnded {A = A} (Err end) note → (is_memory note ≡ true) × ((n : Note) → is_memory n ≡ true → IsEnded {A = B} (Err end) n)
memory-ended A B stream.PeerEnded note h = absurd h
memory-ended A B stream.LinkClosed note h = absurd h
memory-ended A B stream.ReadsUsed note h = absurd h
memory-ended A B stream.ReadFault note h = absurd h
memory-ended A B stream.WriteFault note h = absurd h
memory-ended A B stream.Memory note h = (h, λ n m. m)

-- Lines.

pub there-going : (limits : Limits) (l : Line) → is_going limits l ≡ true → is_gone l ≡ false
there-going limits Gone h = absurd cc
there-going limits Shut h = absurd cc
there-going limits (Up s) h = refl

there-longer : (x : List ℕ) (l : Line) → is_gone l ≡ false → is_gone (longer x l) ≡ false
there-longer x Gone h = absurd cc
there-longer x Shut h = refl
there-longer x (Up s) h = refl

pub there-still : (past : List Event) (c moment : ℕ) (x : List ℕ) → is_gone (line past c) ≡ false → is_gone (line (Piece c moment x ∷ past) c) ≡ false
there-still past c moment x h = subst (λ (l : Line). is_gone l ≡ false) (sym (same-by c (longer x (line past c)) (line past c))) (there-longer x (line past c) h)

-- what comes on a connection that is there is not refused
pub refused-there : (past : List Event) (c : ℕ) → is_gone (line past c) ≡ false → Refused ≡ (if is_gone (line past c) then Refused else Done) → ⊥
refused-there past c there refused = let done : Refused ≡ Done = refused ∙ ap (λ (b : Bool). if b then Refused else Done) there in cc

-- an error notes no piece that was taken
pub err-not-done : (A : Type 0) (e : ServeError) → note_of {A = A} (Err e) ≡ Done → ⊥
err-not-done A serving.NoConnection is = cc
err-not-done A (serving.Memory handled answered) is = cc

abbrev held-in : Awaited → Option Awaited → Awaited
held-in x None = x
held-in x (Some w) = w

pub asked-same : (x w : Awaited) (o : Option Awaited) → Some x ≡ o → o ≡ Some w → x ≡ w
asked-same x w o is at = ap (held-in x) (is ∙ at)

module _ {C : Type 0} (offers : C → Offer) (owner : Owner) where
  -- What the owner answered was handed in ..
  pub ask-answered : (old : Engine C) (x : Awaited) (gave handed : Performed) → Some x ≡ waits_in old → HandsIn (offers old.offering.catalogue) (waits_in old) gave handed
      → (calls : List Call) (past : List Event) (moment : ℕ) (octets written : List ℕ) (w : Awaited) → Asks offers owner calls old past moment octets written w
      → Agrees owner.answers calls (handed_in (record { call = x.call; gave = gave; handed = handed } ∷ []))
      → AreHandedIn owner.offer (record { call = x.call; gave = gave; handed = handed } ∷ []) × (w ≡ x) × (owner.answers calls w.call ≡ handed)
  ask-answered old x gave handed waits hands calls past moment octets written w a agrees =
      let same = asked-same x w (waits_in old) waits a.waits in
      let here : HandsIn owner.offer (Some x) gave handed = subst (λ (o : Option Awaited). HandsIn owner.offer o gave handed) (sym waits) (subst (λ (t : Terms). HandsIn (offer_in t) (waits_in old) gave handed) a.keeps.offer_is hands) in
      ((here, tt), sym same, ap (λ (v : Awaited). owner.answers calls v.call) (sym same) ∙ agrees.0)

  pub ask-resumes : (calls : List Call) (past : List Event) (c moment : ℕ) (octets written : List ℕ) (w x : Awaited) (gave handed : Performed) (note : Note) (engine : Engine C) (before out : List ℕ) → w ≡ x
      → Resumes offers owner (calls ++ w.call ∷ []) past c moment octets written note engine before out
      → Resumes offers owner (calls_with calls (record { call = x.call; gave = gave; handed = handed } ∷ [])) past c moment octets written note engine before out
  ask-resumes calls past c moment octets written w x gave handed note engine before out same r = subst (λ (v : Awaited). Resumes offers owner (calls ++ v.call ∷ []) past c moment octets written note engine before out) same r

  -- .. or it was given up.
  pub ask-left : (calls : List Call) (past : List Event) (c moment : ℕ) (octets written : List ℕ) (note : Note) (engine : Engine C) (before : List ℕ) → Resumes offers owner calls past c moment octets written note engine [] []
      → Resumes offers owner (calls_with calls []) past c moment octets written note engine before before
  ask-left calls past c moment octets written note engine before r = record {
    more = r.more;
    appended = sym (append-nil before) ∙ ap (λ (l : List ℕ). before ++ l) r.appended;
    writes = r.writes;
    rests = subst (λ (l : List Call). Rests offers owner l engine (after owner.limits past (Piece c moment octets) note)) (sym (append-nil calls)) r.rests;
  }

  pub part-whole : (calls : List Call) (past : List Event) (c moment : ℕ) (piece : List ℕ) (engine : Engine C) (before out : List ℕ) → Ends offers owner calls past (Piece c moment piece) Done engine before out
      → TakesPart offers owner calls past c moment piece (Ok (length piece)) engine before out
  part-whole calls past c moment piece engine before out x = (subst (λ (l : List ℕ). Ends offers owner calls past (Piece c moment l) Done engine before out) (sym (take-length piece)) x, inl refl)

  -- an answer that failed is a failed allocation
  pub resumed-memory : (calls : List Call) (past : List Event) (c moment : ℕ) (octets written : List ℕ) (note : Note) (engine : Engine C) (before out : List ℕ) → is_gone (line past c) ≡ false
      → Resumes offers owner calls past c moment octets written note engine before out → (note ≡ Done → ⊥) → is_memory note ≡ true
  resumed-memory calls past c moment octets written Done engine before out there r apart = absurd (apart refl)
  resumed-memory calls past c moment octets written Refused engine before out there r apart = absurd (refused-there past c there r.writes.1)
  resumed-memory calls past c moment octets written (Memory handled answered) engine before out there r apart = refl

  -- so is a piece that was not taken
  pub ended-memory : (calls : List Call) (past : List Event) (c moment : ℕ) (octets : List ℕ) (note : Note) (engine : Engine C) (before out : List ℕ) → is_gone (line past c) ≡ false
      → Ends offers owner calls past (Piece c moment octets) note engine before out → (note ≡ Done → ⊥) → is_memory note ≡ true
  ended-memory calls past c moment octets Done engine before out there r apart = absurd (apart refl)
  ended-memory calls past c moment octets Refused engine before out there r apart = absurd (refused-there past c there r.writes.1)
  ended-memory calls past c moment octets (Memory handled answered) engine before out there r apart = refl

  -- what was fed up to a request, and then answered
  pub resumed-ends : (calls : List Call) (past : List Event) (c moment : ℕ) (octets written : List ℕ) (note : Note) (engine : Engine C) (before mid out : List ℕ) → mid ≡ before ++ written
      → Resumes offers owner calls past c moment octets written note engine mid out → Ends offers owner calls past (Piece c moment octets) note engine before out
  resumed-ends calls past c moment octets written note engine before mid out appended r = record {
    written = written ++ r.more;
    appended = r.appended ∙ ap (λ (l : List ℕ). l ++ r.more) appended ∙ append_assoc before written r.more;
    writes = r.writes;
    rests = r.rests;
  }

  -- what was served to its end, as every host says it
  pub ends-so : (calls : List Call) (past : List Event) (e : Event) (note : Note) (engine : Engine C) (before out : List ℕ) → Ends offers owner calls past e note engine before out
      → EndsSo owner (table_says (meaning_of owner) (made_of owner)) past (Rests offers owner calls engine) e note before out
  ends-so calls past e note engine before out x = (x.written, x.appended, x.writes, x.rests)

  -- all octets of a piece were taken
  pub all-taken : (calls : List Call) (past : List Event) (c moment : ℕ) (piece : List ℕ) (j : ℕ) (engine : Engine C) (before out : List ℕ) → 0 < length piece → length piece ≤ j → IsTakenTo offers owner calls past c moment piece j engine before out
      → Ends offers owner calls past (Piece c moment piece) Done engine before out
  all-taken calls past c moment piece j engine before out some all so = elim so [
    | inl z ↦ absurd (let nothing = z.0 in omega (arith, some, all, nothing))
    | inr e ↦ subst (λ (l : List ℕ). Ends offers owner calls past (Piece c moment l) Done engine before out) (take_all j piece all) e
  ]

  module _ (grow : HearingGrows meaning_in) (stays : EndingsStay meaning_in) (silent : EndsAreSilent meaning_in) (past : List Event) (c moment : ℕ) where
    ends-within : (calls : List Call) (piece : List ℕ) (n : ℕ) (note : Note) (engine : Engine C) (before out : List ℕ) → n ≤ length piece → is_memory note ≡ true
        → Ends offers owner calls past (Piece c moment (take n piece)) note engine before out → Ends offers owner calls past (Piece c moment piece) note engine before out
    ends-within calls piece n Done engine before out within is x = absurd cc
    ends-within calls piece n Refused engine before out within is x = absurd cc
    ends-within calls piece n (Memory handled answered) engine before out within is x = record {
      written = x.written;
      appended = x.appended;
      writes = cut-within (meaning_of owner) (made_of owner) past c moment piece n grow within x.written handled answered x.writes;
      rests = record { offer_is = x.rests.offer_is; idle = x.rests.idle; stands = cut-within-stands (meaning_of owner) (made_of owner) past c moment piece n grow within x.written handled answered x.writes _ x.rests.stands };
    }

    -- A request was asked for, and answered or given up.
    pub part-asked : (calls later : List Call) (piece : List ℕ) (taken : ℕ) (asking engine : Engine C) (before mid out : List ℕ) (note : Note) → taken ≤ length piece → (s : Stops offers owner calls past c moment piece taken asking before mid) → note ≡ Done
        → Resumes offers owner later past c moment (take taken piece) s.written note engine mid out → TakesPart offers owner later past c moment piece (Ok taken) engine before out
    part-asked calls later piece taken asking engine before mid out note within s is r =
        let all = ap (λ (l : List (Arrival Wanted)). length l) s.asks.completes in
        let size = length-append s.asks.front (s.asks.last ∷ []) in (
          subst (λ (n : Note). Ends offers owner later past (Piece c moment (take taken piece)) n engine before out) is (resumed-ends later past c moment (take taken piece) s.written note engine before mid out s.appended r),
          inr (shortest-by owner.limits past c moment piece grow (meaning_of owner) (made_of owner) taken (length s.asks.front + 1) within (omega arith) (omega (arith, all, size)) s.short),
        )

    pub part-left : (calls later : List Call) (piece : List ℕ) (taken : ℕ) (asking engine : Engine C) (before mid out : List ℕ) (note : Note) → taken ≤ length piece → (s : Stops offers owner calls past c moment piece taken asking before mid) → is_memory note ≡ true
        → Resumes offers owner later past c moment (take taken piece) s.written note engine mid out → Ends offers owner later past (Piece c moment piece) note engine before out
    part-left calls later piece taken asking engine before mid out note within s is r =
        ends-within later piece taken note engine before out within is (resumed-ends later past c moment (take taken piece) s.written note engine before mid out s.appended r)

    -- Two parts, one after the other.

    ends-more : (calls later : List Call) (x y : List ℕ) (old new : Engine C) (before mid out : List ℕ) → Ends offers owner calls past (Piece c moment x) Done old before mid → Ends offers owner later (Piece c moment x ∷ past) (Piece c moment y) Done new mid out
        → Ends offers owner later past (Piece c moment (x ++ y)) Done new before out
    ends-more calls later x y old new before mid out a b = record {
      written = a.written ++ b.written;
      appended = b.appended ∙ ap (λ (l : List ℕ). l ++ b.written) a.appended ∙ append_assoc before a.written b.written;
      writes = writes-joined (meaning_of owner) (made_of owner) past c moment x y grow stays silent a.written b.written a.writes b.writes;
      rests = record { offer_is = b.rests.offer_is; idle = b.rests.idle; stands = stands-joined (meaning_of owner) (made_of owner) past c moment x y grow stays silent _ b.rests.stands };
    }

    ends-cut : (calls later : List Call) (piece : List ℕ) (j : ℕ) (old new : Engine C) (before mid out : List ℕ) (note : Note) → j ≤ length piece → IsShortest owner.limits past c moment piece j → is_going owner.limits (line past c) ≡ true → is_memory note ≡ true
        → Ends offers owner calls past (Piece c moment (take j piece)) Done old before mid → Ends offers owner later (Piece c moment (take j piece) ∷ past) (Piece c moment (drop j piece)) note new mid out
        → (n : Note) × (is_memory n ≡ true) × Ends offers owner later past (Piece c moment piece) n new before out
    ends-cut calls later piece j old new before mid out Done within shortest going is a b = absurd cc
    ends-cut calls later piece j old new before mid out Refused within shortest going is a b = absurd cc
    ends-cut calls later piece j old new before mid out (Memory handled answered) within shortest going is a b =
        let k = count_to owner.limits past c moment piece j in (
          Memory (k + handled) (k + answered),
          refl,
          record {
            written = a.written ++ b.written;
            appended = b.appended ∙ ap (λ (l : List ℕ). l ++ b.written) a.appended ∙ append_assoc before a.written b.written;
            writes = cut-joined (meaning_of owner) (made_of owner) past c moment piece j grow stays silent within shortest going a.written b.written handled answered a.writes b.writes;
            rests = record { offer_is = b.rests.offer_is; idle = b.rests.idle; stands = cut-stands (meaning_of owner) (made_of owner) past c moment piece j grow stays silent within shortest going a.written b.written handled answered a.writes b.writes _ b.rests.stands };
          },
        )

    -- Of a piece the first j octets were taken, and then a part of what is left.
    module _ (calls : List Call) (piece : List ℕ) (j : ℕ) (old new : Engine C) (before mid out : List ℕ) (going : is_going owner.limits (line past c) ≡ true) (some : j < length piece)
        (so : IsTakenTo offers owner calls past c moment piece j old before mid) (at : (j ≡ length piece) ⊎ IsShortest owner.limits past c moment piece j) where
      there : is_gone (line past c) ≡ false
      there = there-going owner.limits (line past c) going

      shortest : IsShortest owner.limits past c moment piece j
      shortest = elim at [ inl all ↦ absurd (omega (arith, all, some)) | inr s ↦ s ]

      none : (n : ℕ) → j ≡ 0 → take n (drop j piece) ≡ take (j + n) piece
      none n z = ap (λ (i : ℕ). take n (drop i piece)) z ∙ ap (λ (i : ℕ). take i piece) (omega (arith, z))

      -- what the engine stood for before the part, and what follows of it where the part ended so
      abbrev pub Follows : Result ℕ StreamEnd → (List Call → Type 0) → Type 0
      Follows r Then = (q : List Event) × (Rests offers owner calls old q × (is_gone (line q c) ≡ false)) × ((later : List Call) → TakesPart offers owner later q c moment (drop j piece) r new mid out → Then later)

      pub part-taken : (n : ℕ) → n ≤ length (drop j piece)
          → Follows (Ok n) (λ later. IsTakenTo offers owner later past c moment piece (j + n) new before out × ((j + n ≡ length piece) ⊎ IsShortest owner.limits past c moment piece (j + n)))
      part-taken n within =
          let size = length-drop j piece in
          elim so [
            | inl z ↦ (
              past,
              (z.1, there),
              λ later t.
                  let nothing = z.0 in
                  let all : drop j piece ≡ piece = ap (λ (i : ℕ). drop i piece) nothing in (
                    inr (subst (λ (b : List ℕ). Ends offers owner later past (Piece c moment (take (j + n) piece)) Done new b out) z.2
                        (subst (λ (l : List ℕ). Ends offers owner later past (Piece c moment l) Done new mid out) (none n nothing) t.0)),
                    elim t.1 [
                      | inl whole ↦ inl (omega (arith, whole, size, some))
                      | inr s ↦ inr (subst (λ (i : ℕ). IsShortest owner.limits past c moment piece i) (omega (arith, nothing)) (subst (λ (l : List ℕ). IsShortest owner.limits past c moment l n) all s))
                    ],
                  ),
            )
            | inr e ↦ (
              Piece c moment (take j piece) ∷ past,
              (e.rests, there-still past c moment (take j piece) there),
              λ later t. (
                inr (subst (λ (l : List ℕ). Ends offers owner later past (Piece c moment l) Done new before out) (sym (take-add j n piece)) (ends-more calls later (take j piece) (take n (drop j piece)) old new before mid out e t.0)),
                elim t.1 [
                  | inl whole ↦ inl (omega (arith, whole, size, some))
                  | inr s ↦ inr (shortest-more owner.limits past c moment piece grow j n shortest s)
                ],
              ),
            )
          ]

      pub part-ended : (end : StreamEnd) → Follows (Err end) (λ later. (note : Note) × IsEnded {A = Unit {0}} (Err end) note × EndsSo owner (table_says (meaning_of owner) (made_of owner)) past (Rests offers owner later new) (Piece c moment piece) note before out)
      part-ended end =
          elim so [
            | inl z ↦ (
              past,
              (z.1, there),
              λ later t.
                  let m = memory-ended ℕ (Unit {0}) end t.0 t.1 in (
                    t.0,
                    m.1 t.0 m.0,
                    ends-so later past (Piece c moment piece) t.0 new before out
                        (subst (λ (b : List ℕ). Ends offers owner later past (Piece c moment piece) t.0 new b out) z.2
                        (subst (λ (l : List ℕ). Ends offers owner later past (Piece c moment l) t.0 new mid out) (ap (λ (i : ℕ). drop i piece) z.0) t.2)),
                  ),
            )
            | inr e ↦ (
              Piece c moment (take j piece) ∷ past,
              (e.rests, there-still past c moment (take j piece) there),
              λ later t.
                  let m = memory-ended ℕ (Unit {0}) end t.0 t.1 in
                  let x = ends-cut calls later piece j old new before mid out t.0 (omega (arith, some)) shortest going m.0 e t.2 in
                  (x.0, m.1 x.0 x.1, ends-so later past (Piece c moment piece) x.0 new before out x.2),
            )
          ]
