-- A connection that is served while requests are parked: what happens does so on it, and who waits on others waits on.
use Rattle.std.proofs.Common.{◌≡◌, ◌==◌, ℕ, suc, ◌+◌, ◌<◌, max, nat_le, Bool, true, false, not, cond, ◌&&◌, if◌then◌else◌, inl, inr, List, [], ◌∷◌, ◌++◌, drop, length, map, take, Option, None, Some, refl, sym, ap, subst, ◌∙◌, arith, append_assoc, length-append}
use Rattle.std.proofs.lemmas.Bool.{eq-eqb, eqb-true}
use Rattle.std.proofs.Math.Seq.{take-add}
use Rattle.std.proofs.lemmas.List.{append-nil, take-append-drop}
use Rattle.std.specs.List.{AllByRecursion}
use Rattle.giop_frames.specs.declared.limits.Limits.{Limits}
use Rattle.ft_log.specs.Holding.{Holding, known}
use Rattle.ft_log.specs.Performed.{Performed}
use Rattle.ft_objects.specs.Catalogues.{Offer}
use Rattle.ft_orb.specs.declared.engine.Engine.{Engine}
use Rattle.ft_orb.specs.declared.events.Note.{Note}
use Rattle.ft_orb.specs.declared.events.Note.TheVariants.{Done, Memory, Refused}
use Rattle.ft_orb.specs.declared.parked.Waiter.{Waiter}
use Rattle.ft_orb.specs.declared.wire.StreamEnd.{StreamEnd}
use Rattle.ft_orb.specs.declared.wire.StreamEnd.TheVariants as stream
use Rattle.ft_orb.specs.Answers.{Answer, calls_of}
use Rattle.ft_orb.specs.Engines.{Awaited, waits_in}
use Rattle.ft_orb.specs.Handovers.{AreFromWire, AreHandedIn, AreOn, ArePieces, ArePiecesThen, Handover, IsPieceOf, given_by, handed_in, known_from, octets_in}
use Rattle.ft_orb.specs.History.{Changed, Close, Event, Gone, Line, Lost, Opened, Piece, Shut, Up, Withdrew, arrivals_in, changes, clock, front_in, front_on, least, line, longer, origin, shortened, shut}
use Rattle.ft_orb.specs.Laws.{is_memory}
use Rattle.ft_orb.specs.Outputs.{after, is_going, is_gone, note_in}
use Rattle.ft_orb.specs.Parked.{elsewhere, is_wished, on_going}
use Rattle.ft_orb.specs.Parking.{AsksLate, RepeatsLate, ResumesLate, Settings, Stays, goes_on, put_at, still, waiter_of}
use Rattle.ft_orb.specs.Requests.{Call, Origin, Terms, offer_in}
use Rattle.ft_orb.specs.Sessions.{AreSoFar, Attended, AttendsLate, GrowsBy, IsAttended, IsOn, LeavesLate, LosesLate, IsRest, ServesRead, TookAll, TookFront, calls_with}
use Rattle.ft_orb.specs.Visits.{HandsIn}
use Rattle.ft_orb.specs.Wires.{Act, Gave, GaveNone, ReadFailed, TakeAll, TakeFront, Took, TookNone, WriteFailed}
use Rattle.ft_orb.proofs.Clearing.{going-append}
use Rattle.ft_orb.proofs.Handing.{are-joined, asked-same, calls-joined, handed-joined, says-joined}
use Rattle.ft_orb.proofs.Late.{put-else}
use Rattle.ft_orb.proofs.Ledgers.{twice}
use Rattle.ft_orb.proofs.Others.{elsewhere-append, here-not, others-same}
use Rattle.ft_orb.proofs.Pieces.{same-by}
use Rattle.ft_orb.proofs.Streams.{all-append, grows-none, grows-then}

-- Events of one connection.

apart-of : (d c q : ℕ) → d ≡ c → (q == c) ≡ false → (d == q) ≡ false
apart-of d c q is apart = by (d == q) refl
  where
    by : (b : Bool) → (d == q) ≡ b → (d == q) ≡ false
    by true at = absurd (let yes : (q == c) ≡ true = eq-eqb q c (sym (eqb-true d q at) ∙ is) in let no : (q == c) ≡ false = apart in cc)
    by false at = at

line-else : (c : ℕ) (e : Event) (past : List Event) → IsOn c e → (q : ℕ) → (q == c) ≡ false → line (e ∷ past) q ≡ line past q
line-else c (Opened d) past on q apart = absurd on
line-else c (Piece d moment octets) past on q apart = ap (λ (b : Bool). cond b (longer octets (line past q)) (line past q)) (apart-of d c q on apart)
line-else c (Close d) past on q apart = ap (λ (b : Bool). cond b (shut (line past q)) (line past q)) (apart-of d c q on apart)
line-else c (Lost d) past on q apart = ap (λ (b : Bool). cond b Gone (line past q)) (apart-of d c q on apart)
line-else c (Withdrew i) past on q apart = absurd on
line-else c Changed past on q apart = absurd on

changes-one : (c : ℕ) (e : Event) (past : List Event) → IsOn c e → changes (e ∷ past) ≡ changes past
changes-one c (Opened d) past on = absurd on
changes-one c (Piece d moment octets) past on = refl
changes-one c (Close d) past on = refl
changes-one c (Lost d) past on = refl
changes-one c (Withdrew i) past on = absurd on
changes-one c Changed past on = absurd on

abbrev AreHere : ℕ → List Event → Type 0
AreHere c events = AllByRecursion (IsOn c) events

changes-on : (c : ℕ) (events past : List Event) → AreHere c events → changes (events ++ past) ≡ changes past
changes-on c [] past on = refl
changes-on c (e ∷ events) past on = changes-one c e (events ++ past) on.0 ∙ changes-on c events past on.1

goes-else : (limits : Limits) (c : ℕ) (events past : List Event) → AreHere c events → (q : ℕ) → (q == c) ≡ false → goes_on limits (events ++ past) q ≡ goes_on limits past q
goes-else limits c [] past on q apart = refl
goes-else limits c (e ∷ events) past on q apart = ap (is_going limits) (line-else c e (events ++ past) on.0 q apart) ∙ goes-else limits c events past on.1 q apart

-- a front of octets is one, and then a rest
front-rest : (limits : Limits) (c : Origin) (now : ℕ) (l : Line) (octets : List ℕ) (k : ℕ) → (rest : List ℕ) × (octets ≡ front_on limits c now l octets k ++ rest)
unfolding front_in
front-rest limits c now Gone octets k = (octets, refl)
front-rest limits c now Shut octets k = (octets, refl)
front-rest limits c now (Up s) octets k =
    let n = least (λ n. nat_le k (length (arrivals_in limits c now s (take n octets)))) (length octets) in
    (drop n octets, sym (take-append-drop n octets))

-- what an event leaves, however it ended
abbrev pub left : Limits → List Event → Event → Note → List Event
left limits past e Done = e ∷ []
left limits past e Refused = e ∷ []
left limits past (Opened d) (Memory handled answered) = []
left limits past (Piece d moment octets) (Memory handled answered) = Lost d ∷ shortened limits past (Piece d moment octets) handled ∷ []
left limits past (Close d) (Memory handled answered) = Lost d ∷ []
left limits past (Lost d) (Memory handled answered) = Lost d ∷ []
left limits past (Withdrew i) (Memory handled answered) = []
left limits past Changed (Memory handled answered) = []

after-left : (limits : Limits) (past : List Event) (e : Event) (note : Note) → after limits past e note ≡ left limits past e note ++ past
after-left limits past e Done = refl
after-left limits past e Refused = refl
after-left limits past (Opened d) (Memory handled answered) = refl
after-left limits past (Piece d moment octets) (Memory handled answered) = refl
after-left limits past (Close d) (Memory handled answered) = refl
after-left limits past (Lost d) (Memory handled answered) = refl
after-left limits past (Withdrew i) (Memory handled answered) = refl
after-left limits past Changed (Memory handled answered) = refl

left-on : (limits : Limits) (c : ℕ) (past : List Event) (e : Event) (note : Note) → IsOn c e → AreHere c (left limits past e note)
left-on limits c past e Done on = (on, tt)
left-on limits c past e Refused on = (on, tt)
left-on limits c past (Opened d) (Memory handled answered) on = absurd on
left-on limits c past (Piece d moment octets) (Memory handled answered) on = (on, (on, tt))
left-on limits c past (Close d) (Memory handled answered) on = (on, tt)
left-on limits c past (Lost d) (Memory handled answered) on = (on, tt)
left-on limits c past (Withdrew i) (Memory handled answered) on = absurd on
left-on limits c past Changed (Memory handled answered) on = absurd on

-- of a piece a front, where memory was wanting, and then the loss
pub short-left : (limits : Limits) (c : ℕ) (past : List Event) (moment : ℕ) (piece : List ℕ) (note : Note) → is_memory note ≡ true
    → ArePiecesThen c (Lost c) (left limits past (Piece c moment piece) note) × (rest : List ℕ) × (piece ≡ octets_in (left limits past (Piece c moment piece) note) ++ rest)
short-left limits c past moment piece Done is = absurd (let no : false ≡ true = is in cc)
short-left limits c past moment piece Refused is = absurd (let no : false ≡ true = is in cc)
short-left limits c past moment piece (Memory handled answered) is =
    let front = front-rest limits (origin past c) (max (clock past) moment) (line past c) piece handled in
    ((shortened limits past (Piece c moment piece) handled ∷ [], refl, (refl, tt)), front.0, front.1)

-- What is refused does not go on.

off-line : (limits : Limits) (l : Line) (octets : List ℕ) → Refused ≡ (if is_gone l then Refused else Done) → is_going limits (longer octets l) ≡ false
off-line limits Gone octets is = refl
off-line limits Shut octets is = absurd cc
off-line limits (Up s) octets is = absurd cc

pub off-piece : (limits : Limits) (past : List Event) (c moment : ℕ) (octets : List ℕ) → Refused ≡ note_in past (Piece c moment octets) → goes_on limits (Piece c moment octets ∷ past) c ≡ false
off-piece limits past c moment octets is = ap (is_going limits) (same-by c (longer octets (line past c)) (line past c)) ∙ off-line limits (line past c) octets is

off-close : (limits : Limits) (l : Line) → Refused ≡ (if is_gone l then Refused else Done) → is_going limits l ≡ false
off-close limits Gone is = refl
off-close limits Shut is = absurd cc
off-close limits (Up s) is = absurd cc

pub off-closed : (limits : Limits) (past : List Event) (c : ℕ) → Refused ≡ note_in past (Close c) → goes_on limits past c ≡ false
off-closed limits past c is = off-close limits (line past c) is

pub ended-off : (goes ended : Bool) → ended ≡ not goes → ended ≡ true → goes ≡ false
ended-off true ended is over = absurd (let both : true ≡ false = sym over ∙ is in cc)
ended-off false ended is over = refl

-- What happened after pieces.

pub pieces-joined : (c : ℕ) (xs ys : List Event) → ArePieces c xs → ArePieces c ys → ArePieces c (ys ++ xs)
pieces-joined c xs ys p q = all-append (IsPieceOf c) ys xs q p

then-joined : (c : ℕ) (last : Event) (xs ys : List Event) → ArePieces c xs → ArePiecesThen c last ys → ArePiecesThen c last (ys ++ xs)
then-joined c last xs ys p q = (q.0 ++ xs, ap (λ (l : List Event). l ++ xs) q.1, pieces-joined c xs q.0 p q.2)

pub on-joined : (limits : Limits) (past : List Event) (c : ℕ) (end : StreamEnd) (xs ys : List Event) → ArePieces c xs → AreOn limits (xs ++ past) c end ys → AreOn limits past c end (ys ++ xs)
on-joined limits past c stream.PeerEnded xs ys p q = pieces-joined c xs ys p q
on-joined limits past c stream.LinkClosed xs ys p q = (pieces-joined c xs ys p q.0, subst (λ (all : List Event). goes_on limits all c ≡ false) (sym (append_assoc ys xs past)) q.1)
on-joined limits past c stream.ReadsUsed xs ys p q = then-joined c (Close c) xs ys p q
on-joined limits past c stream.ReadFault xs ys p q = pieces-joined c xs ys p q
on-joined limits past c stream.WriteFault xs ys p q =
    elim q as (λ h. AreOn limits past c stream.WriteFault (ys ++ xs)) [
      | inl h ↦ inl (pieces-joined c xs ys p h)
      | inr h ↦ inr (then-joined c (Close c) xs ys p h)
    ]
on-joined limits past c stream.Memory xs ys p q = then-joined c (Lost c) xs ys p q

pub so-far-joined : (limits : Limits) (past : List Event) (c : ℕ) (end : Option StreamEnd) (xs ys : List Event) → ArePieces c xs → AreSoFar limits (xs ++ past) c end ys → AreSoFar limits past c end (ys ++ xs)
so-far-joined limits past c None xs ys p q = pieces-joined c xs ys p q
so-far-joined limits past c (Some end) xs ys p q = on-joined limits past c end xs ys p q

pub octets-joined : (ys xs : List Event) → octets_in (ys ++ xs) ≡ octets_in xs ++ octets_in ys
octets-joined [] xs = sym (append-nil (octets_in xs))
octets-joined (Opened c ∷ ys) xs = octets-joined ys xs
octets-joined (Piece c moment octets ∷ ys) xs = ap (λ (l : List ℕ). l ++ octets) (octets-joined ys xs) ∙ append_assoc (octets_in xs) (octets_in ys) octets
octets-joined (Close c ∷ ys) xs = octets-joined ys xs
octets-joined (Lost c ∷ ys) xs = octets-joined ys xs
octets-joined (Withdrew i ∷ ys) xs = octets-joined ys xs
octets-joined (Changed ∷ ys) xs = octets-joined ys xs

-- Who waits elsewhere.

others-on : (limits : Limits) (c : ℕ) (events past : List Event) → AreHere c events → (ws : List Waiter) → elsewhere c (on_going (goes_on limits (events ++ past)) ws) ≡ elsewhere c (on_going (goes_on limits past) ws)
others-on limits c events past on ws = others-same c (goes_on limits past) (goes_on limits (events ++ past)) (λ q apart. goes-else limits c events past on q apart) ws

-- once c is lost those who wait do so elsewhere
lost-others : (limits : Limits) (past : List Event) (c : ℕ) (ws : List Waiter) → on_going (goes_on limits (Lost c ∷ past)) ws ≡ elsewhere c (on_going (goes_on limits past) ws)
lost-others limits past c [] = refl
lost-others limits past c (w ∷ ws) = by (c == w.connection) refl (lost-others limits past c ws)
  where
    by : (b : Bool) → (c == w.connection) ≡ b → on_going (goes_on limits (Lost c ∷ past)) ws ≡ elsewhere c (on_going (goes_on limits past) ws)
        → cond (is_going limits (cond b Gone (line past w.connection))) (w ∷ on_going (goes_on limits (Lost c ∷ past)) ws) (on_going (goes_on limits (Lost c ∷ past)) ws)
        ≡ elsewhere c (cond (goes_on limits past w.connection) (w ∷ on_going (goes_on limits past) ws) (on_going (goes_on limits past) ws))
    by true is rest = rest ∙ sym (here-not c (goes_on limits past w.connection) w (on_going (goes_on limits past) ws) (eq-eqb w.connection c (sym (eqb-true c w.connection is))))
    by false is rest =
        elim (goes_on limits past w.connection) as (λ (g : Bool). cond g (w ∷ on_going (goes_on limits (Lost c ∷ past)) ws) (on_going (goes_on limits (Lost c ∷ past)) ws) ≡ elsewhere c (cond g (w ∷ on_going (goes_on limits past) ws) (on_going (goes_on limits past) ws))) [
          | true ↦
              ap (λ (l : List Waiter). w ∷ l) rest
              ∙ sym (ap (λ (b : Bool). cond (not b) (w ∷ elsewhere c (on_going (goes_on limits past) ws)) (elsewhere c (on_going (goes_on limits past) ws))) (apart-of w.connection w.connection c refl is))
          | false ↦ rest
        ]

lost-those : (limits : Limits) (c : ℕ) (events past : List Event) (those waiting : ℕ → List Waiter) → AreHere c events → ((n : ℕ) → elsewhere c (still limits (events ++ past) those n) ≡ elsewhere c (still limits past waiting n))
    → still limits (Lost c ∷ (events ++ past)) those ≡ still limits (Lost c ∷ (events ++ past)) waiting
lost-those limits c events past those waiting on others i n = each n i
  where
    each : (n : ℕ) → still limits (Lost c ∷ (events ++ past)) those n ≡ still limits (Lost c ∷ (events ++ past)) waiting n
    each n = lost-others limits (events ++ past) c (those n) ∙ others n ∙ sym (others-on limits c events past on (waiting n)) ∙ sym (lost-others limits (events ++ past) c (waiting n))

-- What is known of calls.

known-joined : (i : ℕ) (xs ys : List Answer) (held : ℕ → Holding) → known_from i (xs ++ ys) held ≡ known_from (i + length xs) ys (known_from i xs held)
known-joined i [] ys held = ap (λ (n : ℕ). known_from n ys held) (omega arith)
known-joined i (a ∷ xs) ys held =
    let more = put_at i (known a.outcome) held in
    known-joined (i + 1) xs ys more ∙ ap (λ (n : ℕ). known_from n ys (known_from (i + 1) xs more)) (omega arith)

pub known-before : (n : ℕ) (xs : List Answer) (held : ℕ → Holding) (i : ℕ) → i < n → known_from n xs held i ≡ held i
known-before n [] held i less = refl
known-before n (a ∷ xs) held i less = known-before (n + 1) xs (put_at n (known a.outcome) held) i (omega (arith, less)) ∙ put-else n (known a.outcome) held i (λ same. absurd (omega (arith, same, less)))

calls-count : (log : List Handover) → length (calls_of (handed_in log)) ≡ length (handed_in log)
calls-count [] = refl
calls-count (h ∷ log) = ap (λ (n : ℕ). suc n) (calls-count log)

known-then : (calls : List Call) (log more : List Handover) (held : ℕ → Holding)
    → known_from (length (calls_with calls log)) (handed_in more) (known_from (length calls) (handed_in log) held) ≡ known_from (length calls) (handed_in (log ++ more)) held
known-then calls log more held =
    let size : length (calls_with calls log) ≡ length calls + length (handed_in log) = length-append calls (calls_of (handed_in log)) ∙ ap (λ (n : ℕ). length calls + n) (calls-count log) in
    ap (λ (n : ℕ). known_from n (handed_in more) (known_from (length calls) (handed_in log) held)) size
    ∙ sym (known-joined (length calls) (handed_in log) (handed_in more) held)
    ∙ ap (λ (xs : List Answer). known_from (length calls) xs held) (sym (handed-joined log more))

-- What was performed, and what follows.
module _ {H : Type 0} (stays : Settings → (ℕ → Holding) → List Call → H → List Event → (ℕ → List Waiter) → Type 0) (c : ℕ) where
  -- nothing happened ..
  pub attended-none : (serves : Limits → (past events : List Event) → Type 0) (s : Settings) (held : ℕ → Holding) (calls : List Call) (past : List Event) (waiting : ℕ → List Waiter) (host : H) → serves s.limits past []
      → stays s held calls host past waiting → IsAttended stays c serves s held calls past waiting [] host
  attended-none serves s held calls past waiting host none x = record {
    handed = tt;
    events = [];
    on = tt;
    served = none;
    those = waiting;
    others = λ n. refl;
    stay = subst (λ (l : List Call). stays s held l host past waiting) (sym (append-nil calls)) x;
  }

  -- .. or an event of the connection, in which some may have come to wait on it
  attended-after : (serves : Limits → (past events : List Event) → Type 0) (s : Settings) (held : ℕ → Holding) (calls : List Call) (past : List Event) (waiting those : ℕ → List Waiter) (log : List Handover) (e : Event) (note : Note) (host : H) → IsOn c e
      → serves s.limits past (left s.limits past e note)
      → ((n : ℕ) → elsewhere c (still s.limits past those n) ≡ elsewhere c (still s.limits past waiting n)) → AreHandedIn (offer_in (s.terms (changes past))) log
      → stays s (known_from (length calls) (handed_in log) held) (calls_with calls log) host (after s.limits past e note) (still s.limits (after s.limits past e note) those)
      → IsAttended stays c serves s held calls past waiting log host
  attended-after serves s held calls past waiting those log e note host on so same handed x =
      let events = left s.limits past e note in
      let here = left-on s.limits c past e note on in
      record {
        handed = handed;
        events = events;
        on = here;
        served = so;
        those = still s.limits (events ++ past) those;
        others = λ n. ap (elsewhere c) (twice (goes_on s.limits (events ++ past)) (those n)) ∙ others-on s.limits c events past here (those n) ∙ same n;
        stay = subst (λ (p : List Event). stays s (known_from (length calls) (handed_in log) held) (calls_with calls log) host p (still s.limits p those)) (after-left s.limits past e note) x;
      }

  module _ (one two all : Limits → (past events : List Event) → Type 0) (join : (limits : Limits) (past a b : List Event) → one limits past a → two limits (a ++ past) b → all limits past (b ++ a)) where
    attended-then : (s : Settings) (held : ℕ → Holding) (calls : List Call) (past : List Event) (waiting : ℕ → List Waiter) (log more : List Handover) (mid new : H) (x : IsAttended stays c one s held calls past waiting log mid)
        → IsAttended stays c two s (known_from (length calls) (handed_in log) held) (calls_with calls log) (x.events ++ past) x.those more new → IsAttended stays c all s held calls past waiting (log ++ more) new
    attended-then s held calls past waiting log more mid new x y =
        let offer = offer_in (s.terms (changes past)) in
        let assoc = append_assoc y.events x.events past in
        let since = known_from (length (calls_with calls log)) (handed_in more) (known_from (length calls) (handed_in log) held) in
        record {
          handed = are-joined offer log more x.handed (subst (λ (n : ℕ). AreHandedIn (offer_in (s.terms n)) more) (changes-on c x.events past x.on) y.handed);
          events = y.events ++ x.events;
          on = all-append (IsOn c) y.events x.events y.on x.on;
          served = join s.limits past x.events y.events x.served y.served;
          those = y.those;
          others = λ n. subst (λ (p : List Event). elsewhere c (still s.limits p y.those n) ≡ elsewhere c (still s.limits past waiting n)) (sym assoc) (y.others n ∙ x.others n);
          stay =
              subst (λ (p : List Event). stays s (known_from (length calls) (handed_in (log ++ more)) held) (calls_with calls (log ++ more)) new p y.those) (sym assoc)
              (subst (λ (f : ℕ → Holding). stays s f (calls_with calls (log ++ more)) new (y.events ++ (x.events ++ past)) y.those) (known-then calls log more held)
              (subst (λ (l : List Call). stays s since l new (y.events ++ (x.events ++ past)) y.those) (calls-joined calls log more) y.stay));
        }

    pub late-then : (before mid now : Option (List Answer)) (old at new : H) → AttendsLate stays c one before mid old at → AttendsLate stays c two mid now at new → AttendsLate stays c all before now old new
    late-then before mid now old at new x y = record {
      log = x.log ++ y.log;
      said = says-joined x.log y.log before mid now x.said y.said;
      so = λ s held calls past waiting h.
          let a = x.so s held calls past waiting h in
          attended-then s held calls past waiting x.log y.log at new a (y.so s (known_from (length calls) (handed_in x.log) held) (calls_with calls x.log) (a.events ++ past) a.those a.stay);
    }

  pub late-none : (serves : Limits → (past events : List Event) → Type 0) → ((limits : Limits) (past : List Event) → serves limits past []) → (now : Option (List Answer)) (host : H) → AttendsLate stays c serves now now host host
  late-none serves none now host = record { log = []; said = grows-none now; so = λ s held calls past waiting x. attended-none serves s held calls past waiting host (none s.limits past) x }

  pub late-alone : (serves : Limits → (past events : List Event) → Type 0) (now : Option (List Answer)) (old new : H) → Attended stays c serves [] old new → AttendsLate stays c serves now now old new
  late-alone serves now old new x = record { log = []; said = grows-none now; so = x }

  -- what was served is said otherwise
  pub attended-so : (one all : Limits → (past events : List Event) → Type 0) (log : List Handover) (old new : H) → ((limits : Limits) (past events : List Event) → one limits past events → all limits past events) → Attended stays c one log old new → Attended stays c all log old new
  attended-so one all log old new so x s held calls past waiting h =
      let a = x s held calls past waiting h in
      record { handed = a.handed; events = a.events; on = a.on; served = so s.limits past a.events a.served; those = a.those; others = a.others; stay = a.stay }

  pub late-so : (one all : Limits → (past events : List Event) → Type 0) (before now : Option (List Answer)) (old new : H)
      → ((s : Settings) (held : ℕ → Holding) (calls : List Call) (past events : List Event) (those : ℕ → List Waiter) → stays s held calls new (events ++ past) those → one s.limits past events → all s.limits past events)
      → AttendsLate stays c one before now old new → AttendsLate stays c all before now old new
  late-so one all before now old new so x = record {
    log = x.log;
    said = x.said;
    so = λ s held calls past waiting h.
        let a = x.so s held calls past waiting h in
        record { handed = a.handed; events = a.events; on = a.on; served = so s (known_from (length calls) (handed_in x.log) held) (calls_with calls x.log) past a.events a.those a.stay a.served; those = a.those; others = a.others; stay = a.stay };
  }

  -- the connection is lost at last
  pub late-left : (serves : Limits → (past events : List Event) → Type 0) (before now : Option (List Answer)) (old at new : H) → AttendsLate stays c serves before now old at → LosesLate stays c at new → LeavesLate stays c serves before now old new
  late-left serves before now old at new x y = record {
    log = x.log;
    said = x.said;
    so = λ s held calls past waiting h.
        let a = x.so s held calls past waiting h in
        let since = known_from (length calls) (handed_in x.log) held in
        record {
          handed = a.handed;
          events = a.events;
          served = a.served;
          stay = subst (λ (f : ℕ → List Waiter). stays s since (calls_with calls x.log) new (Lost c ∷ (a.events ++ past)) f) (lost-those s.limits c a.events past a.those waiting a.on a.others)
              (y s since (calls_with calls x.log) (a.events ++ past) a.those a.stay);
        };
  }

-- What was served of octets.

-- of a part of a piece
pub front-of : (n : ℕ) (piece octets rest : List ℕ) → take n piece ≡ octets ++ rest → piece ≡ octets ++ (rest ++ drop n piece)
front-of n piece octets rest is = sym (take-append-drop n piece) ∙ ap (λ (l : List ℕ). l ++ drop n piece) is ∙ append_assoc octets rest (drop n piece)

pub part-joined : (k n : ℕ) (piece left a b : List ℕ) → left ≡ drop k piece → a ≡ take k piece → b ≡ take n left → a ++ b ≡ take (k + n) piece
part-joined k n piece left a b back x y = (λ i. x i ++ (y ∙ ap (take n) back) i) ∙ sym (take-add k n piece)

pub rest-joined : (k : ℕ) (piece left a b rest : List ℕ) → left ≡ drop k piece → a ≡ take k piece → left ≡ b ++ rest → piece ≡ (a ++ b) ++ rest
rest-joined k piece left a b rest back x y = sym (take-append-drop k piece) ∙ (λ i. sym x i ++ (sym back ∙ y) i) ∙ sym (append_assoc a b rest)

-- What a wire gave.

given-joined : (xs ys : List Act) → given_by (xs ++ ys) ≡ given_by xs ++ given_by ys
given-joined [] ys = refl
given-joined (Gave octets ∷ xs) ys = ap (λ (l : List ℕ). octets ++ l) (given-joined xs ys) ∙ sym (append_assoc octets (given_by xs) (given_by ys))
given-joined (GaveNone ∷ xs) ys = given-joined xs ys
given-joined (ReadFailed ∷ xs) ys = given-joined xs ys
given-joined (Took octets ∷ xs) ys = given-joined xs ys
given-joined (TookNone ∷ xs) ys = given-joined xs ys
given-joined (WriteFailed ∷ xs) ys = given-joined xs ys

given-took : (writes : List (List ℕ)) → given_by (map Took writes) ≡ []
given-took [] = refl
given-took (w ∷ writes) = given-took writes

given-all : (out : List ℕ) (acts : List Act) → TakeAll out acts → given_by acts ≡ []
given-all out acts x = ap given_by x.2 ∙ given-took x.0

given-front : (out : List ℕ) (acts : List Act) → TakeFront out acts → given_by acts ≡ []
given-front out acts x =
    ap given_by x.3 ∙ given-joined (map Took x.0) (x.1 ∷ []) ∙ ap (λ (l : List ℕ). l ++ given_by (x.1 ∷ [])) (given-took x.0)
    ∙ (elim x.2.3 as (λ h. given_by (x.1 ∷ []) ≡ []) [
      | inl h ↦ ap (λ (a : Act). given_by (a ∷ [])) h
      | inr h ↦ ap (λ (a : Act). given_by (a ∷ [])) h
    ])

module _ (end : Option StreamEnd) (octets : List ℕ) where
  -- these acts were done
  pub read-by : (rest : List ℕ) → IsRest end rest → (acts : List Act) (old new : Option (List Act)) → GrowsBy acts old new → given_by acts ≡ octets ++ rest → ServesRead end octets old new
  read-by rest match acts old new did given now is = let g = did now is in (g.0, g.1, (acts, rest, g.2, given, match))

  -- octets were read, and then an answer written
  pub read-all : IsRest end [] → (out : List ℕ) (old mid new : Option (List Act)) → GrowsBy (Gave octets ∷ []) old mid → TookAll out mid new → ServesRead end octets old new
  read-all match out old mid new read took =
      read-by [] match (Gave octets ∷ took.0) old new (grows-then (Gave octets ∷ []) took.0 (Gave octets ∷ took.0) old mid new read took.2 refl) (ap (λ (l : List ℕ). octets ++ l) (given-all out took.0 took.1))

  pub read-front : IsRest end [] → (out : List ℕ) (old mid new : Option (List Act)) → GrowsBy (Gave octets ∷ []) old mid → TookFront out mid new → ServesRead end octets old new
  read-front match out old mid new read took =
      read-by [] match (Gave octets ∷ took.0) old new (grows-then (Gave octets ∷ []) took.0 (Gave octets ∷ took.0) old mid new read took.2 refl) (ap (λ (l : List ℕ). octets ++ l) (given-front out took.0 took.1))

pub read-none : (wire : Option (List Act)) → ServesRead None [] wire wire
read-none wire now is = (now, is, ([], [], sym (append-nil now), refl, refl))

pub said-all : (out : List ℕ) (old new : Option (List Act)) → TookAll out old new → ServesRead None [] old new
said-all out old new took = read-by None [] [] refl took.0 old new took.2 (given-all out took.0 took.1)

pub said-front : (out : List ℕ) (old new : Option (List Act)) → TookFront out old new → ServesRead None [] old new
said-front out old new took = read-by None [] [] refl took.0 old new took.2 (given-front out took.0 took.1)

pub read-then : (end : Option StreamEnd) (a b : List ℕ) (old mid new : Option (List Act)) → ServesRead None a old mid → ServesRead end b mid new → ServesRead end (a ++ b) old new
read-then end a b old mid new x y now is =
    let q = y now is in
    let p = x q.0 q.1 in (
      p.0,
      p.1,
      (
        p.2.0 ++ q.2.0,
        q.2.1,
        q.2.2 ∙ ap (λ (l : List Act). l ++ q.2.0) p.2.2 ∙ append_assoc p.0 p.2.0 q.2.0,
        given-joined p.2.0 q.2.0 ∙ (λ i. (p.2.3 ∙ ap (λ (l : List ℕ). a ++ l) p.2.4 ∙ append-nil a) i ++ q.2.3 i) ∙ sym (append_assoc a b q.2.1),
        q.2.4,
      ),
    )

-- .. in events one after another
pub visited-then : (end : Option StreamEnd) (a b : List Event) (old mid new : Option (List Act)) → ServesRead None (octets_in a) old mid → ServesRead end (octets_in b) mid new → ServesRead end (octets_in (b ++ a)) old new
visited-then end a b old mid new x y = subst (λ (l : List ℕ). ServesRead end l old new) (sym (octets-joined b a)) (read-then end (octets_in a) (octets_in b) old mid new x y)

pub read-wire : (end : StreamEnd) (octets : List ℕ) (old new : Option (List Act)) → ServesRead None octets old new → AreFromWire end octets old new
read-wire end octets old new x now is =
    let p = x now is in
    let few : length p.2.1 ≡ 0 = ap (λ (l : List ℕ). length l) p.2.4 in
    (p.0, p.1, (p.2.0, p.2.1, p.2.2, p.2.3, (λ apart. p.2.4, omega (arith, few))))

-- An engine.
module _ {C : Type 0} (offers : C → Offer) (s : Settings) (held : ℕ → Holding) (calls : List Call) (past : List Event) (waiting : ℕ → List Waiter) (c : ℕ) (serves : Limits → (past events : List Event) → Type 0) where
  abbrev Served : List Handover → Engine C → Type 0
  Served log engine = IsAttended (λ s held calls engine past waiting. Stays offers s held calls engine past waiting) c serves s held calls past waiting log engine

  -- nothing was performed in an event ..
  pub event-late : (e : Event) (note : Note) (engine : Engine C) → IsOn c e → serves s.limits past (left s.limits past e note)
      → Stays offers s held calls engine (after s.limits past e note) (still s.limits (after s.limits past e note) waiting) → Served [] engine
  event-late e note engine on so x =
      attended-after (λ s held calls engine past waiting. Stays offers s held calls engine past waiting) c serves s held calls past waiting waiting [] e note engine on so (λ n. refl) tt
      (subst (λ (l : List Call). Stays offers s held l engine (after s.limits past e note) (still s.limits (after s.limits past e note) waiting)) (sym (append-nil calls)) x)

  -- .. or one was taken up to a repeat of a request that is parked
  pub repeat-late : (moment : ℕ) (piece : List ℕ) (taken : ℕ) (engine : Engine C) (before out : List ℕ) → RepeatsLate offers s held calls past waiting c moment piece taken engine before out → serves s.limits past (Piece c moment (take taken piece) ∷ []) → Served [] engine
  repeat-late moment piece taken engine before out x whole =
      attended-after (λ s held calls engine past waiting. Stays offers s held calls engine past waiting) c serves s held calls past waiting those [] (Piece c moment (take taken piece)) Done engine refl
      whole same tt
      (subst (λ (l : List Call). Stays offers s held l engine (Piece c moment (take taken piece) ∷ past) (still s.limits (Piece c moment (take taken piece) ∷ past) those)) (sym (append-nil calls)) x.stays)
    where
      joined : List Waiter
      joined = if is_wished x.question.wish && x.placed then waiter_of c x.question ∷ [] else []

      those : ℕ → List Waiter
      those = put_at x.number (waiting x.number ++ joined) waiting

      none : (b : Bool) → elsewhere c (on_going (goes_on s.limits past) (if b then waiter_of c x.question ∷ [] else [])) ≡ []
      none true = here-not c (goes_on s.limits past c) (waiter_of c x.question) [] (eq-eqb c c refl)
      none false = refl

      here : elsewhere c (on_going (goes_on s.limits past) (waiting x.number ++ joined)) ≡ elsewhere c (on_going (goes_on s.limits past) (waiting x.number))
      here =
          let goes = goes_on s.limits past in
          ap (elsewhere c) (going-append goes (waiting x.number) joined)
          ∙ elsewhere-append c (on_going goes (waiting x.number)) (on_going goes joined)
          ∙ ap (λ (l : List Waiter). elsewhere c (on_going goes (waiting x.number)) ++ l) (none (is_wished x.question.wish && x.placed))
          ∙ append-nil (elsewhere c (on_going goes (waiting x.number)))

      by : (n : ℕ) (b : Bool) → (n == x.number) ≡ b → elsewhere c (on_going (goes_on s.limits past) (cond b (waiting x.number ++ joined) (waiting n))) ≡ elsewhere c (on_going (goes_on s.limits past) (waiting n))
      by n true is = here ∙ ap (λ (m : ℕ). elsewhere c (on_going (goes_on s.limits past) (waiting m))) (sym (eqb-true n x.number is))
      by n false is = refl

      same : (n : ℕ) → elsewhere c (still s.limits past those n) ≡ elsewhere c (still s.limits past waiting n)
      same n = by n (n == x.number) refl

-- What waited was performed.
pub performed-late : {C : Type 0} (offers : C → Offer) (s : Settings) (held : ℕ → Holding) (calls : List Call) (past : List Event) (waiting : ℕ → List Waiter) (old : Engine C) (x : Awaited) (gave handed : Performed) → Some x ≡ waits_in old
    → HandsIn (offers old.offering.catalogue) (waits_in old) gave handed
    → (moment : ℕ) (octets written : List ℕ) (w : Awaited) → AsksLate offers s held calls old past waiting moment octets written w → (note : Note) (new : Engine C) (before out : List ℕ)
    → ResumesLate offers s (put_at (length calls) (known handed) held) (calls ++ w.call ∷ []) past waiting w.connection moment octets written note new before out
    → (serves : Limits → (past events : List Event) → Type 0) → serves s.limits past (left s.limits past (Piece w.connection moment octets) note)
    → IsAttended (λ s held calls engine past waiting. Stays offers s held calls engine past waiting) w.connection serves s held calls past waiting (record { call = x.call; gave = gave; handed = handed } ∷ []) new
performed-late {C} offers s held calls past waiting old x gave handed waits hands moment octets written w a note new before out r serves so =
    let same = asked-same x w (waits_in old) waits a.asks.waits in
    let here : HandsIn (offer_in (s.terms (changes past))) (Some x) gave handed =
    subst (λ (o : Option Awaited). HandsIn (offer_in (s.terms (changes past))) o gave handed) (sym waits) (subst (λ (t : Terms). HandsIn (offer_in t) (waits_in old) gave handed) a.asks.keeps.offer_is hands) in
    let since = after s.limits past (Piece w.connection moment octets) note in
    attended-after (λ s held calls (engine : Engine C) past waiting. Stays offers s held calls engine past waiting) w.connection serves s held calls past waiting waiting (record { call = x.call; gave = gave; handed = handed } ∷ []) (Piece w.connection moment octets) note new refl so (λ n. refl) (here, tt)
    (subst (λ (v : Awaited). Stays offers s (put_at (length calls) (known handed) held) (calls ++ v.call ∷ []) new since (still s.limits since waiting)) (sym same) r.stays)

-- .. on its connection, in a part of a piece
pub asked-late : {C : Type 0} (offers : C → Offer) (s : Settings) (held : ℕ → Holding) (calls : List Call) (past : List Event) (waiting : ℕ → List Waiter) (c : ℕ) (w : Awaited) → w.connection ≡ c → (log : List Handover) (engine : Engine C)
    → (one : ℕ → Limits → (past events : List Event) → Type 0) (all : Limits → (past events : List Event) → Type 0) → ((events : List Event) → one c s.limits past events → all s.limits past events)
    → IsAttended (λ s held calls engine past waiting. Stays offers s held calls engine past waiting) w.connection (one w.connection) s held calls past waiting log engine → IsAttended (λ s held calls engine past waiting. Stays offers s held calls engine past waiting) c all s held calls past waiting log engine
asked-late {C} offers s held calls past waiting c w is log engine one all so x =
    let y = subst (λ (d : ℕ). IsAttended (λ s held calls (engine : Engine C) past waiting. Stays offers s held calls engine past waiting) d (one d) s held calls past waiting log engine) is x in
    record { handed = y.handed; events = y.events; on = y.on; served = so y.events y.served; those = y.those; others = y.others; stay = y.stay }
