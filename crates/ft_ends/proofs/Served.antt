-- The server's side of a connection: what arrives on it was said on it, and each reply answers an arrival of the request of its id.
use Rattle.std.proofs.Common.{◌≡◌, ℕ, ◌+◌, ◌≤◌, ◌==◌, true, false, cond, List, [], ◌∷◌, ◌++◌, drop, length, map, take, Option, Some, None, Result, Ok, Err, refl, sym, ap, ◌∙◌, subst, append_assoc, arith, length-append, option_to_list}
use Rattle.std.specs.List.{AllByRecursion, cons_option, filter_map}
use Rattle.std.proofs.lemmas.Bool.{eq-eqb}
use Rattle.std.proofs.lemmas.List.{drop_at, take-append-drop}
use Rattle.std.proofs.lemmas.List.Elements.{filter_map-append}
use Rattle.cdr_core.specs.Numbers.{AreOctets, padding}
use Rattle.cdr_core.specs.Value.{values}
use Rattle.cdr_core.specs.Writing.{octets_of_all}
use Rattle.cdr_core.specs.declared.order.Order.TheVariants.{Big}
use Rattle.giop_core.specs.Laws.{written_rest}
use Rattle.giop_core.specs.declared.header.MessageKind.TheVariants.{Request}
use Rattle.giop_core.specs.declared.header.Version.{Version}
use Rattle.giop_core.specs.declared.header.Version.TheVariants.{V10, V11, V12}
use Rattle.giop_frames.specs.declared.limits.Limits.{Limits}
use Rattle.giop_link.specs.Hearing.{Ending, Hearing, Incoming, asks, cancels, ending, faulty, heard, locates, meaning_in, peer_closed, peer_error, wrong_direction}
use Rattle.giop_link.specs.Laws.{HearingGrows}
use Rattle.ft_log.specs.Keys.{RequestKey}
use Rattle.ft_log.specs.Performed.{Performed, raised, raw, returned, system}
use Rattle.ft_log.specs.declared.outcome.RawStatus.TheVariants as raw_status
use Rattle.ft_log.specs.declared.system_exception.SystemName.{SystemName}
use Rattle.ft_client.specs.Clients.{Ended, ended_by}
use Rattle.ft_client.specs.Directions.{stream}
use Rattle.ft_client.specs.Messages.{Answer, Asked, Call, Said, fields_of, Transmission, Withdrawn, incoming_of, located, octets_said, order_of as order_in, question_of, replied, typed}
use Rattle.ft_orb.specs.ExactlyOnce.{Arrival, Present, answer_of, answers_after}
use Rattle.ft_orb.specs.History.{Changed, Close, Event, Gone, Line, Lost, Opened, Piece, Shut, Up, Withdrew, arrivals, arrivals_in, arrivals_on, completed, connection_of, does_count, heard_after, line, longer, shut}
use Rattle.ft_orb.specs.Outputs.{Made, close_told, close_told_on, error_told, error_told_on, farewell_told}
use Rattle.ft_objects.specs.Replies.{answered_as, body_of, order_of, status_of}
use Rattle.ft_orb.specs.Requests.{Origin, Wanted, arrival_of, asking, field_of, rules_of}
use Rattle.ft_objects.specs.Servants.{Meaning}
use Rattle.ft_ends.specs.Both.{Answers, Explains, ended_of, key_of}
use Rattle.ft_ends.specs.Fine.{AreFaithful, IsFine, IsFineCall, IsFineSaid, IsFineTelling, IsFront}
use Rattle.ft_ends.specs.Laws.{ArePlain, AreShort, IsPlain}
use Rattle.ft_orb.specs.Tellings.{Closing, Failed, Telling, answer_told, answers_told, octets_told}
use Rattle.ft_ends.specs.Tellings.{answer_in, law_told, shown_as, tellings}
use Rattle.ft_ends.proofs.Firm.{IsFirm, answer-firm}
use Rattle.ft_ends.proofs.Lists.{IfGiven, each-append, each-both, each-drop, each-front, each-map, each-some, each-weaker, front-trans}
use Rattle.ft_ends.proofs.Spoken.{IsListed, asked_as, asked_as-append}
use Rattle.ft_ends.proofs.Written.{stream-append}

-- Octets that are on their way.

-- the octets that came on a line are a front of those that were written on it, and so many
abbrev pub IsLine : Line → List ℕ → ℕ → Type 0
IsLine Gone octets went = ⊥
IsLine Shut octets went = Unit {0}
IsLine (Up s) octets went = (rest : List ℕ) × (octets ≡ s ++ rest) × (went ≡ length s)

pub front-more : (all s rest : List ℕ) (went n : ℕ) → all ≡ s ++ rest → went ≡ length s → all ≡ (s ++ take n (drop went all)) ++ drop n (drop went all)
front-more all s rest went n is long =
    let left : drop went all ≡ rest = ap (drop went) is ∙ ap (λ (k : ℕ). drop k (s ++ rest)) long ∙ drop_at s rest (length s) refl in
    is ∙ ap (λ (o : List ℕ). s ++ o) (sym left ∙ sym (take-append-drop n (drop went all))) ∙ sym (append_assoc s (take n (drop went all)) (drop n (drop went all)))

-- after the next n octets
pub line-more : (l : Line) (all : List ℕ) (went n : ℕ) → IsLine l all went → IsLine (longer (take n (drop went all)) l) all (went + length (take n (drop went all)))
line-more Gone all went n h = absurd h
line-more Shut all went n h = tt
line-more (Up s) all went n h =
    let long = h.2 in
    let both = length-append s (take n (drop went all)) in
    (drop n (drop went all), front-more all s h.0 went n h.1 h.2, omega (arith, long, both))

pub line-shut : (l : Line) (all : List ℕ) (went : ℕ) → IsLine l all went → IsLine (shut l) all went
line-shut Gone all went h = absurd h
line-shut Shut all went h = tt
line-shut (Up s) all went h = tt

pub line-longer : (l : Line) (all more : List ℕ) (went : ℕ) → IsLine l all went → IsLine l (all ++ more) went
line-longer Gone all more went h = absurd h
line-longer Shut all more went h = tt
line-longer (Up s) all more went h = (h.0 ++ more, ap (λ (o : List ℕ). o ++ more) h.1 ∙ append_assoc s h.0 more, h.2)

-- One event more.

pub line-other : (e : Event) (past : List Event) (c : ℕ) → (connection_of e == c) ≡ false → line (e ∷ past) c ≡ line past c
line-other (Opened d) past c h = ap (λ b. cond b (cond (does_count past d) (Up []) (line past c)) (line past c)) h
line-other (Piece d moment octets) past c h = ap (λ b. cond b (longer octets (line past c)) (line past c)) h
line-other (Close d) past c h = ap (λ b. cond b (shut (line past c)) (line past c)) h
line-other (Lost d) past c h = ap (λ b. cond b Gone (line past c)) h
line-other (Withdrew i) past c h = refl
line-other Changed past c h = refl

pub line-piece : (past : List Event) (c moment : ℕ) (octets : List ℕ) → line (Piece c moment octets ∷ past) c ≡ longer octets (line past c)
line-piece past c moment octets = ap (λ b. cond b (longer octets (line past c)) (line past c)) (eq-eqb c c refl)

pub line-close : (past : List Event) (c : ℕ) → line (Close c ∷ past) c ≡ shut (line past c)
line-close past c = ap (λ b. cond b (shut (line past c)) (line past c)) (eq-eqb c c refl)

pub line-opened : (past : List Event) (c : ℕ) → does_count past c ≡ true → line (Opened c ∷ past) c ≡ Up []
line-opened past c counts =
    ap (λ b. cond b (cond (does_count past c) (Up []) (line past c)) (line past c)) (eq-eqb c c refl) ∙ ap (λ b. cond b (Up []) (line past c)) counts

module _ (says : List Event → Event → List Telling) where
  pub tellings-other : (e : Event) (past : List Event) (c : ℕ) → (connection_of e == c) ≡ false → tellings says (e ∷ past) c ≡ tellings says past c
  tellings-other e past c h = ap (λ b. cond b (tellings says past c ++ says past e) (tellings says past c)) h

  pub tellings-here : (e : Event) (past : List Event) (c : ℕ) → (connection_of e == c) ≡ true → tellings says (e ∷ past) c ≡ tellings says past c ++ says past e
  tellings-here e past c h = ap (λ b. cond b (tellings says past c ++ says past e) (tellings says past c)) h

-- What is heard of what was said.

-- an arrival is that of the request of an id
pub record IsFrom (said : List Said) (a : Arrival Wanted) : Type 0 where
  pub transmission : Transmission
  pub origin : Origin
  pub asked : asked_as said transmission.request_id ≡ Some transmission
  pub content : a.content ≡ asking origin (question_of transmission)
  pub field : a.field ≡ Present (key_of transmission) transmission.call.expiration
  pub fine : IsFine transmission

-- its call is typed
abbrev as_typed : Transmission → Transmission
as_typed t = record t { call = record t.call { form = typed } }

typed-content : (said : List Said) (a : Arrival Wanted) (from : IsFrom said a) → a.content ≡ asking from.origin (question_of (as_typed from.transmission))
typed-content said a from = from.content ∙ ap (λ f. asking from.origin (question_of (record from.transmission { call = record from.transmission.call { form = f } }))) from.fine.call.values

abbrev IsHeardOf : List Said → Incoming → Type 0
IsHeardOf said (asks q) = (t : Transmission) × (asked_as said t.request_id ≡ Some t) × (q ≡ question_of t) × IsFine t
IsHeardOf said (locates version id to) = ⊥
IsHeardOf said (cancels id) = Unit {0}

said-heard : (said : List Said) (s : Said) → IsListed said s × IsFineSaid s → IsHeardOf said (incoming_of s)
said-heard said (Asked t) h = (t, h.0, refl, h.1)
said-heard said (Withdrawn version i) h = tt

module _ (limits : Limits) (hears : Limits → Hearing Answer) (faithful : AreFaithful limits hears) (grow : HearingGrows meaning_in) where
  -- in a front of what was said is heard what was said
  heard-all : (said : List Said) (s rest : List ℕ) → stream octets_said said ≡ s ++ rest → AllByRecursion (λ m. IsListed said m) said → AllByRecursion IsFineSaid said → AllByRecursion (λ x. IsHeardOf said x) (heard limits s)
  heard-all said s rest is listed fine =
      let all = each-map incoming_of (λ m. IsListed said m × IsFineSaid m) (λ x. IsHeardOf said x) (said-heard said) said (each-both (λ m. IsListed said m) IsFineSaid said listed fine) in
      let near : IsFront (heard limits s) (heard limits (stream octets_said said)) = subst (λ (o : List ℕ). IsFront (heard limits s) (heard limits o)) (sym is) (grow limits s rest) in
      each-front (λ x. IsHeardOf said x) (heard limits s) (map incoming_of said) (front-trans (heard limits s) (heard limits (stream octets_said said)) (map incoming_of said) near (faithful.asked said fine)) all

  from-heard : (said : List Said) (c : Origin) (now : ℕ) (m : Incoming) → IsHeardOf said m → IfGiven (λ a. IsFrom said a) (arrival_of c now m)
  from-heard said c now (asks q) h = record {
    transmission = h.0;
    origin = c;
    asked = h.1;
    content = ap (asking c) h.2;
    field = ap field_of (λ i. (h.2 i).contexts) ∙ faithful.carried h.0 h.3;
    fine = h.3;
  }
  from-heard said c now (locates version id to) h = absurd h
  from-heard said c now (cancels id) h = tt

  arrivals-from : (said : List Said) (c : Origin) (now : ℕ) (s octets rest : List ℕ) → stream octets_said said ≡ (s ++ octets) ++ rest → AllByRecursion (λ m. IsListed said m) said → AllByRecursion IsFineSaid said
      → AllByRecursion (λ a. IsFrom said a) (arrivals_in limits c now s octets)
  unfolding arrivals_in
  arrivals-from said c now s octets rest is listed fine =
      each-some (λ m. arrival_of c now m) (λ x. IsHeardOf said x) (λ a. IsFrom said a) (λ m h. from-heard said c now m h) (heard_after limits s octets)
      (each-drop (λ x. IsHeardOf said x) (length (heard limits s)) (heard limits (s ++ octets)) (heard-all said (s ++ octets) rest is listed fine))

  -- what arrives with the next octets is what was said
  pub piece-from : (said : List Said) (c : Origin) (now went n : ℕ) (l : Line) → IsLine l (stream octets_said said) went → AllByRecursion (λ m. IsListed said m) said → AllByRecursion IsFineSaid said
      → AllByRecursion (λ a. IsFrom said a) (arrivals_on limits c now l (take n (drop went (stream octets_said said))))
  piece-from said c now went n Gone h listed fine = absurd h
  piece-from said c now went n Shut h listed fine = tt
  piece-from said c now went n (Up s) h listed fine =
      let all = stream octets_said said in
      arrivals-from said c now s (take n (drop went all)) (drop n (drop went all)) (front-more all s h.0 went n h.1 h.2) listed fine

-- its body is octets
big-plain : (version : Version) (call : Call) (place : ℕ) → IsFineCall call → AreOctets (written_rest version Request Big call.arguments place).octets
big-plain V10 call place fine = fine.arguments place
big-plain V11 call place fine = fine.arguments place
big-plain V12 call place fine = fine.arguments (place + padding place 8)

rest-plain : (version : Version) (call : Call) (place : ℕ) → IsFineCall call → AreOctets (written_rest version Request (order_in call.form) call.arguments place).octets
rest-plain version call place fine = subst (λ f. AreOctets (written_rest version Request (order_in f) call.arguments place).octets) (sym fine.values) (big-plain version call place fine)

pub plain-from : (said : List Said) (a : Arrival Wanted) → IsFrom said a → IsPlain a.content
plain-from said a from =
    let t = from.transmission in
    subst IsPlain (sym from.content) (rest-plain t.version t.call (12 + length (octets_of_all (order_in t.call.form) (values (fields_of t)) 12)) from.fine.call)

-- What is reported of what arrived.

ended-by : (p : Performed) → ended_by (shown_as (order_of p) (status_of p) (body_of p)) ≡ ended_of p
ended-by (returned results) = refl
ended-by (raised id members) = refl
ended-by (system name minor completion) = refl
ended-by (raw raw_status.NoException order body) = refl
ended-by (raw raw_status.UserException order body) = refl
ended-by (raw raw_status.SystemException order body) = refl
ended-by (raw raw_status.LocationForward order body) = refl

status-low : (p : Performed) → status_of p ≤ 3
status-low (returned results) = omega arith
status-low (raised id members) = omega arith
status-low (system name minor completion) = omega arith
status-low (raw raw_status.NoException order body) = omega arith
status-low (raw raw_status.UserException order body) = omega arith
status-low (raw raw_status.SystemException order body) = omega arith
status-low (raw raw_status.LocationForward order body) = omega arith

-- what holds of nothing, of MessageError and of CloseConnection holds of what is said after the answers
module _ (P : List Telling → Type 0) (none : P []) (failed : P (Failed ∷ [])) (closing : P (Closing ∷ [])) where
  error-is : (e now : Option Ending) → P (option_to_list (error_told e now))
  error-is None (Some (faulty e)) = failed
  error-is None (Some wrong_direction) = failed
  error-is None (Some peer_closed) = none
  error-is None (Some peer_error) = none
  error-is None None = none
  error-is (Some e) now = none

  error_on-is : (limits : Limits) (l : Line) (octets : List ℕ) → P (option_to_list (error_told_on limits l octets))
  error_on-is limits Gone octets = none
  error_on-is limits Shut octets = none
  error_on-is limits (Up s) octets = error-is (ending limits s) (ending limits (s ++ octets))

  close-is : (e : Option Ending) → P (option_to_list (close_told e))
  close-is None = closing
  close-is (Some e) = none

  close_on-is : (limits : Limits) (l : Line) → P (option_to_list (close_told_on limits l))
  close_on-is limits Gone = none
  close_on-is limits Shut = none
  close_on-is limits (Up s) = close-is (ending limits s)

  farewell-is : (limits : Limits) (past : List Event) (e : Event) → P (option_to_list (farewell_told limits past e))
  farewell-is limits past (Opened c) = none
  farewell-is limits past (Piece c moment octets) = error_on-is limits (line past c) octets
  farewell-is limits past (Close c) = close_on-is limits (line past c)
  farewell-is limits past (Lost c) = none
  farewell-is limits past (Withdrew i) = none
  farewell-is limits past Changed = none

module _ {State : Type 0} (meaning : Meaning State) (made : Made State) where
  -- there is an arrival of the key whose answer this is
  pub record Traced (all : List (Arrival Wanted)) (key : RequestKey) (ended : Ended) : Type 0 where
    pub before : List (Arrival Wanted)
    pub arrival : Arrival Wanted
    pub later : List (Arrival Wanted)
    pub expiration : ℕ
    pub split : all ≡ before ++ arrival ∷ later
    pub field : arrival.field ≡ Present key expiration
    pub is : ended ≡ ended_of (answered_as (answer_of (rules_of meaning made.capacity made.share) made.opening before arrival))

  pub traced-later : (all more : List (Arrival Wanted)) (key : RequestKey) (ended : Ended) → Traced all key ended → Traced (all ++ more) key ended
  traced-later all more key ended h = record {
    before = h.before;
    arrival = h.arrival;
    later = h.later ++ more;
    expiration = h.expiration;
    split = ap (λ (xs : List (Arrival Wanted)). xs ++ more) h.split ∙ append_assoc h.before (h.arrival ∷ h.later) more;
    field = h.field;
    is = h.is;
  }

  firm-answers : (past : List Event) (before : List (Arrival Wanted)) (a : Arrival Wanted) (key : RequestKey) (x : Result Performed SystemName)
      → IsFirm (rules_of meaning made.capacity made.share) made.opening (arrivals made.limits past) before a key x → Answers meaning made past before a key x
  firm-answers past before a key (Ok outcome) h = h
  firm-answers past before a key (Err refusal) h = h

  -- a trace is an explanation
  pub traced-explains : (past : List Event) (key : RequestKey) (ended : Ended) → Traced (arrivals made.limits past) key ended → Explains meaning made past key ended
  traced-explains past key ended h =
      let rules = rules_of meaning made.capacity made.share in
      let answer = answer_of rules made.opening h.before h.arrival in
      record {
        before = h.before;
        arrival = h.arrival;
        later = h.later;
        expiration = h.expiration;
        split = h.split;
        field = h.field;
        is = h.is;
        answers =
            firm-answers past h.before h.arrival key answer
            (subst (λ (all : List (Arrival Wanted)). IsFirm rules made.opening all h.before h.arrival key answer) (sym h.split)
            (answer-firm rules made.opening h.before h.later h.arrival key h.expiration h.field));
      }

  -- a reply answers an arrival of the request of its id
  abbrev pub IsReply : List (Arrival Wanted) → List Said → Answer → Type 0
  IsReply all said (replied i shown) = (t : Transmission) × (asked_as said i ≡ Some t) × Traced all (key_of t) (ended_by shown)
  IsReply all said (located i shown) = Unit {0}

  reply-later : (all more : List (Arrival Wanted)) (said : List Said) (x : Answer) → IsReply all said x → IsReply (all ++ more) said x
  reply-later all more said (replied i shown) h = (h.0, h.1, traced-later all more (key_of h.0) (ended_by shown) h.2)
  reply-later all more said (located i shown) h = tt

  reply-more : (all : List (Arrival Wanted)) (said more : List Said) (x : Answer) → IsReply all said x → IsReply all (said ++ more) x
  reply-more all said more (replied i shown) h = (h.0, asked_as-append said more i h.0 h.1, h.2)
  reply-more all said more (located i shown) h = tt

  module _ (all : List (Arrival Wanted)) (said : List Said) where
    told-replies : (before xs : List (Arrival Wanted)) → all ≡ before ++ xs → AllByRecursion (λ a. IsFrom said a) xs
        → AllByRecursion (λ x. IsReply all said x) (filter_map answer_in (answers_told (answer_told meaning.knows) xs (answers_after (rules_of meaning made.capacity made.share) made.opening before xs)))
    told-replies before [] split h = tt
    told-replies before (a ∷ later) split h =
        let rules = rules_of meaning made.capacity made.share in
        let from = h.0 in
        let answer = answer_of rules made.opening before a in
        let rest = answers_told (answer_told meaning.knows) later (answers_after rules made.opening (before ++ a ∷ []) later) in
        subst (λ (w : Wanted). AllByRecursion (λ x. IsReply all said x) (filter_map answer_in (cons_option (answer_told meaning.knows w answer) rest))) (sym (typed-content said a from)) (
          (
            from.transmission,
            from.asked,
            record { before = before; arrival = a; later = later; expiration = from.transmission.call.expiration; split = split; field = from.field; is = ended-by (answered_as answer) },
          ),
          told-replies (before ++ a ∷ []) later (split ∙ sym (append_assoc before (a ∷ []) later)) h.1,
        )

  module _ (sends : AreShort meaning made) (said : List Said) where
    told-fine : (before xs : List (Arrival Wanted)) → ArePlain before → AllByRecursion (λ a. IsFrom said a) xs → AllByRecursion IsFineTelling (answers_told (answer_told meaning.knows) xs (answers_after (rules_of meaning made.capacity made.share) made.opening before xs))
    told-fine before [] plain h = tt
    told-fine before (a ∷ later) plain h =
        let rules = rules_of meaning made.capacity made.share in
        let from = h.0 in
        let own = plain-from said a from in
        let answer = answer_of rules made.opening before a in
        let rest = answers_told (answer_told meaning.knows) later (answers_after rules made.opening (before ++ a ∷ []) later) in
        subst (λ (w : Wanted). AllByRecursion IsFineTelling (cons_option (answer_told meaning.knows w answer) rest)) (sym (typed-content said a from)) (
          (from.fine.id, status-low (answered_as answer), sends before a plain own),
          told-fine (before ++ a ∷ []) later (each-append (λ b. IsPlain b.content) before (a ∷ []) plain (own, tt)) h.1,
        )

  -- The server's side of a connection, of which the client has received so much.
  pub record IsServed (past : List Event) (said : List Said) (number went came : ℕ) (received : List ℕ) : Type 0 where
    pub up : IsLine (line past number) (stream octets_said said) went
    pub rest : List ℕ
    pub down : stream octets_told (tellings (law_told meaning made) past number) ≡ received ++ rest
    pub taken : came ≡ length received
    pub fine : AllByRecursion IsFineTelling (tellings (law_told meaning made) past number)
    pub replies : AllByRecursion (λ x. IsReply (arrivals made.limits past) said x) (filter_map answer_in (tellings (law_told meaning made) past number))

  -- an event on it
  pub served-here : AreShort meaning made → (past : List Event) → ArePlain (arrivals made.limits past) → (e : Event) (said : List Said) (c went went' came : ℕ) (received : List ℕ) → (connection_of e == c) ≡ true → IsLine (line (e ∷ past) c) (stream octets_said said) went'
      → AllByRecursion (λ a. IsFrom said a) (completed made.limits past e) → IsServed past said c went came received → IsServed (e ∷ past) said c went' came received
  served-here sends past plain e said c went went' came received on up from h =
      let says = law_told meaning made in
      let all = arrivals made.limits (e ∷ past) in
      let here = tellings-here says e past c on in
      let answers = answers_told (answer_told meaning.knows) (completed made.limits past e) (answers_after (rules_of meaning made.capacity made.share) made.opening (arrivals made.limits past) (completed made.limits past e)) in
      let bye = option_to_list (farewell_told made.limits past e) in
      let P : Answer → Type 0 = λ x. IsReply all said x in
      let now : AllByRecursion P (filter_map answer_in (says past e)) =
      subst (λ (xs : List Answer). AllByRecursion P xs) (sym (filter_map-append answer_in answers bye))
      (each-append P (filter_map answer_in answers) (filter_map answer_in bye) (told-replies all said (arrivals made.limits past) (completed made.limits past e) refl from) (farewell-is (λ ts. AllByRecursion P (filter_map answer_in ts)) tt tt tt made.limits past e)) in
      let earlier = each-weaker (λ x. IsReply (arrivals made.limits past) said x) P (λ x is. reply-later (arrivals made.limits past) (completed made.limits past e) said x is) (filter_map answer_in (tellings says past c)) h.replies in
      record {
        up = up;
        rest = h.rest ++ stream octets_told (says past e);
        down =
            ap (stream octets_told) here ∙ stream-append octets_told (tellings says past c) (says past e) ∙ ap (λ (o : List ℕ). o ++ stream octets_told (says past e)) h.down
            ∙ append_assoc received h.rest (stream octets_told (says past e));
        taken = h.taken;
        fine =
            subst (λ (ts : List Telling). AllByRecursion IsFineTelling ts) (sym here)
            (each-append IsFineTelling (tellings says past c) (says past e) h.fine (each-append IsFineTelling answers bye (told-fine sends said (arrivals made.limits past) (completed made.limits past e) plain from) (farewell-is (λ ts. AllByRecursion IsFineTelling ts) tt (tt, tt) (tt, tt) made.limits past e)));
        replies =
            subst (λ (ts : List Telling). AllByRecursion P (filter_map answer_in ts)) (sym here)
            (subst (λ (xs : List Answer). AllByRecursion P xs) (sym (filter_map-append answer_in (tellings says past c) (says past e)))
            (each-append P (filter_map answer_in (tellings says past c)) (filter_map answer_in (says past e)) earlier now));
      }

  -- an event elsewhere, which leaves this line and what was told on it
  pub served-other : (past later : List Event) (more : List (Arrival Wanted)) (said : List Said) (c went came : ℕ) (received : List ℕ) → line later c ≡ line past c → tellings (law_told meaning made) later c ≡ tellings (law_told meaning made) past c
      → arrivals made.limits later ≡ arrivals made.limits past ++ more → IsServed past said c went came received → IsServed later said c went came received
  served-other past later more said c went came received same_line same grown h =
      let P : List (Arrival Wanted) → List Telling → Type 0 = λ all ts. AllByRecursion (λ x. IsReply all said x) (filter_map answer_in ts) in
      let says = law_told meaning made in
      record {
        up = subst (λ (l : Line). IsLine l (stream octets_said said) went) (sym same_line) h.up;
        rest = h.rest;
        down = ap (stream octets_told) same ∙ h.down;
        taken = h.taken;
        fine = subst (λ (ts : List Telling). AllByRecursion IsFineTelling ts) (sym same) h.fine;
        replies =
            subst (λ (ts : List Telling). P (arrivals made.limits later) ts) (sym same)
            (subst (λ (all : List (Arrival Wanted)). P all (tellings says past c)) (sym grown)
            (each-weaker (λ x. IsReply (arrivals made.limits past) said x) (λ x. IsReply (arrivals made.limits past ++ more) said x) (λ x is. reply-later (arrivals made.limits past) more said x is) (filter_map answer_in (tellings says past c)) h.replies));
      }

  -- more is said on it
  pub served-said : (past : List Event) (said more : List Said) (c went came : ℕ) (received : List ℕ) → IsServed past said c went came received → IsServed past (said ++ more) c went came received
  served-said past said more c went came received h = record {
    up = subst (λ (o : List ℕ). IsLine (line past c) o went) (sym (stream-append octets_said said more)) (line-longer (line past c) (stream octets_said said) (stream octets_said more) went h.up);
    rest = h.rest;
    down = h.down;
    taken = h.taken;
    fine = h.fine;
    replies = each-weaker (λ x. IsReply (arrivals made.limits past) said x) (λ x. IsReply (arrivals made.limits past) (said ++ more) x) (λ x is. reply-more (arrivals made.limits past) said more x is) (filter_map answer_in (tellings (law_told meaning made) past c)) h.replies;
  }
