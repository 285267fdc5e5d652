-- The counts after the octets of a piece that were served so far, and one message more.
use Rattle.std.proofs.Common.{◌≡◌, ℕ, ◌+◌, ◌≤◌, ◌<◌, max, true, false, List, [], ◌∷◌, ◌++◌, length, take, drop, Option, Some, None, Result, Ok, Err, inl, inr, is_some, ◌⊎◌, refl, sym, ap, subst, ◌∙◌, arith, length-append}
use Rattle.std.proofs.lemmas.List.{append-nil, take_all, take-append-drop}
use Rattle.giop_frames.specs.declared.limits.Limits.{Limits}
use Rattle.giop_link.specs.declared.inbound.Inbound.{Inbound}
use Rattle.giop_link.specs.Hearing.{Ending, Incoming, asks, cancels, ending, heard, locates, meaning_in}
use Rattle.giop_link.specs.Laws.{EndsAreSilent, HearingGrows}
use Rattle.giop_link.specs.Linking.{LinkStands, Linked, meaning_at}
use Rattle.giop_link.specs.Listening.{heard_in}
use Rattle.ft_log.specs.Holding.{Holding}
use Rattle.ft_log.specs.Kept.{KeptOutcome, unexpired}
use Rattle.ft_objects.specs.declared.decided.Decision.{Decision}
use Rattle.ft_objects.specs.declared.decided.Decision.TheVariants.{Dropped}
use Rattle.ft_orb.specs.Begun.{Begun}
use Rattle.ft_orb.specs.Begun as begun
use Rattle.ft_orb.specs.Decided.{AreCountsOf, AreCountsTo, AreTallied, decided_by}
use Rattle.ft_orb.specs.Decisions.{counted_all, counted_with, decision_by, decision_for, decision_on}
use Rattle.ft_orb.specs.Engines.{StandsOf}
use Rattle.ft_orb.specs.ExactlyOnce.{Arrival, Rules}
use Rattle.ft_orb.specs.History.{Event, Gone, Line, Piece, Shut, Up, arrivals_in, arrivals_on, clock, front_in, front_on, line, origin}
use Rattle.ft_orb.specs.Owners.{Voice, kept_of, owned_table, owner_rules}
use Rattle.ft_orb.specs.Parking.{Settings, by_number}
use Rattle.ft_orb.specs.Private.{IsEnd, IsPut, Steps, all_answered, arrivals_at, counted_by, heard_by}
use Rattle.ft_orb.specs.Requests.{Call, Origin, Terms, Wanted, asked_at}
use Rattle.ft_orb.specs.Seen.{seen_table}
use Rattle.ft_orb.specs.Standing.{IsFor, Shown, capacity_of, held_in, share_of, table_of}
use Rattle.ft_orb.specs.Table.{AreAlike, Table, table_after, table_step}
use Rattle.ft_orb.specs.Tallies.{AreCountedTo, counts_after}
use Rattle.ft_orb.specs.Tellings.{Teller, told_at}
use Rattle.ft_orb.specs.declared.counts.Counts.{Counts}
use Rattle.ft_orb.specs.declared.desk.Step.{Step}
use Rattle.ft_orb.specs.declared.desk.Step.TheVariants.{Answered, Quiet, Unanswered, Unhandled}
use Rattle.ft_orb.specs.declared.serving.Cut.{Cut}
use Rattle.ft_orb.proofs.Terms.{tallied-served}
use Rattle.ft_orb.proofs.Books.{book_by}
use Rattle.ft_orb.proofs.Going.{Took, arriving-one, few-in, front-is, further, took-arrivals}
use Rattle.ft_orb.proofs.Hearing.{arriving, arrivals_in-ended, arrivals_in-message, arrivals_in-nothing}
use Rattle.ft_orb.proofs.Pieces.{alike-then}

module _ (terms : ℕ → Terms) (answers : List Call → Call → Holding) (capacity share : ℕ) where
  -- one more
  pub counted-push : (t : Table (List Call) Holding) (before : List (Arrival Wanted)) (a : Arrival Wanted) (n : Counts)
      → counted_all terms answers capacity share t (before ++ a ∷ []) n
      ≡ counted_with (counted_all terms answers capacity share t before n) (decision_on terms capacity share (table_after (owner_rules (asked_at terms) answers capacity share) t before).entries a)
  counted-push t [] a n = refl
  counted-push t (b ∷ bs) a n = counted-push (table_step (owner_rules (asked_at terms) answers capacity share) t b).0 bs a (counted_with n (decision_on terms capacity share t.entries b))

-- what is expired decides nothing
decision-alike : (terms : ℕ → Terms) (capacity share now : ℕ) (t u : Table (List Call) Holding) (a : Arrival Wanted) → a.clock ≡ now → AreAlike now t u
    → decision_on terms capacity share t.entries a ≡ decision_on terms capacity share u.entries a
decision-alike terms capacity share now t u a clock al =
    let live : unexpired a.clock t.entries ≡ unexpired a.clock u.entries = subst (λ (i : ℕ). unexpired i t.entries ≡ unexpired i u.entries) (sym clock) al.entries in
    ap (λ (l : List (KeptOutcome Holding)). decision_for a.content (decision_by capacity share l a.clock (asked_at terms a.content) a.field)) live

-- what was counted, where room, share and clock are as at the beginning
pub tallied-at : (terms : ℕ → Terms) (served : Terms) (capacity capacity0 share share0 now now0 : ℕ) (c : Origin) (entries : List (KeptOutcome Holding)) (o : Option Incoming) (b : Begun) (old new : Counts)
    → terms c.changes ≡ served → capacity ≡ capacity0 → share ≡ share0 → now ≡ now0 → AreTallied (λ n. served) capacity share entries (arrivals_at c now o) b old new
    → AreTallied terms capacity0 share0 entries (arrivals_at c now0 o) b old new
tallied-at terms served capacity capacity0 share share0 now now0 c entries o b old new is same_c same_s same_n h =
    subst (λ (n : ℕ). AreTallied terms capacity0 share0 entries (arrivals_at c n o) b old new) same_n
    (subst (λ (x : ℕ). AreTallied terms capacity0 x entries (arrivals_at c now o) b old new) same_s
    (subst (λ (x : ℕ). AreTallied terms x share entries (arrivals_at c now o) b old new) same_c (tallied-served terms served capacity share now c o entries b old new is h)))

-- what becomes of a request, where no allocation failed before that was known
pub decided-known : (b : Begun) (d : Decision) → (b ≡ begun.Done Unhandled → ⊥) → decided_by b d ≡ d
decided-known (begun.Done Answered) d done = refl
decided-known (begun.Done Unanswered) d done = refl
decided-known (begun.Done Quiet) d done = refl
decided-known (begun.Done Unhandled) d done = absurd (done refl)
decided-known (begun.Asks w) d done = refl
decided-known (begun.Repeats r) d done = refl

-- .. as where its answer was made
pub put-known : (octets : List ℕ) (step : Step) (before out : List ℕ) (d : Decision) → IsPut octets step before out → decided_by (begun.Done step) d ≡ d
put-known octets Answered before out d put = refl
put-known octets Unanswered before out d put = refl
put-known octets Quiet before out d put = absurd put
put-known octets Unhandled before out d put = absurd put

-- where the piece goes on, or stops at a request, no allocation failed before it was known what becomes of it
pub goes-handled : (n h : ℕ) (step : Step) (r : Result ℕ Cut) (b : Begun) → b ≡ begun.Done step → r ≡ counted_by n step → r ≡ Ok h → b ≡ begun.Done Unhandled → ⊥
goes-handled n h step r b is by ok un =
    let same : step ≡ Unhandled = let both : begun.Done step ≡ begun.Done Unhandled = sym is ∙ un in cc in
    let err : Err (all_answered n) ≡ Ok h = ap (counted_by n) (sym same) ∙ sym by ∙ ok in
    cc

-- One piece after the stream s of connection c, from a table t on.
module _ (terms : ℕ → Terms) (voice : Voice) (capacity share : ℕ) (limits : Limits) (c : Origin) (now : ℕ) (t : Table (List Call) Holding) (s : List ℕ) where
  abbrev Over : Rules (List Call) Wanted Call Holding
  Over = owner_rules (asked_at terms) voice.answers capacity share

  abbrev Tell : Teller Holding
  Tell = told_at voice.late terms

  abbrev Here : List ℕ → List (Arrival Wanted)
  Here p = arrivals_in limits c now s p

  abbrev summed : List (Arrival Wanted) → Counts → Counts
  summed xs n = counted_all terms voice.answers capacity share t xs n

  abbrev Sums : List ℕ → Counts → Counts → Type 0
  Sums p old new = AreCountsOf terms voice.answers capacity share limits c now t s p old new

  abbrev SumsTo : List ℕ → Cut → Counts → Counts → Type 0
  SumsTo piece at old new = AreCountsTo terms voice.answers capacity share limits c now t s piece at old new

  -- octets that bring the same arrivals
  sums-same : (p q : List ℕ) (old new : Counts) → Here p ≡ Here q → Sums p old new → Sums q old new
  sums-same p q old new same h = h ∙ ap (λ (l : List (Arrival Wanted)). summed l old) same

  -- none
  pub sums-nothing : (old : Counts) → Sums [] old old
  sums-nothing old = sym (ap (λ (l : List (Arrival Wanted)). summed l old) (arrivals_in-nothing limits c now s))

  -- one more
  sums-push : (p : List ℕ) (before : List (Arrival Wanted)) (a : Arrival Wanted) (held : Table (List Call) Holding) (old mid new : Counts) → Here p ≡ before ++ a ∷ [] → mid ≡ summed before old → a.clock ≡ now
      → AreAlike now held (table_after Over t before) → new ≡ counted_with mid (decision_on terms capacity share held.entries a) → Sums p old new
  sums-push p before a held old mid new last sum at al by =
      by ∙ ap (λ (n : Counts). counted_with n (decision_on terms capacity share held.entries a)) sum
      ∙ ap (λ (d : Decision). counted_with (summed before old) d) (decision-alike terms capacity share now held (table_after Over t before) a at al)
      ∙ sym (counted-push terms voice.answers capacity share t before a old) ∙ ap (λ (l : List (Arrival Wanted)). summed l old) (sym last)

  -- all octets were taken
  pub sums-whole : (piece : List ℕ) (i : ℕ) (old new : Counts) → length piece ≤ i → Sums (take i piece) old new → Sums piece old new
  sums-whole piece i old new all sum = subst (λ (l : List ℕ). Sums l old new) (take_all i piece all) sum

  -- the stream ends in what is left
  pub sums-end : HearingGrows meaning_in → (piece left : List ℕ) (i : ℕ) (old new : Counts) → left ≡ drop i piece → IsEnd limits (s ++ take i piece) left → Sums (take i piece) old new → Sums piece old new
  sums-end grow piece left i old new back e sum =
      let whole : take i piece ++ left ≡ piece = ap (λ (l : List ℕ). take i piece ++ l) back ∙ take-append-drop i piece in
      let same : Here (take i piece) ≡ Here (take i piece ++ left) =
      sym (arrivals_in-message limits c now grow s (take i piece) left [] (e.ends.same ∙ sym (append-nil (heard limits (s ++ take i piece)))) ∙ append-nil (Here (take i piece))) in
      sums-same (take i piece) piece old new (same ∙ ap (λ (l : List ℕ). Here l) whole) sum

  -- an allocation failed, and nothing more was counted
  pub sums-cut : HearingGrows meaning_in → (piece : List ℕ) (i n : ℕ) (at : Cut) (old new : Counts) → i ≤ length piece → n ≡ length (Here (take i piece)) → at ≡ all_answered n → Sums (take i piece) old new → SumsTo piece at old new
  sums-cut grow piece i n at old new within count is sum =
      subst (λ (x : Cut). SumsTo piece x old new) (sym is)
      (inl (sums-same (take i piece) (front_in limits c now s piece n) old new (sym (front-is Over Tell limits c now t s grow piece i n within count)) sum))

  -- all of a front was counted, of which the last was begun, or is handled
  sums-begun : HearingGrows meaning_in → (piece : List ℕ) (i n : ℕ) (before : List (Arrival Wanted)) (a : Arrival Wanted) (old new : Counts) → i ≤ length piece → Here (take i piece) ≡ before ++ a ∷ [] → n ≡ length before → Sums (take i piece) old new
      → (n + 1 ≤ length (Here piece)) × Sums (front_in limits c now s piece (n + 1)) old new
  sums-begun grow piece i n before a old new within last count sum =
      let size = length-append before (a ∷ []) in
      let all = ap (λ (l : List (Arrival Wanted)). length l) last in
      let many : n + 1 ≡ length (Here (take i piece)) = omega (arith, size, all, count) in (
        few-in Over Tell limits c now t s grow piece i (n + 1) many,
        sums-same (take i piece) (front_in limits c now s piece (n + 1)) old new (sym (front-is Over Tell limits c now t s grow piece i (n + 1) within many)) sum,
      )

  -- it stopped at an arrival, which was begun, and an allocation failed
  pub sums-left : HearingGrows meaning_in → (piece : List ℕ) (i n : ℕ) (before : List (Arrival Wanted)) (a : Arrival Wanted) (old new : Counts) → i ≤ length piece → Here (take i piece) ≡ before ++ a ∷ [] → n ≡ length before → Sums (take i piece) old new
      → SumsTo piece (all_answered n) old new
  sums-left grow piece i n before a old new within last count sum =
      let x = sums-begun grow piece i n before a old new within last count sum in
      let few = x.0 in
      inr (refl, omega (arith, few), inl x.1)

  -- .. or for its answer
  pub sums-off : HearingGrows meaning_in → (piece : List ℕ) (i n : ℕ) (at : Cut) (step : Step) (before : List (Arrival Wanted)) (a : Arrival Wanted) (old new : Counts) → i ≤ length piece → Here (take i piece) ≡ before ++ a ∷ [] → n ≡ length before
      → Sums (take i piece) old new → counted_by n step ≡ Err at → SumsTo piece at old new
  sums-off grow piece i n at Quiet before a old new within last count sum by = absurd cc
  sums-off grow piece i n at Answered before a old new within last count sum by = absurd cc
  sums-off grow piece i n at Unanswered before a old new within last count sum by =
      let cut : record { handled = n + 1; answered = n } ≡ at = let err : counted_by n Unanswered ≡ Err at = by in cc in
      subst (λ (x : Cut). SumsTo piece x old new) cut (inl (sums-begun grow piece i n before a old new within last count sum).1)
  sums-off grow piece i n at Unhandled before a old new within last count sum by =
      let cut : all_answered n ≡ at = let err : counted_by n Unhandled ≡ Err at = by in cc in
      subst (λ (x : Cut). SumsTo piece x old new) cut (sums-left grow piece i n before a old new within last count sum)

  -- One message more, which is an arrival or none.
  module _ (grow : HearingGrows meaning_in) (piece left : List ℕ) (i j : ℕ) (later : Linked) (m : Inbound) (held : Table (List Call) Holding) (b : Begun) (old mid new : Counts) (back : left ≡ drop i piece)
      (k : Took Over Tell limits c now t s (take i piece) (take j left) later (Some m)) (al : AreAlike now held (table_after Over t (Here (take i piece)))) (sum : Sums (take i piece) old mid) where
    abbrev Brings : List (Arrival Wanted) → Type 0
    Brings xs = arriving limits c now (heard_in (Some (meaning_at m))) ≡ xs

    abbrev Tallied : List (Arrival Wanted) → Type 0
    Tallied xs = AreTallied terms capacity share held.entries xs b mid new

    more-bring : (xs : List (Arrival Wanted)) → Brings xs → Here (take (i + j) piece) ≡ Here (take i piece) ++ xs
    more-bring xs one =
        ap (λ (l : List ℕ). Here l) (sym (further Over Tell limits c now t s piece left i j back)) ∙ took-arrivals Over Tell limits c now t s grow (take i piece) (take j left) later (Some m) k
        ∙ ap (λ (l : List (Arrival Wanted)). Here (take i piece) ++ l) one

    none-push : Brings [] → new ≡ mid → Sums (take (i + j) piece) old new
    none-push none same = same ∙ sum ∙ ap (λ (l : List (Arrival Wanted)). summed l old) (sym (more-bring [] none ∙ append-nil (Here (take i piece))))

    one-push : (a : Arrival Wanted) → a.clock ≡ now → Brings (a ∷ []) → new ≡ counted_with mid (decision_on terms capacity share held.entries a) → Sums (take (i + j) piece) old new
    one-push a at one by = sums-push (take (i + j) piece) (Here (take i piece)) a held old mid new (more-bring (a ∷ []) one) sum at al by

    one-known : (a : Arrival Wanted) → a.clock ≡ now → Brings (a ∷ []) → Tallied (a ∷ []) → (b ≡ begun.Done Unhandled → ⊥) → Sums (take (i + j) piece) old new
    one-known a at one d done = one-push a at one (d ∙ ap (λ (x : Decision). counted_with mid x) (decided-known b _ done))

    sums-by : (o : Option Incoming) → Brings (arrivals_at c now o) → Tallied (arrivals_at c now o) → (b ≡ begun.Done Unhandled → ⊥) → Sums (take (i + j) piece) old new
    sums-by None none d done = none-push none d
    sums-by (Some (asks q)) one d done = one-known _ refl one d done
    sums-by (Some (locates version id to)) one d done = one-known _ refl one d done
    sums-by (Some (cancels id)) none d done = none-push none d

    pub sums-step : Tallied (arrivals_at c now (heard_by (meaning_at m))) → (b ≡ begun.Done Unhandled → ⊥) → Sums (take (i + j) piece) old new
    sums-step d done = sums-by (heard_by (meaning_at m)) (arriving-one limits c now (meaning_at m)) d done

    -- an allocation failed
    one-cut : (n : ℕ) (at : Cut) (step : Step) (a : Arrival Wanted) → i + j ≤ length piece → n ≡ length (Here (take i piece)) → b ≡ begun.Done step → a.clock ≡ now → Brings (a ∷ []) → Tallied (a ∷ []) → counted_by n step ≡ Err at
        → SumsTo piece at old new
    one-cut n at Quiet a within count is clock one d by = absurd cc
    one-cut n at Answered a within count is clock one d by = absurd cc
    one-cut n at Unanswered a within count is clock one d by =
        sums-off grow piece (i + j) n at Unanswered (Here (take i piece)) a old new within (more-bring (a ∷ []) one) count
        (one-known a clock one d (λ un. let no : begun.Done Unanswered ≡ begun.Done Unhandled = sym is ∙ un in cc)) by
    one-cut n at Unhandled a within count is clock one d by =
        let cut : all_answered n ≡ at = let err : counted_by n Unhandled ≡ Err at = by in cc in
        let last = more-bring (a ∷ []) one in
        let size = length-append (Here (take i piece)) (a ∷ []) in
        let all = ap (λ (l : List (Arrival Wanted)). length l) last in
        let many : n + 1 ≡ length (Here (take (i + j) piece)) = omega (arith, size, all, count) in
        let few : n + 1 ≤ length (Here piece) = few-in Over Tell limits c now t s grow piece (i + j) (n + 1) many in
        let front = front-is Over Tell limits c now t s grow piece i n (omega (arith, within)) count in
        subst (λ (x : Cut). SumsTo piece x old new) cut
        (inr (
          refl,
          omega (arith, few),
          inr (d ∙ ap (λ (x : Begun). counted_with mid (decided_by x (decision_on terms capacity share held.entries a))) is ∙ ap (λ (n : Counts). counted_with n Dropped) (sum ∙ ap (λ (l : List (Arrival Wanted)). summed l old) (sym front))),
        ))

    none-cut : (n : ℕ) (at : Cut) (step : Step) → step ≡ Quiet → counted_by n step ≡ Err at → ⊥
    none-cut n at step quiet by = let no : Ok n ≡ Err at = ap (counted_by n) (sym quiet) ∙ by in cc

    cut-by : (n : ℕ) (at : Cut) (step : Step) (o : Option Incoming) (next : Table (List Call) Holding) (out grown : List ℕ) → i + j ≤ length piece → n ≡ length (Here (take i piece)) → b ≡ begun.Done step → Brings (arrivals_at c now o)
        → Tallied (arrivals_at c now o) → Steps Over Tell now c o held step next out grown → counted_by n step ≡ Err at → SumsTo piece at old new
    cut-by n at step None next out grown within count is none d did by = absurd (none-cut n at step did.0 by)
    cut-by n at step (Some (asks q)) next out grown within count is one d did by = one-cut n at step _ within count is refl one d by
    cut-by n at step (Some (locates version id to)) next out grown within count is one d did by = one-cut n at step _ within count is refl one d by
    cut-by n at step (Some (cancels id)) next out grown within count is none d did by = absurd (none-cut n at step did.0 by)

    pub sums-step-cut : (n : ℕ) (at x : Cut) (step : Step) (r : Result ℕ Cut) (next : Table (List Call) Holding) (out grown : List ℕ) → i + j ≤ length piece → n ≡ length (Here (take i piece)) → b ≡ begun.Done step
        → Tallied (arrivals_at c now (heard_by (meaning_at m))) → Steps Over Tell now c (heard_by (meaning_at m)) held step next out grown → r ≡ counted_by n step → r ≡ Err x → at ≡ x → SumsTo piece at old new
    sums-step-cut n at x step r next out grown within count is d did by err same =
        cut-by n at step (heard_by (meaning_at m)) next out grown within count is (arriving-one limits c now (meaning_at m)) d did (sym by ∙ err ∙ ap (λ (y : Cut). Err y) (sym same))

  -- octets without a message
  pub sums-quiet : HearingGrows meaning_in → (piece left : List ℕ) (i j : ℕ) (later : Linked) (old mid : Counts) → left ≡ drop i piece → Took Over Tell limits c now t s (take i piece) (take j left) later None → Sums (take i piece) old mid
      → Sums (take (i + j) piece) old mid
  sums-quiet grow piece left i j later old mid back k sum =
      let same : Here (take (i + j) piece) ≡ Here (take i piece) =
      ap (λ (l : List ℕ). Here l) (sym (further Over Tell limits c now t s piece left i j back)) ∙ took-arrivals Over Tell limits c now t s grow (take i piece) (take j left) later None k ∙ append-nil (Here (take i piece)) in
      sums-same (take i piece) (take (i + j) piece) old mid (sym same) sum

-- what holds of what arrives after any stream that a link stands for holds of what arrives on its line
line-has : (P : (List ℕ → List (Arrival Wanted)) → (List ℕ → ℕ → List ℕ) → Type 0) (limits : Limits) (c : Origin) (now : ℕ) (l : Line) (link : Linked) → IsFor limits (Some link) l → link.is_closed ≡ false
    → ((x : List ℕ) → LinkStands limits link x → P (λ o. arrivals_in limits c now x o) (λ o k. front_in limits c now x o k))
    → P (λ o. arrivals_on limits c now l o) (λ o k. front_on limits c now l o k)
line-has P limits c now Gone link held live f = absurd held
line-has P limits c now Shut link held live f = absurd (let k : true ≡ false = sym held.1 ∙ live in cc)
line-has P limits c now (Up x) link held live f = f x held

-- An engine, of whose calls so much is known, after a piece.
module _ (s : Settings) (held : ℕ → Holding) (server : Shown (List Call)) (past : List Event) (c moment now : ℕ) (link : Linked) (st : StandsOf (by_number s held) server past)
    (at : now ≡ max server.clock moment) (was : held_in server.links c ≡ Some link) where
  abbrev Known : Table (List Call) Holding
  Known = seen_table held (owned_table (by_number s held) past)

  line-for : IsFor s.limits (Some link) (line past c)
  line-for = subst (λ (o : Option Linked). IsFor s.limits o (line past c)) was (st.lines c)

  then-at : now ≡ max (clock past) moment
  then-at = at ∙ ap (λ (n : ℕ). max n moment) st.moment

  pub counts-on : (P : ℕ → ℕ → (List ℕ → List (Arrival Wanted)) → (List ℕ → ℕ → List ℕ) → Type 0) → link.is_closed ≡ false
      → ((x : List ℕ) → LinkStands s.limits link x → AreAlike now (table_of server) Known → P (capacity_of server) (share_of server) (λ o. arrivals_in s.limits (origin past c) now x o) (λ o k. front_in s.limits (origin past c) now x o k))
      → P s.capacity s.share (λ o. arrivals_on s.limits (origin past c) (max (clock past) moment) (line past c) o) (λ o k. front_on s.limits (origin past c) (max (clock past) moment) (line past c) o k)
  counts-on P live f =
      let known = alike-then (book_by (by_number s held)) server server past c moment [] st now at in
      let here = line-has (P (capacity_of server) (share_of server)) s.limits (origin past c) now (line past c) link line-for live (λ x ls. f x ls known) in
      let later = subst (λ (n : ℕ). P (capacity_of server) (share_of server) (λ o. arrivals_on s.limits (origin past c) n (line past c) o) (λ o k. front_on s.limits (origin past c) n (line past c) o k)) then-at here in
      let room = subst (λ (n : ℕ). P n (share_of server) (λ o. arrivals_on s.limits (origin past c) (max (clock past) moment) (line past c) o) (λ o k. front_on s.limits (origin past c) (max (clock past) moment) (line past c) o k)) st.capacity_is later in
      subst (λ (n : ℕ). P s.capacity n (λ o. arrivals_on s.limits (origin past c) (max (clock past) moment) (line past c) o) (λ o k. front_on s.limits (origin past c) (max (clock past) moment) (line past c) o k)) st.share_is room

  -- so many octets of it were taken
  pub counts-fed : (octets : List ℕ) (old new : Counts) → link.is_closed ≡ false
      → ((x : List ℕ) → LinkStands s.limits link x → AreAlike now (table_of server) Known → AreCountsOf s.terms (kept_of (by_number s held)) (capacity_of server) (share_of server) s.limits (origin past c) now Known x octets old new)
      → new ≡ counts_after s held past (Piece c moment octets) old
  counts-fed octets old new live f =
      counts-on (λ (capacity share : ℕ) (bring : List ℕ → List (Arrival Wanted)) (front : List ℕ → ℕ → List ℕ). new ≡ counted_all s.terms (kept_of (by_number s held)) capacity share Known (bring octets) old) live f

  -- an allocation failed
  pub counts-cut : (piece : List ℕ) (at : Cut) (old new : Counts) → link.is_closed ≡ false
      → ((x : List ℕ) → LinkStands s.limits link x → AreAlike now (table_of server) Known → AreCountsTo s.terms (kept_of (by_number s held)) (capacity_of server) (share_of server) s.limits (origin past c) now Known x piece at old new)
      → AreCountedTo s held past (Piece c moment piece) at.handled at.answered old new
  counts-cut piece at old new live f =
      counts-on (λ (capacity share : ℕ) (bring : List ℕ → List (Arrival Wanted)) (front : List ℕ → ℕ → List ℕ).
      (new ≡ counted_all s.terms (kept_of (by_number s held)) capacity share Known (bring (front piece at.handled)) old)
      ⊎ ((at.handled ≡ at.answered)
      × (at.handled < length (bring piece))
      × ((new ≡ counted_all s.terms (kept_of (by_number s held)) capacity share Known (bring (front piece (at.handled + 1))) old)
      ⊎ (new ≡ counted_with (counted_all s.terms (kept_of (by_number s held)) capacity share Known (bring (front piece at.handled)) old) Dropped))))
      live f

  -- its connection was closed
  pub closed-brings : EndsAreSilent meaning_in → (octets : List ℕ) → link.is_closed ≡ true → arrivals_on s.limits (origin past c) (max (clock past) moment) (line past c) octets ≡ []
  closed-brings silent octets closed = none (line past c) line-for
    where
      ended : (x : List ℕ) (o : Option Ending) → ending s.limits x ≡ o → LinkStands s.limits link x → arrivals_in s.limits (origin past c) (max (clock past) moment) x octets ≡ []
      ended x None is ls = absurd (let e : true ≡ is_some (ending s.limits x) = sym closed ∙ ls.is_ended in let k : true ≡ false = e ∙ ap is_some is in cc)
      ended x (Some e) is ls = arrivals_in-ended s.limits (origin past c) (max (clock past) moment) silent x octets e is

      none : (l : Line) → IsFor s.limits (Some link) l → arrivals_on s.limits (origin past c) (max (clock past) moment) l octets ≡ []
      none Gone held = absurd held
      none Shut held = refl
      none (Up x) ls = ended x (ending s.limits x) refl ls

  pub counts-closed : EndsAreSilent meaning_in → (octets : List ℕ) (old : Counts) → link.is_closed ≡ true → old ≡ counts_after s held past (Piece c moment octets) old
  counts-closed silent octets old closed = sym (ap (λ (l : List (Arrival Wanted)). counted_all s.terms (kept_of (by_number s held)) s.capacity s.share Known l old) (closed-brings silent octets closed))
