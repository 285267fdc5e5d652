-- What is due in an engine, with the answers to a piece.
use Rattle.std.proofs.Common.{◌≡◌, ℕ, ◌+◌, ◌<◌, max, false, true, List, [], ◌∷◌, ◌++◌, length, take, drop, Some, Err, sym, ap, subst, ◌∙◌, arith, length-append}
use Rattle.std.proofs.lemmas.List.{take-append-drop}
use Rattle.giop_frames.specs.declared.limits.Limits.{Limits}
use Rattle.giop_link.specs.Hearing.{meaning_in}
use Rattle.giop_link.specs.Laws.{EndsAreSilent}
use Rattle.giop_link.specs.Linking.{LinkStands, Linked}
use Rattle.ft_log.specs.Holding.{Holding}
use Rattle.ft_log.specs.Kept.{KeptOutcome}
use Rattle.ft_orb.specs.Bounds.{IsBelow, IsFirstDue}
use Rattle.ft_orb.specs.Engines.{StandsOf}
use Rattle.ft_orb.specs.ExactlyOnce.{Arrival}
use Rattle.ft_orb.specs.History.{Event, Piece, arrivals_in, completed, front_in, origin}
use Rattle.ft_orb.specs.Outputs.{output_cut}
use Rattle.ft_orb.specs.Owners.{Voice, answered_so_far, kept_of, owned_rules, owned_says, owned_table, owner_rules}
use Rattle.ft_orb.specs.Parking.{Settings, by_number}
use Rattle.ft_orb.specs.Pause as pause
use Rattle.ft_orb.specs.Pause.{Pause}
use Rattle.ft_orb.specs.Pauses.{BringsBy, Reaches}
use Rattle.ft_orb.specs.Private.{Served, counted_by}
use Rattle.ft_orb.specs.Requests.{Call, Origin, Terms, Wanted, asked_at}
use Rattle.ft_orb.specs.Seen.{seen_table}
use Rattle.ft_orb.specs.Standing.{Shown, capacity_of, held_in, share_of, table_of}
use Rattle.ft_orb.specs.Table.{AreAlike, Table, table_answers}
use Rattle.ft_orb.specs.Tellings.{nothing_yet, rendered, told_at}
use Rattle.ft_orb.specs.declared.desk.Step.{Step}
use Rattle.ft_orb.specs.declared.desk.Step.TheVariants.{Answered, Quiet, Unanswered, Unhandled}
use Rattle.ft_orb.specs.declared.pausing.Place.{Place}
use Rattle.ft_orb.specs.declared.serving.Cut.{Cut}
use Rattle.ft_orb.proofs.Books.{book_by, rendered-seen, tables-are-seen}
use Rattle.ft_orb.proofs.Going.{rendered-more}
use Rattle.ft_orb.proofs.Tallies.{closed-brings, counts-on}

-- where enough is due, what was taken is served
pub enough-all : (terms : ℕ → Terms) (voice : Voice) (capacity share : ℕ) (limits : Limits) (c : Origin) (now : ℕ) (t : Table (List Call) Holding) (s start piece : List ℕ) (calls : List Call) (p : Pause) (place : Place) (link : Linked) (entries : List (KeptOutcome Holding)) (out : List ℕ)
    → p ≡ pause.Due place → Reaches terms voice capacity share limits c now t s start piece calls p link entries out
    → Reaches terms voice capacity share limits c now t s start piece calls (pause.Due place) link entries out
enough-all terms voice capacity share limits c now t s start piece calls p place link entries out is h =
    subst (λ (x : Pause). Reaches terms voice capacity share limits c now t s start piece calls x link entries out) is h

pub enough-is : (terms : ℕ → Terms) (voice : Voice) (capacity share : ℕ) (limits : Limits) (c : Origin) (now : ℕ) (t : Table (List Call) Holding) (s start piece : List ℕ) (calls : List Call) (p : Pause) (place : Place) (link : Linked) (entries : List (KeptOutcome Holding)) (out : List ℕ)
    → p ≡ pause.Due place → Reaches terms voice capacity share limits c now t s start piece calls p link entries out
    → (written : List ℕ) × (out ≡ start ++ written) × Served (owner_rules (asked_at terms) voice.answers capacity share) (told_at voice.late terms) limits c now t s (take place.taken piece) link (answered_so_far calls entries) written
enough-is terms voice capacity share limits c now t s start piece calls p place link entries out is h =
    let r = enough-all terms voice capacity share limits c now t s start piece calls p place link entries out is h in
    (r.0, r.1, r.2)

-- the answers before one at which a piece stops
pub stopped-few : (xs before : List (Arrival Wanted)) (a : Arrival Wanted) (n : ℕ) → xs ≡ before ++ a ∷ [] → n ≡ length before → length xs ≡ n + 1
stopped-few xs before a n is count =
    let size = length-append before (a ∷ []) in
    let all = ap (λ (l : List (Arrival Wanted)). length l) is in
    omega (arith, size, all, count)

-- where an answer failed, all before it are there
pub cut-answered : (n : ℕ) (step : Step) (at : Cut) → counted_by n step ≡ Err at → at.answered ≡ n
cut-answered n Quiet at is = absurd cc
cut-answered n Answered at is = absurd cc
cut-answered n Unanswered at is = let same : record { handled = n + 1; answered = n } ≡ at = cc in ap (λ (x : Cut). x.answered) (sym same)
cut-answered n Unhandled at is = let same : record { handled = n; answered = n } ≡ at = cc in ap (λ (x : Cut). x.answered) (sym same)

-- An engine, of whose calls so much is known, after a piece.
module _ (s : Settings) (held : ℕ → Holding) (server : Shown (List Call)) (past : List Event) (c moment now : ℕ) (link : Linked) (st : StandsOf (by_number s held) server past)
    (at : now ≡ max server.clock moment) (was : held_in server.links c ≡ Some link) (most before : ℕ) where
  -- how many octets are due with the answers to these arrivals
  abbrev due : ℕ → ℕ → List (Arrival Wanted) → ℕ
  due capacity share xs =
      before + length (rendered (told_at nothing_yet s.terms) xs (table_answers (owner_rules (asked_at s.terms) (kept_of (by_number s held)) capacity share) (seen_table held (owned_table (by_number s held) past)) xs))

  abbrev Below : ℕ → ℕ → List (Arrival Wanted) → ℕ → Type 0
  Below capacity share xs n = (k : ℕ) → 0 < k → k < n → due capacity share (take k xs) < most

  -- .. as the law has it
  due-is : (e : Event) (k : ℕ) → due s.capacity s.share (take k (completed s.limits past e)) ≡ before + length (output_cut s.limits (by_number s held).tell (owned_says (by_number s held)) past e k)
  due-is e k =
      let o = by_number s held in
      let xs = completed s.limits past e in
      let first = take k xs in
      let seen = tables-are-seen held (owned_rules o) (owned_table o past) first in
      ap (λ (l : List ℕ). before + length l)
      (ap (rendered (told_at nothing_yet s.terms) first) seen.1 ∙ rendered-seen (book_by o) first (table_answers (owned_rules o) (owned_table o past) first)
      ∙ sym (rendered-more (owned_rules o) o.tell (owned_table o past) first (drop k xs)) ∙ ap (λ (l : List (Arrival Wanted)). rendered o.tell first (table_answers (owned_rules o) (owned_table o past) l)) (take-append-drop k xs))

  below-is : (e : Event) (n : ℕ) → Below s.capacity s.share (completed s.limits past e) n → IsBelow s held past most before e n
  below-is e n b k some few = subst (λ (x : ℕ). x < most) (due-is e k) (b k some few)

  -- so many octets of it were taken
  due-fed : (octets : List ℕ) (many : List (Arrival Wanted) → ℕ) → link.is_closed ≡ false
      → ((x : List ℕ) → LinkStands s.limits link x → AreAlike now (table_of server) (seen_table held (owned_table (by_number s held) past)) → Below (capacity_of server) (share_of server) (arrivals_in s.limits (origin past c) now x octets) (many (arrivals_in s.limits (origin past c) now x octets)))
      → IsBelow s held past most before (Piece c moment octets) (many (completed s.limits past (Piece c moment octets)))
  due-fed octets many live f =
      below-is (Piece c moment octets) (many (completed s.limits past (Piece c moment octets)))
      (counts-on s held server past c moment now link st at was (λ (capacity share : ℕ) (bring : List ℕ → List (Arrival Wanted)) (front : List ℕ → ℕ → List ℕ). Below capacity share (bring octets) (many (bring octets))) live f)

  pub due-whole : (octets : List ℕ) → link.is_closed ≡ false
      → ((x : List ℕ) → LinkStands s.limits link x → AreAlike now (table_of server) (seen_table held (owned_table (by_number s held) past)) → Below (capacity_of server) (share_of server) (arrivals_in s.limits (origin past c) now x octets) (length (arrivals_in s.limits (origin past c) now x octets) + 1))
      → IsBelow s held past most before (Piece c moment octets) (length (completed s.limits past (Piece c moment octets)) + 1)
  due-whole octets live f = due-fed octets (λ l. length l + 1) live f

  -- .. up to an arrival
  pub due-before : (octets : List ℕ) → link.is_closed ≡ false
      → ((x : List ℕ) → LinkStands s.limits link x → AreAlike now (table_of server) (seen_table held (owned_table (by_number s held) past)) → Below (capacity_of server) (share_of server) (arrivals_in s.limits (origin past c) now x octets) (length (arrivals_in s.limits (origin past c) now x octets)))
      → IsBelow s held past most before (Piece c moment octets) (length (completed s.limits past (Piece c moment octets)))
  due-before octets live f = due-fed octets (λ l. length l) live f

  -- an allocation failed
  pub due-cut : (octets : List ℕ) (n : ℕ) → link.is_closed ≡ false
      → ((x : List ℕ) → LinkStands s.limits link x → AreAlike now (table_of server) (seen_table held (owned_table (by_number s held) past)) → Below (capacity_of server) (share_of server) (arrivals_in s.limits (origin past c) now x octets) n)
      → IsBelow s held past most before (Piece c moment octets) n
  due-cut octets n live f =
      below-is (Piece c moment octets) n
      (counts-on s held server past c moment now link st at was (λ (capacity share : ℕ) (bring : List ℕ → List (Arrival Wanted)) (front : List ℕ → ℕ → List ℕ). Below capacity share (bring octets) n) live f)

  -- enough is due
  pub due-first : (piece : List ℕ) (n h : ℕ) → link.is_closed ≡ false
      → ((x : List ℕ) → LinkStands s.limits link x → AreAlike now (table_of server) (seen_table held (owned_table (by_number s held) past))
      → BringsBy s.limits (origin past c) now x piece (take n piece) h × Below (capacity_of server) (share_of server) (arrivals_in s.limits (origin past c) now x (take n piece)) h)
      → IsFirstDue s held past most before c moment piece n
  due-first piece n h live f =
      let r = counts-on s held server past c moment now link st at was (λ (capacity share : ℕ) (bring : List ℕ → List (Arrival Wanted)) (front : List ℕ → ℕ → List ℕ).
      (0 < length (bring (take n piece))) × Below capacity share (bring (take n piece)) (length (bring (take n piece))) × (front piece (length (bring (take n piece))) ≡ take n piece)) live (λ x ls al.
      let y = f x ls al in
      let some = y.0.some in
      let count = y.0.count in (
        omega (arith, some, count),
        subst (λ (m : ℕ). Below (capacity_of server) (share_of server) (arrivals_in s.limits (origin past c) now x (take n piece)) m) count y.1,
        subst (λ (m : ℕ). front_in s.limits (origin past c) now x piece m ≡ take n piece) count y.0.short,
      )) in
      record {
        some = r.0;
        below = below-is (Piece c moment (take n piece)) (length (completed s.limits past (Piece c moment (take n piece)))) r.1;
        short = ap (λ (l : List ℕ). Piece c moment l) r.2;
      }

  -- its connection was closed
  pub due-closed : EndsAreSilent meaning_in → (octets : List ℕ) → link.is_closed ≡ true → IsBelow s held past most before (Piece c moment octets) (length (completed s.limits past (Piece c moment octets)) + 1)
  due-closed silent octets closed k some few =
      let none = ap (λ (l : List (Arrival Wanted)). length l) (closed-brings s held server past c moment now link st at was silent octets closed) in
      absurd (omega (arith, some, few, none))
