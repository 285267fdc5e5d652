-- A piece that was fed in parts, at one moment, counts as one piece, whatever came of the last part.
use Rattle.std.proofs.Common.{◌≡◌, ℕ, ◌+◌, ◌≤◌, ◌<◌, ◌-◌, ◌==◌, max, nat_lt, nat_le, Bool, true, false, if◌then◌else◌, List, [], ◌∷◌, ◌++◌, drop, length, take, Option, Some, None, is_none, refl, sym, ap, subst, ◌∙◌, arith, length-append}
use Rattle.std.specs.List.{list_all}
use Rattle.std.proofs.Math.Seq.{take-add, take-append-add, take-length}
use Rattle.std.proofs.lemmas.Bool.{le-leb, leb-false, leb-true, ltb-false, ltb-true}
use Rattle.std.proofs.lemmas.List.{append-nil, length-drop, length-take-le, take-append-drop, take-take}
use Rattle.giop_frames.specs.declared.limits.Limits.{Limits}
use Rattle.giop_link.specs.Hearing.{Ending, ending, meaning_in}
use Rattle.giop_link.specs.Laws.{EndingsStay, EndsAreSilent, HearingGrows}
use Rattle.ft_log.specs.Performed.{Performed}
use Rattle.ft_orb.specs.declared.events.Note.TheVariants.{Done}
use Rattle.ft_orb.specs.ExactlyOnce.{Arrival, Rules}
use Rattle.ft_orb.specs.History.{Event, Gone, Line, Lost, Piece, Shut, Up, arrivals, arrivals_in, arrivals_on, clock, completed, counted, front_in, front_on, least, line, longer, shortened, origin}
use Rattle.ft_orb.specs.Outputs.{IsCutShort, Made, Writes, is_going, needs_memory, output_cut, table_of_past, table_says}
use Rattle.ft_orb.specs.Tellings.{Teller, answer_told, rendered}
use Rattle.ft_orb.specs.Requests.{Call, Wanted, rules_of, Origin}
use Rattle.ft_objects.specs.Servants.{Meaning}
use Rattle.ft_orb.specs.Standing.{IsFor, Shown, Stands, held_in, table_of}
use Rattle.ft_orb.specs.Table.{AreAlike, Table, table_after, table_answers}
use Rattle.ft_orb.specs.Visits.{IsShortest, count_to}
use Rattle.ft_orb.specs.Private.{error_at}
use Rattle.ft_orb.proofs.Cutting.{completed-cut, on-cut, cut-pieces-write, line-here, now-same, pieces-may-be-cut}
use Rattle.ft_orb.proofs.Folded.{table_after-append, table_answers-append, table_answers-length}
use Rattle.ft_orb.proofs.Going.{front-exact, least-passes, least-within}
use Rattle.ft_orb.proofs.Pieces.{needs-by}
use Rattle.ft_orb.proofs.Told.{error_on, output-is, rendered-append}
use Rattle.ft_log.specs.Holding.{known}
use Rattle.ft_orb.specs.Seen.{seen_table}

-- a number below the least that passes does not pass
least-below : (test : ℕ → Bool) (i n : ℕ) → i < least test n → test i ≡ false
least-below test i n less =
    let within = least-within test n in
    (elim (test i) as (λ (b : Bool). test i ≡ b → b ≡ false) [
      | true ↦ λ is. absurd (let low = (least-passes test i n (omega (arith, within, less)) is).1 in omega (arith, less, low))
      | false ↦ λ is. refl
    ]) refl

-- a line that goes on is up
pub up-going : (limits : Limits) (l : Line) → is_going limits l ≡ true → (s : List ℕ) × (l ≡ Up s)
up-going limits Gone h = absurd cc
up-going limits Shut h = absurd cc
up-going limits (Up s) h = (s, refl)

-- .. and no MessageError was due
calm-going : (limits : Limits) (l : Line) (x : List ℕ) → is_going limits (longer x l) ≡ true → error_on limits l x ≡ []
calm-going limits Gone x h = refl
calm-going limits Shut x h = refl
calm-going limits (Up s) x h = calm-by (ending limits s) (ending limits (s ++ x)) h
  where
    calm-by : (was now : Option Ending) → is_none now ≡ true → error_at was now ≡ []
    calm-by None None h = refl
    calm-by (Some e) None h = refl
    calm-by was (Some e) h = absurd cc

pub needs-going : (limits : Limits) (past : List Event) (c moment : ℕ) (octets : List ℕ) → needs_memory limits past (Piece c moment octets) ≡ true → (0 < length octets) × (is_going limits (line past c) ≡ true)
needs-going limits past c moment [] h = absurd cc
needs-going limits past c moment (x ∷ xs) h = (omega arith, h)

-- The shortest front of octets that completes so many arrivals after a stream.
module _ {S Outcome : Type 0} (rules : Rules S Wanted Call Outcome) (tell : Teller Outcome) (limits : Limits) (c : Origin) (now : ℕ) (t : Table S Outcome) (s : List ℕ) where
  abbrev Here : List ℕ → List (Arrival Wanted)
  Here p = arrivals_in limits c now s p

  front-of : (octets : List ℕ) (k : ℕ) → k ≤ length (Here octets)
      → (n : ℕ) × (n ≤ length octets) × (front_in limits c now s octets k ≡ take n octets) × (k ≤ length (Here (take n octets))) × ((m : ℕ) → m < n → length (Here (take m octets)) < k)
  unfolding front_in
  front-of octets k enough =
      let test : ℕ → Bool = λ i. nat_le k (length (Here (take i octets))) in
      let passes : test (length octets) ≡ true = le-leb k _ (subst (λ (l : List ℕ). k ≤ length (Here l)) (sym (take-length octets)) enough) in
      let low = least-passes test (length octets) (length octets) (omega arith) passes in
      (least test (length octets), low.1, refl, leb-true k _ low.0, λ m less. leb-false k _ (least-below test m (length octets) less))

  -- fewer octets than it has complete fewer
  pub front-least : (octets : List ℕ) (n k : ℕ) → n ≤ length octets → k ≤ length (Here octets) → front_in limits c now s octets k ≡ take n octets → (m : ℕ) → m < n → length (Here (take m octets)) < k
  front-least octets n k within enough is m less =
      let f = front-of octets k enough in
      let sizes = ap (λ (l : List ℕ). length l) (sym f.2 ∙ is) in
      let a = length-take-le f.0 octets f.1 in
      let b = length-take-le n octets within in
      f.4 m (omega (arith, sizes, a, b, less))

  -- it is that of some octets which complete as many
  pub front-within : (octets : List ℕ) (n k : ℕ) → n ≤ length octets → k ≤ length (Here (take n octets)) → front_in limits c now s octets k ≡ front_in limits c now s (take n octets) k
  front-within octets n k within enough =
      let f = front-of (take n octets) k enough in
      let size = length-take-le n octets within in
      let m = f.0 in
      let small : m ≤ n = let h = f.1 in omega (arith, h, size) in
      let same : take m (take n octets) ≡ take m octets = take-take m n octets small in
      front-exact rules tell limits c now t s octets m k (omega (arith, small, within))
      (subst (λ (l : List ℕ). k ≤ length (Here l)) same f.3)
      (λ i less. subst (λ (l : List ℕ). length (Here l) < k) (take-take i n octets (omega (arith, less, small))) (f.4 i less))
      ∙ sym (f.2 ∙ same)

module _ {S Outcome : Type 0} (rules : Rules S Wanted Call Outcome) (tell : Teller Outcome) (limits : Limits) (c : Origin) (now : ℕ) (t : Table S Outcome) (s octets : List ℕ) (j : ℕ) (grow : HearingGrows meaning_in) where
  abbrev Size : ℕ → ℕ
  Size n = length (arrivals_in limits c now s (take n octets))

  abbrev Rest : List ℕ → List (Arrival Wanted)
  Rest p = arrivals_in limits c now (s ++ take j octets) p

  -- what octets behind the first bring
  size-rest : (n : ℕ) → Size (j + n) ≡ Size j + length (Rest (take n (drop j octets)))
  size-rest n =
      ap (λ (l : List ℕ). length (arrivals_in limits c now s l)) (take-add j n octets)
      ∙ ap (λ (l : List (Arrival Wanted)). length l) (on-cut limits c (take j octets) (take n (drop j octets)) grow now (Up s))
      ∙ length-append (arrivals_in limits c now s (take j octets)) (Rest (take n (drop j octets)))

  fewer-rest : (h n : ℕ) → ((m : ℕ) → m < j → Size m < Size j) → ((m : ℕ) → m < n → length (Rest (take m (drop j octets))) < h) → (m : ℕ) → m < j + n → Size m < Size j + h
  fewer-rest h n shortest rest m less =
      (elim (nat_lt m j) as (λ (b : Bool). nat_lt m j ≡ b → Size m < Size j + h) [
        | true ↦ λ is. let few = shortest m (ltb-true m j is) in omega (arith, few)
        | false ↦ λ is.
            let beyond : j ≤ m = ltb-false m j is in
            let few = rest (m - j) (omega (arith, beyond, less)) in
            let all = size-rest (m - j) in
            let at : Size (j + (m - j)) ≡ Size m = ap Size (omega (arith, beyond)) in
            omega (arith, few, all, at)
      ]) refl

  -- Behind a shortest front the shortest front goes on as that of the octets after it.
  pub front-shift : (h : ℕ) → j ≤ length octets → ((m : ℕ) → m < j → Size m < Size j) → h ≤ length (Rest (drop j octets))
      → front_in limits c now s octets (Size j + h) ≡ take j octets ++ front_in limits c now (s ++ take j octets) (drop j octets) h
  front-shift h within shortest enough =
      let f = front-of rules tell limits c now t (s ++ take j octets) (drop j octets) h enough in
      let n = f.0 in
      let size = length-drop j octets in
      let small = f.1 in
      front-exact rules tell limits c now t s octets (j + n) (Size j + h) (omega (arith, size, small, within))
      (let all = size-rest n in let rest = f.3 in omega (arith, all, rest))
      (fewer-rest h n shortest f.4)
      ∙ take-add j n octets ∙ ap (λ (l : List ℕ). take j octets ++ l) (sym f.2)

-- Pasts that bring the same.
module _ {S : Type 0} (meaning : Meaning S) (made : Made S) (server : Shown S) (p q : List Event) where
  pub stands-same : clock p ≡ clock q → counted p ≡ counted q → ((d : ℕ) → line p d ≡ line q d) → arrivals made.limits p ≡ arrivals made.limits q → Stands meaning made server p → Stands meaning made server q
  stands-same moment count lines all st = record {
    limits_are = st.limits_are;
    capacity_is = st.capacity_is;
    share_is = st.share_is;
    moment = st.moment ∙ moment;
    greatest = λ d. sym (ap (λ (xs : List ℕ). list_all (λ x. nat_lt x d) xs) count) ∙ st.greatest d;
    lines = λ d. subst (λ (l : Line). IsFor made.limits (held_in server.links d) l) (lines d) (st.lines d);
    table = subst (λ (xs : List (Arrival Wanted)). AreAlike server.clock (table_of server) (seen_table known (table_after (rules_of meaning made.capacity made.share) (record { state = made.opening; entries = [] }) xs))) all st.table;
  }

-- Two pieces of a connection at one moment, one after the other: x and then y.
module _ {S : Type 0} (meaning : Meaning S) (made : Made S) (past : List Event) (c moment : ℕ) (x y : List ℕ) (grow : HearingGrows meaning_in) (stays : EndingsStay meaning_in) (silent : EndsAreSilent meaning_in) where
  abbrev Rules-of : Rules S Wanted Call Performed
  Rules-of = rules_of meaning made.capacity made.share

  abbrev Then : List Event
  Then = Piece c moment x ∷ past

  abbrev First : List (Arrival Wanted)
  First = completed made.limits past (Piece c moment x)

  pub stands-joined : (server : Shown S) → Stands meaning made server (Piece c moment y ∷ Then) → Stands meaning made server (Piece c moment (x ++ y) ∷ past)
  stands-joined server st =
      let cut = pieces-may-be-cut grow made.limits past c moment x y in
      stands-same meaning made server (Piece c moment y ∷ Then) (Piece c moment (x ++ y) ∷ past) cut.1 cut.2 cut.3 cut.0 st

  -- .. and then the connection is lost
  pub stands-lost : (server : Shown S) → Stands meaning made server (Lost c ∷ Piece c moment y ∷ Then) → Stands meaning made server (Lost c ∷ Piece c moment (x ++ y) ∷ past)
  stands-lost server st =
      let cut = pieces-may-be-cut grow made.limits past c moment x y in
      stands-same meaning made server (Lost c ∷ Piece c moment y ∷ Then) (Lost c ∷ Piece c moment (x ++ y) ∷ past) cut.1 cut.2
      (λ d. ap (λ (l : Line). if c == d then Gone else l) (cut.3 d)) (ap (λ (xs : List (Arrival Wanted)). xs ++ []) cut.0) st

  pub writes-joined : (first more : List ℕ) → Writes made.limits meaning.knows (table_says meaning made) past (Piece c moment x) first Done → Writes made.limits meaning.knows (table_says meaning made) Then (Piece c moment y) more Done
      → Writes made.limits meaning.knows (table_says meaning made) past (Piece c moment (x ++ y)) (first ++ more) Done
  writes-joined first more h k = ((λ i. h.0 i ++ k.0 i) ∙ sym (cut-pieces-write grow stays silent meaning made past c moment x y).0, h.1)

  -- what the table answers to both, and then to so many of the second
  rendered-joined : (a : ℕ) → output_cut made.limits (answer_told meaning.knows) (table_says meaning made) past (Piece c moment (x ++ y)) (length First + a)
      ≡ rendered (answer_told meaning.knows) First (table_says meaning made past (Piece c moment x)) ++ output_cut made.limits (answer_told meaning.knows) (table_says meaning made) Then (Piece c moment y) a
  rendered-joined a =
      let t = table_of_past meaning made past in
      let rest = completed made.limits Then (Piece c moment y) in
      let table : table_of_past meaning made Then ≡ table_after Rules-of t First = table_after-append Rules-of (record { state = made.opening; entries = [] }) (arrivals made.limits past) First in
      ap (λ (xs : List (Arrival Wanted)). rendered (answer_told meaning.knows) (take (length First + a) xs) (table_answers Rules-of t xs)) (completed-cut made.limits past c moment x y grow)
      ∙ (λ i. rendered (answer_told meaning.knows) (take-append-add First rest a i) (table_answers-append Rules-of t First rest i))
      ∙ rendered-append (answer_told meaning.knows) First (take a rest) (table_answers Rules-of t First) (table_answers Rules-of (table_after Rules-of t First) rest) (table_answers-length Rules-of t First)
      ∙ ap (λ (u : Table S Performed). rendered (answer_told meaning.knows) First (table_answers Rules-of t First) ++ rendered (answer_told meaning.knows) (take a rest) (table_answers Rules-of u rest)) (sym table)

-- A piece of which the first j octets were taken as a piece, and an allocation failed in the rest.
module _ {S : Type 0} (meaning : Meaning S) (made : Made S) (past : List Event) (c moment : ℕ) (piece : List ℕ) (j : ℕ) (grow : HearingGrows meaning_in) (stays : EndingsStay meaning_in) (silent : EndsAreSilent meaning_in)
    (within : j ≤ length piece) (shortest : IsShortest made.limits past c moment piece j) where
  abbrev Before : List ℕ
  Before = take j piece

  abbrev Left : List ℕ
  Left = drop j piece

  abbrev Mid : List Event
  Mid = Piece c moment Before ∷ past

  abbrev Front : ℕ → List ℕ
  Front h = front_on made.limits (origin past c) (max (clock Mid) moment) (line Mid c) Left h

  abbrev Count : ℕ
  Count = count_to made.limits past c moment piece j

  whole : Before ++ Left ≡ piece
  whole = take-append-drop j piece

  all-count : length (completed made.limits past (Piece c moment piece)) ≡ Count + length (completed made.limits Mid (Piece c moment Left))
  all-count =
      ap (λ (l : List ℕ). length (completed made.limits past (Piece c moment l))) (sym whole)
      ∙ ap (λ (l : List (Arrival Wanted)). length l) (completed-cut made.limits past c moment Before Left grow)
      ∙ length-append (completed made.limits past (Piece c moment Before)) (completed made.limits Mid (Piece c moment Left))

  shortened-up : (s : List ℕ) → line past c ≡ Up s → (h : ℕ) → h ≤ length (completed made.limits Mid (Piece c moment Left)) → front_on made.limits (origin past c) (max (clock past) moment) (line past c) piece (Count + h) ≡ Before ++ Front h
  shortened-up s up h enough =
      let now = max (clock past) moment in
      let on : (xs : List ℕ) → length (completed made.limits past (Piece c moment xs)) ≡ length (arrivals_in made.limits (origin past c) now s xs) = λ xs. ap (λ (l : Line). length (arrivals_on made.limits (origin past c) now l xs)) up in
      let later : line Mid c ≡ Up (s ++ Before) = line-here made.limits past c moment Before Left ∙ ap (λ (l : Line). longer Before l) up in
      let same : max (clock Mid) moment ≡ now = now-same made.limits past c moment Before Left in
      let rest : length (completed made.limits Mid (Piece c moment Left)) ≡ length (arrivals_in made.limits (origin past c) now (s ++ Before) Left) = λ i. length (arrivals_on made.limits (origin past c) (same i) (later i) Left) in
      (λ i. front_on made.limits (origin past c) now (up i) piece (on Before i + h))
      ∙ front-shift (rules_of meaning made.capacity made.share) (answer_told meaning.knows) made.limits (origin past c) now (table_of_past meaning made past) s piece j grow h within
      (λ m less. let few = shortest m less in let a = on (take m piece) in let b = on Before in omega (arith, few, a, b))
      (omega (arith, enough, rest))
      ∙ sym (λ i. Before ++ front_on made.limits (origin past c) (same i) (later i) Left h)

  shortened-joined : is_going made.limits (line past c) ≡ true → (h : ℕ) → h ≤ length (completed made.limits Mid (Piece c moment Left)) → shortened made.limits past (Piece c moment piece) (Count + h) ≡ Piece c moment (Before ++ Front h)
  shortened-joined going h enough =
      let up = up-going made.limits (line past c) going in
      ap (λ (l : List ℕ). Piece c moment l) (shortened-up up.0 up.1 h enough)

  module _ (going : is_going made.limits (line past c) ≡ true) (first more : List ℕ) (handled answered : ℕ) (writes : Writes made.limits meaning.knows (table_says meaning made) past (Piece c moment Before) first Done)
      (cut : IsCutShort made.limits (answer_told meaning.knows) (table_says meaning made) Mid (Piece c moment Left) more handled answered) where
    short : shortened made.limits past (Piece c moment piece) (Count + handled) ≡ Piece c moment (Before ++ Front handled)
    short = shortened-joined going handled cut.few

    needs : (0 < length Left) × (is_going made.limits (line Mid c) ≡ true)
    needs = needs-going made.limits Mid c moment Left cut.needs

    first-is : first ≡ rendered (answer_told meaning.knows) (completed made.limits past (Piece c moment Before)) (table_says meaning made past (Piece c moment Before))
    first-is =
        let still : is_going made.limits (longer Before (line past c)) ≡ true = subst (λ (l : Line). is_going made.limits l ≡ true) (line-here made.limits past c moment Before Left) needs.1 in
        writes.0 ∙ output-is made.limits (answer_told meaning.knows) (table_says meaning made) past (Piece c moment Before) ∙ ap (λ (l : List ℕ). rendered (answer_told meaning.knows) (completed made.limits past (Piece c moment Before)) (table_says meaning made past (Piece c moment Before)) ++ l) (calm-going made.limits (line past c) Before still)
        ∙ append-nil (rendered (answer_told meaning.knows) (completed made.limits past (Piece c moment Before)) (table_says meaning made past (Piece c moment Before)))

    out-is : (a : ℕ) → output_cut made.limits (answer_told meaning.knows) (table_says meaning made) past (shortened made.limits past (Piece c moment piece) (Count + handled)) (Count + a)
        ≡ first ++ output_cut made.limits (answer_told meaning.knows) (table_says meaning made) Mid (Piece c moment (Front handled)) a
    out-is a =
        ap (λ (e : Event). output_cut made.limits (answer_told meaning.knows) (table_says meaning made) past e (Count + a)) short
        ∙ rendered-joined meaning made past c moment Before (Front handled) grow stays silent a
        ∙ ap (λ (l : List ℕ). l ++ output_cut made.limits (answer_told meaning.knows) (table_says meaning made) Mid (Piece c moment (Front handled)) a) (sym first-is)

    pub cut-joined : IsCutShort made.limits (answer_told meaning.knows) (table_says meaning made) past (Piece c moment piece) (first ++ more) (Count + handled) (Count + answered)
    cut-joined = record {
      out = ap (λ (l : List ℕ). first ++ l) cut.out ∙ sym (out-is answered);
      few = let all = all-count in let few = cut.few in omega (arith, all, few);
      within = let h = cut.within in omega (arith, h);
      near = let h = cut.near in omega (arith, h);
      needs = let size = length-drop j piece in let some = needs.0 in needs-by made.limits past c moment piece (omega (arith, size, some)) going;
      further = λ even.
          let less = cut.further (omega (arith, even)) in
          let all = ap (λ (l : List ℕ). length l) (shortened-is (up-going made.limits (line past c) going)) in
          let a = length-append Before (Front handled) in
          let b = length-append Before Left in
          let sizes = ap (λ (l : List ℕ). length l) whole in
          omega (arith, less, all, a, b, sizes);
      due = λ odd.
          let less = cut.due (omega (arith, odd)) in
          let a = length-append first more in
          let b = length-append first (output_cut made.limits (answer_told meaning.knows) (table_says meaning made) Mid (Piece c moment (Front handled)) handled) in
          let all = ap (λ (l : List ℕ). length l) (out-is handled) in
          omega (arith, less, a, b, all);
    }
      where
        shortened-is : (s : List ℕ) × (line past c ≡ Up s) → front_on made.limits (origin past c) (max (clock past) moment) (line past c) piece (Count + handled) ≡ Before ++ Front handled
        shortened-is up = shortened-up up.0 up.1 handled cut.few

    pub cut-stands : (server : Shown S) → Stands meaning made server (Lost c ∷ Piece c moment (Front handled) ∷ Mid) → Stands meaning made server (Lost c ∷ shortened made.limits past (Piece c moment piece) (Count + handled) ∷ past)
    cut-stands server st =
        subst (λ (e : Event). Stands meaning made server (Lost c ∷ e ∷ past)) (sym short)
        (stands-lost meaning made past c moment Before (Front handled) grow stays silent server st)

-- A piece of which the first n octets are a piece in which an allocation failed.
module _ {S : Type 0} (meaning : Meaning S) (made : Made S) (past : List Event) (c moment : ℕ) (piece : List ℕ) (n : ℕ) (grow : HearingGrows meaning_in) (within : n ≤ length piece) (written : List ℕ) (handled answered : ℕ)
    (cut : IsCutShort made.limits (answer_told meaning.knows) (table_says meaning made) past (Piece c moment (take n piece)) written handled answered) where
  going-here : (0 < length (take n piece)) × (is_going made.limits (line past c) ≡ true)
  going-here = needs-going made.limits past c moment (take n piece) cut.needs

  front-here : (s : List ℕ) × (line past c ≡ Up s) → front_on made.limits (origin past c) (max (clock past) moment) (line past c) piece handled ≡ front_on made.limits (origin past c) (max (clock past) moment) (line past c) (take n piece) handled
  front-here up =
      let now = max (clock past) moment in
      let size = ap (λ (l : Line). length (arrivals_on made.limits (origin past c) now l (take n piece))) up.1 in
      let few = cut.few in
      ap (λ (l : Line). front_on made.limits (origin past c) now l piece handled) up.1
      ∙ front-within (rules_of meaning made.capacity made.share) (answer_told meaning.knows) made.limits (origin past c) now (table_of_past meaning made past) up.0 piece n handled within (omega (arith, size, few))
      ∙ sym (ap (λ (l : Line). front_on made.limits (origin past c) now l (take n piece) handled) up.1)

  front-same : front_on made.limits (origin past c) (max (clock past) moment) (line past c) piece handled ≡ front_on made.limits (origin past c) (max (clock past) moment) (line past c) (take n piece) handled
  front-same = front-here (up-going made.limits (line past c) going-here.1)

  same-short : shortened made.limits past (Piece c moment piece) handled ≡ shortened made.limits past (Piece c moment (take n piece)) handled
  same-short = ap (λ (l : List ℕ). Piece c moment l) front-same

  pub cut-within : IsCutShort made.limits (answer_told meaning.knows) (table_says meaning made) past (Piece c moment piece) written handled answered
  cut-within = record {
    out = cut.out ∙ sym (ap (λ (e : Event). output_cut made.limits (answer_told meaning.knows) (table_says meaning made) past e answered) same-short);
    few =
        let whole = ap (λ (l : List ℕ). length (completed made.limits past (Piece c moment l))) (take-append-drop n piece) in
        let all = ap (λ (l : List (Arrival Wanted)). length l) (completed-cut made.limits past c moment (take n piece) (drop n piece) grow) in
        let size = length-append (completed made.limits past (Piece c moment (take n piece))) (completed made.limits (Piece c moment (take n piece) ∷ past) (Piece c moment (drop n piece))) in
        let few = cut.few in
        omega (arith, whole, all, size, few);
    within = cut.within;
    near = cut.near;
    needs = let size = length-take-le n piece within in let some = going-here.0 in needs-by made.limits past c moment piece (omega (arith, size, some, within)) going-here.1;
    further = λ even.
        let less = cut.further even in
        let all = ap (λ (l : List ℕ). length l) front-same in
        let size = length-take-le n piece within in
        omega (arith, less, all, size, within);
    due = λ odd. subst (λ (e : Event). length written < length (output_cut made.limits (answer_told meaning.knows) (table_says meaning made) past e handled)) (sym same-short) (cut.due odd);
  }

  pub cut-within-stands : (server : Shown S) → Stands meaning made server (Lost c ∷ shortened made.limits past (Piece c moment (take n piece)) handled ∷ past) → Stands meaning made server (Lost c ∷ shortened made.limits past (Piece c moment piece) handled ∷ past)
  cut-within-stands server st = subst (λ (e : Event). Stands meaning made server (Lost c ∷ e ∷ past)) (sym same-short) st

-- Shortest fronts, one after the other.
module _ (limits : Limits) (past : List Event) (c moment : ℕ) (piece : List ℕ) (grow : HearingGrows meaning_in) where
  abbrev Counted : ℕ → ℕ
  Counted n = count_to limits past c moment piece n

  module _ (j : ℕ) where
    abbrev After : List Event
    After = Piece c moment (take j piece) ∷ past

    abbrev Further : ℕ → ℕ
    Further n = count_to limits After c moment (drop j piece) n

    pub count-more : (n : ℕ) → Counted (j + n) ≡ Counted j + Further n
    count-more n =
        ap (λ (l : List ℕ). length (completed limits past (Piece c moment l))) (take-add j n piece)
        ∙ ap (λ (l : List (Arrival Wanted)). length l) (completed-cut limits past c moment (take j piece) (take n (drop j piece)) grow)
        ∙ length-append (completed limits past (Piece c moment (take j piece))) (completed limits After (Piece c moment (take n (drop j piece))))

    pub shortest-more : (n : ℕ) → IsShortest limits past c moment piece j → IsShortest limits After c moment (drop j piece) n → IsShortest limits past c moment piece (j + n)
    shortest-more n first rest m less =
        let both = count-more n in
        (elim (nat_lt m j) as (λ (b : Bool). nat_lt m j ≡ b → Counted m < Counted (j + n)) [
          | true ↦ λ is. let few = first m (ltb-true m j is) in omega (arith, few, both)
          | false ↦ λ is.
              let beyond : j ≤ m = ltb-false m j is in
              let few = rest (m - j) (omega (arith, beyond, less)) in
              let all = count-more (m - j) in
              let at : Counted (j + (m - j)) ≡ Counted m = ap Counted (omega (arith, beyond)) in
              omega (arith, few, all, at, both)
        ]) refl

  pub up-brings : (now : ℕ) (l : Line) (xs : List ℕ) → 0 < length (arrivals_on limits (origin past c) now l xs) → (s : List ℕ) × (l ≡ Up s)
  up-brings now Gone xs some = absurd (omega (arith, some))
  up-brings now Shut xs some = absurd (omega (arith, some))
  up-brings now (Up s) xs some = (s, refl)

  abbrev octets_in : Event → List ℕ
  octets_in (Piece d m octets) = octets
  octets_in e = []

  -- what `feed` says of where it stops
  pub shortest-by : {S : Type 0} (meaning : Meaning S) (made : Made S) (n k : ℕ) → n ≤ length piece → 0 < k → k ≡ Counted n → shortened limits past (Piece c moment piece) k ≡ Piece c moment (take n piece) → IsShortest limits past c moment piece n
  shortest-by meaning made n k within some count shown m less =
      let now = max (clock past) moment in
      let up = up-brings now (line past c) (take n piece) (omega (arith, some, count)) in
      let on : (xs : List ℕ) → length (completed limits past (Piece c moment xs)) ≡ length (arrivals_in limits (origin past c) now up.0 xs) = λ xs. ap (λ (l : Line). length (arrivals_on limits (origin past c) now l xs)) up.1 in
      let front : front_in limits (origin past c) now up.0 piece k ≡ take n piece = sym (ap (λ (l : Line). front_on limits (origin past c) now l piece k) up.1) ∙ ap octets_in shown in
      let whole = ap (λ (l : List ℕ). length (completed limits past (Piece c moment l))) (take-append-drop n piece) in
      let all = ap (λ (l : List (Arrival Wanted)). length l) (completed-cut limits past c moment (take n piece) (drop n piece) grow) in
      let size = length-append (completed limits past (Piece c moment (take n piece))) (completed limits (Piece c moment (take n piece) ∷ past) (Piece c moment (drop n piece))) in
      let here = on piece in
      let few = front-least (rules_of meaning made.capacity made.share) (answer_told meaning.knows) limits (origin past c) now (table_of_past meaning made past) up.0 piece n k within (omega (arith, count, whole, all, size, here)) front m less in
      let there = on (take m piece) in
      omega (arith, few, there, count)
