-- The octets of a piece that were served so far, with whose answers fewer than so many are due; and a piece that stops once they are.
use Rattle.std.proofs.Common.{◌≡◌, ◌↔◌, IsTrue, ℕ, ◌+◌, ◌≤◌, ◌<◌, nat_le, Bool, true, false, List, [], ◌++◌, length, take, drop, refl, sym, ap, subst, ◌∙◌, arith, length-append}
use Rattle.std.proofs.Math.Seq.{take-length}
use Rattle.std.proofs.lemmas.Bool.{leb-false, leb-true}
use Rattle.std.proofs.lemmas.List.{append-nil, take_all, take-append-drop, take-append-le}
use Rattle.giop_frames.specs.declared.limits.Limits.{Limits}
use Rattle.giop_link.specs.Hearing.{heard, meaning_in}
use Rattle.giop_link.specs.Laws.{HearingGrows}
use Rattle.giop_link.specs.Linking.{IsQuiet, Linked}
use Rattle.ft_orb.specs.ExactlyOnce.{Arrival, Rules}
use Rattle.ft_orb.specs.History.{arrivals_in}
use Rattle.ft_orb.specs.Pauses.{BringsBy}
use Rattle.ft_orb.specs.Private.{IsEnd, Served}
use Rattle.ft_orb.specs.Requests.{Call, Origin, Wanted}
use Rattle.ft_orb.specs.Table.{Table, table_answers}
use Rattle.ft_orb.specs.Tellings.{Teller, rendered}
use Rattle.ft_orb.proofs.Going.{Stood, fewer-bring, front-exact, further, served-all}
use Rattle.ft_orb.proofs.Hearing.{arrivals_in-grows, arrivals_in-message}

-- where not enough is due, the output has fewer octets
pub not-enough : (before handled due most : ℕ) (b : Bool) → IsTrue b ↔ ((before < handled) × (most ≤ due)) → b ≡ false → before < handled → due < most
not-enough before handled due most b by is more =
    (elim (nat_le most due) as (λ (y : Bool). nat_le most due ≡ y → due < most) [
      | true ↦ λ at. absurd (let yes : b ≡ true = by.1 (more, leb-true most due at) in cc)
      | false ↦ λ at. leb-false most due at
    ]) refl

module _ {S Outcome : Type 0} (rules : Rules S Wanted Call Outcome) (tell : Teller Outcome) (limits : Limits) (c : Origin) (now : ℕ) (t : Table S Outcome) (s start : List ℕ) (most : ℕ) where
  abbrev Here : List ℕ → List (Arrival Wanted)
  Here p = arrivals_in limits c now s p

  -- how many octets are due with the answers to arrivals
  abbrev size : List (Arrival Wanted) → ℕ
  size xs = length start + length (rendered tell xs (table_answers rules t xs))

  -- .. to the first of these, one at least and fewer than n
  abbrev pub Below : List (Arrival Wanted) → ℕ → Type 0
  Below xs n = (k : ℕ) → 0 < k → k < n → size (take k xs) < most

  below-more : (xs more : List (Arrival Wanted)) (n : ℕ) → n ≤ length xs + 1 → Below xs n → Below (xs ++ more) n
  below-more xs more n within b k some few =
      subst (λ (l : List (Arrival Wanted)). size l < most) (sym (take-append-le k xs more (omega (arith, few, within)))) (b k some few)

  below-on : HearingGrows meaning_in → (p q : List ℕ) (n : ℕ) → n ≤ length (Here p) + 1 → Below (Here p) n → Below (Here (p ++ q)) n
  below-on grow p q n within b =
      let more = arrivals_in-grows limits c now grow s p q in
      subst (λ (l : List (Arrival Wanted)). Below l n) (sym more.1) (below-more (Here p) more.0 n within b)

  -- one more
  below-one : (xs : List (Arrival Wanted)) (n m : ℕ) → m ≡ length xs → m ≤ n + 1 → Below xs (n + 1) → (n < m → size xs < most) → Below xs (m + 1)
  below-one xs n m count near b new k some few =
      (elim (nat_le k n) as (λ (y : Bool). nat_le k n ≡ y → size (take k xs) < most) [
        | true ↦ λ is. let low : k ≤ n = leb-true k n is in b k some (omega (arith, low))
        | false ↦ λ is.
            let high : n < k = leb-false k n is in
            let last : k ≡ length xs = omega (arith, high, few, near, count) in
            let all : take k xs ≡ xs = ap (λ (i : ℕ). take i xs) last ∙ take-length xs in
            subst (λ (l : List (Arrival Wanted)). size l < most) (sym all) (new (omega (arith, high, few, near)))
      ]) refl

  abbrev To : List ℕ → ℕ → Linked → Table S Outcome → List ℕ → ℕ → Type 0
  To piece i link held out n = Stood rules tell limits c now t s start piece i link held out n

  to-size : (piece : List ℕ) (i : ℕ) (link : Linked) (held : Table S Outcome) (out : List ℕ) (n : ℕ) → To piece i link held out n → length out ≡ size (Here (take i piece))
  to-size piece i link held out n w = ap (λ (l : List ℕ). length l) w.1 ∙ length-append start w.0 ∙ ap (λ (l : List ℕ). length start + length l) w.2.out

  -- a piece of which none was served
  pub below-start : (xs : List (Arrival Wanted)) → Below xs 1
  below-start xs k some few = absurd (omega (arith, some, few))

  -- octets that bring nothing which is answered
  pub below-stop : HearingGrows meaning_in → (piece left : List ℕ) (i j n : ℕ) (link : Linked) (held : Table S Outcome) (out : List ℕ) → left ≡ drop i piece → To piece i link held out n → Below (Here (take i piece)) (n + 1)
      → Below (Here (take (i + j) piece)) (n + 1)
  below-stop grow piece left i j n link held out back w b =
      let count = w.2.count in
      subst (λ (l : List ℕ). Below (Here l) (n + 1)) (further rules tell limits c now t s piece left i j back) (below-on grow (take i piece) (take j left) (n + 1) (omega (arith, count)) b)

  -- octets that may bring one answer, with which not enough is due
  pub below-step : HearingGrows meaning_in → (piece left : List ℕ) (i j n m : ℕ) (link later : Linked) (held new : Table S Outcome) (out grown : List ℕ) → left ≡ drop i piece → To piece i link held out n → To piece (i + j) later new grown m → m ≤ n + 1
      → (n < m → length grown < most) → Below (Here (take i piece)) (n + 1) → Below (Here (take (i + j) piece)) (m + 1)
  below-step grow piece left i j n m link later held new out grown back w x near few b =
      below-one (Here (take (i + j) piece)) n m x.2.count near (below-stop grow piece left i j n link held out back w b) (λ more. let less = few more in let is = to-size piece (i + j) later new grown m x in omega (arith, less, is))

  -- .. with which enough is due
  pub below-due : HearingGrows meaning_in → (piece left : List ℕ) (i j n : ℕ) (link : Linked) (held : Table S Outcome) (out : List ℕ) (m : ℕ) → left ≡ drop i piece → To piece i link held out n → m ≤ n + 1 → Below (Here (take i piece)) (n + 1)
      → Below (Here (take (i + j) piece)) m
  below-due grow piece left i j n link held out m back w near b k some few = below-stop grow piece left i j n link held out back w b k some (omega (arith, few, near))

  -- all octets were taken
  pub below-whole : (piece : List ℕ) (i n : ℕ) (link : Linked) (held : Table S Outcome) (out : List ℕ) → length piece ≤ i → To piece i link held out n → Below (Here (take i piece)) (n + 1) → Below (Here piece) (length (Here piece) + 1)
  below-whole piece i n link held out all w b =
      subst (λ (l : List ℕ). Below (Here l) (length (Here l) + 1)) (take_all i piece all) (subst (λ (m : ℕ). Below (Here (take i piece)) (m + 1)) w.2.count b)

  -- the stream ends in what is left
  pub below-end : HearingGrows meaning_in → (piece left : List ℕ) (i n : ℕ) (link : Linked) (held : Table S Outcome) (out : List ℕ) → left ≡ drop i piece → To piece i link held out n → IsEnd limits (s ++ take i piece) left → Below (Here (take i piece)) (n + 1)
      → Below (Here piece) (length (Here piece) + 1)
  below-end grow piece left i n link held out back w e b =
      let whole : take i piece ++ left ≡ piece = ap (λ (l : List ℕ). take i piece ++ l) back ∙ take-append-drop i piece in
      let same : Here (take i piece) ≡ Here (take i piece ++ left) =
      sym (arrivals_in-message limits c now grow s (take i piece) left [] (e.ends.same ∙ sym (append-nil (heard limits (s ++ take i piece)))) ∙ append-nil (Here (take i piece))) in
      subst (λ (l : List (Arrival Wanted)). Below l (length l + 1)) (same ∙ ap (λ (l : List ℕ). Here l) whole) (subst (λ (m : ℕ). Below (Here (take i piece)) (m + 1)) w.2.count b)

  -- what follows these octets was not served
  pub below-left : HearingGrows meaning_in → (piece : List ℕ) (i n : ℕ) → n ≤ length (Here (take i piece)) → Below (Here (take i piece)) (n + 1) → Below (Here piece) (n + 1)
  below-left grow piece i n few b = subst (λ (l : List ℕ). Below (Here l) (n + 1)) (take-append-drop i piece) (below-on grow (take i piece) (drop i piece) (n + 1) (omega (arith, few)) b)

  -- .. where an allocation failed
  pub below-cut : HearingGrows meaning_in → (piece : List ℕ) (i n : ℕ) (link : Linked) (held : Table S Outcome) (out : List ℕ) → To piece i link held out n → Below (Here (take i piece)) (n + 1) → Below (Here piece) (n + 1)
  below-cut grow piece i n link held out w b =
      let count = w.2.count in
      below-left grow piece i n (omega (arith, count)) b

  -- octets that bring one answer, with which enough is due
  pub stood-due : HearingGrows meaning_in → (piece left : List ℕ) (i j n m : ℕ) (link later : Linked) (held new : Table S Outcome) (out grown : List ℕ) → left ≡ drop i piece → To piece i link held out n → To piece (i + j) later new grown m
      → ((k : ℕ) → k < j → IsQuiet limits (s ++ take i piece) (take k left)) → i + j ≤ length piece → n < m
      → (written : List ℕ) × (grown ≡ start ++ written) × Served rules tell limits c now t s (take (i + j) piece) later new written × BringsBy limits c now s piece (take (i + j) piece) m
  stood-due grow piece left i j n m link later held new out grown back w x quiet within more =
      let before = w.2.count in
      let count = x.2.count in (
        x.0,
        x.1,
        served-all rules tell limits c now t s (take (i + j) piece) later new x.0 m x.2,
        record {
          count = count;
          some = omega (arith, more);
          short = front-exact rules tell limits c now t s piece (i + j) m within (omega (arith, count)) (λ r less.
              let few = fewer-bring rules tell limits c now t s grow piece left i j (λ k. further rules tell limits c now t s piece left i k back) quiet r less in
              omega (arith, few, before, more));
        },
      )
