-- A request that waits is a call, and waits by one question.
use Rattle.std.proofs.Common.{◌≡◌, ℕ, List, [], ◌∷◌, ◌++◌, length, take, sym, ap, ◌∙◌, refl, arith, length-append}
use Rattle.std.proofs.Math.Seq.{take-append_seam}
use Rattle.giop_link.specs.Hearing.{Question}
use Rattle.ft_objects.specs.Catalogues.{Offer}
use Rattle.ft_orb.specs.declared.engine.Engine.{Engine}
use Rattle.ft_orb.specs.Engines.{AsksOf, Awaited}
use Rattle.ft_orb.specs.ExactlyOnce.{Arrival, Rules}
use Rattle.ft_orb.specs.History.{Event, Piece, completed}
use Rattle.ft_orb.specs.Owners.{OwnerOf, owned_rules, owned_table}
use Rattle.ft_orb.specs.Requests.{Call, Wanted, asking, locating}
use Rattle.ft_orb.specs.Table.{Table, table_after, table_step}
use Rattle.ft_orb.specs.Waits.{call_of}
use Rattle.ft_orb.proofs.Folded.{table_after-append}
use Rattle.ft_orb.proofs.Owning.{brings-of}

abbrev question-in : Question → Wanted → Question
question-in d (asking c q) = q
question-in d (locating c version id to) = d

-- the parts of a list with a last one
abbrev last-of : Arrival Wanted → List (Arrival Wanted) → Arrival Wanted
last-of d [] = d
last-of d (x ∷ xs) = last-of x xs

last-push : (d : Arrival Wanted) (xs : List (Arrival Wanted)) (x : Arrival Wanted) → last-of d (xs ++ x ∷ []) ≡ x
last-push d [] x = refl
last-push d (y ∷ xs) x = last-push y xs x

same-last : (xs ys : List (Arrival Wanted)) (x y : Arrival Wanted) → xs ++ x ∷ [] ≡ ys ++ y ∷ [] → x ≡ y
same-last xs ys x y lists = sym (last-push x xs x) ∙ ap (last-of x) lists ∙ last-push x ys y

pub same-front : (xs ys : List (Arrival Wanted)) (x y : Arrival Wanted) → xs ++ x ∷ [] ≡ ys ++ y ∷ [] → xs ≡ ys
same-front xs ys x y lists =
    let one = length-append xs (x ∷ []) in
    let two = length-append ys (y ∷ []) in
    let all = ap (λ (l : List (Arrival Wanted)). length l) lists in
    let size : length xs ≡ length ys = omega (arith, one, two, all) in
    sym (take-append_seam xs (x ∷ [])) ∙ ap (λ (n : ℕ). take n (xs ++ x ∷ [])) size ∙ ap (λ (l : List (Arrival Wanted)). take (length ys) l) lists ∙ take-append_seam ys (y ∷ [])

module _ {C Outcome : Type 0} (offers : C → Offer) (owner : OwnerOf Outcome) where
  -- one request waits by one question
  pub one-question : (calls : List Call) (engine new : Engine C) (past : List Event) (moment : ℕ) (octets written : List ℕ) (w : Awaited) (a : AsksOf offers owner calls engine past moment octets written w) (b : AsksOf offers owner calls new past moment octets written w) → b.question ≡ a.question
  one-question calls engine new past moment octets written w a b =
      let ends = same-last b.front a.front b.last a.last (sym b.completes ∙ a.completes) in
      ap (question-in b.question) (sym b.content ∙ ap (λ (x : Arrival Wanted). x.content) ends ∙ a.content)

  abbrev Theirs : Rules (List Call) Wanted Call Outcome
  Theirs = owned_rules owner

  -- those before it in its octets are no calls, and it is one
  pub asks-acts : (calls : List Call) (engine : Engine C) (past : List Event) (moment : ℕ) (octets written : List ℕ) (w : Awaited) (a : AsksOf offers owner calls engine past moment octets written w)
      → ((table_after Theirs (owned_table owner past) a.front).state ≡ calls) × ((table_step Theirs (table_after Theirs (owned_table owner past) a.front) a.last).0.state ≡ calls ++ w.call ∷ [])
  asks-acts calls engine past moment octets written w a =
      let b = brings-of offers owner calls engine past moment octets written a.pending a.keeps in
      let at : a.pending.connection ≡ w.connection = ap (λ (v : Awaited). v.connection) a.is in
      let call : call_of a.pending.waiting ≡ w.call = ap (λ (v : Awaited). v.call) a.is in
      let lists : b.front ++ b.last ∷ [] ≡ a.front ++ a.last ∷ [] = sym b.completes ∙ ap (λ (k : ℕ). completed owner.limits past (Piece k moment octets)) at ∙ a.completes in
      let fronts = same-front b.front a.front b.last a.last lists in
      let here = owned_table owner past in
      let step = table_after-append Theirs here a.front (a.last ∷ []) in (
        ap (λ (l : List (Arrival Wanted)). (table_after Theirs here l).state) (sym fronts) ∙ b.before,
        ap (λ (t : Table (List Call) Outcome). t.state) (sym step) ∙ ap (λ (l : List (Arrival Wanted)). (table_after Theirs here l).state) (sym lists) ∙ b.then ∙ ap (λ (x : Call). calls ++ x ∷ []) call,
      )
