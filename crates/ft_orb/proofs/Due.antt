-- A request that waits is one that acts.
use Rattle.std.proofs.Common.{◌≡◌, ◌+◌, Bool, true, false, cond, List, [], ◌∷◌, ◌++◌, length, Result, Ok, Err, is_ok, refl, sym, ap, ◌∙◌, arith, append_assoc, length-append}
use Rattle.std.proofs.lemmas.Bool.{false≢true}
use Rattle.std.proofs.lemmas.List.{append-nil, nil_from_length}
use Rattle.ft_log.specs.declared.system_exception.SystemName.{SystemName}
use Rattle.ft_orb.specs.ExactlyOnce.{Arrival, Rules, acts, performed_after, performed_of, state_after, state_after_call, state_of}
use Rattle.ft_orb.specs.Owners.{OwnerOf, owned_rules}
use Rattle.ft_orb.specs.Requests.{Call, Wanted}
use Rattle.ft_orb.proofs.Law.{AreCalls, grown, performed_after-calls, performed_after-push}

module _ {S C K O : Type 0} (rules : Rules S C K O) where
  performed-append : (performed xs ys : List (Arrival C)) → performed_after rules performed (xs ++ ys) ≡ performed_after rules (performed_after rules performed xs) ys
  performed-append performed [] ys = refl
  performed-append performed (x ∷ xs) ys = performed-append (grown rules performed x) xs ys

  -- what was performed stays performed
  performed-grows : (performed xs : List (Arrival C)) → (more : List (Arrival C)) × (performed_after rules performed xs ≡ performed ++ more)
  performed-grows performed [] = ([], sym (append-nil performed))
  performed-grows performed (x ∷ xs) =
      elim (acts rules performed x) as (λ (b : Bool). (more : List (Arrival C)) × (performed_after rules (cond b (performed ++ x ∷ []) performed) xs ≡ performed ++ more)) [
        | true ↦ let r = performed-grows (performed ++ x ∷ []) xs in (x ∷ r.0, r.1 ∙ append_assoc performed (x ∷ []) r.0)
        | false ↦ performed-grows performed xs
      ]

module _ {Outcome : Type 0} (owner : OwnerOf Outcome) where
  abbrev Theirs : Rules (List Call) Wanted Call Outcome
  Theirs = owned_rules owner

  one-more : (calls : List Call) (r : Result Call SystemName) → is_ok r ≡ true → length (state_after_call Theirs.apply calls r) ≡ length calls + 1
  one-more calls (Ok call) is = length-append calls (call ∷ [])
  one-more calls (Err refusal) is = absurd (false≢true is)

  -- each performed request is a call more
  pub counts : (calls : List Call) (ps : List (Arrival Wanted)) → AreCalls Theirs ps → length (state_after Theirs calls ps) ≡ length calls + length ps
  counts calls [] h = omega arith
  counts calls (p ∷ ps) h =
      let first = one-more calls (Theirs.asked p.content) h.0 in
      let rest = counts (state_after_call Theirs.apply calls (Theirs.asked p.content)) ps h.1 in
      omega (arith, first, rest)

  -- where the calls are as before, no request acted
  pub none-acted : (xs front : List (Arrival Wanted)) → state_of Theirs [] (xs ++ front) ≡ state_of Theirs [] xs → performed_of Theirs (xs ++ front) ≡ performed_of Theirs xs
  none-acted xs front same =
      let all = performed-append Theirs [] xs front in
      let more = performed-grows Theirs (performed_of Theirs xs) front in
      let is : performed_of Theirs (xs ++ front) ≡ performed_of Theirs xs ++ more.0 = all ∙ more.1 in
      let first = counts [] (performed_of Theirs xs) (performed_after-calls Theirs [] xs tt) in
      let last = counts [] (performed_of Theirs (xs ++ front)) (performed_after-calls Theirs [] (xs ++ front) tt) in
      let lengths = ap (λ (calls : List Call). length calls) same in
      let size = length-append (performed_of Theirs xs) more.0 in
      let both = ap (λ (ps : List (Arrival Wanted)). length ps) is in
      let none : more.0 ≡ [] = nil_from_length more.0 (omega (arith, first, last, lengths, size, both)) in
      is ∙ ap (λ (ps : List (Arrival Wanted)). performed_of Theirs xs ++ ps) none ∙ append-nil (performed_of Theirs xs)

  -- where there is a call more, the last request acts
  pub last-acts : (xs : List (Arrival Wanted)) (a : Arrival Wanted) (calls : List Call) (call : Call) → state_of Theirs [] xs ≡ calls → state_of Theirs [] (xs ++ a ∷ []) ≡ calls ++ call ∷ [] → acts Theirs (performed_of Theirs xs) a ≡ true
  last-acts xs a calls call before now =
      let grows : performed_of Theirs (xs ++ a ∷ []) ≡ grown Theirs (performed_of Theirs xs) a = performed_after-push Theirs [] xs a in
      (elim (acts Theirs (performed_of Theirs xs) a) as (λ (b : Bool). acts Theirs (performed_of Theirs xs) a ≡ b → b ≡ true) [
        | true ↦ λ is. refl
        | false ↦ λ is.
            let idle : performed_of Theirs (xs ++ a ∷ []) ≡ performed_of Theirs xs = grows ∙ ap (λ (b : Bool). cond b (performed_of Theirs xs ++ a ∷ []) (performed_of Theirs xs)) is in
            let same : calls ++ call ∷ [] ≡ calls = sym now ∙ ap (λ (ps : List (Arrival Wanted)). state_after Theirs [] ps) idle ∙ before in
            let lengths = ap (λ (l : List Call). length l) same in
            let size = length-append calls (call ∷ []) in
            absurd (omega (arith, lengths, size))
      ]) refl
