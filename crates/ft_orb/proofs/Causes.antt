-- What a wire did while a connection was served, and how that ended.
use Rattle.std.proofs.Common.{◌≡◌, ◌⊎◌, ℕ, ◌+◌, ◌<◌, suc, List, [], ◌∷◌, ◌++◌, map, Option, None, Some, inl, inr, refl, sym, ap, ◌∙◌, append_assoc, arith}
use Rattle.std.proofs.lemmas.List.{append-nil}
use Rattle.ft_orb.specs.declared.wire.StreamEnd.{StreamEnd}
use Rattle.ft_orb.specs.declared.wire.StreamEnd.TheVariants.{LinkClosed, Memory, PeerEnded, ReadFault, ReadsUsed, WriteFault}
use Rattle.ft_orb.specs.Sessions.{GrowsBy, HasParted, HasRead, IsCut, TookAll, TookFront}
use Rattle.ft_orb.specs.Wires.{Act, AreCarried, DidSo, EndAs, EndsIn, Gave, GaveNone, HasCause, IsCarried, ReadFailed, Took, TookNone, WriteFailed, reads_in}
use Rattle.ft_orb.proofs.Streams.{all-append, grows-none, grows-then}

-- What is known of a wire.

pub did : (is : List Act → Type 0) (acts : List Act) (old new : Option (List Act)) → is acts → GrowsBy acts old new → DidSo is old new
did is acts old new so grows now at = let g = grows now at in (g.0, g.1, (acts, g.2, so))

pub did-then : (one two all : List Act → Type 0) → ((xs ys : List Act) → one xs → two ys → all (xs ++ ys)) → (old mid new : Option (List Act)) → DidSo one old mid → DidSo two mid new → DidSo all old new
did-then one two all join old mid new x y now at =
    let q = y now at in
    let p = x q.0 q.1 in
    (p.0, p.1, (p.2.0 ++ q.2.0, q.2.1 ∙ ap (λ (l : List Act). l ++ q.2.0) p.2.1 ∙ append_assoc p.0 p.2.0 q.2.0, join p.2.0 q.2.0 p.2.2 q.2.2))

pub did-as : (one all : List Act → Type 0) → ((acts : List Act) → one acts → all acts) → (old new : Option (List Act)) → DidSo one old new → DidSo all old new
did-as one all so old new x now at = let p = x now at in (p.0, p.1, (p.2.0, p.2.1, so p.2.0 p.2.2))

-- Its reads.

reads-joined : (xs ys : List Act) → reads_in (xs ++ ys) ≡ reads_in xs + reads_in ys
reads-joined [] ys = omega arith
reads-joined (Gave octets ∷ xs) ys = let rest = reads-joined xs ys in omega (arith, rest)
reads-joined (GaveNone ∷ xs) ys = let rest = reads-joined xs ys in omega (arith, rest)
reads-joined (ReadFailed ∷ xs) ys = let rest = reads-joined xs ys in omega (arith, rest)
reads-joined (Took octets ∷ xs) ys = reads-joined xs ys
reads-joined (TookNone ∷ xs) ys = reads-joined xs ys
reads-joined (WriteFailed ∷ xs) ys = reads-joined xs ys

took-reads : (writes : List (List ℕ)) → reads_in (map Took writes) ≡ 0
took-reads [] = refl
took-reads (w ∷ writes) = took-reads writes

took-carried : (writes : List (List ℕ)) → AreCarried (map Took writes)
took-carried [] = tt
took-carried (w ∷ writes) = (tt, took-carried writes)

fault-reads : (fault : Act) → (fault ≡ TookNone) ⊎ (fault ≡ WriteFailed) → reads_in (fault ∷ []) ≡ 0
fault-reads fault (inl is) = ap (λ (a : Act). reads_in (a ∷ [])) is
fault-reads fault (inr is) = ap (λ (a : Act). reads_in (a ∷ [])) is

fault-ends : (used : Type 0) (fault : Act) → (fault ≡ TookNone) ⊎ (fault ≡ WriteFailed) → EndsIn used WriteFault (fault ∷ [])
fault-ends used fault (inl is) = inl (ap (λ (a : Act). a ∷ []) is)
fault-ends used fault (inr is) = inr (ap (λ (a : Act). a ∷ []) is)

-- How it ends.

ends-more : (used more : Type 0) → (used → more) → (end : StreamEnd) (last : List Act) → EndsIn used end last → EndsIn more end last
ends-more used more so PeerEnded last e = e
ends-more used more so LinkClosed last e = e
ends-more used more so ReadsUsed last e = (e.0, so e.1)
ends-more used more so ReadFault last e = e
ends-more used more so WriteFault last e = e
ends-more used more so Memory last (inl e) = inl e
ends-more used more so Memory last (inr e) = inr (e.0, so e.1)

end-more : (used more : Type 0) → (used → more) → (end : StreamEnd) (acts : List Act) → EndAs used end acts → EndAs more end acts
end-more used more so end acts e = (e.0, e.1, e.2, e.3, ends-more used more so end e.1 e.4)

end-behind : (used : Type 0) (end : StreamEnd) (xs ys : List Act) → AreCarried xs → EndAs used end ys → EndAs used end (xs ++ ys)
end-behind used end xs ys carried e = (xs ++ e.0, e.1, ap (λ (l : List Act). xs ++ l) e.2 ∙ sym (append_assoc xs e.0 e.1), all-append IsCarried xs e.0 carried e.3, e.4)

-- The reads of a connection.

pub read-no-more : (wire : Option (List Act)) → DidSo (HasRead 0 None) wire wire
read-no-more wire = did (HasRead 0 None) [] wire wire (tt, refl) (grows-none wire)

pub read-more : (k : ℕ) (xs ys : List Act) → HasRead k None xs → HasRead 1 None ys → HasRead (k + 1) None (xs ++ ys)
read-more k xs ys x y = (all-append IsCarried xs ys x.0 y.0, let all = reads-joined xs ys in let n = x.1 in let m = y.1 in omega (arith, all, n, m))

pub read-last : (k reads : ℕ) (end : StreamEnd) → k < reads → (xs ys : List Act) → HasRead k None xs → HasRead 1 (Some end) ys → HasRead reads (Some end) (xs ++ ys)
read-last k reads end less xs ys x y = (let all = reads-joined xs ys in let n = x.1 in let m = y.0 in omega (arith, all, n, m, less), end-behind ⊥ end xs ys x.0 y.1)

pub read-cause : (reads : ℕ) (end : StreamEnd) (acts : List Act) → HasRead reads (Some end) acts → HasCause reads end acts
read-cause reads end acts x = (x.0, end-more ⊥ (reads_in acts ≡ reads) (λ no. absurd no) end acts x.1)

pub parted-cause : (reads : ℕ) (end : StreamEnd) (xs ys : List Act) → HasRead reads None xs → HasParted end ys → HasCause reads end (xs ++ ys)
parted-cause reads end xs ys x y =
    let all : reads_in (xs ++ ys) ≡ reads = (let joined = reads-joined xs ys in let n = x.1 in let m = y.0 in omega (arith, joined, n, m)) in
    (omega (arith, all), end-more (Unit {0}) (reads_in (xs ++ ys) ≡ reads) (λ u. all) end (xs ++ ys) (end-behind (Unit {0}) end xs ys x.0 y.1))

-- One read.

pub read-ended : (old new : Option (List Act)) → GrowsBy (GaveNone ∷ []) old new → DidSo (HasRead 1 (Some PeerEnded)) old new
read-ended old new grows = did (HasRead 1 (Some PeerEnded)) (GaveNone ∷ []) old new (omega arith, ([], GaveNone ∷ [], refl, tt, refl)) grows

pub read-faulty : (old new : Option (List Act)) → GrowsBy (ReadFailed ∷ []) old new → DidSo (HasRead 1 (Some ReadFault)) old new
read-faulty old new grows = did (HasRead 1 (Some ReadFault)) (ReadFailed ∷ []) old new (omega arith, ([], ReadFailed ∷ [], refl, tt, refl)) grows

-- .. of what was not served to its end
cut-ends : (octets : List ℕ) (end : StreamEnd) → IsCut end → EndAs ⊥ end (Gave octets ∷ [])
cut-ends octets PeerEnded (inl is) = absurd cc
cut-ends octets PeerEnded (inr is) = absurd cc
cut-ends octets LinkClosed cut = (Gave octets ∷ [], [], refl, (tt, tt), refl)
cut-ends octets ReadsUsed (inl is) = absurd cc
cut-ends octets ReadsUsed (inr is) = absurd cc
cut-ends octets ReadFault (inl is) = absurd cc
cut-ends octets ReadFault (inr is) = absurd cc
cut-ends octets WriteFault (inl is) = absurd cc
cut-ends octets WriteFault (inr is) = absurd cc
cut-ends octets Memory cut = ([], Gave octets ∷ [], refl, tt, inl (octets, refl))

pub read-cut : (octets : List ℕ) (end : StreamEnd) → IsCut end → (old new : Option (List Act)) → GrowsBy (Gave octets ∷ []) old new → DidSo (HasRead 1 (Some end)) old new
read-cut octets end cut old new grows = did (HasRead 1 (Some end)) (Gave octets ∷ []) old new (omega arith, cut-ends octets end cut) grows

-- .. and its answers were taken
module _ (octets out : List ℕ) (old mid new : Option (List Act)) (read : GrowsBy (Gave octets ∷ []) old mid) where
  all-taken : (is : List Act → Type 0) → ((writes : List (List ℕ)) → is (Gave octets ∷ map Took writes)) → TookAll out mid new → DidSo is old new
  all-taken is so took =
      let grows = grows-then (Gave octets ∷ []) took.0 (Gave octets ∷ map Took took.1.0) old mid new read took.2 (ap (λ (l : List Act). Gave octets ∷ l) took.1.2) in
      did is (Gave octets ∷ map Took took.1.0) old new (so took.1.0) grows

  pub read-on : TookAll out mid new → DidSo (HasRead 1 None) old new
  read-on took = all-taken (HasRead 1 None) (λ writes. ((tt, took-carried writes), ap (λ (n : ℕ). suc n) (took-reads writes))) took

  pub read-closed : TookAll out mid new → DidSo (HasRead 1 (Some LinkClosed)) old new
  read-closed took =
      all-taken (HasRead 1 (Some LinkClosed)) (λ writes. (let n = took-reads writes in omega (arith, n), (Gave octets ∷ map Took writes, [], sym (append-nil (Gave octets ∷ map Took writes)), (tt, took-carried writes), refl))) took

  pub read-unanswered : TookFront out mid new → DidSo (HasRead 1 (Some WriteFault)) old new
  read-unanswered took =
      let writes = took.1.0 in
      let fault = took.1.1 in
      let is = took.1.2.3 in
      let grows = grows-then (Gave octets ∷ []) took.0 (Gave octets ∷ (map Took writes ++ fault ∷ [])) old mid new read took.2 (ap (λ (l : List Act). Gave octets ∷ l) took.1.3) in
      let all : reads_in (map Took writes ++ fault ∷ []) ≡ 0 = reads-joined (map Took writes) (fault ∷ []) ∙ (λ i. took-reads writes i + fault-reads fault is i) in
      did (HasRead 1 (Some WriteFault)) (Gave octets ∷ (map Took writes ++ fault ∷ [])) old new
      (omega (arith, all), (Gave octets ∷ map Took writes, fault ∷ [], refl, (tt, took-carried writes), fault-ends ⊥ fault is)) grows

-- After the reads.

cut-parts : (end : StreamEnd) → IsCut end → EndAs (Unit {0}) end []
cut-parts PeerEnded (inl is) = absurd cc
cut-parts PeerEnded (inr is) = absurd cc
cut-parts LinkClosed cut = ([], [], refl, tt, refl)
cut-parts ReadsUsed (inl is) = absurd cc
cut-parts ReadsUsed (inr is) = absurd cc
cut-parts ReadFault (inl is) = absurd cc
cut-parts ReadFault (inr is) = absurd cc
cut-parts WriteFault (inl is) = absurd cc
cut-parts WriteFault (inr is) = absurd cc
cut-parts Memory cut = ([], [], refl, tt, inr (refl, tt))

pub parted-cut : (end : StreamEnd) → IsCut end → (wire : Option (List Act)) → DidSo (HasParted end) wire wire
parted-cut end cut wire = did (HasParted end) [] wire wire (refl, cut-parts end cut) (grows-none wire)

pub parted-all : (out : List ℕ) (old new : Option (List Act)) → TookAll out old new → DidSo (HasParted ReadsUsed) old new
parted-all out old new took =
    let writes = took.1.0 in
    let grows = grows-then [] took.0 (map Took writes) old old new (grows-none old) took.2 took.1.2 in
    did (HasParted ReadsUsed) (map Took writes) old new (took-reads writes, (map Took writes, [], sym (append-nil (map Took writes)), took-carried writes, (refl, tt))) grows

pub parted-front : (out : List ℕ) (old new : Option (List Act)) → TookFront out old new → DidSo (HasParted WriteFault) old new
parted-front out old new took =
    let writes = took.1.0 in
    let fault = took.1.1 in
    let is = took.1.2.3 in
    let grows = grows-then [] took.0 (map Took writes ++ fault ∷ []) old old new (grows-none old) took.2 took.1.3 in
    let all : reads_in (map Took writes ++ fault ∷ []) ≡ 0 = reads-joined (map Took writes) (fault ∷ []) ∙ (λ i. took-reads writes i + fault-reads fault is i) in
    did (HasParted WriteFault) (map Took writes ++ fault ∷ []) old new (all, (map Took writes, fault ∷ [], refl, took-carried writes, fault-ends (Unit {0}) fault is)) grows
