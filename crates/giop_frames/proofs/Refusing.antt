-- The first frame or header that is refused is the fault of a stream.
use Rattle.std.proofs.Common.{◌≡◌, ℕ, ◌⊎◌, List, [], ◌∷◌, ◌++◌, length, take, drop, Option, Some, Result, Ok, Err, refl, sym, ap, subst, ◌∙◌, inl, inr, arith, append_assoc, length-append}
use Rattle.std.proofs.lemmas.List.{take-append-le, take_all}
use Rattle.giop_core.specs.declared.header.Header.{Header}
use Rattle.giop_core.specs.Headers.{header_of}
use Rattle.giop_frames.specs.declared.fault.StreamFault.{StreamFault}
use Rattle.giop_frames.specs.declared.limits.Limits.{Limits}
use Rattle.giop_frames.specs.Fragments.{Bad, Done, Quiet, judged}
use Rattle.giop_frames.specs.Frames.{Frame, Refused, Split, Waiting, Whole, after_frame, frame_size, judged_header, sight, split, split_from, under_header}
use Rattle.giop_frames.specs.Laws.{FaultsAreRefusals, RefusalsAreFaults, RefusedAreTheOnes, StreamsAreRefused}
use Rattle.giop_frames.specs.Refusing.{AreFine, IsFine, RefusesFrame, RefusesHeader, after}
use Rattle.giop_frames.specs.Splitting.{IsFrame, Splits}
use Rattle.giop_frames.specs.Streams.{Reading, fault_of, reading_from}
use Rattle.giop_frames.proofs.Deciding.{test_lt}
use Rattle.giop_frames.proofs.Readings.{step-bad, step-done, step-quiet}
use Rattle.giop_frames.proofs.Sights.{nothing-waits, sight-long, sight-short}
use Rattle.giop_frames.proofs.Splits.{split-refused, split-whole, step-refused, step-waiting, step-whole}
use Rattle.giop_frames.proofs.Splitting.{exact-next, frame-sight, sight-frame}

-- what is refused at its header has twelve octets, where one fewer wait

refused-under : (b : List ℕ) (j : Result Header StreamFault) (e : StreamFault) → under_header b j ≡ Refused e → j ≡ Err e
refused-under b (Err d) e w = cc
refused-under b (Ok h) e w =
    elim (test_lt (length b) (frame_size h)) [
      | inl t ↦ absurd (let k : under_header b (Ok h) ≡ Waiting = rw t.0 refl in cc)
      | inr t ↦ absurd (let k : under_header b (Ok h) ≡ Whole (record { header = h; octets = drop 12 b }) = rw t.0 refl in cc)
    ]

refused-head : (limits : Limits) (w : List ℕ) (x : ℕ) (e : StreamFault) → sight limits w ≡ Waiting → sight limits (w ++ x ∷ []) ≡ Refused e
    → (length (w ++ x ∷ []) ≡ 12) × (judged_header limits (header_of (w ++ x ∷ [])) ≡ Err e)
refused-head limits w x e waits refused =
    let b = w ++ x ∷ [] in
    elim (test_lt (length b) 12) [
      | inl t ↦ absurd (let k = sight-short limits b t.1 in cc)
      | inr t ↦
          let judged = refused-under b (judged_header limits (header_of (take 12 b))) e (sym (sight-long limits b t.1) ∙ refused) in
          elim (test_lt (length w) 12) [
            | inl u ↦
                let twelve : length b ≡ 12 = omega (arith, t.1, u.1, length-append w (x ∷ [])) in
                (twelve, ap (λ (y : List ℕ). judged_header limits (header_of y)) (sym (take_all 12 b (omega (arith, twelve)))) ∙ judged)
            | inr u ↦
                let same : take 12 b ≡ take 12 w = take-append-le 12 w (x ∷ []) u.1 in
                let before : sight limits w ≡ Refused e = sight-long limits w u.1 ∙ ap (λ (y : List ℕ). under_header w (judged_header limits (header_of y))) (sym same) ∙ ap (under_header w) judged in
                absurd (let k : Waiting ≡ Refused e = sym waits ∙ before in cc)
          ]
    ]

-- a stream as its frames and what comes after them

abbrev Comes : Limits → List ℕ → Split → Type 0
Comes limits s t = (front : List ℕ) × (later : List ℕ) × (s ≡ front ++ later) × Splits limits front t.frames [] × ((e : StreamFault) → t.fault ≡ Some e → RefusesHeader limits later e)

comes-from : (limits : Limits) (w s : List ℕ) → sight limits w ≡ Waiting → Comes limits (w ++ s) (split_from limits w s)
comes-from limits w [] waits = ([], w ++ [], refl, refl, λ e k. absurd cc)
comes-from limits w (x ∷ s) waits =
    let push : w ++ x ∷ [] ++ s ≡ w ++ x ∷ s = append_assoc w (x ∷ []) s in
    (elim (sight limits (w ++ x ∷ [])) as (λ v. sight limits (w ++ x ∷ []) ≡ v → Comes limits (w ++ x ∷ s) (split_from limits w (x ∷ s))) [
      | Waiting ↦ λ e. subst (Comes limits (w ++ x ∷ s)) (sym (step-waiting limits w x s e)) (subst (λ (y : List ℕ). Comes limits y (split_from limits (w ++ x ∷ []) s)) push (comes-from limits (w ++ x ∷ []) s e))
      | Whole f ↦ λ e.
          let b = w ++ x ∷ [] in
          let rest = comes-from limits [] s (nothing-waits limits) in
          let parts : w ++ x ∷ s ≡ (b ++ rest.0) ++ rest.1 = sym push ∙ ap (λ (y : List ℕ). b ++ y) rest.2 ∙ sym (append_assoc b rest.0 rest.1) in
          let all : Comes limits (w ++ x ∷ s) (after_frame f (split_from limits [] s)) = (b ++ rest.0, rest.1, parts, (b, rest.0, refl, sight-frame limits b f e (exact-next limits w x f waits e), rest.3), rest.4) in
          subst (Comes limits (w ++ x ∷ s)) (sym (step-whole limits w x s f e)) all
      | Refused d ↦ λ e.
          let b = w ++ x ∷ [] in
          let head = refused-head limits w x d waits e in
          let header : (k : StreamFault) → Some d ≡ Some k → RefusesHeader limits (b ++ s) k = λ k is. record { head = b; later = s; parts = refl; twelve = head.0; judged = head.1 ∙ (let same : d ≡ k = cc in ap (λ (z : StreamFault). Err z) same) } in
          let all : Comes limits (w ++ x ∷ s) (record { frames = []; rest = b; fault = Some d }) = ([], b ++ s, sym push, refl, header) in
          subst (Comes limits (w ++ x ∷ s)) (sym (step-refused limits w x s d e)) all
    ]) refl

pub streams_refused : StreamsAreRefused
unfolding split
streams_refused limits s e n = let c = comes-from limits [] s (nothing-waits limits) in (c.0, c.1, c.2, c.3, c.4 e n)

refused-seen : (limits : Limits) (octets : List ℕ) (e : StreamFault) → (h : RefusesHeader limits octets e) → split_from limits [] octets ≡ record { frames = []; rest = h.head; fault = Some e }
refused-seen limits octets e h =
    let seen : sight limits h.head ≡ Refused e = sight-long limits h.head (omega (arith, h.twelve)) ∙ ap (under_header h.head) (ap (λ (y : List ℕ). judged_header limits (header_of y)) (take_all 12 h.head (omega (arith, h.twelve))) ∙ h.judged) in
    ap (split_from limits []) h.parts ∙ split-refused limits [] h.head h.later e seen h.twelve (omega (arith, h.twelve))

refused-only : (limits : Limits) (front later : List ℕ) (fs : List Frame) (e : StreamFault) → Splits limits front fs [] → RefusesHeader limits later e
    → ((split_from limits [] (front ++ later)).frames ≡ fs) × ((split_from limits [] (front ++ later)).fault ≡ Some e)
refused-only limits front later [] e is h =
    let here : split_from limits [] (front ++ later) ≡ record { frames = []; rest = h.head; fault = Some e } = ap (λ (y : List ℕ). split_from limits [] (y ++ later)) is ∙ refused-seen limits later e h in
    (ap (λ (t : Split). t.frames) here, ap (λ (t : Split). t.fault) here)
refused-only limits front later (f ∷ fs) e is h =
    let octets = is.0 in
    let rest = is.1 in
    let parts : front ++ later ≡ octets ++ (rest ++ later) = ap (λ (y : List ℕ). y ++ later) is.2 ∙ append_assoc octets rest later in
    let whole : split_from limits [] (front ++ later) ≡ after_frame f (split_from limits [] (rest ++ later)) =
    ap (split_from limits []) parts ∙ split-whole limits [] octets (rest ++ later) f (frame-sight limits octets f is.3) is.3.long (omega (arith, is.3.long)) in
    let more = refused-only limits rest later fs e is.4 h in
    (ap (λ (t : Split). t.frames) whole ∙ ap (λ (gs : List Frame). f ∷ gs) more.0, ap (λ (t : Split). t.fault) whole ∙ more.1)

pub refused_only : RefusedAreTheOnes
unfolding split
refused_only limits front later fs e is h = refused-only limits front later fs e is h

-- the fault of frames, after earlier ones

abbrev Found : Limits → List Frame → List ℕ → StreamFault → Type 0
Found limits earlier s e =
    (frames : List Frame) × (front : List ℕ) × (later : List ℕ) × (s ≡ front ++ later) × Splits limits front frames [] × AreFine limits earlier frames × (RefusesHeader limits later e ⊎ RefusesFrame limits (after earlier frames) later e)

found-next : (limits : Limits) (earlier : List Frame) (f : Frame) (octets s : List ℕ) (e : StreamFault) → IsFrame limits f octets → IsFine (judged limits earlier f) → Found limits (f ∷ earlier) s e → Found limits earlier (octets ++ s) e
found-next limits earlier f octets s e is fine r =
    (f ∷ r.0, octets ++ r.1, r.2, ap (λ (y : List ℕ). octets ++ y) r.3 ∙ sym (append_assoc octets r.1 r.2), (octets, r.1, refl, is, r.4), (fine, r.5), r.6)

found-from : (limits : Limits) (earlier : List Frame) (last : Option StreamFault) (fs : List Frame) (front later : List ℕ) (e : StreamFault) → Splits limits front fs [] → ((d : StreamFault) → last ≡ Some d → RefusesHeader limits later d)
    → (reading_from limits earlier last fs).fault ≡ Some e → Found limits earlier (front ++ later) e
found-from limits earlier last [] front later e is header n = ([], [], later, ap (λ (y : List ℕ). y ++ later) is, refl, tt, inl (header e n))
found-from limits earlier last (f ∷ fs) front later e is header n =
    let octets = is.0 in
    let rest = is.1 in
    let parts : front ++ later ≡ octets ++ (rest ++ later) = ap (λ (y : List ℕ). y ++ later) is.2 ∙ append_assoc octets rest later in
    (elim (judged limits earlier f) as (λ v. judged limits earlier f ≡ v → Found limits earlier (front ++ later) e) [
      | Bad d ↦ λ j.
          let same : d ≡ e = (let k : Some d ≡ Some e = ap (λ (r : Reading). r.fault) (sym (step-bad limits earlier last f fs d j)) ∙ n in cc) in
          let frame : RefusesFrame limits earlier (octets ++ (rest ++ later)) e = record { frame = f; front = octets; later = rest ++ later; parts = refl; is = is.3; judged = j ∙ ap (λ (k : StreamFault). Bad k) same } in
          ([], [], octets ++ (rest ++ later), parts, refl, tt, inr frame)
      | Quiet ↦ λ j.
          let later-found = found-from limits (f ∷ earlier) last fs rest later e is.4 header (ap (λ (r : Reading). r.fault) (sym (step-quiet limits earlier last f fs j)) ∙ n) in
          subst (λ (y : List ℕ). Found limits earlier y e) (sym parts) (found-next limits earlier f octets (rest ++ later) e is.3 (subst IsFine (sym j) tt) later-found)
      | Done m ↦ λ j.
          let later-found = found-from limits (f ∷ earlier) last fs rest later e is.4 header (ap (λ (r : Reading). r.fault) (sym (step-done limits earlier last f fs m j)) ∙ n) in
          subst (λ (y : List ℕ). Found limits earlier y e) (sym parts) (found-next limits earlier f octets (rest ++ later) e is.3 (subst IsFine (sym j) tt) later-found)
    ]) refl

pub faults_refused : FaultsAreRefusals
unfolding fault_of split
faults_refused limits s e n =
    let t = split_from limits [] s in
    let comes = comes-from limits [] s (nothing-waits limits) in
    let r = subst (λ (y : List ℕ). Found limits [] y e) (sym comes.2) (found-from limits [] t.fault t.frames comes.0 comes.1 e comes.3 comes.4 n) in
    record { frames = r.0; front = r.1; later = r.2; parts = r.3; splits = r.4; fine = r.5; refused = r.6 }

-- and back

abbrev read_of : Limits → List Frame → Split → Reading
read_of limits earlier t = reading_from limits earlier t.fault t.frames

fault-next : (limits : Limits) (earlier : List Frame) (later : List ℕ) (e : StreamFault) → RefusesHeader limits later e ⊎ RefusesFrame limits earlier later e → (read_of limits earlier (split_from limits [] later)).fault ≡ Some e
fault-next limits earlier later e (inl h) = ap (λ (t : Split). (read_of limits earlier t).fault) (refused-seen limits later e h)
fault-next limits earlier later e (inr r) =
    let t = split_from limits [] r.later in
    ap (λ (y : List ℕ). (read_of limits earlier (split_from limits [] y)).fault) r.parts
    ∙ ap (λ (u : Split). (read_of limits earlier u).fault) (split-whole limits [] r.front r.later r.frame (frame-sight limits r.front r.frame r.is) r.is.long (omega (arith, r.is.long)))
    ∙ ap (λ (x : Reading). x.fault) (step-bad limits earlier t.fault r.frame t.frames e r.judged)

fault-from : (limits : Limits) (earlier fs : List Frame) (front later : List ℕ) (e : StreamFault) → Splits limits front fs [] → AreFine limits earlier fs → RefusesHeader limits later e ⊎ RefusesFrame limits (after earlier fs) later e
    → (read_of limits earlier (split_from limits [] (front ++ later))).fault ≡ Some e
fault-from limits earlier [] front later e is fine refused = ap (λ (y : List ℕ). (read_of limits earlier (split_from limits [] (y ++ later))).fault) is ∙ fault-next limits earlier later e refused
fault-from limits earlier (f ∷ fs) front later e is fine refused =
    let octets = is.0 in
    let rest = is.1 in
    let parts : front ++ later ≡ octets ++ (rest ++ later) = ap (λ (y : List ℕ). y ++ later) is.2 ∙ append_assoc octets rest later in
    let t = split_from limits [] (rest ++ later) in
    let whole : split_from limits [] (octets ++ (rest ++ later)) ≡ after_frame f t = split-whole limits [] octets (rest ++ later) f (frame-sight limits octets f is.3) is.3.long (omega (arith, is.3.long)) in
    let here : (read_of limits earlier (split_from limits [] (front ++ later))).fault ≡ (reading_from limits earlier t.fault (f ∷ t.frames)).fault = ap (λ (y : List ℕ). (read_of limits earlier (split_from limits [] y)).fault) parts ∙ ap (λ (u : Split). (read_of limits earlier u).fault) whole in
    let next = fault-from limits (f ∷ earlier) fs rest later e is.4 fine.1 refused in
    (elim (judged limits earlier f) as (λ v. judged limits earlier f ≡ v → (read_of limits earlier (split_from limits [] (front ++ later))).fault ≡ Some e) [
      | Bad d ↦ λ j. absurd (let k : IsFine (Bad d) = subst IsFine j fine.0 in k)
      | Quiet ↦ λ j. here ∙ ap (λ (r : Reading). r.fault) (step-quiet limits earlier t.fault f t.frames j) ∙ next
      | Done m ↦ λ j. here ∙ ap (λ (r : Reading). r.fault) (step-done limits earlier t.fault f t.frames m j) ∙ next
    ]) refl

pub refusals_fault : RefusalsAreFaults
unfolding fault_of split
refusals_fault limits s e r = ap (λ (y : List ℕ). (read_of limits [] (split_from limits [] y)).fault) r.parts ∙ fault-from limits [] r.frames r.front r.later e r.splits r.fine r.refused
