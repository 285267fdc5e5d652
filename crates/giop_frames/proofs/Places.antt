-- Frames and rest are as long as the stream: the place where a message ends.
use Rattle.std.proofs.Common.{◌≡◌, ℕ, ◌+◌, ◌≤◌, ◌++◌, List, [], ◌∷◌, length, take, drop, Option, Some, None, Result, Ok, Err, refl, sym, ap, ◌∙◌, inl, inr, arith, length-append, length-drop}
use Rattle.giop_core.specs.declared.header.Header.{Header}
use Rattle.giop_core.specs.Headers.{header_of}
use Rattle.giop_frames.specs.declared.fault.StreamFault.{StreamFault}
use Rattle.giop_frames.specs.declared.limits.Limits.{Limits}
use Rattle.giop_frames.specs.Frames.{Frame, Split, Waiting, Whole, Refused, frame_size, judged_header, sight, split, split_from, under_header}
use Rattle.giop_frames.specs.Fragments.{Bad, Quiet, Done, judged}
use Rattle.giop_frames.specs.Streams.{Reading, fault_of, frames_of, place_after, reading_from, rest_of}
use Rattle.giop_frames.proofs.Readings.{step-bad, step-quiet, step-done}
use Rattle.giop_frames.proofs.Sights.{sight-short, sight-long, until-whole}
use Rattle.giop_frames.proofs.Splits.{step-waiting, step-whole, step-refused}
use Rattle.giop_frames.proofs.Deciding.{test_lt}

under-long : (b : List ℕ) (j : Result Header StreamFault) (f : Frame) → 12 ≤ length b → under_header b j ≡ Whole f → 12 + length f.octets ≡ length b
under-long b (Err e) f long w = absurd cc
under-long b (Ok h) f long w =
    let is = until-whole (length b) (frame_size h) (record { header = h; octets = drop 12 b }) f w in
    let size : length f.octets ≡ length (drop 12 b) = ap (λ (g : Frame). length g.octets) (sym is.1) in
    omega (arith, size, long, length-drop 12 b)

-- a whole frame has its header and its octets, and no others
pub whole-length : (limits : Limits) (b : List ℕ) (f : Frame) → sight limits b ≡ Whole f → 12 + length f.octets ≡ length b
whole-length limits b f w =
    elim (test_lt (length b) 12) [
      | inl t ↦ absurd (let k = sight-short limits b t.1 in cc)
      | inr t ↦ under-long b (judged_header limits (header_of (take 12 b))) f t.1 (sym (sight-long limits b t.1) ∙ w)
    ]

-- how many octets frames take
abbrev pub frames_length : List Frame → ℕ
frames_length [] = 0
frames_length (f ∷ fs) = (12 + length f.octets) + frames_length fs

-- where no header is refused, all octets are in frames or in the rest
pub split-length : (limits : Limits) (w s : List ℕ) → (split_from limits w s).fault ≡ None → frames_length (split_from limits w s).frames + length (split_from limits w s).rest ≡ length w + length s
split-length limits w [] n = omega arith
split-length limits w (x ∷ s) n =
    (elim (sight limits (w ++ x ∷ [])) as (λ v. sight limits (w ++ x ∷ []) ≡ v → frames_length (split_from limits w (x ∷ s)).frames + length (split_from limits w (x ∷ s)).rest ≡ length w + length (x ∷ s)) [
      | Waiting ↦ λ e.
          let here = step-waiting limits w x s e in
          let ends : (split_from limits (w ++ x ∷ []) s).fault ≡ None = ap (λ (t : Split). t.fault) (sym here) ∙ n in
          let later = split-length limits (w ++ x ∷ []) s ends in
          ap (λ (t : Split). frames_length t.frames + length t.rest) here ∙ omega (arith, later, length-append w (x ∷ []))
      | Whole f ↦ λ e.
          let here = step-whole limits w x s f e in
          let ends : (split_from limits [] s).fault ≡ None = ap (λ (t : Split). t.fault) (sym here) ∙ n in
          let later = split-length limits [] s ends in
          ap (λ (t : Split). frames_length t.frames + length t.rest) here ∙ omega (arith, later, whole-length limits (w ++ x ∷ []) f e, length-append w (x ∷ []))
      | Refused d ↦ λ e. absurd (let k : Some d ≡ None = ap (λ (t : Split). t.fault) (sym (step-refused limits w x s d e)) ∙ n in cc)
    ]) refl

-- frames without a fault are those before and these
pub reading-length : (limits : Limits) (h : List Frame) (last : Option StreamFault) (fs : List Frame) → (reading_from limits h last fs).fault ≡ None
    → (last ≡ None) × (place_after (reading_from limits h last fs).earlier ≡ place_after h + frames_length fs)
reading-length limits h last [] n = (n, omega arith)
reading-length limits h last (f ∷ fs) n =
    (elim (judged limits h f) as (λ v. judged limits h f ≡ v → (last ≡ None) × (place_after (reading_from limits h last (f ∷ fs)).earlier ≡ place_after h + frames_length (f ∷ fs))) [
      | Bad e ↦ λ j. absurd (let k : Some e ≡ None = ap (λ (r : Reading). r.fault) (sym (step-bad limits h last f fs e j)) ∙ n in cc)
      | Quiet ↦ λ j.
          let here = step-quiet limits h last f fs j in
          let later = reading-length limits (f ∷ h) last fs (ap (λ (r : Reading). r.fault) (sym here) ∙ n) in
          (later.0, ap (λ (r : Reading). place_after r.earlier) here ∙ omega (arith, later.1))
      | Done m ↦ λ j.
          let here = step-done limits h last f fs m j in
          let later = reading-length limits (f ∷ h) last fs (ap (λ (r : Reading). r.fault) (sym here) ∙ n) in
          (later.0, ap (λ (r : Reading). place_after r.earlier) here ∙ omega (arith, later.1))
    ]) refl

-- no header is refused in a stream without a fault
pub faultless-split : (limits : Limits) (s : List ℕ) → fault_of limits s ≡ None → (split limits s).fault ≡ None
unfolding fault_of
faultless-split limits s n = (reading-length limits [] (split limits s).fault (split limits s).frames n).0

pub place-length : (limits : Limits) (s : List ℕ) → fault_of limits s ≡ None → place_after (frames_of limits s) + length (rest_of limits s) ≡ length s
unfolding fault_of frames_of rest_of split
place-length limits s n =
    let r = reading-length limits [] (split limits s).fault (split limits s).frames n in
    omega (arith, r.1, split-length limits [] s r.0)
