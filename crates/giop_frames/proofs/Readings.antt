-- How frames read as more frames come.
use Rattle.std.proofs.Common.{◌≡◌, List, [], ◌∷◌, ◌++◌, Option, Some, None, refl, sym, ap, ◌∙◌}
use Rattle.giop_frames.specs.declared.fault.StreamFault.{StreamFault}
use Rattle.giop_frames.specs.declared.limits.Limits.{Limits}
use Rattle.giop_frames.specs.Frames.{Frame}
use Rattle.giop_frames.specs.Fragments.{Bad, Quiet, Done, judged}
use Rattle.giop_frames.specs.Streams.{Reading, Completed, after_message, place_after, reading_from}

-- one frame more, by its judgement

pub step-bad : (limits : Limits) (h : List Frame) (last : Option StreamFault) (f : Frame) (fs : List Frame) (e : StreamFault) → judged limits h f ≡ Bad e → reading_from limits h last (f ∷ fs) ≡ record { messages = []; fault = Some e; earlier = h }
step-bad limits h last f fs e j = rw (j, reading_from) refl

pub step-quiet : (limits : Limits) (h : List Frame) (last : Option StreamFault) (f : Frame) (fs : List Frame) → judged limits h f ≡ Quiet → reading_from limits h last (f ∷ fs) ≡ reading_from limits (f ∷ h) last fs
step-quiet limits h last f fs j = rw (j, reading_from) refl

pub step-done : (limits : Limits) (h : List Frame) (last : Option StreamFault) (f : Frame) (fs : List Frame) (m : Frame) → judged limits h f ≡ Done m
    → reading_from limits h last (f ∷ fs) ≡ after_message (record { place = place_after (f ∷ h); message = m }) (reading_from limits (f ∷ h) last fs)
step-done limits h last f fs m j = rw (j, reading_from) refl

-- messages before a reading
abbrev pub after_messages : List Completed → Reading → Reading
after_messages ms r = record r { messages = ms ++ r.messages }

-- frames after frames without a fault
pub reading-append : (limits : Limits) (h : List Frame) (last : Option StreamFault) (fs gs : List Frame) → (reading_from limits h None fs).fault ≡ None
    → reading_from limits h last (fs ++ gs) ≡ after_messages (reading_from limits h None fs).messages (reading_from limits (reading_from limits h None fs).earlier last gs)
reading-append limits h last [] gs n = refl
reading-append limits h last (f ∷ fs) gs n =
    (elim (judged limits h f) as (λ v. judged limits h f ≡ v → reading_from limits h last (f ∷ fs ++ gs) ≡ after_messages (reading_from limits h None (f ∷ fs)).messages (reading_from limits (reading_from limits h None (f ∷ fs)).earlier last gs)) [
      | Bad e ↦ λ j. absurd (let k : Some e ≡ None = ap (λ (r : Reading). r.fault) (sym (step-bad limits h None f fs e j)) ∙ n in cc)
      | Quiet ↦ λ j.
          let here = step-quiet limits h None f fs j in
          let ends : (reading_from limits (f ∷ h) None fs).fault ≡ None = ap (λ (r : Reading). r.fault) (sym here) ∙ n in
          step-quiet limits h last f (fs ++ gs) j ∙ reading-append limits (f ∷ h) last fs gs ends ∙ ap (λ (r : Reading). after_messages r.messages (reading_from limits r.earlier last gs)) (sym here)
      | Done m ↦ λ j.
          let here = step-done limits h None f fs m j in
          let ends : (reading_from limits (f ∷ h) None fs).fault ≡ None = ap (λ (r : Reading). r.fault) (sym here) ∙ n in
          step-done limits h last f (fs ++ gs) m j ∙ ap (after_message (record { place = place_after (f ∷ h); message = m })) (reading-append limits (f ∷ h) last fs gs ends)
          ∙ ap (λ (r : Reading). after_messages r.messages (reading_from limits r.earlier last gs)) (sym here)
    ]) refl
