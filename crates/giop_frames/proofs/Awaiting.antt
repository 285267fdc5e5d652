-- How many octets a stream waits for, and where the frame begins that they belong to.
use Rattle.std.proofs.Common.{◌≡◌, ℕ, ◌+◌, ◌<◌, ◌⊎◌, List, [], ◌∷◌, ◌++◌, length, Some, None, refl, sym, ap, subst, ◌∙◌, inl, inr, arith}
use Rattle.giop_frames.specs.declared.fault.StreamFault.{StreamFault}
use Rattle.giop_frames.specs.declared.limits.Limits.{Limits}
use Rattle.giop_frames.specs.Frames.{Frame, Refused, Waiting, Whole, frame_size, sight, split_from}
use Rattle.giop_frames.specs.Fragments.{Bad, Done, Quiet, judged}
use Rattle.giop_frames.specs.Private.{IsExact, Needs}
use Rattle.giop_frames.specs.Streams.{Awaits, Entry, Reading, Stands, fault_of, frame_begins, frames_of, place_after, reading_from, rest_of}
use Rattle.giop_frames.proofs.Places.{place-length}
use Rattle.giop_frames.proofs.Readings.{step-bad, step-done, step-quiet}
use Rattle.giop_frames.proofs.Standing.{alone-refused, alone-waiting, alone-whole, fault_is, frames_are, rest_is, stands-waiting}

-- the frame that is not whole begins where the others end
pub begins-before : (limits : Limits) (b : List ℕ) (ps : List Entry) (s : List ℕ) → Stands limits b ps s → frame_begins limits s + length b ≡ length s
begins-before limits b ps s stands = omega (arith, place-length limits s stands.faultless, ap length stands.waiting)

module _ (limits : Limits) (b : List ℕ) (ps : List Entry) (s : List ℕ) (stands : Stands limits b ps s) (c : List ℕ) where
  waiting-frames : sight limits (b ++ c) ≡ Waiting → frames_of limits (s ++ c) ≡ frames_of limits s
  waiting-frames w = frames_are limits b ps s stands c (record { frames = []; rest = b ++ c; fault = None }) (record { messages = []; fault = None; earlier = frames_of limits s }) (alone-waiting limits b c w) refl

  module _ (e : StreamFault) (w : sight limits (b ++ c) ≡ Refused e) (exact : length (b ++ c) ≡ 12) (some : 0 < length c) where
    refused-frames : frames_of limits (s ++ c) ≡ frames_of limits s
    refused-frames = frames_are limits b ps s stands c (record { frames = []; rest = b ++ c; fault = Some e }) (record { messages = []; fault = Some e; earlier = frames_of limits s }) (alone-refused limits b c e w exact some) refl

    refused-fault : ¬ (fault_of limits (s ++ c) ≡ None)
    refused-fault n = let k : Some e ≡ None = sym (fault_is limits b ps s stands c (record { frames = []; rest = b ++ c; fault = Some e }) (record { messages = []; fault = Some e; earlier = frames_of limits s }) (alone-refused limits b c e w exact some) refl) ∙ n in cc

  module _ (f : Frame) (w : sight limits (b ++ c) ≡ Whole f) (exact : length (b ++ c) ≡ frame_size f.header) (some : 0 < length c) where
    here : split_from limits b c ≡ record { frames = f ∷ []; rest = []; fault = None }
    here = alone-whole limits b c f w exact some

    whole-rest : rest_of limits (s ++ c) ≡ []
    whole-rest = rest_is limits b ps s stands c (record { frames = f ∷ []; rest = []; fault = None }) here

    -- a whole frame that is not refused leaves no fault
    fine-fault : (r : Reading) → reading_from limits (frames_of limits s) None (f ∷ []) ≡ r → r.fault ≡ None → fault_of limits (s ++ c) ≡ None
    fine-fault r is none = fault_is limits b ps s stands c (record { frames = f ∷ []; rest = []; fault = None }) r here is ∙ none

    whole-frames : (e : StreamFault) → fault_of limits (s ++ c) ≡ Some e → frames_of limits (s ++ c) ≡ frames_of limits s
    whole-frames e is =
        (elim (judged limits (frames_of limits s) f) as (λ v. judged limits (frames_of limits s) f ≡ v → frames_of limits (s ++ c) ≡ frames_of limits s) [
          | Bad d ↦ λ j. frames_are limits b ps s stands c (record { frames = f ∷ []; rest = []; fault = None }) (record { messages = []; fault = Some d; earlier = frames_of limits s }) here (step-bad limits (frames_of limits s) None f [] d j)
          | Quiet ↦ λ j. absurd (let k : Some e ≡ None = sym is ∙ fine-fault (reading_from limits (f ∷ frames_of limits s) None []) (step-quiet limits (frames_of limits s) None f [] j) refl in cc)
          | Done m ↦ λ j. absurd (let k : Some e ≡ None = sym is ∙ fine-fault (record { messages = record { place = place_after (f ∷ frames_of limits s); message = m } ∷ []; fault = None; earlier = f ∷ frames_of limits s }) (step-done limits (frames_of limits s) None f [] m j) refl in cc)
        ]) refl

  module _ (some : 0 < length c) (exact : IsExact (b ++ c) (sight limits (b ++ c))) where
    -- a fault is one of the frame that has begun
    pub faulty-frames : (e : StreamFault) → fault_of limits (s ++ c) ≡ Some e → frames_of limits (s ++ c) ≡ frames_of limits s
    faulty-frames e is =
        (elim (sight limits (b ++ c)) as (λ v. sight limits (b ++ c) ≡ v → frames_of limits (s ++ c) ≡ frames_of limits s) [
          | Waiting ↦ λ w. waiting-frames w
          | Whole f ↦ λ w. whole-frames f w (subst (IsExact (b ++ c)) w exact) some e is
          | Refused d ↦ λ w. refused-frames d w (subst (IsExact (b ++ c)) w exact) some
        ]) refl

    -- where something is judged, the frame ends, or there is a fault
    pub judged-ends : ¬ (sight limits (b ++ c) ≡ Waiting) → (rest_of limits (s ++ c) ≡ []) ⊎ ¬ (fault_of limits (s ++ c) ≡ None)
    judged-ends seen =
        (elim (sight limits (b ++ c)) as (λ v. sight limits (b ++ c) ≡ v → (rest_of limits (s ++ c) ≡ []) ⊎ ¬ (fault_of limits (s ++ c) ≡ None)) [
          | Waiting ↦ λ w. absurd (seen w)
          | Whole f ↦ λ w. inl (whole-rest f w (subst (IsExact (b ++ c)) w exact) some)
          | Refused d ↦ λ w. inr (refused-fault d w (subst (IsExact (b ++ c)) w exact) some)
        ]) refl

pub awaits : (limits : Limits) (b : List ℕ) (ps : List Entry) (s : List ℕ) (n : ℕ) → Stands limits b ps s → Needs limits b n → Awaits limits s n
awaits limits b ps s n stands needs = record {
  some = needs.some;
  fewer = λ c h.
      let w = needs.waits c h in
      let k = stands-waiting limits b ps s c stands w in
      (k.0.faultless, k.1, ap place_after (waiting-frames limits b ps s stands c w));
  ends = elim needs.ends [
    | inl all ↦ inl (omega (arith, all, ap length stands.waiting))
    | inr seen ↦ inr (λ c h. judged-ends limits b ps s stands c (omega (arith, h, needs.some)) (needs.exact c h) (seen c h))
  ];
  fault = λ c e h is. ap place_after (faulty-frames limits b ps s stands c (omega (arith, h, needs.some)) (needs.exact c h) e is);
}
