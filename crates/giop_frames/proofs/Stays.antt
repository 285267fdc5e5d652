-- A fault stays the fault, and the messages before it stay those, whatever follows.
use Rattle.std.proofs.Common.{◌≡◌, ℕ, ◌+◌, ◌<◌, ◌≤◌, List, [], ◌∷◌, ◌++◌, length, Option, Some, None, refl, sym, ap, subst, ◌∙◌, arith, length-append}
use Rattle.std.specs.List.{AllByRecursion}
use Rattle.std.proofs.lemmas.List.{append-nil}
use Rattle.giop_frames.specs.declared.fault.StreamFault.{StreamFault}
use Rattle.giop_frames.specs.declared.limits.Limits.{Limits}
use Rattle.giop_frames.specs.Frames.{Frame, Split, Waiting, Whole, Refused, after_frame, sight, split, split_from}
use Rattle.giop_frames.specs.Fragments.{Bad, Quiet, Done, judged}
use Rattle.giop_frames.specs.Laws.{FaultsEnd, FaultsStay, MessagesGrow}
use Rattle.giop_frames.specs.Streams.{Completed, Reading, after_message, fault_of, frames_of, messages_of, place_after, reading_from, reading_of, rest_of}
use Rattle.giop_frames.proofs.Places.{place-length, whole-length}
use Rattle.giop_frames.proofs.Readings.{step-bad, step-done, step-quiet}
use Rattle.giop_frames.proofs.Splits.{split-append, step-refused, step-waiting, step-whole}
use Rattle.giop_frames.proofs.Standing.{reading_without}

-- after a header that is refused nothing is split
split-stays : (limits : Limits) (w s c : List ℕ) (d : StreamFault) → (split_from limits w s).fault ≡ Some d → split_from limits w (s ++ c) ≡ split_from limits w s
split-stays limits w [] c d n = absurd (let k : None ≡ Some d = n in cc)
split-stays limits w (x ∷ s) c d n =
    (elim (sight limits (w ++ x ∷ [])) as (λ v. sight limits (w ++ x ∷ []) ≡ v → split_from limits w (x ∷ s ++ c) ≡ split_from limits w (x ∷ s)) [
      | Waiting ↦ λ e.
          let here = step-waiting limits w x s e in
          let ends : (split_from limits (w ++ x ∷ []) s).fault ≡ Some d = ap (λ (t : Split). t.fault) (sym here) ∙ n in
          step-waiting limits w x (s ++ c) e ∙ split-stays limits (w ++ x ∷ []) s c d ends ∙ sym here
      | Whole f ↦ λ e.
          let here = step-whole limits w x s f e in
          let ends : (split_from limits [] s).fault ≡ Some d = ap (λ (t : Split). t.fault) (sym here) ∙ n in
          step-whole limits w x (s ++ c) f e ∙ ap (after_frame f) (split-stays limits [] s c d ends) ∙ sym here
      | Refused k ↦ λ e. step-refused limits w x (s ++ c) k e ∙ sym (step-refused limits w x s k e)
    ]) refl

-- after a frame that is refused nothing is read
reading-stays : (limits : Limits) (h : List Frame) (last : Option StreamFault) (fs gs : List Frame) (d : StreamFault) → (reading_from limits h None fs).fault ≡ Some d
    → reading_from limits h last (fs ++ gs) ≡ reading_from limits h None fs
reading-stays limits h last [] gs d n = absurd (let k : None ≡ Some d = n in cc)
reading-stays limits h last (f ∷ fs) gs d n =
    (elim (judged limits h f) as (λ v. judged limits h f ≡ v → reading_from limits h last (f ∷ fs ++ gs) ≡ reading_from limits h None (f ∷ fs)) [
      | Bad e ↦ λ j. step-bad limits h last f (fs ++ gs) e j ∙ sym (step-bad limits h None f fs e j)
      | Quiet ↦ λ j.
          let here = step-quiet limits h None f fs j in
          let ends : (reading_from limits (f ∷ h) None fs).fault ≡ Some d = ap (λ (r : Reading). r.fault) (sym here) ∙ n in
          step-quiet limits h last f (fs ++ gs) j ∙ reading-stays limits (f ∷ h) last fs gs d ends ∙ sym here
      | Done m ↦ λ j.
          let here = step-done limits h None f fs m j in
          let ends : (reading_from limits (f ∷ h) None fs).fault ≡ Some d = ap (λ (r : Reading). r.fault) (sym here) ∙ n in
          step-done limits h last f (fs ++ gs) m j ∙ ap (after_message (record { place = place_after (f ∷ h); message = m })) (reading-stays limits (f ∷ h) last fs gs d ends) ∙ sym here
    ]) refl

stopped : (limits : Limits) (s c : List ℕ) (d : StreamFault) → fault_of limits s ≡ Some d → reading_of limits (s ++ c) ≡ reading_of limits s
unfolding fault_of split
stopped limits s c d n =
    let first = split_from limits [] s in
    (elim first.fault as (λ o. first.fault ≡ o → reading_of limits (s ++ c) ≡ reading_of limits s) [
      | None ↦ λ k.
          let t = split_from limits first.rest c in
          let ends : (reading_from limits [] None first.frames).fault ≡ Some d = ap (λ (last : Option StreamFault). (reading_from limits [] last first.frames).fault) (sym k) ∙ n in
          ap (λ (u : Split). reading_from limits [] u.fault u.frames) (split-append limits [] s c k) ∙ reading-stays limits [] t.fault first.frames t.frames d ends ∙ ap (λ (last : Option StreamFault). reading_from limits [] last first.frames) (sym k)
      | Some e ↦ λ k. ap (λ (u : Split). reading_from limits [] u.fault u.frames) (split-stays limits [] s c e k)
    ]) refl

pub fault-stays : FaultsStay
unfolding fault_of
fault-stays limits s c d n = ap (λ (r : Reading). r.fault) (stopped limits s c d n) ∙ n

pub messages-stay : FaultsEnd
unfolding messages_of
messages-stay limits s c d n = ap (λ (r : Reading). r.messages) (stopped limits s c d n)

-- more octets bring more messages, which complete later

abbrev IsLate : ℕ → List Frame → List Frame → Type 0
IsLate n earlier [] = Unit {0}
IsLate n earlier (f ∷ fs) = n < place_after (f ∷ earlier)

late-next : (n : ℕ) (earlier fs : List Frame) → n < place_after earlier → IsLate n earlier fs
late-next n earlier [] h = tt
late-next n earlier (f ∷ fs) h = omega (arith, h)

late-frames : (limits : Limits) (n : ℕ) (earlier : List Frame) (w c : List ℕ) → n ≤ place_after earlier + length w → IsLate n earlier (split_from limits w c).frames
late-frames limits n earlier w [] h = tt
late-frames limits n earlier w (x ∷ c) h =
    (elim (sight limits (w ++ x ∷ [])) as (λ v. sight limits (w ++ x ∷ []) ≡ v → IsLate n earlier (split_from limits w (x ∷ c)).frames) [
      | Waiting ↦ λ e. subst (λ (t : Split). IsLate n earlier t.frames) (sym (step-waiting limits w x c e)) (late-frames limits n earlier (w ++ x ∷ []) c (omega (arith, h, length-append w (x ∷ []))))
      | Whole f ↦ λ e. subst (λ (t : Split). IsLate n earlier t.frames) (sym (step-whole limits w x c f e)) (omega (arith, h, whole-length limits (w ++ x ∷ []) f e, length-append w (x ∷ [])))
      | Refused d ↦ λ e. subst (λ (t : Split). IsLate n earlier t.frames) (sym (step-refused limits w x c d e)) tt
    ]) refl

abbrev AreLate : ℕ → List Completed → Type 0
AreLate n ms = AllByRecursion (λ m. n < m.place) ms

late-messages : (limits : Limits) (n : ℕ) (earlier : List Frame) (last : Option StreamFault) (fs : List Frame) → IsLate n earlier fs → AreLate n (reading_from limits earlier last fs).messages
late-messages limits n earlier last [] late = tt
late-messages limits n earlier last (f ∷ fs) late =
    let next : IsLate n (f ∷ earlier) fs = late-next n (f ∷ earlier) fs late in
    (elim (judged limits earlier f) as (λ v. judged limits earlier f ≡ v → AreLate n (reading_from limits earlier last (f ∷ fs)).messages) [
      | Bad e ↦ λ j. subst (λ (r : Reading). AreLate n r.messages) (sym (step-bad limits earlier last f fs e j)) tt
      | Quiet ↦ λ j. subst (λ (r : Reading). AreLate n r.messages) (sym (step-quiet limits earlier last f fs j)) (late-messages limits n (f ∷ earlier) last fs next)
      | Done m ↦ λ j. subst (λ (r : Reading). AreLate n r.messages) (sym (step-done limits earlier last f fs m j)) (late, late-messages limits n (f ∷ earlier) last fs next)
    ]) refl

pub messages-grow : MessagesGrow
unfolding messages_of
messages-grow limits s c =
    (elim (fault_of limits s) as (λ o. fault_of limits s ≡ o → (more : List Completed) × (messages_of limits (s ++ c) ≡ messages_of limits s ++ more) × AreLate (length s) more) [
      | Some e ↦ λ n. ([], messages-stay limits s c e n ∙ sym (append-nil (messages_of limits s)), tt)
      | None ↦ λ n.
          let t = split_from limits (rest_of limits s) c in
          let from : length s ≤ place_after (frames_of limits s) + length (rest_of limits s) = omega (arith, place-length limits s n) in
          let late = late-messages limits (length s) (frames_of limits s) t.fault t.frames (late-frames limits (length s) (frames_of limits s) (rest_of limits s) c from) in
          ((reading_from limits (frames_of limits s) t.fault t.frames).messages, ap (λ (r : Reading). r.messages) (reading_without limits s n c t refl), late)
    ]) refl
