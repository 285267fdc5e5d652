-- What can happen to octets and partial messages that are what is left of a stream.
use Rattle.std.proofs.Common.{◌≡◌, ℕ, ◌<◌, List, [], ◌∷◌, ◌++◌, length, Option, Some, None, refl, sym, ap, subst, ◌∙◌, arith, length-append}
use Rattle.std.proofs.lemmas.List.{append-nil}
use Rattle.giop_frames.specs.declared.fault.StreamFault.{StreamFault}
use Rattle.giop_frames.specs.declared.limits.Limits.{Limits}
use Rattle.giop_frames.specs.declared.partial.Key.TheVariants.{Of11}
use Rattle.giop_frames.specs.Frames.{Frame, Split, Waiting, Whole, Refused, after_frame, frame_size, sight, split, split_from}
use Rattle.giop_frames.specs.Fragments.{Bad, Quiet, Done, key_of, judged, judged_by}
use Rattle.giop_frames.specs.Streams.{Entry, part_in}
use Rattle.giop_frames.specs.Private.{parts_after}
use Rattle.giop_frames.specs.Streams.{Faults, Follows, Reading, Stands, fault_of, frames_of, messages_of, place_after, reading_from, reading_of, rest_of}
use Rattle.giop_frames.proofs.Places.{faultless-split, place-length, whole-length}
use Rattle.giop_frames.proofs.Readings.{after_messages, reading-append, step-bad, step-done, step-quiet}
use Rattle.giop_frames.proofs.Splits.{after_frames, split-append, split-refused, split-waiting, split-whole}
use Rattle.giop_frames.specs.Refusing.{IsFine}
use Rattle.giop_frames.proofs.Tables.{follows-step, judged-follows}

-- a stream without a fault, and what more octets make of its rest

pub rest-more : (limits : Limits) (s c : List ℕ) → fault_of limits s ≡ None → rest_of limits (s ++ c) ≡ (split_from limits (rest_of limits s) c).rest
unfolding rest_of split
rest-more limits s c n = ap (λ (t : Split). t.rest) (split-append limits [] s c (faultless-split limits s n))

module _ (limits : Limits) (s : List ℕ) (n : fault_of limits s ≡ None) where
  pub reading_without : (c : List ℕ) (t : Split) → split_from limits (rest_of limits s) c ≡ t → reading_of limits (s ++ c) ≡ after_messages (messages_of limits s) (reading_from limits (frames_of limits s) t.fault t.frames)
  unfolding fault_of rest_of split messages_of frames_of
  reading_without c t e =
      let first = split limits s in
      let none = faultless-split limits s n in
      let whole = split-append limits [] s c none ∙ ap (after_frames first.frames) e in
      let ends : (reading_from limits [] None first.frames).fault ≡ None = ap (λ (last : Option StreamFault). (reading_from limits [] last first.frames).fault) (sym none) ∙ n in
      ap (λ (u : Split). reading_from limits [] u.fault u.frames) whole
      ∙ reading-append limits [] t.fault first.frames t.frames ends
      ∙ ap (λ (last : Option StreamFault). after_messages (reading_from limits [] last first.frames).messages (reading_from limits (reading_from limits [] last first.frames).earlier t.fault t.frames)) (sym none)

module _ (limits : Limits) (b : List ℕ) (ps : List Entry) (s : List ℕ) (stands : Stands limits b ps s) where
  -- what octets after those that are buffered make of the stream
  split_is : (c : List ℕ) (t : Split) → split_from limits b c ≡ t → split_from limits (rest_of limits s) c ≡ t
  split_is c t e = ap (λ (w : List ℕ). split_from limits w c) (sym stands.waiting) ∙ e

  reading_is : (c : List ℕ) (t : Split) (r : Reading) → split_from limits b c ≡ t → reading_from limits (frames_of limits s) t.fault t.frames ≡ r → reading_of limits (s ++ c) ≡ after_messages (messages_of limits s) r
  reading_is c t r e k = reading_without limits s stands.faultless c t (split_is c t e) ∙ ap (after_messages (messages_of limits s)) k

  pub rest_is : (c : List ℕ) (t : Split) → split_from limits b c ≡ t → rest_of limits (s ++ c) ≡ t.rest
  rest_is c t e = rest-more limits s c stands.faultless ∙ ap (λ (u : Split). u.rest) (split_is c t e)

  -- the fault of the stream with more octets, the frames before it, and the octets after the last whole one
  pub fault_is : (c : List ℕ) (t : Split) (r : Reading) → split_from limits b c ≡ t → reading_from limits (frames_of limits s) t.fault t.frames ≡ r → fault_of limits (s ++ c) ≡ r.fault
  unfolding fault_of
  fault_is c t r e k = ap (λ (x : Reading). x.fault) (reading_is c t r e k)

  pub frames_are : (c : List ℕ) (t : Split) (r : Reading) → split_from limits b c ≡ t → reading_from limits (frames_of limits s) t.fault t.frames ≡ r → frames_of limits (s ++ c) ≡ r.earlier
  unfolding frames_of
  frames_are c t r e k = ap (λ (x : Reading). x.earlier) (reading_is c t r e k)

  -- the stream with octets that leave no fault
  goes_on : (c : List ℕ) (t : Split) (r : Reading) (qs : List Entry) → split_from limits b c ≡ t → reading_from limits (frames_of limits s) t.fault t.frames ≡ r → r.fault ≡ None → Follows qs r.earlier
      → Stands limits t.rest qs (s ++ c) × (messages_of limits (s ++ c) ≡ messages_of limits s ++ r.messages)
  unfolding fault_of frames_of messages_of
  goes_on c t r qs e k none follows =
      let is = reading_is c t r e k in (
        record {
          faultless = ap (λ (x : Reading). x.fault) is ∙ none;
          waiting = sym (rest_is c t e);
          partial = subst (λ (x : Reading). Follows qs x.earlier) (sym is) follows;
        },
        ap (λ (x : Reading). x.messages) is,
      )

  -- the stream with octets that bring a fault
  stops : (c : List ℕ) (t : Split) (e : StreamFault) (h : List Frame) → split_from limits b c ≡ t → reading_from limits (frames_of limits s) t.fault t.frames ≡ record { messages = []; fault = Some e; earlier = h } → Faults limits s c e
  unfolding fault_of messages_of
  stops c t e h k is =
      let whole = reading_is c t (record { messages = []; fault = Some e; earlier = h }) k is in
      record { is = ap (λ (x : Reading). x.fault) whole; same = ap (λ (x : Reading). x.messages) whole ∙ append-nil (messages_of limits s) }

  -- the judgement of the next frame
  judged_next : (f : Frame) → judged_by limits (part_in ps Of11) (part_in ps (key_of f)) (length ps) f ≡ judged limits (frames_of limits s) f
  judged_next f = judged-follows limits ps (frames_of limits s) f stands.partial

-- a frame that is not whole
pub alone-waiting : (limits : Limits) (b c : List ℕ) → sight limits (b ++ c) ≡ Waiting → split_from limits b c ≡ record { frames = []; rest = b ++ c; fault = None }
alone-waiting limits b c w = ap (split_from limits b) (sym (append-nil c)) ∙ split-waiting limits b c [] w

pub stands-waiting : (limits : Limits) (b : List ℕ) (ps : List Entry) (s c : List ℕ) → Stands limits b ps s → sight limits (b ++ c) ≡ Waiting
    → Stands limits (b ++ c) ps (s ++ c) × (messages_of limits (s ++ c) ≡ messages_of limits s)
stands-waiting limits b ps s c stands w =
    let r = goes_on limits b ps s stands c (record { frames = []; rest = b ++ c; fault = None }) (record { messages = []; fault = None; earlier = frames_of limits s }) ps (alone-waiting limits b c w) refl refl stands.partial in
    (r.0, r.1 ∙ append-nil (messages_of limits s))

-- a whole frame at the end
pub alone-whole : (limits : Limits) (b c : List ℕ) (f : Frame) → sight limits (b ++ c) ≡ Whole f → length (b ++ c) ≡ frame_size f.header → 0 < length c → split_from limits b c ≡ record { frames = f ∷ []; rest = []; fault = None }
alone-whole limits b c f w exact some = ap (split_from limits b) (sym (append-nil c)) ∙ split-whole limits b c [] f w exact some

-- a header that is refused at the end
pub alone-refused : (limits : Limits) (b c : List ℕ) (e : StreamFault) → sight limits (b ++ c) ≡ Refused e → length (b ++ c) ≡ 12 → 0 < length c → split_from limits b c ≡ record { frames = []; rest = b ++ c; fault = Some e }
alone-refused limits b c e w exact some = ap (split_from limits b) (sym (append-nil c)) ∙ split-refused limits b c [] e w exact some

pub stands-quiet : (limits : Limits) (b : List ℕ) (ps : List Entry) (s c : List ℕ) (f : Frame) → Stands limits b ps s → sight limits (b ++ c) ≡ Whole f → length (b ++ c) ≡ frame_size f.header → 0 < length c
    → judged_by limits (part_in ps Of11) (part_in ps (key_of f)) (length ps) f ≡ Quiet → Stands limits [] (parts_after ps f) (s ++ c) × (messages_of limits (s ++ c) ≡ messages_of limits s)
stands-quiet limits b ps s c f stands w exact some j =
    let h = frames_of limits s in
    let verdict : judged limits h f ≡ Quiet = sym (judged_next limits b ps s stands f) ∙ j in
    let fine : IsFine (judged_by limits (part_in ps Of11) (part_in ps (key_of f)) (length ps) f) = rw j tt in
    let r = goes_on limits b ps s stands c (record { frames = f ∷ []; rest = []; fault = None }) (record { messages = []; fault = None; earlier = f ∷ h }) (parts_after ps f)
    (alone-whole limits b c f w exact some) (step-quiet limits h None f [] verdict) refl (follows-step limits ps h f stands.partial fine) in
    (r.0, r.1 ∙ append-nil (messages_of limits s))

pub stands-done : (limits : Limits) (b : List ℕ) (ps : List Entry) (s c : List ℕ) (f m : Frame) → Stands limits b ps s → sight limits (b ++ c) ≡ Whole f → length (b ++ c) ≡ frame_size f.header → 0 < length c
    → judged_by limits (part_in ps Of11) (part_in ps (key_of f)) (length ps) f ≡ Done m
    → Stands limits [] (parts_after ps f) (s ++ c) × (messages_of limits (s ++ c) ≡ messages_of limits s ++ record { place = length (s ++ c); message = m } ∷ [])
stands-done limits b ps s c f m stands w exact some j =
    let h = frames_of limits s in
    let verdict : judged limits h f ≡ Done m = sym (judged_next limits b ps s stands f) ∙ j in
    let fine : IsFine (judged_by limits (part_in ps Of11) (part_in ps (key_of f)) (length ps) f) = rw j tt in
    let r = goes_on limits b ps s stands c (record { frames = f ∷ []; rest = []; fault = None }) (record { messages = record { place = place_after (f ∷ h); message = m } ∷ []; fault = None; earlier = f ∷ h }) (parts_after ps f)
    (alone-whole limits b c f w exact some) (step-done limits h None f [] m verdict) refl (follows-step limits ps h f stands.partial fine) in
    let place : place_after (f ∷ h) ≡ length (s ++ c) = omega (arith, place-length limits s stands.faultless, ap length stands.waiting, whole-length limits (b ++ c) f w, length-append b c, length-append s c) in
    (r.0, r.1 ∙ ap (λ (p : ℕ). messages_of limits s ++ record { place = p; message = m } ∷ []) place)

pub faults-frame : (limits : Limits) (b : List ℕ) (ps : List Entry) (s c ys : List ℕ) (f : Frame) (e : StreamFault) → Stands limits b ps s → sight limits (b ++ c) ≡ Whole f → length (b ++ c) ≡ frame_size f.header → 0 < length c
    → judged_by limits (part_in ps Of11) (part_in ps (key_of f)) (length ps) f ≡ Bad e → Faults limits s (c ++ ys) e
faults-frame limits b ps s c ys f e stands w exact some j =
    let h = frames_of limits s in
    let verdict : judged limits h f ≡ Bad e = sym (judged_next limits b ps s stands f) ∙ j in
    let t = after_frame f (split_from limits [] ys) in
    stops limits b ps s stands (c ++ ys) t e h (split-whole limits b c ys f w exact some) (step-bad limits h t.fault f (split_from limits [] ys).frames e verdict)

pub faults-header : (limits : Limits) (b : List ℕ) (ps : List Entry) (s c ys : List ℕ) (e : StreamFault) → Stands limits b ps s → sight limits (b ++ c) ≡ Refused e → length (b ++ c) ≡ 12 → 0 < length c → Faults limits s (c ++ ys) e
faults-header limits b ps s c ys e stands w exact some =
    stops limits b ps s stands (c ++ ys) (record { frames = []; rest = b ++ c; fault = Some e }) e (frames_of limits s) (split-refused limits b c ys e w exact some) refl

-- nothing is left of the empty stream
pub stands-empty : (limits : Limits) → Stands limits [] [] []
unfolding fault_of rest_of frames_of split
stands-empty limits = record { faultless = refl; waiting = refl; partial = record { each = λ k. refl; count = refl; distinct = tt } }
