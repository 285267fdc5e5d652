-- One step of a stream in the shape of the code's goals, and steps one after another.
use Rattle.std.proofs.Common.{◌≡◌, ℕ, ◌-◌, ◌<◌, ◌≤◌, Bool, false, List, [], ◌++◌, length, take, drop, Option, Some, None, Result, Ok, Err, refl, sym, ap, subst, ◌∙◌, inl, inr, arith, length-drop, ◌+◌, is_some}
use Rattle.std.proofs.lemmas.List.{append-nil, length-take-le, take-append-drop}
use Rattle.std.proofs.Math.Seq.{take-add}
use Rattle.giop_core.specs.declared.header.Header.{Header}
use Rattle.giop_core.specs.declared.header.HeaderFault.{HeaderFault}
use Rattle.giop_core.specs.Headers.{header_of}
use Rattle.giop_frames.specs.declared.fault.StreamFault.{StreamFault}
use Rattle.giop_frames.specs.declared.fault.StreamFault.TheVariants.{Header as BadHeader, TooLarge, UnalignedFragment, StrayFragment, TwiceStarted, TooManyPartial, Body, MixedOrder, Memory, Failed}
use Rattle.giop_frames.specs.declared.limits.Limits.{Limits}
use Rattle.giop_frames.specs.Frames.{Frame, Refused, Waiting, Whole}
use Rattle.giop_proxy.specs.declared.passes.looking.Seen.{Seen}
use Rattle.giop_proxy.specs.Passing.{FramesStand, IsFrameFault, OnHeaderFault, Refuses, Split, Splitting, fault_of, frames_of, given, kept_size, octets_held, over_size, sight, split, split_from, under_header}
use Rattle.giop_proxy.specs.PassingPrivate.{IsExact, IsFront, IsKept, IsPassed, IsRefused, IsSplitting, Needs, NeedsAsSeen, Stops, frame_at, framed, pending_at, sight_at}
use Rattle.giop_proxy.proofs.PassingSights.{kept-within, needs-nothing, needs-waits, sight-headed, sight-short, test_lt, until, waiting-within}
use Rattle.giop_proxy.proofs.PassingSplits.{after_frames, split-append, split-over, split-refused, split-waiting, split-whole}

-- what follows from a fact about the fault of a header
pub on-fault : (e : StreamFault) (P Q : Type 0) → (P → Q) → OnHeaderFault e P → OnHeaderFault e Q
on-fault (BadHeader h) P Q f p = f p
on-fault TooLarge P Q f p = p
on-fault UnalignedFragment P Q f p = p
on-fault StrayFragment P Q f p = p
on-fault TwiceStarted P Q f p = p
on-fault TooManyPartial P Q f p = p
on-fault (Body m) P Q f p = p
on-fault MixedOrder P Q f p = p
on-fault Memory P Q f p = tt
on-fault Failed P Q f p = p

-- the fault of octets is one of a header

never-refused : (l n : ℕ) (f : Frame) (e : StreamFault) → until l n f ≡ Refused e → ⊥
never-refused l n f e k = elim (test_lt l n) [ inl t ↦ (let u : until l n f ≡ Waiting = rw t.0 refl in cc) | inr t ↦ (let u : until l n f ≡ Whole f = rw t.0 refl in cc) ]

same-fault : (e d : StreamFault) → Refused e ≡ Refused d → e ≡ d
same-fault e d k = cc

under-error : (limits : Limits) (b : List ℕ) (j : Result Header HeaderFault) (d : StreamFault) → under_header limits b j ≡ Refused d → OnHeaderFault d (Unit {0})
under-error limits b (Err e) d w = subst (λ (x : StreamFault). OnHeaderFault x (Unit {0})) (same-fault (BadHeader e) d w) tt
under-error limits b (Ok h) d w = absurd (never-refused (length b) (kept_size limits h) (framed h b) d w)

pub refused-error : (limits : Limits) (b : List ℕ) (d : StreamFault) → sight limits b ≡ Refused d → OnHeaderFault d (Unit {0})
refused-error limits b d w =
    elim (test_lt (length b) 12) [
      | inl t ↦ absurd (let k = sight-short limits b t.1 in cc)
      | inr t ↦ under-error limits b (header_of (take 12 b)) d (sym (sight-headed limits b t.1) ∙ w)
    ]

-- what is seen, by the variant

pub seen-as : (limits : Limits) (g : List ℕ) (s t : Seen) → s ≡ t → sight_at s g ≡ sight limits g → sight_at t g ≡ sight limits g
seen-as limits g s t e k = subst (λ (x : Seen). sight_at x g ≡ sight limits g) e k

pub exact-as : (limits : Limits) (g : List ℕ) (s t : Seen) → s ≡ t → IsExact limits g (sight_at s g) → IsExact limits g (sight_at t g)
exact-as limits g s t e k = subst (λ (x : Seen). IsExact limits g (sight_at x g)) e k

pub needs-as : (limits : Limits) (g : List ℕ) (s t : Seen) → s ≡ t → NeedsAsSeen s limits g → NeedsAsSeen t limits g
needs-as limits g s t e k = subst (λ (x : Seen). NeedsAsSeen x limits g) e k

-- octets that are passed over
pub goes-over : (limits : Limits) (w : List ℕ) (o p n : ℕ) (piece : List ℕ) → n ≤ o → n ≤ length piece → p ≡ o - n → IsPassed limits w o (take n piece) None w p
goes-over limits w o p n piece few within is =
    let size : length (take n piece) ≡ n = length-take-le n piece within in
    ap (split_from limits w o) (sym (append-nil (take n piece))) ∙ split-over limits w o p (take n piece) [] (omega (arith, size, few)) (omega (arith, size, is))

-- octets that were gathered to g, from the front of a piece, where none is passed over
module _ (limits : Limits) (w g piece : List ℕ) (o n : ℕ) (none : o ≡ 0) (gathered : g ≡ w ++ take n piece) (within : n ≤ length piece) where
  front-length : length (take n piece) ≡ n
  front-length = length-take-le n piece within

  at-none : (c : List ℕ) (t : Split) → split_from limits w 0 c ≡ t → split_from limits w o c ≡ t
  at-none c t e = ap (λ (x : ℕ). split_from limits w x c) none ∙ e

  pub goes-waiting : Waiting ≡ sight limits g → IsPassed limits w o (take n piece) None g o
  goes-waiting w' =
      let c = take n piece in
      at-none c _ (ap (split_from limits w 0) (sym (append-nil c)) ∙ split-waiting limits w c [] (ap (sight limits) (sym gathered) ∙ sym w')
      ∙ rw (← gathered, none) refl)

  pub goes-kept : (h : Header) → 0 < n → Whole (framed h g) ≡ sight limits g → length g ≡ kept_size limits h → IsPassed limits w o (take n piece) (Some h) g (over_size limits h)
  goes-kept h some seen exact =
      let c = take n piece in
      at-none c _ (ap (split_from limits w 0) (sym (append-nil c)) ∙ split-whole limits w c [] (framed h g) (ap (sight limits) (sym gathered) ∙ sym seen) (ap length (sym gathered) ∙ exact) (omega (arith, some, front-length)))

  stops : (e : StreamFault) → 0 < n → Refused e ≡ sight limits g → length g ≡ 12 → Stops limits w o piece e
  stops e some seen exact =
      let c = take n piece in
      let all = at-none (c ++ drop n piece) _ (split-refused limits w c (drop n piece) e (ap (sight limits) (sym gathered) ∙ sym seen) (ap length (sym gathered) ∙ exact) (omega (arith, some, front-length))) in
      let whole : split_from limits w o piece ≡ record { frames = []; rest = w ++ c; over = 0; fault = Some e } = ap (split_from limits w o) (sym (take-append-drop n piece)) ∙ all in
      record { frames = ap (λ (t : Split). t.frames) whole; fault = ap (λ (t : Split). t.fault) whole }

  pub fails : (e : StreamFault) → 0 < n → Refused e ≡ sight limits g → length g ≡ 12 → IsRefused limits w o piece e
  fails e some seen exact = on-fault e (Unit {0}) (Stops limits w o piece e) (λ u. stops e some seen exact) (refused-error limits g e (sym seen))

-- a step after a step

pub step-nothing : (limits : Limits) (w : List ℕ) (o : ℕ) → IsPassed limits w o [] None w o
step-nothing limits w o = refl

further : (limits : Limits) (w : List ℕ) (o : ℕ) (c d x b : List ℕ) (p : ℕ) → c ++ d ≡ x → IsPassed limits w o c None b p → split_from limits w o x ≡ split_from limits b p d
further limits w o c d x b p is first =
    let none : (split_from limits w o c).fault ≡ None = ap (λ (t : Split). t.fault) first in
    ap (split_from limits w o) (sym is) ∙ split-append limits w o c d none ∙ ap (λ (t : Split). after_frames t.frames (split_from limits t.rest t.over d)) first

pub step-step : (limits : Limits) (w : List ℕ) (o : ℕ) (c d x b : List ℕ) (p : ℕ) (complete : Option Header) (b' : List ℕ) (p' : ℕ) → c ++ d ≡ x → IsPassed limits w o c None b p → IsPassed limits b p d complete b' p' → IsPassed limits w o x complete b' p'
step-step limits w o c d x b p complete b' p' is first second = further limits w o c d x b p is first ∙ second

pub fault-further : (limits : Limits) (w : List ℕ) (o : ℕ) (c d x b : List ℕ) (p : ℕ) (e : StreamFault) → c ++ d ≡ x → IsPassed limits w o c None b p → IsRefused limits b p d e → IsRefused limits w o x e
fault-further limits w o c d x b p e is first f =
    let all = further limits w o c d x b p is first in
    on-fault e (Stops limits b p d e) (Stops limits w o x e) (λ s. record { frames = ap (λ (t : Split). t.frames) all ∙ s.frames; fault = ap (λ (t : Split). t.fault) all ∙ s.fault }) f

-- the octets of two steps
pub take-further : (n m : ℕ) (piece : List ℕ) → take n piece ++ take m (drop n piece) ≡ take (n + m) piece
take-further n m piece = sym (take-add n m piece)

-- a stream, and octets after it

pub stands-more : (limits : Limits) (s c w : List ℕ) (o : ℕ) (t : Split) → fault_of limits s ≡ None → w ≡ (split limits s).rest → o ≡ (split limits s).over → split_from limits w o c ≡ t → split limits (s ++ c) ≡ after_frames (frames_of limits s) t
unfolding split
stands-more limits s c w o t none rest over e =
    split-append limits [] 0 s c none
    ∙ ap (after_frames (frames_of limits s)) (ap (λ (x : List ℕ). split_from limits x (split_from limits [] 0 s).over c) (sym rest) ∙ ap (λ (x : ℕ). split_from limits w x c) (sym over) ∙ e)

-- what is kept of the frame that is lent, or of the one that has not come, is no more than a message may have
pub held-within : (limits : Limits) (complete : Option Header) (b : List ℕ) (needed : ℕ) → Needs limits (pending_at complete b) needed → IsKept limits complete b → octets_held (frame_at complete b) (pending_at complete b) ≤ limits.message
held-within limits None b needed needs kept = waiting-within limits b (needs-waits limits b needed needs)
held-within limits (Some h) b needed needs kept = omega (arith, length-drop 12 b, kept.headed, kept.within)

-- what is kept of a frame
pub front-is : (limits : Limits) (h : Header) (b : List ℕ) → length b ≡ kept_size limits h → IsFront limits h b
front-is limits h b size =
    let k = kept-within limits h in
    record { headed = omega (arith, size, k.0); within = omega (arith, size, k.1); size = size }

-- a reader that holds nothing
pub nothing-held : (limits : Limits) (failed : Bool) (b : List ℕ) → b ≡ [] → IsSplitting limits failed None b 12
nothing-held limits failed b e = record {
  needs = subst (λ (x : List ℕ). Needs limits x 12) (sym e) (needs-nothing limits);
  kept = tt;
  silent = λ f. (refl, e);
}

-- a reader that stands for a stream, and octets after it
module _ (v : Splitting) (limits : Limits) (s c w : List ℕ) (o : ℕ) (bounds : limits ≡ v.limits) (rest : w ≡ v.pending) (over : o ≡ v.over) (stands : FramesStand v s) where
  more : (t : Split) → split_from limits w o c ≡ t → split v.limits (s ++ c) ≡ after_frames (frames_of v.limits s) t
  more t e = stands-more v.limits s c w o t stands.faultless (rest ∙ stands.waiting) (over ∙ stands.passed) (ap (λ (l : Limits). split_from l w o c) (sym bounds) ∙ e)

  pub feed-stands : (failed : Bool) → failed ≡ false → (complete : Option Header) (b : List ℕ) (p : ℕ) → IsPassed limits w o c complete b p → FramesStand (record { limits = limits; failed = failed; pending = pending_at complete b; over = p; frame = frame_at complete b }) (s ++ c)
  feed-stands failed live complete b p passed =
      let all = ap (λ (l : Limits). split l (s ++ c)) bounds ∙ more _ passed in
      record {
        live = live;
        faultless = ap (λ (t : Split). t.fault) all;
        waiting = sym (ap (λ (t : Split). t.rest) all);
        passed = sym (ap (λ (t : Split). t.over) all);
      }

  pub feed-frames : (complete : Option Header) (b : List ℕ) (p : ℕ) → IsPassed limits w o c complete b p → frames_of v.limits (s ++ c) ≡ frames_of v.limits s ++ given (frame_at complete b)
  feed-frames complete b p passed = ap (λ (t : Split). t.frames) (more _ passed)

  pub feed-fails : (e : StreamFault) → IsRefused limits w o c e → IsFrameFault v.limits s c e
  feed-fails e f =
      let all = more (split_from limits w o c) refl in
      on-fault e (Stops limits w o c e) (Refuses v.limits s c e) (λ t. record {
        is = ap (λ (x : Split). x.fault) all ∙ t.fault;
        same = ap (λ (x : Split). x.frames) all ∙ ap (λ (fs : List Frame). frames_of v.limits s ++ fs) t.frames ∙ append-nil (frames_of v.limits s);
      }) f

-- what is not some is none
pub none-is : {A : Type 0} (o : Option A) → is_some o ≡ false → o ≡ None
none-is None e = refl
none-is (Some x) e = absurd cc
