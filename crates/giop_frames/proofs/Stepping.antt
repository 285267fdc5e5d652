-- One step of a stream in the shape of the code's goals, and steps one after another.
use Rattle.std.proofs.Common.{◌≡◌, ℕ, ◌+◌, ◌<◌, ◌≤◌, List, [], ◌++◌, length, take, drop, Option, Some, None, sym, ap, subst, ◌∙◌, arith, append_assoc, length-drop}
use Rattle.std.proofs.lemmas.List.{append-nil, length-take-le, take-append-drop}
use Rattle.std.proofs.Math.Seq.{take-add}
use Rattle.giop_core.specs.declared.header.Header.{Header}
use Rattle.giop_frames.specs.declared.fault.StreamFault.{StreamFault}
use Rattle.giop_frames.specs.declared.fault.StreamFault.TheVariants.{Header as BadHeader, TooLarge, UnalignedFragment, StrayFragment, TwiceStarted, TooManyPartial, Body, MixedOrder, Memory, Failed}
use Rattle.giop_frames.specs.declared.deframer.Seen.{Seen}
use Rattle.giop_frames.specs.declared.limits.Limits.{Limits}
use Rattle.giop_frames.specs.declared.partial.Key.TheVariants.{Of11}
use Rattle.giop_frames.specs.declared.reassembly.Settled.{Settled}
use Rattle.giop_frames.specs.declared.reassembly.Settled.TheVariants.{Quiet as SettledQuiet, Done as SettledDone, Bad as SettledBad}
use Rattle.giop_frames.specs.Frames.{Refused, Waiting, Whole, frame_size, sight}
use Rattle.giop_frames.specs.Fragments.{key_of, judged_by}
use Rattle.giop_frames.specs.Standing.{AreWithin, IsFault, OnFault, completed_at, framed, message_at, pending_at}
use Rattle.giop_frames.specs.Streams.{Completed, Entry, Faults, Stands, fault_of, messages_of, part_in}
use Rattle.giop_frames.specs.Private.{IsExact, IsSettled, IsStep, IsWhole, NeedsAsSeen, sight_at}
use Rattle.giop_frames.proofs.Bounds.{IsError, bad-error, done-reads, refused-error, whole-within, within-step}
use Rattle.giop_frames.proofs.Places.{whole-length}
use Rattle.giop_frames.proofs.Standing.{faults-frame, faults-header, stands-done, stands-quiet, stands-waiting}
use Rattle.giop_frames.specs.Refusing.{IsFine}

-- what follows from a fact about a fault
pub on-fault : (e : StreamFault) (P Q : Type 0) → (P → Q) → OnFault e P → OnFault e Q
on-fault (BadHeader h) P Q f p = f p
on-fault TooLarge P Q f p = f p
on-fault UnalignedFragment P Q f p = f p
on-fault StrayFragment P Q f p = f p
on-fault TwiceStarted P Q f p = f p
on-fault TooManyPartial P Q f p = f p
on-fault (Body m) P Q f p = f p
on-fault MixedOrder P Q f p = f p
on-fault Memory P Q f p = tt
on-fault Failed P Q f p = p

-- and from two
pub on-fault_both : (e : StreamFault) (P Q R : Type 0) → (P → Q → R) → OnFault e P → OnFault e Q → OnFault e R
on-fault_both (BadHeader h) P Q R f p q = f p q
on-fault_both TooLarge P Q R f p q = f p q
on-fault_both UnalignedFragment P Q R f p q = f p q
on-fault_both StrayFragment P Q R f p q = f p q
on-fault_both TwiceStarted P Q R f p q = f p q
on-fault_both TooManyPartial P Q R f p q = f p q
on-fault_both (Body m) P Q R f p q = f p q
on-fault_both MixedOrder P Q R f p q = f p q
on-fault_both Memory P Q R f p q = tt
on-fault_both Failed P Q R f p q = p

pub fault-is : (limits : Limits) (s c : List ℕ) (e : StreamFault) → IsError e → Faults limits s c e → IsFault limits s c e
fault-is limits s c e err f = on-fault e (Unit {0}) (Faults limits s c e) (λ u. f) err

-- what is seen, by the variant

pub seen-as : (limits : Limits) (g : List ℕ) (s t : Seen) → s ≡ t → sight_at s g ≡ sight limits g → sight_at t g ≡ sight limits g
seen-as limits g s t e k = subst (λ (x : Seen). sight_at x g ≡ sight limits g) e k

pub exact-as : (g : List ℕ) (s t : Seen) → s ≡ t → IsExact g (sight_at s g) → IsExact g (sight_at t g)
exact-as g s t e k = subst (λ (x : Seen). IsExact g (sight_at x g)) e k

pub needs-as : (limits : Limits) (g : List ℕ) (s t : Seen) → s ≡ t → NeedsAsSeen s limits g → NeedsAsSeen t limits g
needs-as limits g s t e k = subst (λ (x : Seen). NeedsAsSeen x limits g) e k

pub settled-as : (s t : Settled) (limits : Limits) (h : Header) (b b' : List ℕ) (ps ps' : List Entry) → s ≡ t → IsSettled s limits h b b' ps ps' → IsSettled t limits h b b' ps ps'
settled-as s t limits h b b' ps ps' e k = subst (λ (x : Settled). IsSettled x limits h b b' ps ps') e k

-- octets c that were gathered to b, from the front of a piece
module _ (limits : Limits) (b g piece : List ℕ) (n : ℕ) (gathered : g ≡ b ++ take n piece) (within : n ≤ length piece) where
  front-length : length (take n piece) ≡ n
  front-length = length-take-le n piece within

  pub goes-waiting : (ps : List Entry) (s : List ℕ) → Waiting ≡ sight limits g → Stands limits b ps s → IsStep limits s (take n piece) None g ps
  goes-waiting ps s w stands =
      let k = stands-waiting limits b ps s (take n piece) stands (ap (sight limits) (sym gathered) ∙ sym w) in
      record { stands = subst (λ (x : List ℕ). Stands limits x ps (s ++ take n piece)) (sym gathered) k.0; messages = k.1 ∙ sym (append-nil (messages_of limits s)) }

  pub fails-header : (ps : List Entry) (s : List ℕ) (e : StreamFault) → 0 < n → Refused e ≡ sight limits g → length g ≡ 12 → Stands limits b ps s → IsFault limits s piece e
  fails-header ps s e some w exact stands =
      let seen : sight limits (b ++ take n piece) ≡ Refused e = ap (sight limits) (sym gathered) ∙ sym w in
      let f = faults-header limits b ps s (take n piece) (drop n piece) e stands seen (ap length (sym gathered) ∙ exact) (omega (arith, some, front-length)) in
      fault-is limits s piece e (refused-error limits g e (sym w)) (subst (λ (x : List ℕ). Faults limits s x e) (take-append-drop n piece) f)

  module _ (h : Header) (some : 0 < n) (seen : Whole (framed h g) ≡ sight limits g) (exact : length g ≡ frame_size h) where
    seen-whole : sight limits (b ++ take n piece) ≡ Whole (framed h g)
    seen-whole = ap (sight limits) (sym gathered) ∙ sym seen

    exact-whole : length (b ++ take n piece) ≡ frame_size h
    exact-whole = ap length (sym gathered) ∙ exact

    some-front : 0 < length (take n piece)
    some-front = omega (arith, some, front-length)

    -- the frame is within the limit
    frame-within : 12 + length (framed h g).octets ≤ limits.message
    frame-within = let size = whole-within limits g (framed h g) (sym seen) in omega (arith, size, exact, whole-length limits g (framed h g) (sym seen))

    pub goes-quiet : (b' : List ℕ) (ps ps' : List Entry) (s : List ℕ) → IsSettled SettledQuiet limits h g b' ps ps' → Stands limits b ps s → IsStep limits s (take n piece) None b' ps'
    goes-quiet b' ps ps' s settled stands =
        let k = stands-quiet limits b ps s (take n piece) (framed h g) stands seen-whole exact-whole some-front settled.0 in
        record {
          stands = subst (λ (x : List ℕ). Stands limits x ps' (s ++ take n piece)) (sym settled.1) (subst (λ (qs : List Entry). Stands limits [] qs (s ++ take n piece)) (sym settled.2) k.0);
          messages = k.1 ∙ sym (append-nil (messages_of limits s));
        }

    pub goes-done : (m : Header) (b' : List ℕ) (ps ps' : List Entry) (s : List ℕ) → IsSettled (SettledDone m) limits h g b' ps ps' → Stands limits b ps s → IsStep limits s (take n piece) (Some m) b' ps'
    goes-done m b' ps ps' s settled stands =
        let k = stands-done limits b ps s (take n piece) (framed h g) (framed m b') stands seen-whole exact-whole some-front settled.0 in
        record { stands = subst (λ (qs : List Entry). Stands limits [] qs (s ++ take n piece)) (sym settled.1) k.0; messages = k.1 }

    pub fails-frame : (b' : List ℕ) (ps ps' : List Entry) (s : List ℕ) (e : StreamFault) → IsSettled (SettledBad e) limits h g b' ps ps' → Stands limits b ps s → IsFault limits s piece e
    fails-frame b' ps ps' s e settled stands =
        let f = faults-frame limits b ps s (take n piece) (drop n piece) (framed h g) e stands seen-whole exact-whole some-front settled in
        fault-is limits s piece e (bad-error limits (part_in ps Of11) (part_in ps (key_of (framed h g))) (length ps) (framed h g) e frame-within settled) (subst (λ (x : List ℕ). Faults limits s x e) (take-append-drop n piece) f)

    pub keeps-done : (m : Header) (b' : List ℕ) (ps ps' : List Entry) → IsSettled (SettledDone m) limits h g b' ps ps' → IsWhole limits m b'
    keeps-done m b' ps ps' settled =
        let k = done-reads limits (part_in ps Of11) (part_in ps (key_of (framed h g))) (length ps) (framed h g) (framed m b') frame-within settled.0 in
        let all = settled.2 in
        record { headed = all; within = omega (arith, k.0, length-drop 12 b'); reads = k.1 }

    pub stays-quiet : (b' : List ℕ) (ps ps' : List Entry) → IsSettled SettledQuiet limits h g b' ps ps' → AreWithin limits ps → AreWithin limits ps'
    stays-quiet b' ps ps' settled w =
        let fine : IsFine (judged_by limits (part_in ps Of11) (part_in ps (key_of (framed h g))) (length ps) (framed h g)) = rw settled.0 tt in
        subst (AreWithin limits) (sym settled.2) (within-step limits ps (framed h g) frame-within w fine)

    pub stays-done : (m : Header) (b' : List ℕ) (ps ps' : List Entry) → IsSettled (SettledDone m) limits h g b' ps ps' → AreWithin limits ps → AreWithin limits ps'
    stays-done m b' ps ps' settled w =
        let fine : IsFine (judged_by limits (part_in ps Of11) (part_in ps (key_of (framed h g))) (length ps) (framed h g)) = rw settled.0 tt in
        subst (AreWithin limits) (sym settled.1) (within-step limits ps (framed h g) frame-within w fine)

-- a step after a step

pub step-nothing : (limits : Limits) (b : List ℕ) (ps : List Entry) (s : List ℕ) → Stands limits b ps s → IsStep limits s [] None b ps
step-nothing limits b ps s stands = record {
  stands = subst (Stands limits b ps) (sym (append-nil s)) stands;
  messages = ap (messages_of limits) (append-nil s) ∙ sym (append-nil (messages_of limits s));
}

pub step-step : (limits : Limits) (s c d x : List ℕ) (complete : Option Header) (b b' : List ℕ) (ps ps' : List Entry) → c ++ d ≡ x → IsStep limits s c None b ps → IsStep limits (s ++ c) d complete b' ps' → IsStep limits s x complete b' ps'
step-step limits s c d x complete b b' ps ps' is first second =
    let all : (s ++ c) ++ d ≡ s ++ x = append_assoc s c d ∙ ap (λ (y : List ℕ). s ++ y) is in
    let before : messages_of limits (s ++ c) ≡ messages_of limits s = first.messages ∙ append-nil (messages_of limits s) in
    record {
      stands = subst (Stands limits (pending_at complete b') ps') all second.stands;
      messages = ap (messages_of limits) (sym all) ∙ second.messages ∙ ap (λ (ms : List Completed). ms ++ completed_at (length (s ++ c ++ d)) (message_at complete b')) before ∙ ap (λ (y : List ℕ). messages_of limits s ++ completed_at (length y) (message_at complete b')) all;
    }

faults-further : (limits : Limits) (s c d x : List ℕ) (e : StreamFault) → c ++ d ≡ x → messages_of limits (s ++ c) ≡ messages_of limits s → Faults limits (s ++ c) d e → Faults limits s x e
faults-further limits s c d x e is same f =
    let all : (s ++ c) ++ d ≡ s ++ x = append_assoc s c d ∙ ap (λ (y : List ℕ). s ++ y) is in
    record { is = ap (fault_of limits) (sym all) ∙ f.is; same = ap (messages_of limits) (sym all) ∙ f.same ∙ same }

pub fault-further : (limits : Limits) (s c d x : List ℕ) (b : List ℕ) (ps : List Entry) (e : StreamFault) → c ++ d ≡ x → IsStep limits s c None b ps → IsFault limits (s ++ c) d e → IsFault limits s x e
fault-further limits s c d x b ps e is first f =
    let same : messages_of limits (s ++ c) ≡ messages_of limits s = first.messages ∙ append-nil (messages_of limits s) in
    on-fault e (Faults limits (s ++ c) d e) (Faults limits s x e) (faults-further limits s c d x e is same) f

-- the octets of two steps
pub take-further : (n m : ℕ) (piece : List ℕ) → take n piece ++ take m (drop n piece) ≡ take (n + m) piece
take-further n m piece = sym (take-add n m piece)
