-- What the messages of a stream are, and where they complete.
use Rattle.std.proofs.Common.{◌≡◌, ℕ, ◌+◌, ◌≤◌, ◌&&◌, ◌||◌, nat_lt, not, Bool, true, false, cond, List, [], ◌∷◌, ◌++◌, length, take, drop, slice_index, Option, Some, None, is_some, Result, Ok, Err, refl, sym, ap, subst, ◌∙◌, arith, length-append}
use Rattle.cdr_core.specs.declared.order.Order.{Order}
use Rattle.cdr_core.specs.Numbers.{number_of}
use Rattle.giop_core.specs.declared.error.MessageFault.{MessageFault}
use Rattle.giop_core.specs.declared.header.Header.{Header}
use Rattle.giop_core.specs.declared.header.HeaderFault.{HeaderFault}
use Rattle.giop_core.specs.declared.header.HeaderFault.TheVariants.{BadCut, BadType}
use Rattle.giop_core.specs.declared.header.MessageKind.{MessageKind}
use Rattle.giop_core.specs.declared.header.MessageKind.TheVariants.{Request, Reply, CancelRequest, LocateRequest, LocateReply, CloseConnection, MessageError, Fragment}
use Rattle.giop_core.specs.declared.header.Version.{Version}
use Rattle.giop_core.specs.declared.header.Version.TheVariants.{V10, V11, V12}
use Rattle.giop_core.specs.Content.{Content}
use Rattle.giop_core.specs.Headers.{can_be_cut, flags_of, has_kind, has_magic, header_of, is_possible, kind_of, of_flags, of_kind, of_version, version_of}
use Rattle.giop_frames.specs.declared.fault.StreamFault.{StreamFault}
use Rattle.giop_frames.specs.declared.fault.StreamFault.TheVariants.{MixedOrder, TooLarge, TooManyPartial, TwiceStarted}
use Rattle.giop_frames.specs.declared.limits.Limits.{Limits}
use Rattle.giop_frames.specs.declared.partial.Key.{Key}
use Rattle.giop_frames.specs.declared.partial.Key.TheVariants.{Of11}
use Rattle.giop_frames.specs.declared.reassembly.Role.{Role}
use Rattle.giop_frames.specs.declared.reassembly.Role.TheVariants.{Opens, Carries, Ends, Drops, Uncut, Apart}
use Rattle.giop_frames.specs.Completing.{AreMessages, AreRising, IsMessage}
use Rattle.giop_frames.specs.Cutting.{is_fragment}
use Rattle.giop_frames.specs.Fragments.{Bad, Done, Partial, Quiet, Verdict, content_of, has_id, key_of, may_come, is_same_order, joinable, joined, judged, judged_as, judged_by, judged_carried, judged_ended, judged_whole, on_content, partial_of, partials_in, payload_of, role_in, role_of}
use Rattle.giop_frames.specs.Frames.{Frame, Refused, Split, Waiting, Whole, sight, split, split_from}
use Rattle.giop_frames.specs.Laws.{MessagesAreWhole, PartialsAreCounted, PlacesRise}
use Rattle.giop_frames.specs.Refusing.{IsFine}
use Rattle.giop_frames.specs.Splitting.{IsFrame}
use Rattle.giop_frames.specs.Streams.{Entry, Follows, Reading, fault_of, frames_of, messages_of, part_in, place_after, reading_from}
use Rattle.giop_frames.specs.Private.{parts_after}
use Rattle.giop_frames.proofs.Bounds.{admitted-within, done-reads}
use Rattle.giop_frames.proofs.Places.{faultless-split, frames_length, whole-length}
use Rattle.giop_frames.proofs.Positions.{begun_found}
use Rattle.giop_frames.proofs.Readings.{step-bad, step-done, step-quiet}
use Rattle.giop_frames.proofs.Sights.{nothing-waits}
use Rattle.giop_frames.proofs.Splits.{step-refused, step-waiting, step-whole}
use Rattle.giop_frames.proofs.Splitting.{exact-next, sight-frame}
use Rattle.giop_frames.proofs.Tables.{follows-step, judged-follows}

-- a header that is read can be one

possible-if : (kind cut more : Bool) (e d : HeaderFault) (h k : Header) → cond (not kind) (Err e) (cond (more && not cut) (Err d) (Ok h)) ≡ Ok k → ((kind && (not more || cut)) ≡ true) × (h ≡ k)
possible-if false cut more e d h k is = absurd cc
possible-if true true true e d h k is = (refl, cc)
possible-if true true false e d h k is = (refl, cc)
possible-if true false false e d h k is = (refl, cc)
possible-if true false true e d h k is = absurd cc

possible-kind : (octets : List ℕ) (v : Version) (flags : Order × Bool) (kind : Option MessageKind) (h : Header) → of_kind octets v flags kind ≡ Ok h → is_possible h ≡ true
possible-kind octets v flags None h is = absurd cc
possible-kind octets v flags (Some kind) h is =
    let k : Header = record { version = v; order = flags.0; more = flags.1; kind = kind; size = number_of flags.0 4 (drop 8 octets) } in
    let p = possible-if (has_kind v kind) (can_be_cut v kind) flags.1 BadType BadCut k h is in
    subst (λ (x : Header). is_possible x ≡ true) p.1 p.0

possible-flags : (octets : List ℕ) (v : Version) (flags : Option (Order × Bool)) (h : Header) → of_flags octets v flags ≡ Ok h → is_possible h ≡ true
possible-flags octets v None h is = absurd cc
possible-flags octets v (Some flags) h is = possible-kind octets v flags (kind_of (slice_index octets 7)) h is

possible-version : (octets : List ℕ) (v : Option Version) (h : Header) → of_version octets v ≡ Ok h → is_possible h ≡ true
possible-version octets None h is = absurd cc
possible-version octets (Some v) h is = possible-flags octets v (flags_of v (slice_index octets 6)) h is

possible-magic : (octets : List ℕ) (b : Bool) (e : HeaderFault) (h : Header) → cond b (of_version octets (version_of (slice_index octets 4) (slice_index octets 5))) (Err e) ≡ Ok h → is_possible h ≡ true
possible-magic octets false e h is = absurd cc
possible-magic octets true e h is = possible-version octets (version_of (slice_index octets 4) (slice_index octets 5)) h is

pub possible-read : (octets : List ℕ) (h : Header) → header_of octets ≡ Ok h → is_possible h ≡ true
unfolding header_of
possible-read octets h is = possible-magic octets (has_magic octets) _ h is

-- a frame that is no part of a cut message announces no more, and is no Fragment

abbrev IsPlain : Bool → MessageKind → Type 0
IsPlain more kind = (more ≡ false) × (kind ≡ Fragment → ⊥)

abbrev IsAlone : Role → Type 0
IsAlone Opens = ⊥
IsAlone Carries = ⊥
IsAlone Ends = ⊥
IsAlone Drops = Unit {0}
IsAlone Uncut = Unit {0}
IsAlone Apart = Unit {0}

no-fragment : (kind : MessageKind) → is_fragment kind ≡ false → kind ≡ Fragment → ⊥
no-fragment kind e k = let t : is_fragment Fragment ≡ false = subst (λ (x : MessageKind). is_fragment x ≡ false) k e in absurd cc

plain : (v : Version) (kind : MessageKind) (more : Bool) → (has_kind v kind && (not more || can_be_cut v kind)) ≡ true → IsAlone (role_in v kind more) → (more ≡ false) × (is_fragment kind ≡ false)
plain V10 Fragment more possible alone = absurd cc
plain V10 Request false possible alone = (refl, refl)
plain V10 Reply false possible alone = (refl, refl)
plain V10 CancelRequest false possible alone = (refl, refl)
plain V10 LocateRequest false possible alone = (refl, refl)
plain V10 LocateReply false possible alone = (refl, refl)
plain V10 CloseConnection false possible alone = (refl, refl)
plain V10 MessageError false possible alone = (refl, refl)
plain V10 Request true possible alone = absurd cc
plain V10 Reply true possible alone = absurd cc
plain V10 CancelRequest true possible alone = absurd cc
plain V10 LocateRequest true possible alone = absurd cc
plain V10 LocateReply true possible alone = absurd cc
plain V10 CloseConnection true possible alone = absurd cc
plain V10 MessageError true possible alone = absurd cc
plain V11 Fragment true possible alone = absurd alone
plain V11 Fragment false possible alone = absurd alone
plain V11 Request true possible alone = absurd alone
plain V11 Reply true possible alone = absurd alone
plain V11 LocateRequest true possible alone = absurd alone
plain V11 LocateReply true possible alone = absurd alone
plain V11 CancelRequest true possible alone = absurd cc
plain V11 CloseConnection true possible alone = absurd cc
plain V11 MessageError true possible alone = absurd cc
plain V11 Request false possible alone = (refl, refl)
plain V11 Reply false possible alone = (refl, refl)
plain V11 CancelRequest false possible alone = (refl, refl)
plain V11 LocateRequest false possible alone = (refl, refl)
plain V11 LocateReply false possible alone = (refl, refl)
plain V11 CloseConnection false possible alone = (refl, refl)
plain V11 MessageError false possible alone = (refl, refl)
plain V12 Fragment true possible alone = absurd alone
plain V12 Fragment false possible alone = absurd alone
plain V12 Request true possible alone = absurd alone
plain V12 Reply true possible alone = absurd alone
plain V12 LocateRequest true possible alone = absurd alone
plain V12 LocateReply true possible alone = absurd alone
plain V12 CancelRequest true possible alone = absurd cc
plain V12 CloseConnection true possible alone = absurd cc
plain V12 MessageError true possible alone = absurd cc
plain V12 Request false possible alone = (refl, refl)
plain V12 Reply false possible alone = (refl, refl)
plain V12 CancelRequest false possible alone = (refl, refl)
plain V12 LocateRequest false possible alone = (refl, refl)
plain V12 LocateReply false possible alone = (refl, refl)
plain V12 CloseConnection false possible alone = (refl, refl)
plain V12 MessageError false possible alone = (refl, refl)

-- a first frame is no Fragment

fragment-role : (v : Version) (more : Bool) → role_in v Fragment more ≡ Opens → ⊥
fragment-role v true e = absurd cc
fragment-role v false e = absurd cc

opens-kind : (h : Header) → role_of h ≡ Opens → h.kind ≡ Fragment → ⊥
opens-kind h is k = fragment-role h.version h.more (ap (λ (x : MessageKind). role_in h.version x h.more) (sym k) ∙ is)

partial-opens : (earlier : List Frame) (i : Key) (p : Partial) → partial_of earlier i ≡ Some p → role_of p.header ≡ Opens
partial-opens earlier i p e = let b = begun_found earlier i p e in ap (λ (q : Partial). role_of q.header) b.says ∙ b.opens

-- what is done is whole

record IsWholeBy (m : Frame) : Type 0 where
  alone : m.header.more ≡ false
  size : m.header.size ≡ length m.octets
  kind : m.header.kind ≡ Fragment → ⊥

abbrev Tells : Verdict → Type 0
Tells (Bad e) = Unit {0}
Tells Quiet = Unit {0}
Tells (Done m) = IsWholeBy m

tells-cond : (b : Bool) (e : StreamFault) (v : Verdict) → Tells v → Tells (cond b (Bad e) v)
tells-cond true e v t = tt
tells-cond false e v t = t

tells-content : (f : Frame) (r : Result Content MessageFault) → IsWholeBy f → Tells (on_content f r)
tells-content f (Err e) w = tt
tells-content f (Ok m) w = w

tells-whole : (f : Frame) → IsWholeBy f → Tells (judged_whole f)
tells-whole f w = tells-content f (content_of f.header f.octets) w

tells-carried : (r : Result Partial StreamFault) → Tells (judged_carried r)
tells-carried (Err e) = tt
tells-carried (Ok p) = tt

tells-joined : (f : Frame) (a b : Bool) (e d : StreamFault) (p : Partial) → role_of p.header ≡ Opens → Tells (judged_ended f (cond a (Err e) (cond b (Err d) (Ok p))))
tells-joined f true b e d p opens = tt
tells-joined f false true e d p opens = tt
tells-joined f false false e d p opens = tells-whole (joined p f) (record { alone = refl; size = refl; kind = opens-kind p.header opens })

tells-ended : (limits : Limits) (f : Frame) (before : Option Partial) → ((p : Partial) → before ≡ Some p → role_of p.header ≡ Opens) → Tells (judged_ended f (joinable limits f before))
tells-ended limits f None opens = tt
tells-ended limits f (Some p) opens = tells-joined f (not (is_same_order p.header.order f.header.order)) (nat_lt limits.message (12 + length (p.octets ++ payload_of f))) MixedOrder TooLarge p (opens p refl)

tells-as : (r : Role) (limits : Limits) (before : Option Partial) (n : ℕ) (f : Frame) → ((p : Partial) → before ≡ Some p → role_of p.header ≡ Opens) → (IsAlone r → IsWholeBy f) → Tells (judged_as r limits before n f)
unfolding judged_as
tells-as Opens limits before n f opens whole = tells-cond (is_some before) TwiceStarted _ (tells-cond _ TooManyPartial Quiet tt)
tells-as Carries limits before n f opens whole = tells-carried (joinable limits f before)
tells-as Ends limits before n f opens whole = tells-ended limits f before opens
tells-as Drops limits before n f opens whole = tells-whole f (whole tt)
tells-as Uncut limits before n f opens whole = tells-cond (is_some before) TwiceStarted _ (tells-whole f (whole tt))
tells-as Apart limits before n f opens whole = tells-whole f (whole tt)

whole-alone : (limits : Limits) (f : Frame) (octets : List ℕ) → IsFrame limits f octets → 12 + length f.octets ≡ length octets → IsAlone (role_of f.header) → IsWholeBy f
whole-alone limits f octets i size alone =
    let p = plain f.header.version f.header.kind f.header.more (possible-read (take 12 octets) f.header i.header) alone in
    record { alone = p.0; size = omega (arith, i.long, size); kind = no-fragment f.header.kind p.1 }

tells-by : (limits : Limits) (early before : Option Partial) (n : ℕ) (f : Frame) → ((p : Partial) → before ≡ Some p → role_of p.header ≡ Opens) → (IsAlone (role_of f.header) → IsWholeBy f) → Tells (judged_by limits early before n f)
unfolding judged_by
tells-by limits early before n f opens whole =
    tells-cond (not (may_come (role_of f.header) f.header.version) && is_some early) _ _
    (tells-cond (has_id (role_of f.header) f.header.version && nat_lt (length f.octets) 4) _ _ (tells-as (role_of f.header) limits before n f opens whole))

-- a frame of a stream

record IsGood (limits : Limits) (f : Frame) : Type 0 where
  octets : List ℕ
  is : IsFrame limits f octets
  size : 12 + length f.octets ≡ length octets

abbrev AreGood : Limits → List Frame → Type 0
AreGood limits [] = Unit {0}
AreGood limits (f ∷ fs) = IsGood limits f × AreGood limits fs

split-good : (limits : Limits) (w s : List ℕ) → sight limits w ≡ Waiting → AreGood limits (split_from limits w s).frames
split-good limits w [] waits = tt
split-good limits w (x ∷ s) waits =
    (elim (sight limits (w ++ x ∷ [])) as (λ v. sight limits (w ++ x ∷ []) ≡ v → AreGood limits (split_from limits w (x ∷ s)).frames) [
      | Waiting ↦ λ e. subst (λ (t : Split). AreGood limits t.frames) (sym (step-waiting limits w x s e)) (split-good limits (w ++ x ∷ []) s e)
      | Whole f ↦ λ e.
          let good : IsGood limits f = record { octets = w ++ x ∷ []; is = sight-frame limits (w ++ x ∷ []) f e (exact-next limits w x f waits e); size = whole-length limits (w ++ x ∷ []) f e } in
          subst (λ (t : Split). AreGood limits t.frames) (sym (step-whole limits w x s f e)) (good, split-good limits [] s (nothing-waits limits))
      | Refused d ↦ λ e. subst (λ (t : Split). AreGood limits t.frames) (sym (step-refused limits w x s d e)) tt
    ]) refl

done-message : (limits : Limits) (earlier : List Frame) (f m : Frame) → IsGood limits f → judged limits earlier f ≡ Done m → IsMessage limits m
done-message limits earlier f m good e =
    let fits : 12 + length f.octets ≤ limits.message = omega (arith, good.size, good.is.long, (admitted-within limits f.header f.header good.is.taken).1) in
    let reads = done-reads limits (partial_of earlier Of11) (partial_of earlier (key_of f)) (partials_in earlier) f m fits e in
    let tells : Tells (Done m) = subst Tells e (tells-by limits (partial_of earlier Of11) (partial_of earlier (key_of f)) (partials_in earlier) f (partial-opens earlier (key_of f)) (whole-alone limits f good.octets good.is good.size)) in
    record { reads = reads.1; alone = tells.alone; size = tells.size; within = reads.0; kind = tells.kind }

messages-from : (limits : Limits) (earlier : List Frame) (last : Option StreamFault) (fs : List Frame) → AreGood limits fs → AreMessages limits (reading_from limits earlier last fs).messages
messages-from limits earlier last [] good = tt
messages-from limits earlier last (f ∷ fs) good =
    (elim (judged limits earlier f) as (λ v. judged limits earlier f ≡ v → AreMessages limits (reading_from limits earlier last (f ∷ fs)).messages) [
      | Bad e ↦ λ j. subst (λ (r : Reading). AreMessages limits r.messages) (sym (step-bad limits earlier last f fs e j)) tt
      | Quiet ↦ λ j. subst (λ (r : Reading). AreMessages limits r.messages) (sym (step-quiet limits earlier last f fs j)) (messages-from limits (f ∷ earlier) last fs good.1)
      | Done m ↦ λ j. subst (λ (r : Reading). AreMessages limits r.messages) (sym (step-done limits earlier last f fs m j)) (done-message limits earlier f m good.0 j, messages-from limits (f ∷ earlier) last fs good.1)
    ]) refl

pub messages_whole : MessagesAreWhole
unfolding messages_of split
messages_whole limits s = messages-from limits [] (split_from limits [] s).fault (split_from limits [] s).frames (split-good limits [] s (nothing-waits limits))

-- where they complete

frames-fit : (limits : Limits) (w s : List ℕ) → frames_length (split_from limits w s).frames ≤ length w + length s
frames-fit limits w [] = omega arith
frames-fit limits w (x ∷ s) =
    (elim (sight limits (w ++ x ∷ [])) as (λ v. sight limits (w ++ x ∷ []) ≡ v → frames_length (split_from limits w (x ∷ s)).frames ≤ length w + length (x ∷ s)) [
      | Waiting ↦ λ e. omega (arith, ap (λ (t : Split). frames_length t.frames) (step-waiting limits w x s e), frames-fit limits (w ++ x ∷ []) s, length-append w (x ∷ []))
      | Whole f ↦ λ e. omega (arith, ap (λ (t : Split). frames_length t.frames) (step-whole limits w x s f e), frames-fit limits [] s, whole-length limits (w ++ x ∷ []) f e, length-append w (x ∷ []))
      | Refused d ↦ λ e. omega (arith, ap (λ (t : Split). frames_length t.frames) (step-refused limits w x s d e))
    ]) refl

rising-from : (limits : Limits) (earlier : List Frame) (last : Option StreamFault) (fs : List Frame) (n end : ℕ) → n ≤ place_after earlier → place_after earlier + frames_length fs ≤ end → AreRising n end (reading_from limits earlier last fs).messages
rising-from limits earlier last [] n end low high = tt
rising-from limits earlier last (f ∷ fs) n end low high =
    let next : place_after (f ∷ earlier) + frames_length fs ≤ end = omega (arith, high) in
    (elim (judged limits earlier f) as (λ v. judged limits earlier f ≡ v → AreRising n end (reading_from limits earlier last (f ∷ fs)).messages) [
      | Bad e ↦ λ j. subst (λ (r : Reading). AreRising n end r.messages) (sym (step-bad limits earlier last f fs e j)) tt
      | Quiet ↦ λ j. subst (λ (r : Reading). AreRising n end r.messages) (sym (step-quiet limits earlier last f fs j)) (rising-from limits (f ∷ earlier) last fs n end (omega (arith, low)) next)
      | Done m ↦ λ j. subst (λ (r : Reading). AreRising n end r.messages) (sym (step-done limits earlier last f fs m j)) (omega (arith, low), omega (arith, next), rising-from limits (f ∷ earlier) last fs (place_after (f ∷ earlier)) end (omega arith) next)
    ]) refl

pub places_rise : PlacesRise
unfolding messages_of split
places_rise limits s = rising-from limits [] (split_from limits [] s).fault (split_from limits [] s).frames 0 (length s) (omega arith) (omega (arith, frames-fit limits [] s))

-- the partial messages as a list

follows-from : (limits : Limits) (earlier : List Frame) (ps : List Entry) (fs : List Frame) → Follows ps earlier → (reading_from limits earlier None fs).fault ≡ None → (qs : List Entry) × Follows qs (reading_from limits earlier None fs).earlier
follows-from limits earlier ps [] w n = (ps, w)
follows-from limits earlier ps (f ∷ fs) w n =
    let same = judged-follows limits ps earlier f w in
    (elim (judged limits earlier f) as (λ v. judged limits earlier f ≡ v → (qs : List Entry) × Follows qs (reading_from limits earlier None (f ∷ fs)).earlier) [
      | Bad e ↦ λ j. absurd (let k : Some e ≡ None = ap (λ (r : Reading). r.fault) (sym (step-bad limits earlier None f fs e j)) ∙ n in cc)
      | Quiet ↦ λ j.
          let here = step-quiet limits earlier None f fs j in
          let fine : IsFine (judged_by limits (part_in ps Of11) (part_in ps (key_of f)) (length ps) f) = subst IsFine (sym (same ∙ j)) tt in
          let later = follows-from limits (f ∷ earlier) (parts_after ps f) fs (follows-step limits ps earlier f w fine) (ap (λ (r : Reading). r.fault) (sym here) ∙ n) in
          (later.0, subst (λ (r : Reading). Follows later.0 r.earlier) (sym here) later.1)
      | Done m ↦ λ j.
          let here = step-done limits earlier None f fs m j in
          let fine : IsFine (judged_by limits (part_in ps Of11) (part_in ps (key_of f)) (length ps) f) = subst IsFine (sym (same ∙ j)) tt in
          let later = follows-from limits (f ∷ earlier) (parts_after ps f) fs (follows-step limits ps earlier f w fine) (ap (λ (r : Reading). r.fault) (sym here) ∙ n) in
          (later.0, subst (λ (r : Reading). Follows later.0 r.earlier) (sym here) later.1)
    ]) refl

pub partials_counted : PartialsAreCounted
unfolding fault_of frames_of split
partials_counted limits s n =
    let first = split_from limits [] s in
    let none : first.fault ≡ None = faultless-split limits s n in
    let ends : (reading_from limits [] None first.frames).fault ≡ None = ap (λ (last : Option StreamFault). (reading_from limits [] last first.frames).fault) (sym none) ∙ n in
    let all = follows-from limits [] [] first.frames (record { each = λ k. refl; count = refl; distinct = tt }) ends in
    (all.0, subst (λ (last : Option StreamFault). Follows all.0 (reading_from limits [] last first.frames).earlier) (sym none) all.1)
