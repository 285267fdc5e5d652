-- What is cut is read again.
use Rattle.std.proofs.Common.{◌≡◌, ℕ, zero, suc, ◌+◌, ◌-◌, ◌<◌, ◌≤◌, ◌==◌, ◌≢◌, ◌&&◌, nat_le, not, Bool, true, false, is_some, List, [], ◌∷◌, ◌++◌, length, take, drop, Option, Some, None, Ok, IsOk, refl, sym, ap, subst, ◌∙◌, inl, inr, arith, append_assoc, length-append, length-drop}
use Rattle.std.specs.List.{flat_map}
use Rattle.std.specs.Option.{option_map}
use Rattle.std.proofs.lemmas.List.{append-nil, drop_at, drop-append-le, length-take-le, take-append-drop}
use Rattle.cdr_core.specs.Numbers.{number_of}
use Rattle.giop_core.specs.declared.header.Header.{Header}
use Rattle.giop_core.specs.declared.header.MessageKind.{MessageKind}
use Rattle.giop_core.specs.declared.header.MessageKind.TheVariants.{Request, Reply, CancelRequest, LocateRequest, LocateReply, CloseConnection, MessageError, Fragment}
use Rattle.giop_core.specs.declared.header.Version.{Version}
use Rattle.giop_core.specs.declared.header.Version.TheVariants.{V10, V11, V12}
use Rattle.giop_core.specs.Headers.{can_be_cut, header_of, minor_of}
use Rattle.giop_frames.specs.declared.fault.StreamFault.{StreamFault}
use Rattle.giop_frames.specs.declared.limits.Limits.{Limits}
use Rattle.giop_frames.specs.declared.partial.Key.{Key}
use Rattle.giop_frames.specs.declared.partial.Key.TheVariants.{Of11, Of12}
use Rattle.giop_frames.specs.declared.reassembly.Role.{Role}
use Rattle.giop_frames.specs.declared.reassembly.Role.TheVariants.{Opens, Carries, Ends, Drops, Uncut, Apart}
use Rattle.giop_frames.specs.ReadAgain.{Completes, CutIsReadAgain, is_cancel, left_by, under}
use Rattle.giop_frames.specs.Cutting.{cut_octets, first_frame, fragment_of, fragments_of, frame_octets, is_cuttable_in, is_cuttable_under, is_fragment, chunks_from}
use Rattle.giop_frames.specs.Fragments.{Done, Partial, Quiet, partial_of, content_of, continued_by, payload_of, id_of, is_cancelled, is_same_order, judged, key_in, key_of, less_if, may_come, partials_in, role_in, role_of}
use Rattle.giop_frames.specs.Frames.{Frame, Split, frame_size, id_length, is_unaligned, may_be_cut, split, split_from}
use Rattle.giop_frames.specs.Splitting.{IsFrame, Splits}
use Rattle.giop_frames.specs.Streams.{Reading, fault_of, frames_of, messages_of, place_after, reading_from, reading_of, rest_of}
use Rattle.giop_core.specs.Laws.{HeadersAreReadAgain}
use Rattle.giop_frames.proofs.CutFrames.{AreFrames, admit-cut, and-not, cut-can, cut-has_id, cut-opens, cut-whole, fragment-roles, frame-again, frames-split, free-none, is_cut_kind, judged-alone, judged-carrying, judged-ending, judged-opening, key-front, key-take, same-order, whole_role}
use Rattle.giop_frames.proofs.Chunks.{fragments-more, chunks-last, chunks-more}
use Rattle.giop_frames.proofs.Deciding.{test_eq, test_key, test_le, test_lt}
use Rattle.giop_frames.proofs.Places.{faultless-split, place-length}
use Rattle.giop_frames.proofs.Readings.{after_messages, reading-append, step-done, step-quiet}
use Rattle.giop_frames.proofs.Sights.{nothing-waits}
use Rattle.giop_frames.proofs.Splits.{after_frames, split-append}
use Rattle.giop_frames.proofs.Splitting.{only_splits}
use Rattle.giop_frames.proofs.Standing.{rest-more}
use Rattle.giop_frames.proofs.Tables.{carries-other, carries-same, ends-other, ends-same, opens-other, opens-same, partial-role, partials-step}

-- one message, which completes with these frames
abbrev pub one_completed : List Frame → Frame → Reading
one_completed e m = record { messages = record { place = place_after e; message = m } ∷ []; fault = None; earlier = e }

-- what the frames of a message leave of the partial messages before them
pub record Leaves (m : Frame) (before after : List Frame) : Type 0 where
  pub partial : (k : Key) → partial_of after k ≡ left_by m k (partial_of before k)
  pub few : partials_in after ≤ partials_in before

finished : (limits : Limits) (s c : List ℕ) (e : List Frame) (m : Frame) → reading_of limits (s ++ c) ≡ after_messages (messages_of limits s) (one_completed e m) → rest_of limits (s ++ c) ≡ [] → Leaves m (frames_of limits s) e → Completes limits s c m
unfolding messages_of fault_of frames_of
finished limits s c e m all none left =
    let x = s ++ c in
    let ended : fault_of limits x ≡ None = ap (λ (r : Reading). r.fault) all in
    let last : place_after (frames_of limits x) ≡ place_after e = ap (λ (r : Reading). place_after r.earlier) all in
    let length_is : place_after (frames_of limits x) + length (rest_of limits x) ≡ length x = place-length limits x ended in
    let nothing : length (rest_of limits x) ≡ 0 = ap length none in
    let place : place_after e ≡ length x = omega (arith, last, length_is, nothing) in
    record {
      messages = ap (λ (r : Reading). r.messages) all ∙ ap (λ (p : ℕ). messages_of limits s ++ record { place = p; message = m } ∷ []) place;
      faultless = ended;
      all = none;
      partial = λ k. ap (λ (r : Reading). partial_of r.earlier k) all ∙ left.partial k;
      few = omega (arith, ap (λ (r : Reading). partials_in r.earlier) all, left.few);
    }

-- octets that are frames, which complete one message, at the end of a stream
module _ (limits : Limits) (s : List ℕ) (n : fault_of limits s ≡ None) (none : rest_of limits s ≡ []) where
  reading-more : (c : List ℕ) (fs : List Frame) → Splits limits c fs [] → reading_of limits (s ++ c) ≡ after_messages (messages_of limits s) (reading_from limits (frames_of limits s) None fs)
  unfolding fault_of rest_of split messages_of frames_of
  reading-more c fs is =
      let first = split limits s in
      let whole = faultless-split limits s n in
      let all = split-append limits [] s c whole ∙ ap (λ (w : List ℕ). after_frames first.frames (split_from limits w c)) none ∙ ap (after_frames first.frames) (only_splits limits c fs [] is (nothing-waits limits)) in
      let ends : (reading_from limits [] None first.frames).fault ≡ None = ap (λ (last : Option StreamFault). (reading_from limits [] last first.frames).fault) (sym whole) ∙ n in
      ap (λ (u : Split). reading_from limits [] u.fault u.frames) all ∙ reading-append limits [] None first.frames fs ends
      ∙ ap (λ (last : Option StreamFault). after_messages (reading_from limits [] last first.frames).messages (reading_from limits (reading_from limits [] last first.frames).earlier None fs)) (sym whole)

  rest-none : (c : List ℕ) (fs : List Frame) → Splits limits c fs [] → rest_of limits (s ++ c) ≡ []
  unfolding split
  rest-none c fs is = rest-more limits s c n ∙ ap (λ (w : List ℕ). (split_from limits w c).rest) none ∙ ap (λ (t : Split). t.rest) (only_splits limits c fs [] is (nothing-waits limits))

  pub completes : (c : List ℕ) (fs e : List Frame) (m : Frame) → Splits limits c fs [] → reading_from limits (frames_of limits s) None fs ≡ one_completed e m → Leaves m (frames_of limits s) e → Completes limits s c m
  completes c fs e m is read left = finished limits s c e m (reading-more c fs is ∙ ap (after_messages (messages_of limits s)) read) (rest-none c fs is) left

-- what is left of the partial messages: by a message that is read alone ..

abbrev pub IsLeaving : Role → Bool → Type 0
IsLeaving Drops true = Unit {0}
IsLeaving Uncut false = Unit {0}
IsLeaving Apart false = Unit {0}
IsLeaving r b = ⊥

leaves-by : (f : Frame) (earlier : List Frame) (k : Key) (r : Role) (b : Bool) → role_of f.header ≡ r → is_cancel f.header.kind ≡ b → IsLeaving r b → partial_of (f ∷ earlier) k ≡ left_by f k (partial_of earlier k)
leaves-by f earlier k Drops true role kind l = rw (role, kind) refl
leaves-by f earlier k Uncut false role kind l = rw (role, kind) refl
leaves-by f earlier k Apart false role kind l = rw (role, kind) refl
leaves-by f earlier k Opens b role kind l = absurd l
leaves-by f earlier k Carries b role kind l = absurd l
leaves-by f earlier k Ends b role kind l = absurd l
leaves-by f earlier k Drops false role kind l = absurd l
leaves-by f earlier k Uncut true role kind l = absurd l
leaves-by f earlier k Apart true role kind l = absurd l

few-less : (b : Bool) (n : ℕ) → less_if b n ≤ n
few-less true n = omega arith
few-less false n = omega arith

few-by : (f : Frame) (earlier : List Frame) (r : Role) (b : Bool) → role_of f.header ≡ r → IsLeaving r b → partials_in (f ∷ earlier) ≤ partials_in earlier
few-by f earlier Drops b role l =
    let i = id_of f in
    let n = less_if (is_some (partial_of earlier (Of12 i))) (partials_in earlier) in
    omega (arith, partials-step f earlier Drops role, few-less (is_cancelled i Of11 (partial_of earlier Of11)) n, few-less (is_some (partial_of earlier (Of12 i))) (partials_in earlier))
few-by f earlier Uncut b role l = omega (arith, partials-step f earlier Uncut role)
few-by f earlier Apart b role l = omega (arith, partials-step f earlier Apart role)
few-by f earlier Opens b role l = absurd l
few-by f earlier Carries b role l = absurd l
few-by f earlier Ends b role l = absurd l

pub leaves-role : (f : Frame) (earlier : List Frame) (r : Role) (b : Bool) → role_of f.header ≡ r → is_cancel f.header.kind ≡ b → IsLeaving r b → Leaves f earlier (f ∷ earlier)
leaves-role f earlier r b role kind l = record { partial = λ k. leaves-by f earlier k r b role kind l; few = few-by f earlier r b role l }

leaving-whole : (v : Version) → IsLeaving (whole_role v) false
leaving-whole V10 = tt
leaving-whole V11 = tt
leaving-whole V12 = tt

-- .. and by one that is cut, of a kind that cancels nothing

cut-stays : (v : Version) (kind : MessageKind) → is_cut_kind v kind ≡ true → is_cancel kind ≡ false
cut-stays v Request e = refl
cut-stays v Reply e = refl
cut-stays V10 CancelRequest e = absurd cc
cut-stays V11 CancelRequest e = absurd cc
cut-stays V12 CancelRequest e = absurd cc
cut-stays v LocateRequest e = refl
cut-stays v LocateReply e = refl
cut-stays v CloseConnection e = refl
cut-stays v MessageError e = refl
cut-stays v Fragment e = refl

leaves-cut : (m first : Frame) (earlier e : List Frame) (k : Key) → key_of first ≡ k → role_of first.header ≡ Opens → partial_of earlier k ≡ None → is_cancel m.header.kind ≡ false
    → partial_of e k ≡ None → ((j : Key) → k ≢ j → partial_of e j ≡ partial_of (first ∷ earlier) j) → partials_in e ≡ partials_in (first ∷ earlier) - 1 → Leaves m earlier e
leaves-cut m first earlier e k named role gone kind none other count = record {
  partial = λ j.
      elim (test_key k j) [
        | inl t ↦ ap (partial_of e) (sym t.1) ∙ none ∙ sym gone ∙ ap (partial_of earlier) t.1 ∙ rw kind refl
        | inr t ↦ other j t.1 ∙ partial-role first earlier j Opens role ∙ opens-other first j (partial_of earlier j) (λ e. t.1 (sym named ∙ e)) ∙ rw kind refl
      ];
  few = omega (arith, count, partials-step first earlier Opens role);
}

-- what may come while a message of a version is partial: in 1.2 none of 1.1 is

abbrev IsFree : Version → Option Partial → Type 0
IsFree V12 o = o ≡ None
IsFree _ o = Unit {0}

free-if : (v : Version) (o : Option Partial) → o ≡ None → IsFree v o
free-if V10 o e = tt
free-if V11 o e = tt
free-if V12 o e = e

free-carries : (v : Version) (o : Option Partial) → can_be_cut v Fragment ≡ true → IsFree v o → (not (may_come Carries v) && is_some o) ≡ false
free-carries V10 o cut free = absurd cc
free-carries V11 o cut free = refl
free-carries V12 o cut free = free-none Carries V12 o free

free-ends : (v : Version) (o : Option Partial) → can_be_cut v Fragment ≡ true → IsFree v o → (not (may_come Ends v) && is_some o) ≡ false
free-ends V10 o cut free = absurd cc
free-ends V11 o cut free = refl
free-ends V12 o cut free = free-none Ends V12 o free

free-next : (v : Version) (f : Frame) (earlier : List Frame) → f.header.version ≡ v → (key_of f ≢ Of11 → partial_of (f ∷ earlier) Of11 ≡ partial_of earlier Of11) → IsFree v (partial_of earlier Of11) → IsFree v (partial_of (f ∷ earlier) Of11)
free-next V10 f earlier is same free = tt
free-next V11 f earlier is same free = tt
free-next V12 f earlier is same free = same (λ e. absurd (let k : Of12 (id_of f) ≡ Of11 = sym (ap (λ (w : Version). key_in w (id_of f)) is) ∙ e in cc)) ∙ free

-- the Fragments of what is left, by how much it is

last-fragment : (h : Header) (id left : List ℕ) (r : ℕ) → length left ≤ r → fragments_of h id (chunks_from r [] left) ≡ fragment_of h id false left ∷ []
last-fragment h id left r short = ap (fragments_of h id) (chunks-last r [] left (omega (arith, short)))

more-fragments : (h : Header) (id left : List ℕ) (r : ℕ) → 0 < r → r < length left
    → fragments_of h id (chunks_from r [] left) ≡ fragment_of h id true (take r left) ∷ fragments_of h id (chunks_from r [] (drop r left))
more-fragments h id left r some long =
    let front = take r left in
    let others = drop r left in
    let size : length front ≡ r = length-take-le r left (omega (arith, long)) in
    let more : 0 < length others = omega (arith, length-drop r left, long) in
    ap (λ (x : List ℕ). fragments_of h id (chunks_from r [] x)) (sym (take-append-drop r left))
    ∙ ap (fragments_of h id) (chunks-more r [] front others some (omega (arith, size)) more)
    ∙ fragments-more h id front r [] others

-- the Fragments of what is left, after a first frame

module _ (again : HeadersAreReadAgain) (limits : Limits) (h hd : Header) (id whole : List ℕ) (r : ℕ) (cut : can_be_cut h.version Fragment ≡ true) (order : is_same_order hd.order h.order ≡ true) (full : length id ≡ id_length h.version) (some : 0 < r)
    (aligned : may_be_cut limits.cuts h.version (12 + (id_length h.version + r)) ≡ true) (within : 12 + length whole ≤ limits.message) (room : 12 + (id_length h.version + r) ≤ limits.message) (ok : IsOk (content_of (record hd { more = false; size = length whole }) whole)) where
  abbrev k : Key
  k = key_in h.version (number_of h.order 4 id)

  abbrev at : List ℕ → Partial
  at o = record { header = hd; octets = o }

  abbrev all_of : List ℕ → Frame
  all_of x = record { header = record hd { more = false; size = length x }; octets = x }

  key-is : (more : Bool) (x : List ℕ) → key_of (fragment_of h id more x) ≡ k
  key-is more x = key-front h.version h.order id x (omega (arith, full))

  payload-is : (more : Bool) (x : List ℕ) → payload_of (fragment_of h id more x) ≡ x
  payload-is more x = drop_at id x (id_length h.version) full

  long-is : (x : List ℕ) → length (id ++ x) ≡ length id + length x
  long-is x = length-append id x

  is-frame : (more : Bool) (x : List ℕ) → length x ≤ r → is_unaligned limits.cuts (fragment_of h id more x).header ≡ false → IsFrame limits (fragment_of h id more x) (frame_octets (fragment_of h id more x))
  is-frame more x short even = frame-again again limits (fragment_of h id more x) cut (sym (long-is x)) (omega (arith, long-is x, full, short, room)) even

  even-is : (x : List ℕ) → length x ≡ r → is_unaligned limits.cuts (fragment_of h id true x).header ≡ false
  even-is x e =
      let size : 12 + (length id + length x) ≡ 12 + (id_length h.version + r) = omega (arith, e, full) in
      and-not true _ (ap (may_be_cut limits.cuts h.version) size ∙ aligned)

  carries-role : role_in h.version Fragment true ≡ Carries
  carries-role = (fragment-roles h.version cut).0

  ends-role : role_in h.version Fragment false ≡ Ends
  ends-role = (fragment-roles h.version cut).1

  carries-on : (earlier : List Frame) (o x : List ℕ) → IsFree h.version (partial_of earlier Of11) → partial_of earlier k ≡ Some (at o) → 12 + length (o ++ x) ≤ limits.message → judged limits earlier (fragment_of h id true x) ≡ Quiet
  carries-on earlier o x free b fit =
      let f = fragment_of h id true x in
      let more : 12 + length (o ++ payload_of f) ≤ limits.message = omega (arith, fit, ap (λ (y : List ℕ). length (o ++ y)) (payload-is true x)) in
      judged-carrying limits earlier f (at o) carries-role (free-carries h.version (partial_of earlier Of11) cut free) (omega (arith, long-is x, full)) (ap (partial_of earlier) (key-is true x) ∙ b) order more

  partial-on : (earlier : List Frame) (o x : List ℕ) → partial_of earlier k ≡ Some (at o) → partial_of (fragment_of h id true x ∷ earlier) k ≡ Some (at (o ++ x))
  partial-on earlier o x b =
      let f = fragment_of h id true x in
      partial-role f earlier k Carries carries-role ∙ carries-same f k (partial_of earlier k) (key-is true x) ∙ ap (option_map (continued_by f)) b ∙ ap (λ (y : List ℕ). Some (at (o ++ y))) (payload-is true x)

  free-on : (earlier : List Frame) (x : List ℕ) → IsFree h.version (partial_of earlier Of11) → IsFree h.version (partial_of (fragment_of h id true x ∷ earlier) Of11)
  free-on earlier x free =
      let f = fragment_of h id true x in
      free-next h.version f earlier refl (λ n. partial-role f earlier Of11 Carries carries-role ∙ carries-other f Of11 (partial_of earlier Of11) n) free

  ends-it : (earlier : List Frame) (o x : List ℕ) → IsFree h.version (partial_of earlier Of11) → partial_of earlier k ≡ Some (at o) → o ++ x ≡ whole → judged limits earlier (fragment_of h id false x) ≡ Done (all_of whole)
  ends-it earlier o x free b is =
      let f = fragment_of h id false x in
      let all : o ++ payload_of f ≡ whole = ap (λ (y : List ℕ). o ++ y) (payload-is false x) ∙ is in
      let fit : 12 + length (o ++ payload_of f) ≤ limits.message = omega (arith, within, ap length all) in
      let reads : IsOk (content_of (all_of (o ++ payload_of f)).header (o ++ payload_of f)) = subst (λ (y : List ℕ). IsOk (content_of (all_of y).header y)) (sym all) ok in
      judged-ending limits earlier f (at o) ends-role (free-ends h.version (partial_of earlier Of11) cut free) (omega (arith, long-is x, full)) (ap (partial_of earlier) (key-is false x) ∙ b) order fit reads ∙ ap (λ (y : List ℕ). Done (all_of y)) all

  -- the message of that key is partial no more, and all others are as they were
  abbrev Ended : List Frame → List Frame → Type 0
  Ended earlier e = (partial_of e k ≡ None) × ((j : Key) → k ≢ j → partial_of e j ≡ partial_of earlier j) × (partials_in e ≡ partials_in earlier - 1)

  ended-last : (earlier : List Frame) (o x : List ℕ) → partial_of earlier k ≡ Some (at o) → Ended earlier (fragment_of h id false x ∷ earlier)
  ended-last earlier o x b =
      let f = fragment_of h id false x in
      let was : is_some (partial_of earlier (key_of f)) ≡ true = ap (λ (j : Key). is_some (partial_of earlier j)) (key-is false x) ∙ ap is_some b in (
        partial-role f earlier k Ends ends-role ∙ ends-same f k (partial_of earlier k) (key-is false x),
        λ j n. partial-role f earlier j Ends ends-role ∙ ends-other f j (partial_of earlier j) (λ e. n (sym (key-is false x) ∙ e)),
        partials-step f earlier Ends ends-role ∙ ap (λ (w : Bool). less_if w (partials_in earlier)) was,
      )

  ended-more : (earlier e : List Frame) (x : List ℕ) → Ended (fragment_of h id true x ∷ earlier) e → Ended earlier e
  ended-more earlier e x d =
      let f = fragment_of h id true x in (
        d.0,
        λ j n. d.1 j n ∙ partial-role f earlier j Carries carries-role ∙ carries-other f j (partial_of earlier j) (λ e. n (sym (key-is true x) ∙ e)),
        d.2 ∙ ap (λ (n : ℕ). n - 1) (partials-step f earlier Carries carries-role),
      )

  abbrev Reads : List Frame → List Frame → Type 0
  Reads earlier fs = AreFrames limits fs × (e : List Frame) × (reading_from limits earlier None fs ≡ one_completed e (all_of whole)) × Ended earlier e

  reads-last : (earlier : List Frame) (o left : List ℕ) → length left ≤ r → IsFree h.version (partial_of earlier Of11) → partial_of earlier k ≡ Some (at o) → o ++ left ≡ whole → Reads earlier (fragments_of h id (chunks_from r [] left))
  reads-last earlier o left short free b is =
      let f = fragment_of h id false left in
      subst (Reads earlier) (sym (last-fragment h id left r short)) ((is-frame false left short refl, tt), f ∷ earlier, step-done limits earlier None f [] (all_of whole) (ends-it earlier o left free b is), ended-last earlier o left b)

  reads-more : (n : ℕ) (left : List ℕ) → length left ≤ n → (earlier : List Frame) (o : List ℕ) → IsFree h.version (partial_of earlier Of11) → partial_of earlier k ≡ Some (at o) → o ++ left ≡ whole → Reads earlier (fragments_of h id (chunks_from r [] left))
  reads-more zero left fuel earlier o free b is = reads-last earlier o left (omega (arith, fuel)) free b is
  reads-more (suc n) left fuel earlier o free b is =
      elim (test_lt r (length left)) [
        | inl t ↦
            let x = take r left in
            let f = fragment_of h id true x in
            let size : length x ≡ r = length-take-le r left (omega (arith, t.1)) in
            let parts : (o ++ x) ++ drop r left ≡ whole = append_assoc o x (drop r left) ∙ ap (λ (y : List ℕ). o ++ y) (take-append-drop r left) ∙ is in
            let fit : 12 + length (o ++ x) ≤ limits.message = omega (arith, within, ap length parts, length-append (o ++ x) (drop r left)) in
            let less : length (drop r left) ≤ n = omega (arith, fuel, some, t.1, length-drop r left) in
            let later = reads-more n (drop r left) less (f ∷ earlier) (o ++ x) (free-on earlier x free) (partial-on earlier o x b) parts in
            subst (Reads earlier) (sym (more-fragments h id left r some t.1)) ((is-frame true x (omega (arith, size)) (even-is x size), later.0), later.1, step-quiet limits earlier None f _ (carries-on earlier o x free b fit) ∙ later.2, ended-more earlier later.1 x later.3)
        | inr t ↦ reads-last earlier o left t.1 free b is
      ]

-- a message that can be cut

both : (a b : Bool) → (a && b) ≡ true → (a ≡ true) × (b ≡ true)
both true b e = (refl, e)
both false b e = absurd cc

not-true : (b : Bool) → not b ≡ true → b ≡ false
not-true true e = absurd cc
not-true false e = refl

same-version : (a b : Version) → (minor_of a == minor_of b) ≡ true → a ≡ b
same-version V10 V10 e = refl
same-version V10 V11 e = absurd cc
same-version V10 V12 e = absurd cc
same-version V11 V10 e = absurd cc
same-version V11 V11 e = refl
same-version V11 V12 e = absurd cc
same-version V12 V10 e = absurd cc
same-version V12 V11 e = absurd cc
same-version V12 V12 e = refl

record IsCuttable (v : Version) (message : List ℕ) (h : Header) : Type 0 where
  long : 12 ≤ length message
  version : h.version ≡ v
  kind : is_cut_kind h.version h.kind ≡ true
  alone : h.more ≡ false
  size : 12 + h.size ≡ length message

cuttable-is : (v : Version) (message : List ℕ) (h : Header) → is_cuttable_in v message ≡ true → header_of (take 12 message) ≡ Ok h → IsCuttable v message h
cuttable-is v message h is e =
    let a = both (nat_le 12 (length message)) _ is in
    let b : is_cuttable_under v (length message) (Ok h) ≡ true = ap (is_cuttable_under v (length message)) (sym e) ∙ a.1 in
    let c = both ((minor_of h.version == minor_of v) && can_be_cut h.version h.kind && not (is_fragment h.kind) && not h.more) (frame_size h == length message) b in
    let d = both ((minor_of h.version == minor_of v) && can_be_cut h.version h.kind && not (is_fragment h.kind)) (not h.more) c.0 in
    let f = both ((minor_of h.version == minor_of v) && can_be_cut h.version h.kind) (not (is_fragment h.kind)) d.0 in
    let g = both (minor_of h.version == minor_of v) (can_be_cut h.version h.kind) f.0 in
    record {
      long = elim (test_le 12 (length message)) [ inl t ↦ t.1 | inr t ↦ absurd (let k = a.0 in cc) ];
      version = same-version h.version v g.0;
      kind = rw (g.1, f.1) refl;
      alone = not-true h.more d.1;
      size = elim (test_eq (frame_size h) (length message)) [ inl t ↦ t.1 | inr t ↦ absurd (let k = c.1 in cc) ];
    }

whole-header : (h : Header) (n : ℕ) → h.more ≡ false → h.size ≡ n → record h { more = false; size = n } ≡ h
whole-header h n alone size = ap (λ (b : Bool). record h { more = b; size = n }) (sym alone) ∙ ap (λ (k : ℕ). record h { size = k }) (sym size)

module _ (again : HeadersAreReadAgain) (limits : Limits) (s message : List ℕ) (v : Version) (h : Header) (n : fault_of limits s ≡ None) (none : rest_of limits s ≡ []) (new : partial_of (frames_of limits s) (key_of (under h message)) ≡ None)
    (early : partial_of (frames_of limits s) Of11 ≡ None) (is : header_of (take 12 message) ≡ Ok h) (c : IsCuttable v message h) (within : length message ≤ limits.message) (ok : IsOk (content_of h (drop 12 message))) where
  whole-size : h.size ≡ length (drop 12 message)
  whole-size = omega (arith, c.size, c.long, length-drop 12 message)

  -- as it is
  uncut : Completes limits s message (under h message)
  uncut =
      let f = under h message in
      let fs = f ∷ [] in
      let role : role_of f.header ≡ whole_role h.version = ap (role_in h.version h.kind) c.alone ∙ cut-whole h.version h.kind c.kind in
      let long : id_length h.version ≤ length (drop 12 message) = cut-has_id h.version h.kind h.order (drop 12 message) c.kind ok in
      let even : is_unaligned limits.cuts h ≡ false = ap (λ (b : Bool). b && not (may_be_cut limits.cuts h.version (frame_size h))) c.alone in
      let frame : IsFrame limits f message = record { header = is; taken = admit-cut limits h (omega (arith, c.size, within)) even; long = sym c.size; rest = refl } in
      let verdict : judged limits (frames_of limits s) f ≡ Done f = judged-alone limits (frames_of limits s) f h.version refl role early long (λ u. new) ok in
      completes limits s n none message fs (f ∷ frames_of limits s) f (message, [], sym (append-nil message), frame, refl) (step-done limits (frames_of limits s) None f [] f verdict)
      (leaves-role f (frames_of limits s) (whole_role h.version) false role (cut-stays h.version h.kind c.kind) (leaving-whole h.version))

  -- in a first frame and Fragments
  in_frames : (k : ℕ) → partials_in (frames_of limits s) < limits.partials → 20 + id_length h.version ≤ k → may_be_cut limits.cuts h.version k ≡ true → k < length message
      → Completes limits s (flat_map frame_octets (first_frame h (drop 12 (take k message)) ∷ fragments_of h (take (id_length h.version) (drop 12 message)) (chunks_from (k - (12 + id_length h.version)) [] (drop k message)))) (under h message)
  in_frames k free least even more =
      let whole = drop 12 message in
      let front = drop 12 (take k message) in
      let after = drop k message in
      let id = take (id_length h.version) whole in
      let r = k - (12 + id_length h.version) in
      let first = first_frame h front in
      let earlier = frames_of limits s in
      let key = key_in h.version (number_of h.order 4 id) in
      let size : length (take k message) ≡ k = length-take-le k message (omega (arith, more)) in
      let front-size : length front ≡ k - 12 = omega (arith, size, length-drop 12 (take k message)) in
      let parts : front ++ after ≡ whole = sym (drop-append-le 12 (take k message) after (omega (arith, size, least))) ∙ ap (drop 12) (take-append-drop k message) in
      let full : length id ≡ id_length h.version = length-take-le (id_length h.version) whole (omega (arith, more, least, length-drop 12 message)) in
      let there : id_length h.version ≤ length front = omega (arith, front-size, least) in
      let same : key_of first ≡ key_of (under h message) = sym (key-front h.version h.order front after there) ∙ ap (λ (x : List ℕ). key_in h.version (number_of h.order 4 x)) parts in
      let named : key_of first ≡ key = same ∙ sym (key-take h.version h.order whole) in
      let role : role_of first.header ≡ Opens = cut-opens h.version h.kind c.kind in
      let can = cut-can h.version h.kind c.kind in
      let verdict : judged limits earlier first ≡ Quiet = judged-opening limits earlier first role early there (ap (partial_of earlier) same ∙ new) free in
      let opened : partial_of (first ∷ earlier) key ≡ Some (record { header = first.header; octets = front }) = partial-role first earlier key Opens role ∙ opens-same first key (partial_of earlier key) named in
      let freed : IsFree h.version (partial_of (first ∷ earlier) Of11) =
      free-next h.version first earlier refl (λ not. partial-role first earlier Of11 Opens role ∙ opens-other first Of11 (partial_of earlier Of11) not) (free-if h.version (partial_of earlier Of11) early) in
      let all : 12 + (id_length h.version + r) ≡ k = omega (arith, least) in
      let head : frame_size first.header ≡ k = omega (arith, front-size, least) in
      let fit : 12 + length whole ≤ limits.message = omega (arith, within, c.long, length-drop 12 message) in
      let ended : record first.header { more = false; size = length whole } ≡ h = whole-header h (length whole) c.alone whole-size in
      let reads : IsOk (content_of (record first.header { more = false; size = length whole }) whole) = subst (λ (x : Header). IsOk (content_of x whole)) (sym ended) ok in
      let first-frame : IsFrame limits first (frame_octets first) = frame-again again limits first can.0 refl (omega (arith, front-size, least, more, within)) (and-not true (may_be_cut limits.cuts h.version (frame_size first.header)) (ap (may_be_cut limits.cuts h.version) head ∙ even)) in
      let later = reads-more again limits h first.header id whole r can.1 (same-order h.order) full (omega (arith, least)) (ap (may_be_cut limits.cuts h.version) all ∙ even) fit (omega (arith, all, more, within)) reads
      (length after) after (omega arith) (first ∷ earlier) front freed opened parts in
      let fs = first ∷ fragments_of h id (chunks_from r [] after) in
      let m : Frame = record { header = record first.header { more = false; size = length whole }; octets = whole } in
      let gone : partial_of earlier key ≡ None = ap (partial_of earlier) (sym named ∙ same) ∙ new in
      let left : Leaves m earlier later.1 = leaves-cut m first earlier later.1 key named role gone (cut-stays h.version h.kind c.kind) later.3.0 later.3.1 later.3.2 in
      let done = completes limits s n none (flat_map frame_octets fs) fs later.1 (record { header = record first.header { more = false; size = length whole }; octets = whole }) (frames-split limits fs (first-frame, later.0)) (step-quiet limits earlier None first _ verdict ∙ later.2) left in
      subst (λ (x : Header). Completes limits s (flat_map frame_octets fs) (record { header = x; octets = whole })) ended done

pub cut_again : HeadersAreReadAgain → (v : Version) → CutIsReadAgain v
cut_again again v limits s message n h faultless none new early free is e least even within ok =
    let c = cuttable-is v message h is e in
    elim (test_le (length message) n) [
      | inl t ↦
          let as_is : cut_octets n h message ≡ message = rw t.0 refl in
          subst (λ (x : List ℕ). Completes limits s x (under h message)) (sym as_is) (uncut again limits s message v h faultless none new early e c within ok)
      | inr t ↦
          let cut : cut_octets n h message ≡ flat_map frame_octets (first_frame h (drop 12 (take n message)) ∷ fragments_of h (take (id_length h.version) (drop 12 message)) (chunks_from (n - (12 + id_length h.version)) [] (drop n message))) = rw t.0 refl in
          let long : 20 + id_length h.version ≤ n = subst (λ (w : Version). 20 + id_length w ≤ n) (sym c.version) least in
          let place : may_be_cut limits.cuts h.version n ≡ true = subst (λ (w : Version). may_be_cut limits.cuts w n ≡ true) (sym c.version) even in
          subst (λ (x : List ℕ). Completes limits s x (under h message)) (sym cut) (in_frames again limits s message v h faultless none new early e c within ok n free long place t.1)
    ]
