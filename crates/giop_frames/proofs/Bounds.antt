-- What is judged fine is within the limits, and what is done reads.
use Rattle.std.proofs.Common.{◌≡◌, ℕ, ◌+◌, ◌^◌, ◌<◌, ◌≤◌, ◌&&◌, nat_lt, nat_le, not, Bool, true, false, cond, List, [], ◌∷◌, ◌++◌, length, take, Option, Some, None, is_some, Result, Ok, Err, IsOk, refl, sym, ap, subst, ◌∙◌, inl, inr, arith, length-append}
use Rattle.giop_core.specs.declared.error.MessageFault.{MessageFault}
use Rattle.giop_core.specs.declared.header.Header.{Header}
use Rattle.giop_core.specs.declared.header.HeaderFault.{HeaderFault}
use Rattle.giop_core.specs.Content.{Content}
use Rattle.giop_core.specs.Headers.{header_of}
use Rattle.giop_frames.specs.declared.fault.StreamFault.{StreamFault}
use Rattle.giop_frames.specs.declared.fault.StreamFault.TheVariants.{Header as BadHeader, TwiceStarted, TooManyPartial, TooLarge, MixedOrder, UnalignedFragment}
use Rattle.giop_frames.specs.declared.limits.Limits.{Limits}
use Rattle.giop_frames.specs.declared.partial.Key.{Key}
use Rattle.giop_frames.specs.declared.partial.Key.TheVariants.{Of11, Of12}
use Rattle.giop_frames.specs.declared.reassembly.Role.{Role}
use Rattle.giop_frames.specs.declared.reassembly.Role.TheVariants.{Opens, Carries, Ends, Drops, Uncut, Apart}
use Rattle.giop_frames.specs.Frames.{Frame, Waiting, Whole, Refused, admitted, frame_size, is_unaligned, judged_header, sight, under_header}
use Rattle.giop_frames.specs.Fragments.{Partial, Verdict, Bad, Quiet, Done, opened_by, content_of, continued_by, payload_of, has_id, id_of, is_cancelled, key_of, may_come, is_same_order, joined, judged_as, judged_by, joinable, judged_carried, judged_ended, judged_whole, on_content, role_of}
use Rattle.giop_frames.specs.Streams.{Entry, part_in}
use Rattle.giop_frames.specs.Private.{carried, parts_after, parts_as, without}
use Rattle.giop_frames.specs.Standing.{AreShort, AreWithin, OnFault, framed}
use Rattle.giop_frames.proofs.Sights.{sight-long, sight-short, until, until-waiting, until-whole}
use Rattle.giop_frames.specs.Refusing.{IsFine}
use Rattle.giop_frames.proofs.Tables.{fine-as, length-without, without-none, without-other, without-same}
use Rattle.giop_frames.proofs.Deciding.{test_key, test_le, test_lt}

-- a fault of a stream
abbrev pub IsError : StreamFault → Type 0
IsError e = OnFault e (Unit {0})

-- a header that is admitted

err-is : (e d : StreamFault) → ◌≡◌ {A = Result Header StreamFault} (Err e) (Err d) → e ≡ d
err-is e d k = cc

ok-is : (h k : Header) → ◌≡◌ {A = Result Header StreamFault} (Ok h) (Ok k) → h ≡ k
ok-is h k e = cc

refuse : (b : Bool) (e d : StreamFault) (r : Result Header StreamFault) → IsError e → ((r ≡ Err d) → IsError d) → cond b (Err e) r ≡ Err d → IsError d
refuse true e d r err later is = subst IsError (err-is e d is) err
refuse false e d r err later is = later is

admit : (b : Bool) (e : StreamFault) (h : Header) (r : Result Header StreamFault) → cond b (Err e) r ≡ Ok h → (b ≡ false) × (r ≡ Ok h)
admit true e h r is = absurd cc
admit false e h r is = (refl, is)

pub admitted-within : (limits : Limits) (h k : Header) → admitted limits h ≡ Ok k → (h ≡ k) × (frame_size k ≤ limits.message)
admitted-within limits h k e =
    let a = admit (nat_lt limits.message (frame_size h)) TooLarge k _ e in
    let b = admit (is_unaligned limits.cuts h) UnalignedFragment k (Ok h) a.1 in
    let same : h ≡ k = ok-is h k b.1 in
    elim (test_lt limits.message (frame_size h)) [
      | inl t ↦ absurd (let w = a.0 in cc)
      | inr t ↦ (same, subst (λ (x : Header). frame_size x ≤ limits.message) same t.1)
    ]

header-within : (limits : Limits) (r : Result Header HeaderFault) (k : Header) → judged_header limits r ≡ Ok k → frame_size k ≤ limits.message
header-within limits (Err e) k is = absurd cc
header-within limits (Ok h) k is = (admitted-within limits h k is).1

under-within : (limits : Limits) (b : List ℕ) (j : Result Header StreamFault) → ((k : Header) → j ≡ Ok k → frame_size k ≤ limits.message) → under_header b j ≡ Waiting → length b ≤ limits.message
under-within limits b (Err e) fits w = absurd cc
under-within limits b (Ok h) fits w = let few = until-waiting (length b) (frame_size h) (framed h b) w in omega (arith, few, fits h refl)

under-whole : (limits : Limits) (b : List ℕ) (j : Result Header StreamFault) (f : Frame) → ((k : Header) → j ≡ Ok k → frame_size k ≤ limits.message) → under_header b j ≡ Whole f → frame_size f.header ≤ limits.message
under-whole limits b (Err e) f fits w = absurd cc
under-whole limits b (Ok h) f fits w = let is = until-whole (length b) (frame_size h) (framed h b) f w in subst (λ (g : Frame). frame_size g.header ≤ limits.message) is.1 (fits h refl)

-- octets that wait are within the limit
pub waiting-within : (limits : Limits) (b : List ℕ) → sight limits b ≡ Waiting → length b ≤ limits.message
waiting-within limits b w =
    elim (test_lt (length b) 12) [
      | inl t ↦ let least = limits.message_in_range in omega (arith, t.1, least.0)
      | inr t ↦ under-within limits b (judged_header limits (header_of (take 12 b))) (λ k. header-within limits (header_of (take 12 b)) k) (sym (sight-long limits b t.1) ∙ w)
    ]

-- so is a whole frame
pub whole-within : (limits : Limits) (b : List ℕ) (f : Frame) → sight limits b ≡ Whole f → frame_size f.header ≤ limits.message
whole-within limits b f w =
    elim (test_lt (length b) 12) [
      | inl t ↦ absurd (let k = sight-short limits b t.1 in cc)
      | inr t ↦ under-whole limits b (judged_header limits (header_of (take 12 b))) f (λ k. header-within limits (header_of (take 12 b)) k) (sym (sight-long limits b t.1) ∙ w)
    ]

pub whole-short : (limits : Limits) (b : List ℕ) (f : Frame) → sight limits b ≡ Whole f → length b ≡ frame_size f.header → length b < 2 ^ 32
whole-short limits b f w exact = omega (arith, whole-within limits b f w, exact, limits.message_in_range.1)

-- the faults of a stream

header-error : (limits : Limits) (r : Result Header HeaderFault) (d : StreamFault) → judged_header limits r ≡ Err d → IsError d
header-error limits (Err e) d is = subst IsError (err-is (BadHeader e) d is) tt
header-error limits (Ok h) d is =
    refuse (nat_lt limits.message (frame_size h)) TooLarge d _ tt
    (refuse (is_unaligned limits.cuts h) UnalignedFragment d (Ok h) tt (λ k. absurd cc)) is

under-error : (limits : Limits) (b : List ℕ) (j : Result Header StreamFault) (d : StreamFault) → ((e : StreamFault) → j ≡ Err e → IsError e) → under_header b j ≡ Refused d → IsError d
under-error limits b (Err e) d err w = err d (let k : Refused e ≡ Refused d = w in cc)
under-error limits b (Ok h) d err w = absurd (until-never (length b) (frame_size h) (framed h b) d w)
  where
    until-never : (l n : ℕ) (f : Frame) (e : StreamFault) → until l n f ≡ Refused e → ⊥
    until-never l n f e k = elim (test_lt l n) [ inl t ↦ (let u : until l n f ≡ Waiting = rw t.0 refl in cc) | inr t ↦ (let u : until l n f ≡ Whole f = rw t.0 refl in cc) ]

pub refused-error : (limits : Limits) (b : List ℕ) (d : StreamFault) → sight limits b ≡ Refused d → IsError d
refused-error limits b d w =
    elim (test_lt (length b) 12) [
      | inl t ↦ absurd (let k = sight-short limits b t.1 in cc)
      | inr t ↦ under-error limits b (judged_header limits (header_of (take 12 b))) d (λ e. header-error limits (header_of (take 12 b)) e) (sym (sight-long limits b t.1) ∙ w)
    ]

-- what a judgement says of a verdict

abbrev Says : Limits → Verdict → Type 0
Says limits (Bad e) = IsError e
Says limits Quiet = Unit {0}
Says limits (Done m) = (12 + length m.octets ≤ limits.message) × IsOk (content_of m.header m.octets)

says-cond : (limits : Limits) (b : Bool) (e : StreamFault) (v : Verdict) → IsError e → Says limits v → Says limits (cond b (Bad e) v)
says-cond limits true e v err says = err
says-cond limits false e v err says = says

says-content : (limits : Limits) (f : Frame) (r : Result Content MessageFault) → r ≡ content_of f.header f.octets → 12 + length f.octets ≤ limits.message → Says limits (on_content f r)
says-content limits f (Err e) is within = tt
says-content limits f (Ok m) is within = (within, subst IsOk is refl)

says-whole : (limits : Limits) (f : Frame) → 12 + length f.octets ≤ limits.message → Says limits (judged_whole f)
says-whole limits f within = says-content limits f (content_of f.header f.octets) refl within

-- what can be joined is within the limit

abbrev Joins : Limits → Frame → Result Partial StreamFault → Type 0
Joins limits f (Err e) = IsError e
Joins limits f (Ok p) = 12 + length (p.octets ++ payload_of f) ≤ limits.message

joins-cond : (limits : Limits) (f : Frame) (b : Bool) (e : StreamFault) (r : Result Partial StreamFault) → IsError e → Joins limits f r → Joins limits f (cond b (Err e) r)
joins-cond limits f true e r err joins = err
joins-cond limits f false e r err joins = joins

joins : (limits : Limits) (f : Frame) (before : Option Partial) → Joins limits f (joinable limits f before)
joins limits f None = tt
joins limits f (Some p) =
    joins-cond limits f (not (is_same_order p.header.order f.header.order)) MixedOrder _ tt
    (elim (test_lt limits.message (12 + length (p.octets ++ payload_of f))) [ inl t ↦ rw t.0 tt | inr t ↦ rw t.0 t.1 ])

says-carried : (limits : Limits) (f : Frame) (r : Result Partial StreamFault) → Joins limits f r → Says limits (judged_carried r)
says-carried limits f (Err e) j = j
says-carried limits f (Ok p) j = tt

says-ended : (limits : Limits) (f : Frame) (r : Result Partial StreamFault) → Joins limits f r → Says limits (judged_ended f r)
says-ended limits f (Err e) j = j
says-ended limits f (Ok p) j = says-whole limits (joined p f) j

says-as : (r : Role) (limits : Limits) (before : Option Partial) (n : ℕ) (f : Frame) → 12 + length f.octets ≤ limits.message → Says limits (judged_as r limits before n f)
unfolding judged_as
says-as Opens limits before n f within = says-cond limits (is_some before) TwiceStarted _ tt (says-cond limits (nat_le limits.partials n) TooManyPartial Quiet tt tt)
says-as Carries limits before n f within = says-carried limits f (joinable limits f before) (joins limits f before)
says-as Ends limits before n f within = says-ended limits f (joinable limits f before) (joins limits f before)
says-as Drops limits before n f within = says-whole limits f within
says-as Uncut limits before n f within = says-cond limits (is_some before) TwiceStarted _ tt (says-whole limits f within)
says-as Apart limits before n f within = says-whole limits f within

says-by : (limits : Limits) (early before : Option Partial) (n : ℕ) (f : Frame) → 12 + length f.octets ≤ limits.message → Says limits (judged_by limits early before n f)
unfolding judged_by
says-by limits early before n f within =
    says-cond limits (not (may_come (role_of f.header) f.header.version) && is_some early) TwiceStarted _ tt
    (says-cond limits (has_id (role_of f.header) f.header.version && nat_lt (length f.octets) 4) _ (judged_as (role_of f.header) limits before n f) tt (says-as (role_of f.header) limits before n f within))

pub judged-says : (limits : Limits) (early before : Option Partial) (n : ℕ) (f : Frame) (v : Verdict) → 12 + length f.octets ≤ limits.message → judged_by limits early before n f ≡ v → Says limits v
judged-says limits early before n f v within e = subst (Says limits) e (says-by limits early before n f within)

pub bad-error : (limits : Limits) (early before : Option Partial) (n : ℕ) (f : Frame) (e : StreamFault) → 12 + length f.octets ≤ limits.message → judged_by limits early before n f ≡ Bad e → IsError e
bad-error limits early before n f e within j = judged-says limits early before n f (Bad e) within j

pub done-reads : (limits : Limits) (early before : Option Partial) (n : ℕ) (f m : Frame) → 12 + length f.octets ≤ limits.message → judged_by limits early before n f ≡ Done m → (12 + length m.octets ≤ limits.message) × IsOk (content_of m.header m.octets)
done-reads limits early before n f m within j = judged-says limits early before n f (Done m) within j

-- partial messages stay within the limits

short-without : (limits : Limits) (i : Key) (ps : List Entry) → AreShort limits ps → AreShort limits (without i ps)
short-without limits i [] s = s
short-without limits i (p ∷ ps) s =
    elim (test_key p.key i) [
      | inl t ↦ rw (without-same i p ps t.1) s.1
      | inr t ↦ rw (without-other i p ps t.1) (s.0, short-without limits i ps s.1)
    ]

short-push : (limits : Limits) (ps : List Entry) (q : Entry) → AreShort limits ps → 12 + length q.part.octets ≤ limits.message → AreShort limits (ps ++ q ∷ [])
short-push limits [] q s h = (h, tt)
short-push limits (p ∷ ps) q s h = (s.0, short-push limits ps q s.1 h)

count-without : (i : Key) (ps : List Entry) (o : Option Partial) → part_in ps i ≡ o → length (without i ps) ≤ length ps
count-without i ps None e = omega (arith, ap length (without-none i ps e))
count-without i ps (Some p) e = omega (arith, length-without i ps p e)

within-without : (limits : Limits) (i : Key) (ps : List Entry) → AreWithin limits ps → AreWithin limits (without i ps)
within-without limits i ps w = record { count = omega (arith, w.count, count-without i ps (part_in ps i) refl); each = short-without limits i ps w.each }

within-early : (limits : Limits) (b : Bool) (ps : List Entry) → AreWithin limits ps → AreWithin limits (cond b (without Of11 ps) ps)
within-early limits true ps w = within-without limits Of11 ps w
within-early limits false ps w = w

fine-cond : (b : Bool) (e : StreamFault) (v : Verdict) → IsFine (cond b (Bad e) v) → (b ≡ false) × IsFine v
fine-cond true e v fine = absurd fine
fine-cond false e v fine = (refl, fine)

fine-size : (a b : Bool) (p : Partial) → IsFine (judged_carried (cond a (Err MixedOrder) (cond b (Err TooLarge) (Ok p)))) → b ≡ false
fine-size true b p fine = absurd fine
fine-size false true p fine = absurd fine
fine-size false false p fine = refl

within-carried : (limits : Limits) (ps : List Entry) (f : Frame) (before : Option Partial) → part_in ps (key_of f) ≡ before → AreWithin limits ps → IsFine (judged_carried (joinable limits f before)) → AreWithin limits (carried ps f before)
within-carried limits ps f None e w fine = w
within-carried limits ps f (Some p) e w fine =
    let size = fine-size (not (is_same_order p.header.order f.header.order)) (nat_lt limits.message (12 + length (p.octets ++ payload_of f))) p fine in
    let less : 12 + length (p.octets ++ payload_of f) ≤ limits.message = elim (test_lt limits.message (12 + length (p.octets ++ payload_of f))) [ inl t ↦ absurd (let k = size in cc) | inr t ↦ t.1 ] in
    let q : Entry = record { key = key_of f; part = continued_by f p } in
    record {
      count = omega (arith, w.count, length-without (key_of f) ps p e, length-append (without (key_of f) ps) (q ∷ []));
      each = short-push limits (without (key_of f) ps) q (short-without limits (key_of f) ps w.each) less;
    }

within-as : (r : Role) (limits : Limits) (ps : List Entry) (f : Frame) → 12 + length f.octets ≤ limits.message → AreWithin limits ps → IsFine (judged_as r limits (part_in ps (key_of f)) (length ps) f) → AreWithin limits (parts_as r ps f)
unfolding judged_as parts_as
within-as Opens limits ps f size w fine =
    let new = fine-cond (is_some (part_in ps (key_of f))) TwiceStarted _ fine in
    let few = fine-cond (nat_le limits.partials (length ps)) TooManyPartial Quiet new.1 in
    let less : length ps < limits.partials = elim (test_le limits.partials (length ps)) [ inl t ↦ absurd (let k = few.0 in cc) | inr t ↦ t.1 ] in
    let q : Entry = record { key = key_of f; part = opened_by f } in
    record { count = omega (arith, less, length-append ps (q ∷ [])); each = short-push limits ps q w.each size }
within-as Carries limits ps f size w fine = within-carried limits ps f (part_in ps (key_of f)) refl w fine
within-as Ends limits ps f size w fine = within-without limits (key_of f) ps w
within-as Drops limits ps f size w fine = within-early limits (is_cancelled (id_of f) Of11 (part_in (without (Of12 (id_of f)) ps) Of11)) (without (Of12 (id_of f)) ps) (within-without limits (Of12 (id_of f)) ps w)
within-as Uncut limits ps f size w fine = w
within-as Apart limits ps f size w fine = w

pub within-step : (limits : Limits) (ps : List Entry) (f : Frame) → 12 + length f.octets ≤ limits.message → AreWithin limits ps → IsFine (judged_by limits (part_in ps Of11) (part_in ps (key_of f)) (length ps) f) → AreWithin limits (parts_after ps f)
within-step limits ps f size w fine = within-as (role_of f.header) limits ps f size w (fine-as limits (part_in ps Of11) (part_in ps (key_of f)) (length ps) f fine)
