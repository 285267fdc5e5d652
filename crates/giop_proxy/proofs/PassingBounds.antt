-- What a frame leaves is within the limits.
use Rattle.std.proofs.Common.{◌≡◌, ℕ, ◌+◌, ◌*◌, ◌<◌, ◌≤◌, ◌⊎◌, ◌||◌, nat_lt, nat_le, not, Bool, true, false, cond, List, [], ◌∷◌, ◌++◌, length, drop, get_or, Option, Some, None, Ok, Err, refl, sym, ap, subst, ◌∙◌, inl, inr, arith, vec_len, length-append, length-drop}
use Rattle.std.specs.Option.{option_map}
use Rattle.std.proofs.Math.Nat.{mul-le-mul_left}
use Rattle.std.proofs.lemmas.Bool.{cases_lt, le-leb, lt-leb}
use Rattle.std.proofs.lemmas.List.{drop_more}
use Rattle.giop_core.specs.declared.header.Header.{Header}
use Rattle.giop_frames.specs.declared.fault.StreamFault.{StreamFault}
use Rattle.giop_frames.specs.declared.fault.StreamFault.TheVariants.{MixedOrder, TooLarge, TooManyPartial, UnalignedFragment}
use Rattle.giop_frames.specs.declared.limits.Limits.{Limits}
use Rattle.giop_frames.specs.Fragments.{content_of, is_same_order, payload_of}
use Rattle.giop_frames.specs.Frames.{Frame, is_unaligned}
use Rattle.giop_proxy.specs.declared.passes.coming.Part.{Part}
use Rattle.giop_proxy.specs.declared.passes.coming.Told.{Told as ToldHere}
use Rattle.giop_proxy.specs.declared.passes.keys.Key.{Key}
use Rattle.giop_proxy.specs.declared.passes.joining.Role.{Role}
use Rattle.giop_proxy.specs.declared.passes.joining.Role.TheVariants.{First, Next, Cancel, Alone}
use Rattle.giop_proxy.specs.Passing.{Splitting, is_long, octets_held}
use Rattle.giop_proxy.specs.PassingMessages.{AreShort, AreWithin, Coming, Entry, Hearing, IsBounded, Step, Told, alone, at_fault, begun_by, continued_by, ended, first_fault, first_judged, first_step, forgotten, is_passed, judged, key_of, next_fault, next_found, next_judged, next_step, on_content, part_in, parts_held, role_of, step, step_as, told_held, without}
use Rattle.giop_proxy.specs.PassingPrivate.{AreHeld, IsStep, entries, told_at}
use Rattle.giop_proxy.proofs.PassingKeys.{head-other, head-same, test_key, without-other, without-same}
use Rattle.giop_proxy.proofs.PassingSights.{test_lt}

test_le : (a b : ℕ) → ((nat_le a b ≡ true) × (a ≤ b)) ⊎ ((nat_le a b ≡ false) × (b < a))
test_le a b = elim (cases_lt b a) [ inl h ↦ inr (lt-leb a b h, h) | inr h ↦ inl (le-leb a b h, h) ]

-- lists of messages

pub short-without : (limits : Limits) (k : Key) (ps : List Entry) → AreShort limits ps → AreShort limits (without k ps)
short-without limits k [] s = tt
short-without limits k (p ∷ ps) s =
    elim (test_key p.key k) [
      | inl t ↦ subst (AreShort limits) (sym (without-same k p ps t.1)) s.1
      | inr t ↦ subst (AreShort limits) (sym (without-other k p ps t.1)) (s.0, short-without limits k ps s.1)
    ]

pub less-without : (k : Key) (ps : List Entry) → length (without k ps) ≤ length ps
less-without k [] = omega arith
less-without k (p ∷ ps) =
    elim (test_key p.key k) [
      | inl t ↦ omega (arith, ap length (without-same k p ps t.1))
      | inr t ↦ omega (arith, ap length (without-other k p ps t.1), less-without k ps)
    ]

pub one-without : (k : Key) (ps : List Entry) (m : Coming) → part_in ps k ≡ Some m → length (without k ps) + 1 ≤ length ps
one-without k [] m e = absurd cc
one-without k (p ∷ ps) m e =
    elim (test_key p.key k) [
      | inl t ↦ omega (arith, ap length (without-same k p ps t.1))
      | inr t ↦ omega (arith, ap length (without-other k p ps t.1), one-without k ps m (sym (head-other p ps k t.1) ∙ e))
    ]

pub short-push : (limits : Limits) (ps : List Entry) (p : Entry) → AreShort limits ps → 12 + length p.message.octets ≤ limits.message → AreShort limits (ps ++ p ∷ [])
short-push limits [] p s h = (h, tt)
short-push limits (q ∷ ps) p s h = (s.0, short-push limits ps p s.1 h)

same-message : (m n : Coming) → ◌≡◌ {A = Option Coming} (Some m) (Some n) → m ≡ n
same-message m n e = cc

pub part-short : (limits : Limits) (k : Key) (ps : List Entry) (m : Coming) → AreShort limits ps → part_in ps k ≡ Some m → 12 + length m.octets ≤ limits.message
part-short limits k [] m s e = absurd cc
part-short limits k (p ∷ ps) m s e =
    elim (test_key p.key k) [
      | inl t ↦ subst (λ (x : Coming). 12 + length x.octets ≤ limits.message) (same-message p.message m (sym (head-same p ps k t.1) ∙ e)) s.0
      | inr t ↦ part-short limits k ps m s.1 (sym (head-other p ps k t.1) ∙ e)
    ]

pub within-without : (limits : Limits) (k : Key) (ps : List Entry) → AreWithin limits ps → AreWithin limits (without k ps)
within-without limits k ps w = record { count = omega (arith, w.count, less-without k ps); each = short-without limits k ps w.each }

-- what is told

abbrev IsShort : Limits → Coming → Type 0
IsShort limits m = 12 + length m.octets ≤ limits.message

abbrev IsToldShort : Limits → Option Told → Type 0
IsToldShort limits t = told_held t ≤ limits.message

judged-short : (limits : Limits) (m : Coming) → IsShort limits m → IsToldShort limits (Some (judged m))
judged-short limits m h = elim (content_of m.header m.octets) as (λ r. IsToldShort limits (Some (on_content m r))) [ Err e ↦ h | Ok x ↦ h ]

alone-short : (limits : Limits) (m : Coming) → IsShort limits m → IsToldShort limits (Some (alone limits m))
alone-short limits m h = elim (is_long limits m.header) as (λ b. IsToldShort limits (Some (cond b (at_fault TooLarge m) (judged m)))) [ true ↦ h | false ↦ judged-short limits m h ]

-- what a frame leaves is within the limits, and what is told
pub record IsLeft (limits : Limits) (s : Step) : Type 0 where
  pub parts : AreWithin limits s.parts
  pub told : IsToldShort limits s.told

-- choices of faults

none-of : (a b c : Bool) (x y z : StreamFault) → cond a (Some x) (cond b (Some y) (cond c (Some z) None)) ≡ None → (a ≡ false) × (c ≡ false)
none-of true b c x y z e = absurd cc
none-of false true c x y z e = absurd cc
none-of false false true x y z e = absurd cc
none-of false false false x y z e = (refl, refl)

second-of : (x y z : Bool) → (x || y || z) ≡ false → y ≡ false
second-of x true z e = elim x as (λ b. (b || true || z) ≡ false → true ≡ false) [ true ↦ λ k. k | false ↦ λ k. k ] e
second-of x false z e = refl

first-free : (limits : Limits) (n : ℕ) (h : Header) → first_fault limits n h ≡ None → n < limits.partials
first-free limits n h e =
    elim (test_le limits.partials n) [
      | inl t ↦ absurd (let k = (none-of (is_long limits h) (is_unaligned limits.cuts h) (nat_le limits.partials n) TooLarge UnalignedFragment TooManyPartial e).1 in let u = t.0 in cc)
      | inr t ↦ t.1
    ]

next-fits : (limits : Limits) (m : Coming) (h : Header) (n : ℕ) → next_fault limits m h n ≡ None → 12 + length m.octets + n ≤ limits.message
next-fits limits m h n e =
    elim (test_lt limits.message (12 + length m.octets + n)) [
      | inl t ↦ absurd (let k = second-of (is_long limits h) (nat_lt limits.message (12 + length m.octets + n)) (nat_le 16384 (length m.cuts)) (none-of (is_long limits h || nat_lt limits.message (12 + length m.octets + n) || nat_le 16384 (length m.cuts)) (not (is_same_order m.header.order h.order)) (is_unaligned limits.cuts h) TooLarge MixedOrder UnalignedFragment e).0 in let u = t.0 in cc)
      | inr t ↦ t.1
    ]

left-cond : (limits : Limits) (b : Bool) (s t : Step) → IsLeft limits s → IsLeft limits t → IsLeft limits (cond b s t)
left-cond limits true s t l r = l
left-cond limits false s t l r = r

-- a first frame

by-first : (limits : Limits) (place : ℕ) (ps : List Entry) (js : List Key) (f : Frame) (o : Option StreamFault) → first_fault limits (length ps) f.header ≡ o → AreWithin limits ps → 12 + length f.octets ≤ limits.message → IsLeft limits (first_judged place ps js f o)
by-first limits place ps js f (Some e) is w h = record { parts = w; told = h }
by-first limits place ps js f None is w h = record {
  parts = record { count = omega (arith, first-free limits (length ps) f.header is, length-append ps (record { key = key_of f; message = begun_by place f } ∷ [])); each = short-push limits ps (record { key = key_of f; message = begun_by place f }) w.each h };
  told = omega arith;
}

within-first : (limits : Limits) (place : ℕ) (ps : List Entry) (js : List Key) (f : Frame) → AreWithin limits ps → 12 + length f.octets ≤ limits.message → IsLeft limits (first_step limits place ps js f)
unfolding first_step
within-first limits place ps js f w h =
    by-first limits place (without (key_of f) ps) (forgotten (key_of f) js) f (first_fault limits (length (without (key_of f) ps)) f.header) refl (within-without limits (key_of f) ps w) h

-- a Fragment

by-next : (limits : Limits) (ps : List Entry) (js : List Key) (f : Frame) (m : Coming) (o : Option StreamFault) → next_fault limits m f.header (length (payload_of f)) ≡ o → AreShort limits ps → length ps + 1 ≤ limits.partials → 12 + length m.octets ≤ limits.message → IsLeft limits (next_judged ps js f m o)
by-next limits ps js f m (Some e) is s room h = record { parts = record { count = omega (arith, room); each = s }; told = h }
by-next limits ps js f m None is s room h =
    let fits : 12 + length (m.octets ++ payload_of f) ≤ limits.message = omega (arith, next-fits limits m f.header (length (payload_of f)) is, length-append m.octets (payload_of f)) in
    let one : Entry = record { key = key_of f; message = continued_by f m } in
    left-cond limits f.header.more _ _
    (record { parts = record { count = omega (arith, room, length-append ps (one ∷ [])); each = short-push limits ps one s fits }; told = omega arith })
    (record { parts = record { count = omega (arith, room); each = s }; told = judged-short limits (ended (continued_by f m)) fits })

by-found : (limits : Limits) (place : ℕ) (ps : List Entry) (js : List Key) (f : Frame) (o : Option Coming) → part_in ps (key_of f) ≡ o → AreWithin limits ps → 12 + length f.octets ≤ limits.message → IsLeft limits (next_found limits place ps js f o)
by-found limits place ps js f None is w h = record { parts = w; told = h }
by-found limits place ps js f (Some m) is w h =
    by-next limits (without (key_of f) ps) js f m (next_fault limits m f.header (length (payload_of f))) refl (short-without limits (key_of f) ps w.each) (omega (arith, one-without (key_of f) ps m is, w.count)) (part-short limits (key_of f) ps m w.each is)

within-next : (limits : Limits) (place : ℕ) (ps : List Entry) (js : List Key) (f : Frame) → AreWithin limits ps → 12 + length f.octets ≤ limits.message → IsLeft limits (next_step limits place ps js f)
unfolding next_step
within-next limits place ps js f w h =
    left-cond limits (is_passed (key_of f) js) _ _ (record { parts = w; told = omega arith }) (by-found limits place ps js f (part_in ps (key_of f)) refl w h)

-- any frame

by-role : (limits : Limits) (place : ℕ) (ps : List Entry) (js : List Key) (f : Frame) (r : Role) → AreWithin limits ps → 12 + length f.octets ≤ limits.message → IsLeft limits (step_as r limits place ps js f)
by-role limits place ps js f First w h = within-first limits place ps js f w h
by-role limits place ps js f Next w h = within-next limits place ps js f w h
by-role limits place ps js f Cancel w h = record { parts = within-without limits _ ps w; told = alone-short limits (begun_by place f) h }
by-role limits place ps js f Alone w h = record { parts = w; told = alone-short limits (begun_by place f) h }

pub within-step : (limits : Limits) (place : ℕ) (ps : List Entry) (js : List Key) (f : Frame) → AreWithin limits ps → 12 + length f.octets ≤ limits.message → IsLeft limits (step limits place ps js f)
unfolding step
within-step limits place ps js f w h = left-cond limits _ _ _ (record { parts = w; told = h }) (by-role limits place ps js f (role_of f.header) w h)

-- what a reader holds

pub held-nothing : (v w : Splitting) (ps : List Entry) → w.limits ≡ v.limits → octets_held w.frame w.pending ≤ w.limits.message → AreWithin v.limits ps → AreHeld w None ps
held-nothing v w ps same front within = record { front = omega (arith, front); parts = subst (λ (l : Limits). AreWithin l ps) (sym same) within }

pub held-frame : (v w x : Splitting) (limits : Limits) (f : Frame) (told : Option ToldHere) (place : ℕ) (ps qs : List Entry) (js is : List Key) → w.limits ≡ v.limits → x ≡ record w { frame = None } → x.pending ≡ [] → limits ≡ x.limits → 12 + length f.octets ≤ w.limits.message
    → IsStep told (step limits place ps js f) qs is → AreWithin v.limits ps → AreHeld x (option_map told_at told) qs
held-frame v w x limits f told place ps qs js is same rest empty bound fits st within =
    let all : x.limits ≡ w.limits = ap (λ (y : Splitting). y.limits) rest in
    let here : AreWithin limits ps = subst (λ (l : Limits). AreWithin l ps) (sym (bound ∙ all ∙ same)) within in
    let short : 12 + length f.octets ≤ limits.message = omega (arith, fits, ap (λ (l : Limits). l.message) (bound ∙ all)) in
    let left = within-step limits place ps js f here short in
    let none : octets_held x.frame x.pending ≡ 0 = ap (λ (o : Option Frame). octets_held o x.pending) (ap (λ (y : Splitting). y.frame) rest) ∙ ap length empty in
    let tells : told_held (option_map told_at told) ≡ told_held (step limits place ps js f).told = ap told_held st.given in
    let most : limits.message ≡ x.limits.message = ap (λ (l : Limits). l.message) bound in
    record {
      front = omega (arith, none, tells, most, left.told);
      parts = subst (λ (l : Limits). AreWithin l qs) bound (subst (AreWithin limits) (sym st.parts) left.parts);
    }

short-held : (limits : Limits) (ps : List Entry) → AreShort limits ps → parts_held ps ≤ limits.message * length ps
short-held limits [] s = omega arith
short-held limits (p ∷ ps) s = omega (arith, s.0, short-held limits ps s.1)

pub parts-within : (limits : Limits) (ps : List Entry) → AreWithin limits ps → parts_held ps ≤ limits.message * limits.partials
parts-within limits ps w = omega (arith, short-held limits ps w.each, mul-le-mul_left limits.message w.count)

-- within 2 ^ 28, so that no sum wraps
pub parts-small : (limits : Limits) (ps : List Entry) → AreWithin limits ps → parts_held ps ≤ 268435456
parts-small limits ps w =
    let m = limits.message_in_range in
    let p = limits.partials_in_range in
    omega (arith, parts-within limits ps w, mul-le-mul_left limits.message p.1, m.1)

pub bounded : (a : Hearing) → AreHeld a.frames a.told a.parts → IsBounded a
bounded a h = record { front = h.front; parts = h.parts; all = omega (arith, h.front, parts-within a.frames.limits a.parts h.parts) }

-- a reader that failed holds nothing
pub failed-held : (v : Splitting) (ps : List Entry) → v.frame ≡ None → v.pending ≡ [] → ps ≡ [] → AreHeld v None ps
failed-held v ps none empty is = record {
  front = omega (arith, ap (λ (o : Option Frame). octets_held o v.pending) none ∙ ap length empty);
  parts = subst (AreWithin v.limits) (sym is) (record { count = omega arith; each = tt });
}

-- one part more is counted
part-held : (p : Part) (ps : List Part) → parts_held (entries (p ∷ ps)) ≡ vec_len p.message.octets + parts_held (entries ps)
part-held p ps = omega (arith, p.message.headed, length-drop 12 p.message.octets.items)

pub held-more : (ps : List Part) (i : ℕ) (d : Part) → i < length ps → parts_held (entries (drop i ps)) ≡ vec_len (get_or ps i d).message.octets + parts_held (entries (drop (i + 1) ps))
held-more ps i d h = ap (λ (qs : List Part). parts_held (entries qs)) (drop_more ps i d h) ∙ part-held (get_or ps i d) (drop (i + 1) ps)
