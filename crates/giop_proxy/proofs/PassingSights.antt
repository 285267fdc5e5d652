-- What octets are seen to be as more come, and how many are needed before something can be judged.
use Rattle.std.proofs.Common.{◌≡◌, ℕ, ◌-◌, ◌<◌, ◌≤◌, ◌⊎◌, cond, nat_lt, true, false, List, [], ◌++◌, length, take, Result, Ok, Err, refl, sym, ap, ◌∙◌, inl, inr, arith, append_assoc, length-append}
use Rattle.std.proofs.lemmas.Bool.{cases_lt, lt-ltb, le-ltb}
use Rattle.std.proofs.lemmas.List.{append-nil, take-append-le}
use Rattle.giop_core.specs.declared.header.Header.{Header}
use Rattle.giop_core.specs.declared.header.HeaderFault.{HeaderFault}
use Rattle.giop_core.specs.Headers.{header_of}
use Rattle.giop_frames.specs.declared.fault.StreamFault.TheVariants.{Header as BadHeader}
use Rattle.giop_frames.specs.declared.limits.Limits.{Limits}
use Rattle.giop_frames.specs.Frames.{Frame, Sight, Refused, Waiting, Whole, frame_size}
use Rattle.giop_proxy.specs.Passing.{kept_size, sight, under_header}
use Rattle.giop_proxy.specs.PassingPrivate.{IsExact, Needs, framed}

-- a test, with what it reports
pub test_lt : (a b : ℕ) → ((nat_lt a b ≡ true) × (a < b)) ⊎ ((nat_lt a b ≡ false) × (b ≤ a))
test_lt a b = elim (cases_lt a b) [ inl h ↦ inl (lt-ltb a b h, h) | inr h ↦ inr (le-ltb a b h, h) ]

-- what is kept of a frame is a header at least, and no more than a message may have, nor than the frame has

pub kept-within : (limits : Limits) (h : Header) → (12 ≤ kept_size limits h) × (kept_size limits h ≤ limits.message) × (kept_size limits h ≤ frame_size h)
kept-within limits h =
    let range = limits.message_in_range in
    elim (test_lt limits.message (frame_size h)) [
      | inl t ↦ rw t.0 (omega (arith, range), omega arith, omega (arith, t.1))
      | inr t ↦ rw t.0 (omega arith, t.1, omega arith)
    ]

-- below twelve octets it waits, and from there on it goes by the header

pub sight-short : (limits : Limits) (b : List ℕ) → length b < 12 → sight limits b ≡ Waiting
unfolding sight
sight-short limits b h = rw (lt-ltb (length b) 12 h) refl

pub sight-headed : (limits : Limits) (b : List ℕ) → 12 ≤ length b → sight limits b ≡ under_header limits b (header_of (take 12 b))
unfolding sight
sight-headed limits b h = rw (le-ltb (length b) 12 h) refl

-- octets that wait until there are n, for a frame
abbrev pub until : ℕ → ℕ → Frame → Sight
until l n f = cond (nat_lt l n) Waiting (Whole f)

pub until-waiting : (l n : ℕ) (f : Frame) → until l n f ≡ Waiting → l < n
until-waiting l n f e = elim (test_lt l n) [ inl t ↦ t.1 | inr t ↦ absurd (let k : until l n f ≡ Whole f = rw t.0 refl in cc) ]

pub until-whole : (l n : ℕ) (f g : Frame) → until l n f ≡ Whole g → (n ≤ l) × (f ≡ g)
until-whole l n f g e =
    elim (test_lt l n) [
      | inl t ↦ absurd (let k : until l n f ≡ Waiting = rw t.0 refl in cc)
      | inr t ↦ let k : until l n f ≡ Whole f = rw t.0 refl in (t.1, cc)
    ]

pub until-few : (l n : ℕ) (f : Frame) → l < n → until l n f ≡ Waiting
until-few l n f h = rw (lt-ltb l n h) refl

-- by the header, where there is one

pub sight-refused : (limits : Limits) (b : List ℕ) (e : HeaderFault) → 12 ≤ length b → header_of (take 12 b) ≡ Err e → sight limits b ≡ Refused (BadHeader e)
sight-refused limits b e long j = sight-headed limits b long ∙ ap (under_header limits b) j

pub sight-early : (limits : Limits) (b : List ℕ) (h : Header) → 12 ≤ length b → header_of (take 12 b) ≡ Ok h → length b < kept_size limits h → sight limits b ≡ Waiting
sight-early limits b h long j few = sight-headed limits b long ∙ ap (under_header limits b) j ∙ until-few (length b) (kept_size limits h) (framed h b) few

pub sight-all : (limits : Limits) (b : List ℕ) (h : Header) → 12 ≤ length b → header_of (take 12 b) ≡ Ok h → kept_size limits h ≤ length b → sight limits b ≡ Whole (framed h b)
sight-all limits b h long j all = sight-headed limits b long ∙ ap (under_header limits b) j ∙ rw (le-ltb (length b) (kept_size limits h) all) refl

-- a front of what waits waits

under-waiting : (limits : Limits) (b c : List ℕ) (j : Result Header HeaderFault) → under_header limits (b ++ c) j ≡ Waiting → under_header limits b j ≡ Waiting
under-waiting limits b c (Err e) w = absurd cc
under-waiting limits b c (Ok h) w =
    let few = until-waiting (length (b ++ c)) (kept_size limits h) (framed h (b ++ c)) w in
    until-few (length b) (kept_size limits h) _ (omega (arith, few, length-append b c))

pub front-waiting : (limits : Limits) (b c : List ℕ) → sight limits (b ++ c) ≡ Waiting → sight limits b ≡ Waiting
front-waiting limits b c w =
    elim (test_lt (length b) 12) [
      | inl t ↦ sight-short limits b t.1
      | inr t ↦
          let long : 12 ≤ length (b ++ c) = omega (arith, t.1, length-append b c) in
          let head : take 12 (b ++ c) ≡ take 12 b = take-append-le 12 b c t.1 in
          let there : under_header limits (b ++ c) (header_of (take 12 b)) ≡ Waiting = ap (λ (x : List ℕ). under_header limits (b ++ c) (header_of x)) (sym head) ∙ sym (sight-headed limits (b ++ c) long) ∙ w in
          sight-headed limits b t.1 ∙ under-waiting limits b c (header_of (take 12 b)) there
    ]

-- a shorter front of what is kept of a frame waits

under-whole : (limits : Limits) (b c : List ℕ) (j : Result Header HeaderFault) (f : Frame) → under_header limits (b ++ c) j ≡ Whole f → length (b ++ c) ≡ kept_size limits f.header → 0 < length c → under_header limits b j ≡ Waiting
under-whole limits b c (Err e) f w exact some = absurd cc
under-whole limits b c (Ok h) f w exact some =
    let is = until-whole (length (b ++ c)) (kept_size limits h) (framed h (b ++ c)) f w in
    let size : kept_size limits f.header ≡ kept_size limits h = ap (λ (g : Frame). kept_size limits g.header) (sym is.1) in
    until-few (length b) (kept_size limits h) _ (omega (arith, exact, size, some, length-append b c))

pub front-whole : (limits : Limits) (b c : List ℕ) (f : Frame) → sight limits (b ++ c) ≡ Whole f → length (b ++ c) ≡ kept_size limits f.header → 0 < length c → sight limits b ≡ Waiting
front-whole limits b c f w exact some =
    elim (test_lt (length b) 12) [
      | inl t ↦ sight-short limits b t.1
      | inr t ↦
          let long : 12 ≤ length (b ++ c) = omega (arith, t.1, length-append b c) in
          let head : take 12 (b ++ c) ≡ take 12 b = take-append-le 12 b c t.1 in
          let there : under_header limits (b ++ c) (header_of (take 12 b)) ≡ Whole f = ap (λ (x : List ℕ). under_header limits (b ++ c) (header_of x)) (sym head) ∙ sym (sight-headed limits (b ++ c) long) ∙ w in
          sight-headed limits b t.1 ∙ under-whole limits b c (header_of (take 12 b)) f there exact some
    ]

-- a header is refused at its twelfth octet
pub front-refused : (limits : Limits) (b c : List ℕ) → length (b ++ c) ≡ 12 → 0 < length c → sight limits b ≡ Waiting
front-refused limits b c exact some = sight-short limits b (omega (arith, exact, some, length-append b c))

-- octets that wait are no more than a message may have

under-within : (limits : Limits) (b : List ℕ) (j : Result Header HeaderFault) → under_header limits b j ≡ Waiting → length b ≤ limits.message
under-within limits b (Err e) w = absurd cc
under-within limits b (Ok h) w = omega (arith, until-waiting (length b) (kept_size limits h) (framed h b) w, (kept-within limits h).1)

pub waiting-within : (limits : Limits) (b : List ℕ) → sight limits b ≡ Waiting → length b ≤ limits.message
waiting-within limits b w =
    elim (test_lt (length b) 12) [
      | inl t ↦ let least = limits.message_in_range in omega (arith, t.1, least.0)
      | inr t ↦ under-within limits b (header_of (take 12 b)) (sym (sight-headed limits b t.1) ∙ w)
    ]

-- twelve octets end where the header is judged

exact-until : (limits : Limits) (x : List ℕ) (h : Header) → length x ≡ 12 → IsExact limits x (until (length x) (kept_size limits h) (framed h x))
exact-until limits x h e =
    elim (test_lt (length x) (kept_size limits h)) [
      | inl t ↦ rw t.0 tt
      | inr t ↦ rw t.0 (omega (arith, t.1, e, (kept-within limits h).0))
    ]

exact-under : (limits : Limits) (x : List ℕ) (j : Result Header HeaderFault) → length x ≡ 12 → IsExact limits x (under_header limits x j)
exact-under limits x (Err d) e = e
exact-under limits x (Ok h) e = exact-until limits x h e

exact-head : (limits : Limits) (x : List ℕ) → length x ≡ 12 → IsExact limits x (sight limits x)
exact-head limits x e = rw (sight-headed limits x (omega (arith, e))) (exact-under limits x (header_of (take 12 x)) e)

-- fewer than twelve octets need so many as make twelve
pub needs-head : (limits : Limits) (b : List ℕ) → length b < 12 → Needs limits b (12 - length b)
needs-head limits b few = record {
  some = omega arith;
  waits = λ c h. sight-short limits (b ++ c) (omega (arith, h, length-append b c));
  exact = λ c e. exact-head limits (b ++ c) (omega (arith, e, length-append b c));
}

pub needs-nothing : (limits : Limits) → Needs limits [] 12
needs-nothing limits = needs-head limits [] (omega arith)

-- a header needs the rest of what is kept of its frame
pub needs-frame : (limits : Limits) (b : List ℕ) (h : Header) → 12 ≤ length b → header_of (take 12 b) ≡ Ok h → length b < kept_size limits h → Needs limits b (kept_size limits h - length b)
needs-frame limits b h long j few =
    let same : (c : List ℕ) → header_of (take 12 (b ++ c)) ≡ Ok h = λ c. ap header_of (take-append-le 12 b c long) ∙ j in
    record {
      some = omega arith;
      waits = λ c l. sight-early limits (b ++ c) h (omega (arith, long, length-append b c)) (same c) (omega (arith, l, length-append b c));
      exact = λ c e.
          let whole : length (b ++ c) ≡ kept_size limits h = omega (arith, e, few, length-append b c) in
          rw (sight-all limits (b ++ c) h (omega (arith, long, length-append b c)) (same c) (omega (arith, whole))) whole;
    }

-- some octets later fewer are needed
pub needs-less : (limits : Limits) (b c : List ℕ) (n : ℕ) → Needs limits b n → length c < n → Needs limits (b ++ c) (n - length c)
needs-less limits b c n need few = record {
  some = omega arith;
  waits = λ d h. rw (append_assoc b c d) (need.waits (c ++ d) (omega (arith, h, few, length-append c d)));
  exact = λ d e. rw (append_assoc b c d) (need.exact (c ++ d) (omega (arith, e, few, length-append c d)));
}

-- what needs octets waits
pub needs-waits : (limits : Limits) (b : List ℕ) (n : ℕ) → Needs limits b n → sight limits b ≡ Waiting
needs-waits limits b n need = ap (sight limits) (sym (append-nil b)) ∙ need.waits [] (omega (arith, need.some))

-- the judgement of the first twelve octets
pub judgement : (b head : List ℕ) (r : Result Header HeaderFault) → head ≡ take 12 b → r ≡ header_of head → header_of (take 12 b) ≡ r
judgement b head r same is = ap header_of (sym same) ∙ sym is
