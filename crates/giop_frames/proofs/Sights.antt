-- What octets are seen to be as more come.
use Rattle.std.proofs.Common.{◌≡◌, ℕ, ◌<◌, ◌≤◌, cond, nat_lt, List, [], ◌++◌, length, take, drop, Result, Ok, Err, refl, sym, ap, ◌∙◌, inl, inr, arith, length-append}
use Rattle.std.proofs.lemmas.Bool.{lt-ltb, le-ltb}
use Rattle.std.proofs.lemmas.List.{take-append-le}
use Rattle.giop_core.specs.declared.header.Header.{Header}
use Rattle.giop_core.specs.Headers.{header_of}
use Rattle.giop_frames.specs.declared.fault.StreamFault.{StreamFault}
use Rattle.giop_frames.specs.declared.limits.Limits.{Limits}
use Rattle.giop_frames.specs.Frames.{Frame, Sight, Waiting, Whole, frame_size, judged_header, sight, under_header}
use Rattle.giop_frames.proofs.Deciding.{test_lt}

-- below twelve octets it waits, and from there on it goes by the header

pub sight-short : (limits : Limits) (b : List ℕ) → length b < 12 → sight limits b ≡ Waiting
unfolding sight
sight-short limits b h = rw (lt-ltb (length b) 12 h) refl

pub sight-long : (limits : Limits) (b : List ℕ) → 12 ≤ length b → sight limits b ≡ under_header b (judged_header limits (header_of (take 12 b)))
unfolding sight
sight-long limits b h = rw (le-ltb (length b) 12 h) refl

-- octets that wait until there are n, for a frame
abbrev pub until : ℕ → ℕ → Frame → Sight
until l n f = cond (nat_lt l n) Waiting (Whole f)

pub until-waiting : (l n : ℕ) (f : Frame) → until l n f ≡ Waiting → l < n
until-waiting l n f e = elim (test_lt l n) [ inl t ↦ t.1 | inr t ↦ absurd (let k : until l n f ≡ Whole f = rw t.0 refl in cc) ]

pub until-whole : (l n : ℕ) (f g : Frame) → until l n f ≡ Whole g → (n ≤ l) × (f ≡ g)
until-whole l n f g e =
    elim (test_lt l n) [
      | inl t ↦ absurd (let k : until l n f ≡ Waiting = rw t.0 refl in cc)
      | inr t ↦ let k : until l n f ≡ Whole f = rw t.0 refl in (t.1, cc)
    ]

pub until-few : (l n : ℕ) (f : Frame) → l < n → until l n f ≡ Waiting
until-few l n f h = rw (lt-ltb l n h) refl

-- a front of what waits waits

under-waiting : (b c : List ℕ) (j : Result Header StreamFault) → under_header (b ++ c) j ≡ Waiting → under_header b j ≡ Waiting
under-waiting b c (Err e) w = absurd cc
under-waiting b c (Ok h) w =
    let few = until-waiting (length (b ++ c)) (frame_size h) (record { header = h; octets = drop 12 (b ++ c) }) w in
    until-few (length b) (frame_size h) _ (omega (arith, few, length-append b c))

pub front-waiting : (limits : Limits) (b c : List ℕ) → sight limits (b ++ c) ≡ Waiting → sight limits b ≡ Waiting
front-waiting limits b c w =
    elim (test_lt (length b) 12) [
      | inl t ↦ sight-short limits b t.1
      | inr t ↦
          let long : 12 ≤ length (b ++ c) = omega (arith, t.1, length-append b c) in
          let head : take 12 (b ++ c) ≡ take 12 b = take-append-le 12 b c t.1 in
          let j = judged_header limits (header_of (take 12 b)) in
          let there : under_header (b ++ c) j ≡ Waiting = ap (λ (x : List ℕ). under_header (b ++ c) (judged_header limits (header_of x))) (sym head) ∙ sym (sight-long limits (b ++ c) long) ∙ w in
          sight-long limits b t.1 ∙ under-waiting b c j there
    ]

-- a shorter front of a whole frame waits

under-whole : (b c : List ℕ) (j : Result Header StreamFault) (f : Frame) → under_header (b ++ c) j ≡ Whole f → length (b ++ c) ≡ frame_size f.header → 0 < length c → under_header b j ≡ Waiting
under-whole b c (Err e) f w exact some = absurd cc
under-whole b c (Ok h) f w exact some =
    let is = until-whole (length (b ++ c)) (frame_size h) (record { header = h; octets = drop 12 (b ++ c) }) f w in
    let size : frame_size f.header ≡ frame_size h = ap (λ (g : Frame). frame_size g.header) (sym is.1) in
    until-few (length b) (frame_size h) _ (omega (arith, exact, size, some, length-append b c))

pub front-whole : (limits : Limits) (b c : List ℕ) (f : Frame) → sight limits (b ++ c) ≡ Whole f → length (b ++ c) ≡ frame_size f.header → 0 < length c → sight limits b ≡ Waiting
front-whole limits b c f w exact some =
    elim (test_lt (length b) 12) [
      | inl t ↦ sight-short limits b t.1
      | inr t ↦
          let long : 12 ≤ length (b ++ c) = omega (arith, t.1, length-append b c) in
          let head : take 12 (b ++ c) ≡ take 12 b = take-append-le 12 b c t.1 in
          let j = judged_header limits (header_of (take 12 b)) in
          let there : under_header (b ++ c) j ≡ Whole f = ap (λ (x : List ℕ). under_header (b ++ c) (judged_header limits (header_of x))) (sym head) ∙ sym (sight-long limits (b ++ c) long) ∙ w in
          sight-long limits b t.1 ∙ under-whole b c j f there exact some
    ]

-- a header is refused at its twelfth octet
pub front-refused : (limits : Limits) (b c : List ℕ) → length (b ++ c) ≡ 12 → 0 < length c → sight limits b ≡ Waiting
front-refused limits b c exact some = sight-short limits b (omega (arith, exact, some, length-append b c))

-- the empty front waits
pub nothing-waits : (limits : Limits) → sight limits [] ≡ Waiting
nothing-waits limits = sight-short limits [] (omega arith)
