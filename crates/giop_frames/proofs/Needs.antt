-- How many octets are needed before something can be judged.
use Rattle.std.proofs.Common.{◌≡◌, ℕ, ◌-◌, ◌<◌, ◌≤◌, List, [], ◌++◌, length, take, Result, Ok, Err, refl, sym, ap, subst, ◌∙◌, inl, inr, arith, append_assoc, length-append}
use Rattle.std.proofs.lemmas.Bool.{le-ltb}
use Rattle.std.proofs.lemmas.List.{append-nil, take-append-le}
use Rattle.giop_core.specs.declared.header.Header.{Header}
use Rattle.giop_core.specs.Headers.{header_of}
use Rattle.giop_frames.specs.declared.fault.StreamFault.{StreamFault}
use Rattle.giop_frames.specs.declared.deframer.Seen.{Seen}
use Rattle.giop_frames.specs.declared.limits.Limits.{Limits}
use Rattle.giop_frames.specs.Frames.{Waiting, Whole, Refused, frame_size, judged_header, sight, under_header}
use Rattle.giop_frames.specs.Private.{Needs, IsExact, sight_at}
use Rattle.giop_frames.specs.Standing.{framed}
use Rattle.giop_frames.proofs.Sights.{sight-long, sight-short, until, until-few}
use Rattle.giop_frames.proofs.Deciding.{test_lt}

-- by the header, where there is one

pub sight-refused : (limits : Limits) (b : List ℕ) (e : StreamFault) → 12 ≤ length b → judged_header limits (header_of (take 12 b)) ≡ Err e → sight limits b ≡ Refused e
sight-refused limits b e long j = sight-long limits b long ∙ ap (under_header b) j

pub sight-early : (limits : Limits) (b : List ℕ) (h : Header) → 12 ≤ length b → judged_header limits (header_of (take 12 b)) ≡ Ok h → length b < frame_size h → sight limits b ≡ Waiting
sight-early limits b h long j few = sight-long limits b long ∙ ap (under_header b) j ∙ until-few (length b) (frame_size h) (framed h b) few

pub sight-all : (limits : Limits) (b : List ℕ) (h : Header) → 12 ≤ length b → judged_header limits (header_of (take 12 b)) ≡ Ok h → frame_size h ≤ length b → sight limits b ≡ Whole (framed h b)
sight-all limits b h long j all = sight-long limits b long ∙ ap (under_header b) j ∙ rw (le-ltb (length b) (frame_size h) all) refl

-- twelve octets end where the header is judged

exact-until : (x : List ℕ) (h : Header) → length x ≡ 12 → IsExact x (until (length x) (frame_size h) (framed h x))
exact-until x h e =
    elim (test_lt (length x) (frame_size h)) [
      | inl t ↦ rw t.0 tt
      | inr t ↦ rw t.0 (omega (arith, t.1, e))
    ]

exact-under : (x : List ℕ) (j : Result Header StreamFault) → length x ≡ 12 → IsExact x (under_header x j)
exact-under x (Err d) e = e
exact-under x (Ok h) e = exact-until x h e

exact-head : (limits : Limits) (x : List ℕ) → length x ≡ 12 → IsExact x (sight limits x)
exact-head limits x e = rw (sight-long limits x (omega (arith, e))) (exact-under x (judged_header limits (header_of (take 12 x))) e)

-- fewer than twelve octets need so many as make twelve
pub needs-head : (limits : Limits) (b : List ℕ) → length b < 12 → Needs limits b (12 - length b)
needs-head limits b few = record {
  some = omega arith;
  waits = λ c h. sight-short limits (b ++ c) (omega (arith, h, length-append b c));
  exact = λ c e. exact-head limits (b ++ c) (omega (arith, e, length-append b c));
  ends = inl (omega (arith, few));
}

pub needs-nothing : (limits : Limits) → Needs limits [] 12
needs-nothing limits = needs-head limits [] (omega arith)

-- a header needs the rest of its frame
pub needs-frame : (limits : Limits) (b : List ℕ) (h : Header) → 12 ≤ length b → judged_header limits (header_of (take 12 b)) ≡ Ok h → length b < frame_size h → Needs limits b (frame_size h - length b)
needs-frame limits b h long j few =
    let same : (c : List ℕ) → judged_header limits (header_of (take 12 (b ++ c))) ≡ Ok h = λ c. ap (λ (x : List ℕ). judged_header limits (header_of x)) (take-append-le 12 b c long) ∙ j in
    record {
      some = omega arith;
      waits = λ c l. sight-early limits (b ++ c) h (omega (arith, long, length-append b c)) (same c) (omega (arith, l, length-append b c));
      exact = λ c e.
          let whole : length (b ++ c) ≡ frame_size h = omega (arith, e, few, length-append b c) in
          rw (sight-all limits (b ++ c) h (omega (arith, long, length-append b c)) (same c) (omega (arith, whole))) whole;
      ends = inr (λ c e w.
          let whole : length (b ++ c) ≡ frame_size h = omega (arith, e, few, length-append b c) in
          let all = sight-all limits (b ++ c) h (omega (arith, long, length-append b c)) (same c) (omega (arith, whole)) in
          let k : Whole (framed h (b ++ c)) ≡ Waiting = sym all ∙ w in cc);
    }

-- some octets later fewer are needed
pub needs-less : (limits : Limits) (b c : List ℕ) (n : ℕ) → Needs limits b n → length c < n → Needs limits (b ++ c) (n - length c)
needs-less limits b c n need few = record {
  some = omega arith;
  waits = λ d h. rw (append_assoc b c d) (need.waits (c ++ d) (omega (arith, h, few, length-append c d)));
  exact = λ d e. rw (append_assoc b c d) (need.exact (c ++ d) (omega (arith, e, few, length-append c d)));
  ends = elim need.ends [
    | inl all ↦ inl (omega (arith, all, few, length-append b c))
    | inr judged ↦ inr (λ d e w. judged (c ++ d) (omega (arith, e, few, length-append c d)) (ap (sight limits) (sym (append_assoc b c d)) ∙ w))
  ];
}

-- what needs octets waits
pub needs-waits : (limits : Limits) (b : List ℕ) (n : ℕ) → Needs limits b n → sight limits b ≡ Waiting
needs-waits limits b n need = ap (sight limits) (sym (append-nil b)) ∙ need.waits [] (omega (arith, need.some))

-- all that were needed have come
pub needs-exact : (limits : Limits) (b c : List ℕ) (n : ℕ) (s : Seen) → Needs limits b n → length c ≡ n → sight_at s (b ++ c) ≡ sight limits (b ++ c) → IsExact (b ++ c) (sight_at s (b ++ c))
needs-exact limits b c n s need e is = subst (IsExact (b ++ c)) (sym is) (need.exact c e)

-- the judgement of the first twelve octets
pub judgement : (limits : Limits) (b head : List ℕ) (r : Result Header StreamFault) → head ≡ take 12 b → r ≡ judged_header limits (header_of head) → judged_header limits (header_of (take 12 b)) ≡ r
judgement limits b head r same is = ap (λ (x : List ℕ). judged_header limits (header_of x)) (sym same) ∙ sym is
