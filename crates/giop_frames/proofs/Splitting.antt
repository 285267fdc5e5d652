-- A stream is its frames and its rest.
use Rattle.std.proofs.Common.{◌≡◌, ℕ, ◌<◌, ◌≤◌, List, [], ◌∷◌, ◌++◌, length, take, None, Some, Result, Ok, Err, refl, sym, ap, subst, ◌∙◌, inl, inr, arith, append_assoc, length-append}
use Rattle.std.proofs.lemmas.List.{append-nil, take-append-le}
use Rattle.giop_core.specs.declared.header.Header.{Header}
use Rattle.giop_core.specs.declared.header.HeaderFault.{HeaderFault}
use Rattle.giop_core.specs.Headers.{header_of}
use Rattle.giop_frames.specs.declared.fault.StreamFault.{StreamFault}
use Rattle.giop_frames.specs.declared.limits.Limits.{Limits}
use Rattle.giop_frames.specs.Frames.{Frame, Refused, Split, Waiting, Whole, admitted, after_frame, frame_size, judged_header, sight, split, split_from, under_header}
use Rattle.giop_frames.specs.Standing.{framed}
use Rattle.giop_frames.specs.Splitting.{IsFrame, Splits}
use Rattle.giop_frames.specs.Laws.{RestsHaveNoFrame, SplitsAreTheOnes, StreamsSplit}
use Rattle.giop_frames.proofs.Bounds.{admitted-within}
use Rattle.giop_frames.proofs.Needs.{sight-all}
use Rattle.giop_frames.proofs.Sights.{front-waiting, nothing-waits, sight-long, sight-short, until-waiting, until-whole}
use Rattle.giop_frames.proofs.Splits.{split-waiting, split-whole, step-refused, step-waiting, step-whole}
use Rattle.giop_frames.proofs.Deciding.{test_lt}

-- a whole frame is a frame, where it has no octets too many

under-frame : (limits : Limits) (b : List ℕ) (r : Result Header HeaderFault) (f : Frame) → r ≡ header_of (take 12 b) → length b ≡ frame_size f.header → under_header b (judged_header limits r) ≡ Whole f → IsFrame limits f b
under-frame limits b (Err e) f is exact w = absurd cc
under-frame limits b (Ok h) f is exact w = by (admitted limits h) refl
  where
    by : (j : Result Header StreamFault) → admitted limits h ≡ j → IsFrame limits f b
    by (Err e) a = absurd (let k : under_header b (admitted limits h) ≡ Refused e = ap (under_header b) a in cc)
    by (Ok k) a =
        let same = (admitted-within limits h k a).0 in
        let there : under_header b (Ok k) ≡ Whole f = ap (under_header b) (sym a) ∙ w in
        let u = until-whole (length b) (frame_size k) (framed k b) f there in
        let header : k ≡ f.header = ap (λ (g : Frame). g.header) u.1 in
        record {
          header = sym is ∙ ap (λ (x : Header). Ok x) (same ∙ header);
          taken = subst (λ (x : Header). admitted limits x ≡ Ok x) header (subst (λ (x : Header). admitted limits x ≡ Ok k) same a);
          long = exact;
          rest = ap (λ (g : Frame). g.octets) (sym u.1);
        }

pub sight-frame : (limits : Limits) (b : List ℕ) (f : Frame) → sight limits b ≡ Whole f → length b ≡ frame_size f.header → IsFrame limits f b
sight-frame limits b f w exact =
    elim (test_lt (length b) 12) [
      | inl t ↦ absurd (let k = sight-short limits b t.1 in cc)
      | inr t ↦ under-frame limits b (header_of (take 12 b)) f refl exact (sym (sight-long limits b t.1) ∙ w)
    ]

pub frame-sight : (limits : Limits) (b : List ℕ) (f : Frame) → IsFrame limits f b → sight limits b ≡ Whole f
frame-sight limits b f i =
    let long : 12 ≤ length b = omega (arith, i.long) in
    let judged : judged_header limits (header_of (take 12 b)) ≡ Ok f.header = ap (judged_header limits) i.header ∙ i.taken in
    let all : frame_size f.header ≤ length b = omega (arith, i.long) in
    sight-all limits b f.header long judged all ∙ ap (λ (x : List ℕ). Whole (record { header = f.header; octets = x })) (sym i.rest)

-- one octet more than octets that wait is not too many

more-under : (w : List ℕ) (x : ℕ) (j : Result Header StreamFault) (f : Frame) → under_header w j ≡ Waiting → under_header (w ++ x ∷ []) j ≡ Whole f → length (w ++ x ∷ []) ≡ frame_size f.header
more-under w x (Err e) f a b = absurd cc
more-under w x (Ok h) f a b =
    let few = until-waiting (length w) (frame_size h) (framed h w) a in
    let u = until-whole (length (w ++ x ∷ [])) (frame_size h) (framed h (w ++ x ∷ [])) f b in
    let size : frame_size h ≡ frame_size f.header = ap (λ (g : Frame). frame_size g.header) u.1 in
    omega (arith, few, u.0, size, length-append w (x ∷ []))

head-under : (b : List ℕ) (j : Result Header StreamFault) (f : Frame) → length b ≡ 12 → under_header b j ≡ Whole f → length b ≡ frame_size f.header
head-under b (Err e) f l w = absurd cc
head-under b (Ok h) f l w =
    let u = until-whole (length b) (frame_size h) (framed h b) f w in
    let size : frame_size h ≡ frame_size f.header = ap (λ (g : Frame). frame_size g.header) u.1 in
    omega (arith, l, u.0, size)

pub exact-next : (limits : Limits) (w : List ℕ) (x : ℕ) (f : Frame) → sight limits w ≡ Waiting → sight limits (w ++ x ∷ []) ≡ Whole f → length (w ++ x ∷ []) ≡ frame_size f.header
exact-next limits w x f a b =
    elim (test_lt (length (w ++ x ∷ [])) 12) [
      | inl t ↦ absurd (let k = sight-short limits (w ++ x ∷ []) t.1 in cc)
      | inr t ↦
          let j = judged_header limits (header_of (take 12 (w ++ x ∷ []))) in
          let there : under_header (w ++ x ∷ []) j ≡ Whole f = sym (sight-long limits (w ++ x ∷ []) t.1) ∙ b in
          elim (test_lt (length w) 12) [
            | inl u ↦ head-under (w ++ x ∷ []) j f (omega (arith, t.1, u.1, length-append w (x ∷ []))) there
            | inr u ↦
                let same : take 12 (w ++ x ∷ []) ≡ take 12 w = take-append-le 12 w (x ∷ []) u.1 in
                let before : under_header w j ≡ Waiting = ap (λ (y : List ℕ). under_header w (judged_header limits (header_of y))) same ∙ sym (sight-long limits w u.1) ∙ a in
                more-under w x j f before there
          ]
    ]

-- a stream is its frames and its rest

splits-from : (limits : Limits) (w s : List ℕ) → sight limits w ≡ Waiting → (split_from limits w s).fault ≡ None → Splits limits (w ++ s) (split_from limits w s).frames (split_from limits w s).rest × (sight limits (split_from limits w s).rest ≡ Waiting)
splits-from limits w [] waits n = (append-nil w, waits)
splits-from limits w (x ∷ s) waits n =
    (elim (sight limits (w ++ x ∷ [])) as (λ v. sight limits (w ++ x ∷ []) ≡ v → Splits limits (w ++ x ∷ s) (split_from limits w (x ∷ s)).frames (split_from limits w (x ∷ s)).rest × (sight limits (split_from limits w (x ∷ s)).rest ≡ Waiting)) [
      | Waiting ↦ λ e.
          let here = step-waiting limits w x s e in
          let later = splits-from limits (w ++ x ∷ []) s e (ap (λ (t : Split). t.fault) (sym here) ∙ n) in
          let push : w ++ x ∷ [] ++ s ≡ w ++ x ∷ s = append_assoc w (x ∷ []) s in
          subst (λ (t : Split). Splits limits (w ++ x ∷ s) t.frames t.rest × (sight limits t.rest ≡ Waiting)) (sym here)
          (subst (λ (y : List ℕ). Splits limits y (split_from limits (w ++ x ∷ []) s).frames (split_from limits (w ++ x ∷ []) s).rest) push later.0, later.1)
      | Whole f ↦ λ e.
          let here = step-whole limits w x s f e in
          let later = splits-from limits [] s (nothing-waits limits) (ap (λ (t : Split). t.fault) (sym here) ∙ n) in
          let push : w ++ x ∷ s ≡ w ++ x ∷ [] ++ s = sym (append_assoc w (x ∷ []) s) in
          subst (λ (t : Split). Splits limits (w ++ x ∷ s) t.frames t.rest × (sight limits t.rest ≡ Waiting)) (sym here)
          ((w ++ x ∷ [], s, push, sight-frame limits (w ++ x ∷ []) f e (exact-next limits w x f waits e), later.0), later.1)
      | Refused d ↦ λ e. absurd (let k : Some d ≡ None = ap (λ (t : Split). t.fault) (sym (step-refused limits w x s d e)) ∙ n in cc)
    ]) refl

pub streams_split : StreamsSplit
unfolding split
streams_split limits s n = splits-from limits [] s (nothing-waits limits) n

splits-only : (limits : Limits) (s : List ℕ) (fs : List Frame) (rest : List ℕ) → Splits limits s fs rest → sight limits rest ≡ Waiting → split_from limits [] s ≡ record { frames = fs; rest = rest; fault = None }
splits-only limits s [] rest is waits =
    ap (split_from limits []) (is ∙ sym (append-nil rest)) ∙ split-waiting limits [] rest [] waits
splits-only limits s (f ∷ fs) rest p waits =
    let i = p.3 in
    let some : 0 < length p.0 = omega (arith, i.long) in
    ap (split_from limits []) p.2 ∙ split-whole limits [] p.0 p.1 f (frame-sight limits p.0 f i) i.long some ∙ ap (after_frame f) (splits-only limits p.1 fs rest p.4 waits)

pub only_splits : SplitsAreTheOnes
unfolding split
only_splits limits s fs rest is waits = splits-only limits s fs rest is waits

pub rest_without : RestsHaveNoFrame
rest_without limits rest front later f waits is i =
    let front_waits = front-waiting limits front later (ap (sight limits) (sym is) ∙ waits) in
    let whole = frame-sight limits front f i in
    cc
