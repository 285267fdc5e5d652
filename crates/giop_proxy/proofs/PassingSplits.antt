-- How a stream splits as more octets come.
use Rattle.std.proofs.Common.{◌≡◌, ℕ, zero, suc, ◌-◌, ◌<◌, ◌≤◌, List, [], ◌∷◌, ◌++◌, length, Some, None, refl, sym, ap, ◌∙◌, arith, append_assoc}
use Rattle.std.proofs.lemmas.List.{append-nil}
use Rattle.giop_frames.specs.declared.fault.StreamFault.{StreamFault}
use Rattle.giop_frames.specs.declared.limits.Limits.{Limits}
use Rattle.giop_frames.specs.Frames.{Frame, Refused, Waiting, Whole}
use Rattle.giop_proxy.specs.Passing.{Split, after_frame, kept_size, over_size, sight, split_from}
use Rattle.giop_proxy.proofs.PassingSights.{front-refused, front-waiting, front-whole}

-- one octet more, by what is seen

pub step-waiting : (limits : Limits) (w : List ℕ) (x : ℕ) (xs : List ℕ) → sight limits (w ++ x ∷ []) ≡ Waiting → split_from limits w 0 (x ∷ xs) ≡ split_from limits (w ++ x ∷ []) 0 xs
step-waiting limits w x xs e = rw (e, split_from) refl

pub step-whole : (limits : Limits) (w : List ℕ) (x : ℕ) (xs : List ℕ) (f : Frame) → sight limits (w ++ x ∷ []) ≡ Whole f → split_from limits w 0 (x ∷ xs) ≡ after_frame f (split_from limits [] (over_size limits f.header) xs)
step-whole limits w x xs f e = rw (e, split_from) refl

pub step-refused : (limits : Limits) (w : List ℕ) (x : ℕ) (xs : List ℕ) (d : StreamFault) → sight limits (w ++ x ∷ []) ≡ Refused d → split_from limits w 0 (x ∷ xs) ≡ record { frames = []; rest = w ++ x ∷ []; over = 0; fault = Some d }
step-refused limits w x xs d e = rw (e, split_from) refl

-- many octets at once

pub split-over : (limits : Limits) (w : List ℕ) (o p : ℕ) (c ys : List ℕ) → length c ≤ o → p ≡ o - length c → split_from limits w o (c ++ ys) ≡ split_from limits w p ys
split-over limits w o p [] ys few is = ap (λ (n : ℕ). split_from limits w n ys) (omega (arith, is))
split-over limits w zero p (x ∷ c) ys few is = absurd (omega (arith, few))
split-over limits w (suc o) p (x ∷ c) ys few is = split-over limits w o p c ys (omega (arith, few)) (omega (arith, is))

pub split-waiting : (limits : Limits) (w c ys : List ℕ) → sight limits (w ++ c) ≡ Waiting → split_from limits w 0 (c ++ ys) ≡ split_from limits (w ++ c) 0 ys
split-waiting limits w [] ys e = rw append-nil refl
split-waiting limits w (x ∷ c) ys e =
    let push : w ++ x ∷ [] ++ c ≡ w ++ x ∷ c = append_assoc w (x ∷ []) c in
    let later : sight limits (w ++ x ∷ [] ++ c) ≡ Waiting = ap (sight limits) push ∙ e in
    step-waiting limits w x (c ++ ys) (front-waiting limits (w ++ x ∷ []) c later) ∙ split-waiting limits (w ++ x ∷ []) c ys later ∙ ap (λ (b : List ℕ). split_from limits b 0 ys) push

pub split-whole : (limits : Limits) (w c ys : List ℕ) (f : Frame) → sight limits (w ++ c) ≡ Whole f → length (w ++ c) ≡ kept_size limits f.header → 0 < length c → split_from limits w 0 (c ++ ys) ≡ after_frame f (split_from limits [] (over_size limits f.header) ys)
split-whole limits w [] ys f e exact some = absurd (omega (arith, some))
split-whole limits w (x ∷ []) ys f e exact some = step-whole limits w x ys f e
split-whole limits w (x ∷ (y ∷ c)) ys f e exact some =
    let push : w ++ x ∷ [] ++ y ∷ c ≡ w ++ x ∷ (y ∷ c) = append_assoc w (x ∷ []) (y ∷ c) in
    let later : sight limits (w ++ x ∷ [] ++ y ∷ c) ≡ Whole f = ap (sight limits) push ∙ e in
    let long : length (w ++ x ∷ [] ++ y ∷ c) ≡ kept_size limits f.header = ap length push ∙ exact in
    let more : 0 < length (y ∷ c) = omega arith in
    step-waiting limits w x (y ∷ c ++ ys) (front-whole limits (w ++ x ∷ []) (y ∷ c) f later long more) ∙ split-whole limits (w ++ x ∷ []) (y ∷ c) ys f later long more

pub split-refused : (limits : Limits) (w c ys : List ℕ) (d : StreamFault) → sight limits (w ++ c) ≡ Refused d → length (w ++ c) ≡ 12 → 0 < length c → split_from limits w 0 (c ++ ys) ≡ record { frames = []; rest = w ++ c; over = 0; fault = Some d }
split-refused limits w [] ys d e exact some = absurd (omega (arith, some))
split-refused limits w (x ∷ []) ys d e exact some = step-refused limits w x ys d e
split-refused limits w (x ∷ (y ∷ c)) ys d e exact some =
    let push : w ++ x ∷ [] ++ y ∷ c ≡ w ++ x ∷ (y ∷ c) = append_assoc w (x ∷ []) (y ∷ c) in
    let later : sight limits (w ++ x ∷ [] ++ y ∷ c) ≡ Refused d = ap (sight limits) push ∙ e in
    let long : length (w ++ x ∷ [] ++ y ∷ c) ≡ 12 = ap length push ∙ exact in
    let more : 0 < length (y ∷ c) = omega arith in
    step-waiting limits w x (y ∷ c ++ ys) (front-refused limits (w ++ x ∷ []) (y ∷ c) long more) ∙ split-refused limits (w ++ x ∷ []) (y ∷ c) ys d later long more ∙ ap (λ (b : List ℕ). record { frames = []; rest = b; over = 0; fault = Some d }) push

-- frames before a split
abbrev pub after_frames : List Frame → Split → Split
after_frames fs s = record s { frames = fs ++ s.frames }

-- cutting a stream anywhere makes no difference, where no header is refused
pub split-append : (limits : Limits) (w : List ℕ) (o : ℕ) (s c : List ℕ) → (split_from limits w o s).fault ≡ None → split_from limits w o (s ++ c) ≡ after_frames (split_from limits w o s).frames (split_from limits (split_from limits w o s).rest (split_from limits w o s).over c)
split-append limits w o [] c n = refl
split-append limits w (suc o) (x ∷ s) c n = split-append limits w o s c n
split-append limits w zero (x ∷ s) c n =
    (elim (sight limits (w ++ x ∷ [])) as (λ v. sight limits (w ++ x ∷ []) ≡ v → split_from limits w 0 (x ∷ s ++ c) ≡ after_frames (split_from limits w 0 (x ∷ s)).frames (split_from limits (split_from limits w 0 (x ∷ s)).rest (split_from limits w 0 (x ∷ s)).over c)) [
      | Waiting ↦ λ e.
          let here = step-waiting limits w x s e in
          let ends : (split_from limits (w ++ x ∷ []) 0 s).fault ≡ None = ap (λ (t : Split). t.fault) (sym here) ∙ n in
          step-waiting limits w x (s ++ c) e ∙ split-append limits (w ++ x ∷ []) 0 s c ends ∙ ap (λ (t : Split). after_frames t.frames (split_from limits t.rest t.over c)) (sym here)
      | Whole f ↦ λ e.
          let here = step-whole limits w x s f e in
          let ends : (split_from limits [] (over_size limits f.header) s).fault ≡ None = ap (λ (t : Split). t.fault) (sym here) ∙ n in
          step-whole limits w x (s ++ c) f e ∙ ap (after_frame f) (split-append limits [] (over_size limits f.header) s c ends) ∙ ap (λ (t : Split). after_frames t.frames (split_from limits t.rest t.over c)) (sym here)
      | Refused d ↦ λ e. absurd (let k : Some d ≡ None = ap (λ (t : Split). t.fault) (sym (step-refused limits w x s d e)) ∙ n in cc)
    ]) refl
