-- A stream that is frames has these.
use Rattle.std.proofs.Common.{◌≡◌, ℕ, List, [], ◌∷◌, ◌++◌, length, take, drop, Ok, None, sym, ap, ◌∙◌, arith, append_assoc, length-drop}
use Rattle.std.proofs.lemmas.List.{append-nil, length-take-le, take-append-drop, take-take}
use Rattle.giop_core.specs.Headers.{header_of}
use Rattle.giop_frames.specs.declared.limits.Limits.{Limits}
use Rattle.giop_frames.specs.Frames.{Frame, Waiting, Whole}
use Rattle.giop_proxy.specs.Passing.{after_frame, kept_size, over_size, sight, split, split_from}
use Rattle.giop_proxy.specs.PassingLaws.{FramesAreTheOnes, IsKeptOf, KeepsFrames}
use Rattle.giop_proxy.specs.PassingPrivate.{framed}
use Rattle.giop_proxy.proofs.PassingSights.{kept-within, sight-all}
use Rattle.giop_proxy.proofs.PassingSplits.{split-over, split-waiting, split-whole}

-- one frame, and what comes after it
frame-first : (limits : Limits) (f : Frame) (front later : List ℕ) → IsKeptOf limits f front → split_from limits [] 0 (front ++ later) ≡ after_frame f (split_from limits [] 0 later)
frame-first limits f front later is =
    let n = kept_size limits f.header in
    let k = kept-within limits f.header in
    let c = take n front in
    let left = drop n front in
    let size : length c ≡ n = length-take-le n front (omega (arith, is.long, k.2)) in
    let rest : length left ≡ over_size limits f.header = omega (arith, is.long, length-drop n front) in
    let head : header_of (take 12 c) ≡ Ok f.header = ap header_of (take-take 12 n front k.0) ∙ is.header in
    let whole : framed f.header c ≡ f = ap (λ (x : List ℕ). record { header = f.header; octets = x }) (sym is.kept) in
    let seen : sight limits c ≡ Whole f = sight-all limits c f.header (omega (arith, size, k.0)) head (omega (arith, size)) ∙ ap (λ (g : Frame). Whole g) whole in
    let parts : front ++ later ≡ c ++ (left ++ later) = ap (λ (x : List ℕ). x ++ later) (sym (take-append-drop n front)) ∙ append_assoc c left later in
    ap (split_from limits [] 0) parts ∙ split-whole limits [] c (left ++ later) f seen size (omega (arith, size, k.0))
    ∙ ap (after_frame f) (split-over limits [] (over_size limits f.header) 0 left later (omega (arith, rest)) (omega (arith, rest)))

ones-from : (limits : Limits) (s : List ℕ) (fs : List Frame) (rest : List ℕ) → KeepsFrames limits s fs rest → sight limits rest ≡ Waiting → split_from limits [] 0 s ≡ record { frames = fs; rest = rest; over = 0; fault = None }
ones-from limits s [] rest is w = ap (split_from limits [] 0) (is ∙ sym (append-nil rest)) ∙ split-waiting limits [] rest [] w
ones-from limits s (f ∷ fs) rest is w =
    ap (split_from limits [] 0) is.2 ∙ frame-first limits f is.0 is.1 is.3 ∙ ap (after_frame f) (ones-from limits is.1 fs rest is.4 w)

pub the-ones : FramesAreTheOnes
unfolding split
the-ones limits s fs rest is w = ones-from limits s fs rest is w
