-- Fragments that are appended one after another.
use Rattle.std.proofs.Common.{◌≡◌, ℕ, ◌+◌, ◌-◌, ◌<◌, ◌≤◌, true, false, List, [], ◌++◌, length, take, drop, get_or, map, Result, Ok, Err, sym, ap, ◌∙◌, append_assoc}
use Rattle.std.specs.List.{flat_map}
use Rattle.std.specs.Prelude.{OnErr, OnOk}
use Rattle.std.specs.declared.alloc.AllocError.{AllocError}
use Rattle.std.proofs.lemmas.List.{append-nil, drop_all, drop_more}
use Rattle.giop_core.specs.declared.header.Header.{Header}
use Rattle.giop_frames.specs.Cutting.{fragment_of, fragments_of, frame_octets}
use Rattle.giop_frames.specs.Frames.{Frame}
use Rattle.giop_frames.specs.Private.{IsAppended}
use Rattle.giop_frames.proofs.Chunks.{appended-more}
use Rattle.giop_proxy.specs.Cuts.{chunks_at, in_message}
use Rattle.giop_proxy.proofs.CutAgain.{fragments-more}

module _ (h : Header) (place from i : ℕ) (cuts left out whole : List ℕ) where
  -- what is appended behind the first i cuts
  abbrev pub rest : List ℕ
  rest = flat_map frame_octets (fragments_of h [] (chunks_at from (in_message place (drop i cuts)) left))

  pub next-fragment : i < length cuts → (n : ℕ) (front others after : List ℕ) → n ≡ (place + get_or cuts i 0) - from → front ≡ take n left → others ≡ drop n left
      → after ≡ out ++ frame_octets (fragment_of h [] true front) → out ++ rest ≡ whole
      → after ++ flat_map frame_octets (fragments_of h [] (chunks_at (from + n) (in_message place (drop (i + 1) cuts)) others)) ≡ whole
  next-fragment lt n front others after is first second put same =
      let at = place + get_or cuts i 0 in
      let x = take (at - from) left in
      let last = drop (at - from) left in
      let more = flat_map frame_octets (fragments_of h [] (chunks_at (from + (at - from)) (in_message place (drop (i + 1) cuts)) last)) in
      let f = frame_octets (fragment_of h [] true x) in
      let unrolled : rest ≡ f ++ more =
      ap (λ (ats : List ℕ). flat_map frame_octets (fragments_of h [] (chunks_at from (map (λ (a : ℕ). place + a) ats) left))) (drop_more cuts i 0 lt)
      ∙ ap (λ (fs : List Frame). flat_map frame_octets fs) (fragments-more h x (from + (at - from)) (in_message place (drop (i + 1) cuts)) last) in
      let front-is : front ≡ x = first ∙ ap (λ (m : ℕ). take m left) is in
      let put' : after ≡ out ++ f = put ∙ ap (λ (y : List ℕ). out ++ frame_octets (fragment_of h [] true y)) front-is in
      let others-is : others ≡ last = second ∙ ap (λ (m : ℕ). drop m left) is in
      ap (λ (y : List ℕ). after ++ flat_map frame_octets (fragments_of h [] (chunks_at (from + n) (in_message place (drop (i + 1) cuts)) y))) others-is
      ∙ ap (λ (m : ℕ). after ++ flat_map frame_octets (fragments_of h [] (chunks_at (from + m) (in_message place (drop (i + 1) cuts)) last))) is
      ∙ ap (λ (y : List ℕ). y ++ more) put' ∙ append_assoc out f more ∙ ap (λ (y : List ℕ). out ++ y) (sym unrolled) ∙ same

  pub last-fragment : length cuts ≤ i → out ++ rest ≡ whole → out ++ frame_octets (fragment_of h [] false left) ≡ whole
  last-fragment le same =
      let f = frame_octets (fragment_of h [] false left) in
      let done : rest ≡ f = ap (λ (ats : List ℕ). flat_map frame_octets (fragments_of h [] (chunks_at from (map (λ (a : ℕ). place + a) ats) left))) (drop_all i cuts le) ∙ append-nil f in
      ap (λ (y : List ℕ). out ++ y) (sym done) ∙ same

-- the last of some appends, where either outcome is handed on

pub last-ok : (r : Result (Unit {0}) AllocError) (new mid whole : List ℕ) → OnOk r (new ≡ mid) → mid ≡ whole → OnOk r (new ≡ whole)
last-ok (Ok x) new mid whole ok e = ok ∙ e
last-ok (Err x) new mid whole ok e = tt

pub last-err : (r : Result (Unit {0}) AllocError) (old mid new : List ℕ) → IsAppended old mid → OnErr r (IsAppended mid new) → OnErr r (IsAppended old new)
last-err (Ok x) old mid new a err = tt
last-err (Err x) old mid new a err = appended-more old mid new a err
