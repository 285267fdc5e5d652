-- A message that lies whole where a piece begins, and is judged by itself.
use Rattle.std.proofs.Common.{◌≡◌, ℕ, ◌<◌, ◌≤◌, ◌&&◌, nat_lt, Bool, true, false, List, [], ◌∷◌, ◌++◌, length, take, drop, Ok, Option, Some, None, refl, sym, ap, subst, ◌∙◌, arith, length-drop}
use Rattle.std.proofs.lemmas.Bool.{le-ltb}
use Rattle.std.proofs.lemmas.List.{length-take-le, take-take}
use Rattle.giop_core.specs.declared.header.Header.{Header}
use Rattle.giop_core.specs.declared.message.Places.{Places}
use Rattle.giop_core.specs.Headers.{header_of}
use Rattle.giop_core.specs.Places.{ArePlacesOf}
use Rattle.giop_frames.specs.declared.limits.Limits.{Limits}
use Rattle.giop_frames.specs.declared.partial.Part.{Part}
use Rattle.giop_frames.specs.declared.reassembly.Role.{Role}
use Rattle.giop_frames.specs.declared.reassembly.Role.TheVariants.{Opens, Carries, Ends, Drops, Uncut, Apart}
use Rattle.giop_frames.specs.declared.reassembly.Settled.TheVariants.{Done as SettledDone}
use Rattle.giop_frames.specs.Frames.{frame_size, judged_header}
use Rattle.giop_frames.specs.Fragments.{Done, has_id, judged_whole, on_content, role_of}
use Rattle.giop_frames.specs.Private.{IsSettled, IsStep, IsWhole, LiesWhole, is_alone}
use Rattle.giop_frames.specs.Standing.{entries, framed}
use Rattle.giop_frames.specs.Streams.{Stands}
use Rattle.giop_frames.proofs.Judging.{by-apart, by-uncut, settled-by}
use Rattle.giop_frames.proofs.Needs.{judgement, sight-all}
use Rattle.giop_frames.proofs.Stepping.{goes-done, keeps-done}

pub no-items : {A : Type 0} (xs : List A) → length xs ≡ 0 → xs ≡ []
no-items [] e = refl
no-items (x ∷ xs) e = absurd (omega (arith, e))

no-fewer : (x : Bool) (n m : ℕ) → m ≤ n → (x && nat_lt n m) ≡ false
no-fewer true n m l = le-ltb n m l
no-fewer false n m l = refl

by-role : (limits : Limits) (h : Header) (b : List ℕ) (r : Role) → r ≡ role_of h → is_alone r ≡ true → 16 ≤ length b → judged_whole (framed h b) ≡ Done (framed h b) → IsSettled (SettledDone h) limits h b b [] []
by-role limits h b Uncut is t long e =
    settled-by limits h b b [] [] Uncut (SettledDone h) is refl (no-fewer (has_id Uncut h.version) (length (drop 12 b)) 4 (omega (arith, long, length-drop 12 b)))
    (by-uncut limits h b b [] [] (SettledDone h) refl refl (omega (arith, long)) (sym e))
by-role limits h b Apart is t long e = settled-by limits h b b [] [] Apart (SettledDone h) is refl refl (by-apart limits h b b [] (SettledDone h) refl (omega (arith, long)) (sym e))
by-role limits h b Opens is t long e = absurd cc
by-role limits h b Carries is t long e = absurd cc
by-role limits h b Ends is t long e = absurd cc
by-role limits h b Drops is t long e = absurd cc

pub lies-whole : (limits : Limits) (piece head octets : List ℕ) (h : Header) (places : Places) → head ≡ take 12 piece → Ok h ≡ judged_header limits (header_of head) → is_alone (role_of h) ≡ true → 16 ≤ frame_size h → frame_size h ≤ length piece
    → octets ≡ drop 12 (take (frame_size h) piece) → ArePlacesOf h octets places → LiesWhole limits piece h places
lies-whole limits piece head octets h places first judged alone long within rest placed =
    let n = frame_size h in
    let b = take n piece in
    let size : length b ≡ n = length-take-le n piece within in
    let there : ArePlacesOf h (drop 12 b) places = subst (λ (x : List ℕ). ArePlacesOf h x places) rest placed in
    record {
      within = within;
      seen = sight-all limits b h (omega (arith, size, long)) (judgement limits b head (Ok h) (first ∙ sym (take-take 12 n piece (omega (arith, long)))) judged) (omega (arith, size));
      settled = by-role limits h b (role_of h) refl alone (omega (arith, size, long)) (ap (on_content (framed h b)) there.0);
      placed = there;
    }

-- it is taken in one step

module _ (limits : Limits) (piece : List ℕ) (h : Header) (places : Places) (k : LiesWhole limits piece h places) where
  abbrev frame : List ℕ
  frame = take (frame_size h) piece

  size : length frame ≡ frame_size h
  size = length-take-le (frame_size h) piece k.within

  step : (s : List ℕ) → Stands limits [] [] s → IsStep limits s frame (Some h) frame []
  step s stands = goes-done limits [] frame piece (frame_size h) refl k.within h (omega arith) (sym k.seen) size h frame [] [] s k.settled stands

  -- and its octets are copied where nothing was buffered
  module _ (b g : List ℕ) (nothing : b ≡ []) (copied : g ≡ b ++ frame) where
    is-frame : g ≡ frame
    is-frame = copied ∙ ap (λ (x : List ℕ). x ++ frame) nothing

    pub goes-whole : (n : ℕ) (ps : List Part) (s : List ℕ) → ps ≡ [] → n ≡ frame_size h → Stands limits b (entries ps) s → IsStep limits s (take n piece) (Some h) g (entries ps)
    goes-whole n ps s none is stands =
        let before : Stands limits [] [] s = subst (λ (x : List ℕ). Stands limits x [] s) nothing (subst (λ (qs : List Part). Stands limits b (entries qs) s) none stands) in
        subst (λ (m : ℕ). IsStep limits s (take m piece) (Some h) g (entries ps)) (sym is) (subst (λ (x : List ℕ). IsStep limits s frame (Some h) x (entries ps)) (sym is-frame) (subst (λ (qs : List Part). IsStep limits s frame (Some h) frame (entries qs)) (sym none) (step s before)))

    pub keeps-whole : IsWhole limits h g
    keeps-whole = subst (IsWhole limits h) (sym is-frame) (keeps-done limits [] frame piece (frame_size h) refl k.within h (omega arith) (sym k.seen) size h frame [] [] k.settled)
