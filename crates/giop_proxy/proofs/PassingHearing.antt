-- Frames to what is told of a stream.
use Rattle.std.proofs.Common.{◌≡◌, ℕ, List, [], ◌∷◌, ◌++◌, Option, Some, None, IsSomeAnd, refl, sym, ap, subst, ◌∙◌, append_assoc}
use Rattle.std.specs.Option.{option_map}
use Rattle.std.proofs.lemmas.List.{append-nil}
use Rattle.giop_core.specs.declared.header.Header.{Header}
use Rattle.giop_frames.specs.declared.fault.StreamFault.{StreamFault}
use Rattle.giop_frames.specs.declared.limits.Limits.{Limits}
use Rattle.giop_frames.specs.Frames.{Frame}
use Rattle.giop_proxy.specs.declared.passes.coming.Told.{Told as ToldHere}
use Rattle.giop_proxy.specs.declared.passes.keys.Key.{Key}
use Rattle.giop_proxy.specs.Passing.{FramesStand, IsFrameFault, Refuses, Splitting, fault_of, frames_of, given}
use Rattle.giop_proxy.specs.PassingMessages.{Ends, Entry, Hearing, IsFault, Reading, StandsFor, Told, after_told, behind, reading_from, reading_of, step, told_of}
use Rattle.giop_proxy.specs.PassingPrivate.{IsHeard, IsStep, framed, header_of_frame, told_at}
use Rattle.giop_proxy.proofs.PassingSteps.{on-fault}

-- what is told before a reading
abbrev after_all : List Told → Reading → Reading
after_all ts r = record r { told = ts ++ r.told }

-- frames after frames
reading-append : (limits : Limits) (place : ℕ) (ps : List Entry) (js : List Key) (fs gs : List Frame) → let r = reading_from limits place ps js fs in reading_from limits place ps js (fs ++ gs) ≡ after_all r.told (reading_from limits r.place r.parts r.passed gs)
reading-append limits place ps js [] gs = refl
reading-append limits place ps js (f ∷ fs) gs =
    let s = step limits place ps js f in
    let r = reading_from limits (behind place f) s.parts s.passed fs in
    let t = reading_from limits r.place r.parts r.passed gs in
    ap (after_told s.told) (reading-append limits (behind place f) s.parts s.passed fs gs) ∙ ap (λ (ts : List Told). record t { told = ts }) (sym (append_assoc (given s.told) r.told t.told))

reading-more : (limits : Limits) (s c : List ℕ) (gs : List Frame) (place : ℕ) (ps : List Entry) (js : List Key) → frames_of limits (s ++ c) ≡ frames_of limits s ++ gs → place ≡ (reading_of limits s).place → ps ≡ (reading_of limits s).parts → js ≡ (reading_of limits s).passed
    → reading_of limits (s ++ c) ≡ after_all (told_of limits s) (reading_from limits place ps js gs)
unfolding reading_of
reading-more limits s c gs place ps js more at parts passed =
    ap (reading_from limits 0 [] []) more ∙ reading-append limits 0 [] [] (frames_of limits s) gs
    ∙ ap (λ (n : ℕ). after_all (told_of limits s) (reading_from limits n (reading_from limits 0 [] [] (frames_of limits s)).parts (reading_from limits 0 [] [] (frames_of limits s)).passed gs)) (sym at)
    ∙ ap (λ (xs : List Entry). after_all (told_of limits s) (reading_from limits place xs (reading_from limits 0 [] [] (frames_of limits s)).passed gs)) (sym parts)
    ∙ ap (λ (xs : List Key). after_all (told_of limits s) (reading_from limits place ps xs gs)) (sym passed)

-- a frame that has come
pub frame-is : (o : Option Frame) (h : Header) (b : List ℕ) → IsSomeAnd o (λ f. f.header ≡ h) → o ≡ option_map (λ h. framed h b) (header_of_frame o) → o ≡ Some (framed h b)
frame-is None h b some e = absurd some
frame-is (Some f) h b some e = e ∙ ap (λ (x : Header). Some (framed x b)) some

module _ (v w : Splitting) (place : ℕ) (ps : List Entry) (js : List Key) (s c : List ℕ) (stands : StandsFor (record { frames = v; place = place; parts = ps; passed = js; told = None }) s) (bounds : w.limits ≡ v.limits) where
  heard : (told : Option ToldHere) (a : Hearing) (gs : List Frame) (r : Reading) → frames_of v.limits (s ++ c) ≡ frames_of v.limits s ++ gs → reading_from v.limits place ps js gs ≡ r → a.frames.limits ≡ v.limits → FramesStand a.frames (s ++ c) → a.place ≡ r.place → a.parts ≡ r.parts → a.passed ≡ r.passed → given (option_map told_at told) ≡ r.told
      → IsHeard v.limits s c told a
  heard told a gs r more is same framed at parts passed tells =
      let all = reading-more v.limits s c gs place ps js more stands.place stands.parts stands.passed ∙ ap (after_all (told_of v.limits s)) is in
      let here = ap (λ (l : Limits). reading_of l (s ++ c)) same ∙ all in
      record {
        stands = record {
          frames = framed;
          place = at ∙ sym (ap (λ (x : Reading). x.place) here);
          parts = parts ∙ sym (ap (λ (x : Reading). x.parts) here);
          passed = passed ∙ sym (ap (λ (x : Reading). x.passed) here);
        };
        limits_stay = same;
        tells = ap (λ (x : Reading). x.told) all ∙ ap (λ (ts : List Told). told_of v.limits s ++ ts) (sym tells);
      }

  pub hears-nothing : FramesStand w (s ++ c) → frames_of v.limits (s ++ c) ≡ frames_of v.limits s ++ given w.frame → w.frame ≡ None → IsHeard v.limits s c None (record { frames = w; place = place; parts = ps; passed = js; told = None })
  hears-nothing framed more none =
      heard None (record { frames = w; place = place; parts = ps; passed = js; told = None }) [] (record { told = []; place = place; parts = ps; passed = js }) (more ∙ ap (λ (o : Option Frame). frames_of v.limits s ++ given o) none) refl bounds framed refl refl refl refl

  pub hears-frame : (x : Splitting) (limits : Limits) (f : Frame) (told : Option ToldHere) (at : ℕ) (qs : List Entry) (is : List Key) → FramesStand w (s ++ c) → frames_of v.limits (s ++ c) ≡ frames_of v.limits s ++ given w.frame → w.frame ≡ Some f → x ≡ record w { frame = None } → limits ≡ x.limits → at ≡ behind place f
      → IsStep told (step limits place ps js f) qs is → IsHeard v.limits s c told (record { frames = x; place = at; parts = qs; passed = is; told = None })
  hears-frame x limits f told at qs is framed more some rest same next st =
      let bound : limits ≡ v.limits = same ∙ ap (λ (y : Splitting). y.limits) rest ∙ bounds in
      let d = step v.limits place ps js f in
      let t : IsStep told d qs is = subst (λ (l : Limits). IsStep told (step l place ps js f) qs is) bound st in
      heard told (record { frames = x; place = at; parts = qs; passed = is; told = None }) (f ∷ []) (record { told = given d.told; place = behind place f; parts = d.parts; passed = d.passed }) (more ∙ ap (λ (o : Option Frame). frames_of v.limits s ++ given o) some)
      (ap (λ (ts : List Told). record { told = ts; place = behind place f; parts = d.parts; passed = d.passed }) (append-nil (given d.told)))
      (ap (λ (y : Splitting). y.limits) rest ∙ bounds)
      (subst (λ (y : Splitting). FramesStand y (s ++ c)) (sym rest) (record { live = framed.live; faultless = framed.faultless; waiting = framed.waiting; passed = framed.passed }))
      next t.parts t.passed (ap given t.given)

-- a header that is refused
pub hears-fault : (limits : Limits) (s c : List ℕ) (e : StreamFault) → IsFrameFault limits s c e → IsFault limits s c e
unfolding reading_of
hears-fault limits s c e f =
    on-fault e (Refuses limits s c e) (Ends limits s c e) (λ r. record { is = r.is; same = ap (λ (fs : List Frame). (reading_from limits 0 [] [] fs).told) r.same }) f

-- a step after a step

pub heard-further : (limits : Limits) (s c d x : List ℕ) (told : Option ToldHere) (a b : Hearing) → c ++ d ≡ x → IsHeard limits s c None a → IsHeard a.frames.limits (s ++ c) d told b → IsHeard limits s x told b
heard-further limits s c d x told a b is first second =
    let all : (s ++ c) ++ d ≡ s ++ x = append_assoc s c d ∙ ap (λ (y : List ℕ). s ++ y) is in
    let same = first.limits_stay in
    let before : told_of limits (s ++ c) ≡ told_of limits s = first.tells ∙ append-nil (told_of limits s) in
    record {
      stands = subst (StandsFor b) all second.stands;
      limits_stay = second.limits_stay ∙ same;
      tells =
          ap (told_of limits) (sym all) ∙ ap (λ (l : Limits). told_of l ((s ++ c) ++ d)) (sym same) ∙ second.tells
          ∙ ap (λ (l : Limits). told_of l (s ++ c) ++ given (option_map told_at told)) same ∙ ap (λ (ts : List Told). ts ++ given (option_map told_at told)) before;
    }

pub fault-further : (limits : Limits) (s c d x : List ℕ) (a : Hearing) (e : StreamFault) → c ++ d ≡ x → IsHeard limits s c None a → IsFault a.frames.limits (s ++ c) d e → IsFault limits s x e
fault-further limits s c d x a e is first f =
    let all : (s ++ c) ++ d ≡ s ++ x = append_assoc s c d ∙ ap (λ (y : List ℕ). s ++ y) is in
    let same = first.limits_stay in
    let before : told_of limits (s ++ c) ≡ told_of limits s = first.tells ∙ append-nil (told_of limits s) in
    on-fault e (Ends a.frames.limits (s ++ c) d e) (Ends limits s x e) (λ r. record {
      is = ap (fault_of limits) (sym all) ∙ ap (λ (l : Limits). fault_of l ((s ++ c) ++ d)) (sym same) ∙ r.is;
      same = ap (told_of limits) (sym all) ∙ ap (λ (l : Limits). told_of l ((s ++ c) ++ d)) (sym same) ∙ r.same ∙ ap (λ (l : Limits). told_of l (s ++ c)) same ∙ before;
    }) f

-- nothing has come
pub heard-nothing : (limits : Limits) (s : List ℕ) (a : Hearing) → StandsFor a s → a.frames.limits ≡ limits → IsHeard limits s [] None a
heard-nothing limits s a stands same = record {
  stands = subst (StandsFor a) (sym (append-nil s)) stands;
  limits_stay = same;
  tells = ap (told_of limits) (append-nil s) ∙ sym (append-nil (told_of limits s));
}
