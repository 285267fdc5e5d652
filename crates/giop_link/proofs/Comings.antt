-- What one call of the assembler is to a link, whoever reads.
use Rattle.std.proofs.Common.{◌≡◌, ℕ, ◌<◌, ◌≤◌, List, [], ◌∷◌, ◌++◌, length, take, drop, Option, Some, None, Result, Ok, Err, IfErr, IsErrAnd, IsOk, IsSomeAnd, refl, sym, ap, subst, ◌∙◌, arith, length-append}
use Rattle.std.proofs.lemmas.List.{append-nil, append_assoc, append_cancel_left, length-take-le, take-append-drop, take-append-le}
use Rattle.giop_core.specs.declared.header.Header.{Header}
use Rattle.giop_core.specs.declared.header.Version.{Version}
use Rattle.giop_core.specs.Content.{Content}
use Rattle.giop_core.specs.Places.{Headed, said_by}
use Rattle.giop_frames.specs.declared.fault.StreamFault.{StreamFault}
use Rattle.giop_frames.specs.declared.fault.StreamFault.TheVariants as fault
use Rattle.giop_frames.specs.declared.limits.Limits.{Limits}
use Rattle.giop_frames.specs.Completing.{AreRising}
use Rattle.giop_frames.specs.Fragments.{content_of}
use Rattle.giop_frames.specs.Frames.{Frame}
use Rattle.giop_frames.specs.Laws.{FaultsEnd, FaultsStay, MessagesGrow, PlacesRise}
use Rattle.giop_frames.specs.Standing.{IsFault, OnFault, Standing, StandsFor, completed_at, frame_of}
use Rattle.giop_frames.specs.Streams.{Completed, Faults, fault_of, messages_of}
use Rattle.giop_link.specs.declared.error.LinkFault.{LinkFault}
use Rattle.giop_link.specs.declared.error.LinkFault.TheVariants.{Stream, WrongDirection}
use Rattle.giop_link.specs.declared.listener.PeerEnd.{PeerEnd}
use Rattle.giop_link.specs.declared.listener.PeerEnd.TheVariants as peer
use Rattle.giop_link.specs.Hearing.{Course, Ending, Sound, before, course_by, course_from, ending_as, ends, faulty, heard_as, peer_closed, peer_error, says, sound_of, wrong_direction}
use Rattle.giop_link.specs.Laws.{CompletedIsHeard}
use Rattle.giop_link.specs.Listening.{Brings, EndsTo, IsFaultTo, IsQuietTo, IsTurn, ending_in, heard_in, spoken, spoken_by, told_with, turned}
use Rattle.giop_link.specs.Private.{IsHeard}
use Rattle.giop_link.proofs.Turns.{reads-as}
use Rattle.giop_link.proofs.Courses.{after, course-faultless, course-next, course-stays}

-- an error that is known
pub err-by : {A E : Type 0} → (r : Result A E) (d : E) (P : E → Type 0) → IsErrAnd r (λ e. e ≡ d) → P d → IfErr r P
err-by (Ok x) d P is p = tt
err-by (Err e) d P is p = subst P (sym is) p

-- a fault of the stream
pub on-fault : (e : StreamFault) (P Q : Type 0) → (P → Q) → OnFault e P → OnFault e Q
on-fault (fault.Header h) P Q f p = f p
on-fault fault.TooLarge P Q f p = f p
on-fault fault.UnalignedFragment P Q f p = f p
on-fault fault.StrayFragment P Q f p = f p
on-fault fault.TwiceStarted P Q f p = f p
on-fault fault.TooManyPartial P Q f p = f p
on-fault (fault.Body b) P Q f p = f p
on-fault fault.MixedOrder P Q f p = f p
on-fault fault.Memory P Q f p = p
on-fault fault.Failed P Q f p = p

-- messages and places

rising-within : (n end : ℕ) (ms zs : List Completed) (z : Completed) → AreRising n end (ms ++ z ∷ zs) → z.place ≤ end
rising-within n end [] zs z r = r.1
rising-within n end (m ∷ ms) zs z r = rising-within m.place end ms zs z r.2

-- no message completes before its place
none-before : (n place end : ℕ) (m : Option Frame) (ms xs ys : List Completed) → end < place → AreRising n end (ms ++ xs) → xs ++ ys ≡ completed_at place m → xs ≡ []
none-before n place end m ms [] ys less r is = refl
none-before n place end None ms (x ∷ xs) ys less r is = absurd cc
none-before n place end (Some f) ms (x ∷ xs) ys less r is =
    let at : x ≡ record { place = place; message = f } = cc in
    let p : x.place ≡ place = ap (λ (y : Completed). y.place) at in
    let within = rising-within n end ms xs x r in
    absurd (omega arith)

-- a front of what comes has no fault ..
front-faultless : FaultsStay → (limits : Limits) (u r : List ℕ) → fault_of limits (u ++ r) ≡ None → fault_of limits u ≡ None
front-faultless stay limits u r none =
    (elim (fault_of limits u) as (λ o. fault_of limits u ≡ o → o ≡ None) [
      | None ↦ λ is. refl
      | Some d ↦ λ is. absurd (let k : Some d ≡ None = sym (stay limits u r d is) ∙ none in cc)
    ]) refl

-- .. and no message
front-silent : MessagesGrow → PlacesRise → (limits : Limits) (s u r : List ℕ) (m : Option Frame) → 0 < length r → messages_of limits ((s ++ u) ++ r) ≡ messages_of limits s ++ completed_at (length ((s ++ u) ++ r)) m
    → messages_of limits (s ++ u) ≡ messages_of limits s
front-silent grow rise limits s u r m some is =
    let ms = messages_of limits s in
    let place = length ((s ++ u) ++ r) in
    let x = grow limits s u in
    let y = grow limits (s ++ u) r in
    let both : ms ++ (x.0 ++ y.0) ≡ ms ++ completed_at place m = sym (append_assoc ms x.0 y.0) ∙ ap (λ (zs : List Completed). zs ++ y.0) (sym x.1) ∙ sym y.1 ∙ is in
    let rising : AreRising 0 (length (s ++ u)) (ms ++ x.0) = subst (AreRising 0 (length (s ++ u))) x.1 (rise limits (s ++ u)) in
    let less : length (s ++ u) < place = omega (arith, length-append (s ++ u) r) in
    let none : x.0 ≡ [] = none-before 0 place (length (s ++ u)) m ms x.0 y.0 less rising (append_cancel_left ms (x.0 ++ y.0) (completed_at place m) both) in
    x.1 ∙ ap (λ (zs : List Completed). ms ++ zs) none ∙ append-nil ms

-- one message by what is done with it

module _ {H : Type 0} where
  alone-heard : (μ : Sound H) → (before μ (record { heard = []; ending = None })).heard ≡ heard_in (Some μ)
  alone-heard (says m) = refl
  alone-heard (ends e) = refl

  alone-ending : (μ : Sound H) → (before μ (record { heard = []; ending = None })).ending ≡ ending_in None (Some μ)
  alone-ending (says m) = refl
  alone-ending (ends e) = refl

  -- a message that is heard, or the peer's end
  pub turn-told : (μ : Sound H) (end : Option PeerEnd) → turned μ ≡ Ok end → told_with end (spoken μ) ≡ Some μ
  turn-told (says m) None is = refl
  turn-told (says m) (Some p) is = absurd cc
  turn-told (ends peer_closed) None is = absurd cc
  turn-told (ends peer_closed) (Some peer.Closed) is = refl
  turn-told (ends peer_closed) (Some peer.Error) is = absurd cc
  turn-told (ends peer_error) None is = absurd cc
  turn-told (ends peer_error) (Some peer.Closed) is = absurd cc
  turn-told (ends peer_error) (Some peer.Error) is = refl
  turn-told (ends wrong_direction) end is = absurd cc
  turn-told (ends (faulty e)) end is = absurd cc

  -- a message of the wrong direction
  pub turn-strays : (μ : Sound H) → turned μ ≡ Err WrongDirection → μ ≡ ends wrong_direction
  turn-strays (says m) is = absurd cc
  turn-strays (ends peer_closed) is = absurd cc
  turn-strays (ends peer_error) is = absurd cc
  turn-strays (ends wrong_direction) is = refl
  turn-strays (ends (faulty e)) is = absurd cc

-- the header of a valid message
abbrev pub IsHeader : Option Frame → Header → Type 0
IsHeader m h = IsSomeAnd m (λ f. (f.header ≡ h) × IsOk (content_of f.header f.octets))

-- of one as its reading left it
pub header-read : (m : Option Frame) (x : Headed) → Some (frame_of x) ≡ m → IsOk (said_by x) → IsHeader m x.header
header-read m x is ok = rw (← is) (refl, ok)

module _ {H : Type 0} (meaning : Version → Content → Sound H) where
  -- octets t after a stream s that goes on bring no fault, and this message, if it is one
  pub record Comes (limits : Limits) (s t : List ℕ) (m : Option Frame) : Type 0 where
    pub going : ending_as meaning limits s ≡ None
    pub messages : messages_of limits (s ++ t) ≡ messages_of limits s ++ completed_at (length (s ++ t)) m
    pub faultless : fault_of limits (s ++ t) ≡ None

  -- what a call of the assembler ensures
  pub comes-to : (limits : Limits) (s t : List ℕ) (b : Standing) → ending_as meaning limits s ≡ None → messages_of limits (s ++ t) ≡ messages_of limits s ++ completed_at (length (s ++ t)) b.message → StandsFor b (s ++ t) → b.limits ≡ limits
      → Comes limits s t b.message
  comes-to limits s t b going messages stands same = record {
    going = going;
    messages = messages;
    faultless = ap (λ (l : Limits). fault_of l (s ++ t)) (sym same) ∙ stands.stands.faultless;
  }

  -- the course of both
  course-comes : (limits : Limits) (s t : List ℕ) (m : Option Frame) → Comes limits s t m → course_by (sound_of meaning) limits (s ++ t) ≡ after (course_by (sound_of meaning) limits s) (course_from (sound_of meaning) None (completed_at (length (s ++ t)) m))
  unfolding ending_as
  course-comes limits s t m k =
      course-next (sound_of meaning) limits s t (completed_at (length (s ++ t)) m) k.messages k.going
      ∙ ap (λ (last : Option StreamFault). after (course_by (sound_of meaning) limits s) (course_from (sound_of meaning) last (completed_at (length (s ++ t)) m))) k.faultless

  -- by the course
  brings-course : (limits : Limits) (s t : List ℕ) (told : Option (Sound H)) (later : Course H) → ending_as meaning limits s ≡ None → course_by (sound_of meaning) limits (s ++ t) ≡ after (course_by (sound_of meaning) limits s) later → later.heard ≡ heard_in told
      → later.ending ≡ ending_in None told → Brings meaning limits s t told
  unfolding heard_as ending_as
  brings-course limits s t told later going is h e = record {
    heard_is = ap (λ (a : Course H). a.heard) is ∙ ap (λ (xs : List H). (course_by (sound_of meaning) limits s).heard ++ xs) h;
    ending_is = ap (λ (a : Course H). a.ending) is ∙ e ∙ ap (λ (end : Option Ending). ending_in end told) (sym going);
  }

  -- no message
  brings-none : (limits : Limits) (s t : List ℕ) → Comes limits s t None → Brings meaning limits s t None
  brings-none limits s t k = brings-course limits s t None (record { heard = []; ending = None }) k.going (course-comes limits s t None k) refl refl

  -- one message more
  brings-message : (limits : Limits) (s t : List ℕ) (f : Frame) → Comes limits s t (Some f) → Brings meaning limits s t (Some (sound_of meaning f))
  brings-message limits s t f k =
      brings-course limits s t (Some (sound_of meaning f)) (before (sound_of meaning f) (record { heard = []; ending = None })) k.going (course-comes limits s t (Some f) k) (alone-heard (sound_of meaning f)) (alone-ending (sound_of meaning f))

  -- a message that completes alone
  pub completed-heard : CompletedIsHeard meaning
  completed-heard limits s c m going k = brings-message limits s c m (record { going = going; messages = k.messages; faultless = k.faultless })

  -- octets of a piece with which the stream ends
  ends-by : MessagesGrow → FaultsStay → FaultsEnd → (limits : Limits) (s t rest piece : List ℕ) (e : Ending) → t ++ rest ≡ piece → EndsTo meaning limits s t e → EndsTo meaning limits s piece e
  unfolding heard_as ending_as
  ends-by grow stay end limits s t rest piece e parts k =
      let whole : (s ++ t) ++ rest ≡ s ++ piece = append_assoc s t rest ∙ ap (λ (xs : List ℕ). s ++ xs) parts in
      let same : course_by (sound_of meaning) limits (s ++ piece) ≡ course_by (sound_of meaning) limits (s ++ t) = ap (course_by (sound_of meaning) limits) (sym whole) ∙ course-stays (sound_of meaning) grow stay end limits (s ++ t) rest e k.by in
      record { going = k.going; by = ap (λ (a : Course H). a.ending) same ∙ k.by; same = ap (λ (a : Course H). a.heard) same ∙ k.same }

  -- a fault of the stream
  faults-end : (limits : Limits) (s piece : List ℕ) (e : StreamFault) → ending_as meaning limits s ≡ None → Faults limits s piece e → EndsTo meaning limits s piece (faulty e)
  unfolding heard_as ending_as
  faults-end limits s piece e going k =
      let next = course-next (sound_of meaning) limits s piece [] (k.same ∙ sym (append-nil (messages_of limits s))) going in
      let is : course_by (sound_of meaning) limits (s ++ piece) ≡ after (course_by (sound_of meaning) limits s) (course_from (sound_of meaning) (Some e) []) = next ∙ ap (λ (last : Option StreamFault). after (course_by (sound_of meaning) limits s) (course_from (sound_of meaning) last [])) k.is in
      record { going = going; by = ap (λ (a : Course H). a.ending) is; same = ap (λ (a : Course H). a.heard) is ∙ append-nil (course_by (sound_of meaning) limits s).heard }

  pub fault-of : (limits : Limits) (s piece : List ℕ) (e : StreamFault) → ending_as meaning limits s ≡ None → IsFault limits s piece e → IsFaultTo meaning limits s piece (Stream e)
  fault-of limits s piece e going k = on-fault e (Faults limits s piece e) (EndsTo meaning limits s piece (faulty e)) (faults-end limits s piece e going) k

  -- before the last octet that is taken nothing comes
  front-same : MessagesGrow → FaultsStay → PlacesRise → (limits : Limits) (s u r t : List ℕ) (m : Option Frame) → u ++ r ≡ t → 0 < length r → Comes limits s t m → course_by (sound_of meaning) limits (s ++ u) ≡ course_by (sound_of meaning) limits s
  unfolding ending_as
  front-same grow stay rise limits s u r t m parts some k =
      let whole : (s ++ u) ++ r ≡ s ++ t = append_assoc s u r ∙ ap (λ (xs : List ℕ). s ++ xs) parts in
      let faultless : fault_of limits (s ++ u) ≡ None = front-faultless stay limits (s ++ u) r (ap (fault_of limits) whole ∙ k.faultless) in
      let before : fault_of limits s ≡ None = course-faultless (sound_of meaning) (fault_of limits s) (messages_of limits s) k.going in
      let silent = front-silent grow rise limits s u r m some (ap (messages_of limits) whole ∙ k.messages ∙ ap (λ (xs : List ℕ). messages_of limits s ++ completed_at (length xs) m) (sym whole)) in
      ap (λ (last : Option StreamFault). course_from (sound_of meaning) last (messages_of limits (s ++ u))) (faultless ∙ sym before) ∙ ap (course_from (sound_of meaning) (fault_of limits s)) silent

  pub fewer-quiet : MessagesGrow → FaultsStay → PlacesRise → (limits : Limits) (s piece : List ℕ) (n k : ℕ) (m : Option Frame) → n ≤ length piece → k < n → Comes limits s (take n piece) m → IsQuietTo meaning limits s (take k piece)
  unfolding heard_as ending_as
  fewer-quiet grow stay rise limits s piece n k m within less comes =
      let t = take n piece in
      let long : length t ≡ n = length-take-le n piece within in
      let same : take k piece ≡ take k t = ap (take k) (sym (take-append-drop n piece)) ∙ take-append-le k t (drop n piece) (omega arith) in
      let parts = take-append-drop k t in
      let front : length (take k t) ≡ k = length-take-le k t (omega arith) in
      let some : 0 < length (drop k t) = omega (arith, length-append (take k t) (drop k t), ap length parts) in
      let is = ap (λ (xs : List ℕ). course_by (sound_of meaning) limits (s ++ xs)) same ∙ front-same grow stay rise limits s (take k t) (drop k t) t m parts some comes in
      record { heard_is = ap (λ (a : Course H). a.heard) is; ending_is = ap (λ (a : Course H). a.ending) is }

  -- no message
  pub hears-none : (limits : Limits) (s t : List ℕ) (m : Option Frame) (a : Standing) → m ≡ None → Comes limits s t m → StandsFor a (s ++ t) → IsHeard meaning limits s t (spoken_by meaning m) a
  hears-none limits s t None a is k st = record { brings = brings-none limits s t k; stands = st }
  hears-none limits s t (Some f) a is k st = absurd cc

  -- a message by its kind
  turn-header : (f : Frame) (h : Header) (r d : Result (Option PeerEnd) LinkFault) → IsHeader (Some f) h → IsTurn meaning h.kind r → r ≡ d → turned (sound_of meaning f) ≡ d
  turn-header f h r d is by was =
      let x = reads-as meaning f is.1 in
      ap turned x.1 ∙ by f.header.version x.0 (x.2 ∙ ap (λ (g : Header). g.kind) is.0) ∙ was

  -- one that is heard, or the peer's end
  pub hears-some : (limits : Limits) (s t : List ℕ) (m : Option Frame) (h : Header) (r : Result (Option PeerEnd) LinkFault) (end : Option PeerEnd) (a : Standing) → Comes limits s t m → IsHeader m h → IsTurn meaning h.kind r → r ≡ Ok end
      → StandsFor a (s ++ t) → IsHeard meaning limits s t (told_with end (spoken_by meaning m)) a
  hears-some limits s t None h r end a k is by was st = absurd is
  hears-some limits s t (Some f) h r end a k is by was st = record {
    brings = subst (Brings meaning limits s t) (sym (turn-told (sound_of meaning f) end (turn-header f h r (Ok end) is by was))) (brings-message limits s t f k);
    stands = st;
  }

  -- something is reported of it
  pub told-header : (m : Option Frame) (h : Header) (r : Result (Option PeerEnd) LinkFault) (end : Option PeerEnd) → IsHeader m h → IsTurn meaning h.kind r → r ≡ Ok end → told_with end (spoken_by meaning m) ≡ None → ⊥
  told-header None h r end is by was none = is
  told-header (Some f) h r end is by was none = let k : Some (sound_of meaning f) ≡ None = sym (turn-told (sound_of meaning f) end (turn-header f h r (Ok end) is by was)) ∙ none in cc

  -- a message of the wrong direction
  pub strays-to : MessagesGrow → FaultsStay → FaultsEnd → (limits : Limits) (s piece : List ℕ) (n : ℕ) (m : Option Frame) (h : Header) (r : Result (Option PeerEnd) LinkFault) (e : LinkFault) → Comes limits s (take n piece) m → IsHeader m h
      → IsTurn meaning h.kind r → r ≡ Err e → e ≡ WrongDirection → IsFaultTo meaning limits s piece e
  strays-to grow stay end limits s piece n None h r e k is by was wrong = absurd is
  strays-to grow stay end limits s piece n (Some f) h r e k is by was wrong =
      let t = take n piece in
      let stray = turn-strays (sound_of meaning f) (turn-header f h r (Err WrongDirection) is by (was ∙ ap (λ (d : LinkFault). Err d) wrong)) in
      let b : Brings meaning limits s t (Some (ends wrong_direction)) = subst (λ (μ : Sound H). Brings meaning limits s t (Some μ)) stray (brings-message limits s t f k) in
      let by_then : EndsTo meaning limits s t wrong_direction = record {
        going = k.going;
        by = b.ending_is ∙ ap (λ (o : Option Ending). ending_in {Heard = H} o (Some (ends wrong_direction))) k.going;
        same = b.heard_is ∙ append-nil (heard_as meaning limits s);
      } in
      subst (IsFaultTo meaning limits s piece) (sym wrong) (ends-by grow stay end limits s t (drop n piece) piece wrong_direction (take-append-drop n piece) by_then)
