-- A message that is written whole is read again.
use Rattle.std.proofs.Common.{◌≡◌, ℕ, ◌+◌, ◌<◌, ◌≤◌, ◌^◌, true, false, List, [], ◌∷◌, length, take, None, Ok, Err, IsOk, refl, sym, ap, subst, ◌∙◌, inl, inr, arith, length-append}
use Rattle.std.proofs.lemmas.Bool.{le-ltb, lt-ltb}
use Rattle.std.proofs.lemmas.List.{append-nil, drop_at, take_all, take_at}
use Rattle.cdr_core.specs.declared.order.Order.{Order}
use Rattle.cdr_core.specs.Reading.{number_at, part_at, value_at, whole_at}
use Rattle.giop_core.specs.declared.header.Header.{Header}
use Rattle.giop_core.specs.declared.header.MessageKind.{MessageKind}
use Rattle.giop_core.specs.declared.header.MessageKind.TheVariants.{Request, Reply, CancelRequest, LocateRequest, LocateReply, CloseConnection, MessageError, Fragment}
use Rattle.giop_core.specs.declared.header.Version.{Version}
use Rattle.giop_core.specs.declared.header.Version.TheVariants.{V10, V11, V12}
use Rattle.giop_core.specs.Headers.{header_octets, header_of, is_possible}
use Rattle.giop_core.specs.Laws.{HeadersAreReadAgain}
use Rattle.giop_core.specs.Messages.{message_of}
use Rattle.giop_core.specs.Rows.{has_id_first, row}
use Rattle.giop_core.specs.Written.{header_for, message_octets}
use Rattle.giop_frames.specs.declared.fault.StreamFault.TheVariants.{TooLarge}
use Rattle.giop_frames.specs.declared.limits.Limits.{Limits}
use Rattle.giop_frames.specs.declared.partial.Key.TheVariants.{Of11}
use Rattle.giop_frames.specs.declared.reassembly.Role.{Role}
use Rattle.giop_frames.specs.declared.reassembly.Role.TheVariants.{Apart, Drops, Uncut}
use Rattle.giop_frames.specs.ReadAgain.{WrittenIsReadAgain, WrittenTooLarge, is_cancel, written}
use Rattle.giop_frames.specs.Fragments.{Done, partial_of, judged, judged_as, key_of, partials_in, role_in, role_of, content_of}
use Rattle.giop_frames.specs.Frames.{Frame, Refused, admitted, frame_size, judged_header, sight, under_header}
use Rattle.giop_frames.specs.Splitting.{IsFrame}
use Rattle.giop_frames.specs.Streams.{Stands, frames_of}
use Rattle.giop_frames.proofs.CutFrames.{cut-has_id, free-none, is_cut_kind, judged-alone, judged-role, length-header, too_few, whole-done}
use Rattle.giop_frames.proofs.Deciding.{test_lt}
use Rattle.giop_frames.proofs.Readings.{step-done}
use Rattle.giop_frames.proofs.Completing.{partials_counted}
use Rattle.giop_frames.proofs.Rejoins.{Leaves, completes, leaves-role}
use Rattle.giop_frames.proofs.Sights.{sight-long}
use Rattle.giop_frames.proofs.Standing.{faults-header}

-- the header of a whole message can be, and is admitted

possible : (v : Version) (k : MessageKind) (order : Order) (n : ℕ) → (k ≡ Fragment → ⊥) → is_possible (header_for v k order n) ≡ true
possible V10 Request order n not = refl
possible V10 Reply order n not = refl
possible V10 CancelRequest order n not = refl
possible V10 LocateRequest order n not = refl
possible V10 LocateReply order n not = refl
possible V10 CloseConnection order n not = refl
possible V10 MessageError order n not = refl
possible V10 Fragment order n not = absurd (not refl)
possible V11 k order n not = refl
possible V12 k order n not = refl

taken : (limits : Limits) (v : Version) (k : MessageKind) (order : Order) (n : ℕ) → 12 + n ≤ limits.message → admitted limits (header_for v k order n) ≡ Ok (header_for v k order n)
taken limits v k order n fits = rw (le-ltb limits.message (12 + n) fits) refl

is-frame : HeadersAreReadAgain → (limits : Limits) (v : Version) (k : MessageKind) (order : Order) (body : List ℕ) → (k ≡ Fragment → ⊥) → 12 + length body ≤ limits.message
    → IsFrame limits (written v k order body) (message_octets v k order body)
is-frame again limits v k order body not fits =
    let h = header_for v k order (length body) in
    let small : length body < 2 ^ 32 = omega (arith, fits, limits.message_in_range.1) in
    let front : take 12 (message_octets v k order body) ≡ header_octets h = take_at (header_octets h) body 12 (length-header h) in
    record {
      header = ap header_of front ∙ again h small (possible v k order (length body) not);
      taken = taken limits v k order (length body) fits;
      long = omega (arith, length-append (header_octets h) body, length-header h);
      rest = sym (drop_at (header_octets h) body 12 (length-header h));
    }

-- a valid cancel has its request id

cancel-short : (v : Version) (order : Order) (x : List ℕ) → length x < 4 → message_of v CancelRequest order x ≡ too_few
unfolding message_of row value_at whole_at number_at part_at
cancel-short V10 order x few = rw (lt-ltb (length x) 4 few) refl
cancel-short V11 order x few = rw (lt-ltb (length x) 4 few) refl
cancel-short V12 order x few = rw (lt-ltb (length x) 4 few) refl

cancel-long : (v : Version) (order : Order) (x : List ℕ) → IsOk (message_of v CancelRequest order x) → 4 ≤ length x
cancel-long v order x ok =
    elim (test_lt (length x) 4) [
      | inl t ↦ absurd (let none : IsOk too_few = subst IsOk (cancel-short v order x t.1) ok in cc)
      | inr t ↦ t.1
    ]

-- the role of a whole message of a version in which none is held against the partial ones

abbrev early_role : MessageKind → Role
early_role CancelRequest = Drops
early_role _ = Apart

early-roles : (v : Version) → has_id_first v ≡ false → (k : MessageKind) → (k ≡ Fragment → ⊥) → role_in v k false ≡ early_role k
early-roles v e Request not = rw e refl
early-roles v e Reply not = rw e refl
early-roles v e CancelRequest not = refl
early-roles v e LocateRequest not = rw e refl
early-roles v e LocateReply not = rw e refl
early-roles v e CloseConnection not = rw e refl
early-roles v e MessageError not = rw e refl
early-roles v e Fragment not = absurd (not refl)

-- a whole message is judged to be itself

module _ (limits : Limits) (earlier : List Frame) where
  judged-apart : (f : Frame) → role_of f.header ≡ Apart → partial_of earlier Of11 ≡ None → IsOk (content_of f.header f.octets) → judged limits earlier f ≡ Done f
  unfolding judged_as
  judged-apart f is none ok = judged-role limits (partial_of earlier Of11) (partial_of earlier (key_of f)) (partials_in earlier) f Apart is (free-none Apart f.header.version (partial_of earlier Of11) none) refl ∙ whole-done f ok

  judged-drops : (f : Frame) → role_of f.header ≡ Drops → 4 ≤ length f.octets → IsOk (content_of f.header f.octets) → judged limits earlier f ≡ Done f
  unfolding judged_as
  judged-drops f is long ok = judged-role limits (partial_of earlier Of11) (partial_of earlier (key_of f)) (partials_in earlier) f Drops is refl (le-ltb (length f.octets) 4 long) ∙ whole-done f ok

  abbrev IsJudged : Version → MessageKind → Order → List ℕ → Type 0
  IsJudged v k order body =
      (role_in v k false ≡ Uncut → partial_of earlier (key_of (written v k order body)) ≡ None) → (is_cancel k ≡ false → partial_of earlier Of11 ≡ None) → IsOk (message_of v k order body)
      → judged limits earlier (written v k order body) ≡ Done (written v k order body)

  -- of a version in which no whole message is held against the partial ones
  early : (v : Version) → ((k : MessageKind) → (k ≡ Fragment → ⊥) → role_in v k false ≡ early_role k) → (k : MessageKind) (order : Order) (body : List ℕ) → (k ≡ Fragment → ⊥) → IsJudged v k order body
  early v same Request order body not new none ok = judged-apart (written v Request order body) (same Request not) (none refl) ok
  early v same Reply order body not new none ok = judged-apart (written v Reply order body) (same Reply not) (none refl) ok
  early v same CancelRequest order body not new none ok = judged-drops (written v CancelRequest order body) (same CancelRequest not) (cancel-long v order body ok) ok
  early v same LocateRequest order body not new none ok = judged-apart (written v LocateRequest order body) (same LocateRequest not) (none refl) ok
  early v same LocateReply order body not new none ok = judged-apart (written v LocateReply order body) (same LocateReply not) (none refl) ok
  early v same CloseConnection order body not new none ok = judged-apart (written v CloseConnection order body) (same CloseConnection not) (none refl) ok
  early v same MessageError order body not new none ok = judged-apart (written v MessageError order body) (same MessageError not) (none refl) ok
  early v same Fragment order body not new none ok = absurd (not refl)

  uncut-12 : (k : MessageKind) → is_cut_kind V12 k ≡ true → role_in V12 k false ≡ Uncut → (order : Order) (body : List ℕ) → partial_of earlier Of11 ≡ None → IsJudged V12 k order body
  uncut-12 k kind is order body free new none ok = judged-alone limits earlier (written V12 k order body) V12 refl is free (cut-has_id V12 k order body kind ok) (λ u. new is) ok

  is-judged : (v : Version) (k : MessageKind) (order : Order) (body : List ℕ) → (k ≡ Fragment → ⊥) → IsJudged v k order body
  is-judged V10 k order body not new none ok = early V10 (early-roles V10 refl) k order body not new none ok
  is-judged V11 k order body not new none ok = early V11 (early-roles V11 refl) k order body not new none ok
  is-judged V12 Request order body not new none ok = uncut-12 Request refl refl order body (none refl) new none ok
  is-judged V12 Reply order body not new none ok = uncut-12 Reply refl refl order body (none refl) new none ok
  is-judged V12 CancelRequest order body not new none ok = judged-drops (written V12 CancelRequest order body) refl (cancel-long V12 order body ok) ok
  is-judged V12 LocateRequest order body not new none ok = uncut-12 LocateRequest refl refl order body (none refl) new none ok
  is-judged V12 LocateReply order body not new none ok = uncut-12 LocateReply refl refl order body (none refl) new none ok
  is-judged V12 CloseConnection order body not new none ok = judged-apart (written V12 CloseConnection order body) refl (none refl) ok
  is-judged V12 MessageError order body not new none ok = judged-apart (written V12 MessageError order body) refl (none refl) ok
  is-judged V12 Fragment order body not new none ok = absurd (not refl)

-- what it leaves of the partial messages

leaves-early : (v : Version) → ((k : MessageKind) → (k ≡ Fragment → ⊥) → role_in v k false ≡ early_role k) → (k : MessageKind) (order : Order) (body : List ℕ) (earlier : List Frame) → (k ≡ Fragment → ⊥) → Leaves (written v k order body) earlier (written v k order body ∷ earlier)
leaves-early v same Request order body earlier not = leaves-role (written v Request order body) earlier Apart false (same Request not) refl tt
leaves-early v same Reply order body earlier not = leaves-role (written v Reply order body) earlier Apart false (same Reply not) refl tt
leaves-early v same CancelRequest order body earlier not = leaves-role (written v CancelRequest order body) earlier Drops true (same CancelRequest not) refl tt
leaves-early v same LocateRequest order body earlier not = leaves-role (written v LocateRequest order body) earlier Apart false (same LocateRequest not) refl tt
leaves-early v same LocateReply order body earlier not = leaves-role (written v LocateReply order body) earlier Apart false (same LocateReply not) refl tt
leaves-early v same CloseConnection order body earlier not = leaves-role (written v CloseConnection order body) earlier Apart false (same CloseConnection not) refl tt
leaves-early v same MessageError order body earlier not = leaves-role (written v MessageError order body) earlier Apart false (same MessageError not) refl tt
leaves-early v same Fragment order body earlier not = absurd (not refl)

leaves-written : (v : Version) (k : MessageKind) (order : Order) (body : List ℕ) (earlier : List Frame) → (k ≡ Fragment → ⊥) → Leaves (written v k order body) earlier (written v k order body ∷ earlier)
leaves-written V12 Request order body earlier not = leaves-role (written V12 Request order body) earlier Uncut false refl refl tt
leaves-written V12 Reply order body earlier not = leaves-role (written V12 Reply order body) earlier Uncut false refl refl tt
leaves-written V12 LocateRequest order body earlier not = leaves-role (written V12 LocateRequest order body) earlier Uncut false refl refl tt
leaves-written V12 LocateReply order body earlier not = leaves-role (written V12 LocateReply order body) earlier Uncut false refl refl tt
leaves-written V12 CancelRequest order body earlier not = leaves-role (written V12 CancelRequest order body) earlier Drops true refl refl tt
leaves-written V12 CloseConnection order body earlier not = leaves-role (written V12 CloseConnection order body) earlier Apart false refl refl tt
leaves-written V12 MessageError order body earlier not = leaves-role (written V12 MessageError order body) earlier Apart false refl refl tt
leaves-written V12 Fragment order body earlier not = absurd (not refl)
leaves-written V10 k order body earlier not = leaves-early V10 (early-roles V10 refl) k order body earlier not
leaves-written V11 k order body earlier not = leaves-early V11 (early-roles V11 refl) k order body earlier not

pub written_again : HeadersAreReadAgain → WrittenIsReadAgain
written_again again limits s body v k order faultless none new early not fits ok =
    let f = written v k order body in
    let octets = message_octets v k order body in
    let earlier = frames_of limits s in
    let verdict : judged limits earlier f ≡ Done f = is-judged limits earlier v k order body not new early ok in
    completes limits s faultless none octets (f ∷ []) (f ∷ earlier) f (octets, [], sym (append-nil octets), is-frame again limits v k order body not fits, refl) (step-done limits earlier None f [] f verdict) (leaves-written v k order body earlier not)

-- over the limit it is refused at its header

large-header : (limits : Limits) (h : Header) → limits.message < frame_size h → admitted limits h ≡ Err TooLarge
large-header limits h large = rw (lt-ltb limits.message (frame_size h) large) refl

pub large_refused : HeadersAreReadAgain → WrittenTooLarge
large_refused again limits s body v k order faultless none not small large =
    let h = header_for v k order (length body) in
    let head = header_octets h in
    let parts = partials_counted limits s faultless in
    let stands : Stands limits [] parts.0 s = record { faultless = faultless; waiting = sym none; partial = parts.1 } in
    let twelve : length head ≡ 12 = length-header h in
    let judged : judged_header limits (header_of (take 12 head)) ≡ Err TooLarge =
    ap (λ (x : List ℕ). judged_header limits (header_of x)) (take_all 12 head (omega (arith, twelve))) ∙ ap (judged_header limits) (again h small (possible v k order (length body) not)) ∙ large-header limits h large in
    let seen : sight limits head ≡ Refused TooLarge = sight-long limits head (omega (arith, twelve)) ∙ ap (under_header head) judged in
    faults-header limits [] parts.0 s head body TooLarge stands seen twelve (omega (arith, twelve))
