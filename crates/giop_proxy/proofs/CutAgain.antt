-- What is cut at given places is read again.
use Rattle.std.proofs.Common.{◌≡◌, ℕ, ◌+◌, ◌-◌, ◌*◌, ◌<◌, ◌≤◌, ◌==◌, ◌&&◌, nat_le, not, Bool, true, false, is_some, List, [], ◌∷◌, ◌++◌, length, take, drop, Option, Some, None, Ok, IsOk, refl, sym, ap, subst, ◌∙◌, inl, inr, arith, append_assoc, length-append, length-drop}
use Rattle.std.specs.List.{flat_map}
use Rattle.std.specs.Option.{option_map}
use Rattle.std.proofs.lemmas.List.{append-nil, length-map, take-append-drop}
use Rattle.cdr_core.specs.declared.order.Order.{Order}
use Rattle.giop_core.specs.declared.header.Header.{Header}
use Rattle.giop_core.specs.declared.header.MessageKind.{MessageKind}
use Rattle.giop_core.specs.declared.header.MessageKind.TheVariants.{Request, Reply, CancelRequest, LocateRequest, LocateReply, CloseConnection, MessageError, Fragment}
use Rattle.giop_core.specs.declared.header.Version.{Version}
use Rattle.giop_core.specs.declared.header.Version.TheVariants.{V10, V11, V12}
use Rattle.giop_core.specs.Headers.{can_be_cut, header_octets, header_of, minor_of}
use Rattle.giop_core.specs.Laws.{HeadersAreReadAgain}
use Rattle.giop_frames.specs.declared.limits.Cuts.TheVariants.{Anywhere}
use Rattle.giop_frames.specs.declared.limits.Limits.{Limits}
use Rattle.giop_frames.specs.declared.partial.Key.{Key}
use Rattle.giop_frames.specs.declared.partial.Key.TheVariants.{Of11, Of12}
use Rattle.giop_frames.specs.declared.reassembly.Role.TheVariants.{Opens, Apart}
use Rattle.giop_frames.specs.Cutting.{first_frame, fragment_of, fragments_of, frame_octets, is_cuttable_11, is_cuttable_under, is_fragment}
use Rattle.giop_frames.specs.Fragments.{Done, Partial, Quiet, partial_of, content_of, continued_by, judged, less_if, partials_in, role_in, role_of}
use Rattle.giop_frames.specs.Frames.{Frame, frame_size, is_unaligned, may_be_cut}
use Rattle.giop_frames.specs.ReadAgain.{Completes, is_cancel, left_by, under}
use Rattle.giop_frames.specs.Splitting.{IsFrame}
use Rattle.giop_frames.specs.Streams.{fault_of, frames_of, reading_from, rest_of}
use Rattle.giop_frames.proofs.CutFrames.{AreFrames, admit-cut, and-not, cut-opens, cut-whole, frame-again, frames-split, is_cut_kind, judged-alone, judged-carrying, judged-ending, judged-opening, length-header, same-order}
use Rattle.giop_frames.proofs.Deciding.{test_eq, test_le}
use Rattle.giop_frames.proofs.Readings.{step-done, step-quiet}
use Rattle.giop_frames.proofs.Rejoins.{Leaves, completes, leaves-role, one_completed}
use Rattle.giop_frames.proofs.Tables.{opens-other, opens-same, partial-role, partials-step}
use Rattle.giop_proxy.specs.Cuts.{CutIsReadAgain, CutsTakeHeaders, chunks_at, frames_at, in_message}

-- chunks

pub fragments-more : (h : Header) (x : List ℕ) (from : ℕ) (ats left : List ℕ) → fragments_of h [] (x ∷ chunks_at from ats left) ≡ fragment_of h [] true x ∷ fragments_of h [] (chunks_at from ats left)
fragments-more h x from [] left = refl
fragments-more h x from (at ∷ ats) left = refl

-- a message that can be cut

both : (a b : Bool) → (a && b) ≡ true → (a ≡ true) × (b ≡ true)
both true b e = (refl, e)
both false b e = absurd cc

not-true : (b : Bool) → not b ≡ true → b ≡ false
not-true true e = absurd cc
not-true false e = refl

of_1_1 : (v : Version) → (minor_of v == 1) ≡ true → v ≡ V11
of_1_1 V10 e = absurd cc
of_1_1 V11 e = refl
of_1_1 V12 e = absurd cc

-- a message of 1.1, whose header is this one
pub record IsWhole (message : List ℕ) (h : Header) : Type 0 where
  pub long : 12 ≤ length message
  pub version : h.version ≡ V11
  pub cuts : can_be_cut h.version h.kind ≡ true
  pub message_kind : is_fragment h.kind ≡ false
  pub alone : h.more ≡ false
  pub size : 12 + h.size ≡ length message

pub whole-is : (message : List ℕ) (h : Header) → is_cuttable_11 message ≡ true → header_of (take 12 message) ≡ Ok h → IsWhole message h
whole-is message h is e =
    let n = length message in
    let a = both (nat_le 12 n) _ is in
    let b : is_cuttable_under V11 n (Ok h) ≡ true = ap (is_cuttable_under V11 n) (sym e) ∙ a.1 in
    let c = both ((minor_of h.version == 1) && can_be_cut h.version h.kind && not (is_fragment h.kind) && not h.more) (frame_size h == n) b in
    let d = both ((minor_of h.version == 1) && can_be_cut h.version h.kind && not (is_fragment h.kind)) (not h.more) c.0 in
    let f = both ((minor_of h.version == 1) && can_be_cut h.version h.kind) (not (is_fragment h.kind)) d.0 in
    let g = both (minor_of h.version == 1) (can_be_cut h.version h.kind) f.0 in
    record {
      long = elim (test_le 12 n) [ inl t ↦ t.1 | inr t ↦ absurd (let k = a.0 in cc) ];
      version = of_1_1 h.version g.0;
      cuts = g.1;
      message_kind = not-true (is_fragment h.kind) f.1;
      alone = not-true h.more d.1;
      size = elim (test_eq (frame_size h) n) [ inl t ↦ t.1 | inr t ↦ absurd (let k = c.1 in cc) ];
    }

cut-stays : (kind : MessageKind) → is_cut_kind V11 kind ≡ true → is_cancel kind ≡ false
cut-stays Request e = refl
cut-stays Reply e = refl
cut-stays CancelRequest e = absurd cc
cut-stays LocateRequest e = refl
cut-stays LocateReply e = refl
cut-stays CloseConnection e = refl
cut-stays MessageError e = refl
cut-stays Fragment e = refl

-- the message after its header, in frames

module _ (again : HeadersAreReadAgain) (limits : Limits) (order : Order) (kind : MessageKind) (whole front : List ℕ) (anywhere : limits.cuts ≡ Anywhere) (within : 12 + length whole ≤ limits.message)
    (ok : IsOk (content_of (record { version = V11; order = order; more = false; kind = kind; size = length whole }) whole)) where
  abbrev h : Header
  h = record { version = V11; order = order; more = false; kind = kind; size = length whole }

  abbrev first : Frame
  first = first_frame h front

  abbrev fragment : Bool → List ℕ → Frame
  fragment more x = fragment_of h [] more x

  abbrev at : List ℕ → Partial
  at o = record { header = first.header; octets = o }

  abbrev all_of : List ℕ → Frame
  all_of x = record { header = record h { size = length x }; octets = x }

  even : (more : Bool) (n : ℕ) → (more && not (may_be_cut limits.cuts V11 n)) ≡ false
  even more n = and-not more (may_be_cut limits.cuts V11 n) (ap (λ c. may_be_cut c V11 n) anywhere)

  is-frame : (more : Bool) (x : List ℕ) → 12 + length x ≤ limits.message → IsFrame limits (fragment more x) (frame_octets (fragment more x))
  is-frame more x fit = frame-again again limits (fragment more x) refl (omega arith) fit (even more (12 + (0 + length x)))

  part-fits : (o x : List ℕ) (left : List ℕ) → (o ++ x) ++ left ≡ whole → (12 + length (o ++ x) ≤ limits.message) × (12 + length x ≤ limits.message)
  part-fits o x left is = (omega (arith, within, ap length is, length-append (o ++ x) left), omega (arith, within, ap length is, length-append (o ++ x) left, length-append o x))

  carries-on : (earlier : List Frame) (o x : List ℕ) → partial_of earlier Of11 ≡ Some (at o) → 12 + length (o ++ x) ≤ limits.message → judged limits earlier (fragment true x) ≡ Quiet
  carries-on earlier o x b fit = judged-carrying limits earlier (fragment true x) (at o) refl refl (omega arith) b (same-order order) fit

  partial-on : (earlier : List Frame) (o x : List ℕ) → partial_of earlier Of11 ≡ Some (at o) → partial_of (fragment true x ∷ earlier) Of11 ≡ Some (at (o ++ x))
  partial-on earlier o x b = ap (option_map (continued_by (fragment true x))) b

  ends-it : (earlier : List Frame) (o x : List ℕ) → partial_of earlier Of11 ≡ Some (at o) → o ++ x ≡ whole → judged limits earlier (fragment false x) ≡ Done (all_of whole)
  ends-it earlier o x b is =
      let fit : 12 + length (o ++ x) ≤ limits.message = omega (arith, within, ap length is) in
      let reads : IsOk (content_of (all_of (o ++ x)).header (o ++ x)) = subst (λ (y : List ℕ). IsOk (content_of (all_of y).header y)) (sym is) ok in
      judged-ending limits earlier (fragment false x) (at o) refl refl (omega arith) b (same-order order) fit reads ∙ ap (λ (y : List ℕ). Done (all_of y)) is

  -- no message of 1.1 is partial any more, and all others are as they were
  abbrev Ended : List Frame → List Frame → Type 0
  Ended earlier e = (partial_of e Of11 ≡ None) × ((i : ℕ) → partial_of e (Of12 i) ≡ partial_of earlier (Of12 i)) × (partials_in e ≡ partials_in earlier - 1)

  ended-last : (earlier : List Frame) (o x : List ℕ) → partial_of earlier Of11 ≡ Some (at o) → Ended earlier (fragment false x ∷ earlier)
  ended-last earlier o x b = (refl, λ i. refl, ap (λ (p : Option Partial). less_if (is_some p) (partials_in earlier)) b)

  abbrev Reads : List Frame → List Frame → Type 0
  Reads earlier fs = AreFrames limits fs × (e : List Frame) × (reading_from limits earlier None fs ≡ one_completed e (all_of whole)) × Ended earlier e

  reads : (ats : List ℕ) (from : ℕ) (left : List ℕ) (earlier : List Frame) (o : List ℕ) → partial_of earlier Of11 ≡ Some (at o) → o ++ left ≡ whole → Reads earlier (fragments_of h [] (chunks_at from ats left))
  reads [] from left earlier o b is =
      let f = fragment false left in
      let fit : 12 + length left ≤ limits.message = omega (arith, within, ap length is, length-append o left) in
      ((is-frame false left fit, tt), f ∷ earlier, step-done limits earlier None f [] (all_of whole) (ends-it earlier o left b is), ended-last earlier o left b)
  reads (p ∷ ats) from left earlier o b is =
      let x = take (p - from) left in
      let others = drop (p - from) left in
      let f = fragment true x in
      let parts : (o ++ x) ++ others ≡ whole = append_assoc o x others ∙ ap (λ (y : List ℕ). o ++ y) (take-append-drop (p - from) left) ∙ is in
      let fit = part-fits o x others parts in
      let later = reads ats (from + (p - from)) others (f ∷ earlier) (o ++ x) (partial-on earlier o x b) parts in
      subst (Reads earlier) (sym (fragments-more h x (from + (p - from)) ats others))
      ((is-frame true x fit.1, later.0), later.1, step-quiet limits earlier None f _ (carries-on earlier o x b fit.0) ∙ later.2, (later.3.0, later.3.1, later.3.2))

  -- the first frame, and the Fragments

  module _ (s : List ℕ) (n : fault_of limits s ≡ None) (none : rest_of limits s ≡ []) (early : partial_of (frames_of limits s) Of11 ≡ None) (free : partials_in (frames_of limits s) < limits.partials) (kinds : is_cut_kind V11 kind ≡ true) (can : can_be_cut V11 kind ≡ true) where
    abbrev earlier : List Frame
    earlier = frames_of limits s

    role : role_of first.header ≡ Opens
    role = cut-opens V11 kind kinds

    opened : partial_of (first ∷ earlier) Of11 ≡ Some (at front)
    opened = partial-role first earlier Of11 Opens role ∙ opens-same first Of11 (partial_of earlier Of11) refl

    left-by : (j : Key) (o : Option Partial) → left_by (all_of whole) j o ≡ o
    left-by j o = rw (cut-stays kind kinds) refl

    leaves : (e : List Frame) → Ended (first ∷ earlier) e → Leaves (all_of whole) earlier e
    leaves e d = record { partial = each; few = omega (arith, d.2, partials-step first earlier Opens role) }
      where
        each : (j : Key) → partial_of e j ≡ left_by (all_of whole) j (partial_of earlier j)
        each Of11 = d.0 ∙ sym early ∙ sym (left-by Of11 (partial_of earlier Of11))
        each (Of12 i) =
            d.1 i ∙ partial-role first earlier (Of12 i) Opens role ∙ opens-other first (Of12 i) (partial_of earlier (Of12 i)) (λ e. absurd cc)
            ∙ sym (left-by (Of12 i) (partial_of earlier (Of12 i)))

    pub in_frames : (ats : List ℕ) (from : ℕ) (left : List ℕ) → front ++ left ≡ whole → Completes limits s (flat_map frame_octets (first ∷ fragments_of h [] (chunks_at from ats left))) (all_of whole)
    in_frames ats from left parts =
        let fit : 12 + length front ≤ limits.message = omega (arith, within, ap length parts, length-append front left) in
        let head : IsFrame limits first (frame_octets first) = frame-again again limits first can refl fit (even true (12 + length front)) in
        let verdict : judged limits earlier first ≡ Quiet = judged-opening limits earlier first role early (omega arith) early free in
        let later = reads ats from left (first ∷ earlier) front opened parts in
        let fs = first ∷ fragments_of h [] (chunks_at from ats left) in
        completes limits s n none (flat_map frame_octets fs) fs later.1 (all_of whole) (frames-split limits fs (head, later.0)) (step-quiet limits earlier None first _ verdict ∙ later.2) (leaves later.1 later.3)

-- as it is

uncut : (limits : Limits) (s message : List ℕ) (h : Header) → fault_of limits s ≡ None → rest_of limits s ≡ [] → partial_of (frames_of limits s) Of11 ≡ None
    → header_of (take 12 message) ≡ Ok h → IsWhole message h → is_cut_kind V11 h.kind ≡ true → length message ≤ limits.message → IsOk (content_of h (drop 12 message)) → Completes limits s message (under h message)
uncut limits s message h n none early is w kinds within ok =
    let f = under h message in
    let fs = f ∷ [] in
    let role : role_of f.header ≡ Apart = ap (λ (v : Version). role_in v h.kind h.more) w.version ∙ ap (role_in V11 h.kind) w.alone ∙ cut-whole V11 h.kind kinds in
    let even : is_unaligned limits.cuts h ≡ false = ap (λ (b : Bool). b && not (may_be_cut limits.cuts h.version (frame_size h))) w.alone in
    let frame : IsFrame limits f message = record { header = is; taken = admit-cut limits h (omega (arith, w.size, within)) even; long = sym w.size; rest = refl } in
    let verdict : judged limits (frames_of limits s) f ≡ Done f = judged-alone limits (frames_of limits s) f V11 w.version role early (omega arith) (λ e. absurd cc) ok in
    completes limits s n none message fs (f ∷ frames_of limits s) f (message, [], sym (append-nil message), frame, refl) (step-done limits (frames_of limits s) None f [] f verdict)
    (leaves-role f (frames_of limits s) Apart false role (cut-stays h.kind kinds) tt)

-- a header by its parts
parts-of : (h : Header) (n : ℕ) → h.version ≡ V11 → h.more ≡ false → h.size ≡ n → record { version = V11; order = h.order; more = false; kind = h.kind; size = n } ≡ h
parts-of h n v m e =
    ap (λ (x : Version). record { version = x; order = h.order; more = false; kind = h.kind; size = n }) (sym v)
    ∙ ap (λ (x : Bool). record { version = h.version; order = h.order; more = x; kind = h.kind; size = n }) (sym m)
    ∙ ap (λ (x : ℕ). record { version = h.version; order = h.order; more = h.more; kind = h.kind; size = x }) (sym e)

pub cut_again : HeadersAreReadAgain → CutIsReadAgain
cut_again again limits s message place [] h n none early free anywhere is e within ok =
    let w = whole-is message h is e in
    uncut limits s message h n none early e w (kinds-of h w) within ok
  where
    kinds-of : (h : Header) → IsWhole message h → is_cut_kind V11 h.kind ≡ true
    kinds-of h w = rw (w.message_kind) (ap (λ (v : Version). can_be_cut v h.kind && true) (sym w.version) ∙ rw (w.cuts) refl)
cut_again again limits s message place (p ∷ ats) h n none early free anywhere is e within ok =
    let w = whole-is message h is e in
    let whole = drop 12 message in
    let size : h.size ≡ length whole = omega (arith, w.size, w.long, length-drop 12 message) in
    let same = parts-of h (length whole) w.version w.alone size in
    let fit : 12 + length whole ≤ limits.message = omega (arith, within, w.long, length-drop 12 message) in
    let can : can_be_cut V11 h.kind ≡ true = ap (λ (v : Version). can_be_cut v h.kind) (sym w.version) ∙ w.cuts in
    let kinds : is_cut_kind V11 h.kind ≡ true = rw (can, w.message_kind) refl in
    let reads : IsOk (content_of (record { version = V11; order = h.order; more = false; kind = h.kind; size = length whole }) whole) = subst (λ (x : Header). IsOk (content_of x whole)) (sym same) ok in
    let n' = (place + p) - 12 in
    let done = in_frames again limits h.order h.kind whole (take n' whole) anywhere fit reads s n none early free kinds can (in_message place ats) (12 + n') (drop n' whole) (take-append-drop n' whole) in
    subst (λ (x : Header). Completes limits s (flat_map frame_octets (frames_at x (chunks_at 12 (in_message place (p ∷ ats)) whole))) (record { header = x; octets = whole })) same done

-- each cut adds a header

frame-length : (f : Frame) → length (frame_octets f) ≡ 12 + length f.octets
frame-length f = omega (arith, length-append (header_octets f.header) f.octets, length-header f.header)

fragments-length : (h : Header) (ats : List ℕ) (from : ℕ) (left : List ℕ) → length (flat_map frame_octets (fragments_of h [] (chunks_at from ats left))) ≡ length left + 12 * (1 + length ats)
fragments-length h [] from left =
    let f = fragment_of h [] false left in
    omega (arith, frame-length f, length-append (frame_octets f) [])
fragments-length h (p ∷ ats) from left =
    let x = take (p - from) left in
    let others = drop (p - from) left in
    let f = fragment_of h [] true x in
    let more = flat_map frame_octets (fragments_of h [] (chunks_at (from + (p - from)) ats others)) in
    ap (λ (fs : List Frame). length (flat_map frame_octets fs)) (fragments-more h x (from + (p - from)) ats others)
    ∙ omega (arith, frame-length f, length-append (frame_octets f) more, fragments-length h ats (from + (p - from)) others, length-append x others, ap length (take-append-drop (p - from) left))

pub cuts_take : CutsTakeHeaders
cuts_take message place [] h long = omega arith
cuts_take message place (p ∷ ats) h long =
    let whole = drop 12 message in
    let n = (place + p) - 12 in
    let front = take n whole in
    let left = drop n whole in
    let f = first_frame h front in
    let more = flat_map frame_octets (fragments_of h [] (chunks_at (12 + n) (in_message place ats) left)) in
    omega (arith, long, frame-length f, length-append (frame_octets f) more, fragments-length h (in_message place ats) (12 + n) left, length-map ats (λ (at : ℕ). place + at), length-append front left, ap length (take-append-drop n whole), length-drop 12 message)
