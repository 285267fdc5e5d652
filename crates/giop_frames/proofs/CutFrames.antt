-- The frames of a cut message, as octets and as they are judged.
use Rattle.std.proofs.Common.{◌≡◌, ℕ, ◌+◌, ◌<◌, ◌≤◌, ◌^◌, ◌&&◌, ◌||◌, nat_lt, not, Bool, true, false, List, [], ◌∷◌, ◌++◌, length, take, Option, Some, None, is_some, Result, Ok, Err, IsOk, refl, sym, ap, subst, ◌∙◌, inl, inr, arith, length-append}
use Rattle.std.specs.List.{flat_map}
use Rattle.std.proofs.lemmas.Bool.{le-ltb, lt-ltb}
use Rattle.std.proofs.lemmas.List.{drop_at, take_at, take-append-le}
use Rattle.giop_core.specs.Laws.{HeadersAreReadAgain}
use Rattle.cdr_core.specs.declared.order.Order.{Order}
use Rattle.cdr_core.specs.declared.order.Order.TheVariants.{Big, Little}
use Rattle.cdr_core.specs.Numbers.{digits_of, number_of}
use Rattle.cdr_core.specs.Reading.{number_at, part_at, value_at, whole_at}
use Rattle.cdr_core.specs.declared.fault.Kind.TheVariants.{Short}
use Rattle.giop_core.specs.declared.error.MessageFault.{MessageFault}
use Rattle.giop_core.specs.declared.error.MessageFault.TheVariants.{Cdr}
use Rattle.giop_core.specs.declared.header.Header.{Header}
use Rattle.giop_core.specs.declared.header.MessageKind.{MessageKind}
use Rattle.giop_core.specs.declared.header.MessageKind.TheVariants.{Request, Reply, CancelRequest, LocateRequest, LocateReply, CloseConnection, MessageError, Fragment}
use Rattle.giop_core.specs.declared.header.Version.{Version}
use Rattle.giop_core.specs.declared.header.Version.TheVariants.{V10, V11, V12}
use Rattle.giop_core.specs.Content.{Content}
use Rattle.giop_core.specs.Headers.{can_be_cut, has_kind, header_octets, header_of, is_possible}
use Rattle.giop_core.specs.Messages.{message_of}
use Rattle.giop_core.specs.Rows.{row}
use Rattle.giop_frames.specs.declared.limits.Limits.{Limits}
use Rattle.giop_frames.specs.declared.partial.Key.TheVariants.{Of11}
use Rattle.giop_frames.specs.declared.reassembly.Role.{Role}
use Rattle.giop_frames.specs.declared.reassembly.Role.TheVariants.{Opens, Carries, Ends, Drops, Uncut, Apart}
use Rattle.giop_frames.specs.Cutting.{frame_octets, is_fragment}
use Rattle.giop_frames.specs.Fragments.{Done, Partial, Quiet, partial_of, payload_of, has_id, key_in, key_of, may_come, is_same_order, joined, judged, judged_as, judged_by, judged_carried, judged_ended, judged_whole, on_content, partials_in, role_in, role_of, content_of}
use Rattle.giop_frames.specs.Frames.{Frame, admitted, frame_size, id_length, is_unaligned}
use Rattle.giop_frames.specs.Splitting.{IsFrame, Splits}
use Rattle.giop_frames.proofs.Deciding.{test_lt}
use Rattle.giop_frames.proofs.Judging.{fits, opens-quiet}

-- the header that a frame is written with is read and admitted again

pub and-not : (b c : Bool) → c ≡ true → (b && not c) ≡ false
and-not true c e = ap not e
and-not false c e = refl

or-true : (b c : Bool) → c ≡ true → (b || c) ≡ true
or-true true c e = refl
or-true false c e = e

possible-by : (v : Version) (k : MessageKind) (b : Bool) → can_be_cut v k ≡ true → (has_kind v k && (b || can_be_cut v k)) ≡ true
possible-by V10 k b cut = absurd cc
possible-by V11 k b cut = or-true b (can_be_cut V11 k) cut
possible-by V12 k b cut = or-true b (can_be_cut V12 k) cut

is-possible : (h : Header) → can_be_cut h.version h.kind ≡ true → is_possible h ≡ true
is-possible h cut = possible-by h.version h.kind (not h.more) cut

pub admit-cut : (limits : Limits) (h : Header) → frame_size h ≤ limits.message → is_unaligned limits.cuts h ≡ false → admitted limits h ≡ Ok h
admit-cut limits h fits aligned = rw (le-ltb limits.message (frame_size h) fits, aligned) refl

length-digits : (order : Order) (x : ℕ) → length (digits_of order 4 x) ≡ 4
length-digits Big x = refl
length-digits Little x = refl

pub length-header : (h : Header) → length (header_octets h) ≡ 12
length-header h = omega (arith, length-digits h.order h.size)

pub frame-again : HeadersAreReadAgain → (limits : Limits) (f : Frame) → can_be_cut f.header.version f.header.kind ≡ true → f.header.size ≡ length f.octets → 12 + length f.octets ≤ limits.message
    → is_unaligned limits.cuts f.header ≡ false → IsFrame limits f (frame_octets f)
frame-again again limits f cut size within aligned =
    let small : f.header.size < 2 ^ 32 = omega (arith, size, within, limits.message_in_range.1) in
    let front : take 12 (frame_octets f) ≡ header_octets f.header = take_at (header_octets f.header) f.octets 12 (length-header f.header) in
    record {
      header = ap header_of front ∙ again f.header small (is-possible f.header cut);
      taken = admit-cut limits f.header (omega (arith, size, within)) aligned;
      long = omega (arith, length-append (header_octets f.header) f.octets, length-header f.header, size);
      rest = sym (drop_at (header_octets f.header) f.octets 12 (length-header f.header));
    }

-- octets that are frames, one after the other

abbrev pub AreFrames : Limits → List Frame → Type 0
AreFrames limits [] = Unit {0}
AreFrames limits (f ∷ fs) = IsFrame limits f (frame_octets f) × AreFrames limits fs

pub frames-split : (limits : Limits) (fs : List Frame) → AreFrames limits fs → Splits limits (flat_map frame_octets fs) fs []
frames-split limits [] is = refl
frames-split limits (f ∷ fs) is = (frame_octets f, flat_map frame_octets fs, refl, is.0, frames-split limits fs is.1)

-- a number is in its first octets

pub number-take : (order : Order) (x : List ℕ) → number_of order 4 (take 4 x) ≡ number_of order 4 x
number-take order [] = refl
number-take Big (a ∷ []) = refl
number-take Big (a ∷ b ∷ []) = refl
number-take Big (a ∷ b ∷ c ∷ []) = refl
number-take Big (a ∷ b ∷ c ∷ d ∷ x) = refl
number-take Little (a ∷ []) = refl
number-take Little (a ∷ b ∷ []) = refl
number-take Little (a ∷ b ∷ c ∷ []) = refl
number-take Little (a ∷ b ∷ c ∷ d ∷ x) = refl

pub number-front : (order : Order) (x y : List ℕ) → 4 ≤ length x → number_of order 4 (x ++ y) ≡ number_of order 4 x
number-front order x y long = sym (number-take order (x ++ y)) ∙ ap (number_of order 4) (take-append-le 4 x y long) ∙ number-take order x

-- so is the key of a message

pub key-front : (v : Version) (order : Order) (x y : List ℕ) → id_length v ≤ length x → key_in v (number_of order 4 (x ++ y)) ≡ key_in v (number_of order 4 x)
key-front V10 order x y long = refl
key-front V11 order x y long = refl
key-front V12 order x y long = ap (λ (n : ℕ). key_in V12 n) (number-front order x y long)

pub key-take : (v : Version) (order : Order) (x : List ℕ) → key_in v (number_of order 4 (take (id_length v) x)) ≡ key_in v (number_of order 4 x)
key-take V10 order x = refl
key-take V11 order x = refl
key-take V12 order x = ap (λ (n : ℕ). key_in V12 n) (number-take order x)

-- the kinds of messages that can be cut: a Fragment is no message

abbrev pub is_cut_kind : Version → MessageKind → Bool
is_cut_kind v k = can_be_cut v k && not (is_fragment k)

pub cut-opens : (v : Version) (k : MessageKind) → is_cut_kind v k ≡ true → role_in v k true ≡ Opens
cut-opens V10 k e = absurd cc
cut-opens V11 Request e = refl
cut-opens V11 Reply e = refl
cut-opens V11 CancelRequest e = absurd cc
cut-opens V11 LocateRequest e = absurd cc
cut-opens V11 LocateReply e = absurd cc
cut-opens V11 CloseConnection e = absurd cc
cut-opens V11 MessageError e = absurd cc
cut-opens V11 Fragment e = absurd cc
cut-opens V12 Request e = refl
cut-opens V12 Reply e = refl
cut-opens V12 CancelRequest e = absurd cc
cut-opens V12 LocateRequest e = refl
cut-opens V12 LocateReply e = refl
cut-opens V12 CloseConnection e = absurd cc
cut-opens V12 MessageError e = absurd cc
cut-opens V12 Fragment e = absurd cc

-- the role of a whole message of theirs
abbrev pub whole_role : Version → Role
whole_role V12 = Uncut
whole_role _ = Apart

pub cut-whole : (v : Version) (k : MessageKind) → is_cut_kind v k ≡ true → role_in v k false ≡ whole_role v
cut-whole V10 k e = absurd cc
cut-whole V11 Request e = refl
cut-whole V11 Reply e = refl
cut-whole V11 CancelRequest e = absurd cc
cut-whole V11 LocateRequest e = refl
cut-whole V11 LocateReply e = refl
cut-whole V11 CloseConnection e = refl
cut-whole V11 MessageError e = refl
cut-whole V11 Fragment e = absurd cc
cut-whole V12 Request e = refl
cut-whole V12 Reply e = refl
cut-whole V12 CancelRequest e = absurd cc
cut-whole V12 LocateRequest e = refl
cut-whole V12 LocateReply e = refl
cut-whole V12 CloseConnection e = absurd cc
cut-whole V12 MessageError e = absurd cc
cut-whole V12 Fragment e = absurd cc

pub cut-can : (v : Version) (k : MessageKind) → is_cut_kind v k ≡ true → (can_be_cut v k ≡ true) × (can_be_cut v Fragment ≡ true)
cut-can V10 k e = absurd cc
cut-can V11 Request e = (refl, refl)
cut-can V11 Reply e = (refl, refl)
cut-can V11 CancelRequest e = absurd cc
cut-can V11 LocateRequest e = absurd cc
cut-can V11 LocateReply e = absurd cc
cut-can V11 CloseConnection e = absurd cc
cut-can V11 MessageError e = absurd cc
cut-can V11 Fragment e = absurd cc
cut-can V12 Request e = (refl, refl)
cut-can V12 Reply e = (refl, refl)
cut-can V12 CancelRequest e = absurd cc
cut-can V12 LocateRequest e = (refl, refl)
cut-can V12 LocateReply e = (refl, refl)
cut-can V12 CloseConnection e = absurd cc
cut-can V12 MessageError e = absurd cc
cut-can V12 Fragment e = absurd cc

pub fragment-roles : (v : Version) → can_be_cut v Fragment ≡ true → (role_in v Fragment true ≡ Carries) × (role_in v Fragment false ≡ Ends)
fragment-roles V10 e = absurd cc
fragment-roles V11 e = (refl, refl)
fragment-roles V12 e = (refl, refl)

-- a message of theirs that reads has its request id

abbrev pub too_few : Result Content MessageFault
too_few = Err (Cdr (record { kind = Short; at = 12 }))

cut-short : (k : MessageKind) (order : Order) (x : List ℕ) → is_cut_kind V12 k ≡ true → length x < 4 → message_of V12 k order x ≡ too_few
unfolding message_of row value_at whole_at number_at part_at
cut-short Request order x e few = rw (lt-ltb (length x) 4 few) refl
cut-short Reply order x e few = rw (lt-ltb (length x) 4 few) refl
cut-short CancelRequest order x e few = absurd cc
cut-short LocateRequest order x e few = rw (lt-ltb (length x) 4 few) refl
cut-short LocateReply order x e few = rw (lt-ltb (length x) 4 few) refl
cut-short CloseConnection order x e few = absurd cc
cut-short MessageError order x e few = absurd cc
cut-short Fragment order x e few = absurd cc

pub cut-has_id : (v : Version) (k : MessageKind) (order : Order) (x : List ℕ) → is_cut_kind v k ≡ true → IsOk (message_of v k order x) → id_length v ≤ length x
cut-has_id V10 k order x e ok = omega arith
cut-has_id V11 k order x e ok = omega arith
cut-has_id V12 k order x e ok =
    elim (test_lt (length x) 4) [
      | inl t ↦ absurd (let none : IsOk too_few = subst IsOk (cut-short k order x e t.1) ok in cc)
      | inr t ↦ t.1
    ]

-- judgements

and-false : (b c : Bool) → c ≡ false → (b && c) ≡ false
and-false true c e = e
and-false false c e = refl

-- nothing comes between
pub free-none : (r : Role) (v : Version) (o : Option Partial) → o ≡ None → (not (may_come r v) && is_some o) ≡ false
free-none r v o e = and-false (not (may_come r v)) (is_some o) (ap (λ (x : Option Partial). is_some x) e)

-- the frames of cut messages begin with their request id
pub id-fits : (r : Role) (v : Version) (n : ℕ) → (r ≡ Drops → ⊥) → id_length v ≤ n → (has_id r v && nat_lt n 4) ≡ false
id-fits Drops v n not fits = absurd (not refl)
id-fits Apart v n not fits = refl
id-fits Opens V12 n not fits = le-ltb n 4 fits
id-fits Carries V12 n not fits = le-ltb n 4 fits
id-fits Ends V12 n not fits = le-ltb n 4 fits
id-fits Uncut V12 n not fits = le-ltb n 4 fits
id-fits Opens V11 n not fits = refl
id-fits Carries V11 n not fits = refl
id-fits Ends V11 n not fits = refl
id-fits Uncut V11 n not fits = refl
id-fits Opens V10 n not fits = refl
id-fits Carries V10 n not fits = refl
id-fits Ends V10 n not fits = refl
id-fits Uncut V10 n not fits = refl

pub judged-role : (limits : Limits) (early before : Option Partial) (n : ℕ) (f : Frame) (r : Role) → role_of f.header ≡ r → (not (may_come r f.header.version) && is_some early) ≡ false → (has_id r f.header.version && nat_lt (length f.octets) 4) ≡ false
    → judged_by limits early before n f ≡ judged_as r limits before n f
unfolding judged_by
judged-role limits early before n f r is free long = rw (is, free, long) refl

pub judged-opening : (limits : Limits) (h : List Frame) (f : Frame) → role_of f.header ≡ Opens → partial_of h Of11 ≡ None → id_length f.header.version ≤ length f.octets → partial_of h (key_of f) ≡ None → partials_in h < limits.partials → judged limits h f ≡ Quiet
judged-opening limits h f is early long none free =
    judged-role limits (partial_of h Of11) (partial_of h (key_of f)) (partials_in h) f Opens is (free-none Opens f.header.version (partial_of h Of11) early) (id-fits Opens f.header.version (length f.octets) (λ e. absurd cc) long)
    ∙ opens-quiet limits (partial_of h (key_of f)) (partials_in h) f (ap (λ (o : Option Partial). is_some o) none) free

pub whole-done : (f : Frame) → IsOk (content_of f.header f.octets) → judged_whole f ≡ Done f
whole-done f ok = elim (content_of f.header f.octets) as (λ r. IsOk r → on_content f r ≡ Done f) [ Err e ↦ λ k. absurd cc | Ok m ↦ λ k. refl ] ok

alone-as : (v : Version) (limits : Limits) (before : Option Partial) (n : ℕ) (f : Frame) → (whole_role v ≡ Uncut → before ≡ None) → judged_as (whole_role v) limits before n f ≡ judged_whole f
unfolding judged_as
alone-as V10 limits before n f none = refl
alone-as V11 limits before n f none = refl
alone-as V12 limits before n f none = rw (none refl) refl

not-drops : (v : Version) → whole_role v ≡ Drops → ⊥
not-drops V10 e = absurd cc
not-drops V11 e = absurd cc
not-drops V12 e = absurd cc

pub judged-alone : (limits : Limits) (h : List Frame) (f : Frame) (v : Version) → f.header.version ≡ v → role_of f.header ≡ whole_role v → partial_of h Of11 ≡ None → id_length v ≤ length f.octets → (whole_role v ≡ Uncut → partial_of h (key_of f) ≡ None) → IsOk (content_of f.header f.octets) → judged limits h f ≡ Done f
judged-alone limits h f v same is early long none ok =
    let fits : (has_id (whole_role v) f.header.version && nat_lt (length f.octets) 4) ≡ false = ap (λ (w : Version). has_id (whole_role v) w && nat_lt (length f.octets) 4) same ∙ id-fits (whole_role v) v (length f.octets) (not-drops v) long in
    judged-role limits (partial_of h Of11) (partial_of h (key_of f)) (partials_in h) f (whole_role v) is (free-none (whole_role v) f.header.version (partial_of h Of11) early) fits
    ∙ alone-as v limits (partial_of h (key_of f)) (partials_in h) f none ∙ whole-done f ok

pub judged-carrying : (limits : Limits) (h : List Frame) (f : Frame) (p : Partial) → role_of f.header ≡ Carries → (not (may_come Carries f.header.version) && is_some (partial_of h Of11)) ≡ false → id_length f.header.version ≤ length f.octets → partial_of h (key_of f) ≡ Some p
    → is_same_order p.header.order f.header.order ≡ true → 12 + length (p.octets ++ payload_of f) ≤ limits.message → judged limits h f ≡ Quiet
unfolding judged_as
judged-carrying limits h f p is free long some order within =
    judged-role limits (partial_of h Of11) (partial_of h (key_of f)) (partials_in h) f Carries is free (id-fits Carries f.header.version (length f.octets) (λ e. absurd cc) long)
    ∙ ap (λ (o : Option Partial). judged_as Carries limits o (partials_in h) f) some ∙ ap judged_carried (fits limits f p order within)

pub judged-ending : (limits : Limits) (h : List Frame) (f : Frame) (p : Partial) → role_of f.header ≡ Ends → (not (may_come Ends f.header.version) && is_some (partial_of h Of11)) ≡ false → id_length f.header.version ≤ length f.octets → partial_of h (key_of f) ≡ Some p
    → is_same_order p.header.order f.header.order ≡ true → 12 + length (p.octets ++ payload_of f) ≤ limits.message → IsOk (content_of (joined p f).header (joined p f).octets) → judged limits h f ≡ Done (joined p f)
unfolding judged_as
judged-ending limits h f p is free long some order within ok =
    judged-role limits (partial_of h Of11) (partial_of h (key_of f)) (partials_in h) f Ends is free (id-fits Ends f.header.version (length f.octets) (λ e. absurd cc) long)
    ∙ ap (λ (o : Option Partial). judged_as Ends limits o (partials_in h) f) some ∙ ap (judged_ended f) (fits limits f p order within) ∙ whole-done (joined p f) ok

pub same-order : (order : Order) → is_same_order order order ≡ true
same-order Big = refl
same-order Little = refl
