-- What is heard of messages that are written.
use Rattle.std.proofs.Common.{◌≡◌, ◌≢◌, ℕ, ◌+◌, ◌<◌, ◌^◌, nat_lt, true, false, cond, List, [], ◌∷◌, ◌++◌, length, map, Option, Some, Ok, IsOk, refl, sym, ap, subst, ◌∙◌}
use Rattle.std.specs.List.{AllByRecursion, cons_option}
use Rattle.cdr_core.specs.declared.order.Order.{Order}
use Rattle.cdr_core.specs.Value.{Values}
use Rattle.giop_core.specs.declared.header.MessageKind.TheVariants as kind
use Rattle.giop_core.specs.declared.header.Version.{Version}
use Rattle.giop_core.specs.declared.header.Version.TheVariants.{V10, V11, V12}
use Rattle.giop_core.specs.Content as content
use Rattle.giop_core.specs.Content.{Content}
use Rattle.giop_core.specs.Laws.{CanBeWritten, WrittenCancelIsRead, WrittenLocateReplyIsRead, WrittenLocateRequestIsRead, WrittenReplyIsRead, WrittenRequestIsRead}
use Rattle.giop_core.specs.Messages.{message_of}
use Rattle.giop_core.specs.Rows.{row}
use Rattle.giop_frames.specs.declared.fault.StreamFault.{StreamFault}
use Rattle.giop_frames.specs.declared.fault.StreamFault.TheVariants.{TooLarge}
use Rattle.giop_frames.specs.declared.limits.Limits.{Limits}
use Rattle.giop_frames.specs.Frames.{split}
use Rattle.giop_frames.specs.ReadAgain.{IsReadable, NothingIsClear, Sent, SentAreReadUpToTheLimit, sent_fault, sent_from, sent_octets, sent_within, written}
use Rattle.giop_frames.specs.Streams.{fault_of, messages_of}
use Rattle.giop_link.specs.Hearing.{Course, Sound, before, course_by, course_from, ending_as, ends, faulty, heard_as, kind_of, says, sound_of, sound_read}
use Rattle.giop_link.specs.Laws.{HeardIsMeant, WrittenIsHeard}
use Rattle.giop_link.specs.Outgoing.{CanGoOut, IsFront, Outgoing, course_to, heard_by, meant, octets_after, octets_in, octets_of, octets_of_each, said_in, sound_to}

-- a message without fields reads

close-read : (version : Version) (order : Order) → message_of version kind.CloseConnection order [] ≡ Ok content.close
unfolding message_of row content.content
close-read V10 order = refl
close-read V11 order = refl
close-read V12 order = refl

error-read : (version : Version) (order : Order) → message_of version kind.MessageError order [] ≡ Ok content.error
unfolding message_of row content.content
error-read V10 order = refl
error-read V11 order = refl
error-read V12 order = refl

-- the message as an assembler's stream has it
abbrev sent_of : Outgoing → Sent
sent_of m = record { version = m.version; kind = kind_of m.content; order = m.order; body = octets_after m }

octets-same : (ms : List Outgoing) → sent_octets (map sent_of ms) ≡ octets_of_each ms
octets-same [] = refl
octets-same (m ∷ ms) = ap (λ (xs : List ℕ). octets_of m ++ xs) (octets-same ms)

-- what counts of messages is a front of what they say

module _ {Heard : Type 0} (to_reader : Version → Content → Sound Heard) where
  front-step : (μ : Sound Heard) (a : Course Heard) (xs : List Heard) → IsFront a.heard xs → IsFront (before μ a).heard (cons_option (heard_by μ) xs)
  front-step (says m) a xs f = (f.0, ap (λ (ys : List Heard). m ∷ ys) f.1)
  front-step (ends e) a xs f = (xs, refl)

  front : (limits : Limits) (ms : List Outgoing) → IsFront (course_to to_reader limits ms).heard (meant to_reader ms)
  front limits [] = ([], refl)
  front limits (m ∷ ms) =
      let next = front-step (sound_to to_reader m) (course_to to_reader limits ms) (meant to_reader ms) (front limits ms) in
      elim (nat_lt limits.message (12 + length (octets_after m))) as (λ b.
      IsFront (cond b (record { heard = []; ending = Some (faulty TooLarge) }) (before (sound_to to_reader m) (course_to to_reader limits ms))).heard (cons_option (heard_by (sound_to to_reader m)) (meant to_reader ms))) [
        | true ↦ (cons_option (heard_by (sound_to to_reader m)) (meant to_reader ms), refl)
        | false ↦ next
      ]

module _ (request : WrittenRequestIsRead) (reply : WrittenReplyIsRead) (cancel : WrittenCancelIsRead) (locate_request : WrittenLocateRequestIsRead) (locate_reply : WrittenLocateReplyIsRead) where
  -- what is written is read as what was said
  read-in : (version : Version) (order : Order) (m : Content) (body : Values) → CanBeWritten version m → kind_of m ≢ kind.Fragment → length (octets_in version order m body) < 2 ^ 32
      → message_of version (kind_of m) order (octets_in version order m body) ≡ Ok (said_in version order m body)
  read-in version order (content.request id wish to operation contexts rest) body can whole size = request version order id wish to operation contexts body can.0 can.1 can.2 can.3 can.4 can.5 size
  read-in version order (content.reply id status contexts rest) body can whole size = reply version order id status contexts body can.0 can.1 can.2 size
  read-in version order (content.cancel id) body can whole size = cancel version order id can size
  read-in version order (content.locate_request id to) body can whole size = locate_request version order id to can.0 can.1 can.2 size
  read-in version order (content.locate_reply id status rest) body can whole size = locate_reply version order id status body can.0 can.1 size
  read-in version order content.close body can whole size = close-read version order
  read-in version order content.error body can whole size = error-read version order
  read-in version order (content.fragment id octets) body can whole size = absurd (whole refl)

  readable : (m : Outgoing) → CanGoOut m → IsReadable (sent_of m)
  readable m can = record {
    kind = can.whole;
    size = can.size;
    reads = let is = read-in m.version m.order m.content m.body can.takes can.whole can.size in subst IsOk (sym is) refl;
  }

  all-readable : (ms : List Outgoing) → AllByRecursion CanGoOut ms → AllByRecursion IsReadable (map sent_of ms)
  all-readable [] can = tt
  all-readable (m ∷ ms) can = (readable m can.0, all-readable ms can.1)

  -- a reader to whom a frame is what it says
  module _ {Heard : Type 0} (to_reader : Version → Content → Sound Heard) where
    means : (m : Outgoing) → CanGoOut m → sound_of to_reader (written m.version (kind_of m.content) m.order (octets_after m)) ≡ sound_to to_reader m
    unfolding sound_of
    means m can = ap (sound_read to_reader m.version) (read-in m.version m.order m.content m.body can.takes can.whole can.size)

    -- the course of the messages that complete
    course-same : (limits : Limits) (n : ℕ) (ms : List Outgoing) → AllByRecursion CanGoOut ms
        → course_from (sound_of to_reader) (sent_fault limits (map sent_of ms)) (sent_from n (sent_within limits (map sent_of ms))) ≡ course_to to_reader limits ms
    course-same limits n [] can = refl
    course-same limits n (m ∷ ms) can =
        let next = n + (12 + length (octets_after m)) in
        let front = sent_within limits (map sent_of ms) in
        let last = sent_fault limits (map sent_of ms) in
        (elim (nat_lt limits.message (12 + length (octets_after m))) as (λ b.
        course_from (sound_of to_reader) (cond b (Some TooLarge) last) (sent_from n (cond b [] (sent_of m ∷ front))) ≡ cond b (record { heard = []; ending = Some (faulty TooLarge) }) (before (sound_to to_reader m) (course_to to_reader limits ms))) [
          | true ↦ refl
          | false ↦ ap (λ (μ : Sound Heard). before μ (course_from (sound_of to_reader) last (sent_from next front))) (means m can.0) ∙ ap (before (sound_to to_reader m)) (course-same limits next ms can.1)
        ])

    -- that of their octets
    course-written : SentAreReadUpToTheLimit → NothingIsClear → (limits : Limits) (ms : List Outgoing) → AllByRecursion CanGoOut ms → course_by (sound_of to_reader) limits (octets_of_each ms) ≡ course_to to_reader limits ms
    unfolding messages_of split
    course-written up_to nothing limits ms can =
        let r = up_to limits [] (map sent_of ms) (nothing limits) (all-readable ms can) in
        ap (course_by (sound_of to_reader) limits) (sym (octets-same ms)) ∙ ap (course_from (sound_of to_reader) (fault_of limits (sent_octets (map sent_of ms)))) r.0
        ∙ ap (λ (last : Option StreamFault). course_from (sound_of to_reader) last (sent_from 0 (sent_within limits (map sent_of ms)))) r.1 ∙ course-same limits 0 ms can

    pub written-heard : SentAreReadUpToTheLimit → NothingIsClear → WrittenIsHeard to_reader
    unfolding heard_as ending_as
    written-heard up_to nothing limits ms can =
        let is = course-written up_to nothing limits ms can in
        (ap (λ (a : Course Heard). a.heard) is, ap (λ (a : Course Heard). a.ending) is)

    pub heard-meant : SentAreReadUpToTheLimit → NothingIsClear → HeardIsMeant to_reader
    heard-meant up_to nothing limits ms can =
        let f = front to_reader limits ms in
        (f.0, f.1 ∙ ap (λ (xs : List Heard). xs ++ f.0) (sym (written-heard up_to nothing limits ms can).0))
