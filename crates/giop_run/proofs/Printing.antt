-- What is printed of a stream, from one message to the next.
use Rattle.std.proofs.Common.{◌≡◌, ◌≢◌, ℕ, List, [], ◌∷◌, ◌++◌, take, drop, Option, Some, None, Result, Ok, Err, IfOk, OnOk, refl, sym, ap, subst, ◌∙◌, append-nil, append_assoc}
use Rattle.std.proofs.lemmas.Grind.{flat_map-append}
use Rattle.std.proofs.lemmas.List.{take-append-drop}
use Rattle.std.specs.Io.KnownBytes.{Appends}
use Rattle.giop_core.specs.declared.message.Message.{Message}
use Rattle.giop_core.specs.Lent as lent
use Rattle.giop_frames.specs.declared.fault.StreamFault.{StreamFault}
use Rattle.giop_frames.specs.declared.fault.StreamFault.TheVariants as fault
use Rattle.giop_frames.specs.declared.limits.Limits.{Limits}
use Rattle.giop_frames.specs.Frames.{Frame, split}
use Rattle.giop_frames.specs.Standing.{completed_at, IsFault, IsLent, Standing}
use Rattle.giop_frames.specs.Streams.{messages_of}
use Rattle.giop_run.specs.declared.stop.Stop.{Stop}
use Rattle.giop_run.specs.declared.stream.Detail.{Detail}
use Rattle.giop_run.specs.declared.stream.Detail.TheVariants.{Messages, EndAlone}
use Rattle.giop_run.specs.declared.stream.Ending.TheVariants.{Fault}
use Rattle.giop_run.specs.declared.stream.Summary.{Summary}
use Rattle.giop_text.specs.MessageLines.{message_lines}
use Rattle.giop_run.specs.Private.{printed}
use Rattle.giop_run.specs.StreamLines.{stream_lines, completed_lines}
use Rattle.giop_run.proofs.Endings.{reported_fault}

-- nothing is printed at first
pub none_printed : (known : Option (List ℕ)) (detail : Detail) (limits : Limits) → Appends known known (printed detail (stream_lines limits []))
unfolding messages_of split
none_printed None detail limits = tt
none_printed (Some xs) Messages limits = sym (append-nil xs)
none_printed (Some xs) EndAlone limits = sym (append-nil xs)

-- no octets are appended where nothing is printed
pub appends_none : (known : Option (List ℕ)) → Appends known known []
appends_none None = tt
appends_none (Some xs) = sym (append-nil xs)

-- a text is printed, and then another
pub printed_on : (first then last : Option (List ℕ)) (detail : Detail) (xs ys zs : List ℕ) → zs ≡ xs ++ ys
    → Appends first then (printed detail xs) → Appends then last (printed detail ys) → Appends first last (printed detail zs)
printed_on None then last detail xs ys zs e p q = tt
printed_on (Some a) None last detail xs ys zs e p q = absurd p
printed_on (Some a) (Some b) None detail xs ys zs e p q = absurd q
printed_on (Some a) (Some b) (Some c) Messages xs ys zs e p q = rw (q, p, e, append_assoc) refl
printed_on (Some a) (Some b) (Some c) EndAlone xs ys zs e p q = rw (q, p, append_assoc) refl

-- the lines of a message that is lent
pub lent_lines : (m : Message) (f : Frame) (place : ℕ) → IsLent m f → completed_lines (record { place = place; message = f }) ≡ message_lines m.version m.order (lent.content_of m.content)
lent_lines m f place is = rw (is.content, is.version, is.order) refl

-- messages, and what follows them
module _ (limits : Limits) (before after : List ℕ) (message : Option Frame) (place : ℕ)
    (on : messages_of limits after ≡ messages_of limits before ++ completed_at place message) where
  pub lines_on : (m : Message) (f : Frame) → message ≡ Some f → IsLent m f → stream_lines limits after ≡ stream_lines limits before ++ message_lines m.version m.order (lent.content_of m.content)
  lines_on m f is lent =
      let more : messages_of limits after ≡ messages_of limits before ++ (record { place = place; message = f }) ∷ [] = rw is at on in
      rw (more, flat_map-append, append-nil, lent_lines m f place lent) refl

  pub lines_same : message ≡ None → stream_lines limits after ≡ stream_lines limits before
  lines_same is =
      let same : messages_of limits after ≡ messages_of limits before ++ [] = rw is at on in
      rw (same, append-nil) refl

-- what is printed before a fault
pub ended_printed : (limits : Limits) (octets : List ℕ) (k : ℕ) (a : Standing) (e : StreamFault) (messages : ℕ) → a.limits ≡ limits
    → IsFault a.limits (take k octets) (drop k octets) e
    → (r : Result Summary Stop) → IfOk r (λ x. (x.messages ≡ messages) × (x.ending ≡ Fault e) × (e ≢ fault.Memory))
    → (first last : Option (List ℕ)) (detail : Detail) → Appends first last (printed detail (stream_lines limits (take k octets)))
    → OnOk r (Appends first last (printed detail (stream_lines limits octets)))
ended_printed limits octets k a e messages same h (Err stop) is first last detail p = tt
ended_printed limits octets k a e messages same h (Ok x) is first last detail p =
    let f = reported_fault limits (take k octets) (drop k octets) e is.2 (subst (λ l. IsFault l (take k octets) (drop k octets) e) same h) in
    let all : messages_of limits octets ≡ messages_of limits (take k octets) = ap (messages_of limits) (sym (take-append-drop k octets)) ∙ f.same in
    rw all p
