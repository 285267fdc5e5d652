-- What is written for a reader: messages one after another, each in a byte order, and what the reader hears of them.
use Rattle.std.specs.Prelude.{◌≡◌, ◌≢◌, ℕ, ◌+◌, ◌^◌, ◌<◌, nat_lt, ℤ, List, [], ◌∷◌, ◌++◌, filter_map, flat_map, length, Option, Some, None, if◌then◌else◌}
use Rattle.cdr_core.specs.declared.order.Order.{Order}
use Rattle.cdr_core.specs.Value.{Values, no_values}
use Rattle.giop_core.specs.declared.header.MessageKind.TheVariants as kind
use Rattle.giop_core.specs.declared.header.Version.{Version}
use Rattle.giop_core.specs.Content as content
use Rattle.giop_core.specs.Content.{Content}
use Rattle.giop_core.specs.Laws.{CanBeWritten, rest_after, with_rest, written_fields}
use Rattle.giop_core.specs.Written.{behind_header, ft_octets, message_octets}
use Rattle.giop_frames.specs.declared.fault.StreamFault.TheVariants.{TooLarge}
use Rattle.giop_frames.specs.declared.limits.Limits.{Limits}
use Rattle.giop_link.specs.Hearing.{Course, Sound, before, ends, faulty, kind_of, says}

-- a message to be written: its version, the byte order in which it is written, what it says, and the values of its body, if it
-- has one; the octets of a body in `content` do not count
pub record Outgoing : Type 0 where
  pub version : Version
  pub order : Order
  pub content : Content
  pub body : Values

-- GIOP 9.4.2, GIOP 9.4.3, GIOP 9.4.6: which messages have a body
abbrev pub values_in : Content → Values → Values
values_in (content.request id wish to operation contexts rest) body = body
values_in (content.reply id status contexts rest) body = body
values_in (content.locate_reply id status rest) body = body
values_in m body = no_values

-- what stands after the header
abbrev pub octets_in : Version → Order → Content → Values → List ℕ
octets_in version order content.close body = []
octets_in version order content.error body = []
octets_in version order m body = behind_header version (kind_of m) order (written_fields version m) (values_in m body)

abbrev pub octets_after : Outgoing → List ℕ
octets_after m = octets_in m.version m.order m.content m.body

-- the octets of a message, and of messages one after another
abbrev pub octets_of : Outgoing → List ℕ
octets_of m = message_octets m.version (kind_of m.content) m.order (octets_after m)

abbrev pub octets_of_each : List Outgoing → List ℕ
octets_of_each ms = flat_map octets_of ms

-- what it says, with the octets of its body in their place
abbrev pub said_in : Version → Order → Content → Values → Content
said_in version order m body = with_rest m (rest_after version (kind_of m) order (written_fields version m) (values_in m body))

-- a writer of its kind takes it, and its size is one that a header can say; no Fragment is written by itself
pub record CanGoOut (m : Outgoing) : Type 0 where
  pub takes : CanBeWritten m.version m.content
  pub whole : kind_of m.content ≢ kind.Fragment
  pub size : length (octets_after m) < 2 ^ 32

-- FT 23.2.7: FT_REQUEST, in the byte order of the request, as its one context
abbrev pub ft_alone : Order → List ℕ → ℤ → ℕ → List (ℕ × List ℕ)
ft_alone order client_id retention_id expiration = (13, ft_octets order client_id retention_id expiration) ∷ []

-- what is heard, if it is heard
abbrev pub heard_by : {Heard : Type 0} → Sound Heard → Option Heard
heard_by (says x) = Some x
heard_by (ends e) = None

-- what a reader hears, to whom messages are this: `meaning_in` for a server, `answer_to` for a client
module _ {Heard : Type 0} (to_reader : Version → Content → Sound Heard) where
  -- what a message is
  abbrev pub sound_to : Outgoing → Sound Heard
  sound_to m = to_reader m.version (said_in m.version m.order m.content m.body)

  -- what is heard of messages, and how the stream ends: they count up to the first that ends it or is over the limit
  abbrev pub course_to : Limits → List Outgoing → Course Heard
  course_to limits [] = record { heard = []; ending = None }
  course_to limits (m ∷ ms) =
      if nat_lt limits.message (12 + length (octets_after m)) then record { heard = []; ending = Some (faulty TooLarge) } else before (sound_to m) (course_to limits ms)

  -- what they say, each by itself
  abbrev pub meant : List Outgoing → List Heard
  meant ms = filter_map (λ m. heard_by (sound_to m)) ms

-- the first list is a front of the second
abbrev pub IsFront : {A : Type 0} → List A → List A → Type 0
IsFront {A} xs ys = (more : List A) × (ys ≡ xs ++ more)
