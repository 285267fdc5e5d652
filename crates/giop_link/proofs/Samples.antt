-- Samples: what is heard of messages that are written, on both sides.
use Rattle.std.proofs.Common.{◌≡◌, [], ◌∷◌, ◌++◌, Some, replicate, refl, lit≤}
use Rattle.cdr_core.specs.declared.order.Order.TheVariants.{Big, Little}
use Rattle.cdr_core.specs.Parts.{ulong_value}
use Rattle.cdr_core.specs.Reading.{value_at, whole_at, number_at, part_at, octets_at, length_at, each_at, ordinal_at}
use Rattle.cdr_core.specs.Value.{no_values, values}
use Rattle.giop_core.specs.declared.header.MessageKind.TheVariants as kind
use Rattle.giop_core.specs.declared.header.Version.TheVariants.{V10, V12}
use Rattle.giop_core.specs.declared.request.ReplyWish.TheVariants as wish
use Rattle.giop_core.specs.Content as content
use Rattle.giop_core.specs.Content.{Rest, by_key}
use Rattle.giop_core.specs.Headers.{header_of}
use Rattle.giop_core.specs.Messages.{message_of}
use Rattle.giop_core.specs.Rows.{row}
use Rattle.giop_core.specs.Written.{behind_header, message_octets}
use Rattle.giop_frames.specs.declared.fault.StreamFault.TheVariants.{TooLarge}
use Rattle.giop_frames.specs.declared.limits.Cuts.TheVariants.{Aligned}
use Rattle.giop_frames.specs.declared.limits.Limits.{Limits}
use Rattle.giop_frames.specs.Frames.{sight, split}
use Rattle.giop_frames.specs.Fragments.{judged_as, judged_by}
use Rattle.giop_frames.specs.Streams.{fault_of, messages_of}
use Rattle.giop_link.specs.Answering.{Answer, answer_to, client_ending, client_heard, replied}
use Rattle.giop_link.specs.Hearing.{Incoming, asks, cancels, ending_as, faulty, heard, heard_as, meaning_in, peer_closed, sound_of, wrong_direction}
use Rattle.giop_link.specs.Linking.{close_connection}
use Rattle.giop_link.specs.Outgoing.{Outgoing, course_to, meant, octets_of, octets_of_each}

limits : Limits
limits = record { message = 4096; partials = 1; cuts = Aligned; message_in_range = (lit≤ tt, lit≤ tt); partials_in_range = (lit≤ tt, lit≤ tt) }

-- the octets of a body that do not count
nothing : Rest
nothing = record { order = Big; place = 0; octets = [] }

-- a Request of 1.0 of id 5: the operation `a` of the object `k`, with the unsigned long 7
asking : Outgoing
asking = record { version = V10; order = Big; content = content.request 5 wish.Full (by_key (107 ∷ [])) (97 ∷ []) [] nothing; body = values (ulong_value 7 ∷ []) }

-- it is withdrawn
withdrawing : Outgoing
withdrawing = record { version = V10; order = Big; content = content.cancel 5; body = no_values }

closing : Outgoing
closing = record { version = V10; order = Big; content = content.close; body = no_values }

-- a Reply of 1.2 to it, with the unsigned long 9
replying : Outgoing
replying = record { version = V12; order = Big; content = content.reply 5 0 [] nothing; body = values (ulong_value 9 ∷ []) }

-- the same in little order
replying_in_little : Outgoing
replying_in_little = record { version = V12; order = Little; content = content.reply 5 0 [] nothing; body = values (ulong_value 9 ∷ []) }

-- one that is longer than 4,096 octets
replying_at_length : Outgoing
replying_at_length = record { version = V12; order = Big; content = content.reply 6 0 [] nothing; body = values (replicate 1025 (ulong_value 1)) }

the_request : Incoming
the_request = asks (record {
  version = V10;
  id = 5;
  wish = wish.Full;
  target = by_key (107 ∷ []);
  operation = 97 ∷ [];
  contexts = [];
  body = record { order = Big; place = 44; octets = 0 ∷ 0 ∷ 0 ∷ 7 ∷ [] };
})

the_reply : Answer
the_reply = replied 5 (record { status = 0; body = record { order = Big; place = 24; octets = 0 ∷ 0 ∷ 0 ∷ 9 ∷ [] } })

the_little_reply : Answer
the_little_reply = replied 5 (record { status = 0; body = record { order = Little; place = 24; octets = 9 ∷ 0 ∷ 0 ∷ 0 ∷ [] } })

-- what is written
the_octets : octets_of_each (withdrawing ∷ closing ∷ []) ≡ (71 ∷ 73 ∷ 79 ∷ 80 ∷ 1 ∷ 0 ∷ 0 ∷ 2 ∷ 0 ∷ 0 ∷ 0 ∷ 4 ∷ 0 ∷ 0 ∷ 0 ∷ 5 ∷ []) ++ close_connection
unfolding withdrawing closing behind_header
the_octets = refl

an_error : octets_of (record { version = V10; order = Big; content = content.error; body = no_values }) ≡ message_octets V10 kind.MessageError Big []
an_error = refl

-- to a server
up_to_the_close : course_to meaning_in limits (asking ∷ withdrawing ∷ closing ∷ withdrawing ∷ []) ≡ record { heard = the_request ∷ cancels 5 ∷ []; ending = Some peer_closed }
unfolding limits asking withdrawing closing the_request behind_header nothing
up_to_the_close = refl

all_that_is_said : meant meaning_in (asking ∷ closing ∷ withdrawing ∷ []) ≡ the_request ∷ cancels 5 ∷ []
unfolding asking withdrawing closing the_request nothing
all_that_is_said = refl

heard_in_octets : heard limits (octets_of_each (withdrawing ∷ closing ∷ withdrawing ∷ [])) ≡ cancels 5 ∷ []
unfolding limits withdrawing closing behind_header heard_as messages_of fault_of split sight header_of judged_by judged_as message_of row value_at whole_at number_at part_at sound_of content.content
heard_in_octets = refl

-- to a client
up_to_the_limit : course_to answer_to limits (replying ∷ replying_at_length ∷ replying ∷ []) ≡ record { heard = the_reply ∷ []; ending = Some (faulty TooLarge) }
unfolding limits replying replying_at_length the_reply behind_header nothing
up_to_the_limit = refl

in_either_order : course_to answer_to limits (replying ∷ replying_in_little ∷ closing ∷ []) ≡ record { heard = the_reply ∷ the_little_reply ∷ []; ending = Some peer_closed }
unfolding limits replying replying_in_little closing the_reply the_little_reply behind_header nothing
in_either_order = refl

no_answer : course_to answer_to limits (replying ∷ withdrawing ∷ replying ∷ []) ≡ record { heard = the_reply ∷ []; ending = Some wrong_direction }
unfolding limits replying withdrawing the_reply behind_header nothing
no_answer = refl

heard_by_the_client : client_heard limits (octets_of_each (replying ∷ closing ∷ replying ∷ [])) ≡ the_reply ∷ []
unfolding limits replying closing the_reply nothing behind_header heard_as messages_of fault_of split sight header_of judged_by judged_as message_of row value_at whole_at number_at part_at octets_at length_at each_at ordinal_at sound_of content.content
heard_by_the_client = refl

heard_in_either_order : client_heard limits (octets_of_each (replying_in_little ∷ replying ∷ closing ∷ [])) ≡ the_little_reply ∷ the_reply ∷ []
unfolding limits replying replying_in_little closing the_reply the_little_reply nothing behind_header heard_as messages_of fault_of split sight header_of judged_by judged_as message_of row value_at whole_at number_at part_at octets_at length_at each_at ordinal_at sound_of content.content
heard_in_either_order = refl

ended_at_the_client : client_ending limits (octets_of_each (replying ∷ closing ∷ replying ∷ [])) ≡ Some peer_closed
unfolding limits replying closing the_reply nothing behind_header ending_as messages_of fault_of split sight header_of judged_by judged_as message_of row value_at whole_at number_at part_at octets_at length_at each_at ordinal_at sound_of content.content
ended_at_the_client = refl
