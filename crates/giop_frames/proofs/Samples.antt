-- Samples: what the definitions give on streams written out in octets.
use Rattle.std.proofs.Common.{◌≡◌, ℕ, ◌++◌, List, [], ◌∷◌, Some, None, refl, map, replicate, lit≤}
use Rattle.cdr_core.specs.Reading.{value_at, each_at, boolean_at, string_at, text_at, whole_at, number_at, part_at, octets_at, length_at}
use Rattle.cdr_core.specs.declared.order.Order.TheVariants.{Big}
use Rattle.giop_core.specs.declared.header.MessageKind.TheVariants.{CancelRequest, Reply}
use Rattle.giop_core.specs.declared.header.Version.TheVariants.{V12}
use Rattle.giop_core.specs.Begun.{request_id_in}
use Rattle.giop_core.specs.Headers.{header_of}
use Rattle.giop_core.specs.Messages.{message_of}
use Rattle.giop_core.specs.Rows.{row}
use Rattle.giop_frames.specs.declared.fault.StreamFault.TheVariants.{StrayFragment, TwiceStarted, TooManyPartial, UnalignedFragment, TooLarge}
use Rattle.giop_frames.specs.declared.limits.Cuts.TheVariants.{Aligned, Anywhere}
use Rattle.giop_frames.specs.declared.limits.Limits.{Limits}
use Rattle.giop_frames.specs.Frames.{sight, split}
use Rattle.giop_frames.specs.Fragments.{judged_as, judged_by}
use Rattle.giop_frames.specs.ReadAgain.{Sent, sent_fault, sent_from, sent_octets, sent_within}
use Rattle.giop_frames.specs.Streams.{Completed, fault_of, messages_of, rest_of}

limits : Limits
limits = record { message = 4096; partials = 1; cuts = Aligned; message_in_range = (lit≤ tt, lit≤ tt); partials_in_range = (lit≤ tt, lit≤ tt) }

-- the first frame of a LocateRequest of id 1, cut after its disposition and key length; 12 + 12 octets
opening : List ℕ
opening = 71 ∷ 73 ∷ 79 ∷ 80 ∷ 1 ∷ 2 ∷ 2 ∷ 3 ∷ 0 ∷ 0 ∷ 0 ∷ 12 ∷ 0 ∷ 0 ∷ 0 ∷ 1 ∷ 0 ∷ 0 ∷ 0 ∷ 0 ∷ 0 ∷ 0 ∷ 0 ∷ 2 ∷ []

-- its last Fragment, with the two octets of the key
ending : List ℕ
ending = 71 ∷ 73 ∷ 79 ∷ 80 ∷ 1 ∷ 2 ∷ 0 ∷ 7 ∷ 0 ∷ 0 ∷ 0 ∷ 6 ∷ 0 ∷ 0 ∷ 0 ∷ 1 ∷ 65 ∷ 66 ∷ []

-- a CancelRequest of id 1
cancel : List ℕ
cancel = 71 ∷ 73 ∷ 79 ∷ 80 ∷ 1 ∷ 2 ∷ 0 ∷ 2 ∷ 0 ∷ 0 ∷ 0 ∷ 4 ∷ 0 ∷ 0 ∷ 0 ∷ 1 ∷ []

-- another LocateRequest of id 1, whole
again : List ℕ
again = 71 ∷ 73 ∷ 79 ∷ 80 ∷ 1 ∷ 2 ∷ 0 ∷ 3 ∷ 0 ∷ 0 ∷ 0 ∷ 12 ∷ 0 ∷ 0 ∷ 0 ∷ 1 ∷ 0 ∷ 0 ∷ 0 ∷ 0 ∷ 0 ∷ 0 ∷ 0 ∷ 0 ∷ []

-- the first frame of a Reply of id 2
other : List ℕ
other = 71 ∷ 73 ∷ 79 ∷ 80 ∷ 1 ∷ 2 ∷ 2 ∷ 1 ∷ 0 ∷ 0 ∷ 0 ∷ 12 ∷ 0 ∷ 0 ∷ 0 ∷ 2 ∷ 0 ∷ 0 ∷ 0 ∷ 0 ∷ 0 ∷ 0 ∷ 0 ∷ 0 ∷ []

-- the places and the octets of messages
seen : List Completed → List (ℕ × List ℕ)
seen ms = map (λ m. (m.place, m.message.octets)) ms

of : List ℕ → List (ℕ × List ℕ)
of s = seen (messages_of limits s)

first_alone : of opening ≡ []
unfolding of seen limits opening ending cancel again other messages_of fault_of rest_of split sight header_of judged_by judged_as message_of row value_at whole_at number_at part_at octets_at length_at
first_alone = refl

first_pending : fault_of limits opening ≡ None
unfolding of seen limits opening ending cancel again other messages_of fault_of rest_of split sight header_of judged_by judged_as message_of row value_at whole_at number_at part_at octets_at length_at
first_pending = refl

joined_at_the_last : of (opening ++ ending) ≡ (42, 0 ∷ 0 ∷ 0 ∷ 1 ∷ 0 ∷ 0 ∷ 0 ∷ 0 ∷ 0 ∷ 0 ∷ 0 ∷ 2 ∷ 65 ∷ 66 ∷ []) ∷ []
unfolding of seen limits opening ending cancel again other messages_of fault_of rest_of split sight header_of judged_by judged_as message_of row value_at whole_at number_at part_at octets_at length_at
joined_at_the_last = refl

stray_alone : fault_of limits ending ≡ Some StrayFragment
unfolding of seen limits opening ending cancel again other messages_of fault_of rest_of split sight header_of judged_by judged_as message_of row value_at whole_at number_at part_at octets_at length_at
stray_alone = refl

cancelled_is_stray : fault_of limits (opening ++ cancel ++ ending) ≡ Some StrayFragment
unfolding of seen limits opening ending cancel again other messages_of fault_of rest_of split sight header_of judged_by judged_as message_of row value_at whole_at number_at part_at octets_at length_at
cancelled_is_stray = refl

cancel_is_reported : of (opening ++ cancel) ≡ (40, 0 ∷ 0 ∷ 0 ∷ 1 ∷ []) ∷ []
unfolding of seen limits opening ending cancel again other messages_of fault_of rest_of split sight header_of judged_by judged_as message_of row value_at whole_at number_at part_at octets_at length_at
cancel_is_reported = refl

twice : fault_of limits (opening ++ again) ≡ Some TwiceStarted
unfolding of seen limits opening ending cancel again other messages_of fault_of rest_of split sight header_of judged_by judged_as message_of row value_at whole_at number_at part_at octets_at length_at
twice = refl

too_many : fault_of limits (opening ++ other) ≡ Some TooManyPartial
unfolding of seen limits opening ending cancel again other messages_of fault_of rest_of split sight header_of judged_by judged_as message_of row value_at whole_at number_at part_at octets_at length_at
too_many = refl

what_waits : rest_of limits (again ++ 71 ∷ 73 ∷ []) ≡ 71 ∷ 73 ∷ []
unfolding of seen limits opening ending cancel again other messages_of fault_of rest_of split sight header_of judged_by judged_as message_of row value_at whole_at number_at part_at octets_at length_at
what_waits = refl

unaligned : fault_of limits (71 ∷ 73 ∷ 79 ∷ 80 ∷ 1 ∷ 2 ∷ 2 ∷ 1 ∷ 0 ∷ 0 ∷ 0 ∷ 13 ∷ []) ≡ Some UnalignedFragment
unfolding of seen limits opening ending cancel again other messages_of fault_of rest_of split sight header_of judged_by judged_as message_of row value_at whole_at number_at part_at octets_at length_at
unaligned = refl

too_large : fault_of limits (71 ∷ 73 ∷ 79 ∷ 80 ∷ 1 ∷ 2 ∷ 0 ∷ 1 ∷ 0 ∷ 0 ∷ 15 ∷ 245 ∷ []) ≡ Some TooLarge
unfolding of seen limits opening ending cancel again other messages_of fault_of rest_of split sight header_of judged_by judged_as message_of row value_at whole_at number_at part_at octets_at length_at
too_large = refl

not_too_large : fault_of limits (71 ∷ 73 ∷ 79 ∷ 80 ∷ 1 ∷ 2 ∷ 0 ∷ 1 ∷ 0 ∷ 0 ∷ 15 ∷ 244 ∷ []) ≡ None
unfolding of seen limits opening ending cancel again other messages_of fault_of rest_of split sight header_of judged_by judged_as message_of row value_at whole_at number_at part_at octets_at length_at
not_too_large = refl

-- a message of 1.1 in three frames: a Request of id 5 of the operation `add`, with a body of four octets
opening_11 : List ℕ
opening_11 = 71 ∷ 73 ∷ 79 ∷ 80 ∷ 1 ∷ 1 ∷ 2 ∷ 0 ∷ 0 ∷ 0 ∷ 0 ∷ 16 ∷ 0 ∷ 0 ∷ 0 ∷ 0 ∷ 0 ∷ 0 ∷ 0 ∷ 5 ∷ 1 ∷ 0 ∷ 0 ∷ 0 ∷ 0 ∷ 0 ∷ 0 ∷ 1 ∷ []

middle_11 : List ℕ
middle_11 = 71 ∷ 73 ∷ 79 ∷ 80 ∷ 1 ∷ 1 ∷ 2 ∷ 7 ∷ 0 ∷ 0 ∷ 0 ∷ 8 ∷ 99 ∷ 0 ∷ 0 ∷ 0 ∷ 0 ∷ 0 ∷ 0 ∷ 4 ∷ []

ending_11 : List ℕ
ending_11 = 71 ∷ 73 ∷ 79 ∷ 80 ∷ 1 ∷ 1 ∷ 0 ∷ 7 ∷ 0 ∷ 0 ∷ 0 ∷ 12 ∷ 97 ∷ 100 ∷ 100 ∷ 0 ∷ 0 ∷ 0 ∷ 0 ∷ 0 ∷ 0 ∷ 0 ∷ 0 ∷ 7 ∷ []

-- a CancelRequest of its id
cancel_11 : List ℕ
cancel_11 = 71 ∷ 73 ∷ 79 ∷ 80 ∷ 1 ∷ 1 ∷ 0 ∷ 2 ∷ 0 ∷ 0 ∷ 0 ∷ 4 ∷ 0 ∷ 0 ∷ 0 ∷ 5 ∷ []

joined_in_1_1 : of (opening_11 ++ middle_11 ++ ending_11) ≡ (72, 0 ∷ 0 ∷ 0 ∷ 0 ∷ 0 ∷ 0 ∷ 0 ∷ 5 ∷ 1 ∷ 0 ∷ 0 ∷ 0 ∷ 0 ∷ 0 ∷ 0 ∷ 1 ∷ 99 ∷ 0 ∷ 0 ∷ 0 ∷ 0 ∷ 0 ∷ 0 ∷ 4 ∷ 97 ∷ 100 ∷ 100 ∷ 0 ∷ 0 ∷ 0 ∷ 0 ∷ 0 ∷ 0 ∷ 0 ∷ 0 ∷ 7 ∷ []) ∷ []
unfolding of seen limits opening ending cancel again other opening_11 middle_11 ending_11 cancel_11 messages_of fault_of rest_of split sight header_of judged_by judged_as message_of row request_id_in value_at each_at boolean_at string_at text_at whole_at number_at part_at octets_at length_at
joined_in_1_1 = refl

stray_in_1_1 : fault_of limits middle_11 ≡ Some StrayFragment
unfolding of seen limits opening ending cancel again other opening_11 middle_11 ending_11 cancel_11 messages_of fault_of rest_of split sight header_of judged_by judged_as message_of row request_id_in value_at each_at boolean_at string_at text_at whole_at number_at part_at octets_at length_at
stray_in_1_1 = refl

cancelled_in_1_1 : fault_of limits (opening_11 ++ cancel_11 ++ middle_11) ≡ Some StrayFragment
unfolding of seen limits opening ending cancel again other opening_11 middle_11 ending_11 cancel_11 messages_of fault_of rest_of split sight header_of judged_by judged_as message_of row request_id_in value_at each_at boolean_at string_at text_at whole_at number_at part_at octets_at length_at
cancelled_in_1_1 = refl

-- the id is not there yet
cancelled_too_early : fault_of limits ((71 ∷ 73 ∷ 79 ∷ 80 ∷ 1 ∷ 1 ∷ 2 ∷ 0 ∷ 0 ∷ 0 ∷ 0 ∷ 8 ∷ 0 ∷ 0 ∷ 0 ∷ 1 ∷ 0 ∷ 0 ∷ 0 ∷ 1 ∷ []) ++ cancel_11) ≡ None
unfolding of seen limits opening ending cancel again other opening_11 middle_11 ending_11 cancel_11 messages_of fault_of rest_of split sight header_of judged_by judged_as message_of row request_id_in value_at each_at boolean_at string_at text_at whole_at number_at part_at octets_at length_at
cancelled_too_early = refl

another_between : fault_of limits (opening_11 ++ ending) ≡ Some TwiceStarted
unfolding of seen limits opening ending cancel again other opening_11 middle_11 ending_11 cancel_11 messages_of fault_of rest_of split sight header_of judged_by judged_as message_of row request_id_in value_at each_at boolean_at string_at text_at whole_at number_at part_at octets_at length_at
another_between = refl

unaligned_in_1_1 : fault_of limits (71 ∷ 73 ∷ 79 ∷ 80 ∷ 1 ∷ 1 ∷ 2 ∷ 0 ∷ 0 ∷ 0 ∷ 0 ∷ 20 ∷ []) ≡ Some UnalignedFragment
unfolding of seen limits opening ending cancel again other opening_11 middle_11 ending_11 cancel_11 messages_of fault_of rest_of split sight header_of judged_by judged_as message_of row request_id_in value_at each_at boolean_at string_at text_at whole_at number_at part_at octets_at length_at
unaligned_in_1_1 = refl

-- limits that let a message of 1.1 be cut anywhere
anywhere : Limits
anywhere = record { message = 4096; partials = 1; cuts = Anywhere; message_in_range = (lit≤ tt, lit≤ tt); partials_in_range = (lit≤ tt, lit≤ tt) }

-- the same message, cut after its seventeenth octet ..
odd_11 : List ℕ
odd_11 = 71 ∷ 73 ∷ 79 ∷ 80 ∷ 1 ∷ 1 ∷ 2 ∷ 0 ∷ 0 ∷ 0 ∷ 0 ∷ 17 ∷ 0 ∷ 0 ∷ 0 ∷ 0 ∷ 0 ∷ 0 ∷ 0 ∷ 5 ∷ 1 ∷ 0 ∷ 0 ∷ 0 ∷ 0 ∷ 0 ∷ 0 ∷ 1 ∷ 99 ∷ []

rest_11 : List ℕ
rest_11 = 71 ∷ 73 ∷ 79 ∷ 80 ∷ 1 ∷ 1 ∷ 0 ∷ 7 ∷ 0 ∷ 0 ∷ 0 ∷ 19 ∷ 0 ∷ 0 ∷ 0 ∷ 0 ∷ 0 ∷ 0 ∷ 4 ∷ 97 ∷ 100 ∷ 100 ∷ 0 ∷ 0 ∷ 0 ∷ 0 ∷ 0 ∷ 0 ∷ 0 ∷ 0 ∷ 7 ∷ []

-- .. and after its last
whole_11 : List ℕ
whole_11 = 71 ∷ 73 ∷ 79 ∷ 80 ∷ 1 ∷ 1 ∷ 2 ∷ 0 ∷ 0 ∷ 0 ∷ 0 ∷ 36 ∷ 0 ∷ 0 ∷ 0 ∷ 0 ∷ 0 ∷ 0 ∷ 0 ∷ 5 ∷ 1 ∷ 0 ∷ 0 ∷ 0 ∷ 0 ∷ 0 ∷ 0 ∷ 1 ∷ 99 ∷ 0 ∷ 0 ∷ 0 ∷ 0 ∷ 0 ∷ 0 ∷ 4 ∷ 97 ∷ 100 ∷ 100 ∷ 0 ∷ 0 ∷ 0 ∷ 0 ∷ 0 ∷ 0 ∷ 0 ∷ 0 ∷ 7 ∷ []

empty_11 : List ℕ
empty_11 = 71 ∷ 73 ∷ 79 ∷ 80 ∷ 1 ∷ 1 ∷ 0 ∷ 7 ∷ 0 ∷ 0 ∷ 0 ∷ 0 ∷ []

joined_at_an_odd_octet : seen (messages_of anywhere (odd_11 ++ rest_11)) ≡ (60, 0 ∷ 0 ∷ 0 ∷ 0 ∷ 0 ∷ 0 ∷ 0 ∷ 5 ∷ 1 ∷ 0 ∷ 0 ∷ 0 ∷ 0 ∷ 0 ∷ 0 ∷ 1 ∷ 99 ∷ 0 ∷ 0 ∷ 0 ∷ 0 ∷ 0 ∷ 0 ∷ 4 ∷ 97 ∷ 100 ∷ 100 ∷ 0 ∷ 0 ∷ 0 ∷ 0 ∷ 0 ∷ 0 ∷ 0 ∷ 0 ∷ 7 ∷ []) ∷ []
unfolding seen anywhere odd_11 rest_11 messages_of fault_of rest_of split sight header_of judged_by judged_as message_of row request_id_in value_at each_at boolean_at string_at text_at whole_at number_at part_at octets_at length_at
joined_at_an_odd_octet = refl

joined_with_an_empty_one : seen (messages_of anywhere (whole_11 ++ empty_11)) ≡ (60, 0 ∷ 0 ∷ 0 ∷ 0 ∷ 0 ∷ 0 ∷ 0 ∷ 5 ∷ 1 ∷ 0 ∷ 0 ∷ 0 ∷ 0 ∷ 0 ∷ 0 ∷ 1 ∷ 99 ∷ 0 ∷ 0 ∷ 0 ∷ 0 ∷ 0 ∷ 0 ∷ 4 ∷ 97 ∷ 100 ∷ 100 ∷ 0 ∷ 0 ∷ 0 ∷ 0 ∷ 0 ∷ 0 ∷ 0 ∷ 0 ∷ 7 ∷ []) ∷ []
unfolding seen anywhere whole_11 empty_11 messages_of fault_of rest_of split sight header_of judged_by judged_as message_of row request_id_in value_at each_at boolean_at string_at text_at whole_at number_at part_at octets_at length_at
joined_with_an_empty_one = refl

unaligned_by_default : fault_of limits (odd_11 ++ rest_11) ≡ Some UnalignedFragment
unfolding limits odd_11 rest_11 fault_of split sight header_of judged_by judged_as message_of row value_at whole_at number_at part_at octets_at length_at
unaligned_by_default = refl

-- in 1.2 the clause rules
unaligned_in_1_2 : fault_of anywhere (71 ∷ 73 ∷ 79 ∷ 80 ∷ 1 ∷ 2 ∷ 2 ∷ 1 ∷ 0 ∷ 0 ∷ 0 ∷ 13 ∷ []) ≡ Some UnalignedFragment
unfolding anywhere fault_of split sight header_of judged_by judged_as message_of row value_at whole_at number_at part_at octets_at length_at
unaligned_in_1_2 = refl

-- messages that are written: a CancelRequest of id 1, one that is over the limit, and the first again
small : Sent
small = record { version = V12; kind = CancelRequest; order = Big; body = 0 ∷ 0 ∷ 0 ∷ 1 ∷ [] }

large : Sent
large = record { version = V12; kind = Reply; order = Big; body = replicate 4085 0 }

the_octets_of_a_cancel : sent_octets (small ∷ []) ≡ cancel
unfolding small cancel
the_octets_of_a_cancel = refl

up_to_the_large : sent_within limits (small ∷ large ∷ small ∷ []) ≡ small ∷ []
unfolding limits small large
up_to_the_large = refl

the_large_is_too_large : sent_fault limits (small ∷ large ∷ small ∷ []) ≡ Some TooLarge
unfolding limits small large
the_large_is_too_large = refl

all_are_small : (sent_within limits (small ∷ small ∷ []) ≡ small ∷ small ∷ []) × (sent_fault limits (small ∷ small ∷ []) ≡ None)
unfolding limits small
all_are_small = (refl, refl)

both_complete : of (sent_octets (small ∷ small ∷ [])) ≡ seen (sent_from 0 (small ∷ small ∷ []))
unfolding of seen limits opening ending cancel again other small messages_of fault_of rest_of split sight header_of judged_by judged_as message_of row value_at whole_at number_at part_at octets_at length_at
both_complete = refl

-- the header of one that is over the limit is a fault
at_its_header : fault_of limits (sent_octets (small ∷ []) ++ (71 ∷ 73 ∷ 79 ∷ 80 ∷ 1 ∷ 2 ∷ 0 ∷ 1 ∷ 0 ∷ 0 ∷ 15 ∷ 245 ∷ [])) ≡ Some TooLarge
unfolding of seen limits opening ending cancel again other small messages_of fault_of rest_of split sight header_of judged_by judged_as message_of row value_at whole_at number_at part_at octets_at length_at
at_its_header = refl
