-- Samples over real octets: a counter, and a client that adds 7 to it. A request takes 84 octets, its reply 32, a system exception
-- 72, and CloseConnection 12. And a servant whose operations are raw: its reply takes 28.
use Rattle.std.proofs.Common.{◌≡◌, ℕ, ◌+ℤ◌, bytes_eq, false, true, if◌then◌else◌, List, [], ◌∷◌, ℤ, pos, refl, lit≤}
use Rattle.cdr_core.specs.Encapsulation.{encapsulated, order_at}
use Rattle.cdr_core.specs.Parts.{long, long_value, longlong, longlong_value}
use Rattle.cdr_core.specs.Reading.{value_at, each_at, boolean_at, string_at, text_at, whole_at, number_at, part_at, octets_at, length_at, ordinal_at}
use Rattle.cdr_core.specs.Value as value
use Rattle.cdr_core.specs.Value.{Values, values}
use Rattle.cdr_core.specs.View.{forms}
use Rattle.cdr_core.specs.declared.order.Order.TheVariants.{Little}
use Rattle.giop_core.specs.Content.{content}
use Rattle.giop_core.specs.Ft.{ft_in}
use Rattle.giop_core.specs.Headers.{header_of}
use Rattle.giop_core.specs.Items.{items_in}
use Rattle.giop_core.specs.Messages.{message_of}
use Rattle.giop_core.specs.Rows.{row}
use Rattle.giop_core.specs.Written.{behind_header}
use Rattle.giop_core.specs.declared.header.Version.TheVariants.{V12}
use Rattle.giop_core.specs.declared.reply.ReplyStatus.TheVariants.{LocationForward}
use Rattle.giop_frames.specs.Fragments.{judged_as, judged_by}
use Rattle.giop_frames.specs.Frames.{sight, split}
use Rattle.giop_frames.specs.Streams.{fault_of, messages_of, rest_of}
use Rattle.giop_frames.specs.declared.limits.Cuts.TheVariants.{Aligned}
use Rattle.giop_frames.specs.declared.limits.Limits.{Limits}
use Rattle.giop_link.specs.Hearing.{ending_as, heard_as, sound_of}
use Rattle.ft_log.specs.Performed.{Performed, raw, returned, system}
use Rattle.ft_log.specs.declared.outcome.RawStatus.TheVariants as raw_status
use Rattle.ft_log.specs.declared.system_exception.Completion.TheVariants.{No}
use Rattle.ft_log.specs.declared.system_exception.SystemName.TheVariants.{BadContext, BadParam}
use Rattle.ft_client.specs.Clients.{Cancelled, Ended, Expired, Told}
use Rattle.ft_client.specs.Messages.{Call, typed}
use Rattle.ft_client.specs.Standing.{down}
use Rattle.ft_orb.specs.ExactlyOnce.{state_of}
use Rattle.ft_orb.specs.History.{arrivals, arrivals_in, front_in}
use Rattle.ft_objects.specs.Interfaces.{no_object, no_operation, operation, raw_operation}
use Rattle.ft_orb.specs.Outputs.{Made}
use Rattle.ft_orb.specs.Tellings.{rendering}
use Rattle.ft_orb.specs.Requests.{rules_of}
use Rattle.ft_objects.specs.Servants.{Meaning}
use Rattle.ft_ends.specs.Both.{ended_of}
use Rattle.ft_ends.specs.Laws.{sides_of}
use Rattle.ft_ends.specs.World.{CallNow, Cancel, Connect, Cut, Down, KeepForwards, RedirectTo, ResendNow, Shut, Step, Tick, UpTo, World, world}

-- a servant of one object, `c`, with one operation, `add`, of a long, which returns the total as a long long

abbrev total_is : ℤ → Performed
total_is n = returned (values (longlong_value n ∷ []))

abbrev added : ℤ → Values → ℤ × Performed
added total (value.value (value.number kind z) rest) = (total +ℤ z, total_is (total +ℤ z))
added total _ = (total, system BadParam 0 No)

abbrev counter : Meaning ℤ
counter = record {
  is_state = λ n. true;
  interface = λ key name.
      if bytes_eq key (99 ∷ []) then (if bytes_eq name (97 ∷ 100 ∷ 100 ∷ []) then operation (record { arguments = forms (long ∷ []); results = forms (longlong ∷ []); raises = [] }) else no_operation)
      else no_object;
  knows = λ key. bytes_eq key (99 ∷ []);
  apply = λ total key name arguments. added total arguments;
}

abbrev limits : Limits
limits = record { message = 4096; partials = 1; cuts = Aligned; message_in_range = (lit≤ tt, lit≤ tt); partials_in_range = (lit≤ tt, lit≤ tt) }

abbrev made : Made ℤ
made = record { limits = limits; capacity = 1024; share = 1024; opening = pos 0 }

abbrev add : Call
add = record { object_key = 99 ∷ []; operation = 97 ∷ 100 ∷ 100 ∷ []; arguments = values (long_value (pos 7) ∷ []); expiration = 100; form = typed }

-- the world of a servant where one client, `A`, calls at 50, connects, and then this happens
abbrev world_of : Meaning ℤ → List Step → World
world_of meaning steps = world (sides_of meaning made down) (record { client_id = 65 ∷ []; version = V12; limits = limits } ∷ []) (CallNow 0 50 add ∷ Connect 0 50 ∷ steps)

-- what completes, and the servant's state
abbrev shown_of : Meaning ℤ → World → List (ℕ × ℕ × Ended) × ℤ
shown_of meaning w = (w.completions, state_of (rules_of meaning 1024 1024) (pos 0) (arrivals limits w.past))

-- the same of the counter

abbrev after_call : List Step → World
after_call steps = world_of counter steps

abbrev shown_by : World → List (ℕ × ℕ × Ended) × ℤ
shown_by w = shown_of counter w

abbrev gives_seven : ℕ × ℕ × Ended
gives_seven = (0, 1, ended_of (total_is (pos 7)))

abbrev comes_too_late : ℕ × ℕ × Ended
comes_too_late = (0, 1, ended_of (system BadContext 0 No))

-- the reply is lost with the connection; the request that is sent again is not performed again, and gets its outcome
again : shown_by (after_call (UpTo 0 84 50 ∷ Cut 0 ∷ Connect 0 60 ∷ UpTo 0 84 60 ∷ Down 0 32 ∷ [])) ≡ (gives_seven ∷ [], pos 7)
unfolding arrivals_in front_in rendering heard_as ending_as sound_of content items_in messages_of fault_of rest_of split sight header_of judged_by judged_as message_of row encapsulated order_at ft_in behind_header value_at each_at boolean_at string_at text_at whole_at number_at part_at octets_at length_at ordinal_at
again = refl

-- a request of which an octet is missing is none
expires : shown_by (after_call (UpTo 0 83 50 ∷ Cut 0 ∷ Tick 0 101 ∷ [])) ≡ ((0, 1, Expired) ∷ [], pos 0)
unfolding arrivals_in front_in rendering heard_as ending_as sound_of content items_in messages_of fault_of rest_of split sight header_of judged_by judged_as message_of row encapsulated order_at ft_in behind_header value_at each_at boolean_at string_at text_at whole_at number_at part_at octets_at length_at ordinal_at
expires = refl

-- one that comes too late is refused, and not performed
late : shown_by (after_call (UpTo 0 84 101 ∷ Down 0 72 ∷ [])) ≡ (comes_too_late ∷ [], pos 0)
unfolding arrivals_in front_in rendering heard_as ending_as sound_of content items_in messages_of fault_of rest_of split sight header_of judged_by judged_as message_of row encapsulated order_at ft_in behind_header value_at each_at boolean_at string_at text_at whole_at number_at part_at octets_at length_at ordinal_at
late = refl

-- so is the repeat of one that was performed
late_again : shown_by (after_call (UpTo 0 84 50 ∷ Cut 0 ∷ Connect 0 60 ∷ UpTo 0 84 101 ∷ Down 0 72 ∷ [])) ≡ (comes_too_late ∷ [], pos 7)
unfolding arrivals_in front_in rendering heard_as ending_as sound_of content items_in messages_of fault_of rest_of split sight header_of judged_by judged_as message_of row encapsulated order_at ft_in behind_header value_at each_at boolean_at string_at text_at whole_at number_at part_at octets_at length_at ordinal_at
late_again = refl

-- after the server has closed the connection the client still gets the reply
closing : shown_by (after_call (UpTo 0 84 50 ∷ Shut 0 ∷ Down 0 44 ∷ [])) ≡ (gives_seven ∷ [], pos 7)
unfolding arrivals_in front_in rendering heard_as ending_as sound_of content items_in messages_of fault_of rest_of split sight header_of judged_by judged_as message_of row encapsulated order_at ft_in behind_header value_at each_at boolean_at string_at text_at whole_at number_at part_at octets_at length_at ordinal_at
closing = refl

-- it leaves a connection that was closed, and calls again on the next
closed : shown_by (after_call (Shut 0 ∷ Down 0 12 ∷ Connect 0 60 ∷ UpTo 0 84 60 ∷ Down 0 32 ∷ [])) ≡ (gives_seven ∷ [], pos 7)
unfolding arrivals_in front_in rendering heard_as ending_as sound_of content items_in messages_of fault_of rest_of split sight header_of judged_by judged_as message_of row encapsulated order_at ft_in behind_header value_at each_at boolean_at string_at text_at whole_at number_at part_at octets_at length_at ordinal_at
closed = refl

-- the late reply to a call that was cancelled gives nothing
cancelled : shown_by (after_call (UpTo 0 84 50 ∷ Cancel 0 (pos 1) ∷ Down 0 32 ∷ [])) ≡ ((0, 1, Cancelled) ∷ [], pos 7)
unfolding arrivals_in front_in rendering heard_as ending_as sound_of content items_in messages_of fault_of rest_of split sight header_of judged_by judged_as message_of row encapsulated order_at ft_in behind_header value_at each_at boolean_at string_at text_at whole_at number_at part_at octets_at length_at ordinal_at
cancelled = refl

-- a servant of the same object whose operations are raw: it counts its calls, and sends each on with the octets that it brought, as
-- little-endian ones

abbrev sent_on : Values → Performed
sent_on (value.value (value.octets octets) rest) = raw raw_status.LocationForward Little octets
sent_on _ = system BadParam 0 No

abbrev sender : Meaning ℤ
sender = record {
  is_state = λ n. true;
  interface = λ key name. if bytes_eq key (99 ∷ []) then raw_operation else no_object;
  knows = λ key. bytes_eq key (99 ∷ []);
  apply = λ total key name arguments. (total +ℤ pos 1, sent_on arguments);
}

-- the call ends as forwarded, with these octets in their order; it is performed once, also where its first reply is lost
forwarded : shown_of sender (world_of sender (UpTo 0 84 50 ∷ Cut 0 ∷ Connect 0 60 ∷ UpTo 0 84 60 ∷ Down 0 28 ∷ [])) ≡ ((0, 1, Told LocationForward (record { order = Little; place = 24; octets = 0 ∷ 0 ∷ 0 ∷ 7 ∷ [] })) ∷ [], pos 1)
unfolding arrivals_in front_in rendering heard_as ending_as sound_of content items_in messages_of fault_of rest_of split sight header_of judged_by judged_as message_of row encapsulated order_at ft_in behind_header value_at each_at boolean_at string_at text_at whole_at number_at part_at octets_at length_at ordinal_at
forwarded = refl

-- where forwards leave calls pending, the call is asked for under the key `d` then: it gets its one outcome, and is not performed again
redirected : shown_of sender (world_of sender (KeepForwards 0 true ∷ UpTo 0 84 50 ∷ Down 0 28 ∷ RedirectTo 0 (pos 1) (100 ∷ []) ∷ ResendNow 0 60 ∷ UpTo 0 84 60 ∷ KeepForwards 0 false ∷ Down 0 28 ∷ []))
    ≡ ((0, 1, Told LocationForward (record { order = Little; place = 24; octets = 0 ∷ 0 ∷ 0 ∷ 7 ∷ [] })) ∷ [], pos 1)
unfolding arrivals_in front_in rendering heard_as ending_as sound_of content items_in messages_of fault_of rest_of split sight header_of judged_by judged_as message_of row encapsulated order_at ft_in behind_header value_at each_at boolean_at string_at text_at whole_at number_at part_at octets_at length_at ordinal_at
redirected = refl
