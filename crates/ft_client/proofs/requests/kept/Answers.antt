use Rattle.std.proofs.Common.{◌<◌, ◌++◌, length, map, ap, ◌∙◌, arith}
use Rattle.cdr_core.specs.View.{values_of}
use Rattle.giop_core.specs.Content.{by_key}
use Rattle.giop_core.specs.Items.{item_at}
use Rattle.giop_core.specs.Written.{message_octets}
use Rattle.giop_core.specs.declared.header.MessageKind.TheVariants.{Request}
use Rattle.ft_client.proofs.Asking.{asked_behind}
use Rattle.ft_client.proofs.Contexts.{end_within, whole_in}
use Rattle.ft_client.proofs.requests.kept.Goals as goal

pub id_place-requires : goal.id_place-requires
id_place-requires c = λ first.
    let a = c.args in
    let m = a.manner in
    let within = end_within m.version m.order m.wish (by_key a.asked.now.object_key.now) a.asked.now.operation.now (map item_at a.contexts.now) (values_of a.asked.now.arguments.now) first in
    let short : length (asked_behind a.id m (map item_at a.contexts.now) a.asked.now) < 4294967296 = c.in_ok-write_request.ensures.0 in
    omega (arith, within, short)

pub invariant_of-result : goal.invariant_of-result
invariant_of-result c =
    let a = c.args in
    let m = a.manner in
    let message = c.in_ok-write_request.ensures.1 ∙ ap (λ xs. xs ++ message_octets m.version Request m.order (asked_behind a.id m (map item_at a.contexts.now) a.asked.now)) c.new-message.ensures.items in
    let whole = whole_in m.version m.order m.wish (by_key a.asked.now.object_key.now) a.asked.now.operation.now (map item_at a.contexts.now) (values_of a.asked.now.arguments.now) c.id_place.result c.write_request.new.out.items (c.id_place.ensures m.order) message in
    record { whole = omega (arith, whole, c.write_request.new.out.ok.0) }
