use Rattle.ft_ends.proofs.Faithful.{directions-faithful}
use Rattle.ft_ends.proofs.laws.directions_are_faithful.Goals as goal

pub returns : goal.returns
returns c =
    let out = c.messages_go_out.ensures in
    directions-faithful out.request out.cancel c.written_messages_are_heard.ensures.meant out.reply out.locate_reply out.farewell c.written_messages_are_heard-2.ensures.meant c.streams_are_heard.ensures.grows
