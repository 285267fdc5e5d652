use Rattle.giop_frames.proofs.Completing.{messages_whole, places_rise}
use Rattle.giop_frames.proofs.laws.messages_are_whole.Goals as goal

pub returns-clause-messages : goal.returns-clause-messages
returns-clause-messages c = messages_whole

pub returns-clause-places : goal.returns-clause-places
returns-clause-places c = places_rise
