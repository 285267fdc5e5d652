-- What has to be believed of this crate, in reading order. Clauses are those of GIOP (CORBA 3.3 Part 2, chapter 9) and of
-- FT_REQUEST (FT 23.2.7); what no clause says is marked `own rule`.
-- Directions: messages as octets, and octets as messages. Messages: what a client writes and hears. Clients: a client as a
-- record, what can happen to it, and what it is and writes after that. Lives: a client with all that ever was. Restarting: one
-- that goes on after a crash. Laws: what holds of these definitions.
pub mod Directions
pub mod Messages
pub mod Clients
pub mod Made
pub mod Redirections
pub mod Errors
pub mod Calling
pub mod Ends
pub mod Keeping
pub mod Lives
pub mod Restarting
pub mod Standing
pub mod Laws
-- a proof that a field of `FtClient` cites, which nobody has to read
pub mod facts
-- words of private functions: nothing public rests on them
pub mod Private
