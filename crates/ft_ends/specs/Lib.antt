-- What has to be believed of this crate, in reading order. Clauses are those of GIOP (CORBA 3.3 Part 2, chapter 9) and of
-- FT_REQUEST (FT 23.2.7); what no clause says is marked `own rule`.
-- Tellings: what a server writes, as messages. World: clients and a server over a schedule of steps. Both: that both ends act
-- as one. Fine: what can be written and read again. Laws: what holds of these definitions. Playing: schedules of the code.
pub mod Tellings
pub mod World
pub mod Both
pub mod Fine
pub mod Laws
pub mod Playing
-- a proof that a field of `Taken` cites, which nobody has to read
pub mod facts
-- words of private functions: nothing public rests on them
pub mod Private
