-- What a caller of this crate believes, in the order in which it is best read. "GIOP" is clause 9.4 of CORBA 3.3 Part 2; "own
-- rule" marks what this project decides where it is silent.
-- Passing: the frames of a stream, of which those that are too long are passed over. PassingMessages: what is told of its
-- messages. PassingLaws: what holds of these. Placing: a Request and a Reply whose body stands at a place. Cuts: a message of
-- 1.1, cut at given places. PlacingLaws: what holds of these. PassingPrivate and PlacingPrivate are for private functions alone.
pub mod Passing
pub mod PassingMessages
pub mod PassingLaws
pub mod Placing
pub mod Cuts
pub mod PlacingLaws
pub mod PassingPrivate
pub mod PlacingPrivate
