-- What has to be believed of this crate, in reading order. Clauses are those of GIOP (CORBA 3.3 Part 2, chapter 9); what no
-- clause says is marked `own rule`.
-- Interfaces: the types of an operation, and which values are its arguments and its outcomes. Replies: the octets of replies.
-- Servants: what a servant means and promises. Catalogues: what is on offer, whoever performs. Sound: which types can be added to a
-- catalogue. Filling: what a catalogue offers that is filled in call by call, and why a call adds nothing. Families: what a
-- key leads to that has no object of its own. Accessors: the arguments of an operation, by index. Ranges: which numbers a type has, as a test. Sizes: the most octets that values of types take. Objects: a
-- servant of one object by a table of its operations. Decisions: what answers a request that is refused.
pub mod Interfaces
pub mod Replies
pub mod Servants
pub mod Catalogues
pub mod Sound
pub mod Filling
pub mod Families
pub mod Accessors
pub mod Ranges
pub mod Sizes
pub mod Objects
pub mod Decisions
-- proofs, which nobody has to read: `facts.antt` says who cites them
pub mod facts
-- words of private functions: nothing public rests on them
pub mod Adding
