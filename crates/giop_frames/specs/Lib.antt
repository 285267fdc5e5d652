-- What has to be believed of this crate, in reading order. Clauses are those of GIOP (CORBA 3.3 Part 2, chapter 9); what
-- is in no clause is marked `own rule`.
pub mod Frames
pub mod Fragments
pub mod Streams
pub mod Standing
pub mod Cutting
-- what the laws say
pub mod Splitting
pub mod Refusing
pub mod Completing
pub mod Positions
pub mod ReadAgain
pub mod Laws
-- words of private functions: nothing public rests on them
pub mod Private
pub mod Naming
