-- What has to be believed of this crate, in reading order. Clauses are those of GIOP (CORBA 3.3 Part 2, chapter 9) and of
-- Fault Tolerant CORBA (FT); what no clause says is marked `own rule`.
-- Pairing: which request a message answers or cancels, and which it repeats. Waiting, Remembered, Keys: what is kept of the
-- earlier messages for that. Tracing: the messages of connections in order, by what each side sent.
pub mod Pairing
pub mod Waiting
pub mod Remembered
pub mod Keys
pub mod Tracing
