-- What has to be believed of this crate.
-- Following: whose octets a line of the input has.
pub mod Following
-- Joining: which messages are noted as cut otherwise than aligned.
pub mod Joining
-- words of private functions: nothing public rests on them
pub mod Private
