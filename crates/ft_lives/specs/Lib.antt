-- What has to be believed of this crate, in reading order.
-- Stores: what outlives an engine. Lives: engines over one store, step by step. Owned: what their owners keep to. Laws: of each key at most
-- one commit. Replies: what is replied, and what the store held then. Together: both in one. Serial: the state beside the rows.
pub mod Stores
pub mod Lives
pub mod Owned
pub mod Laws
pub mod Replies
pub mod Together
pub mod Serial
pub mod Steps
pub mod Keeping
pub mod Memory
-- words of private functions: nothing public rests on them
pub mod Private
