-- The retention log, FT 23.2.7: what the contracts of this crate say. Read it in this order.
--
--   Exceptions  the names of system exceptions, their repository ids, and the numbers of completion
--   Statuses    the statuses of a Reply whose body comes as octets
--   Performed   what performing a request gave
--   Holding     what is kept for a request: its outcome, or the number of a call that is parked
--   Keys        keys of requests, when two are one, how many a client has, and how many clients
--   Kept        kept outcomes: which is found for a key, and which are forgotten
--   View        what a `Key`, an `Outcome`, a `Held` and an entry of the code stand for
--   Logged      what a `Log` stands for, its clock, and how many slots, expirations and forgotten outcomes it has
-- Store         what shows of a `Log`, by its fields
-- Laws          what the tests of keys say, and of repository ids
-- Names, Maps, Places, Placed, Shelf, Queue, Dues, Without, Filled, Tied      words for the fields of a `Log`; no public contract, definition or law uses them
pub mod Exceptions
pub mod Statuses
pub mod Performed
pub mod Holding
pub mod Keys
pub mod Kept
pub mod View
pub mod Logged
pub mod Laws
pub mod Names
pub mod Maps
pub mod Places
pub mod Placed
pub mod Shelf
pub mod Queue
pub mod Dues
pub mod Without
pub mod Filled
pub mod Tied
pub mod Store
