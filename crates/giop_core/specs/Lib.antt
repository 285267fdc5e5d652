-- What a caller of this crate believes, in the order in which it is best read. "GIOP" is clause 9.4 of CORBA 3.3 Part 2,
-- "FT" is Fault Tolerant CORBA; "own rule" marks what this project decides where they are silent.
-- Headers: the header. Statuses: the numbers of statuses, and how many each version has. Rows: the fields of each message.
-- Content: what they say. Messages: reading them from left to right, or the first fault, and where a body stands. Begun: the
-- request id of a message of which not all octets are there. Places: where the parts of a message lie, and what they say there.
-- Grammar: messages as relations, which octets are which message, and which have which fault. Items, Keys, Ft, Bodies: the parts
-- that are lent: service contexts and profiles, object keys, FT_REQUEST, the values of a body. Lent: what the code's types say. Said: the
-- kind of a message that was read.
-- Written: how messages are written. Texts: names. Laws: what holds of these definitions. Private is for private functions alone;
-- facts has proofs, which fields cite.
pub mod Headers
pub mod Statuses
pub mod Rows
pub mod Content
pub mod Messages
pub mod Places
pub mod Begun
pub mod Grammar
pub mod Items
pub mod Keys
pub mod Ft
pub mod Bodies
pub mod Lent
pub mod Said
pub mod Written
pub mod Texts
pub mod Laws
pub mod Private
pub mod facts
