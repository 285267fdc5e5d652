-- What references and profiles are. Read in this order: the types that the standard's IDL gives (Grammar); the values
-- that references and profiles of the code stand for (View); where reading may run out of memory (Memory); which octets
-- are an IIOP profile, and how one is read (Profiles); the object keys in profiles (Keys); how a value is written
-- (Writing); the text of a reference (Text); what errors say and what calls give (Calls); the laws over all of these
-- (Laws). Private has words that no public contract cites. What a value of a type is, and which octets spell it, is in
-- the specs of cdr_core.
pub mod Grammar
pub mod View
pub mod Memory
pub mod Profiles
pub mod Keys
pub mod Writing
pub mod Text
pub mod Calls
pub mod Laws
pub mod Private
