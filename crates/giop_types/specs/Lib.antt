-- What the octets of a body are by types. Tables: what a table tells of one.
pub mod Reading
pub mod Tables
