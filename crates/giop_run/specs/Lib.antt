-- What the program promises, in the order in which to read it.

-- `giop show` and `giop check`: the lines of a stream's messages, and how it ends
pub mod StreamLines
pub mod StreamEnds
-- `giop ior`
pub mod ReferenceLines
-- `giop play` and `giop serve`: their numbers, and what a server keeps to by them; the script of a play, and what its events write
pub mod Settings
pub mod Services
pub mod Script
pub mod Plays
-- vocabulary of private functions, which no promise of the crate needs
pub mod Private
