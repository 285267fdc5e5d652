-- A proof that a field of `Taken` cites. Nobody has to read it to know what is promised.
pub mod Values
