-- A proof that a field of `FtClient` cites. Nobody has to read it to know what is promised.
pub mod Texts
