-- A proof that `impl Servant` cites. Nobody has to read it to know what is promised.
pub mod Counter
pub mod Forwarding
