-- Proofs that `impl Servant` cites. Nobody has to read them to know what is promised.
pub mod Tickets
pub mod Saving
pub mod Ledger
