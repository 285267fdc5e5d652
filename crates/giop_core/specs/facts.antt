-- Proofs that stand here since fields of the code cite them. Nobody has to read them.
pub mod Writable
