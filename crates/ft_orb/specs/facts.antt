-- Proofs that clauses cite. Nobody has to read them to know what is promised.
-- that what is kept can be sent, and what waits is made room for, is a fact each, with at most one proof: fields of `Keeper` and
-- `Engine` cite them
pub mod Outcomes
pub mod Readiness
