-- What a corbaloc URL is: which texts spell a location (Grammar), why a text spells none (Faults), and the reference
-- that a location stands for (Reference).
pub mod Faults
pub mod Grammar
pub mod Reference
