-- The octets of digits, and vocabulary of private functions, which no promise of the crate needs.
pub mod Digits
pub mod Private
