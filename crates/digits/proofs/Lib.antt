pub mod Decoding
pub mod Blocks
pub mod Runs
pub mod DigitValues
pub mod Written
