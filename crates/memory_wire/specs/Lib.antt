-- what a wire and a clock in memory say of what they did
pub mod Tapes
pub mod Moments
