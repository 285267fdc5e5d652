pub mod Firm
pub mod Lists
pub mod Spoken
pub mod Written
pub mod Served
pub mod Small
pub mod Ways
pub mod Members
pub mod Moves
pub mod Stepped
pub mod Worlds
pub mod Short
pub mod Faithful
pub mod Calling
pub mod Noted
pub mod Serving
pub mod Held
pub mod Ready
pub mod Given
pub mod Moving
mod Samples
mod Rows
