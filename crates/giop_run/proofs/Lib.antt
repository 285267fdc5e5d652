pub mod Lines
pub mod Endings
pub mod Printing
pub mod Scripts
