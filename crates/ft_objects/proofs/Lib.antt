pub mod BasicValues
pub mod Named
pub mod Filled
pub mod Fronts
pub mod Emptiness
