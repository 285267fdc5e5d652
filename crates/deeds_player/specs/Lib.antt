-- What the player of deeds offers.
pub mod Offered
pub mod facts
