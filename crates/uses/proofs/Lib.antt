pub mod Fed
pub mod FirstTicket
pub mod Heard
pub mod OneTicket
pub mod Played
pub mod Served
pub mod Told
