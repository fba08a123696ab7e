pub mod Notes
pub mod Turns
pub mod TurnPromises
pub mod Asked
