pub mod Loops
pub mod InputRead
pub mod BlocksStand
