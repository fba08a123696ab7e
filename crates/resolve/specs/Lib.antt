pub mod Pieces
pub mod Writing
pub mod Finish
