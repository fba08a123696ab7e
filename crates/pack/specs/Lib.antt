pub mod Packed
pub mod Readers
