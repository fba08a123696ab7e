pub mod Writes
pub mod IntoBytes
pub mod Bits
