pub mod Faults
pub mod Notes
pub mod Noting
