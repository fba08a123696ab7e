pub mod KindsPromises
pub mod Edges
pub mod Search
