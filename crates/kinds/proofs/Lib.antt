pub mod LeanLaws
pub mod EdgeLaws
pub mod SearchLaws
pub mod PartLaws
pub mod OperationLaws
