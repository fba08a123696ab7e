pub mod ByteLaws
pub mod Room
pub mod OverBytes
pub mod DecodingLaws
