pub mod ListForLaws
pub mod StampLaws
