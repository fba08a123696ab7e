pub mod Listed
pub mod EachFollows
pub mod HeadLaws
pub mod FormLaws
pub mod PackLaws
pub mod StepLaws
pub mod Refusals
