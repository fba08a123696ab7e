pub mod TreeLaws
pub mod WalkLaws
pub mod NotingLaws
pub mod RowLaws
pub mod NotesLaws
pub mod PartLaws
