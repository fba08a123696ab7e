pub mod DirectoryWord
pub mod Record
pub mod Declaration
pub mod Mark
pub mod Settle
pub mod PackDirectory
pub mod Walks
