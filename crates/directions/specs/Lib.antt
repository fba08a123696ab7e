pub mod Words
pub mod RecordRuns
