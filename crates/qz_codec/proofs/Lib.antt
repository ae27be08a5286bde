pub mod RowFormats
pub mod RecordFormats
pub mod CommandFormats
pub mod EntryFormats
pub mod StateFormats
pub mod StateRecords
pub mod RowRecordFormats
pub mod ValidEntries
