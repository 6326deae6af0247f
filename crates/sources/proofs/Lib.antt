pub mod SourceReads
pub mod SourceRanges
