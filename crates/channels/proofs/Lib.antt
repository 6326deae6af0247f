pub mod RestLaws
pub mod ItemLaws
pub mod HighLaws
pub mod SpotLaws
pub mod RowLaws
pub mod MetLaws
pub mod FilledLaws
pub mod LaidLaws
