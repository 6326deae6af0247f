pub mod SourceLaws
pub mod RaisingLaws
