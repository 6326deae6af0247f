pub mod Tests
pub mod BitLaws
