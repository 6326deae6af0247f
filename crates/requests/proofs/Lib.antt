pub mod FrontLaws
pub mod FirstLaws
pub mod RankLaws
