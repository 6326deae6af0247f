pub mod RaisedLaws
pub mod FollowLaws
