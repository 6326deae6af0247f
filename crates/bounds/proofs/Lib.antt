pub mod FollowedSteps
