pub mod NextSteps
