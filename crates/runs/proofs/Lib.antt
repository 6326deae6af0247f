pub mod RunSteps
