-- What only the contracts of private functions cite: a reader of the public ones needs none of it.
pub mod Again
pub mod RunSteps
pub mod Taking
pub mod Utf8Steps
