-- What only the contracts of private functions cite: a reader of the public ones needs none of it.
pub mod Knowing
pub mod Loading
pub mod Rows
