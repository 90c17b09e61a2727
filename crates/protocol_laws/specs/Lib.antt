pub mod Canonical
pub mod Fine
pub mod MessageLines
pub mod Returns
pub mod Shown
