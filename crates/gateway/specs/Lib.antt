pub mod Numbers
pub mod Answers
pub mod Entries
pub mod FrameEntries
pub mod Inner
