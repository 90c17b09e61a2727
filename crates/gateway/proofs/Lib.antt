pub mod AnswerLaws
pub mod EntryLaws
pub mod NumberLaws
pub mod Ranges
pub mod WalkSteps
