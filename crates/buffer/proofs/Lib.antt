pub mod Wrote
pub mod Answers
pub mod Filled
pub mod Unique
