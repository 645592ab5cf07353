pub mod Model
pub mod Play
pub mod Answers
pub mod Text
