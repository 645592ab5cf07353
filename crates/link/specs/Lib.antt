pub mod Keys
pub mod Answers
pub mod Hands
pub mod Gates
pub mod World
pub mod Theorems
