pub mod Tables
pub mod Sizes
pub mod Outcomes
