pub mod Permutation
pub mod Tables
