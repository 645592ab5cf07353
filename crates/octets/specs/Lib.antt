pub mod Low
pub mod Layout
pub mod Cutting
pub mod Buffer
pub mod Laws
