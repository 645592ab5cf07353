pub mod Commands
pub mod Faults
pub mod Laws
pub mod Line
pub mod Reading
pub mod Text
