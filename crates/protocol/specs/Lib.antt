pub mod Held
pub mod Rules
pub mod Calls
pub mod World
pub mod Cases
pub mod Promise
