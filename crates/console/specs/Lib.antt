pub mod Hex
pub mod Commands
pub mod Deliveries
pub mod Text
pub mod Laws
