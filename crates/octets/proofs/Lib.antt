pub mod Low
pub mod Cuts
pub mod Fields
pub mod RoundTrip
