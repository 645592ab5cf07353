pub mod Cuts
pub mod Digits
pub mod Forms
pub mod Numbers
pub mod Reading
pub mod Readings
pub mod Spaced
