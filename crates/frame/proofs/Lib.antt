pub mod Small
pub mod RoundTrip
pub mod Extended
