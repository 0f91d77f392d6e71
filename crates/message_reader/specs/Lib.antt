pub mod Read
pub mod Back
pub mod RoundTrip
