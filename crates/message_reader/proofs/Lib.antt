pub mod Steps
pub mod Numbers
pub mod Arguments
pub mod Values
pub mod Back
pub mod Again
pub mod RoundTrip
