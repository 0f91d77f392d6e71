pub mod Deliveries
pub mod Trails
pub mod Extending
pub mod Others
pub mod Making
pub mod Serving
pub mod Framed
