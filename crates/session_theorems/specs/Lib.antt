pub mod Trail
pub mod Extends
pub mod Made
pub mod Served
pub mod Framed
