pub mod Rules
pub mod Grammar
pub mod Laws
mod Scan
mod Examples
