pub mod Arms
pub mod Forms
pub mod Amounts
pub mod Cells
pub mod Stores
pub mod Examples
