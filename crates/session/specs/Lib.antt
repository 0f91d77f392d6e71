pub mod View
pub mod Slices
pub mod Enact
pub mod Loan
