pub mod Request
pub mod Row
pub mod Kind
