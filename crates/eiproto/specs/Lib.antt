pub mod Told
pub mod Variant
pub mod Enum
pub mod Interface
pub mod Bits
pub mod Capability
