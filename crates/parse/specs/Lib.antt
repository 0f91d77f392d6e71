pub mod Table
pub mod Parse
pub mod Same
pub mod First
