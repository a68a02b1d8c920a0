pub mod Targets
pub mod Bindings
pub mod Tests
pub mod Numbering
pub mod Table
pub mod Graph
pub mod Laws
