pub mod Taking
pub mod Functions
pub mod CheckEnds
