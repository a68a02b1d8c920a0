pub mod Whole
pub mod CheckText
pub mod Checked
pub mod Sample
pub mod Sampled
pub mod Parts
