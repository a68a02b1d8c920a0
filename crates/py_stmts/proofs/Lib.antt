pub mod Answer
pub mod LineKinds
pub mod LineLemmas
pub mod ReadLines
pub mod Faultless
