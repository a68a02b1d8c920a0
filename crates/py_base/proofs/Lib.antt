mod DiagLaws
mod DistinctNames
mod LinkLemmas
mod NameLemmas
pub mod CountLaws
pub mod LineLaws
pub mod PlaceLaws
pub mod ScanLaws
pub mod StartLaws
