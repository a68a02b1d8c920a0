pub mod KeptLemmas
pub mod ListLemmas
pub mod Listed
pub mod NewLemmas
pub mod RowWord
pub mod TableLaws
