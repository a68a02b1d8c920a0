pub mod OutOf
pub mod RuleLemmas
pub mod SeenLemmas
pub mod CallLemmas
pub mod WidenLemmas
