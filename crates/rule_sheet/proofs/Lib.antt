pub mod RowLemmas
pub mod Tests
pub mod ReadLaws
pub mod RowLaws
pub mod TableLaws
pub mod FaultLaws
