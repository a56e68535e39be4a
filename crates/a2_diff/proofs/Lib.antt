pub mod RowLaws
pub mod ComparisonLaws
