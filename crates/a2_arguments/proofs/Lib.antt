pub mod BestLaws
pub mod NumberLaws
