pub mod ContentsLaws
pub mod CatalogLaws
