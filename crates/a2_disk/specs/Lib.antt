pub mod Sectors
pub mod Contents
pub mod Catalog
pub mod Files
