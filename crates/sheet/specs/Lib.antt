pub mod Texts
pub mod Contents
pub mod Forests
pub mod Schemas
