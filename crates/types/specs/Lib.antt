pub mod Equality
pub mod EqualityLaws
pub mod Types
