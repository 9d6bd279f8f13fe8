pub mod Tables
pub mod Refusals
pub mod Sites
pub mod Tests
pub mod Verdict
pub mod Models
pub mod Lawful
