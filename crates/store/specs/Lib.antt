pub mod Refusals
pub mod Meaning
pub mod State
pub mod Images
