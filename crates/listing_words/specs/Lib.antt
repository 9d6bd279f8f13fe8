pub mod Tokens
pub mod Names
pub mod Keywords
