mod RowSteps
pub mod Utf8
mod KeySteps
pub mod SumSteps
mod WalkSteps
mod VerdictSteps
mod Decided
pub mod Grown
pub mod Judged
pub mod Holding
