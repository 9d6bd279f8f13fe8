mod SameLists
mod MappedRows
mod LineSteps
mod NumberSteps
mod NumberTruth
