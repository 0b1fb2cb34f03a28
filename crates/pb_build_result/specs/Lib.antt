pub mod Faults
pub mod Failures
pub mod Refusals
pub mod ResultLine
pub mod Said
pub mod Sentence
