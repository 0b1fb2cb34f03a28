pub mod Outcome
pub mod Steps
pub mod Invariants
pub mod UnitSteps
pub mod Running
