pub mod Codes
pub mod Fuses
pub mod InFlight
pub mod Memory
pub mod Private
pub mod Seen
pub mod Starts
pub mod Tallies
