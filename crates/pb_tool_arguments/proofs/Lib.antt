mod Adding
mod Refused
mod Simple
