mod Made
mod Cuts
mod Found
