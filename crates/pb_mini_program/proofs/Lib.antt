mod Filing
mod OutDirs
mod Stopping
