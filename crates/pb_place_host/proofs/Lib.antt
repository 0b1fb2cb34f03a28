mod Finding
mod Variables
mod Silence
