pub mod FilesShown
