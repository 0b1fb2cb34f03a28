pub mod NamedTexts
pub mod Targets
