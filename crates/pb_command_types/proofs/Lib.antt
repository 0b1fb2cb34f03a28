pub mod NamedTexts
