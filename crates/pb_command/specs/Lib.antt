pub mod Command
pub mod Judge
pub mod Laws
