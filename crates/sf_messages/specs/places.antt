pub mod Accounts
pub mod Behind
