pub mod Forms
pub mod Names
pub mod Prints
pub mod Row
pub mod Works
