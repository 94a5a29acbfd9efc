pub mod Asking
pub mod Carrying
pub mod Filing
pub mod OneSaid
pub mod Placing
