pub mod Cut
pub mod Digits
pub mod Full
pub mod Laid
pub mod Laws
