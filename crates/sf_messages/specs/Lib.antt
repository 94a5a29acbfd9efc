pub mod shown
pub mod places
-- what is said
pub mod Columns
pub mod Facing
pub mod Faults
pub mod Joined
pub mod LineTexts
pub mod Mistakes
pub mod Names
pub mod Newlines
pub mod Notes
pub mod Sentences
pub mod Strict
pub mod Texts
