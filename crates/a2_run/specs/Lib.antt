pub mod Meaning
pub mod Answers
pub mod Texts
pub mod Status
pub mod Started
pub mod Laws
pub mod Limits
pub mod AssembledTexts
