pub mod ReadingLaws
pub mod SameLaws
pub mod AppleLaws
pub mod LayingLaws
pub mod DigitLaws
pub mod LoadingLaws
