pub mod PlayWords
