mod Adding
mod LooseKeys
mod RunWords
mod Reported
