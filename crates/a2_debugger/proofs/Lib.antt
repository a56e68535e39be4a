mod Calm
mod Fetching
mod Wording
