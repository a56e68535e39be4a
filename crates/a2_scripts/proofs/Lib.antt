mod Reading
mod Replying
mod Scripting
mod DebugScripting
mod OneDebugging
