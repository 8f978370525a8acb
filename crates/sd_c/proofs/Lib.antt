pub mod Cited
pub mod Reasons
pub mod Loop
mod RestrictingLoop
pub mod Front
pub mod SealSteps
mod Told
mod Said
mod Changes
mod Unasked
mod Reviewing
mod Words
mod EntriesLoop
mod Joined
mod Opened
pub mod Stopped
