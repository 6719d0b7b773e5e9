pub mod Answering
pub mod Causes
pub mod Comparing
pub mod Promises
pub mod Ran
pub mod Replies
pub mod Statuses
