-- What a settling plans before it changes a book, what was found so far as a state, and how events are kept.
pub mod Plans
pub mod Steps
pub mod Finding
pub mod Numbers
pub mod Queued
pub mod GoalRows
pub mod Records
pub mod Written
pub mod Worked
