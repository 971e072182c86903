-- The words of commands, and numbers in them.
pub mod CommandWords
pub mod NumberText
pub mod Numbers
