-- Laws of decisions about a file, of requests, of questions in columns and of the words of an answer.
pub mod Deciding
pub mod Roots
pub mod Requests
pub mod Words
pub mod Columns
