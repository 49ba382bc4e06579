pub mod Answers
pub mod Lines
pub mod Transcripts
pub mod Machines
pub mod Calls
pub mod Dialogues
pub mod Streams
pub mod inner
