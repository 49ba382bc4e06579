pub mod SeekingLaws
