pub mod BlamingLaws
