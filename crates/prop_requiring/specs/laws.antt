pub mod RequiringLaws
