pub mod CallParts
pub mod Tables
pub mod Exports
pub mod Tests
pub mod FineLaws
pub mod ProgressLaws
pub mod AcceptedLaws
pub mod Names
