pub mod OneProgram
pub mod Headline
pub mod BoundHeadline
pub mod SoloIsRun
pub mod Answers
pub mod FromSource
pub mod ModuleHeadline
