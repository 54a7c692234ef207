mod LoneSets
mod LoneUnique
mod LoneSims
mod LoneFair
mod LoneHeld
mod LoneValues
mod LoneSteps
mod LoneLoops
mod LoneDoes
mod LoneAsked
mod LoneCalls
mod LoneWhole
mod MemberSets
mod MemberValues
mod MemberRuns
mod MemberWhole
pub mod Lists
pub mod Dealt
pub mod Fine
pub mod Depending
pub mod Apart
pub mod Needed
pub mod Sampled
mod Twins
mod TwinValues
mod TwinRuns
mod Decided
mod Kept
mod Stayed
mod Taking
mod Crossed
mod Lowest
mod Scattered
mod Everyone
mod Locals
mod Worked
mod Typed
