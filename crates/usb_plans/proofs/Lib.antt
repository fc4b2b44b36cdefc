pub mod OnlySteps
pub mod TakenCallbacks
mod NoneRuns
mod Stages
mod StillShown
mod ToldVerdicts
pub mod Reached
mod Apart
mod ApartPlans
pub mod BothRuns
mod OwnPlans
