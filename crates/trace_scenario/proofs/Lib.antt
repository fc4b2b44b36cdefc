pub mod Unions
pub mod Shapes
pub mod Scenarios
pub mod GoodAndBad
pub mod Places
mod Lines
mod Runnables
mod Feeds
pub mod StepLines
pub mod DeviceLines
mod LinesExpected
