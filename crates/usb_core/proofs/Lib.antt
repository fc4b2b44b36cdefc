mod Views
mod Asks
mod StepRuns
mod Serves
mod Wholes
mod Worth
mod Circle
mod Waits
mod Called
mod Callbacks
mod Carried
mod Readings
mod Drains
mod TakesDone
pub mod NextPackets
mod Turns
mod InRows
mod Reached
mod Shown
mod Unfinished
mod EndpointReads
mod Payloads
mod Unsized
mod PlainSteps
mod MadeDevices
pub mod FedCores
