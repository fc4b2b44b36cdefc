pub mod Computed
mod WorkedRows
mod AskedForDues
pub mod CutPackets
mod EndedShares
mod ListedNumbers
mod LivesInLines
mod NothingChanges
mod ReadShares
mod SentShares
mod ToldOutcomes
mod ToldStatuses
mod Instances
mod Calls
pub mod Given
pub mod OwnEntries
mod UnblockedSteps
pub mod Verdicts
pub mod Expansion
pub mod Plans
mod Endpoints
mod Held
mod Owners
pub mod InCallbacks
pub mod Takes
pub mod Homes
