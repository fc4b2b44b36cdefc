-- Work at an endpoint: what it replies, what it does to the transfers, and what waits for it.
pub mod Replies
pub mod Lines
pub mod Sound
pub mod Moves
pub mod StepMoves
pub mod Errands
pub mod Phases
pub mod Each
