-- Machines: what each step does, and what holds of every machine.
pub mod Deeds
pub mod Idle
pub mod Done
pub mod Acts
pub mod Well
