pub mod Seen
pub mod Booked
pub mod Timers
pub mod Rows
pub mod Entered
