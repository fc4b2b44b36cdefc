-- The words of the core that contracts of other crates cite: they take them from here.

-- the definitions' setup of these devices
pub use Rattle.refine_core.specs.Made.{setup_of}
-- what a core keeps, and the world that it shows
pub use Rattle.refine_core.specs.State.{State, ShowsWorld, result_of}
-- a call is a turn of the world; one that ends a callback, or is refused
pub use Rattle.refine_core.specs.Steps.{TurnsInRow, TurnsWorld}
pub use Rattle.refine_core.specs.Calls.{Stays, called_entry}
-- the steps that take memory
pub use Rattle.usb_core.specs.Calls.{takes_memory}
-- what callers keep with their transfers: it stays, one more joins, one goes out
pub use Rattle.refine_core.specs.Payloads.{Kept, Carries, StillCarries, CarriesMore}
pub use Rattle.usb_core.specs.Results.{CarriesOut}
-- what is to be done next
pub use Rattle.usb_core.specs.Pending.{IsPending, does_something, serves}
-- packets in a row, told by a count
pub use Rattle.usb_core.specs.StepBursts.{Differs, burst_entries, whole_entries}
-- a result goes out to its callback, which ends
pub use Rattle.usb_core.specs.Bursts.{TakesAndStops}
-- what handles haven't finished, part by part
pub use Rattle.usb_core.specs.Inventory.{waiting_result, number_in, halted}
-- a transfer in a line
pub use Rattle.usb_core.specs.Standing.{LineTransfer, in_line}
-- a device is fed: the world of the longer scripts is shown where it stands; the packet that is next, or that there is none
pub use Rattle.refine_core.specs.Feeds.{FeedsWorld, may_be_fed_at}
pub use Rattle.refine_core.specs.Offers.{HasNone, IsNext}
