-- Coherence: an endpoint fits what waits for it in the two lists, and each kind of work keeps it so.
pub mod Posts
pub mod Doings
pub mod Commands
pub mod Serves
pub mod Delivers
pub mod FirstEnd
