-- What more holds of an endpoint of a world that can be reached is kept by each kind of work.
pub mod Lines
pub mod Works
pub mod Serves
