pub mod Line
pub mod Endpoint
pub mod Reports
pub mod EndpointLaws
pub mod Holds
pub mod Made
pub mod Laws
pub mod Feeds
