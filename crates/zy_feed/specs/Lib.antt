pub mod Routing
pub mod Reads
pub mod Feeding
pub mod Leads
