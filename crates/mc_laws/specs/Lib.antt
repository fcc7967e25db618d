pub mod Calls
pub mod Checks
pub mod Noreply
pub mod SameCalls
pub mod WorkedMeta
pub mod Worked
