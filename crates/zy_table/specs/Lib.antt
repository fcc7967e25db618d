pub mod Name
pub mod Put
pub mod Sum
pub mod Member
