pub mod Token
pub mod Bell
pub mod Pass
