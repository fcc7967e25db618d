pub mod Worked
pub mod WorkedItems
pub mod KeyReplies
pub mod Uniques
pub mod Answered
pub mod Laws
