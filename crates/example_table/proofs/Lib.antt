pub mod Failing
pub mod Doing
pub mod Finding
pub mod Behind
pub mod Paging
pub mod Order
pub mod Holding
pub mod Rejecting
