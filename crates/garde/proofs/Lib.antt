mod Flat
mod Counts
mod FirstFaults
pub mod Walks
mod Refusals
mod SelectLemmas
mod Read
mod InParts
pub mod Visiting
pub mod Calls
pub mod Nesting
pub mod Known
pub mod Author
pub mod Quiet
pub mod Among
mod Rest
pub mod FirstItems
pub mod Agreeing
mod Answering
mod Firsts
mod OverLists
