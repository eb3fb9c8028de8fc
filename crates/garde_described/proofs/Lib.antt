mod Lemmas
mod Whole
mod Walks
mod Ends
