pub mod ExprVisits
pub mod GermanText
