-- The words of the crate's contracts. Totals says what the code holds on its way through a day.
pub mod Days
pub mod Values
pub mod Answers
pub mod Totals
