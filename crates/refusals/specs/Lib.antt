-- The numbers of refusals (document 01, Refusal numbers).
pub mod Numbers
