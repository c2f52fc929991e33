-- What is shown, on one page: theorems restated, and nothing else.
pub mod Claims
