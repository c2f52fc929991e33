-- Theorems on definitions of the crates below that the code once rested on.
pub mod LatestTurns
pub mod CalmLaws
pub mod BlockLaws
pub mod FilledLaws
pub mod WritesLaws
pub mod PartsLaws
pub mod TotalsLaws
pub mod SheetsLaws
pub mod CountsLaws
pub mod EngineLaws
pub mod MonthLaws
pub mod BournejadeLaws
pub mod VisitLaws
pub mod StaysLaws
pub mod BarsLaws
pub mod WordsLaws
