-- A tick: what it does to the pairs held and what it writes (document 01, Watching, by history).
pub mod Row
pub mod EmptiedLaws
pub mod Written
pub mod WrittenLaws
pub mod Table
pub mod TableLaws
pub mod Calm
pub mod CalmLaws
pub mod Pairs
pub mod PairsLaws
pub mod WholeLaws
pub mod BlockLaws
