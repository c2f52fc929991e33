-- What asking answers, and the laws of the table of entries, of the loop that fills it and of the index worked out
-- afresh.
pub mod Asked
pub mod AskedLaws
pub mod ReadLaws
pub mod Table
pub mod TableLaws
pub mod Seen
pub mod SeenLaws
pub mod FoundLaws
pub mod WrittenLaws
pub mod BuiltTurns
pub mod Once
pub mod OnceLaws
pub mod Renewed
pub mod RenewedLaws
pub mod InPlace
pub mod InPlaceLaws
pub mod WatchingLaws
pub mod Begun
pub mod BegunLaws
pub mod Slots
pub mod SlotsLaws
pub mod Walk
pub mod WalkLaws
pub mod Compared
pub mod ComparedLaws
