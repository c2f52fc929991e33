pub mod BoundsLaws
pub mod JournalLaws
pub mod Cut
pub mod CutLaws
pub mod JoinsLaws
pub mod Calls
pub mod CallsLaws
