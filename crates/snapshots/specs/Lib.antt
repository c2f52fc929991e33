-- Images with editions: saved (`Saved`), read back (`Stored`, `Filled`, `Accepted`).
pub mod Saved
pub mod SavedLaws
pub mod Stored
pub mod StoredLaws
pub mod FilledLaws
pub mod Accepted
pub mod AcceptedLaws
