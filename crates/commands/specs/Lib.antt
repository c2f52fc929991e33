-- Vendor commands on the lent block: what the functions say, with their laws.
pub mod Handles
pub mod HandlesLaws
pub mod Stored
pub mod StoredLaws
pub mod Kept
pub mod KeptLaws
pub mod Cancelled
pub mod CancelledLaws
pub mod Replies
pub mod RepliesLaws
pub mod Ran
pub mod RanLaws
pub mod OwedLaws
pub mod CommandLaws
