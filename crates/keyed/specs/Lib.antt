-- Document 02, T-03 and T-13, as rows that the checker computes: monitors of a key, watched by the whole model and by
-- the engine over blocks; a failover between a packet and its duplicate.
pub mod RowsLaws
pub mod RestoredLaws
