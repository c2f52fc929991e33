-- Demand 3 over the contracts of the calls (`Delivery` for sessions without additions, `Added` with them), and as
-- firmware sees it: `Firmware` states it, `Linked` proves it, `Plainly` has it for sessions without additions,
-- `Contracts` ties it to the functions of the library.
pub mod Given
pub mod GivenLaws
pub mod Added
pub mod Firmware
