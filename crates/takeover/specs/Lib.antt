-- What the turns of a takeover answer and leave, and the laws of their branches and loops.
pub mod Flows
pub mod FlowsLaws
pub mod LoopsTurns
pub mod BranchesLaws
pub mod CasesLaws
pub mod GoesTurns
pub mod Turns
