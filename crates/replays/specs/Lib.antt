-- Replay of text into one lent output: the definition that the call cites, and that pieces make the whole.
pub mod Into
