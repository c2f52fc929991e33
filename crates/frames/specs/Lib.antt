-- Laws of the tests of payloads.
pub mod FormsLaws
