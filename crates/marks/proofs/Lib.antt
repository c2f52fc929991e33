pub mod AdmittedLaws
pub mod AskedLaws
pub mod FieldsLaws
pub mod KeyedLaws
pub mod MarksLaws
pub mod MonitorsLaws
pub mod OptionsLaws
