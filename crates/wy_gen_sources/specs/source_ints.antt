pub mod SourceFields
