-- what a record stands for
pub mod SizeLemmas
