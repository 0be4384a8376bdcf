pub mod ApartLemmas
pub mod StmtLemmas
pub mod DeclLemmas
pub mod KeepLemmas
