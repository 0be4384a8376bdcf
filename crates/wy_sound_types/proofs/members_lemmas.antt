pub mod ApartLemmas
pub mod WrittenLemmas
pub mod NamingLemmas
pub mod OperationLemmas
pub mod DenotationLemmas
pub mod MemberLemmas
pub mod ToldLemmas
