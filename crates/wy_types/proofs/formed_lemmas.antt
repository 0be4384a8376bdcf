-- from an order of the one form to one of the other
pub mod OrderLemmas
