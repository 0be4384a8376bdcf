-- labels that a certificate shows to be right
pub mod CycleLemmas
-- labels that count the nodes which lead to each
pub mod AncestorLemmas
