-- what lists of nodes stand for
pub mod SeenLemmas
