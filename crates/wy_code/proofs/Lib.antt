pub mod pieces_lemmas
