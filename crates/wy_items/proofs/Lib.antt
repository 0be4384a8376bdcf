pub mod few_lemmas
