-- conditions as a search takes them
mod SearchLemmas
-- what recurs in a program that was named
mod NamedLemmas
-- functions and methods by their numbers
mod RoutineLemmas
