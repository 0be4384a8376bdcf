-- What parts and conjuncts ask, as clauses: a part has a value where one of its conjuncts has, and a conjunct where for one of its options each list has a part that has. Parts come first, and conjuncts behind them.
use Rattle.std.specs.Prelude.{ℕ, suc, ◌+◌, List, [], ◌∷◌, ◌++◌}
use Rattle.wy_graph.specs.declared.closure.clauses.Clause.{Clause}

-- the numbers, each greater by the base
abbrev pub shifted : ℕ → List ℕ → List ℕ
shifted base [] = []
shifted base (n ∷ ns) = (base + n) ∷ shifted base ns

abbrev pub clause : ℕ → List (List ℕ) → Clause
clause head body = record { head = head; body = body }

-- a clause for each part, the first of which has the second number
abbrev pub part_clauses : ℕ → ℕ → List (List ℕ) → List Clause
part_clauses base i [] = []
part_clauses base i (h ∷ hs) = clause i (shifted base h ∷ []) ∷ part_clauses base (suc i) hs

-- a clause for each option
abbrev pub option_clauses : ℕ → List (List (List ℕ)) → List Clause
option_clauses head [] = []
option_clauses head (o ∷ os) = clause head o ∷ option_clauses head os

-- so for each conjunct, the first of which has the second number
abbrev pub ask_clauses : ℕ → ℕ → List (List (List (List ℕ))) → List Clause
ask_clauses base j [] = []
ask_clauses base j (a ∷ asks) = option_clauses (base + j) a ++ ask_clauses base (suc j) asks
