-- Which names are written out, and from which a type with clauses is reached.
use Rattle.std.specs.Prelude.{ℕ, zero, suc, ◌+◌, List, [], ◌∷◌, length, Bool, false, not, ◌&&◌, ◌||◌, ◌==◌, nat_le, if◌then◌else◌}
use Rattle.wy_graph.specs.declared.reach.entries.Entry.{Entry}

-- what stands for a number that no type has: the type without values, of one node
abbrev pub no_entry : Entry
no_entry = record { names = []; own = 1; has_clauses = false }

-- what is known of the type with this number
abbrev pub entry_at : List Entry → ℕ → Entry
entry_at [] n = no_entry
entry_at (e ∷ es) zero = e
entry_at (e ∷ es) (suc n) = entry_at es n

abbrev pub names_at : List Entry → ℕ → List ℕ
names_at es n = (entry_at es n).names

-- one of the numbers has this property
abbrev pub some : (ℕ → Bool) → List ℕ → Bool
some p [] = false
some p (n ∷ ns) = p n || some p ns

-- the sum over the numbers
abbrev pub sum_of : (ℕ → ℕ) → List ℕ → ℕ
sum_of f [] = 0
sum_of f (n ∷ ns) = f n + sum_of f ns

-- from this name the other is reached in at most so many steps, and at least one
abbrev pub leads_to : List Entry → ℕ → ℕ → ℕ → Bool
leads_to es to zero n = false
leads_to es to (suc j) n = some (λ m. (m == to) || leads_to es to j m) (names_at es n)

-- the name leads back to itself
abbrev pub is_recursive : List Entry → ℕ → Bool
is_recursive es n = leads_to es n (length es) n

-- the nodes of a name's definition and clauses, where each name in them counts as this many
abbrev pub nodes_of : (ℕ → ℕ) → Entry → ℕ
nodes_of name e = e.own + sum_of name e.names

-- the nodes of a name that stands in another one: where it is recursive it is one node, else it counts as what it is written out
abbrev pub written_nodes : List Entry → ℕ → ℕ → ℕ
written_nodes es zero n = 1
written_nodes es (suc j) n = if is_recursive es n then 1 else nodes_of (written_nodes es j) (entry_at es n)

-- it is not recursive, and with the names in it written out it has at most 64 nodes
abbrev pub is_written : List Entry → ℕ → Bool
is_written es n = not (is_recursive es n) && nat_le (written_nodes es (suc (length es)) n) 64

-- clauses are reached from this name through fewer than so many names
abbrev pub reaches_clauses : List Entry → ℕ → ℕ → Bool
reaches_clauses es zero n = false
reaches_clauses es (suc j) n = (entry_at es n).has_clauses || some (reaches_clauses es j) (names_at es n)
