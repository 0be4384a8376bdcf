-- On which atom a node splits.
use Rattle.std.specs.Prelude.{List, [], ◌∷◌, ◌++◌, Bool, true, false, ◌||◌, if◌then◌else◌, Option, Some, None}
use Rattle.wy_check_spec.specs.wy_term.Term.{Symbol, Term, Of, Parts, no_parts, part, denied, all_of, any_of}
use Rattle.wy_check_spec.specs.declared.judge.verdict.Verdict.{Verdict}
use Rattle.wy_check_spec.specs.declared.judge.verdict.Verdict.TheVariants.{Yes, No, Open}
use Rattle.wy_check_spec.specs.judge.Node.{Node}
use Rattle.wy_check_spec.specs.judge.Judgement.{of_atom, judged}
use Rattle.wy_check_spec.specs.valid.Literals.{any_no}

abbrev pub joined_atoms : List (List Term) → List Term
joined_atoms [] = []
joined_atoms (first ∷ rest) = first ++ joined_atoms rest

-- those of the members of a connective, or else the formula itself
abbrev pub atoms_by : Symbol → Term → List (List Term) → List Term
atoms_by denied f parts = joined_atoms parts
atoms_by all_of f parts = joined_atoms parts
atoms_by any_of f parts = joined_atoms parts
atoms_by symbol f parts = f ∷ []

abbrev mutual
  -- the atoms of a formula, in order
  pub atoms_in : Term → List Term
  atoms_in (Of symbol ps) = atoms_by symbol (Of symbol ps) (atoms_in_parts ps)

  pub atoms_in_parts : Parts → List (List Term)
  atoms_in_parts no_parts = []
  atoms_in_parts (part f fs) = atoms_in f ∷ atoms_in_parts fs

abbrev pub is_open : Verdict → Bool
is_open Yes = false
is_open No = false
is_open Open = true

-- with one literal more, a pending formula is judged no
abbrev pub decides : Node → Term → Bool → Bool
decides node a holds = any_no (node.literals ++ record { atom = a; holds = holds } ∷ []) node.pending

-- an undecided atom, one of whose values makes a pending formula judged no
abbrev pub is_forced : Node → Term → Bool
is_forced node a = if is_open (of_atom node.literals a) then decides node a true || decides node a false else false

abbrev pub first_forced : Node → List Term → Option Term
first_forced node [] = None
first_forced node (a ∷ rest) = if is_forced node a then Some a else first_forced node rest

abbrev pub first_undecided : Node → List Term → Option Term
first_undecided node [] = None
first_undecided node (a ∷ rest) = if is_open (of_atom node.literals a) then Some a else first_undecided node rest

-- the undecided atoms of the first formula that is judged open
abbrev pub first_open : Node → List Term → Option Term
first_open node [] = None
first_open node (f ∷ fs) = if is_open (judged node.literals f) then first_undecided node (atoms_in f) else first_open node fs

abbrev pub atoms_of : List Term → List Term
atoms_of [] = []
atoms_of (f ∷ fs) = atoms_in f ++ atoms_of fs

abbrev pub or_else : Option Term → Option Term → Option Term
or_else None o = o
or_else (Some a) o = Some a

-- the atom on which the node splits, if there is one
abbrev pub next_atom : Node → Option Term
next_atom node = or_else (first_forced node (atoms_of node.pending)) (first_open node node.pending)
