-- Conditions as trees, what is assumed, and goals that are owed one after the other.
use Rattle.std.specs.Prelude.{ℕ, List, [], ◌∷◌, ◌++◌}
use Rattle.wy_sem.specs.wy_term.declared.cond.CondKind.{CondKind}
use Rattle.wy_sem.specs.wy_term.Term.{Term, Of, Parts, no_parts, part, all_of}

-- a goal that is owed at a place, under hypotheses
pub record Owed : Type 0 where
  pub kind : CondKind
  pub at : ℕ
  pub hyps : List Term
  pub goal : Term

abbrev mutual
  -- the hypotheses that a formula is: the members of an `and` stand by themselves
  pub members : Term → List Term
  members (Of all_of fs) = members_of fs
  members f = f ∷ []

  pub members_of : Parts → List Term
  members_of no_parts = []
  members_of (part f fs) = members f ++ members_of fs

-- one more formula is assumed
abbrev pub assume : List Term → Term → List Term
assume hyps f = hyps ++ members f

abbrev pub assume_all : List Term → List Term → List Term
assume_all hyps [] = hyps
assume_all hyps (f ∷ fs) = assume_all (assume hyps f) fs

-- goals, each with those before it assumed
abbrev pub owe : CondKind → ℕ → List Term → List Term → List Owed
owe kind at hyps [] = []
owe kind at hyps (g ∷ gs) = record { kind = kind; at = at; hyps = hyps; goal = g } ∷ owe kind at (assume hyps g) gs
