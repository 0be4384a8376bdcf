-- Which terms are too large to stand for a variable.
use Rattle.std.specs.Prelude.{ℕ, suc, ◌+◌, List, Bool, false, ◌||◌, ◌&&◌, nat_lt, if◌then◌else◌}
use Rattle.wy_sem.specs.wy_term.ReplacingView.{is_name}
use Rattle.wy_sem.specs.wy_term.Term.{Term, Of, Parts, no_parts, part}
use Rattle.wy_vc_spec.specs.Making.{val_name as name_term, equal}
use Rattle.wy_vc_spec.specs.Values.{word_at}
use Rattle.wy_vc_spec.specs.Owed.{assume}

abbrev mutual
  -- the nodes of a term as a tree, each once per place
  pub nodes : Term → ℕ
  nodes (Of symbol ps) = suc (nodes_of ps)

  pub nodes_of : Parts → ℕ
  nodes_of no_parts = 0
  nodes_of (part t ps) = nodes t + nodes_of ps

abbrev mutual
  -- a name stands in the term, a bound one too
  pub has_name : Term → Bool
  has_name (Of symbol ps) = is_name symbol || have_name ps

  pub have_name : Parts → Bool
  have_name no_parts = false
  have_name (part t ps) = has_name t || have_name ps

-- more than 1,024 nodes, or a name and more than 64
abbrev pub is_large : Term → Bool
is_large t = nat_lt 1024 (nodes t) || (has_name t && nat_lt 64 (nodes t))

-- the term that a variable is to stand for, with what is then assumed and the names made
pub record Named : Type 0 where
  pub count : ℕ
  pub hyps : List Term
  pub term : Term

-- a large value takes a new name of the variable's word, which equals it
abbrev pub named : List (List ℕ) → ℕ → Term → List Term → ℕ → Named
named words x v hyps n =
    if is_large v then record { count = suc n; hyps = assume hyps (equal (name_term (word_at words x) n) v); term = name_term (word_at words x) n }
    else record { count = n; hyps = hyps; term = v }
