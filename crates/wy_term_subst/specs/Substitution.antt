-- Which term comes of a term where another is put for a name. Each quantifier that binds a name of the other term binds a new name, in the order in which they are written, outer ones first.
use Rattle.std.specs.Prelude.{ℕ, ◌+◌, List, [], ◌∷◌, ◌++◌, Option, Some, None, nat_lt, if◌then◌else◌}
use Rattle.wy_term.specs.Term.{Symbol, Term, Of, Parts, no_parts, part, leaf, int_name, val_name, every, exists}
use Rattle.wy_term.specs.Folding.{found, found_or, hidden, folded}
use Rattle.wy_term_subst.specs.Names.{stands_in, numbers_in, new_number}

-- ---- quantifiers

-- how a term is gone into: the number of the name that is bound then, what names stand for in its body, and the numbers that are taken then
pub record Entered : Type 0 where
  pub number : ℕ
  pub inner : List (Term × Term)
  pub taken : List ℕ

abbrev pub with_new_name : List ℕ → ℕ → ℕ → List (Term × Term) → List ℕ → Entered
with_new_name word n m env taken = record {
  number = m;
  inner = (leaf (int_name word n), leaf (int_name word m)) ∷ env;
  taken = m ∷ taken;
}

-- a name that stands in the term that is put in is bound as a new one; another stands for itself in the body
abbrev pub bound_by : Term → List ℕ → ℕ → List (Term × Term) → List ℕ → Entered
bound_by t word n env taken =
    if stands_in word n t
    then with_new_name word n (new_number taken) env taken
    else record { number = n; inner = hidden (found env (leaf (int_name word n))) (leaf (int_name word n)) env; taken = taken }

-- the word and the number of the Int name that a symbol binds
abbrev pub binder_of : Symbol → Option (List ℕ × ℕ)
binder_of (every word n) = Some (word, n)
binder_of (exists word n) = Some (word, n)
binder_of symbol = None

abbrev pub entered_by : Term → Option (List ℕ × ℕ) → List (Term × Term) → List ℕ → Entered
entered_by t None env taken = record { number = 0; inner = env; taken = taken }
entered_by t (Some name) env taken = bound_by t name.0 name.1 env taken

abbrev pub entered : Term → Symbol → List (Term × Term) → List ℕ → Entered
entered t symbol env taken = entered_by t (binder_of symbol) env taken

-- the first two parts of a quantifier are its bounds, in which its name isn't bound
abbrev pub env_at : ℕ → List (Term × Term) → List (Term × Term) → List (Term × Term)
env_at k env inner = if nat_lt k 2 then env else inner

-- ---- the term

-- a quantifier with this number in its name; another symbol as it is
abbrev pub renumbered : Symbol → ℕ → Symbol
renumbered (every word n) m = every word m
renumbered (exists word n) m = exists word m
renumbered symbol m = symbol

-- a name, or what it stands for; another term is folded as it is made of its parts
abbrev pub finished : Symbol → List (Term × Term) → ℕ → Parts → Term
finished (int_name word n) env m ps = found_or (found env (leaf (int_name word n))) (leaf (int_name word n))
finished (val_name word n) env m ps = found_or (found env (leaf (val_name word n))) (leaf (val_name word n))
finished symbol env m ps = folded (Of (renumbered symbol m) ps)

-- a term, and the numbers that are taken then
pub record Put : Type 0 where
  pub term : Term
  pub taken : List ℕ

abbrev pub put_of : Term → List ℕ → Put
put_of term taken = record { term = term; taken = taken }

pub record PutParts : Type 0 where
  pub parts : Parts
  pub taken : List ℕ

abbrev mutual
  -- the term where names stand for these terms and no quantifier binds a name of t; each new number is none of those that are taken
  pub put : Term → Term → List (Term × Term) → List ℕ → Put
  put t (Of symbol ps) env taken =
      let e = entered t symbol env taken in
      let all = put_parts t ps 0 env e.inner e.taken in
      record { term = finished symbol env e.number all.parts; taken = all.taken }

  -- the same for parts, of which the first one has the number k
  pub put_parts : Term → Parts → ℕ → List (Term × Term) → List (Term × Term) → List ℕ → PutParts
  put_parts t no_parts k env inner taken = record { parts = no_parts; taken = taken }
  put_parts t (part f ps) k env inner taken =
      let first = put t f (env_at k env inner) taken in
      let rest = put_parts t ps (k + 1) env inner first.taken in
      record { parts = part first.term rest.parts; taken = rest.taken }

-- the term or formula f in which t is put for a name
abbrev pub substituted : Term → Term → Term → Term
substituted f name t = (put t f ((name, t) ∷ []) (numbers_in f ++ numbers_in t)).term
