-- Which term a term is folded to when it is made, and which term comes of one where names stand for other terms.
use Rattle.std.specs.Prelude.{ℕ, zero, suc, List, [], ◌∷◌, Bool, true, false, nat_le, if◌then◌else◌, ℤ, pos, negsuc, ◌+ℤ◌, ◌-ℤ◌, Option, Some, None, slice_index_or}
use Rattle.wy_term.specs.Term.{Symbol, Term, Of, Parts, no_parts, part, leaf, Number, int_name, val_name, every, exists}
use Rattle.wy_term.specs.Same.{same_term}
use Rattle.wy_term.specs.Rewriting.{as_number, fold_and, fold_or, rewritten}

-- ---- what names stand for: pairs of a name and a term, of which the first one of a name counts

-- the term that a name stands for, if there is one
abbrev pub found : List (Term × Term) → Term → Option Term
found [] name = None
found (p ∷ ps) name = if same_term p.0 name then Some p.1 else found ps name

abbrev pub found_or : Option Term → Term → Term
found_or None t = t
found_or (Some u) t = u

-- the same, but where the name stands for another term it stands for itself
abbrev pub hidden : Option Term → Term → List (Term × Term) → List (Term × Term)
hidden None name env = env
hidden (Some u) name env = if same_term u name then env else (name, name) ∷ env

-- ---- short ranges

-- how many numbers there are from a first one on and below another, by their difference, where the two are at most 256 apart
abbrev pub span : ℤ → Option ℕ
span (pos n) = if nat_le n 256 then Some n else None
span (negsuc n) = if nat_le n 255 then Some 0 else None

-- the same, where both are numbers
abbrev pub span_of : Option ℤ → Option ℤ → Option ℕ
span_of None b = None
span_of (Some a) None = None
span_of (Some a) (Some b) = span (b -ℤ a)

-- the formula at each of so many numbers from the first one on
abbrev pub instances : (List (Term × Term) → Term) → Term → List (Term × Term) → ℤ → ℕ → Parts
instances body name env z zero = no_parts
instances body name env z (suc n) = part (body ((name, Number z) ∷ env)) (instances body name env (z +ℤ pos 1) n)

-- the number that an Int term is, or 0
abbrev pub number_or_zero : Option ℤ → ℤ
number_or_zero None = pos 0
number_or_zero (Some z) = z

-- `all` or `some` of a name
abbrev pub binder : Bool → List ℕ → ℕ → Symbol
binder true word n = every word n
binder false word n = exists word n

-- the formulas joined by `and` or by `or`
abbrev pub joined_by : Bool → Parts → Term
joined_by true fs = fold_and fs
joined_by false fs = fold_or fs

-- ---- terms where names stand for others

-- a quantifier with these bounds: over a short range its instances, else a quantifier, in whose body its name stands for itself
abbrev pub quantified : Bool → List ℕ → ℕ → (List (Term × Term) → Term) → List (Term × Term) → Term → Term → Option ℕ → Term
quantified all word n body env s t None = Of (binder all word n) (part s (part t (part (body (hidden (found env (leaf (int_name word n))) (leaf (int_name word n)) env)) no_parts)))
quantified all word n body env s t (Some m) = joined_by all (instances body (leaf (int_name word n)) env (number_or_zero (as_number s)) m)

-- the part with this number, from 0, where names stand for these terms
abbrev pub part_of : List (List (Term × Term) → Term) → ℕ → List (Term × Term) → Term
part_of parts k = slice_index_or parts k (λ env. Number (pos 0))

-- the parts where names stand for these terms
abbrev pub parts_of : List (List (Term × Term) → Term) → List (Term × Term) → Parts
parts_of [] env = no_parts
parts_of (p ∷ ps) env = part (p env) (parts_of ps env)

abbrev pub quantifier_of : Bool → List ℕ → ℕ → List (List (Term × Term) → Term) → List (Term × Term) → Term
quantifier_of all word n parts env =
    quantified all word n (part_of parts 2) env (part_of parts 0 env) (part_of parts 1 env) (span_of (as_number (part_of parts 0 env)) (as_number (part_of parts 1 env)))

-- what comes of a term with this symbol, by what comes of its parts
abbrev pub remade : Symbol → List (List (Term × Term) → Term) → List (Term × Term) → Term
remade (int_name word n) parts env = found_or (found env (leaf (int_name word n))) (leaf (int_name word n))
remade (val_name word n) parts env = found_or (found env (leaf (val_name word n))) (leaf (val_name word n))
remade (every word n) parts env = quantifier_of true word n parts env
remade (exists word n) parts env = quantifier_of false word n parts env
remade symbol parts env = rewritten (Of symbol (parts_of parts env))

abbrev mutual
  -- the term where names stand for these terms, made anew from the leaves up
  pub replaced : Term → List (Term × Term) → Term
  replaced (Of symbol ps) = remade symbol (replacers ps)

  -- the same for each part
  pub replacers : Parts → List (List (Term × Term) → Term)
  replacers no_parts = []
  replacers (part t ps) = replaced t ∷ replacers ps

-- ---- folding

-- a quantifier over a short range is the `and` or the `or` of its instances
abbrev pub fold_range : Bool → List ℕ → ℕ → Term → Term → Term → Option ℕ → Term
fold_range all word n s t f None = Of (binder all word n) (part s (part t (part f no_parts)))
fold_range all word n s t f (Some m) = joined_by all (instances (replaced f) (leaf (int_name word n)) [] (number_or_zero (as_number s)) m)

-- the term that this one is folded to
abbrev pub folded : Term → Term
folded (Of (every word n) (part s (part t (part f no_parts)))) = fold_range true word n s t f (span_of (as_number s) (as_number t))
folded (Of (exists word n) (part s (part t (part f no_parts)))) = fold_range false word n s t f (span_of (as_number s) (as_number t))
folded t = rewritten t
