-- Where no name was made, the numbers that are taken make no difference.
use Rattle.std.proofs.Common.{◌≡◌, ◌+◌, ℕ, List, length, Bool, true, false, cond, Option, Some, None, refl, sym, ap, ◌∙◌, arith}
use Rattle.wy_term.proofs.wy_lemmas_proofs.Choices.{one_if}
use Rattle.wy_term.specs.Term.{Term, Of, Parts, part, no_parts, leaf, int_name}
use Rattle.wy_term.specs.Folding.{found, hidden}
use Rattle.wy_term_subst.specs.Names.{stands_in, new_number}
use Rattle.wy_term_subst.specs.Substitution.{Entered, with_new_name, binder_of, entered_by, entered, env_at, finished, Put, PutParts, put_of, put, put_parts}

abbrev parts_of : Parts → List ℕ → PutParts
parts_of parts taken = record { parts = parts; taken = taken }

-- how many names a term with this binder makes for itself
abbrev made_for : Term → Option (List ℕ × ℕ) → ℕ
made_for t None = 0
made_for t (Some name) = one_if (stands_in name.0 name.1 t)

abbrev mutual
  -- how many names are made in a term
  new_names : Term → Term → ℕ
  new_names t (Of symbol ps) = made_for t (binder_of symbol) + new_names_in t ps

  new_names_in : Term → Parts → ℕ
  new_names_in t no_parts = 0
  new_names_in t (part f ps) = new_names t f + new_names_in t ps

length_entered : (t : Term) (b : Option (List ℕ × ℕ)) (env : List (Term × Term)) (ns : List ℕ) → length (entered_by t b env ns).taken ≡ length ns + made_for t b
length_entered t None env ns = omega arith
length_entered t (Some name) env ns = either (stands_in name.0 name.1 t)
  where
    either : (b : Bool) → length (cond b (with_new_name name.0 name.1 (new_number ns) env ns) (record { number = name.1; inner = hidden (found env (leaf (int_name name.0 name.1))) (leaf (int_name name.0 name.1)) env; taken = ns })).taken ≡ length ns + one_if b
    either true = omega arith
    either false = omega arith

added : (a b c d e : ℕ) → a ≡ b + e → b ≡ c + d → a ≡ c + (d + e)
added a b c d e f g = omega arith

mutual
  length_put : (t f : Term) (env : List (Term × Term)) (ns : List ℕ) → length (put t f env ns).taken ≡ length ns + new_names t f
  length_put t (Of symbol ps) env ns =
      let e = entered t symbol env ns in
      let rest : length (put_parts t ps 0 env e.inner e.taken).taken ≡ length e.taken + new_names_in t ps = length_put_parts t ps 0 env e.inner e.taken in
      let here : length e.taken ≡ length ns + made_for t (binder_of symbol) = length_entered t (binder_of symbol) env ns in
      added (length (put_parts t ps 0 env e.inner e.taken).taken) (length e.taken) (length ns) (made_for t (binder_of symbol)) (new_names_in t ps) rest here

  length_put_parts : (t : Term) (ps : Parts) (k : ℕ) (env inner : List (Term × Term)) (ns : List ℕ) → length (put_parts t ps k env inner ns).taken ≡ length ns + new_names_in t ps
  length_put_parts t no_parts k env inner ns = omega arith
  length_put_parts t (part f ps) k env inner ns =
      let first = put t f (env_at k env inner) ns in
      let rest : length (put_parts t ps (k + 1) env inner first.taken).taken ≡ length first.taken + new_names_in t ps = length_put_parts t ps (k + 1) env inner first.taken in
      let here : length first.taken ≡ length ns + new_names t f = length_put t f (env_at k env inner) ns in
      added (length (put_parts t ps (k + 1) env inner first.taken).taken) (length first.taken) (length ns) (new_names t f) (new_names_in t ps) rest here

entered_still : (t : Term) (b : Option (List ℕ × ℕ)) (env : List (Term × Term)) (ns ms : List ℕ) → made_for t b ≡ 0 → entered_by t b env ns ≡ record { number = (entered_by t b env ms).number; inner = (entered_by t b env ms).inner; taken = ns }
entered_still t None env ns ms e = refl
entered_still t (Some name) env ns ms e = either (stands_in name.0 name.1 t) e
  where
    either : (b : Bool) → one_if b ≡ 0 → cond b (with_new_name name.0 name.1 (new_number ns) env ns) (record { number = name.1; inner = hidden (found env (leaf (int_name name.0 name.1))) (leaf (int_name name.0 name.1)) env; taken = ns }) ≡ record { number = (cond b (with_new_name name.0 name.1 (new_number ms) env ms) (record { number = name.1; inner = hidden (found env (leaf (int_name name.0 name.1))) (leaf (int_name name.0 name.1)) env; taken = ms })).number; inner = (cond b (with_new_name name.0 name.1 (new_number ms) env ms) (record { number = name.1; inner = hidden (found env (leaf (int_name name.0 name.1))) (leaf (int_name name.0 name.1)) env; taken = ms })).inner; taken = ns }
    either true e = absurd (omega arith)
    either false e = refl

none_first : (a b : ℕ) → a + b ≡ 0 → a ≡ 0
none_first a b e = omega arith

none_rest : (a b : ℕ) → a + b ≡ 0 → b ≡ 0
none_rest a b e = omega arith

mutual
  still : (t f : Term) (env : List (Term × Term)) (ns ms : List ℕ) → new_names t f ≡ 0 → put t f env ns ≡ put_of (put t f env ms).term ns
  still t (Of symbol ps) env ns ms none =
      let e = entered t symbol env ms in
      ap (λ (g : Entered). put_of (finished symbol env g.number (put_parts t ps 0 env g.inner g.taken).parts) (put_parts t ps 0 env g.inner g.taken).taken) (entered_still t (binder_of symbol) env ns ms (none_first (made_for t (binder_of symbol)) (new_names_in t ps) none))
      ∙ ap (λ (all : PutParts). put_of (finished symbol env e.number all.parts) all.taken) (still_parts t ps 0 env e.inner ns e.taken (none_rest (made_for t (binder_of symbol)) (new_names_in t ps) none))

  still_parts : (t : Term) (ps : Parts) (k : ℕ) (env inner : List (Term × Term)) (ns ms : List ℕ) → new_names_in t ps ≡ 0 → put_parts t ps k env inner ns ≡ parts_of (put_parts t ps k env inner ms).parts ns
  still_parts t no_parts k env inner ns ms none = refl
  still_parts t (part f ps) k env inner ns ms none =
      let first = put t f (env_at k env inner) ms in
      ap (λ (p : Put). parts_of (part p.term (put_parts t ps (k + 1) env inner p.taken).parts) (put_parts t ps (k + 1) env inner p.taken).taken) (still t f (env_at k env inner) ns ms (none_first (new_names t f) (new_names_in t ps) none))
      ∙ ap (λ (all : PutParts). parts_of (part first.term all.parts) all.taken) (still_parts t ps (k + 1) env inner ns first.taken (none_rest (new_names t f) (new_names_in t ps) none))

-- a term that took no number takes none
pub still_from : (t f : Term) (env : List (Term × Term)) (ns now : List ℕ) (r : Term) → put t f env ns ≡ put_of r now → length now ≡ length ns → (ms : List ℕ) → put t f env ms ≡ put_of r ms
still_from t f env ns now r e same ms =
    let long : length now ≡ length ns + new_names t f = sym (ap (λ (p : Put). length p.taken) e) ∙ length_put t f env ns in
    let none : new_names t f ≡ 0 = omega (arith, long, same) in
    still t f env ms ns none ∙ ap (λ (p : Put). put_of p.term ms) e
