-- Numbers by which parts and conjuncts are found.
use Rattle.std.specs.Prelude.{ℕ, ◌+◌, ◌*◌, ◌^◌, ◌%◌, List, [], ◌∷◌, Bool, cond}
use Rattle.wy_types.specs.declared.conjuncts.Signed.{Signed}
use Rattle.wy_types.specs.declared.conjuncts.Part.{Part}
use Rattle.wy_types.specs.declared.conjuncts.Atom.{Atom}
use Rattle.wy_types.specs.declared.conjuncts.Atom.TheVariants as atom
use Rattle.wy_types.specs.declared.conjuncts.Conjunct.{Conjunct}

-- with one number more
unfoldable pub mixed : ℕ → ℕ → ℕ
mixed h n = ((h * 1099511628211) % 2 ^ 64 + n) % 2 ^ 64

abbrev pub with_flag : ℕ → Bool → ℕ
with_flag h b = cond b (mixed h 1) (mixed h 0)

abbrev pub with_signed : ℕ → Signed ℕ → ℕ
with_signed h s = with_flag (with_flag (mixed h s.term) s.up) s.inside

abbrev pub with_terms : ℕ → List (Signed ℕ) → ℕ
with_terms h [] = h
with_terms h (s ∷ ss) = with_terms (with_signed h s) ss

abbrev pub with_bytes : ℕ → List ℕ → ℕ
with_bytes h [] = h
with_bytes h (b ∷ bs) = with_bytes (mixed h b) bs

abbrev pub with_fields : ℕ → List (List ℕ × Part ℕ) → ℕ
with_fields h [] = h
with_fields h (f ∷ fs) = with_fields (with_terms (with_bytes h f.0) f.1.terms) fs

abbrev pub with_atom : ℕ → Atom ℕ → ℕ
with_atom h atom.Null = mixed h 1
with_atom h atom.Bool = mixed h 2
with_atom h atom.Int = mixed h 3
with_atom h (atom.Array p) = with_terms (mixed h 4) p.terms
with_atom h (atom.Record fs) = with_fields (mixed h 5) fs
with_atom h atom.AnyRecord = mixed h 6

abbrev pub with_atoms : ℕ → List (Atom ℕ) → ℕ
with_atoms h [] = h
with_atoms h (a ∷ more) = with_atoms (with_atom h a) more

abbrev pub part_digest : List (Signed ℕ) → ℕ
part_digest p = with_terms 1 p

abbrev pub conjunct_digest : Conjunct ℕ → ℕ
conjunct_digest c = with_atoms (with_atom 1 c.positive) c.negatives
