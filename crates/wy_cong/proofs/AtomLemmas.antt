-- The atoms of a formula are those of its members, and it is its own atom where it has none.
use Rattle.std.proofs.Common.{◌≡◌, ◌∙◌, ℕ, List, [], ◌∷◌, ◌++◌, append_assoc, Result, Ok, Err, refl, sym, ap}
use Rattle.std.proofs.lemmas.List.{append-nil}
use Rattle.std.specs.Prelude.{IfOk}
use Rattle.wy_search_spec.specs.Splitting.{atoms_in, atoms_in_parts, joined_atoms}
use Rattle.wy_cong.specs.Once.{atoms_at, once}
use Rattle.wy_term.specs.Nodes.{parts_at}
use Rattle.wy_term.specs.Term.{Term, Of, part, no_parts, denied, all_of, any_of}

members : (at : ℕ → Term) (ks ts : List ℕ) → atoms_at at (ks ++ ts) ≡ joined_atoms (atoms_in_parts (parts_at at ks)) ++ atoms_at at ts
members at [] ts = refl
members at (k ∷ ks) ts =
    ap (λ (rest : List Term). atoms_in (at k) ++ rest) (members at ks ts)
    ∙ sym (append_assoc (atoms_in (at k)) (joined_atoms (atoms_in_parts (parts_at at ks))) (atoms_at at ts))

pub and_taken : {X E : Type 0} (r : Result X E) (items : X → List ℕ) (at : ℕ → Term) (done : List Term) (t : Term) (ks ts : List ℕ) → t ≡ Of all_of (parts_at at ks)
    → IfOk r (λ x. items x ≡ ks ++ ts) → IfOk r (λ x. once done (atoms_at at (items x)) ≡ once done (atoms_in t ++ atoms_at at ts))
and_taken (Ok x) items at done t ks ts is put =
    ap (λ us. once done (atoms_at at us)) put ∙ ap (once done) (members at ks ts ∙ ap (λ (u : Term). atoms_in u ++ atoms_at at ts) (sym is))
and_taken (Err e) items at done t ks ts is put = tt

pub or_taken : {X E : Type 0} (r : Result X E) (items : X → List ℕ) (at : ℕ → Term) (done : List Term) (t : Term) (ks ts : List ℕ) → t ≡ Of any_of (parts_at at ks)
    → IfOk r (λ x. items x ≡ ks ++ ts) → IfOk r (λ x. once done (atoms_at at (items x)) ≡ once done (atoms_in t ++ atoms_at at ts))
or_taken (Ok x) items at done t ks ts is put =
    ap (λ us. once done (atoms_at at us)) put ∙ ap (once done) (members at ks ts ∙ ap (λ (u : Term). atoms_in u ++ atoms_at at ts) (sym is))
or_taken (Err e) items at done t ks ts is put = tt

pub not_taken : {X E : Type 0} (r : Result X E) (items : X → List ℕ) (at : ℕ → Term) (done : List Term) (t : Term) (g : ℕ) (ts : List ℕ) → t ≡ Of denied (part (at g) no_parts)
    → IfOk r (λ x. items x ≡ g ∷ ts) → IfOk r (λ x. once done (atoms_at at (items x)) ≡ once done (atoms_in t ++ atoms_at at ts))
not_taken (Ok x) items at done t g ts is put =
    ap (λ us. once done (atoms_at at us)) put
    ∙ ap (λ (atoms : List Term). once done (atoms ++ atoms_at at ts)) (sym (append-nil (atoms_in (at g))) ∙ ap atoms_in (sym is))
not_taken (Err e) items at done t g ts is put = tt
