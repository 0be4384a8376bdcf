-- New names, and names for large terms.
use Rattle.std.proofs.Common.{◌≡◌, ◌<◌, ℕ, suc, List, [], true, false, Result, IfOk, length, sym, ap, subst, if◌then◌else◌}
use Rattle.wy_term.specs.wy_items.declared.memory.NoMemory.{NoMemory}
use Rattle.wy_term.specs.Term.{Term}
use Rattle.wy_term.specs.Nodes.{tree_at}
use Rattle.wy_vc_exprs.specs.wy_vc_spec.Making.{equal}
use Rattle.wy_vc_exprs.specs.wy_vc_spec.Owed.{assume}
use Rattle.wy_vc_exprs.specs.wy_vc_spec.Clauses.{passed}
use Rattle.wy_vc_exprs.specs.wy_vc_spec.Large.{Named, named, is_large}
use Rattle.wy_vc_exprs.proofs.wy_vc_operations_proofs.GrowingLemmas.{here_kept}
use Rattle.wy_vc_exprs.specs.wy_vc_operations.Growing.{Makes}
use Rattle.wy_vc_exprs.specs.State.{IsSound, Steps, Walks, hyps_of}
use Rattle.wy_vc_exprs.specs.declared.walk.Walk.{Walk}
use Rattle.wy_vc_exprs.proofs.NumberedLemmas.{at_itself}
use Rattle.wy_vc_exprs.proofs.StateLemmas.{steps_made, steps_on, steps_as, steps_none}
use Rattle.wy_vc_body.specs.Named.{named_walk, with_name}
use Rattle.wy_vc_exprs.proofs.NumberedLemmas.{kept_then}

-- a new name equals the value
pub named_steps : (a b c d : Walk) (name eq value : ℕ) (N : Term) → IsSound a → value < length a.maker.terms → Makes a.maker.terms b.maker.terms name N → Makes b.maker.terms c.maker.terms eq (equal N (tree_at a.maker.terms value))
    → c.hyps.items ≡ a.hyps.items → c.owed.items ≡ a.owed.items → c.maker.count ≡ suc a.maker.count
    → Steps c d (passed c.maker.count (assume (hyps_of c) (tree_at c.maker.terms eq)) [])
    → Walks a d name (record { count = suc a.maker.count; hyps = assume (hyps_of a) (equal N (tree_at a.maker.terms value)); term = N; owed = [] })
named_steps a b c d name eq value N sound within made equation hyps owed count s =
    let E = equal N (tree_at a.maker.terms value) in
    let s' = subst (λ (x : Term). Steps c d (passed c.maker.count (assume (hyps_of c) x) [])) equation.here.is s in
    let kept = kept_then made.kept equation.kept in
    let all = steps_on (λ hs m. passed m (assume hs E) []) a c d (passed c.maker.count (hyps_of a) []) (steps_made a c sound kept hyps owed) s' in
    record {
      steps = steps_as a d (passed c.maker.count (assume (hyps_of a) E) []) (passed (suc a.maker.count) (assume (hyps_of a) E) []) (ap (λ (m : ℕ). passed m (assume (hyps_of a) E) []) count) all;
      is = here_kept s.kept (here_kept equation.kept made.here);
    }

-- a value that is large takes a name, and another one stays
pub named_large : (res : Result ℕ NoMemory) (a b : Walk) (words : List (List ℕ)) (x : ℕ) (v : Term) (hyps : List Term) (n : ℕ) → is_large v ≡ true
    → IfOk res (λ r. Walks a b r (named_walk (with_name words x v hyps n))) → IfOk res (λ r. Walks a b r (named_walk (named words x v hyps n)))
named_large res a b words x v hyps n large h =
    subst (λ (m : Named). IfOk res (λ r. Walks a b r (named_walk m))) (sym (ap (λ t. if t then with_name words x v hyps n else (record { count = n; hyps = hyps; term = v })) large)) h

pub named_small : (a : Walk) (words : List (List ℕ)) (x value : ℕ) → IsSound a → value < length a.maker.terms → is_large (tree_at a.maker.terms value) ≡ false
    → Walks a a value (named_walk (named words x (tree_at a.maker.terms value) (hyps_of a) a.maker.count))
named_small a words x value sound within small =
    let V = tree_at a.maker.terms value in
    subst (λ (m : Named). Walks a a value (named_walk m)) (sym (ap (λ t. if t then with_name words x V (hyps_of a) a.maker.count else (record { count = a.maker.count; hyps = hyps_of a; term = V })) small))
    (record { steps = steps_none a sound; is = at_itself within })
