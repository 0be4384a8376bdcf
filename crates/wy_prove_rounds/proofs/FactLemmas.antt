-- Facts, schema by schema.
use Rattle.std.proofs.Common.{◌≡◌, ◌∙◌, ◌≤◌, ◌+◌, ◌-◌, ℕ, zero, suc, List, sym, ap, arith}
use Rattle.wy_term.specs.Term as term
use Rattle.wy_term.specs.Term.{Term, Of, no_parts, part}
use Rattle.wy_term.specs.Condition.{Entry}
use Rattle.wy_prove_drafts.specs.wy_check_spec.judge.Node.{Node}
use Rattle.wy_prove_drafts.specs.wy_search_spec.Expansion.{measured, with_facts_by, with_schemas}
use Rattle.wy_term_subst.specs.sorted.Sorted.{IsSorted}
use Rattle.wy_prove_drafts.specs.wy_check_laws.sound.Sortedness.{AreSortedTerms}
use Rattle.wy_prove_drafts.specs.Progress.{Progress}
use Rattle.wy_prove_rounds.specs.Moving.{Moves}
use Rattle.wy_prove_rounds.proofs.MovingLemmas.{moves_as, moves_on}

-- one schema more
pub schemas_more : (types : List Entry) (node : Node) (ts : List Term) (k n : ℕ) (done : Node) → with_schemas types node ts n (suc k) done ≡ with_facts_by types node ts (n + k) (with_schemas types node ts n k done)
schemas_more types node ts zero n done = let is : n ≡ n + 0 = omega arith in ap (λ (m : ℕ). with_facts_by types node ts m done) is
schemas_more types node ts (suc k) n done =
    let is : suc n + k ≡ n + suc k = omega arith in
    schemas_more types node ts k (suc n) (with_facts_by types node ts n done) ∙ ap (λ (m : ℕ). with_facts_by types node ts m (with_schemas types node ts (suc n) k (with_facts_by types node ts n done))) is

pub schema_goes : (types : List Entry) (base : Node) (ts : List Term) (n : ℕ) (old now new : Progress) → 1 ≤ n → Moves types base (λ node. with_schemas types base ts 1 (n - 1) node) old now → Moves types base (λ node. with_facts_by types base ts n node) now new → Moves types base (λ node. with_schemas types base ts 1 (n + 1 - 1) node) old new
schema_goes types base ts n old now new le h k =
    let next : n + 1 - 1 ≡ suc (n - 1) = omega (arith, le) in
    let here : 1 + (n - 1) ≡ n = omega (arith, le) in
    moves_as types base (λ node. with_facts_by types base ts n (with_schemas types base ts 1 (n - 1) node)) (λ node. with_schemas types base ts 1 (n + 1 - 1) node) old new
    (λ node. sym (ap (λ (m : ℕ). with_schemas types base ts 1 m node) next ∙ schemas_more types base ts (n - 1) 1 node ∙ ap (λ (m : ℕ). with_facts_by types base ts m (with_schemas types base ts 1 (n - 1) node)) here))
    (moves_on types base (λ node. with_schemas types base ts 1 (n - 1) node) (λ node. with_facts_by types base ts n node) old now new h k)
