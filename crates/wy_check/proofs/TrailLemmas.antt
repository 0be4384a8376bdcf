-- The nodes that are still to be closed stand for the same where the list of terms grows.
use Rattle.std.proofs.Common.{◌≡◌, ◌≤◌, ℕ, zero, suc, List, [], ◌∷◌, map, take, length, Bool, true, false, refl, ap, ◌∙◌, arith}
use Rattle.wy_term.specs.declared.cond.Cond.{Cond}
use Rattle.wy_term.specs.Term.{Term}
use Rattle.wy_term.specs.Nodes.{Plain, tree_at}
use Rattle.wy_vc_laws.specs.wy_check_spec.judge.Node.{Literal, Node, denied_one}
use Rattle.wy_facts.specs.Membership.{AreTypesBelow}
use Rattle.wy_facts.specs.Seen.{Stays}
use Rattle.wy_check_splits.specs.wy_check_nodes.declared.branch.Branch.{Branch}
use Rattle.wy_check_splits.specs.wy_check_nodes.Seen.{seen_literal, seen_formula, seen_branch, AreOver}
use Rattle.wy_check_splits.specs.wy_check_nodes.declared.trail.Trail.{Trail}
use Rattle.wy_check_splits.specs.wy_check_nodes.declared.trail.Waiting.{Waiting}
use Rattle.wy_check_splits.specs.wy_check_nodes.Trail.{second_nodes, open_nodes, nodes_of, AreWaiting, IsTrail}
use Rattle.wy_check_splits.proofs.wy_check_nodes_proofs.SumsBranchLemmas.{branch_stays, formulas_kept, literals_kept}

over_take : (n i : ℕ) (ps : List (ℕ × Bool)) → AreOver n ps → AreOver n (take i ps)
over_take n zero ps over = tt
over_take n (suc i) [] over = tt
over_take n (suc i) (p ∷ ps) over = (over.0, over_take n i ps over.1)

abbrev denying : List Literal → List Term → Term → Node
denying ls ps a = denied_one (record { literals = ls; pending = ps }) a

pub seconds_stay : (old new : List Plain) (b : Branch) (m k : ℕ) (ws : List Waiting) → Stays old new → AreOver (length old) b.literals.keys → AreOver (length old) b.pending.keys → AreWaiting (length old) m k ws → second_nodes (tree_at new) b ws ≡ second_nodes (tree_at old) b ws
seconds_stay old new b m k [] stays ls ps are = refl
seconds_stay old new b m k (w ∷ ws) stays ls ps are =
    let firsts = literals_kept old new (take w.literals b.literals.keys) stays (over_take (length old) w.literals b.literals.keys ls) in
    let others = formulas_kept old new (take w.pending b.pending.keys) stays (over_take (length old) w.pending b.pending.keys ps) in
    let second : denying (map (seen_literal (tree_at new)) (take w.literals b.literals.keys)) (map (seen_formula (tree_at new)) (take w.pending b.pending.keys)) (tree_at new w.atom) ≡ denying (map (seen_literal (tree_at old)) (take w.literals b.literals.keys)) (map (seen_formula (tree_at old)) (take w.pending b.pending.keys)) (tree_at old w.atom) =
    ap (λ (xs : List Literal). denying xs (map (seen_formula (tree_at new)) (take w.pending b.pending.keys)) (tree_at new w.atom)) firsts
    ∙ (ap (λ (ys : List Term). denying (map (seen_literal (tree_at old)) (take w.literals b.literals.keys)) ys (tree_at new w.atom)) others
    ∙ ap (denying (map (seen_literal (tree_at old)) (take w.literals b.literals.keys)) (map (seen_formula (tree_at old)) (take w.pending b.pending.keys))) (stays.trees w.atom are.2)) in
    ap (λ (x : Node). x ∷ second_nodes (tree_at new) b ws) second
    ∙ ap (λ (xs : List Node). denying (map (seen_literal (tree_at old)) (take w.literals b.literals.keys)) (map (seen_formula (tree_at old)) (take w.pending b.pending.keys)) (tree_at old w.atom) ∷ xs) (seconds_stay old new b w.literals w.pending ws stays ls ps are.3)

waiting_stay : (n m i j : ℕ) (ws : List Waiting) → n ≤ m → AreWaiting n i j ws → AreWaiting m i j ws
waiting_stay n m i j [] le are = tt
waiting_stay n m i j (w ∷ ws) le are = (are.0, are.1, omega (arith, le, are.2), waiting_stay n m w.literals w.pending ws le are.3)

pub trail_stays : (old new : List Plain) (t : Trail) → Stays old new → IsTrail old t → IsTrail new t
trail_stays old new t stays is = record {
  branch = branch_stays old new t.branch stays is.branch;
  waiting = waiting_stay (length old) (length new) (length t.branch.literals.keys) (length t.branch.pending.keys) t.waiting.items stays.grows is.waiting;
}

pub nodes_open : (at : ℕ → Term) (t : Trail) → t.«open» ≡ true → nodes_of at t ≡ seen_branch at t.branch ∷ second_nodes at t.branch t.waiting.items
nodes_open at t e = ap (open_nodes at t.branch t.waiting.items) e

pub nodes_closed : (at : ℕ → Term) (t : Trail) → t.«open» ≡ false → nodes_of at t ≡ []
nodes_closed at t e = ap (open_nodes at t.branch t.waiting.items) e

-- ---- the condition's types

pub types_up : (m n : ℕ) (c : Cond) → m ≤ n → AreTypesBelow m c → AreTypesBelow n c
types_up m n c le below i d lt = let h = below i d lt in (omega (arith, h.0, le), omega (arith, h.1, le))
