-- A node with one literal more, what it is judged by, and the node as it was.
use Rattle.std.proofs.Common.{◌≡◌, ◌∙◌, ℕ, Bool, true, false, cond, List, [], ◌∷◌, ◌++◌, map, refl, ap}
use Rattle.wy_search_spec.specs.wy_check_spec.judge.Judgement.{of_atom}
use Rattle.wy_search_spec.specs.wy_check_spec.judge.Node.{Literal, Node, has_literal, with_literal}
use Rattle.wy_search_spec.specs.wy_check_spec.declared.judge.verdict.Verdict.{Verdict}
use Rattle.wy_search_spec.specs.wy_check_spec.declared.judge.verdict.Verdict.TheVariants.{Yes, No, Open}
use Rattle.wy_check_splits.specs.wy_check_nodes.Seen.{seen_branch, seen_formula, seen_literal}
use Rattle.wy_check_splits.specs.wy_check_nodes.declared.branch.Branch.{Branch}
use Rattle.wy_search_spec.specs.Splitting.{is_open}
use Rattle.wy_cong.specs.Once.{SameBranch}
use Rattle.wy_cong.specs.Unmet.{with_one}
use Rattle.wy_term.specs.Term.{Term}

abbrev literal : Term → Bool → Literal
literal a holds = record { atom = a; holds = holds }

abbrev pub verdict_by : Bool → Bool → Verdict
verdict_by up_so un_so = cond up_so Yes (cond un_so No Open)

-- ---- undecided atoms

absent : (ls : List Literal) (a : Term) (holds : Bool) → is_open (of_atom ls a) ≡ true → has_literal ls (literal a holds) ≡ false
absent ls a true up = by (has_literal ls (literal a true)) (has_literal ls (literal a false)) up
  where
    by : (b c : Bool) → is_open (verdict_by b c) ≡ true → b ≡ false
    by true c e = absurd (cc)
    by false c e = refl
absent ls a false up = by (has_literal ls (literal a true)) (has_literal ls (literal a false)) up
  where
    by : (b c : Bool) → is_open (verdict_by b c) ≡ true → c ≡ false
    by true c e = absurd (cc)
    by false true e = absurd (cc)
    by false false e = refl

-- ---- judged with a literal more

abbrev node_with : Node → Literal → Node
node_with node l = record { literals = node.literals ++ l ∷ []; pending = node.pending }

put : (node : Node) (l : Literal) → has_literal node.literals l ≡ false → with_literal node l ≡ node_with node l
put node l un_so = ap (λ b. cond b node (node_with node l)) un_so

pub literals_more : (node new : Node) (a : Term) (holds : Bool) → is_open (of_atom node.literals a) ≡ true → new ≡ with_literal node (literal a holds) → new.literals ≡ with_one node.literals a holds
literals_more node new a holds up is = ap (λ (m : Node). m.literals) (is ∙ put node (literal a holds) (absent node.literals a holds up))

-- ---- the node as it was

pub seen_same : (at : ℕ → Term) (b c : Branch) → SameBranch b c → seen_branch at c ≡ seen_branch at b
seen_same at b c same = λ i. record { literals = map (seen_literal at) (same.literals i); pending = map (seen_formula at) (same.pending i) }

pub same_again : (b c d : Branch) → SameBranch b c → SameBranch c d → SameBranch b d
same_again b c d p q = record { literals = q.literals ∙ p.literals; pending = q.pending ∙ p.pending }

pub same_self : (b : Branch) → SameBranch b b
same_self b = record { literals = refl; pending = refl }
