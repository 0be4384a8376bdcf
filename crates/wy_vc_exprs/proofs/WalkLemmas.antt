-- Walks, one behind the other.
use Rattle.std.proofs.Common.{◌≡◌, ℕ, List, [], ◌++◌, ◌∙◌, ap, subst}
use Rattle.std.proofs.lemmas.List.{append-nil}
use Rattle.wy_term.specs.Term.{Term}
use Rattle.wy_term.specs.Nodes.{tree_at}
use Rattle.wy_vc_terms.specs.wy_vc_spec.Owed.{Owed}
use Rattle.wy_vc_terms.specs.wy_vc_spec.Clauses.{Passed}
use Rattle.wy_vc_terms.specs.wy_vc_spec.Calls.{Walked}
use Rattle.wy_vc_terms.specs.wy_vc_spec.Walks.{WalkedAll, free}
use Rattle.wy_vc_exprs.specs.Numbered.{trees_of}
use Rattle.wy_vc_exprs.specs.State.{Steps, Walks, WalksAll, hyps_of, passed_by, passed_by_all}
use Rattle.wy_vc_exprs.specs.declared.walk.Walk.{Walk}
use Rattle.wy_vc_exprs.proofs.StateLemmas.{steps_on, at_same, owed_before}

-- what goes by the term of a walk, what it assumed and how many names it made
pub walks_on : (G : Term → List Term → ℕ → Walked) (a b c : Walk) (v r : ℕ) (w : Walked) → Walks a b v w → Walks b c r (G (tree_at b.maker.terms v) (hyps_of b) b.maker.count) → Walks a c r (owed_before w.owed (G w.term w.hyps w.count))
walks_on G a b c v r w first second =
    let x = subst (λ (t : Term). Walks b c r (G t (hyps_of b) b.maker.count)) first.is.is second in
    record {
      steps = steps_on (λ hs n. passed_by (G w.term hs n)) a b c (passed_by w) first.steps x.steps;
      is = at_same c.maker.terms r (G w.term (hyps_of b) b.maker.count).term (G w.term w.hyps w.count).term
          (ap (λ (hs : List Term). (G w.term hs b.maker.count).term) first.steps.hyps ∙ ap (λ (n : ℕ). (G w.term w.hyps n).term) first.steps.count) x.is;
    }

-- the same where nothing is owed behind it
pub walks_free : (f : Term → Term) (a b c : Walk) (v r : ℕ) (w : Walked) → Walks a b v w → Walks b c r (free b.maker.count (hyps_of b) (f (tree_at b.maker.terms v)) []) → Walks a c r (free w.count w.hyps (f w.term) w.owed)
walks_free f a b c v r w first second =
    subst (λ (os : List Owed). Walks a c r (free w.count w.hyps (f w.term) os)) (append-nil w.owed) (walks_on (λ t hs n. free n hs (f t) []) a b c v r w first second)

-- steps, and then a walk
pub walks_behind : (H : List Term → ℕ → Walked) (a b c : Walk) (r : ℕ) (p : Passed) → Steps a b p → Walks b c r (H (hyps_of b) b.maker.count) → Walks a c r (owed_before p.owed (H p.hyps p.count))
walks_behind H a b c r p first second = record {
  steps = steps_on (λ hs n. passed_by (H hs n)) a b c p first second.steps;
  is = at_same c.maker.terms r (H (hyps_of b) b.maker.count).term (H p.hyps p.count).term
      (ap (λ (hs : List Term). (H hs b.maker.count).term) first.hyps ∙ ap (λ (n : ℕ). (H p.hyps n).term) first.count) second.is;
}

-- two walks, and then what goes by both
pub walks_two : (H : List Term → ℕ → Walked) (G : Term → Term → List Term → ℕ → Walked) (a b c d : Walk) (v u r : ℕ) (w : Walked) → Walks a b v w → Walks b c u (H (hyps_of b) b.maker.count) → Walks c d r (G (tree_at c.maker.terms v) (tree_at c.maker.terms u) (hyps_of c) c.maker.count) → Walks a d r (owed_before (w.owed ++ (H w.hyps w.count).owed) (G w.term (H w.hyps w.count).term (H w.hyps w.count).hyps (H w.hyps w.count).count))
walks_two H G a b c d v u r w first second third =
    let both = walks_behind H a b c u (passed_by w) first.steps second in
    let left : tree_at c.maker.terms v ≡ w.term = second.steps.kept.trees v first.is.within ∙ first.is.is in
    let x = subst (λ (t : Term). Walks c d r (G t (tree_at c.maker.terms u) (hyps_of c) c.maker.count)) left third in
    walks_on (λ t hs n. G w.term t hs n) a c d u r (owed_before w.owed (H w.hyps w.count)) both x

-- many walks, and then what goes by all
pub walks_many : (G : List Term → List Term → ℕ → Walked) (a b c : Walk) (ks : List ℕ) (r : ℕ) (w : WalkedAll) → WalksAll a b ks w → Walks b c r (G (trees_of b.maker.terms ks) (hyps_of b) b.maker.count) → Walks a c r (owed_before w.owed (G w.terms w.hyps w.count))
walks_many G a b c ks r w first second =
    let x = subst (λ (ts : List Term). Walks b c r (G ts (hyps_of b) b.maker.count)) first.are.are second in
    walks_behind (λ hs n. G w.terms hs n) a b c r (passed_by_all w) first.steps x

pub walks_many_free : (f : List Term → Term) (a b c : Walk) (ks : List ℕ) (r : ℕ) (w : WalkedAll) → WalksAll a b ks w → Walks b c r (free b.maker.count (hyps_of b) (f (trees_of b.maker.terms ks)) []) → Walks a c r (free w.count w.hyps (f w.terms) w.owed)
walks_many_free f a b c ks r w first second =
    subst (λ (os : List Owed). Walks a c r (free w.count w.hyps (f w.terms) os)) (append-nil w.owed) (walks_many (λ ts hs n. free n hs (f ts) []) a b c ks r w first second)
