-- The derived comparison of kinds compares their plain data.
use Rattle.std.proofs.Common.{◌≡◌, ◌∙◌, ℕ, List, map, Some, refl, sym, ap}
use Rattle.wy_check_nodes.proofs.wy_term_proofs.NodeEqLemmas.{names_by_pairs}
use Rattle.wy_check_nodes.specs.wy_term.contracts.node.KindPartialEq.TheImpl.{eq-value}
use Rattle.wy_check_nodes.specs.wy_term.declared.node.Kind.{Kind}
use Rattle.wy_check_nodes.specs.wy_term.declared.node.Kind.TheVariants as kind
use Rattle.wy_check_nodes.specs.wy_term.Term.{Term, Of, fields, record_kind}
use Rattle.wy_check_nodes.specs.wy_term.Same.{same_kind}
use Rattle.wy_check_nodes.specs.wy_term.Nodes.{plain_kind, parts_at}
use Rattle.wy_check_nodes.specs.wy_term.Rewriting.{kind_given}
use Rattle.wy_check_nodes.proofs.wy_term_proofs.FoldLemmas.{names_for_parts_at}

pub kind_eq_is : (k l : Kind) → eq-value.it k l ≡ same_kind (plain_kind k) (plain_kind l)
kind_eq_is (kind.Record fs) (kind.Record gs) = names_by_pairs fs.items gs.items
kind_eq_is kind.Null kind.Null = refl
kind_eq_is kind.Bool kind.Bool = refl
kind_eq_is kind.Int kind.Int = refl
kind_eq_is kind.Array kind.Array = refl
kind_eq_is k l = refl

-- the kind of a record that is written out
pub record_given : (at : ℕ → Term) (fs : List (List ℕ × ℕ)) (v : Term) (names : List (List ℕ)) → v ≡ Of (fields (map (λ p. p.0) fs)) (parts_at at (map (λ p. p.1) fs)) → names ≡ map (λ p. p.0) fs → Some (record_kind names) ≡ kind_given v
record_given at fs v names tree is =
    ap (λ (ns : List (List ℕ)). Some (record_kind ns)) (is ∙ sym (names_for_parts_at at fs)) ∙ sym (ap kind_given tree)
