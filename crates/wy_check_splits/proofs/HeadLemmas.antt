-- Nodes that have the same parts are equal exactly where they have the same symbol.
use Rattle.std.proofs.Common.{◌≡◌, ℕ, List, Bool, true, false, ◌&&◌, refl, sym, ap, ◌∙◌}
use Rattle.std.specs.Prelude.{bytes_eq}
use Rattle.wy_lemmas.proofs.Choices.{and_end as and_true}
use Rattle.wy_lemmas.proofs.Lists.{bytes_self}
use Rattle.wy_check_nodes.specs.wy_term.contracts.node.NodePartialEq.TheImpl.{eq-value}
use Rattle.wy_check_nodes.specs.wy_term.declared.node.Node.{Node}
use Rattle.wy_check_nodes.specs.wy_term.Term.{Symbol}
use Rattle.wy_check_nodes.specs.wy_term.Same.{same_symbol}
use Rattle.wy_check_nodes.specs.wy_term.Nodes.{Plain, of, plain, same_plain}
use Rattle.wy_check_nodes.proofs.wy_term_proofs.NodeEqLemmas.{plain_self, plain_are, nodes_are, nodes_compare}

compared : (a b : Node) → eq-value.it a b ≡ same_plain (plain a) (plain b)
compared a b = by (eq-value.it a b) (same_plain (plain a) (plain b)) refl refl
  where
    by : (x y : Bool) → eq-value.it a b ≡ x → same_plain (plain a) (plain b) ≡ y → x ≡ y
    by true true e f = refl
    by false false e f = refl
    by true false e f = sym (ap (λ (p : Plain). same_plain (plain a) p) (sym (nodes_are a b e)) ∙ plain_self (plain a)) ∙ f
    by false true e f = sym e ∙ nodes_compare a b (plain_are (plain a) (plain b) f)

-- a node with the second one's parts is it exactly where its symbol is the second one's
pub head_is : (a t : Node) (old symbol : Symbol) (parts : List ℕ) → plain a ≡ of old parts → old ≡ symbol → parts ≡ (plain t).parts → eq-value.it a t ≡ same_symbol symbol (plain t).symbol
head_is a t old symbol parts is named same =
    compared a t
    ∙ (ap (λ (p : Plain). same_plain p (plain t)) is
    ∙ (ap (λ (s : Symbol). same_symbol s (plain t).symbol && bytes_eq parts (plain t).parts) named
    ∙ (ap (λ (ps : List ℕ). same_symbol symbol (plain t).symbol && bytes_eq ps (plain t).parts) same
    ∙ (ap (λ (b : Bool). same_symbol symbol (plain t).symbol && b) (bytes_self (plain t).parts) ∙ and_true (same_symbol symbol (plain t).symbol)))))
