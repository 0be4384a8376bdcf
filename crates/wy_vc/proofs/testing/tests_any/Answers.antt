use Rattle.std.proofs.Common.{◌≡◌, ◌∙◌, ℕ, true, List, None, subst, sym}
use Rattle.wy_term.specs.Nodes.{plain}
use Rattle.wy_vc_spec.specs.Limits.{is_among}
use Rattle.wy_vc.specs.Tested.{type_of}
use Rattle.wy_vc.proofs.TestedLemmas.{none_of, quiet_term}
use Rattle.wy_vc.proofs.testing.tests_any.Goals as goal

pub returns : goal.returns
returns c =
    let own : type_of (plain c.node-node.result.now).symbol ≡ None = sym c.type_of-own.ensures.value ∙ none_of c.type_of-own.result (sym c.is_some.ensures ∙ c.if-is_some.false) in
    record {
      none = λ quiet no.
          quiet_term c.args.terms.now c.args.marks.now c.args.number (plain c.node-node.result.now) c.in_ok-parts.parts.items c.node-node.ensures.tree own c.in_ok-parts.ensures.value
          (λ k h. c.is_any_testing-any.ensures.none no k (subst (λ (l : List ℕ). is_among l k ≡ true) (sym c.as_slice.ensures.value) h)) quiet;
    }
