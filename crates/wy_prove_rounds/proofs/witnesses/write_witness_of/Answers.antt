use Rattle.std.proofs.Common.{◌≡◌, false, Some, Option, ℕ, subst}
use Rattle.std.specs.Prelude.{IfNone, IfSome}
use Rattle.wy_prove_drafts.specs.Draft.{seen_draft}
use Rattle.wy_prove_drafts.specs.wy_check_spec.judge.Node.{has_literal}
use Rattle.wy_prove_drafts.specs.wy_check_nodes.Seen.{seen_literal}
use Rattle.wy_term.specs.Nodes.{tree_at}
use Rattle.wy_prove_drafts.specs.wy_check_spec.valid.Literals.{literal_at}
use Rattle.wy_prove_rounds.proofs.RangeMoves.{never_lacks, witness_follows}
use Rattle.wy_prove_rounds.proofs.witnesses.write_witness_of.Goals as goal

pub returns-in_ok-write_witness-in-Some-clause-value : goal.returns-in_ok-write_witness-in-Some-clause-value
returns-in_ok-write_witness-in-Some-clause-value c = λ types base node r one there along.
    let at = tree_at c.args.terms.now in
    let d = seen_draft at c.args.draft.now in
    let e = seen_draft (tree_at c.write_witness.new.terms) c.write_witness.new.draft in
    let l = seen_literal at (c.args.atom, c.args.holds) in
    let is : literal_at d.node.literals c.in-Some.i ≡ Some l = subst (λ (o : Option ℕ). IfSome o (λ k. literal_at d.node.literals k ≡ Some l)) c.in-Some.is c.in_ok-i.ensures.there in
    witness_follows types base node l r c.in-Some.i d e _ (c.in_ok-write_witness-in-Some.ensures.value types) is one along

pub returns-in-None-clause-value : goal.returns-in-None-clause-value
returns-in-None-clause-value c = λ types base node r one there along.
    let at = tree_at c.args.terms.now in
    let d = seen_draft at c.args.draft.now in
    let l = seen_literal at (c.args.atom, c.args.holds) in
    let lacks : has_literal d.node.literals l ≡ false = subst (λ (o : Option ℕ). IfNone o (has_literal d.node.literals l ≡ false)) c.in-None.is c.in_ok-i.ensures.lacking in
    absurd (never_lacks types base node l d there lacks along)
