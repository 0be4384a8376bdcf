use Rattle.std.proofs.Common.{◌≡◌, ◌∙◌, ◌++◌, ◌∷◌, [], List, true, false, ap, rules, sym, subst}
use Rattle.std.specs.Prelude.{is_some}
use Rattle.wy_search.proofs.wy_search_bounds_proofs.KnownLemmas.{on_ok_anyway}
use Rattle.wy_prove_drafts.specs.Draft.{seen_draft}
use Rattle.wy_prove_drafts.specs.wy_check_spec.judge.Node.{Literal, Node, has_literal}
use Rattle.wy_prove_drafts.specs.wy_check_nodes.Seen.{seen_branch, seen_literal}
use Rattle.wy_prove_drafts.proofs.wy_check_nodes_proofs.SumsBranchLemmas.{branch_stays, node_stays}
use Rattle.wy_lemmas.proofs.Options.{on_ok}
use Rattle.wy_prove_drafts.specs.wy_search_spec.Expansion.{Spot}
use Rattle.wy_search.proofs.wy_search_facts_proofs.DenialLemmas.{is_none}
use Rattle.wy_search.proofs.wy_search_facts_proofs.SpotLemmas.{had_more}
use Rattle.wy_term.specs.Nodes.{tree_at}
use Rattle.wy_prove_drafts.specs.wy_check_spec.valid.Ranges.{of_one}
use Rattle.wy_prove_rounds.specs.Moving.{Follows}
use Rattle.wy_prove_rounds.proofs.MovingLemmas.{follows_self}
use Rattle.wy_prove_rounds.proofs.RangeMoves.{had_witness, new_follows, new_noted, none_witness, some_of}
use Rattle.wy_prove_rounds.proofs.witnesses.write_new_witness.Goals as goal

pub returns-then-not-calls-clause-value : goal.returns-then-not-calls-clause-value
returns-then-not-calls-clause-value c = λ types base p had there along.
    let at = tree_at c.args.terms.now in
    let l = seen_literal at (c.args.atom, c.args.holds) in
    let d = seen_draft at c.args.draft.now in
    let un : is_some (of_one l) ≡ false = search rules in
    let none = is_none (of_one l) un in
    subst (λ (q : Spot). Follows types base q.node d d) (none_witness p l none) (follows_self types base p.node d along)

pub returns-then-not-calls-clause-noted : goal.returns-then-not-calls-clause-noted
returns-then-not-calls-clause-noted c = λ p had.
    let at = tree_at c.args.terms.now in
    let l = seen_literal at (c.args.atom, c.args.holds) in
    let un : is_some (of_one l) ≡ false = search rules in
    let none = is_none (of_one l) un in
    sym (ap (λ (q : Spot). q.had) (none_witness p l none)) ∙ had

pub returns-then-has_literal-clause-value : goal.returns-then-has_literal-clause-value
returns-then-has_literal-clause-value c = λ types base p had there along.
    let at = tree_at c.args.terms.now in
    let l = seen_literal at (c.args.atom, c.args.holds) in
    let d = seen_draft at c.args.draft.now in
    let calls : is_some (of_one l) ≡ true = search rules in
    let some = some_of (of_one l) calls in
    let one = some.1 in
    let up : has_literal (seen_branch at c.args.had.now).literals l ≡ true = search rules in
    subst (λ (q : Spot). Follows types base q.node d d) (had_witness p l some.0 one (ap (λ (ls : List Literal). has_literal ls l) had ∙ up)) (follows_self types base p.node d along)

pub returns-then-has_literal-clause-noted : goal.returns-then-has_literal-clause-noted
returns-then-has_literal-clause-noted c = λ p had.
    let at = tree_at c.args.terms.now in
    let l = seen_literal at (c.args.atom, c.args.holds) in
    let calls : is_some (of_one l) ≡ true = search rules in
    let some = some_of (of_one l) calls in
    let one = some.1 in
    let up : has_literal (seen_branch at c.args.had.now).literals l ≡ true = search rules in
    sym (ap (λ (q : Spot). q.had) (had_witness p l some.0 one (ap (λ (ls : List Literal). has_literal ls l) had ∙ up))) ∙ had

pub returns-clause-value : goal.returns-clause-value
returns-clause-value c = λ types base p had there along.
    let at = tree_at c.args.terms.now in
    let l = seen_literal at (c.args.atom, c.args.holds) in
    let d = seen_draft at c.args.draft.now in
    let e = seen_draft (tree_at c.write_witness_of.new.terms) c.write_witness_of.new.draft in
    let calls : is_some (of_one l) ≡ true = search rules in
    let some = some_of (of_one l) calls in
    let one = some.1 in
    let un : has_literal (seen_branch at c.args.had.now).literals l ≡ false = search rules in
    let lacks : has_literal p.had l ≡ false = ap (λ (ls : List Literal). has_literal ls l) had ∙ un in
    on_ok c.write_witness_of.result _ _ (new_follows types base p l some.0 d e one lacks)
    (c.write_witness_of.ensures.value types base p.node some.0 one there along)

pub returns-clause-noted : goal.returns-clause-noted
returns-clause-noted c = λ p had.
    let old = c.args.terms.now in
    let new = c.write_witness_of.new.terms in
    let at = tree_at old in
    let l = seen_literal at (c.args.atom, c.args.holds) in
    let calls : is_some (of_one l) ≡ true = search rules in
    let some = some_of (of_one l) calls in
    let one = some.1 in
    let un : has_literal (seen_branch at c.args.had.now).literals l ≡ false = search rules in
    let more = had_more (seen_branch at c.args.had.now) (seen_branch at c.add_literal.new.branch) l c.in_ok-add_literal.ensures.value un in
    let kept = ap (λ (n : Node). n.literals) (node_stays old new c.add_literal.new.branch c.write_witness_of.ensures.stays c.in_ok-add_literal.ensures.branch) in
    on_ok_anyway _ c.write_witness_of.result
    (new_noted p l some.0 one (ap (λ (ls : List Literal). has_literal ls l) had ∙ un) ∙ ap (λ (ls : List Literal). ls ++ l ∷ []) had ∙ sym more ∙ sym kept)

pub returns-clause-had : goal.returns-clause-had
returns-clause-had c = on_ok_anyway _ c.write_witness_of.result (branch_stays c.args.terms.now c.write_witness_of.new.terms c.add_literal.new.branch c.write_witness_of.ensures.stays c.in_ok-add_literal.ensures.branch)
