use Rattle.std.proofs.Common.{◌≡◌, ◌∙◌, Option, Some, None, Bool, true, false, ap, rules, sym, subst}
use Rattle.std.specs.Prelude.{option_map, IfOk}
use Rattle.wy_facts.proofs.StepLemmas.{stays_same}
use Rattle.wy_lemmas.proofs.Options.{if_ok}
use Rattle.wy_search_facts.proofs.SpotLemmas.{witness_had}
use Rattle.wy_search_facts.proofs.witnesses.with_witness.Goals as goal
use Rattle.wy_search_facts.specs.Seen.{seen_spot}
use Rattle.wy_cong.specs.wy_check_spec.judge.Node.{has_literal}
use Rattle.wy_check_nodes.specs.Seen.{seen_branch, seen_literal}
use Rattle.wy_check_splits.specs.Seen.{seen_range}
use Rattle.wy_cong.specs.wy_search_spec.Expansion.{with_witness}
use Rattle.wy_term.specs.Nodes.{tree_at}
use Rattle.wy_cong.specs.wy_check_spec.valid.Ranges.{Range, of_one}

pub returns-in-None-clause-value : goal.returns-in-None-clause-value
returns-in-None-clause-value c =
    let at = tree_at c.args.terms.now in
    let l = seen_literal at (c.args.atom, c.args.holds) in
    ap (with_witness (seen_spot at c.args.spot) l) (sym (ap (option_map (seen_range at)) c.in-None.is) ∙ c.in_ok-of_one.ensures.value)

pub returns-then-has_literal-clause-value : goal.returns-then-has_literal-clause-value
returns-then-has_literal-clause-value c =
    let at = tree_at c.args.terms.now in
    let l = seen_literal at (c.args.atom, c.args.holds) in
    let up : has_literal (seen_branch at c.args.spot.had).literals l ≡ true = search rules in
    witness_had (seen_spot at c.args.spot) l (seen_range at c.in-Some.r) up ∙ ap (with_witness (seen_spot at c.args.spot) l) (sym (ap (option_map (seen_range at)) c.in-Some.is) ∙ c.in_ok-of_one.ensures.value)

pub returns-clause-value : goal.returns-clause-value
returns-clause-value c =
    let at = tree_at c.args.terms.now in
    let l = seen_literal at (c.args.atom, c.args.holds) in
    if_ok c.with_new.result _ _ (λ p is. is ∙ ap (with_witness (seen_spot at c.args.spot) l) (sym (ap (option_map (seen_range at)) c.in-Some.is) ∙ c.in_ok-of_one.ensures.value)) c.with_new.ensures.value
