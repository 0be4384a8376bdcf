use Rattle.std.proofs.Common.{◌≡◌, ◌∙◌, true, length, not, nat_eq, sym, arith}
use Rattle.std.proofs.lemmas.Bool.Decides.{nat_tests}
use Rattle.std.proofs.lemmas.List.{length-map}
use Rattle.wy_term.specs.Nodes.{tree_at}
use Rattle.wy_facts.specs.Seen.{terms_at}
use Rattle.wy_prove_drafts.specs.wy_check_nodes.Seen.{seen_literal, seen_formula}
use Rattle.wy_prove_drafts.specs.Draft.{seen_draft}
use Rattle.wy_prove_leaves.proofs.linked_lemmas.GrownLemmas.{chain_grows}
use Rattle.wy_prove_leaves.proofs.linked.chains.link.Goals as goal

pub returns-then-len-literals-clause-value : goal.returns-then-len-literals-clause-value
returns-then-len-literals-clause-value c = λ types sorted.
    let old = c.args.terms.now in
    let new = c.write_chain.new.terms in
    chain_grows types (terms_at old c.args.chain.now) (seen_draft (tree_at old) c.args.draft.now) (seen_draft (tree_at new) c.write_chain.new.draft) c.in_ok-write_chain.field-0 true sorted (c.in_ok-write_chain.ensures.value types) (λ un. absurd cc)

pub returns-clause-value : goal.returns-clause-value
returns-clause-value c = λ types sorted.
    let old = c.args.terms.now in
    let new = c.write_chain.new.terms in
    let was = c.args.draft.now.branch in
    let now = c.write_chain.new.draft.branch in
    let literals : length now.literals.keys ≡ length was.literals.keys = sym c.len.ensures.len ∙ (c.if-len-literals.false ∙ c.len-literals.ensures.len) in
    chain_grows types (terms_at old c.args.chain.now) (seen_draft (tree_at old) c.args.draft.now) (seen_draft (tree_at new) c.write_chain.new.draft) c.in_ok-write_chain.field-0 (not (nat_eq c.len-2.result c.len-pending.result)) sorted (c.in_ok-write_chain.ensures.value types)
    (λ un.
    let same : c.len-2.result ≡ c.len-pending.result = grind (arith, nat_tests) in
    let pending : length now.pending.keys ≡ length was.pending.keys = sym c.len-2.ensures.len ∙ (same ∙ c.len-pending.ensures.len) in (
      length-map now.literals.keys (seen_literal (tree_at new)) ∙ (literals ∙ sym (length-map was.literals.keys (seen_literal (tree_at old)))),
      length-map now.pending.keys (seen_formula (tree_at new)) ∙ (pending ∙ sym (length-map was.pending.keys (seen_formula (tree_at old)))),
    ))
