use Rattle.std.proofs.Common.{◌≡◌, ◌∙◌, ◌<◌, ◌+◌, get_or, drop, length, sym, true, false, nat_eq, rules}
use Rattle.std.specs.HashSet.{contains}
use Rattle.std.proofs.lemmas.List.{drop_more}
use Rattle.wy_check_nodes.specs.wy_term.Nodes.{tree_at}
use Rattle.wy_check_nodes.specs.wy_facts.Seen.{terms_at}
use Rattle.wy_check_nodes.proofs.NameLemmas.{NamesOnce, names_once}
use Rattle.wy_check_splits.proofs.CommonLemmas.{one_of_is_in, common_now, common_later}
use Rattle.wy_check_splits.proofs.meeting.have_common.Goals as goal

pub returns-then-contains : goal.returns-then-contains
returns-then-contains c =
    let at = tree_at c.args.terms.now in
    let n = length c.args.terms.now in
    let ts = c.args.ts.now in
    let us = c.args.us.now in
    let i = c.loop-t.t-index in
    let t = get_or ts i 0 in
    let once : NamesOnce at n = names_once at n (λ s t ls lt e. (c.one_number_for_each_term.ensures.one s t ls lt).1 e) in
    let low : t < n = c.requires.first i 0 c.loop-t-test.true in
    let up : contains nat_eq c.in_ok-set.set t ≡ true = search rules in
    common_now at (terms_at c.args.terms.now us) (drop i ts) (drop (i + 1) ts) t _ (drop_more ts i 0 c.loop-t-test.true) (one_of_is_in at n once t low us c.requires.second ∙ (sym (c.in_ok-set.ensures t) ∙ up)) c.loop-t.invariant

pub loop-t-preserved : goal.loop-t-preserved
loop-t-preserved c =
    let at = tree_at c.args.terms.now in
    let n = length c.args.terms.now in
    let ts = c.args.ts.now in
    let us = c.args.us.now in
    let i = c.loop-t.t-index in
    let t = get_or ts i 0 in
    let once : NamesOnce at n = names_once at n (λ s t ls lt e. (c.one_number_for_each_term.ensures.one s t ls lt).1 e) in
    let low : t < n = c.requires.first i 0 c.loop-t-test.true in
    let un : contains nat_eq c.in_ok-set.set t ≡ false = search rules in
    common_later at (terms_at c.args.terms.now us) (drop i ts) (drop (i + 1) ts) t _ (drop_more ts i 0 c.loop-t-test.true) (one_of_is_in at n once t low us c.requires.second ∙ (sym (c.in_ok-set.ensures t) ∙ un)) c.loop-t.invariant
