use Rattle.std.proofs.Common.{◌≡◌, ◌∙◌, true, false, sym, rules}
use Rattle.wy_term.specs.Nodes.{tree_at}
use Rattle.wy_cong.specs.Seen.{terms_of}
use Rattle.wy_cong.proofs.AnyLemmas.{or_now, or_later, denies_step}
use Rattle.wy_cong.proofs.denials.any_denies.Goals as goal

pub returns-then-denies_equal : goal.returns-then-denies_equal
returns-then-denies_equal c =
    let at = tree_at c.args.terms.now in
    let up : c.denies_equal.result ≡ true = search rules in
    or_now _ _ _ _ (denies_step (terms_of at c.args.present.now) c.args.labels.now at c.args.branch.now.literals.keys c.loop-i.i c.nth_literal-atom.result c.nth_literal-atom.ensures.value) c.loop-i.invariant (sym c.denies_equal.ensures ∙ up)

pub loop-i-preserved : goal.loop-i-preserved
loop-i-preserved c =
    let at = tree_at c.args.terms.now in
    let un : c.denies_equal.result ≡ false = search rules in
    or_later _ _ _ _ (denies_step (terms_of at c.args.present.now) c.args.labels.now at c.args.branch.now.literals.keys c.loop-i.i c.nth_literal-atom.result c.nth_literal-atom.ensures.value) c.loop-i.invariant (sym c.denies_equal.ensures ∙ un)
