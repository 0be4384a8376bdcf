use Rattle.std.proofs.Common.{◌≡◌, ◌∙◌, ◌-◌, suc, false, sym, refl, arith, rules}
use Rattle.wy_term.specs.Nodes.{tree_at}
use Rattle.wy_cong.specs.Seen.{terms_of}
use Rattle.wy_cong.proofs.ClosingLemmas.{rounds_end, rounds_rest}
use Rattle.wy_cong.proofs.SignatureLemmas.{round_stays}
use Rattle.wy_cong.specs.Signatures.{AreGrouped}
use Rattle.wy_cong.proofs.closing.rounds.Goals as goal

pub returns-then-are_same : goal.returns-then-are_same
returns-then-are_same c =
    let left : c.loop-left.left ≡ suc (c.loop-left.left - 1) = omega arith in
    let copy : c.in_ok-before.before.items ≡ c.loop-left.labels.items = search rules in
    let same : c.in_ok-before.before.items ≡ c.in_ok-labels.labels.items = search rules in
    rounds_end c.loop-left.left (c.loop-left.left - 1) (terms_of (tree_at c.args.terms.now) c.args.present.now) c.in_ok-before.before.items c.loop-left.labels.items c.in_ok-labels.labels.items _ left copy c.in_ok-labels.ensures same c.loop-left.invariant

pub returns-then-not-groups : goal.returns-then-not-groups
returns-then-not-groups c =
    let ts = terms_of (tree_at c.args.terms.now) c.args.present.now in
    let ks = c.args.present.now.numbers.items in
    let un : c.in_ok-groups.groups.parted ≡ false = search rules in
    let are : AreGrouped c.args.terms.now ts c.loop-left.labels.items ks c.in_ok-groups.groups = search rules in
    sym (rounds_rest c.loop-left.left ts c.loop-left.labels.items (round_stays c.args.terms.now ts c.loop-left.labels.items ks c.in_ok-groups.groups 0 are refl un)) ∙ c.loop-left.invariant
