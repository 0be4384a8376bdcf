use Rattle.std.proofs.Common.{◌≡◌, ℕ, List, ◌++◌, ◌∷◌, [], false, sym, ap, subst, ◌∙◌, ◌≤◌, length}
use Rattle.wy_canon.specs.wy_types.declared.conjuncts.Conjunct.{Conjunct}
use Rattle.wy_canon.specs.wy_types.Conjuncts.{same_term}
use Rattle.wy_canon.specs.wy_types.Same as same
use Rattle.wy_subtype.proofs.KnownLemmas.{interned_new, wide_new, interned_as}
use Rattle.wy_subtype.proofs.reach.intern.Goals as goal

pub returns-then-len-ge-LIMIT-clause-wide : goal.returns-then-len-ge-LIMIT-clause-wide
returns-then-len-ge-LIMIT-clause-wide c =
    let f : same.has_conjunct same_term c.args.conjuncts c.args.conjunct ≡ false = sym c.in_default.ensures.whether in
    wide_new c.args._table.now c.args._depth c.args._first.now c.args.conjuncts c.args.conjunct c.requires.different c.requires.reached c.requires.new f (subst (λ (n : ℕ). 16384 ≤ n) c.len.ensures c.if-len-ge-LIMIT.true)

pub returns-clause-known : goal.returns-clause-known
returns-clause-known c =
    let f : same.has_conjunct same_term c.args.conjuncts c.args.conjunct ≡ false = sym c.in_default.ensures.whether in
    interned_as c.args._table.now c.args._depth c.args._first.now c.args.conjuncts c.args.conjunct (c.args.conjuncts ++ c.args.conjunct ∷ []) c.push.new.self (length c.args.conjuncts) c.len-number.result (sym c.in_ok-push.ensures.ok) (sym c.len-number.ensures)
    (interned_new c.args._table.now c.args._depth c.args._first.now c.args.conjuncts c.args.conjunct c.requires.different c.requires.reached c.requires.new f)
