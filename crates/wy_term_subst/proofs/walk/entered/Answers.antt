use Rattle.std.proofs.Common.{◌≡◌, ◌∙◌, ℕ, List, Option, Some, sym, ap, subst, rules}
use Rattle.std.specs.Prelude.{IfOk}
use Rattle.wy_term.specs.Nodes.{plain}
use Rattle.wy_term_subst.specs.View.{symbol_at, symbol_in}
use Rattle.wy_term_subst.specs.Substitution.{binder_of, entered_by}
use Rattle.wy_term_subst.specs.Walk.{env_in, Bounds}
use Rattle.wy_term_subst.proofs.walk.entered.Goals as goal

pub returns-in-Some-clause-value : goal.returns-in-Some-clause-value
returns-in-Some-clause-value c = λ u base ns avoids counts count.
    let symbol : symbol_at c.args.terms.now c.args.t ≡ (plain c.node.result.now).symbol = ap symbol_in c.node.ensures.tree in
    let binds : binder_of (plain c.node.result.now).symbol ≡ Some (c.in-Some.word, c.in-Some.number) = first_of (search rules, cc) in
    subst (λ (o : Option (List ℕ × ℕ)). IfOk c.bound.result (λ r. Bounds c.bound.new.terms c.bound.new.walk base (entered_by u o (env_in c.args.terms.now c.args.walk.now.scopes.items c.args.scope) ns) r.0 r.1)) (sym (ap binder_of symbol ∙ binds)) (c.bound.ensures.value u base ns avoids counts count)
