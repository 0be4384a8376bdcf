use Rattle.std.proofs.Common.{rules, arith, ◌≡◌, ◌↔◌, ◌-◌, ◌<◌, ◌≤◌, ℕ, List, [], ◌∷◌, ◌++◌, false, IsTrue, refl, sym, ap, ◌∙◌, subst, length, take, drop}
use Rattle.wy_term.specs.Nodes.{plain, of}
use Rattle.wy_term_text.specs.spell.Todo.{arity, Has}
use Rattle.wy_term_text.specs.spell.Done.{trees, IsMade}
use Rattle.wy_term_text.specs.spell.View.{symbol_of}
use Rattle.wy_term_text.proofs.spell_lemmas.DoneLemmas.{cannot_short, cannot_count, below_parts, made_of, sliced}
use Rattle.wy_term_text.proofs.spell.root.make.Goals as goal

pub returns-then-len-base-clause-refused : goal.returns-then-len-base-clause-refused
returns-then-len-base-clause-refused c e =
    let short : length c.args.done.now.items < c.args.base = omega arith in
    cannot_short c.args.terms.now c.args.done.now.items (symbol_of c.args.root) c.args.base short

pub returns-then-not-fits-clause-refused : goal.returns-then-not-fits-clause-refused
returns-then-not-fits-clause-refused c e =
    let fits : IsTrue false ↔ Has (arity (symbol_of c.args.root)) (length c.args.done.now.items - c.args.base) = search rules in
    cannot_count c.args.terms.now c.args.done.now.items (symbol_of c.args.root) c.args.base false fits refl

pub intern-requires : goal.intern-requires
intern-requires c =
    let is : plain c.in_ok-node.node ≡ of (symbol_of c.args.root) (drop c.args.base c.args.done.now.items) = c.in_ok-node.ensures.value ∙ ap (of (symbol_of c.args.root)) (sliced c.deref.result.now c.args.done.now.items c.args.base c.deref.ensures.value) in
    below_parts c.args.done.now.items c.args.terms.now (symbol_of c.args.root) c.args.base (plain c.in_ok-node.node) is c.requires.below

pub returns-clause-value : goal.returns-clause-value
returns-clause-value c e =
    let is : plain c.in_ok-node.node ≡ of (symbol_of c.args.root) (drop c.args.base c.args.done.now.items) = c.in_ok-node.ensures.value ∙ ap (of (symbol_of c.args.root)) (sliced c.deref.result.now c.args.done.now.items c.args.base c.deref.ensures.value) in
    let within : c.args.base ≤ length c.args.done.now.items = omega arith in
    let has : Has (arity (symbol_of c.args.root)) (length (drop c.args.base c.args.done.now.items)) = search rules in
    let items : c.push.new.self.items ≡ take c.args.base c.args.done.now.items ++ c.in_ok-term.term ∷ [] = search rules in
    subst (λ (x : List ℕ). IsMade (symbol_of c.args.root) c.args.base (trees c.args.terms.now c.args.done.now.items) (trees c.intern.new.self x)) (sym items)
    (made_of c.args.terms.now c.intern.new.self c.args.done.now.items (symbol_of c.args.root) c.args.base c.in_ok-term.term (plain c.in_ok-node.node) is c.requires.below c.in_ok-term.ensures.kept within has c.in_ok-term.ensures.tree)
