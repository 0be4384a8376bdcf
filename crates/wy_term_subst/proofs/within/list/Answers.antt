use Rattle.std.proofs.Common.{◌≡◌, ◌++◌, [], ◌∷◌, true, nat_eq, rules}
use Rattle.std.specs.HashSet.{contains}
use Rattle.wy_term.specs.Nodes.{plain}
use Rattle.wy_term_subst.specs.View.{all_noted}
use Rattle.wy_term_subst.proofs.WithinLemmas.{one_listed, parts_first}
use Rattle.wy_term_subst.proofs.within.list.Goals as goal

pub returns-then-not-all_noted : goal.returns-then-not-all_noted
returns-then-not-all_noted c =
    let pushed : c.push.new.self.items ≡ c.args.todo.now.items ++ c.args.t ∷ [] = search rules in
    let joined : c.extend_from_slice.new.self.items ≡ c.push.new.self.items ++ c.in_ok-parts.parts.items = search rules in
    record {
      listed = parts_first c.args.terms.now c.args._root c.args.t (plain c.node.result.now) c.in_ok-parts.parts.items c.args.all.now.items (contains nat_eq c.args.noted.now) c.args.todo.now.items c.push.new.self.items c.extend_from_slice.new.self.items c.requires.within c.requires.inside c.node.ensures.tree c.node.ensures.within c.in_ok-parts.ensures.value pushed joined c.requires.listed;
    }

pub returns : goal.returns
returns c =
    let ready : all_noted (contains nat_eq c.args.noted.now) c.in_ok-parts.parts.items ≡ true = search rules in
    let pushed : c.push-2.new.self.items ≡ c.args.all.now.items ++ c.args.t ∷ [] = search rules in
    record {
      listed = one_listed c.args.terms.now c.args._root c.args.t (plain c.node.result.now) c.in_ok-parts.parts.items c.args.all.now.items c.push-2.new.self.items (contains nat_eq c.args.noted.now) (contains nat_eq c.insert.new.self) c.args.todo.now.items c.requires.within c.requires.inside c.node.ensures.tree c.in_ok-parts.ensures.value ready pushed c.in_ok-insert.ensures.updates.0 c.requires.listed;
    }
