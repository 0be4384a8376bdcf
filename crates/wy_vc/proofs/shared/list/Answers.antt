use Rattle.std.proofs.Common.{◌≡◌, ◌++◌, [], ◌∷◌, true, false, nat_eq, rules}
use Rattle.std.specs.HashSet.{contains}
use Rattle.wy_term.specs.Nodes.{plain}
use Rattle.wy_vc.proofs.SharedLemmas.{grown_none, grown_one, one_listed, parts_under, passed_over}
use Rattle.wy_vc.proofs.shared.list.Goals as goal

pub returns-then-contains : goal.returns-then-contains
returns-then-contains c =
    let is : contains nat_eq c.args.gathered.now.noted c.args.t ≡ true = search rules in
    record {
      listed = λ roots listed. passed_over c.args.terms.now roots c.args.gathered.now.all.items c.args.todo.now.items (contains nat_eq c.args.gathered.now.noted) c.args.t is listed;
      under = λ under. under;
      grows = grown_none c.args.gathered.now.all.items;
    }

pub returns : goal.returns
returns c =
    let pushed : c.push.new.self.items ≡ c.args.gathered.now.all.items ++ c.args.t ∷ [] = search rules in
    let joined : c.extend_from_slice.new.self.items ≡ c.args.todo.now.items ++ c.in_ok-parts.parts.items = search rules in
    let new : contains nat_eq c.args.gathered.now.noted c.args.t ≡ false = search rules in
    record {
      listed = λ roots listed.
          one_listed c.args.terms.now roots c.args.gathered.now.all.items c.args.todo.now.items (contains nat_eq c.args.gathered.now.noted) (contains nat_eq c.insert.new.self) c.args.t (plain c.node.result.now) c.in_ok-parts.parts.items c.push.new.self.items c.extend_from_slice.new.self.items
          c.requires.within c.node.ensures.tree c.node.ensures.within c.in_ok-parts.ensures.value new c.in_ok-insert.ensures.updates.0 pushed joined listed;
      under = λ under. parts_under _ c.args.todo.now.items c.extend_from_slice.new.self.items c.in_ok-parts.parts.items c.args.t (plain c.node.result.now).parts c.requires.within c.node.ensures.within c.in_ok-parts.ensures.value joined under;
      grows = grown_one c.args.gathered.now.all.items c.push.new.self.items c.args.t pushed;
    }
