use Rattle.std.proofs.Common.{◌≡◌, ◌++◌, [], ◌∷◌, length, rules}
use Rattle.wy_term_subst.specs.Walk.{pairs_in}
use Rattle.wy_term_subst.proofs.ScopeLemmas.{entered_scope}
use Rattle.wy_term_subst.proofs.walk.enter.Goals as goal

pub returns : goal.returns
returns c =
    let has : c.in_ok-scope.scope.pairs.items ≡ c.args.pair ∷ pairs_in c.args.scopes.now.items c.args.outer = search rules in
    let at : c.len-number.result ≡ length c.args.scopes.now.items = search rules in
    let pushed : c.push.new.self.items ≡ c.args.scopes.now.items ++ c.in_ok-scope.scope ∷ [] = search rules in
    entered_scope c.args.scopes.now.items c.push.new.self.items c.in_ok-scope.scope c.len-number.result (c.args.pair ∷ pairs_in c.args.scopes.now.items c.args.outer) pushed at has
