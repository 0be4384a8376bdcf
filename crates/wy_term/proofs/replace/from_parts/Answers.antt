use Rattle.std.proofs.Common.{◌≡◌, ◌∙◌, sym, ap, subst, length, nat_eq, rules}
use Rattle.std.specs.HashMap.{get}
use Rattle.wy_term.specs.Copying.{Looked}
use Rattle.wy_term.specs.Nodes.{Plain, of, plain, HasPartsBelow}
use Rattle.wy_term.proofs.CopyingLemmas.{looked_length}
use Rattle.wy_term.proofs.ReplacingLemmas.{made_below, anew_at}
use Rattle.wy_term.proofs.replace.from_parts.Goals as goal

pub with_parts-requires : goal.with_parts-requires
with_parts-requires c =
    let looked : Looked (get nat_eq c.args.made.now) (plain c.node-in-Some.result.now).parts c.deref-in-Some.result.now = search rules in
    looked_length (get nat_eq c.args.made.now) _ _ looked

pub make-requires : goal.make-requires
make-requires c =
    let looked : Looked (get nat_eq c.args.made.now) (plain c.node-in-Some.result.now).parts c.deref-in-Some.result.now = search rules in
    subst (λ (n : Plain). HasPartsBelow (length c.args.terms.now) n) (sym c.in_ok-node-in-Some.ensures.value) (made_below c.args.terms.now c.args._pairs.now (get nat_eq c.args.made.now) _ _ c.requires.made looked)

pub returns-in-Ok-clause-value : goal.returns-in-Ok-clause-value
returns-in-Ok-clause-value c =
    let looked : Looked (get nat_eq c.args.made.now) (plain c.node-in-Some.result.now).parts c.deref-in-Some.result.now = search rules in
    anew_at c.args.terms.now c.make.new.self c.args._pairs.now (get nat_eq c.args.made.now) (plain c.node-in-Some.result.now) (plain c.in_ok-node-in-Some.node) c.deref-in-Some.result.now c.args.t c.in-Ok.r c.requires.made looked c.requires.other c.node-in-Some.ensures.tree c.in_ok-node-in-Some.ensures.value c.in-Ok.ensures.value
