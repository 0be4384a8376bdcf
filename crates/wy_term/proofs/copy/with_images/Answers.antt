use Rattle.std.proofs.Common.{◌∙◌, sym, ap, subst, length, nat_eq}
use Rattle.std.specs.HashMap.{get}
use Rattle.wy_term.specs.Nodes.{Plain, HasPartsBelow}
use Rattle.wy_term.proofs.CopyingLemmas.{looked_length, copied_below, copied_ok, AreCopied_kept}
use Rattle.wy_term.proofs.copy.with_images.Goals as goal

pub with_parts-requires : goal.with_parts-requires
with_parts-requires c = looked_length (get nat_eq c.args._made.now) _ _ c.requires.looked ∙ ap (λ (n : Plain). length n.parts) (sym c.node.ensures.value)

pub put-requires : goal.put-requires
put-requires c = subst (λ (n : Plain). HasPartsBelow (length c.args.terms.now) n) (sym c.in_ok-node.ensures.value) (copied_below c.args.from.now c.args.terms.now (get nat_eq c.args._made.now) _ c.args.images.now c.requires.made c.requires.looked)

pub returns-clause-value : goal.returns-clause-value
returns-clause-value c = copied_ok c.args.from.now c.args.terms.now c.put.new.self (get nat_eq c.args._made.now) c.args.images.now c.args.t _ _ c.put.result c.requires.made c.node.ensures.value c.requires.looked c.node.ensures.tree c.in_ok-node.ensures.value c.put.ensures.value

pub returns-clause-made : goal.returns-clause-made
returns-clause-made c =
    AreCopied_kept c.args.from.now c.args.terms.now c.put.new.self (get nat_eq c.args._made.now) c.put.ensures.keeps c.requires.made
