use Rattle.std.proofs.Common.{◌≡◌, ◌≢◌, ℕ, ℤ, pos, get_or, FitsSigned, of_z, rules, ap, ◌∙◌, arith}
use Rattle.std.specs.Int.{w128}
use Rattle.std.proofs.lemmas.Int.{ints, to_z-of_z}
use Rattle.wy_check_spec.specs.wy_term.Nodes.{tree_at}
use Rattle.wy_check_spec.specs.wy_term.Term.{Term}
use Rattle.wy_check_spec.specs.wy_lin.Seen.{seen_part}
use Rattle.wy_check_spec.proofs.wy_facts_proofs.StepLemmas.{stays_on}
use Rattle.wy_check_nodes.proofs.CutLemmas.{product_of, divided_skip, divided_put, put_below}
use Rattle.wy_check_nodes.proofs.cut.divided.Goals as goal
use Rattle.wy_check_nodes.proofs.cut.divided.Goals.{then-part-ne0+in_ok-product+in_ok-push, else-part-ne0}

pub loop-part-preserved : goal.loop-part-preserved
loop-part-preserved c =
    let p : ℤ × ℕ = get_or c.args.parts.now c.loop-part.part-index (pos 0, 0) in
    let fits : FitsSigned w128 p.0 = search rules in
    let d = c.args.d in
    let old = c.args.terms.now in
    let stays = c.loop-part.invariant.stays in
    elim c.if-part-ne0.branch [
      | then-part-ne0+in_ok-product+in_ok-push w ↦
          let new = w.product.new.terms in
          let made = rw (to_z-of_z w128 p.0 fits) at w.in_ok-product.ensures.value in
          let same = stays.trees p.1 (c.requires.parts c.loop-part.part-index (pos 0, 0) c.loop-part-test.true) in
          let tree : tree_at new w.in_ok-product.field-0 ≡ product_of d (seen_part (tree_at old) p) = made ∙ ap (λ (u : Term). product_of d (p.0, u)) same in
          let apart : p.0 ≢ pos 0 = λ e. w.if-part-ne0.true (ap (of_z w128) e) in
          rw (w.terms-is, w.products-is) (record {
            so_far = divided_put (tree_at old) c.loop-part.terms new d c.args.parts.now c.loop-part.part-index (pos 0, 0) c.loop-part.products.items w.push.new.self.items w.in_ok-product.field-0 _ c.loop-part-test.true apart w.in_ok-product.ensures.stays c.loop-part.invariant.below w.in_ok-push.ensures.items tree c.loop-part.invariant.so_far;
            below = put_below c.loop-part.terms new c.loop-part.products.items w.push.new.self.items w.in_ok-product.field-0 w.in_ok-product.ensures.stays c.loop-part.invariant.below w.in_ok-product.ensures.within w.in_ok-push.ensures.items;
            stays = stays_on old c.loop-part.terms new stays w.in_ok-product.ensures.stays;
          })
      | else-part-ne0 w ↦ let zero : p.0 ≡ pos 0 = omega (arith, ints, fits, w.if-part-ne0.false) in rw (w.terms-is, w.products-is) (record {
        so_far = divided_skip (tree_at c.args.terms.now) c.args.d c.args.parts.now c.loop-part.part-index (pos 0, 0) _ _ c.loop-part-test.true zero c.loop-part.invariant.so_far;
        below = c.loop-part.invariant.below;
        stays = c.loop-part.invariant.stays;
      })
    ]
