use Rattle.std.proofs.Common.{◌∙◌, ◌||◌, sym, ap, Bool, get_or}
use Rattle.wy_term_subst.specs.Names.{names_it}
use Rattle.wy_term_subst.specs.View.{symbol_at}
use Rattle.wy_term_subst.proofs.NameLemmas.{any_more}
use Rattle.wy_term_subst.proofs.names.int_names.Goals as goal

pub loop-k-preserved : goal.loop-k-preserved
loop-k-preserved c = λ w n.
    c.in_ok-add_name_at.ensures w n
    ∙ (ap (λ (b : Bool). names_it w n (symbol_at c.args.terms.now (get_or c.args.all.now c.loop-k.k-index 0)) || b) (c.loop-k.invariant w n) ∙ sym (any_more c.args.terms.now (names_it w n) c.args.all.now c.loop-k.k-index 0 c.loop-k-test.true))
