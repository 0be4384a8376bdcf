use Rattle.std.proofs.Common.{◌∙◌, sym, ap}
use Rattle.wy_vc_exprs.proofs.ResultLemmas.{on_ok}
use Rattle.wy_vc_body.specs.Known.{Known, onto, seen_joined}
use Rattle.wy_vc_body.specs.Paths.{seen_paths}
use Rattle.wy_vc_body.proofs.KnownLemmas.{one_renamed, one_unnamed, same_maker_kept, same_maker_node}
use Rattle.wy_vc_body.proofs.known.join_variable.Goals as goal

pub returns-then-differ-clause-value : goal.returns-then-differ-clause-value
returns-then-differ-clause-value c =
    on_ok c.rename.result _ _ c.rename.ensures.value
    (λ e. e ∙ ap (λ (k : Known). onto (seen_joined c.args.maker.now.terms c.args.maker.now.count c.args.joined.now) k) (one_renamed c.args.words.now (seen_paths c.args.maker.now.terms c.args.paths.now) c.args.x c.args.maker.now.count (sym c.if-differ.ensures.value)))

pub returns-else-differ-clause-value : goal.returns-else-differ-clause-value
returns-else-differ-clause-value c =
    on_ok c.keep.result _ _ c.keep.ensures.value
    (λ e. e ∙ ap (λ (k : Known). onto (seen_joined c.args.maker.now.terms c.args.maker.now.count c.args.joined.now) k) (one_unnamed c.args.words.now (seen_paths c.args.maker.now.terms c.args.paths.now) c.args.x c.args.maker.now.count (sym c.if-differ.ensures.value)))

pub returns-else-differ-clause-kept : goal.returns-else-differ-clause-kept
returns-else-differ-clause-kept c = on_ok c.keep.result _ _ c.keep.ensures.same (λ e. same_maker_kept _ _ e)

pub returns-else-differ-clause-node : goal.returns-else-differ-clause-node
returns-else-differ-clause-node c = on_ok c.keep.result _ _ c.keep.ensures.same (λ e. same_maker_node _ _ e)
