use Rattle.std.proofs.Common.{length}
use Rattle.wy_term.specs.Nodes.{tree_at}
use Rattle.wy_lin.specs.Seen.{linear_form, linear_sum}
use Rattle.wy_lin.proofs.SeenLemmas.{NamesOnce, names_once, gives_seen, gives_over}
use Rattle.wy_lin.proofs.work.with_form.Goals as goal

pub returns : goal.returns
returns c =
    let once : NamesOnce (tree_at c.args.terms.now) (length c.args.terms.now) = names_once (tree_at c.args.terms.now) (length c.args.terms.now) (λ s t ls lt e. (c.one_number_for_each_term.ensures.one s t ls lt).1 e) in
    record {
      gives = gives_seen (tree_at c.args.terms.now) (length c.args.terms.now) once c.plus.result (linear_sum c.args.f) c.args.m (linear_form c.args.g.now) c.requires.first c.requires.second c.plus.ensures.gives;
      below = gives_over (tree_at c.args.terms.now) (length c.args.terms.now) once c.plus.result (linear_sum c.args.f) c.args.m (linear_form c.args.g.now) c.requires.first c.requires.second c.plus.ensures.gives;
    }
