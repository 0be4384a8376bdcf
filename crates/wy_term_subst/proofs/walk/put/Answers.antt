use Rattle.std.proofs.Common.{◌≡◌, ◌∙◌, List, sym, ap, subst, length}
use Rattle.std.specs.Prelude.{IfOk}
use Rattle.wy_term.specs.Term.{Term}
use Rattle.wy_term.specs.Nodes.{tree_at}
use Rattle.wy_term_subst.specs.Substitution.{Put, put}
use Rattle.wy_term_subst.specs.Walk.{env_in, ask_of}
use Rattle.wy_term_subst.proofs.StepLemmas.{begins_env, begins_fits, begins_scope, begins_remembers, begins_count, begins_counts, begins_goes, fits_kept}
use Rattle.wy_term_subst.proofs.walk.put.Goals as goal

pub image_at-requires-clause-scope : goal.image_at-requires-clause-scope
image_at-requires-clause-scope c = begins_scope c.args.scope c.args.taken c.in_ok-walk.walk c.in_ok-walk.ensures

pub image_at-requires-clause-fits : goal.image_at-requires-clause-fits
image_at-requires-clause-fits c = begins_fits c.args.terms.now c.args.scope c.args.taken c.in_ok-walk.walk c.in_ok-walk.ensures c.requires.scope

pub returns-in-Some-clause-value : goal.returns-in-Some-clause-value
returns-in-Some-clause-value c = λ u ns avoids counts.
    let nodes = c.args.terms.now in
    let still = c.in-Some.ensures.still u (begins_remembers nodes c.args.scope c.args.taken c.in_ok-walk.walk u c.in_ok-walk.ensures) ns in
    sym (ap (λ (p : Put). p.term) (ap (λ (e : List (Term × Term)). put u (tree_at nodes c.args.root) e ns) (sym (begins_env nodes c.args.scope c.args.taken c.in_ok-walk.walk c.in_ok-walk.ensures)) ∙ still))

pub opened-requires-clause-scope : goal.opened-requires-clause-scope
opened-requires-clause-scope c = begins_scope c.args.scope c.args.taken c.in_ok-walk.walk c.in_ok-walk.ensures

pub opened-requires-clause-fits : goal.opened-requires-clause-fits
opened-requires-clause-fits c = begins_fits c.args.terms.now c.args.scope c.args.taken c.in_ok-walk.walk c.in_ok-walk.ensures c.requires.scope

pub run-requires-clause-fits : goal.run-requires-clause-fits
run-requires-clause-fits c = fits_kept c.args.terms.now c.opened.new.terms c.in_ok-walk.walk c.opened.new.walk c.in_ok-current-in-None.current.inner c.in_ok-current-in-None.ensures.kept (begins_fits c.args.terms.now c.args.scope c.args.taken c.in_ok-walk.walk c.in_ok-walk.ensures c.requires.scope) c.in_ok-current-in-None.ensures.enlarges

pub returns-clause-value : goal.returns-clause-value
returns-clause-value c = λ u ns avoids counts.
    let old = c.args.terms.now in
    let new = c.opened.new.terms in
    let w = c.in_ok-walk.walk in
    let b = c.in_ok-walk.ensures in
    let fits = begins_fits old c.args.scope c.args.taken w b c.requires.scope in
    let ask = ask_of (tree_at old c.args.root) (env_in old w.scopes.items 0) ns in
    let opens = c.in_ok-current-in-None.ensures.value u (length ns) ns avoids (begins_counts c.args.scope c.args.taken w ns b counts) (begins_count c.args.scope c.args.taken w ns b) in
    let goes = begins_goes old new c.args.scope c.args.taken w c.opened.new.walk c.in_ok-current-in-None.current.inner u (length ns) c.in_ok-current-in-None.current ask b c.in_ok-current-in-None.ensures.kept fits c.in_ok-current-in-None.ensures.enlarges opens in
    subst (λ (e : List (Term × Term)). IfOk c.run.result (λ r. tree_at c.run.new.terms r ≡ (put u (tree_at old c.args.root) e ns).term)) (begins_env old c.args.scope c.args.taken w b) (c.run.ensures.value u (length ns) ask avoids goes)
