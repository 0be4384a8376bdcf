use Rattle.std.proofs.Common.{◌≡◌, ◌∙◌, sym, ap, length, List, arith}
use Rattle.std.specs.HashMap.{get}
use Rattle.wy_term.specs.Term.{Term}
use Rattle.wy_term.specs.Nodes.{tree_at}
use Rattle.wy_term_subst.specs.Substitution.{put}
use Rattle.wy_term_subst.specs.Walk.{env_in, same_place, IsStill}
use Rattle.wy_term_subst.proofs.StillLemmas.{still_from}
use Rattle.wy_term_subst.proofs.WalkLemmas.{made_more, remembers_more}
use Rattle.wy_term_subst.proofs.walk.note.Goals as goal

pub returns-clause-made : goal.returns-clause-made
returns-clause-made c = made_more (length c.args._terms.now) (length c.args.walk.now.scopes.items) c.args.current.now.term c.args.current.now.outer c.args.image (get same_place c.args.walk.now.made) (get same_place c.insert.new.self) c.requires.current.term c.requires.current.outer c.requires.within c.in_ok-insert.ensures.updates.0 c.requires.made

pub returns-clause-remembers : goal.returns-clause-remembers
returns-clause-remembers c = λ u base ask now value is_term is_env count long are.
    let nodes = c.args._terms.now in
    let ss = c.args.walk.now.scopes.items in
    let same : length now ≡ length ask.taken = omega (arith, count, long) in
    let still : IsStill nodes u (tree_at nodes c.args.current.now.term) (env_in nodes ss c.args.current.now.outer) c.args.image = λ ms.
    ap (λ (f : Term). put u f (env_in nodes ss c.args.current.now.outer) ms) (sym is_term)
    ∙ (ap (λ (env : List (Term × Term)). put u ask.term env ms) (sym is_env) ∙ still_from u ask.term ask.env ask.taken now (tree_at nodes c.args.image) value same ms) in
    remembers_more nodes ss u c.args.current.now.term c.args.current.now.outer c.args.image (get same_place c.args.walk.now.made) (get same_place c.insert.new.self) still c.in_ok-insert.ensures.updates.0 are
