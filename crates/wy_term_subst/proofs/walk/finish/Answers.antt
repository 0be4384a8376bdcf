use Rattle.std.proofs.Common.{◌≡◌, ◌∙◌, sym, ap, length, arith}
use Rattle.std.specs.HashMap.{get}
use Rattle.wy_term.specs.Term.{Term}
use Rattle.wy_term.specs.Nodes.{tree_at}
use Rattle.wy_term_subst.specs.Substitution.{put_of}
use Rattle.wy_term_subst.specs.Walk.{env_in, same_place, answer}
use Rattle.wy_term_subst.proofs.ScopeLemmas.{grows_self, env_kept, AreScopes_up}
use Rattle.wy_term_subst.proofs.WalkLemmas.{open_kept, waiting_kept, waits_kept, remembers_kept, outcome_whole, fits_same, stands_same}
use Rattle.wy_term_subst.proofs.walk.finish.Goals as goal

pub note-requires-clause-current : goal.note-requires-clause-current
note-requires-clause-current c =
    let n = length c.args.walk.now.scopes.items in
    open_kept c.args.terms.now c.closed.new.terms n n c.args.current.now c.in_ok-image.ensures.kept (omega arith) c.requires.current

pub hand_on-requires-clause-fits : goal.hand_on-requires-clause-fits
hand_on-requires-clause-fits c =
    let n = length c.args.walk.now.scopes.items in
    fits_same c.closed.new.terms c.args.walk.now c.note.new.walk c.in_ok-note.ensures.scopes c.in_ok-note.ensures.waiting
    (AreScopes_up (length c.args.terms.now) (length c.closed.new.terms) c.args.walk.now.scopes.items c.in_ok-image.ensures.kept.grows c.requires.fits.scopes)
    (waiting_kept c.args.terms.now c.closed.new.terms n n c.args.walk.now.waiting.items c.in_ok-image.ensures.kept (omega arith) c.requires.fits.waiting)
    c.in_ok-note.ensures.made

pub returns-clause-leads : goal.returns-clause-leads
returns-clause-leads c = λ u base first g.
    let old = c.args.terms.now in
    let new = c.closed.new.terms in
    let w = c.args.walk.now in
    let ss = w.scopes.items in
    let current = c.args.current.now in
    let kept = c.in_ok-image.ensures.kept in
    let image = c.in_ok-image.image in
    let value : answer u g.ask ≡ put_of (tree_at new image) g.now =
    g.answers.value
    ∙ (outcome_whole old ss u current g.now c.requires.full ∙ ap (λ (t : Term). put_of t g.now) (sym (c.in_ok-image.ensures.value (env_in old ss current.outer)))) in
    let waits = waits_kept old new ss ss u base w.waiting.items first g.ask kept (grows_self ss) c.requires.fits.scopes c.requires.fits.waiting g.stands.waits in
    let had = remembers_kept old new ss ss u (get same_place w.made) kept (grows_self ss) c.requires.fits.scopes c.requires.fits.made g.stands.remembers in
    let remembers = c.in_ok-note.ensures.remembers u base g.ask g.now value (g.answers.term ∙ sym (kept.trees current.term c.requires.current.term)) (g.answers.env ∙ sym (env_kept old new ss ss current.outer kept c.requires.fits.scopes (grows_self ss) c.requires.current.outer)) g.answers.count g.stands.count had in
    let stands = stands_same new w c.note.new.walk u base first g.ask g.now c.in_ok-note.ensures.scopes c.in_ok-note.ensures.waiting c.in_ok-note.ensures.taken c.in_ok-note.ensures.new_names g.stands.counts g.stands.count waits remembers in
    c.hand_on.ensures.leads u base first g.ask g.now stands value
