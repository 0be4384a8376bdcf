use Rattle.std.proofs.Common.{◌∙◌, refl, subst, sym, arith}
use Rattle.std.proofs.lemmas.Result.{IfOk-weaker}
use Rattle.wy_search_bounds.proofs.KnownLemmas.{form_here, known_stays, signed_kept}
use Rattle.wy_search_bounds.proofs.known.make.Goals as goal
use Rattle.wy_search_bounds.specs.Known.{IsFormAt}
use Rattle.wy_term.specs.Nodes.{tree_at}

pub note-requires-clause-known : goal.note-requires-clause-known
note-requires-clause-known c = known_stays c.args.terms.now c.form_at.new.terms c.args.known.now c.in_ok-form.ensures.stays c.requires.known

pub note-requires-clause-form : goal.note-requires-clause-form
note-requires-clause-form c =
    let old = c.args.terms.now in
    let lt = c.requires.literal in
    let le = c.in_ok-form.ensures.stays.grows in
    record {
      within = omega (arith, lt, le);
      is = c.in_ok-form.ensures.value
          ∙ form_here (tree_at old) c.args.branch.now.literals.keys c.args.i c.in_ok-number.number c.args.literal c.in_ok-number.ensures c.requires.here
          ∙ sym (signed_kept old c.form_at.new.terms c.args.literal c.in_ok-form.ensures.stays c.requires.literal);
      over = c.in_ok-form.ensures.within;
    }

pub returns-clause-value : goal.returns-clause-value
returns-clause-value c =
    let old = c.args.terms.now in
    let new = c.form_at.new.terms in
    let is = signed_kept old new c.args.literal c.in_ok-form.ensures.stays c.requires.literal ∙ sym (form_here (tree_at old) c.args.branch.now.literals.keys c.args.i _ c.args.literal refl c.requires.here) in
    IfOk-weaker c.note.result _ _ (λ o at. subst (IsFormAt new c.note.new.known o) is at) c.note.ensures.value
