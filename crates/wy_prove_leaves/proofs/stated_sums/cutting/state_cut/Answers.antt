use Rattle.std.proofs.Common.{◌≡◌, ◌∙◌, ◌<◌, ℕ, List, length, Option, Some, ap, sym, subst}
use Rattle.std.specs.Prelude.{option_map, is_some, IfSome}
use Rattle.std.proofs.lemmas.Result.{IfOk-weaker}
use Rattle.wy_term.specs.Term.{Term}
use Rattle.wy_term.specs.Nodes.{tree_at}
use Rattle.wy_cert.specs.Steps.{cut}
use Rattle.wy_prove_drafts.specs.Draft.{seen_draft}
use Rattle.wy_prove_drafts.specs.Progress.{Progress, Writes}
use Rattle.wy_prove_drafts.proofs.DraftLemmas.{draft_stays, seen_draft_stays}
use Rattle.wy_prove_leaves.specs.stated_sums.Named.{holding}
use Rattle.wy_prove_leaves.specs.stated_sums.Cuts.{cut_among}
use Rattle.wy_prove_leaves.proofs.stated_sums_lemmas.StatingLemmas.{has_number, cut_numbered}
use Rattle.wy_prove_leaves.proofs.stated_sums.cutting.state_cut.Goals as goal

pub write_cut-requires : goal.write_cut-requires
write_cut-requires c = record { draft = draft_stays c.args.terms.now c.cut_stated.new.terms c.args.draft.now c.in_ok-atom.ensures.stays c.requires.draft }

pub returns-in_ok-write_cut-in-Some-clause-value : goal.returns-in_ok-write_cut-in-Some-clause-value
returns-in_ok-write_cut-in-Some-clause-value c = λ types.
    let old = c.args.terms.now in
    let mid = c.cut_stated.new.terms in
    let now = c.write_cut.new.terms in
    let a = c.in-Some.atom in
    let pairs = c.args.pairs.items in
    let before : Progress = seen_draft (tree_at old) c.args.draft.now in
    let behind : Progress = seen_draft (tree_at now) c.write_cut.new.draft in
    let within : a < length mid = subst (λ (o : Option ℕ). IfSome o (λ f. f < length mid)) c.in-Some.is c.in_ok-atom.ensures.within in
    let is : Some (tree_at now a) ≡ cut_among before.node.literals c.args.d pairs =
    ap (λ (t : Term). Some t) (c.in_ok-write_cut-in-Some.ensures.stays.trees a within)
    ∙ (ap (option_map (tree_at mid)) (sym c.in-Some.is)
    ∙ (c.in_ok-atom.ensures.value ∙ ap (λ (ps : List (ℕ × ℕ)). cut_among before.node.literals c.args.d ps) c.deref.ensures.value)) in
    let writes : Writes types (cut c.args.d pairs) before behind (is_some c.in_ok-write_cut-in-Some.field-0) =
    subst (λ (p : Progress). Writes types (cut c.args.d pairs) p behind (is_some c.in_ok-write_cut-in-Some.field-0)) (seen_draft_stays old mid c.args.draft.now c.in_ok-atom.ensures.stays c.requires.draft) (c.in_ok-write_cut-in-Some.ensures.value types) in
    IfOk-weaker c.literal_number.result _ _
    (λ o number. cut_numbered types before behind c.args.d pairs (tree_at now a) o (is_some c.in_ok-write_cut-in-Some.field-0) is writes number)
    (has_number behind.node.literals (holding (tree_at now a)) c.literal_number.result c.literal_number.ensures.there c.literal_number.ensures.lacking)

pub returns-in-None-clause-draft : goal.returns-in-None-clause-draft
returns-in-None-clause-draft c = draft_stays c.args.terms.now c.cut_stated.new.terms c.args.draft.now c.in_ok-atom.ensures.stays c.requires.draft
