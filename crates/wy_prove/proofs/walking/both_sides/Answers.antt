use Rattle.std.proofs.Common.{ap}
use Rattle.wy_term.specs.Nodes.{tree_at}
use Rattle.wy_prove_rounds.specs.wy_prove_drafts.Draft.{seen_draft}
use Rattle.wy_prove_rounds.proofs.wy_prove_drafts_proofs.DraftLemmas.{progress}
use Rattle.wy_prove.proofs.walking.both_sides.Goals as goal

pub returns-clause-first : goal.returns-clause-first
returns-clause-first c = let at = tree_at c.args.terms.now in ap (progress (seen_draft at c.args.draft.now).steps) c.in_ok-add.ensures.value

pub returns-clause-second : goal.returns-clause-second
returns-clause-second c = c.in_ok-second.ensures.value

pub returns-clause-draft : goal.returns-clause-draft
returns-clause-draft c = record { steps = c.requires.draft.steps; branch = c.in_ok-add.ensures.branch }
