use Rattle.std.proofs.Common.{◌≡◌, ℕ, List, Option, inl, inr, sym, subst}
use Rattle.wy_top.specs.wy_top_answers.Showing.{Sinks}
use Rattle.wy_top.specs.wy_top_answers.Steps.{Setting}
use Rattle.wy_top_words.specs.CommandLine.{Asked, command_of}
use Rattle.wy_top_words.specs.Plain.{words_in}
use Rattle.wy_top.specs.Saves.{Saving}
use Rattle.wy_top.specs.Statement.{Comes, DoesIf}
use Rattle.wy_headline.proofs.CompleteLemmas.{calls_complete}
use Rattle.wy_headline.proofs.MeansLemmas.{calls_mean}
use Rattle.wy_headline.proofs.StartedLemmas.{accepted_go}
use Rattle.wy_headline.proofs.commands.run_words.Goals as goal

-- what comes for words comes for all that ask for the same
same_asked : (words others : List (List ℕ)) (s : Setting) (v : Saving) (status : ℕ) (k : Sinks) → command_of others ≡ command_of words → Comes words s v status k → Comes others s v status k
same_asked words others s v status k same (inl h) = inl (subst (λ (o : Option Asked). DoesIf o s v status k) (sym same) h)
same_asked words others s v status k same (inr h) = inr h

pub run_words-requires : goal.run_words-requires
run_words-requires g c = (c.type_bounds.sync-R, accepted_go)

pub returns-clause-means : goal.returns-clause-means
returns-clause-means g c = calls_mean _ _ _ _ _ c.run_words.ensures.comes

pub returns-clause-complete : goal.returns-clause-complete
returns-clause-complete g c = calls_complete _ _ _ _ _ c.run_words.ensures.comes

pub returns-clause-workers : goal.returns-clause-workers
returns-clause-workers g c = λ others same. same_asked (words_in c.args.words.now) others _ _ _ _ same c.run_words.ensures.comes
