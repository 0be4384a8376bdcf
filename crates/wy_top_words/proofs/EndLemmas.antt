-- What a parse of the words behind a command ends with.
use Rattle.std.proofs.Common.{◌≡◌, ◌∙◌, ◌||◌, Bool, cond, codes, true, false, List, [], ◌∷◌, ◌++◌, Option, Some, None, option_map, refl, sym, ap, subst}
use Rattle.std.specs.Prelude.{option_and_then, slice_get}
use Rattle.std.specs.List.{find, fold}
use Rattle.std.specs.Option.{unwrap_or}
use Rattle.clap.specs.Walk.{Row, all_of, finished, first_of, has_row, nothing_held, rows_after, settled, walk_from, walked, with_default, with_values}
use Rattle.clap.specs.Kinds.{Kinds, or_else}
use Rattle.clap.specs.Faults.{check_fault, defaults_fault, given_default_fault, level_fault, settle_fault, walk_fault}
use Rattle.clap.specs.declared.builder.value_parser.Reading.TheVariants.{AsWritten}
use Rattle.clap.specs.declared.parser.matches.ValueSource.TheVariants.{DefaultValue}
use Rattle.wy_top_words.proofs.FoundLemmas.{text_flag}
use Rattle.wy_top_words.specs.CommandLine.{Given, Text, asked, given_by, ordered, with_workers, workers_for}
use Rattle.wy_top_words.specs.Rows.{asked_with, given_with, is_flagged}
use Rattle.wy_top_words.specs.Rules.{leaf_shape, operands, rules, stats, valued}
use Rattle.wy_top_words.specs.declared.command.Kind.{Kind}
use Rattle.wy_top_words.specs.declared.command.Kind.TheVariants as kind
use Rattle.wy_top_words.proofs.RowLemmas.{is_of, push_other, push_same}
use Rattle.wy_top_words.proofs.MarkLemmas.{AreTexts}
use Rattle.wy_top_words.proofs.StepLemmas.{Holds, IsFaulty, flag_row, flags, or_nothing}
use Rattle.wy_top_words.proofs.LineLemmas.{Ends, end_fault, end_rows, reads_all}

plain_default : (b : Bool) (k : Kinds) → cond (b || true) [] k ≡ []
plain_default true k = refl
plain_default false k = refl

stats_default : (b : Bool) → cond (b || false) [] (given_default_fault stats (codes "false" ∷ [])) ≡ []
stats_default true = refl
stats_default false = refl

abbrev in_turn : Kinds → Kinds → Kinds → Kinds → Kinds → Kinds
in_turn a b c d e = or_else (or_else a (or_else b (or_else c (or_else d (or_else e []))))) []

-- defaults and the last checks never fail
rest_free : (name : Text) (rows last : List Row) → or_else (defaults_fault rows rules) (check_fault (leaf_shape name) last false) ≡ []
unfolding defaults_fault
rest_free name rows last =
    let budgeted = with_default rows (valued (codes "budget")) in
    let stepped = with_default budgeted (valued (codes "steps")) in
    let staffed = with_default stepped (valued (codes "workers")) in
    λ i. in_turn (plain_default (has_row (codes "budget") rows) (given_default_fault (valued (codes "budget")) []) i)
    (plain_default (has_row (codes "steps") budgeted) (given_default_fault (valued (codes "steps")) []) i)
    (plain_default (has_row (codes "workers") stepped) (given_default_fault (valued (codes "workers")) []) i)
    (stats_default (has_row (codes "stats") staffed) i)
    (plain_default (has_row (codes "operands") (with_default staffed stats)) (given_default_fault operands []) i)

level_is : (name : Text) (words : List Text) → level_fault (leaf_shape name) [] nothing_held words false [] ≡ end_fault name (walk_from nothing_held) words
level_is name words = ap (λ (k : Kinds). or_else (walk_fault (leaf_shape name) [] (walk_from nothing_held) words) (or_else (settle_fault rules false (fold (walked rules []) (walk_from nothing_held) words).held) k))
    (rest_free name (settled rules (fold (walked rules []) (walk_from nothing_held) words).held).rows (finished rules (fold (walked rules []) (walk_from nothing_held) words).held)) ∙ ap (or_else (walk_fault (leaf_shape name) [] (walk_from nothing_held) words)) (or_nothing _)

-- ---- the rows at the end

same_rows : (b : Bool) (rows : List Row) → cond b rows rows ≡ rows
same_rows true rows = refl
same_rows false rows = refl

abbrev flagged : Bool → List Row → List Row
flagged b rows = cond b rows (with_values (codes "stats") AsWritten DefaultValue (codes "false" ∷ []) rows)

-- only `--stats` has a default
finished_is : (rows : List Row) → with_default (with_default (with_default (with_default (with_default rows (valued (codes "budget"))) (valued (codes "steps"))) (valued (codes "workers"))) stats) operands
    ≡ flagged (has_row (codes "stats") rows) rows
finished_is rows = same_rows _ _ ∙ ap (λ (xs : List Row). with_default (with_default (with_default xs (valued (codes "steps"))) (valued (codes "workers"))) stats) (same_rows _ rows)
    ∙ ap (λ (xs : List Row). with_default (with_default xs (valued (codes "workers"))) stats) (same_rows _ rows)
    ∙ ap (λ (xs : List Row). with_default xs stats) (same_rows _ rows)

first_all : (id : Text) (rows : List Row) → first_of id rows ≡ option_and_then (λ vs. slice_get vs 0) (all_of id rows)
first_all id rows = go (find (is_of id) rows)
  where
    go : (o : Option Row) → option_and_then (λ r. slice_get r.values 0) o ≡ option_and_then (λ vs. slice_get vs 0) (option_map (λ (r : Row). r.values) o)
    go None = refl
    go (Some r) = refl

first_given : (o : Option Text) (id : Text) (rows : List Row) → all_of id rows ≡ option_map (λ t. t ∷ []) o → first_of id rows ≡ o
first_given None id rows e = first_all id rows ∙ ap (option_and_then (λ (vs : List Text). slice_get vs 0)) e
first_given (Some t) id rows e = first_all id rows ∙ ap (option_and_then (λ (vs : List Text). slice_get vs 0)) e

-- the rows with the default give what the words gave
pub record Gives (g : Given) (rows : List Row) : Type 0 where
  pub operands : unwrap_or (all_of (codes "operands") rows) [] ≡ g.operands
  pub budget : first_of (codes "budget") rows ≡ g.budget
  pub steps : first_of (codes "steps") rows ≡ g.steps
  pub workers : first_of (codes "workers") rows ≡ g.workers
  pub stats : is_flagged rows ≡ g.stats

gives : (g : Given) (rows : List Row) → Holds g rows → (b : Bool) → g.stats ≡ b → all_of (codes "stats") rows ≡ flags b → Gives g (flagged b rows)
gives g rows h true is f = record {
  operands = h.operands;
  budget = first_given g.budget (codes "budget") rows h.budget;
  steps = first_given g.steps (codes "steps") rows h.steps;
  workers = first_given g.workers (codes "workers") rows h.workers;
  stats = ap text_flag (first_all (codes "stats") rows ∙ ap (option_and_then (λ (vs : List Text). slice_get vs 0)) f) ∙ sym is;
}
gives g rows h false is f = record {
  operands = ap (λ (o : Option (List Text)). unwrap_or o []) (push_other (codes "stats") (codes "operands") AsWritten DefaultValue (codes "false" ∷ []) refl rows) ∙ h.operands;
  budget = first_given g.budget (codes "budget") (flagged false rows) (push_other (codes "stats") (codes "budget") AsWritten DefaultValue (codes "false" ∷ []) refl rows ∙ h.budget);
  steps = first_given g.steps (codes "steps") (flagged false rows) (push_other (codes "stats") (codes "steps") AsWritten DefaultValue (codes "false" ∷ []) refl rows ∙ h.steps);
  workers = first_given g.workers (codes "workers") (flagged false rows) (push_other (codes "stats") (codes "workers") AsWritten DefaultValue (codes "false" ∷ []) refl rows ∙ h.workers);
  stats = ap text_flag (first_all (codes "stats") (flagged false rows) ∙ ap (option_and_then (λ (vs : List Text). slice_get vs 0))
      (push_same (codes "stats") AsWritten DefaultValue (codes "false" ∷ []) refl rows ∙ ap (λ (o : Option (List Text)). Some (unwrap_or o [] ++ codes "false" ∷ [])) f)) ∙ sym is;
}

gives_finished : (g : Given) (rows : List Row) → Holds g rows → Gives g (flagged (has_row (codes "stats") rows) rows)
gives_finished g rows h = subst (λ (b : Bool). Gives g (flagged b rows)) (sym (flag_row g.stats rows h.stats)) (gives g rows h g.stats refl h.stats)

none_both : {X : Type 0} (b : Bool) → ◌≡◌ {A = Option X} (cond b None None) None
none_both true = refl
none_both false = refl

-- each command takes an operand
no_operands : (k : Kind) (g : Given) → g.operands ≡ [] → asked k g ≡ None
no_operands k g e = ap (λ (os : List Text). asked k (record g { operands = os })) e ∙ go k
  where
    go : (j : Kind) → asked j (record g { operands = [] }) ≡ None
    go kind.Check = none_both _
    go kind.Run = refl
    go kind.Prove = none_both _
    go kind.Conds = ap (option_map _) (none_both _)
    go kind.Fmt = ap (option_map _) (none_both _)
    go kind.Dis = ap (option_map _) (none_both _)
    go kind.Big = none_both _
    go kind.Probe = none_both _
    go kind.Again = none_both _

no_order : (k : Kind) (g : Given) → g.operands ≡ [] → ordered k g ≡ None
no_order k g e = ap (option_and_then (λ a. option_map (with_workers a) (workers_for k g.workers))) (no_operands k g e)

asked_given : (k : Kind) (g : Given) (rows : List Row) → Gives g rows → asked_with k rows ≡ ordered k g
asked_given k g rows h = go (all_of (codes "operands") rows) h.operands
  where
    go : (o : Option (List Text)) → unwrap_or o [] ≡ g.operands → option_and_then (λ os. ordered k (given_with rows os)) o ≡ ordered k g
    go None e = sym (no_order k g (sym e))
    go (Some os) e = λ i. ordered k (record { operands = e i; budget = h.budget i; steps = h.steps i; workers = h.workers i; stats = h.stats i })

-- the words behind a command, as a parse of them ends
abbrev pub Meets : Text → Option Given → List Text → Type 0
Meets name None words = IsFaulty (level_fault (leaf_shape name) [] nothing_held words false [])
Meets name (Some g) words = (level_fault (leaf_shape name) [] nothing_held words false [] ≡ []) × ((k : Kind) → asked_with k (rows_after rules [] words) ≡ ordered k g)

pub meets : (name : Text) (words : List Text) → AreTexts words → Meets name (given_by words) words
meets name words us = go (given_by words) (reads_all name words us)
  where
    go : (o : Option Given) → Ends name o (walk_from nothing_held) words → Meets name o words
    go None f = subst IsFaulty (sym (level_is name words)) f
    go (Some g) e = (
      level_is name words ∙ e.0,
      λ k. asked_given k g (rows_after rules [] words) (subst (Gives g) (sym (finished_is (end_rows name (walk_from nothing_held) words)))
          (gives_finished g (end_rows name (walk_from nothing_held) words) e.1)),
    )
