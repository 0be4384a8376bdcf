-- What the getters of a parse's matches answer, as what its rows give.
use Rattle.std.proofs.Common.{◌≡◌, ◌∙◌, Bool, codes, false, List, Option, Some, None, option_map, box_value, sym, ap}
use Rattle.std.specs.Prelude.{bytes_eq, option_and_then}
use Rattle.std.specs.Option.{option_map_or}
use Rattle.clap.specs.Simple.{subcommand_rows_of}
use Rattle.clap.specs.Walk.{Row, rows_of}
use Rattle.clap.specs.Matches.{first_value, found_of, matched_of, raw_values, subcommand_name_of}
use Rattle.clap.specs.declared.parser.matches.ArgMatches.{ArgMatches}
use Rattle.clap.specs.declared.parser.matches.ArgMatches.TheViews.{out-ArgMatches, out-SubCommand}
use Rattle.clap.specs.declared.parser.matches.Found.{Found}
use Rattle.clap.proofs.WalkLemmas.{first_value-rows, raw_values-rows}
use Rattle.wy_top_words.specs.CommandLine.{Order, Text, kind_named, ordered}
use Rattle.wy_top_words.specs.Rows.{asked_by, asked_with, given_with, is_flagged}
use Rattle.wy_top_words.specs.declared.command.Kind.{Kind}

abbrev pub text_flag : Option Text → Bool
text_flag o = option_map_or (λ t. bytes_eq t (codes "true")) o false

pub flag_some : (f : Found) (t : Text) → Some t ≡ first_value f (codes "stats") → bytes_eq t (codes "true") ≡ is_flagged (rows_of f)
flag_some f t e = ap text_flag (e ∙ first_value-rows f (codes "stats"))

pub flag_none : (f : Found) → None ≡ first_value f (codes "stats") → false ≡ is_flagged (rows_of f)
flag_none f e = ap text_flag (e ∙ first_value-rows f (codes "stats"))

pub asked_some : (f : Found) (k : Kind) (os : List Text) (b s n : Option Text) (t : Bool) (r : Option Order)
    → Some os ≡ option_map raw_values (matched_of f (codes "operands")) → b ≡ first_value f (codes "budget") → s ≡ first_value f (codes "steps") → n ≡ first_value f (codes "workers")
    → t ≡ is_flagged (rows_of f) → r ≡ ordered k (record { operands = os; budget = b; steps = s; workers = n; stats = t }) → r ≡ asked_with k (rows_of f)
asked_some f k os b s n t r h eb es en et is =
    let budgets = eb ∙ first_value-rows f (codes "budget") in
    let step_counts = es ∙ first_value-rows f (codes "steps") in
    let worker_counts = en ∙ first_value-rows f (codes "workers") in
    let same : ordered k (record { operands = os; budget = b; steps = s; workers = n; stats = t }) ≡ ordered k (given_with (rows_of f) os) =
    λ i. ordered k (record { operands = os; budget = budgets i; steps = step_counts i; workers = worker_counts i; stats = et i }) in
    is ∙ same ∙ ap (option_and_then (λ (xs : List Text). ordered k (given_with (rows_of f) xs))) (h ∙ raw_values-rows f (codes "operands"))

pub asked_none : (f : Found) (k : Kind) → None ≡ option_map raw_values (matched_of f (codes "operands")) → None ≡ asked_with k (rows_of f)
asked_none f k h = ap (option_and_then (λ (xs : List Text). ordered k (given_with (rows_of f) xs))) (h ∙ raw_values-rows f (codes "operands"))

-- ---- the subcommand

abbrev text_or : Text → Option Text → Text
text_or d None = d
text_or d (Some t) = t

abbrev rows_or : List Row → Option (List Row) → List Row
rows_or d None = d
rows_or d (Some rows) = rows

abbrev some_text : Text → Option Text
some_text t = Some t

abbrev some_rows : List Row → Option (List Row)
some_rows rows = Some rows

abbrev paired : {X : Type 0} → (X → Text) → (X → List Row) → X → Text × List Row
paired g h x = (g x, h x)

-- both halves of a pair, where there is one
both : {X : Type 0} (g : X → Text) (h : X → List Row) (t : Text) (rows : List Row) (o : Option X) → some_text t ≡ option_map g o
    → some_rows rows ≡ option_map (λ (p : Text × List Row). p.1) (option_map (paired g h) o) → option_map (paired g h) o ≡ Some (t, rows)
both g h t rows None named found = absurd (cc)
both g h t rows (Some x) named found = λ i. Some ((sym (ap (text_or t) named)) i, (sym (ap (rows_or rows) found)) i)

pub named_kind : (m : ArgMatches) (t : Text) (rows : List Row) (k : Kind) (r : Option Order) → some_text t ≡ subcommand_name_of m
    → some_rows rows ≡ option_map (λ (p : Text × List Row). p.1) (subcommand_rows_of m) → Some k ≡ kind_named t → r ≡ asked_with k rows → r ≡ asked_by (subcommand_rows_of m)
named_kind m t rows k r named found kind is =
    is
    ∙ ap (option_and_then (λ (x : Kind). asked_with x rows)) kind
    ∙ sym (ap asked_by (both (λ b. (out-SubCommand (box_value b)).name.now) (λ b. rows_of (found_of (out-SubCommand (box_value b)).matches)) t rows (out-ArgMatches m).subcommand named found))

pub named_none : (m : ArgMatches) (t : Text) (rows : List Row) → some_text t ≡ subcommand_name_of m
    → some_rows rows ≡ option_map (λ (p : Text × List Row). p.1) (subcommand_rows_of m) → (let o : Option Kind = None in o ≡ kind_named t) → (let r : Option Order = None in r ≡ asked_by (subcommand_rows_of m))
named_none m t rows named found kind =
    ap (option_and_then (λ (x : Kind). asked_with x rows)) kind
    ∙ sym (ap asked_by (both (λ b. (out-SubCommand (box_value b)).name.now) (λ b. rows_of (found_of (out-SubCommand (box_value b)).matches)) t rows (out-ArgMatches m).subcommand named found))
