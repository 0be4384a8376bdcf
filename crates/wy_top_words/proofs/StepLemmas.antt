-- One word, as `clap` takes it and as the definition does.
use Rattle.std.proofs.Common.{◌≡◌, ◌∙◌, ◌&&◌, ◌||◌, ◌⊎◌, ℕ, Bool, cond, codes, true, false, true≢false, List, [], ◌∷◌, ◌++◌, Option, Some, None, option_map, is_some, inl, inr, refl, sym, ap, ap₂, subst, length}
use Rattle.std.specs.Prelude.{⊤, IsUtf8, bytes_eq}
use Rattle.std.specs.Option.{option_map_or, unwrap_or}
use Rattle.clap.specs.Lexer.{long_of}
use Rattle.clap.specs.Walk.{Held, Row, Rule, Step, Waiting, Walk, after_flag, after_step, all_of, arg_by_long, has_row, idle, is_pending, long_met, long_or_other, option as waits_for, positional, pushed as next_value, settled, settled_rows, short_or_plain, to_positional, trailing, walked}
use Rattle.clap.specs.Kinds.{Kinds, or_else}
use Rattle.clap.specs.Faults.{bundle_fault, bundle_step_fault, flag_word_fault, flags_fault, long_fault, positional_fault, settle_fault, step_fault, turn_fault, use_fault}
use Rattle.clap.specs.declared.error.kind.ErrorKind.TheVariants.{ArgumentConflict}
use Rattle.wy_lemmas.proofs.Choices.{and_false, or_none as or_false}
use Rattle.wy_top_words.specs.CommandLine.{Given, Key, Mark, Reading, Text, awaited, budget, ends, key_met, mark_of, marked, operand, option, stats_met, steps, stray, turn, turn_by, with_operand, with_stats, with_value, workers}
use Rattle.wy_top_words.specs.Rules.{leaf_shape, rules, stats, operands, valued}
use Rattle.wy_top_words.proofs.RowLemmas.{has_row_all, push_other, push_same, set_other, set_same}
use Rattle.wy_top_words.proofs.MarkLemmas.{Looks, looks, some_char}

-- some kind comes
abbrev pub IsFaulty : Kinds → Type 0
IsFaulty [] = ⊥
IsFaulty (k ∷ ks) = ⊤

pub first_faulty : (a b : Kinds) → IsFaulty a → IsFaulty (or_else a b)
first_faulty [] b h = absurd h
first_faulty (k ∷ ks) b h = tt

pub second_faulty : (a b : Kinds) → IsFaulty b → IsFaulty (or_else a b)
second_faulty [] b h = h
second_faulty (k ∷ ks) b h = tt

abbrev pub id_of : Key → Text
id_of budget = codes "budget"
id_of steps = codes "steps"
id_of workers = codes "workers"

abbrev pub flags : Bool → Option (List Text)
flags true = Some (codes "true" ∷ [])
flags false = None

-- the rows hold what was given
pub record Holds (g : Given) (rows : List Row) : Type 0 where
  pub operands : unwrap_or (all_of (codes "operands") rows) [] ≡ g.operands
  pub budget : all_of (codes "budget") rows ≡ option_map (λ t. t ∷ []) g.budget
  pub steps : all_of (codes "steps") rows ≡ option_map (λ t. t ∷ []) g.steps
  pub workers : all_of (codes "workers") rows ≡ option_map (λ t. t ∷ []) g.workers
  pub stats : all_of (codes "stats") rows ≡ flags g.stats

abbrev pub Pending : Type 0
Pending = Option (Text × List Text)

abbrev pub held : List Row → Pending → Held
held rows p = record { rows = rows; pending = p; skip = 0 }

-- a walk between two words
abbrev pub at : List Row → Pending → Waiting → Bool → Walk
at rows p q ended = record { held = held rows p; waiting = q; position = 1; is_trailing = ended; stopped = None }

-- no option waits for a value
abbrev pub is_plain : Waiting → Bool
is_plain (waits_for id) = false
is_plain _ = true

-- what is pending is used without a fault, and the rows then hold what was given
pub record Settles (g : Given) (rows : List Row) (p : Pending) : Type 0 where
  pub free : settle_fault rules false (held rows p) ≡ []
  pub holds : Holds g (settled_rows rules p rows)

pub record IsOpen (r : Reading) (w : Walk) : Type 0 where
  pub rows : List Row
  pub pending : Pending
  pub waiting : Waiting
  pub is : w ≡ at rows pending waiting r.ended
  pub awaits : r.awaits ≡ None
  pub plain : r.ended ≡ false → is_plain waiting ≡ true
  pub settles : Settles r.given rows pending

pub record IsWaiting (r : Reading) (w : Walk) : Type 0 where
  pub key : Key
  pub rows : List Row
  pub is : w ≡ at rows (Some (id_of key, [])) (waits_for (id_of key)) false
  pub awaits : r.awaits ≡ Some key
  pub begun : r.ended ≡ false
  pub holds : Holds r.given rows

abbrev pub Tied : Reading → Walk → Type 0
Tied r w = IsOpen r w ⊎ IsWaiting r w

-- what is pending fails as soon as it is used
pub record IsDoomed (w : Walk) : Type 0 where
  pub rows : List Row
  pub pending : Pending
  pub waiting : Waiting
  pub ended : Bool
  pub is : w ≡ at rows pending waiting ended
  pub plain : ended ≡ false → is_plain waiting ≡ true
  pub faulty : IsFaulty (settle_fault rules false (held rows pending))

-- what one more word comes to
abbrev pub Comes : Option Reading → Kinds → Walk → Type 0
Comes None fault w = IsFaulty fault ⊎ IsDoomed w
Comes (Some r) fault w = (fault ≡ []) × Tied r w

-- ---- the rows after a use

pub pushed : (g : Given) (rows : List Row) (w : Text) → Holds g rows
    → Holds (record g { operands = g.operands ++ w ∷ [] }) (settled_rows rules (Some (codes "operands", w ∷ [])) rows)
pushed g rows w h = record {
  operands = ap (λ (o : Option (List Text)). unwrap_or o []) (push_same (codes "operands") _ _ (w ∷ []) refl rows) ∙ ap (λ (xs : List Text). xs ++ w ∷ []) h.operands;
  budget = push_other (codes "operands") (codes "budget") _ _ _ refl rows ∙ h.budget;
  steps = push_other (codes "operands") (codes "steps") _ _ _ refl rows ∙ h.steps;
  workers = push_other (codes "operands") (codes "workers") _ _ _ refl rows ∙ h.workers;
  stats = push_other (codes "operands") (codes "stats") _ _ _ refl rows ∙ h.stats;
}

no_row : (o : Option Text) (id : Text) (rows : List Row) → all_of id rows ≡ option_map (λ t. t ∷ []) o → has_row id rows ≡ is_some o
no_row None id rows e = has_row_all id rows ∙ ap (λ (x : Option (List Text)). is_some x) e
no_row (Some t) id rows e = has_row_all id rows ∙ ap (λ (x : Option (List Text)). is_some x) e

pub flag_row : (b : Bool) (rows : List Row) → all_of (codes "stats") rows ≡ flags b → has_row (codes "stats") rows ≡ b
flag_row true rows e = has_row_all (codes "stats") rows ∙ ap (λ (x : Option (List Text)). is_some x) e
flag_row false rows e = has_row_all (codes "stats") rows ∙ ap (λ (x : Option (List Text)). is_some x) e

-- the rows after the value of an option
abbrev pub valued_rows : Key → Text → List Row → List Row
valued_rows k w rows = settled_rows rules (Some (id_of k, w ∷ [])) rows

budget_set : (g : Given) (rows : List Row) (w : Text) → Holds g rows → has_row (codes "budget") rows ≡ false
    → Holds (record g { budget = Some w }) (valued_rows budget w rows)
budget_set g rows w h none = record {
  operands = ap (λ (o : Option (List Text)). unwrap_or o []) (set_other (codes "budget") (codes "operands") _ _ _ refl rows) ∙ h.operands;
  budget = set_same (codes "budget") _ _ (w ∷ []) refl rows none;
  steps = set_other (codes "budget") (codes "steps") _ _ _ refl rows ∙ h.steps;
  workers = set_other (codes "budget") (codes "workers") _ _ _ refl rows ∙ h.workers;
  stats = set_other (codes "budget") (codes "stats") _ _ _ refl rows ∙ h.stats;
}

steps_set : (g : Given) (rows : List Row) (w : Text) → Holds g rows → has_row (codes "steps") rows ≡ false
    → Holds (record g { steps = Some w }) (valued_rows steps w rows)
steps_set g rows w h none = record {
  operands = ap (λ (o : Option (List Text)). unwrap_or o []) (set_other (codes "steps") (codes "operands") _ _ _ refl rows) ∙ h.operands;
  budget = set_other (codes "steps") (codes "budget") _ _ _ refl rows ∙ h.budget;
  steps = set_same (codes "steps") _ _ (w ∷ []) refl rows none;
  workers = set_other (codes "steps") (codes "workers") _ _ _ refl rows ∙ h.workers;
  stats = set_other (codes "steps") (codes "stats") _ _ _ refl rows ∙ h.stats;
}

workers_set : (g : Given) (rows : List Row) (w : Text) → Holds g rows → has_row (codes "workers") rows ≡ false
    → Holds (record g { workers = Some w }) (valued_rows workers w rows)
workers_set g rows w h none = record {
  operands = ap (λ (o : Option (List Text)). unwrap_or o []) (set_other (codes "workers") (codes "operands") _ _ _ refl rows) ∙ h.operands;
  budget = set_other (codes "workers") (codes "budget") _ _ _ refl rows ∙ h.budget;
  steps = set_other (codes "workers") (codes "steps") _ _ _ refl rows ∙ h.steps;
  workers = set_same (codes "workers") _ _ (w ∷ []) refl rows none;
  stats = set_other (codes "workers") (codes "stats") _ _ _ refl rows ∙ h.stats;
}

abbrev pub stats_rows : List Row → List Row
stats_rows rows = settled_rows rules (Some (codes "stats", [])) rows

stats_set : (g : Given) (rows : List Row) → Holds g rows → has_row (codes "stats") rows ≡ false
    → Holds (record g { stats = true }) (stats_rows rows)
stats_set g rows h none = record {
  operands = ap (λ (o : Option (List Text)). unwrap_or o []) (set_other (codes "stats") (codes "operands") _ _ _ refl rows) ∙ h.operands;
  budget = set_other (codes "stats") (codes "budget") _ _ _ refl rows ∙ h.budget;
  steps = set_other (codes "stats") (codes "steps") _ _ _ refl rows ∙ h.steps;
  workers = set_other (codes "stats") (codes "workers") _ _ _ refl rows ∙ h.workers;
  stats = set_same (codes "stats") _ _ (codes "true" ∷ []) refl rows none;
}

-- ---- a word behind `--`, and an operand

fault_free : (rows : List Row) (p : Pending) → positional_fault rules false operands (held rows p) ≡ settle_fault rules false (held rows p)
fault_free rows p = ap (λ (b : Bool). cond b [] (settle_fault rules false (held rows p))) (and_false (is_pending operands p))

abbrev placed : List Row → Pending → Text → Bool → Bool → Walk
placed rows p word b t = record {
  held = next_value (codes "operands") word (cond b (held rows p) (settled rules (held rows p)));
  waiting = positional;
  position = 1;
  is_trailing = t;
  stopped = None;
}

operand_walk : (rows : List Row) (p : Pending) (q : Waiting) (ended : Bool) (word : Text)
    → to_positional rules (Some operands) word (at rows p q ended) (held rows p) ≡ at (settled_rows rules p rows) (Some (codes "operands", word ∷ [])) positional ended
operand_walk rows p q ended word = ap₂ (placed rows p word) (and_false (is_pending operands p)) (or_false ended)

opened : (r : Reading) (rows : List Row) (p : Pending) (q : Waiting) (ended : Bool) (word : Text) (w : Walk) (fault : Kinds)
    → r.ended ≡ ended → r.awaits ≡ None → Settles r.given rows p → fault ≡ positional_fault rules false operands (held rows p)
    → w ≡ to_positional rules (Some operands) word (at rows p q ended) (held rows p) → Comes (Some (with_operand word r)) fault w
opened r rows p q ended word w fault e a s same walks = (
  same ∙ fault_free rows p ∙ s.free,
  inl (record {
    rows = settled_rows rules p rows;
    pending = Some (codes "operands", word ∷ []);
    waiting = positional;
    is = walks ∙ operand_walk rows p q ended word ∙ ap (at (settled_rows rules p rows) (Some (codes "operands", word ∷ [])) positional) (sym e);
    awaits = a;
    plain = λ _. refl;
    settles = record { free = refl; holds = pushed r.given (settled_rows rules p rows) word s.holds };
  }),
)

module _ (name : Text) where
  -- a word behind `--`
  ended_turn : (rows : List Row) (p : Pending) (q : Waiting) (word : Text)
      → turn_fault (leaf_shape name) [] (at rows p q true) word ≡ positional_fault rules false operands (held rows p)
  ended_turn rows p q word = refl

  ended_walk : (rows : List Row) (p : Pending) (q : Waiting) (word : Text)
      → walked rules [] (at rows p q true) word ≡ to_positional rules (Some operands) word (at rows p q true) (held rows p)
  unfolding walked
  ended_walk rows p q word = refl

  abbrev met_by : List Row → Pending → Waiting → Text → Bool → Option (Text × Option Text) → Held × Step
  met_by rows p q word b long = cond b (held rows p, trailing 1) (long_or_other rules q word long (held rows p))

  abbrev fault_by : List Row → Pending → Waiting → Text → Bool → Option (Text × Option Text) → Kinds
  fault_by rows p q word b long = or_else (cond b [] (flag_word_fault rules false long word (held rows p)))
      (step_fault (leaf_shape name) 1 (met_by rows p q word b long).0 (met_by rows p q word b long).1)

  abbrev walk_by : List Row → Pending → Waiting → Text → Bool → Option (Text × Option Text) → Walk
  walk_by rows p q word b long = after_step rules word (at rows p q false) (met_by rows p q word b long).0 (met_by rows p q word b long).1

  turn_is : (rows : List Row) (p : Pending) (q : Waiting) (word : Text)
      → turn_fault (leaf_shape name) [] (at rows p q false) word ≡ fault_by rows p q word (bytes_eq word (45 ∷ 45 ∷ [])) (long_of word)
  turn_is rows p idle word = refl
  turn_is rows p (waits_for id) word = refl
  turn_is rows p positional word = refl

  walk_is : (rows : List Row) (p : Pending) (q : Waiting) (word : Text)
      → walked rules [] (at rows p q false) word ≡ walk_by rows p q word (bytes_eq word (45 ∷ 45 ∷ [])) (long_of word)
  unfolding walked
  walk_is rows p idle word = refl
  walk_is rows p (waits_for id) word = refl
  walk_is rows p positional word = refl

  -- a word that is no option and not `--`, by what follows its hyphen
  abbrev other_fault : List Row → Pending → Waiting → Text → Option Text → Kinds
  other_fault rows p q word short = or_else (option_map_or (λ fs. bundle_fault rules false fs (held rows p)) short [])
      (step_fault (leaf_shape name) 1 (short_or_plain rules q word short (held rows p)).0 (short_or_plain rules q word short (held rows p)).1)

  abbrev other_walk : List Row → Pending → Waiting → Text → Option Text → Walk
  other_walk rows p q word short = after_step rules word (at rows p q false) (short_or_plain rules q word short (held rows p)).0
      (short_or_plain rules q word short (held rows p)).1

  plain_fault : (rows : List Row) (p : Pending) (q : Waiting) (word : Text) → is_plain q ≡ true
      → other_fault rows p q word None ≡ positional_fault rules false operands (held rows p)
  plain_fault rows p idle word e = refl
  plain_fault rows p (waits_for id) word e = absurd (true≢false (sym e))
  plain_fault rows p positional word e = refl

  plain_walk : (rows : List Row) (p : Pending) (q : Waiting) (word : Text) → is_plain q ≡ true
      → other_walk rows p q word None ≡ to_positional rules (Some operands) word (at rows p q false) (held rows p)
  plain_walk rows p idle word e = refl
  plain_walk rows p (waits_for id) word e = absurd (true≢false (sym e))
  plain_walk rows p positional word e = refl

  operand_turn : (rows : List Row) (p : Pending) (q : Waiting) (word : Text) → Looks operand word
      → turn_fault (leaf_shape name) [] (at rows p q false) word ≡ other_fault rows p q word None
  operand_turn rows p q word l = turn_is rows p q word ∙ ap₂ (fault_by rows p q word) l.ends l.long ∙ ap (other_fault rows p q word) l.short

  operand_walks : (rows : List Row) (p : Pending) (q : Waiting) (word : Text) → Looks operand word
      → walked rules [] (at rows p q false) word ≡ other_walk rows p q word None
  operand_walks rows p q word l = walk_is rows p q word ∙ ap₂ (walk_by rows p q word) l.ends l.long ∙ ap (other_walk rows p q word) l.short

  -- a stray word is refused
  bundle_faulty : (rows : List Row) (p : Pending) (b : ℕ) (bs : Text) → IsUtf8 (45 ∷ b ∷ bs) → IsFaulty (bundle_fault rules false (b ∷ bs) (held rows p))
  unfolding flags_fault
  bundle_faulty rows p b bs u =
      let first = some_char b bs u in
      subst (λ (o : Option ℕ). IsFaulty (bundle_step_fault rules false o (b ∷ bs) 0 (held rows p) (flags_fault rules false (length bs)))) (sym first.1) tt

  stray_turn : (rows : List Row) (p : Pending) (q : Waiting) (word : Text) → IsUtf8 word → Looks stray word
      → IsFaulty (turn_fault (leaf_shape name) [] (at rows p q false) word)
  stray_turn rows p q word u l =
      let s = l.short in
      let faulty = bundle_faulty rows p s.0 s.1 (subst IsUtf8 s.3 u) in
      subst IsFaulty (sym (turn_is rows p q word ∙ ap₂ (fault_by rows p q word) l.ends l.long ∙ ap (other_fault rows p q word) s.2))
      (first_faulty _ _ faulty)

  -- `--`
  ends_turn : (rows : List Row) (p : Pending) (q : Waiting) (word : Text) → Looks ends word
      → (turn_fault (leaf_shape name) [] (at rows p q false) word ≡ []) × (walked rules [] (at rows p q false) word ≡ at rows p q true)
  ends_turn rows p q word l = (
    turn_is rows p q word ∙ ap₂ (fault_by rows p q word) l.ends l.long,
    walk_is rows p q word ∙ ap₂ (walk_by rows p q word) l.ends l.long,
  )

  -- an option, by the argument that it names
  abbrev found_fault : List Row → Pending → Waiting → Text → Option Text → Option Rule → Kinds
  found_fault rows p q word v found = or_else (long_fault rules false found v (held rows p))
      (step_fault (leaf_shape name) 1
      (after_flag rules q word (long_met rules found v (held rows p)).0 (long_met rules found v (held rows p)).1).0
      (after_flag rules q word (long_met rules found v (held rows p)).0 (long_met rules found v (held rows p)).1).1)

  abbrev found_walk : List Row → Pending → Waiting → Text → Option Text → Option Rule → Walk
  found_walk rows p q word v found = after_step rules word (at rows p q false)
      (after_flag rules q word (long_met rules found v (held rows p)).0 (long_met rules found v (held rows p)).1).0
      (after_flag rules q word (long_met rules found v (held rows p)).0 (long_met rules found v (held rows p)).1).1

  abbrev named : Bool → Bool → Bool → Bool → Option Rule
  named b s n t = cond b (Some (valued (codes "budget"))) (cond s (Some (valued (codes "steps"))) (cond n (Some (valued (codes "workers"))) (cond t (Some stats) None)))

  named_is : (b s n t : Bool) → cond (b || false) (Some (valued (codes "budget"))) (cond (s || false) (Some (valued (codes "steps"))) (cond (n || false) (Some (valued (codes "workers"))) (cond (t || false) (Some stats) None))) ≡ named b s n t
  named_is b s n t = λ i. named (or_false b i) (or_false s i) (or_false n i) (or_false t i)

  found_is : (n : Text) → arg_by_long rules n ≡ named (bytes_eq (codes "budget") n) (bytes_eq (codes "steps") n) (bytes_eq (codes "workers") n) (bytes_eq (codes "stats") n)
  found_is n = named_is (bytes_eq (codes "budget") n) (bytes_eq (codes "steps") n) (bytes_eq (codes "workers") n) (bytes_eq (codes "stats") n)

  option_turn : (rows : List Row) (p : Pending) (q : Waiting) (word n : Text) (v : Option Text) → Looks (option n v) word
      → turn_fault (leaf_shape name) [] (at rows p q false) word
      ≡ found_fault rows p q word v (named (bytes_eq (codes "budget") n) (bytes_eq (codes "steps") n) (bytes_eq (codes "workers") n) (bytes_eq (codes "stats") n))
  option_turn rows p q word n v l = turn_is rows p q word ∙ ap₂ (fault_by rows p q word) l.ends l.long ∙ ap (found_fault rows p q word v) (found_is n)

  option_walks : (rows : List Row) (p : Pending) (q : Waiting) (word n : Text) (v : Option Text) → Looks (option n v) word
      → walked rules [] (at rows p q false) word
      ≡ found_walk rows p q word v (named (bytes_eq (codes "budget") n) (bytes_eq (codes "steps") n) (bytes_eq (codes "workers") n) (bytes_eq (codes "stats") n))
  option_walks rows p q word n v l = walk_is rows p q word ∙ ap₂ (walk_by rows p q word) l.ends l.long ∙ ap (found_walk rows p q word v) (found_is n)

-- ---- what a word comes to

pub or_nothing : (a : Kinds) → or_else a [] ≡ a
or_nothing [] = refl
or_nothing (k ∷ ks) = refl

abbrev again : Bool → Kinds
again b = or_else (cond (b && true) (ArgumentConflict ∷ []) []) []

-- a value that is used at once
set_comes : (k : Key) (r : Reading) (rows : List Row) (v : Text) (w : Walk) (fault : Kinds) → r.ended ≡ false → Holds r.given rows
    → fault ≡ use_fault false (valued (id_of k)) (v ∷ []) rows → w ≡ at (valued_rows k v rows) None idle false → Comes (with_value k v r) fault w
set_comes budget r rows v w fault e h same walks = go (is_some r.given.budget) (no_row r.given.budget (codes "budget") rows h.budget)
  where
    go : (b : Bool) → has_row (codes "budget") rows ≡ b → Comes (cond b None (Some (record r { given = record r.given { budget = Some v }; awaits = None }))) fault w
    go true has = inl (subst IsFaulty (sym (same ∙ ap again has)) tt)
    go false has = (
      same ∙ ap again has,
      inl (record {
        rows = valued_rows budget v rows;
        pending = None;
        waiting = idle;
        is = walks ∙ ap (at (valued_rows budget v rows) None idle) (sym e);
        awaits = refl;
        plain = λ _. refl;
        settles = record { free = refl; holds = budget_set r.given rows v h has };
      }),
    )
set_comes steps r rows v w fault e h same walks = go (is_some r.given.steps) (no_row r.given.steps (codes "steps") rows h.steps)
  where
    go : (b : Bool) → has_row (codes "steps") rows ≡ b → Comes (cond b None (Some (record r { given = record r.given { steps = Some v }; awaits = None }))) fault w
    go true has = inl (subst IsFaulty (sym (same ∙ ap again has)) tt)
    go false has = (
      same ∙ ap again has,
      inl (record {
        rows = valued_rows steps v rows;
        pending = None;
        waiting = idle;
        is = walks ∙ ap (at (valued_rows steps v rows) None idle) (sym e);
        awaits = refl;
        plain = λ _. refl;
        settles = record { free = refl; holds = steps_set r.given rows v h has };
      }),
    )
set_comes workers r rows v w fault e h same walks = go (is_some r.given.workers) (no_row r.given.workers (codes "workers") rows h.workers)
  where
    go : (b : Bool) → has_row (codes "workers") rows ≡ b → Comes (cond b None (Some (record r { given = record r.given { workers = Some v }; awaits = None }))) fault w
    go true has = inl (subst IsFaulty (sym (same ∙ ap again has)) tt)
    go false has = (
      same ∙ ap again has,
      inl (record {
        rows = valued_rows workers v rows;
        pending = None;
        waiting = idle;
        is = walks ∙ ap (at (valued_rows workers v rows) None idle) (sym e);
        awaits = refl;
        plain = λ _. refl;
        settles = record { free = refl; holds = workers_set r.given rows v h has };
      }),
    )

-- a value that is pending
wait_comes : (k : Key) (r : Reading) (rows : List Row) (v : Text) (w : Walk) (fault : Kinds) → r.ended ≡ false → Holds r.given rows
    → fault ≡ [] → w ≡ at rows (Some (id_of k, v ∷ [])) idle false → Comes (with_value k v r) fault w
wait_comes budget r rows v w fault e h same walks = go (is_some r.given.budget) (no_row r.given.budget (codes "budget") rows h.budget)
  where
    go : (b : Bool) → has_row (codes "budget") rows ≡ b → Comes (cond b None (Some (record r { given = record r.given { budget = Some v }; awaits = None }))) fault w
    go true has = inr (record { rows = rows; pending = Some (codes "budget", v ∷ []); waiting = idle; ended = false; is = walks; plain = λ _. refl; faulty = subst IsFaulty (sym (ap again has)) tt })
    go false has = (
      same,
      inl (record {
        rows = rows;
        pending = Some (codes "budget", v ∷ []);
        waiting = idle;
        is = walks ∙ ap (at rows (Some (codes "budget", v ∷ [])) idle) (sym e);
        awaits = refl;
        plain = λ _. refl;
        settles = record { free = ap again has; holds = budget_set r.given rows v h has };
      }),
    )
wait_comes steps r rows v w fault e h same walks = go (is_some r.given.steps) (no_row r.given.steps (codes "steps") rows h.steps)
  where
    go : (b : Bool) → has_row (codes "steps") rows ≡ b → Comes (cond b None (Some (record r { given = record r.given { steps = Some v }; awaits = None }))) fault w
    go true has = inr (record { rows = rows; pending = Some (codes "steps", v ∷ []); waiting = idle; ended = false; is = walks; plain = λ _. refl; faulty = subst IsFaulty (sym (ap again has)) tt })
    go false has = (
      same,
      inl (record {
        rows = rows;
        pending = Some (codes "steps", v ∷ []);
        waiting = idle;
        is = walks ∙ ap (at rows (Some (codes "steps", v ∷ [])) idle) (sym e);
        awaits = refl;
        plain = λ _. refl;
        settles = record { free = ap again has; holds = steps_set r.given rows v h has };
      }),
    )
wait_comes workers r rows v w fault e h same walks = go (is_some r.given.workers) (no_row r.given.workers (codes "workers") rows h.workers)
  where
    go : (b : Bool) → has_row (codes "workers") rows ≡ b → Comes (cond b None (Some (record r { given = record r.given { workers = Some v }; awaits = None }))) fault w
    go true has = inr (record { rows = rows; pending = Some (codes "workers", v ∷ []); waiting = idle; ended = false; is = walks; plain = λ _. refl; faulty = subst IsFaulty (sym (ap again has)) tt })
    go false has = (
      same,
      inl (record {
        rows = rows;
        pending = Some (codes "workers", v ∷ []);
        waiting = idle;
        is = walks ∙ ap (at rows (Some (codes "workers", v ∷ [])) idle) (sym e);
        awaits = refl;
        plain = λ _. refl;
        settles = record { free = ap again has; holds = workers_set r.given rows v h has };
      }),
    )

stats_comes : (r : Reading) (rows : List Row) (w : Walk) (fault : Kinds) → r.ended ≡ false → r.awaits ≡ None → Holds r.given rows
    → fault ≡ use_fault false stats [] rows → w ≡ at (stats_rows rows) None idle false → Comes (with_stats r) fault w
stats_comes r rows w fault e a h same walks = go r.given.stats (flag_row r.given.stats rows h.stats)
  where
    go : (b : Bool) → has_row (codes "stats") rows ≡ b → Comes (cond b None (Some (record r { given = record r.given { stats = true } }))) fault w
    go true has = inl (subst IsFaulty (sym (same ∙ ap again has)) tt)
    go false has = (
      same ∙ ap again has,
      inl (record {
        rows = stats_rows rows;
        pending = None;
        waiting = idle;
        is = walks ∙ ap (at (stats_rows rows) None idle) (sym e);
        awaits = a;
        plain = λ _. refl;
        settles = record { free = refl; holds = stats_set r.given rows h has };
      }),
    )

-- what was pending is used first, without a fault
used_after : (rows : List Row) (p : Pending) (next : Kinds) → settle_fault rules false (held rows p) ≡ []
    → or_else (or_else (settle_fault rules false (held rows p)) next) [] ≡ next
used_after rows p next free = ap (λ (k : Kinds). or_else (or_else k next) []) free ∙ or_nothing next

awaiting : (k : Key) (r : Reading) (rows : List Row) (p : Pending) (w : Walk) (fault : Kinds) → r.ended ≡ false → Settles r.given rows p
    → fault ≡ or_else (settle_fault rules false (held rows p)) [] → w ≡ at (settled_rows rules p rows) (Some (id_of k, [])) (waits_for (id_of k)) false
    → Comes (Some (record r { awaits = Some k })) fault w
awaiting k r rows p w fault e s same walks = (
  same ∙ ap (λ (x : Kinds). or_else x []) s.free,
  inr (record { key = k; rows = settled_rows rules p rows; is = walks; awaits = refl; begun = e; holds = s.holds }),
)

module _ (name : Text) where
  option_comes : (r : Reading) (rows : List Row) (p : Pending) (q : Waiting) (word : Text) (v : Option Text) (w : Walk) (fault : Kinds)
      → r.ended ≡ false → r.awaits ≡ None → Settles r.given rows p → (b s n t : Bool)
      → fault ≡ found_fault name rows p q word v (named name b s n t) → w ≡ found_walk name rows p q word v (named name b s n t)
      → Comes (cond b (key_met budget v r) (cond s (key_met steps v r) (cond n (key_met workers v r) (cond t (stats_met v r) None)))) fault w
  option_comes r rows p q word (Some v) w fault e a st true s n t same walks =
      set_comes budget r (settled_rows rules p rows) v w fault e st.holds (same ∙ used_after rows p _ st.free) walks
  option_comes r rows p q word (Some v) w fault e a st false true n t same walks =
      set_comes steps r (settled_rows rules p rows) v w fault e st.holds (same ∙ used_after rows p _ st.free) walks
  option_comes r rows p q word (Some v) w fault e a st false false true t same walks =
      set_comes workers r (settled_rows rules p rows) v w fault e st.holds (same ∙ used_after rows p _ st.free) walks
  option_comes r rows p q word (Some v) w fault e a st false false false true same walks = inl (subst IsFaulty (sym same) tt)
  option_comes r rows p q word (Some v) w fault e a st false false false false same walks = inl (subst IsFaulty (sym same) tt)
  option_comes r rows p q word None w fault e a st true s n t same walks = awaiting budget r rows p w fault e st same walks
  option_comes r rows p q word None w fault e a st false true n t same walks = awaiting steps r rows p w fault e st same walks
  option_comes r rows p q word None w fault e a st false false true t same walks = awaiting workers r rows p w fault e st same walks
  option_comes r rows p q word None w fault e a st false false false true same walks =
      stats_comes r (settled_rows rules p rows) w fault e a st.holds (same ∙ used_after rows p _ st.free) walks
  option_comes r rows p q word None w fault e a st false false false false same walks = inl (subst IsFaulty (sym same) tt)

  -- an option where what is pending fails
  option_faulty : (rows : List Row) (p : Pending) (q : Waiting) (word : Text) (v : Option Text) → IsFaulty (settle_fault rules false (held rows p))
      → (b s n t : Bool) → IsFaulty (found_fault name rows p q word v (named name b s n t))
  option_faulty rows p q word (Some v) f true s n t = first_faulty _ _ (first_faulty _ _ f)
  option_faulty rows p q word (Some v) f false true n t = first_faulty _ _ (first_faulty _ _ f)
  option_faulty rows p q word (Some v) f false false true t = first_faulty _ _ (first_faulty _ _ f)
  option_faulty rows p q word (Some v) f false false false true = tt
  option_faulty rows p q word (Some v) f false false false false = tt
  option_faulty rows p q word None f true s n t = first_faulty _ _ f
  option_faulty rows p q word None f false true n t = first_faulty _ _ f
  option_faulty rows p q word None f false false true t = first_faulty _ _ f
  option_faulty rows p q word None f false false false true = first_faulty _ _ (first_faulty _ _ f)
  option_faulty rows p q word None f false false false false = tt

  open_mark : (r : Reading) (rows : List Row) (p : Pending) (q : Waiting) (word : Text) → IsUtf8 word → r.ended ≡ false → r.awaits ≡ None
      → is_plain q ≡ true → Settles r.given rows p → (m : Mark) → Looks m word
      → Comes (marked m word r) (turn_fault (leaf_shape name) [] (at rows p q false) word) (walked rules [] (at rows p q false) word)
  open_mark r rows p q word u e a plain st ends l =
      let t = ends_turn name rows p q word l in
      (t.0, inl (record { rows = rows; pending = p; waiting = q; is = t.1; awaits = a; plain = λ x. absurd (true≢false x); settles = st }))
  open_mark r rows p q word u e a plain st (option n v) l = option_comes r rows p q word v _ _ e a st (bytes_eq (codes "budget") n)
      (bytes_eq (codes "steps") n) (bytes_eq (codes "workers") n) (bytes_eq (codes "stats") n) (option_turn name rows p q word n v l) (option_walks name rows p q word n v l)
  open_mark r rows p q word u e a plain st stray l = inl (stray_turn name rows p q word u l)
  open_mark r rows p q word u e a plain st operand l = opened r rows p q false word _ _ e a st
      (operand_turn name rows p q word l ∙ plain_fault name rows p q word plain) (operand_walks name rows p q word l ∙ plain_walk name rows p q word plain)

  open_step : (r : Reading) (rows : List Row) (p : Pending) (q : Waiting) (word : Text) → IsUtf8 word → (e : Bool) → r.ended ≡ e → r.awaits ≡ None
      → (e ≡ false → is_plain q ≡ true) → Settles r.given rows p
      → Comes (turn r word) (turn_fault (leaf_shape name) [] (at rows p q e) word) (walked rules [] (at rows p q e) word)
  open_step r rows p q word u true is a plain st =
      subst (λ (o : Option Reading). Comes o (turn_fault (leaf_shape name) [] (at rows p q true) word) (walked rules [] (at rows p q true) word))
      (sym (ap (λ (b : Bool). cond b (Some (with_operand word r)) (turn_by r.awaits word r)) is))
      (opened r rows p q true word _ _ is a st (ended_turn name rows p q word) (ended_walk name rows p q word))
  open_step r rows p q word u false is a plain st =
      subst (λ (o : Option Reading). Comes o (turn_fault (leaf_shape name) [] (at rows p q false) word) (walked rules [] (at rows p q false) word))
      (sym (ap₂ (λ (b : Bool) (k : Option Key). cond b (Some (with_operand word r)) (turn_by k word r)) is a))
      (open_mark r rows p q word u is a (plain refl) st (mark_of word) (looks word))

  abbrev waiting_at : Key → List Row → Walk
  waiting_at k rows = at rows (Some (id_of k, [])) (waits_for (id_of k)) false

  pub missing : (k : Key) (rows : List Row) → IsFaulty (settle_fault rules false (held rows (Some (id_of k, []))))
  missing budget rows = tt
  missing steps rows = tt
  missing workers rows = tt

  value_fault : (k : Key) (rows : List Row) (word : Text) → other_fault name rows (Some (id_of k, [])) (waits_for (id_of k)) word None ≡ []
  value_fault budget rows word = refl
  value_fault steps rows word = refl
  value_fault workers rows word = refl

  value_walk : (k : Key) (rows : List Row) (word : Text)
      → other_walk name rows (Some (id_of k, [])) (waits_for (id_of k)) word None ≡ at rows (Some (id_of k, word ∷ [])) idle false
  value_walk budget rows word = refl
  value_walk steps rows word = refl
  value_walk workers rows word = refl

  waiting_mark : (r : Reading) (k : Key) (rows : List Row) (word : Text) → IsUtf8 word → r.ended ≡ false → Holds r.given rows → (m : Mark) → Looks m word
      → Comes (awaited k m word r) (turn_fault (leaf_shape name) [] (waiting_at k rows) word) (walked rules [] (waiting_at k rows) word)
  waiting_mark r k rows word u e h ends l =
      let t = ends_turn name rows (Some (id_of k, [])) (waits_for (id_of k)) word l in
      inr (record { rows = rows; pending = Some (id_of k, []); waiting = waits_for (id_of k); ended = true; is = t.1; plain = λ x. absurd (true≢false x); faulty = missing k rows })
  waiting_mark r k rows word u e h (option n v) l =
      inl (subst IsFaulty (sym (option_turn name rows (Some (id_of k, [])) (waits_for (id_of k)) word n v l))
      (option_faulty rows (Some (id_of k, [])) (waits_for (id_of k)) word v (missing k rows) (bytes_eq (codes "budget") n) (bytes_eq (codes "steps") n) (bytes_eq (codes "workers") n) (bytes_eq (codes "stats") n)))
  waiting_mark r k rows word u e h stray l = inl (stray_turn name rows (Some (id_of k, [])) (waits_for (id_of k)) word u l)
  waiting_mark r k rows word u e h operand l = wait_comes k r rows word _ _ e h
      (operand_turn name rows (Some (id_of k, [])) (waits_for (id_of k)) word l ∙ value_fault k rows word)
      (operand_walks name rows (Some (id_of k, [])) (waits_for (id_of k)) word l ∙ value_walk k rows word)

  -- one more word
  pub step : (r : Reading) (w : Walk) (word : Text) → IsUtf8 word → Tied r w
      → Comes (turn r word) (turn_fault (leaf_shape name) [] w word) (walked rules [] w word)
  step r w word u (inl o) = subst (λ (x : Walk). Comes (turn r word) (turn_fault (leaf_shape name) [] x word) (walked rules [] x word)) (sym o.is)
      (open_step r o.rows o.pending o.waiting word u r.ended refl o.awaits o.plain o.settles)
  step r w word u (inr o) = subst (λ (x : Walk). Comes (turn r word) (turn_fault (leaf_shape name) [] x word) (walked rules [] x word)) (sym o.is)
      (subst (λ (x : Option Reading). Comes x (turn_fault (leaf_shape name) [] (waiting_at o.key o.rows) word) (walked rules [] (waiting_at o.key o.rows) word))
      (sym (ap₂ (λ (b : Bool) (k : Option Key). cond b (Some (with_operand word r)) (turn_by k word r)) o.begun o.awaits))
      (waiting_mark r o.key o.rows word u o.begun o.holds (mark_of word) (looks word)))

  doomed_mark : (rows : List Row) (p : Pending) (q : Waiting) (word : Text) → IsUtf8 word → is_plain q ≡ true → IsFaulty (settle_fault rules false (held rows p))
      → (m : Mark) → Looks m word → IsFaulty (turn_fault (leaf_shape name) [] (at rows p q false) word) ⊎ IsDoomed (walked rules [] (at rows p q false) word)
  doomed_mark rows p q word u plain f ends l =
      let t = ends_turn name rows p q word l in
      inr (record { rows = rows; pending = p; waiting = q; ended = true; is = t.1; plain = λ x. absurd (true≢false x); faulty = f })
  doomed_mark rows p q word u plain f (option n v) l = inl (subst IsFaulty (sym (option_turn name rows p q word n v l))
      (option_faulty rows p q word v f (bytes_eq (codes "budget") n) (bytes_eq (codes "steps") n) (bytes_eq (codes "workers") n) (bytes_eq (codes "stats") n)))
  doomed_mark rows p q word u plain f stray l = inl (stray_turn name rows p q word u l)
  doomed_mark rows p q word u plain f operand l =
      inl (subst IsFaulty (sym (operand_turn name rows p q word l ∙ plain_fault name rows p q word plain ∙ fault_free rows p)) f)

  doomed_at : (rows : List Row) (p : Pending) (q : Waiting) (word : Text) → IsUtf8 word → (e : Bool) → (e ≡ false → is_plain q ≡ true)
      → IsFaulty (settle_fault rules false (held rows p)) → IsFaulty (turn_fault (leaf_shape name) [] (at rows p q e) word) ⊎ IsDoomed (walked rules [] (at rows p q e) word)
  doomed_at rows p q word u true plain f = inl (subst IsFaulty (sym (ended_turn name rows p q word ∙ fault_free rows p)) f)
  doomed_at rows p q word u false plain f = doomed_mark rows p q word u (plain refl) f (mark_of word) (looks word)

  pub doomed_step : (w : Walk) (word : Text) → IsUtf8 word → IsDoomed w
      → IsFaulty (turn_fault (leaf_shape name) [] w word) ⊎ IsDoomed (walked rules [] w word)
  doomed_step w word u d = subst (λ (x : Walk). IsFaulty (turn_fault (leaf_shape name) [] x word) ⊎ IsDoomed (walked rules [] x word)) (sym d.is)
      (doomed_at d.rows d.pending d.waiting word u d.ended d.plain d.faulty)
