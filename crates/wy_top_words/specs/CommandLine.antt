-- What do the words of a command line ask for? A word is its bytes; 45 is `-` and 61 is `=`.
use Rattle.std.specs.Prelude.{◌≡◌, ◌==◌, ◌&&◌, ◌||◌, ℕ, Bool, true, false, List, [], ◌∷◌, ◌++◌, length, Option, Some, None, is_some, if◌then◌else◌}
use Rattle.std.specs.Prelude.{bytes_eq, codes, nat_le, nat_lt, option_and_then, option_map}
use Rattle.std.specs.List.{list_any, before_first, after_first}
use Rattle.std.specs.Str.{all_ascii_digits}
use Rattle.std.specs.Str.Parse.{digits_value}
use Rattle.wy_top_words.specs.declared.command.Kind.{Kind}
use Rattle.wy_top_words.specs.declared.command.Kind.TheVariants as kind

abbrev pub Text : Type 0
Text = List ℕ

-- ---- how a word behind the command is taken where `--` has not come yet

pub data Mark : Type 0 where
  -- the word `--`
  ends : Mark
  -- `--NAME`, or `--NAME=VALUE`
  option : Text → Option Text → Mark
  -- another word of two characters or more that begins with `-`
  stray : Mark
  operand : Mark

abbrev pub value_of : Text → Option Text
value_of text = if list_any (λ b. b == 61) text then Some (after_first (λ b. b == 61) text) else None

-- the word is `--` and this text
abbrev pub long_mark : Text → Mark
long_mark [] = ends
long_mark (b ∷ bs) = option (before_first (λ x. x == 61) (b ∷ bs)) (value_of (b ∷ bs))

-- the word is `-` and this text
abbrev pub dash_mark : Text → Mark
dash_mark [] = operand
dash_mark (b ∷ bs) = if b == 45 then long_mark bs else stray

abbrev pub mark_of : Text → Mark
mark_of [] = operand
mark_of (b ∷ bs) = if b == 45 then dash_mark bs else operand

-- ---- the words behind the command, one after another

-- an option that takes a value
pub data Key : Type 0 where
  budget : Key
  steps : Key
  workers : Key

-- what the words give: the operands in order, the value of each option as it is written, and whether `--stats` is there
pub record Given : Type 0 where
  pub operands : List Text
  pub budget : Option Text
  pub steps : Option Text
  pub workers : Option Text
  pub stats : Bool

-- where the reading stands between two words: what was given so far, the option whose value comes next, and whether
-- `--` was met
pub record Reading : Type 0 where
  pub given : Given
  pub awaits : Option Key
  pub ended : Bool

abbrev pub nothing : Given
nothing = record { operands = []; budget = None; steps = None; workers = None; stats = false }

abbrev pub start : Reading
start = record { given = nothing; awaits = None; ended = false }

abbrev pub with_operand : Text → Reading → Reading
with_operand w r = record r { given = record r.given { operands = r.given.operands ++ w ∷ [] } }

-- the value of an option, which is given once at most
abbrev pub with_value : Key → Text → Reading → Option Reading
with_value budget w r = if is_some r.given.budget then None
    else Some (record r { given = record r.given { budget = Some w }; awaits = None })
with_value steps w r = if is_some r.given.steps then None
    else Some (record r { given = record r.given { steps = Some w }; awaits = None })
with_value workers w r = if is_some r.given.workers then None
    else Some (record r { given = record r.given { workers = Some w }; awaits = None })

abbrev pub with_stats : Reading → Option Reading
with_stats r = if r.given.stats then None else Some (record r { given = record r.given { stats = true } })

abbrev pub key_met : Key → Option Text → Reading → Option Reading
key_met k (Some w) r = with_value k w r
key_met k None r = Some (record r { awaits = Some k })

abbrev pub stats_met : Option Text → Reading → Option Reading
stats_met (Some w) r = None
stats_met None r = with_stats r

abbrev pub option_met : Text → Option Text → Reading → Option Reading
option_met name value r = if bytes_eq (codes "budget") name then key_met budget value r
    else (if bytes_eq (codes "steps") name then key_met steps value r
    else (if bytes_eq (codes "workers") name then key_met workers value r
    else (if bytes_eq (codes "stats") name then stats_met value r else None)))

abbrev pub marked : Mark → Text → Reading → Option Reading
marked ends w r = Some (record r { ended = true })
marked (option name value) w r = option_met name value r
marked stray w r = None
marked operand w r = Some (with_operand w r)

-- a value is digits, so a word that begins with `-` is none
abbrev pub awaited : Key → Mark → Text → Reading → Option Reading
awaited k operand w r = with_value k w r
awaited k _ w r = None

abbrev pub turn_by : Option Key → Text → Reading → Option Reading
turn_by None w r = marked (mark_of w) w r
turn_by (Some k) w r = awaited k (mark_of w) w r

-- one more word
abbrev pub turn : Reading → Text → Option Reading
turn r w = if r.ended then Some (with_operand w r) else turn_by r.awaits w r

unfoldable pub read : Reading → List Text → Option Reading
read r [] = Some r
read r (w ∷ rest) = option_and_then (λ s. read s rest) (turn r w)

-- no option waits for its value
abbrev pub closed : Reading → Option Given
closed r = if is_some r.awaits then None else Some r.given

-- what the words behind the command give, where they are in order
abbrev pub given_by : List Text → Option Given
given_by words = option_and_then closed (read start words)

-- ---- numbers

-- the number that decimal digits alone write, from one to 13 of them
abbrev pub number_of : Text → Option ℕ
number_of t = if nat_lt 0 (length t) && (nat_le (length t) 13 && all_ascii_digits t) then Some (digits_value 10 t) else None

abbrev pub bounded : ℕ → ℕ → Text → Option ℕ
bounded least most t = option_and_then (λ n. if nat_le least n && nat_le n most then Some n else None) (number_of t)

abbrev pub budget_within : Option Text → Option ℕ
budget_within None = Some 20000
budget_within (Some t) = bounded 0 1000000 t

abbrev pub steps_within : Option Text → Option ℕ
steps_within None = Some 10000000
steps_within (Some t) = bounded 0 1000000000000 t

-- the number of workers
abbrev pub workers_within : Option Text → Option ℕ
workers_within None = Some 1
workers_within (Some t) = bounded 1 64 t

-- ---- the commands

pub data Asked : Type 0 where
  -- source, certificates, budget
  check : Text → Text → ℕ → Asked
  -- source, certificates, name, arguments, budget, steps, stats
  run : Text → Text → Text → Text → ℕ → ℕ → Bool → Asked
  -- source, output, budget
  prove : Text → Text → ℕ → Asked
  conds : Text → Asked
  fmt : Text → Asked
  dis : Text → Asked
  -- functions, seed, budget, steps
  big : ℕ → ℕ → ℕ → ℕ → Asked
  -- source, name, tuples, ticks
  probe : Text → Text → ℕ → ℕ → Asked
  -- source, cache, budget
  again : Text → Text → ℕ → Asked

abbrev pub one_of : List Text → Option Text
one_of (a ∷ []) = Some a
one_of _ = None

abbrev pub two_of : List Text → Option (Text × Text)
two_of (a ∷ b ∷ []) = Some (a, b)
two_of _ = None

abbrev pub four_of : List Text → Option (Text × Text × Text × Text)
four_of (a ∷ b ∷ c ∷ d ∷ []) = Some (a, b, c, d)
four_of _ = None

abbrev pub check_asked : Given → Option Asked
check_asked g = if is_some g.steps || g.stats then None
    else option_and_then (λ p. option_map (λ n. check p.0 p.1 n) (budget_within g.budget)) (two_of g.operands)

abbrev pub run_asked : Given → Option Asked
run_asked g = option_and_then (λ p. option_and_then (λ n. option_map (λ m. run p.0 p.1 p.2 p.3 n m g.stats)
    (steps_within g.steps)) (budget_within g.budget)) (four_of g.operands)

abbrev pub prove_asked : Given → Option Asked
prove_asked g = if is_some g.steps || g.stats then None
    else option_and_then (λ p. option_map (λ n. prove p.0 p.1 n) (budget_within g.budget)) (two_of g.operands)

abbrev pub source_of : Given → Option Text
source_of g = if is_some g.budget || (is_some g.steps || g.stats) then None else one_of g.operands

abbrev pub big_asked : Given → Option Asked
big_asked g = if g.stats then None
    else option_and_then (λ p. option_and_then (λ f. option_and_then (λ s. option_and_then (λ n. option_map (λ m. big f s n m)
    (steps_within g.steps)) (budget_within g.budget)) (bounded 0 4294967295 p.1)) (bounded 1 500 p.0)) (two_of g.operands)

-- from 1 to 1,000 tuples, and from 0 to 2,000 ticks
abbrev pub probe_asked : Given → Option Asked
probe_asked g = if is_some g.budget || (is_some g.steps || g.stats) then None
    else option_and_then (λ p. option_and_then (λ n. option_map (λ k. probe p.0 p.1 n k) (bounded 0 2000 p.3)) (bounded 1 1000 p.2)) (four_of g.operands)

abbrev pub again_asked : Given → Option Asked
again_asked g = if is_some g.steps || g.stats then None
    else option_and_then (λ p. option_map (λ n. again p.0 p.1 n) (budget_within g.budget)) (two_of g.operands)

abbrev pub asked : Kind → Given → Option Asked
asked kind.Check g = check_asked g
asked kind.Run g = run_asked g
asked kind.Prove g = prove_asked g
asked kind.Conds g = option_map (λ t. conds t) (source_of g)
asked kind.Fmt g = option_map (λ t. fmt t) (source_of g)
asked kind.Dis g = option_map (λ t. dis t) (source_of g)
asked kind.Big g = big_asked g
asked kind.Probe g = probe_asked g
asked kind.Again g = again_asked g

-- one worker, where no number is given
abbrev pub alone : Option Text → Option ℕ
alone None = Some 1
alone (Some t) = None

-- the number of workers of a command; some commands take none
abbrev pub workers_for : Kind → Option Text → Option ℕ
workers_for kind.Check t = workers_within t
workers_for kind.Run t = workers_within t
workers_for kind.Prove t = workers_within t
workers_for kind.Conds t = alone t
workers_for kind.Fmt t = alone t
workers_for kind.Dis t = alone t
workers_for kind.Big t = workers_within t
workers_for kind.Probe t = alone t
workers_for kind.Again t = workers_within t

-- what is asked for, and how many workers are to judge conditions
pub record Order : Type 0 where
  pub asked : Asked
  pub workers : ℕ

abbrev pub with_workers : Asked → ℕ → Order
with_workers a n = record { asked = a; workers = n }

abbrev pub ordered : Kind → Given → Option Order
ordered k g = option_and_then (λ a. option_map (with_workers a) (workers_for k g.workers)) (asked k g)

abbrev pub other_kind_named : Text → Option Kind
other_kind_named name = if bytes_eq (codes "conds") name then Some kind.Conds
    else (if bytes_eq (codes "fmt") name then Some kind.Fmt
    else (if bytes_eq (codes "dis") name then Some kind.Dis
    else (if bytes_eq (codes "big") name then Some kind.Big
    else (if bytes_eq (codes "probe") name then Some kind.Probe
    else (if bytes_eq (codes "again") name then Some kind.Again else None)))))

abbrev pub kind_named : Text → Option Kind
kind_named name = if bytes_eq (codes "check") name then Some kind.Check
    else (if bytes_eq (codes "run") name then Some kind.Run
    else (if bytes_eq (codes "prove") name then Some kind.Prove else other_kind_named name))

-- what the words behind the program's name ask for, and by how many workers
abbrev pub order_of : List Text → Option Order
order_of [] = None
order_of (name ∷ rest) = option_and_then (λ k. option_and_then (ordered k) (given_by rest)) (kind_named name)

-- what they ask for
abbrev pub command_of : List Text → Option Asked
command_of words = option_map (λ o. o.asked) (order_of words)

-- However many workers are asked for, a command that takes their number asks for the same: where the words behind its name give some number of
-- them, what they ask for is what they would with any other.
abbrev pub NeverByWorkers : Type 0
NeverByWorkers = (k : Kind) (g : Given) (t u : Text) (n m : ℕ) → bounded 1 64 t ≡ Some n → bounded 1 64 u ≡ Some m
    → option_map (λ o. o.asked) (ordered k (record g { workers = Some t })) ≡ option_map (λ o. o.asked) (ordered k (record g { workers = Some u }))
