-- A parse of a whole command line comes to what the definition asks for.
use Rattle.std.proofs.Common.{◌≡◌, ◌∙◌, ◌||◌, ℕ, Bool, cond, codes, true, false, List, [], ◌∷◌, ◌++◌, Option, Some, None, option_map, is_some, refl, sym, ap, ap₂, subst, length}
use Rattle.std.specs.Prelude.{IsUtf8, bytes_eq, option_and_then}
use Rattle.std.specs.List.{fold}
use Rattle.std.specs.Option.{option_map_or}
use Rattle.clap.specs.Lexer.{long_of}
use Rattle.clap.specs.Walk.{Names, Walk, after_step, finished, idle, long_or_other, nothing_held, rows_after, settled, short_or_plain, subcommand_met, subcommand_or_other, trailing, walk_from, walked}
use Rattle.clap.specs.Simple.{App, entered, is_simple, names_of, subcommand_of}
use Rattle.clap.specs.Kinds.{Kinds, or_else}
use Rattle.clap.specs.Faults.{bundle_fault, bundle_step_fault, check_fault, defaults_fault, entered_fault, fault_of, flag_word_fault, flags_fault, is_simple_and_free, level_fault, other_fault, settle_fault, step_fault, turn_fault, walk_fault}
use Rattle.clap.proofs.WalkLemmas.{walk_stopped}
use Rattle.wy_top_words.specs.CommandLine.{Given, Mark, Text, ordered, order_of, ends, given_by, kind_named, mark_of, operand, option, stray}
use Rattle.wy_top_words.specs.Line.{app}
use Rattle.wy_top_words.specs.Rows.{asked_by, asked_with}
use Rattle.wy_top_words.specs.Rules.{leaf_shape, leaves, rules, top_shape}
use Rattle.wy_top_words.specs.declared.command.Kind.{Kind}
use Rattle.wy_top_words.specs.declared.command.Kind.TheVariants as kind
use Rattle.wy_top_words.proofs.MarkLemmas.{AreTexts, Looks, looks, some_char}
use Rattle.wy_top_words.proofs.StepLemmas.{IsFaulty, first_faulty, or_nothing, second_faulty}
use Rattle.wy_top_words.proofs.EndLemmas.{Meets, meets}

abbrev line : App
line = record { top = top_shape; subs = leaves }

pub is_ready : is_simple_and_free app ≡ true
is_ready = refl

pub simple : is_simple app ≡ true
simple = refl

abbrev names : Names
names = names_of line

abbrev begun : Walk
begun = walk_from nothing_held

abbrev stopped : Text → List Text → Walk
stopped name words = record begun { stopped = Some (name, words) }

-- after a command the words are left to it
stopped_free : (name : Text) (seen words : List Text) → walk_fault top_shape names (stopped name seen) words ≡ []
unfolding walk_fault walked
stopped_free name seen [] = refl
stopped_free name seen (x ∷ xs) = stopped_free name (seen ++ x ∷ []) xs

-- the first word is a command
pub record Enters (name : Text) (word : Text) (rest : List Text) : Type 0 where
  pub fault : fault_of app (word ∷ rest) ≡ level_fault (leaf_shape name) [] nothing_held rest false []
  pub rows : subcommand_of app (word ∷ rest) ≡ Some (name, rows_after rules [] rest)

abbrev pub name_of : Kind → Text
name_of kind.Check = codes "check"
name_of kind.Run = codes "run"
name_of kind.Prove = codes "prove"
name_of kind.Conds = codes "conds"
name_of kind.Fmt = codes "fmt"
name_of kind.Dis = codes "dis"
name_of kind.Big = codes "big"
name_of kind.Probe = codes "probe"
name_of kind.Again = codes "again"

abbrev ended_line : List Text → Walk
ended_line words = fold (walked [] names) begun words

-- the faults of the line, by those of its walk and by where the walk ends
abbrev line_fault : Kinds → Walk → Kinds
line_fault fault w = or_else fault (or_else (entered_fault line w.stopped) (or_else (settle_fault [] false w.held)
    (or_else (defaults_fault (settled [] w.held).rows []) (check_fault top_shape (finished [] w.held) (is_some (entered line w.stopped))))))

abbrev turn_by : Text → Option Text → Kinds
turn_by word met = or_else (other_fault top_shape met word nothing_held)
    (step_fault top_shape 1 (subcommand_or_other [] met idle 1 word nothing_held).0 (subcommand_or_other [] met idle 1 word nothing_held).1)

abbrev walk_by : Text → Option Text → Walk
walk_by word met = after_step [] word begun (subcommand_or_other [] met idle 1 word nothing_held).0 (subcommand_or_other [] met idle 1 word nothing_held).1

line_is : (words : List Text) → fault_of app words ≡ line_fault (walk_fault top_shape names begun words) (ended_line words)
line_is words = refl

rows_are : (words : List Text) → subcommand_of app words ≡ entered line (ended_line words).stopped
rows_are words = refl

first_turn : (word : Text) → turn_fault top_shape names begun word ≡ turn_by word (subcommand_met names idle word)
first_turn word = refl

first_walk : (word : Text) → walked [] names begun word ≡ walk_by word (subcommand_met names idle word)
unfolding walked
first_walk word = refl

walk_entered : (name word : Text) (rest : List Text) → subcommand_met names idle word ≡ Some name → ended_line (word ∷ rest) ≡ stopped name rest
walk_entered name word rest met = ap (λ (w : Walk). fold (walked [] names) w rest) (first_walk word ∙ ap (walk_by word) met)
    ∙ sym (walk_stopped [] names begun name [] rest)

no_turn : (k : Kind) (word : Text) → turn_by word (Some (name_of k)) ≡ []
no_turn kind.Check word = refl
no_turn kind.Run word = refl
no_turn kind.Prove word = refl
no_turn kind.Conds word = refl
no_turn kind.Fmt word = refl
no_turn kind.Dis word = refl
no_turn kind.Big word = refl
no_turn kind.Probe word = refl
no_turn kind.Again word = refl

walk_free : (k : Kind) (word : Text) (rest : List Text) → subcommand_met names idle word ≡ Some (name_of k) → walk_fault top_shape names begun (word ∷ rest) ≡ []
unfolding walk_fault
walk_free k word rest met =
    ap₂ or_else (first_turn word ∙ ap (turn_by word) met ∙ no_turn k word)
    (ap (λ (w : Walk). walk_fault top_shape names w rest) (first_walk word ∙ ap (walk_by word) met) ∙ stopped_free (name_of k) [] rest)

line_entered : (k : Kind) (rest : List Text) → line_fault [] (stopped (name_of k) rest) ≡ level_fault (leaf_shape (name_of k)) [] nothing_held rest false []
unfolding defaults_fault
line_entered kind.Check rest = or_nothing _
line_entered kind.Run rest = or_nothing _
line_entered kind.Prove rest = or_nothing _
line_entered kind.Conds rest = or_nothing _
line_entered kind.Fmt rest = or_nothing _
line_entered kind.Dis rest = or_nothing _
line_entered kind.Big rest = or_nothing _
line_entered kind.Probe rest = or_nothing _
line_entered kind.Again rest = or_nothing _

rows_entered : (k : Kind) (rest : List Text) → entered line (Some (name_of k, rest)) ≡ Some (name_of k, rows_after rules [] rest)
rows_entered kind.Check rest = refl
rows_entered kind.Run rest = refl
rows_entered kind.Prove rest = refl
rows_entered kind.Conds rest = refl
rows_entered kind.Fmt rest = refl
rows_entered kind.Dis rest = refl
rows_entered kind.Big rest = refl
rows_entered kind.Probe rest = refl
rows_entered kind.Again rest = refl

enters : (k : Kind) (word : Text) (rest : List Text) → subcommand_met names idle word ≡ Some (name_of k) → Enters (name_of k) word rest
enters k word rest met = record {
  fault = line_is (word ∷ rest) ∙ ap₂ line_fault (walk_free k word rest met) (walk_entered (name_of k) word rest met) ∙ line_entered k rest;
  rows = rows_are (word ∷ rest) ∙ ap (λ (w : Walk). entered line w.stopped) (walk_entered (name_of k) word rest met) ∙ rows_entered k rest;
}

-- `clap` and the definition know the same names
chosen : (a b c d e f g h j : Bool) → option_map (λ (s : Text × List Text). s.0) (cond (a || false) (Some (codes "check", [])) (cond (b || false) (Some (codes "run", [])) (cond (c || false) (Some (codes "prove", []))
    (cond (d || false) (Some (codes "conds", [])) (cond (e || false) (Some (codes "fmt", [])) (cond (f || false) (Some (codes "dis", [])) (cond (g || false) (Some (codes "big", [])) (cond (h || false) (Some (codes "probe", []))
    (cond (j || false) (Some (codes "again", [])) None)))))))))
    ≡ option_map name_of (cond a (Some kind.Check) (cond b (Some kind.Run) (cond c (Some kind.Prove) (cond d (Some kind.Conds) (cond e (Some kind.Fmt) (cond f (Some kind.Dis) (cond g (Some kind.Big) (cond h (Some kind.Probe)
    (cond j (Some kind.Again) None)))))))))
chosen true b c d e f g h j = refl
chosen false true c d e f g h j = refl
chosen false false true d e f g h j = refl
chosen false false false true e f g h j = refl
chosen false false false false true f g h j = refl
chosen false false false false false true g h j = refl
chosen false false false false false false true h j = refl
chosen false false false false false false false true j = refl
chosen false false false false false false false false true = refl
chosen false false false false false false false false false = refl

met_is : (word : Text) → subcommand_met names idle word ≡ option_map name_of (kind_named word)
met_is word = chosen (bytes_eq (codes "check") word) (bytes_eq (codes "run") word) (bytes_eq (codes "prove") word) (bytes_eq (codes "conds") word)
    (bytes_eq (codes "fmt") word) (bytes_eq (codes "dis") word) (bytes_eq (codes "big") word) (bytes_eq (codes "probe") word)
    (bytes_eq (codes "again") word)

named_back : (k : Kind) → kind_named (name_of k) ≡ Some k
named_back kind.Check = refl
named_back kind.Run = refl
named_back kind.Prove = refl
named_back kind.Conds = refl
named_back kind.Fmt = refl
named_back kind.Dis = refl
named_back kind.Big = refl
named_back kind.Probe = refl
named_back kind.Again = refl

no_fault : (k : Kinds) → IsFaulty k → k ≡ [] → ⊥
no_fault k f e = subst IsFaulty e f

-- ---- a first word that is no command

stray_flags : (b : ℕ) (bs : Text) → IsUtf8 (45 ∷ b ∷ bs) → IsFaulty (bundle_fault [] false (b ∷ bs) nothing_held)
unfolding flags_fault
stray_flags b bs u =
    let first = some_char b bs u in
    subst (λ (o : Option ℕ). IsFaulty (bundle_step_fault [] false o (b ∷ bs) 0 nothing_held (flags_fault [] false (length bs)))) (sym first.1) tt

abbrev word_by : Text → Bool → Option (Text × Option Text) → Kinds
word_by word b long = or_else (cond b [] (flag_word_fault [] false long word nothing_held))
    (step_fault top_shape 1 (cond b (nothing_held, trailing 1) (long_or_other [] idle word long nothing_held)).0
    (cond b (nothing_held, trailing 1) (long_or_other [] idle word long nothing_held)).1)

abbrev short_by : Text → Option Text → Kinds
short_by word short = or_else (option_map_or (λ fs. bundle_fault [] false fs nothing_held) short [])
    (step_fault top_shape 1 (short_or_plain [] idle word short nothing_held).0 (short_or_plain [] idle word short nothing_held).1)

turn_none : (word : Text) → turn_by word None ≡ word_by word (bytes_eq word (45 ∷ 45 ∷ [])) (long_of word)
turn_none word = refl

data First (word : Text) : Type 0 where
  refused : IsFaulty (turn_by word None) → First word
  trails : walk_by word None ≡ record begun { is_trailing = true } → First word

first_word : (word : Text) → IsUtf8 word → (m : Mark) → Looks m word → First word
first_word word u ends l =
    trails (ap₂ (λ (b : Bool) (long : Option (Text × Option Text)). after_step [] word begun (cond b (nothing_held, trailing 1) (long_or_other [] idle word long nothing_held)).0
    (cond b (nothing_held, trailing 1) (long_or_other [] idle word long nothing_held)).1) l.ends l.long)
first_word word u (option n v) l = refused (subst IsFaulty (sym (turn_none word ∙ ap₂ (word_by word) l.ends l.long)) tt)
first_word word u stray l =
    let s = l.short in
    refused (subst IsFaulty (sym (turn_none word ∙ ap₂ (word_by word) l.ends l.long ∙ ap (short_by word) s.2))
    (first_faulty _ _ (stray_flags s.0 s.1 (subst IsUtf8 s.3 u))))
first_word word u operand l = refused (subst IsFaulty (sym (turn_none word ∙ ap₂ (word_by word) l.ends l.long ∙ ap (short_by word) l.short)) tt)

no_command : (word : Text) (rest : List Text) → IsUtf8 word → subcommand_met names idle word ≡ None → fault_of app (word ∷ rest) ≡ []
    → asked_by (subcommand_of app (word ∷ rest)) ≡ None
unfolding walk_fault walked
no_command word rest u met free = go (first_word word u (mark_of word) (looks word)) rest free
  where
    go : First word → (xs : List Text) → fault_of app (word ∷ xs) ≡ [] → asked_by (subcommand_of app (word ∷ xs)) ≡ None
    go (refused f) xs none = absurd (no_fault _ (first_faulty _ _ (first_faulty _ _ (subst IsFaulty (sym (first_turn word ∙ ap (turn_by word) met)) f))) none)
    go (trails t) [] none = ap (λ (w : Walk). asked_by (entered line w.stopped)) (first_walk word ∙ ap (walk_by word) met ∙ t)
    go (trails t) (y ∷ ys) none =
        let at_end : walked [] names begun word ≡ record begun { is_trailing = true } = first_walk word ∙ ap (walk_by word) met ∙ t in
        let faulty : IsFaulty (walk_fault top_shape names (walked [] names begun word) (y ∷ ys)) = subst (λ (w : Walk). IsFaulty (walk_fault top_shape names w (y ∷ ys))) (sym at_end) tt in
        absurd (no_fault _ (first_faulty _ _ (second_faulty (turn_fault top_shape names begun word) _ faulty)) none)

-- ---- the whole line

-- where no fault comes, the matches ask for what the words do
pub line_taken : (words : List Text) → AreTexts words → fault_of app words ≡ [] → asked_by (subcommand_of app words) ≡ order_of words
line_taken [] us free = refl
line_taken (word ∷ rest) us free = go (kind_named word) (met_is word)
  where
    given : (k : Kind) (o : Option Given) → Meets (name_of k) o rest → level_fault (leaf_shape (name_of k)) [] nothing_held rest false [] ≡ []
        → asked_with k (rows_after rules [] rest) ≡ option_and_then (ordered k) o
    given k None f none = absurd (no_fault _ f none)
    given k (Some g) e none = e.1 k

    go : (o : Option Kind) → subcommand_met names idle word ≡ option_map name_of o
        → asked_by (subcommand_of app (word ∷ rest)) ≡ option_and_then (λ k. option_and_then (ordered k) (given_by rest)) o
    go None met = no_command word rest us.0 met free
    go (Some k) met =
        let e = enters k word rest met in
        ap asked_by e.rows ∙ ap (option_and_then (λ (j : Kind). asked_with j (rows_after rules [] rest))) (named_back k)
        ∙ given k (given_by rest) (meets (name_of k) rest us.1) (sym e.fault ∙ free)

-- where a fault comes, the words ask for nothing
pub line_refused : (words : List Text) → AreTexts words → IsFaulty (fault_of app words) → order_of words ≡ None
unfolding defaults_fault walk_fault
line_refused [] us f = absurd f
line_refused (word ∷ rest) us f = go (kind_named word) (met_is word)
  where
    given : (k : Kind) (o : Option Given) → Meets (name_of k) o rest → IsFaulty (level_fault (leaf_shape (name_of k)) [] nothing_held rest false [])
        → option_and_then (ordered k) o ≡ None
    given k None e faulty = refl
    given k (Some g) e faulty = absurd (no_fault _ faulty e.0)

    go : (o : Option Kind) → subcommand_met names idle word ≡ option_map name_of o → option_and_then (λ k. option_and_then (ordered k) (given_by rest)) o ≡ None
    go None met = refl
    go (Some k) met = given k (given_by rest) (meets (name_of k) rest us.1) (subst IsFaulty (enters k word rest met).fault f)
