-- How terms begin, as the reader sees it.
use Rattle.std.specs.Prelude.{◌≡◌, ℕ, List, [], ◌∷◌, ◌++◌, Bool, true, false, ◌==◌, ◌||◌, codes, Option, Some, None, ℤ, if◌then◌else◌}
use Rattle.wy_term.specs.wy_data.scan.Front.{is_digit, is_word_byte, heads}
use Rattle.wy_term.specs.wy_data.scan.Numbers.{IsWholeAt}
use Rattle.wy_term.specs.wy_data.scan.Words.{IsNumberedAt}
use Rattle.wy_term.specs.Term.{Symbol, Term}
use Rattle.wy_term.specs.Term as term
use Rattle.wy_term.specs.Sorts.{Sort, int_sort, val_sort, formula_sort}
use Rattle.wy_term_text.specs.declared.spell.lead.Lead.{Lead}
use Rattle.wy_term_text.specs.declared.spell.lead.Lead.TheVariants as lead
use Rattle.wy_term_text.specs.declared.spell.lead.Class.{Class}
use Rattle.wy_term_text.specs.declared.spell.lead.Class.TheVariants as class
use Rattle.wy_term_text.specs.spell.Grammar.{elements, members, texts, goes_on, goes_on_or_space}
use Rattle.wy_term_text.specs.spell.Todo.{Work, a_term, root, first, first_field, field_name, set_field_name, kind_name, type_number, bind, gap_works, Ways, All, Rooted}

-- ---- words at the front

-- what stands behind the word, if the text begins with it
abbrev pub behind_word : List ℕ → List ℕ → Option (List ℕ)
behind_word [] i = Some i
behind_word (c ∷ w) [] = None
behind_word (c ∷ w) (b ∷ i) = if b == c then behind_word w i else None

abbrev pub row_or : Lead → Option (List ℕ) → Option (Lead × List ℕ) → Option (Lead × List ℕ)
row_or l None other = other
row_or l (Some k) other = Some (l, k)

-- the first of these words at the front, and what follows it
abbrev pub lead_in : List (List ℕ × Lead) → List ℕ → Option (Lead × List ℕ)
lead_in [] i = None
lead_in (row ∷ rows) i = row_or row.1 (behind_word row.0 i) (lead_in rows i)

abbrev pub leads : List (List ℕ × Lead)
leads =
    (codes "add(", lead.Add) ∷ (codes "sub(", lead.Sub) ∷ (codes "neg(", lead.Neg) ∷ (codes "mul(", lead.Mul)
    ∷ (codes "div(", lead.Div) ∷ (codes "mod(", lead.Mod) ∷ (codes "num(", lead.Num) ∷ (codes "len(", lead.Len)
    ∷ (codes "null", lead.Null) ∷ (codes "true", lead.True) ∷ (codes "false", lead.False) ∷ (codes "int(", lead.Int)
    ∷ (codes "bool(", lead.Truth) ∷ (codes "arr[", lead.Array) ∷ (codes "rep(", lead.Repeat) ∷ (codes "upd(", lead.Update)
    ∷ (codes "get(", lead.Get) ∷ (codes "rec{", lead.Record) ∷ (codes "fld(", lead.Field) ∷ (codes "setf(", lead.SetField)
    ∷ (codes "kind(", lead.Kind) ∷ (codes "in(", lead.In) ∷ (codes "all ", lead.All) ∷ (codes "some ", lead.Some)
    ∷ (codes "not ", lead.Not) ∷ (codes "and(", lead.And) ∷ (codes "or(", lead.Or) ∷ []

unfoldable pub lead_at : List ℕ → Option (Lead × List ℕ)
lead_at i = lead_in leads i

-- ---- classes

abbrev pub is_number_byte : ℕ → Bool
is_number_byte b = is_digit b || (b == 45)

-- the class by the byte behind the bytes of a word
abbrev pub by_sign : List ℕ → Class
by_sign [] = class.Lead
by_sign (b ∷ i) = if b == 35 then class.IntName else (if b == 46 then class.ValName else (if b == 32 then class.Datum else class.Lead))

-- what follows the bytes of a word
abbrev pub behind_run : List ℕ → List ℕ
behind_run [] = []
behind_run (b ∷ i) = if is_word_byte b then behind_run i else b ∷ i

unfoldable pub class_at : List ℕ → Class
class_at i = if heads is_number_byte i then class.Number else by_sign (behind_run i)

-- ---- what comes behind a word

-- the parts of a node in its order, and then the node
abbrev pub parted : Symbol → ℕ → List Work
parted symbol base = gap_works (texts symbol) ++ (root symbol base ∷ [])

abbrev pub int_works : Lead → ℕ → Option (List Work)
int_works lead.Add base = Some (parted term.add base)
int_works lead.Sub base = Some (parted term.sub base)
int_works lead.Neg base = Some (parted term.neg base)
int_works lead.Mul base = Some (parted term.mul base)
int_works lead.Div base = Some (parted term.div base)
int_works lead.Mod base = Some (parted term.rem base)
int_works lead.Num base = Some (parted term.num base)
int_works lead.Len base = Some (parted term.len base)
int_works l base = None

abbrev pub val_works : Lead → ℕ → Option (List Work)
val_works lead.Null base = Some (root term.null base ∷ [])
val_works lead.True base = Some (root (term.truth true) base ∷ [])
val_works lead.False base = Some (root (term.truth false) base ∷ [])
val_works lead.Int base = Some (parted term.int base)
val_works lead.Truth base = Some (parted term.bool base)
val_works lead.Array base = Some (first elements term.array base ∷ [])
val_works lead.Repeat base = Some (parted term.repeat base)
val_works lead.Update base = Some (parted term.update base)
val_works lead.Get base = Some (parted term.get base)
val_works lead.Record base = Some (first_field base ∷ [])
val_works lead.Field base = Some (a_term val_sort ∷ field_name base ∷ [])
val_works lead.SetField base = Some (a_term val_sort ∷ set_field_name base ∷ [])
val_works l base = None

abbrev pub formula_works : Lead → ℕ → Option (List Work)
formula_works lead.True base = Some (root term.all_of base ∷ [])
formula_works lead.False base = Some (root term.any_of base ∷ [])
formula_works lead.Kind base = Some (a_term val_sort ∷ kind_name base ∷ [])
formula_works lead.In base = Some (a_term val_sort ∷ type_number base ∷ [])
formula_works lead.All base = Some (bind true base ∷ [])
formula_works lead.Some base = Some (bind false base ∷ [])
formula_works lead.Not base = Some (parted term.denied base)
formula_works lead.And base = Some (first members term.all_of base ∷ [])
formula_works lead.Or base = Some (first members term.any_of base ∷ [])
formula_works l base = None

abbrev pub works_of : Sort → Lead → ℕ → Option (List Work)
works_of int_sort l base = int_works l base
works_of val_sort l base = val_works l base
works_of formula_sort l base = formula_works l base

-- a constant goes as far as it can, and what follows would go on
abbrev pub blocked : Sort → Lead → List ℕ → Bool
blocked val_sort lead.Null k = heads goes_on k
blocked val_sort lead.True k = heads goes_on k
blocked val_sort lead.False k = heads goes_on k
blocked formula_sort lead.True k = heads goes_on_or_space k
blocked formula_sort lead.False k = heads goes_on_or_space k
blocked sort l k = false

-- the sort of a term that begins so
abbrev pub sort_by_lead : Lead → Sort
sort_by_lead lead.Add = int_sort
sort_by_lead lead.Sub = int_sort
sort_by_lead lead.Neg = int_sort
sort_by_lead lead.Mul = int_sort
sort_by_lead lead.Div = int_sort
sort_by_lead lead.Mod = int_sort
sort_by_lead lead.Num = int_sort
sort_by_lead lead.Len = int_sort
sort_by_lead lead.Null = val_sort
sort_by_lead lead.True = formula_sort
sort_by_lead lead.False = formula_sort
sort_by_lead lead.Int = val_sort
sort_by_lead lead.Truth = val_sort
sort_by_lead lead.Array = val_sort
sort_by_lead lead.Repeat = val_sort
sort_by_lead lead.Update = val_sort
sort_by_lead lead.Get = val_sort
sort_by_lead lead.Record = val_sort
sort_by_lead lead.Field = val_sort
sort_by_lead lead.SetField = val_sort
sort_by_lead lead.Kind = formula_sort
sort_by_lead lead.In = formula_sort
sort_by_lead lead.All = formula_sort
sort_by_lead lead.Some = formula_sort
sort_by_lead lead.Not = formula_sort
sort_by_lead lead.And = formula_sort
sort_by_lead lead.Or = formula_sort

-- before a space `true` and `false` are data
abbrev pub sort_spaced : Lead → Sort
sort_spaced lead.True = val_sort
sort_spaced lead.False = val_sort
sort_spaced l = sort_by_lead l

abbrev pub sort_or_formula : (Lead → Sort) → Option (Lead × List ℕ) → Sort
sort_or_formula f None = formula_sort
sort_or_formula f (Some p) = f p.0

abbrev pub sort_by : Class → Option (Lead × List ℕ) → Sort
sort_by class.Number o = int_sort
sort_by class.IntName o = int_sort
sort_by class.ValName o = val_sort
sort_by class.Lead o = sort_or_formula sort_by_lead o
sort_by class.Datum o = sort_or_formula sort_spaced o

-- the sort of the term with which a formula begins
unfoldable pub begins_with : List ℕ → Sort
begins_with i = sort_by (class_at i) (lead_at i)

-- ---- what may come of a term, by the front of the text

abbrev pub ByWorks : Option (List Work) → List ℕ → Ways → List Term → Term → Type 0
ByWorks None k next done r = ⊥
ByWorks (Some ws) k next done r = All ws next k done r

abbrev pub ByLead : Sort → ℕ → Option (Lead × List ℕ) → Ways → List Term → Term → Type 0
ByLead sort base None next done r = ⊥
ByLead sort base (Some p) next done r = (blocked sort p.0 p.1 ≡ false) × ByWorks (works_of sort p.0 base) p.1 next done r

abbrev pub ByNumber : ℕ → List ℕ → Ways → List Term → Term → Type 0
ByNumber base i next done r = (z : ℤ) × (k : List ℕ) × IsWholeAt i z k × Rooted (term.number z) base next k done r

abbrev pub ByIntName : ℕ → List ℕ → Ways → List Term → Term → Type 0
ByIntName base i next done r = (w : List ℕ) × (n : ℕ) × (k : List ℕ) × IsNumberedAt 35 i w n k × Rooted (term.int_name w n) base next k done r

abbrev pub ByValName : ℕ → List ℕ → Ways → List Term → Term → Type 0
ByValName base i next done r = (w : List ℕ) × (n : ℕ) × (k : List ℕ) × IsNumberedAt 46 i w n k × Rooted (term.val_name w n) base next k done r

abbrev pub IntBy : Class → ℕ → List ℕ → Ways → List Term → Term → Type 0
IntBy class.Number base i next done r = ByNumber base i next done r
IntBy class.IntName base i next done r = ByIntName base i next done r
IntBy class.ValName base i next done r = ⊥
IntBy class.Lead base i next done r = ByLead int_sort base (lead_at i) next done r
IntBy class.Datum base i next done r = ByLead int_sort base (lead_at i) next done r

abbrev pub ValBy : Class → ℕ → List ℕ → Ways → List Term → Term → Type 0
ValBy class.Number base i next done r = ⊥
ValBy class.IntName base i next done r = ⊥
ValBy class.ValName base i next done r = ByValName base i next done r
ValBy class.Lead base i next done r = ByLead val_sort base (lead_at i) next done r
ValBy class.Datum base i next done r = ByLead val_sort base (lead_at i) next done r

abbrev pub FormulaBy : Sort → ℕ → List ℕ → Ways → List Term → Term → Type 0
FormulaBy int_sort base i next done r = All (parted term.at_most base) next i done r
FormulaBy val_sort base i next done r = All (parted term.equal base) next i done r
FormulaBy formula_sort base i next done r = ByLead formula_sort base (lead_at i) next done r

-- ---- leads and what comes behind them

abbrev pub with_rest : Option (List Work) → List ℕ → Option (List Work × List ℕ)
with_rest None k = None
with_rest (Some ws) k = Some (ws, k)

abbrev pub led_by : Sort → ℕ → Option (Lead × List ℕ) → Option (List Work × List ℕ)
led_by sort base None = None
led_by sort base (Some p) = if blocked sort p.0 p.1 then None else with_rest (works_of sort p.0 base) p.1

unfoldable pub led_at : Sort → ℕ → List ℕ → Option (List Work × List ℕ)
led_at sort base i = led_by sort base (lead_at i)
