-- Places of fields, and items and fields put into their places.
use Rattle.std.proofs.Common.{◌≡◌, ℕ, zero, suc, ◌+◌, ◌<◌, ◌≤◌, Bool, true, false, cond, List, [], ◌∷◌, ◌++◌, map, length, drop, get_or, Option, Some, None, refl, sym, ap, ◌∙◌, subst, arith}
use Rattle.std.proofs.lemmas.List.{drop_more, drop_all}
use Rattle.std.specs.Prelude.{bytes_eq, set}
use Rattle.wy_value.specs.Datum.{Datum, Null, no_items, item, Fields, no_fields, field}
use Rattle.wy_value.specs.Grammar.{Entry}
use Rattle.wy_value.specs.declared.value.Value.{Value}
use Rattle.wy_value.specs.Seen.{seen}
use Rattle.wy_sem.specs.Operations as spec
use Rattle.wy_eval_exprs.specs.Operands.{items_of, parts_of}
use Rattle.wy_eval_exprs.specs.Parts.{one_more, place_in}

-- a place behind so many others
abbrev pub behind : ℕ → Option ℕ → Option ℕ
behind i None = None
behind i (Some j) = Some (i + j)

pub behind_one : (i : ℕ) (o : Option ℕ) → behind i (one_more o) ≡ behind (i + 1) o
behind_one i None = refl
behind_one i (Some j) = let e : i + (j + 1) ≡ (i + 1) + j = omega arith in ap (λ n. Some n) e

pub behind_none : (o : Option ℕ) → behind 0 o ≡ o
behind_none None = refl
behind_none (Some j) = let e : 0 + j ≡ j = omega arith in ap (λ n. Some n) e

-- the name of the next field is another
pub place_goes_on : (fs : List Entry) (i : ℕ) (f : Entry) (name : List ℕ) → i < length fs → f ≡ get_or fs i f → false ≡ bytes_eq (get_or fs i f).0 name
    → behind i (place_in (parts_of (drop i fs)) name) ≡ behind (i + 1) (place_in (parts_of (drop (i + 1) fs)) name)
place_goes_on fs i f name within is other =
    let rest = drop (i + 1) fs in
    let whole : drop i fs ≡ f ∷ rest = drop_more fs i f within ∙ ap (λ y. y ∷ rest) (sym is) in
    ap (λ l. behind i (place_in (parts_of l) name)) whole
    ∙ (ap (λ b. behind i (cond b (Some 0) (one_more (place_in (parts_of rest) name)))) (ap (λ (x : Entry). bytes_eq x.0 name) is ∙ sym other) ∙ behind_one i (place_in (parts_of rest) name))

-- the name of the next field is this one
pub place_is_here : (fs : List Entry) (i : ℕ) (f : Entry) (name : List ℕ) → i < length fs → f ≡ get_or fs i f → true ≡ bytes_eq (get_or fs i f).0 name
    → behind i (place_in (parts_of (drop i fs)) name) ≡ Some i
place_is_here fs i f name within is same =
    let rest = drop (i + 1) fs in
    let whole : drop i fs ≡ f ∷ rest = drop_more fs i f within ∙ ap (λ y. y ∷ rest) (sym is) in
    ap (λ l. behind i (place_in (parts_of l) name)) whole ∙ (ap (λ b. behind i (cond b (Some 0) (one_more (place_in (parts_of rest) name)))) (ap (λ (x : Entry). bytes_eq x.0 name) is ∙ sym same) ∙ none_more)
  where
    none_more : Some (i + 0) ≡ Some i
    none_more = let e : i + 0 ≡ i = omega arith in ap (λ n. Some n) e

pub place_is_none : (fs : List Entry) (i : ℕ) (name : List ℕ) → length fs ≤ i → behind i (place_in (parts_of (drop i fs)) name) ≡ None
place_is_none fs i name over = ap (λ l. behind i (place_in (parts_of l) name)) (drop_all i fs over)

-- a step less
less : (o : Option ℕ) (i : ℕ) → one_more o ≡ Some (suc i) → o ≡ Some i
less None i h = absurd cc
less (Some j) i h = let e : j + 1 ≡ suc i = cc in let s : j ≡ i = omega (arith, e) in ap (λ n. Some n) s

no_zero : (o : Option ℕ) → one_more o ≡ Some 0 → ⊥
no_zero None h = absurd cc
no_zero (Some j) h = let e : j + 1 ≡ 0 = cc in absurd (omega (arith, e))

no_place_less : (o : Option ℕ) → one_more o ≡ None → o ≡ None
no_place_less None h = refl
no_place_less (Some j) h = absurd cc

-- the field is found that stands at its place
found_by : (b : Bool) (fs : List Entry) (g f : Entry) (name : List ℕ) (i : ℕ) → ((j : ℕ) → place_in (parts_of fs) name ≡ Some j → f ≡ get_or fs j f → spec.find (parts_of fs) name ≡ Some (seen f.1))
    → cond b (Some 0) (one_more (place_in (parts_of fs) name)) ≡ Some i → f ≡ get_or (g ∷ fs) i f → spec.found_field b (seen g.1) (spec.find (parts_of fs) name) ≡ Some (seen f.1)
found_by true fs g f name zero ih h is = ap (λ (x : Entry). Some (seen x.1)) (sym is)
found_by true fs g f name (suc i) ih h is = absurd cc
found_by false fs g f name zero ih h is = absurd (no_zero (place_in (parts_of fs) name) h)
found_by false fs g f name (suc i) ih h is = ih i (less (place_in (parts_of fs) name) i h) is

pub found_at : (fs : List Entry) (i : ℕ) (f : Entry) (name : List ℕ) → place_in (parts_of fs) name ≡ Some i → f ≡ get_or fs i f → spec.find (parts_of fs) name ≡ Some (seen f.1)
found_at [] i f name h is = absurd cc
found_at (g ∷ fs) i f name h is = found_by (bytes_eq g.0 name) fs g f name i (λ j k e. found_at fs j f name k e) h is

-- no field is found without a place
found_nowhere_by : (b : Bool) (fs : List Entry) (g : Entry) (name : List ℕ) → (place_in (parts_of fs) name ≡ None → spec.find (parts_of fs) name ≡ None)
    → cond b (Some 0) (one_more (place_in (parts_of fs) name)) ≡ None → spec.found_field b (seen g.1) (spec.find (parts_of fs) name) ≡ None
found_nowhere_by true fs g name ih h = absurd cc
found_nowhere_by false fs g name ih h = ih (no_place_less (place_in (parts_of fs) name) h)

pub found_nowhere : (fs : List Entry) (name : List ℕ) → place_in (parts_of fs) name ≡ None → spec.find (parts_of fs) name ≡ None
found_nowhere [] name h = refl
found_nowhere (g ∷ fs) name h = found_nowhere_by (bytes_eq g.0 name) fs g name (λ k. found_nowhere fs name k) h

-- an item put into its place
pub item_put : (vs : List Value) (i : ℕ) (v : Value) → i < length vs → items_of (set vs i v) ≡ spec.set_item (items_of vs) i (seen v)
item_put [] i v within = absurd (omega (arith, within))
item_put (w ∷ vs) zero v within = refl
item_put (w ∷ vs) (suc i) v within = ap (λ ds. item (seen w) ds) (item_put vs i v (omega (arith, within)))

pub item_put_beyond : (vs : List Value) (i : ℕ) (d : Datum) → length vs ≤ i → spec.set_item (items_of vs) i d ≡ items_of vs
item_put_beyond [] i d over = refl
item_put_beyond (w ∷ vs) zero d over = absurd (omega (arith, over))
item_put_beyond (w ∷ vs) (suc i) d over = ap (λ ds. item (seen w) ds) (item_put_beyond vs i d (omega (arith, over)))

pub item_there : (vs : List Value) (i : ℕ) (v : Value) → i < length vs → v ≡ get_or vs i v → spec.item_at (items_of vs) i ≡ seen v
item_there [] i v within is = absurd (omega (arith, within))
item_there (w ∷ vs) zero v within is = ap seen (sym is)
item_there (w ∷ vs) (suc i) v within is = item_there vs i v (omega (arith, within)) is

pub no_item_there : (vs : List Value) (i : ℕ) → length vs ≤ i → spec.item_at (items_of vs) i ≡ Null
no_item_there [] i over = refl
no_item_there (w ∷ vs) zero over = absurd (omega (arith, over))
no_item_there (w ∷ vs) (suc i) over = no_item_there vs i (omega (arith, over))

-- a field put into the place that it has
put_by : (b : Bool) (fs : List Entry) (g f : Entry) (name : List ℕ) (v : Value) (i : ℕ) → ((j : ℕ) → place_in (parts_of fs) name ≡ Some j → f ≡ get_or fs j f → parts_of (set fs j (f.0, v)) ≡ spec.set_field (parts_of fs) name (seen v))
    → cond b (Some 0) (one_more (place_in (parts_of fs) name)) ≡ Some i → f ≡ get_or (g ∷ fs) i f
    → parts_of (set (g ∷ fs) i (f.0, v)) ≡ cond b (field g.0 (seen v) (parts_of fs)) (field g.0 (seen g.1) (spec.set_field (parts_of fs) name (seen v)))
put_by true fs g f name v zero ih h is = ap (λ (x : Entry). field x.0 (seen v) (parts_of fs)) is
put_by true fs g f name v (suc i) ih h is = absurd cc
put_by false fs g f name v zero ih h is = absurd (no_zero (place_in (parts_of fs) name) h)
put_by false fs g f name v (suc i) ih h is = ap (λ x. field g.0 (seen g.1) x) (ih i (less (place_in (parts_of fs) name) i h) is)

pub field_put : (fs : List Entry) (i : ℕ) (f : Entry) (name : List ℕ) (v : Value) → place_in (parts_of fs) name ≡ Some i → f ≡ get_or fs i f → parts_of (set fs i (f.0, v)) ≡ spec.set_field (parts_of fs) name (seen v)
field_put [] i f name v h is = absurd cc
field_put (g ∷ fs) i f name v h is = put_by (bytes_eq g.0 name) fs g f name v i (λ j k e. field_put fs j f name v k e) h is

nowhere_by : (b : Bool) (fs : List Entry) (g : Entry) (name : List ℕ) (d : Datum) → (place_in (parts_of fs) name ≡ None → spec.set_field (parts_of fs) name d ≡ parts_of fs)
    → cond b (Some 0) (one_more (place_in (parts_of fs) name)) ≡ None → cond b (field g.0 d (parts_of fs)) (field g.0 (seen g.1) (spec.set_field (parts_of fs) name d)) ≡ parts_of (g ∷ fs)
nowhere_by true fs g name d ih h = absurd cc
nowhere_by false fs g name d ih h = ap (λ x. field g.0 (seen g.1) x) (ih (no_place_less (place_in (parts_of fs) name) h))

pub field_put_nowhere : (fs : List Entry) (name : List ℕ) (d : Datum) → place_in (parts_of fs) name ≡ None → spec.set_field (parts_of fs) name d ≡ parts_of fs
field_put_nowhere [] name d h = refl
field_put_nowhere (g ∷ fs) name d h = nowhere_by (bytes_eq g.0 name) fs g name d (λ k. field_put_nowhere fs name d k) h

-- one copy more
pub copies_more : (xs : List Value) (n : ℕ) (d : Datum) (x : Value) → items_of xs ≡ spec.copies n d → seen x ≡ d → items_of (xs ++ x ∷ []) ≡ spec.copies (n + 1) d
copies_more [] zero d x h is = ap (λ y. item y no_items) is
copies_more [] (suc n) d x h is = absurd cc
copies_more (y ∷ ys) zero d x h is = absurd cc
copies_more (y ∷ ys) (suc n) d x h is =
    let first : seen y ≡ d = cc in
    let rest : items_of ys ≡ spec.copies n d = cc in
    let e : suc (n + 1) ≡ suc n + 1 = omega arith in
    ap (λ z. item z (items_of (ys ++ x ∷ []))) first ∙ (ap (λ ds. item d ds) (copies_more ys n d x rest is) ∙ ap (λ k. spec.copies k d) e)

-- an array with one item in its place
pub items_put : (vs us : List Value) (i : ℕ) (made : Value) (d : Datum) → i < length vs → us ≡ set vs i made → seen made ≡ d → items_of us ≡ spec.set_item (items_of vs) i d
items_put vs us i made d within is h = ap items_of is ∙ (item_put vs i made within ∙ ap (λ x. spec.set_item (items_of vs) i x) h)
