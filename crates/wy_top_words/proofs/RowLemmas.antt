-- What is found for an id after a row was added or changed.
use Rattle.std.proofs.Common.{◌≡◌, ◌∙◌, ◌||◌, Bool, cond, true, false, true≢false, List, [], ◌∷◌, ◌++◌, Option, Some, None, option_map, is_some, refl, sym, ap}
use Rattle.std.specs.List.{find}
use Rattle.std.specs.Option.{option_map_or, unwrap_or}
use Rattle.std.specs.Str.{bytes_eq}
use Rattle.std.proofs.lemmas.Slice.Eq.{bytes_eq-Decides}
use Rattle.clap.specs.Walk.{Row, Text, all_of, at_row, has_row, more_values, stronger, with_values, without}
use Rattle.clap.specs.declared.builder.value_parser.Reading.{Reading}
use Rattle.clap.specs.declared.parser.matches.ValueSource.{ValueSource}

abbrev pub is_of : Text → Row → Bool
is_of id r = bytes_eq r.id id

-- no text is both
abbrev pub Apart : Text → Text → Type 0
Apart id other = (t : Text) → bytes_eq t id ≡ true → bytes_eq t other ≡ false

pub apart : (id other : Text) → bytes_eq id other ≡ false → Apart id other
apart id other ne t e = let same : t ≡ id = (bytes_eq-Decides t id).0 e in ap (λ (x : Text). bytes_eq x other) same ∙ ne

find_other : (id other : Text) (change : Row → List Row) (missing : List Row) → Apart id other
    → ((r : Row) (xs : List Row) → bytes_eq r.id other ≡ false → find (is_of other) (change r ++ xs) ≡ find (is_of other) xs)
    → find (is_of other) missing ≡ None → (rows : List Row) → find (is_of other) (at_row id change missing rows) ≡ find (is_of other) rows
find_other id other change missing far keeps none [] = none
find_other id other change missing far keeps none (r ∷ rs) = go (bytes_eq r.id id) refl (find_other id other change missing far keeps none rs)
  where
    go : (b : Bool) → bytes_eq r.id id ≡ b → find (is_of other) (at_row id change missing rs) ≡ find (is_of other) rs
        → find (is_of other) (cond b (change r ++ rs) (r ∷ at_row id change missing rs)) ≡ find (is_of other) (r ∷ rs)
    go true e more = keeps r rs (far r.id e) ∙ sym (ap (λ (b : Bool). cond b (Some r) (find (is_of other) rs)) (far r.id e))
    go false e more = ap (cond (is_of other r) (Some r)) more

find_same : (id : Text) (f : Row → Row) (m : Row) → ((r : Row) → (f r).id ≡ r.id) → bytes_eq m.id id ≡ true
    → (rows : List Row) → find (is_of id) (at_row id (λ r. f r ∷ []) (m ∷ []) rows) ≡ Some (option_map_or f (find (is_of id) rows) m)
find_same id f m keeps is [] = ap (λ (b : Bool). cond b (Some m) None) is
find_same id f m keeps is (r ∷ rs) = go (bytes_eq r.id id) refl (find_same id f m keeps is rs)
  where
    go : (b : Bool) → bytes_eq r.id id ≡ b → find (is_of id) (at_row id (λ r. f r ∷ []) (m ∷ []) rs) ≡ Some (option_map_or f (find (is_of id) rs) m)
        → find (is_of id) (cond b (f r ∷ rs) (r ∷ at_row id (λ r. f r ∷ []) (m ∷ []) rs)) ≡ Some (option_map_or f (cond b (Some r) (find (is_of id) rs)) m)
    go true e more = ap (λ (b : Bool). cond b (Some (f r)) (find (is_of id) rs)) (ap (λ (t : Text). bytes_eq t id) (keeps r) ∙ e)
    go false e more = ap (λ (b : Bool). cond b (Some r) (find (is_of id) (at_row id (λ r. f r ∷ []) (m ∷ []) rs))) e ∙ more

pub has_row_all : (id : Text) (rows : List Row) → has_row id rows ≡ is_some (all_of id rows)
has_row_all id [] = refl
has_row_all id (r ∷ rs) = go (bytes_eq r.id id) (has_row_all id rs)
  where
    go : (b : Bool) → has_row id rs ≡ is_some (all_of id rs)
        → (b || has_row id rs) ≡ is_some (option_map (λ (x : Row). x.values) (cond b (Some r) (find (is_of id) rs)))
    go true e = refl
    go false e = e

without_none : (id : Text) (rows : List Row) → has_row id rows ≡ false → without id rows ≡ rows
without_none id [] none = refl
without_none id (r ∷ rs) none = go (bytes_eq r.id id) none (without_none id rs)
  where
    go : (b : Bool) → (b || has_row id rs) ≡ false → (has_row id rs ≡ false → without id rs ≡ rs) → cond b rs (r ∷ without id rs) ≡ r ∷ rs
    go true e more = absurd (true≢false e)
    go false e more = ap (λ (xs : List Row). r ∷ xs) (more e)

found_none : (id : Text) (rows : List Row) → has_row id rows ≡ false → all_of id rows ≡ None
found_none id rows none = go (all_of id rows) (sym (has_row_all id rows) ∙ none)
  where
    go : (o : Option (List Text)) → is_some o ≡ false → o ≡ None
    go None e = refl
    go (Some x) e = absurd (true≢false e)

abbrev added_row : Text → Reading → ValueSource → List Text → Row
added_row id how s v = record { id = id; values = v; count = None; source = Some s; reading = how }

abbrev longer_row : ValueSource → List Text → Row → Row
longer_row s v r = record r { values = r.values ++ v; source = Some (stronger r.source s) }

-- the values of an id come last
pub push_same : (id : Text) (how : Reading) (s : ValueSource) (v : List Text) → bytes_eq id id ≡ true → (rows : List Row)
    → all_of id (with_values id how s v rows) ≡ Some (unwrap_or (all_of id rows) [] ++ v)
push_same id how s v is rows =
    ap (option_map (λ (r : Row). r.values)) (find_same id (longer_row s v) (added_row id how s v) (λ r. refl) is rows) ∙ go (find (is_of id) rows)
  where
    go : (o : Option Row) → option_map (λ (r : Row). r.values) (Some (option_map_or (longer_row s v) o (added_row id how s v)))
        ≡ Some (unwrap_or (option_map (λ (r : Row). r.values) o) [] ++ v)
    go None = refl
    go (Some r) = refl

pub push_other : (id other : Text) (how : Reading) (s : ValueSource) (v : List Text) → bytes_eq id other ≡ false → (rows : List Row)
    → all_of other (with_values id how s v rows) ≡ all_of other rows
push_other id other how s v ne rows = ap (option_map (λ (r : Row). r.values))
    (find_other id other (more_values s v) (added_row id how s v ∷ []) (apart id other ne)
    (λ r xs e. ap (λ (b : Bool). cond b (Some (longer_row s v r)) (find (is_of other) xs)) e)
    (ap (λ (b : Bool). cond b (Some (added_row id how s v)) None) ne) rows)

-- the values of an id are set where there are none
pub set_same : (id : Text) (how : Reading) (s : ValueSource) (v : List Text) → bytes_eq id id ≡ true → (rows : List Row) → has_row id rows ≡ false
    → all_of id (with_values id how s v (without id rows)) ≡ Some v
set_same id how s v is rows none =
    ap (λ (xs : List Row). all_of id (with_values id how s v xs)) (without_none id rows none)
    ∙ push_same id how s v is rows ∙ ap (λ (o : Option (List Text)). Some (unwrap_or o [] ++ v)) (found_none id rows none)

pub set_other : (id other : Text) (how : Reading) (s : ValueSource) (v : List Text) → bytes_eq id other ≡ false → (rows : List Row)
    → all_of other (with_values id how s v (without id rows)) ≡ all_of other rows
set_other id other how s v ne rows = push_other id other how s v ne (without id rows)
    ∙ ap (option_map (λ (r : Row). r.values)) (find_other id other (λ _. []) [] (apart id other ne) (λ r xs e. refl) refl rows)
