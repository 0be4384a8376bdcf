-- Fields that are put in one after the other, none twice, count as they come.
use Rattle.std.proofs.Common.{◌≡◌, ◌∙◌, ℕ, ◌+◌, max, Bool, true, false, cond, List, [], ◌∷◌, ◌++◌, Ordering, Less, Equal, Greater, nat_cmp, Some, None, is_some, refl, ap, arith, if◌then◌else◌}
use Rattle.std.specs.Str.{bytes_eq}
use Rattle.std.specs.Cmp.Lexicographic.{slice_cmp, texts_ties}
use Rattle.std.specs.Ordering.{match_ordering, is_eq}
use Rattle.wy_core.specs.Types as core
use Rattle.wy_core.specs.CoreSeen.{field_tys_of}
use Rattle.wy_core.specs.CoreTree.{Expr, fields_of}
use Rattle.wy_names_scope.specs.declared.table.Entry.{Entry}
use Rattle.wy_names_scope.specs.Scope.{Scope, entry_of, has, with_name}
use Rattle.wy_names_lower.specs.TypesLowered.{placed}
use Rattle.wy_core.specs.formed.Sizes.{size_ty, size_field_tys, height_ty, height_field_tys}
use Rattle.wy_names.proofs.resolved_lemmas.TallyLemmas.{Counts, tally, field_tallies}
use Rattle.wy_names.proofs.resolved_lemmas.ContentLemmas.{by_nodes, by_height, by_use, Usage, one_each, both_uses, Content, beyond, single, content, field_contents, ty_content, unused, beside, same_use}
use Rattle.wy_names.proofs.resolved_lemmas.AfterLemmas.{same_content}

-- the name is none of these
abbrev pub Absent : {X : Type 0} → List ℕ → List (List ℕ × X) → Type 0
Absent name [] = Unit {0}
Absent name (f ∷ fs) = (slice_cmp nat_cmp name f.0 ≡ Equal → ⊥) × Absent name fs

-- what isn't seen is no field
pub record Seen {X : Type 0} (seen : Scope) (made : List (List ℕ × X)) : Type 0 where
  pub absent : (name : List ℕ) → has seen name ≡ false → Absent name made

pub seen_none : {X : Type 0} → Seen {X = X} [] []
seen_none = record { absent = λ (name : List ℕ) (h : has [] name ≡ false). tt }

-- a name that isn't in a longer scope
pub record Apart (seen : Scope) (name other : List ℕ) : Type 0 where
  pub first : has seen other ≡ false
  pub last : bytes_eq other name ≡ false

apart : (seen : Scope) (name other : List ℕ) (e : Entry) → has (seen ++ (name, e) ∷ []) other ≡ false → Apart seen name other
apart [] name other e h = by (bytes_eq other name) refl h
  where
    by : (b : Bool) → bytes_eq other name ≡ b → is_some (cond b (Some e) None) ≡ false → Apart [] name other
    by true is k = absurd (cc)
    by false is k = record { first = refl; last = is }
apart (x ∷ seen) name other e h = by (bytes_eq other x.0) refl h (λ k. apart seen name other e k)
  where
    by : (b : Bool) → bytes_eq other x.0 ≡ b → is_some (cond b (Some x.1) (entry_of (seen ++ (name, e) ∷ []) other)) ≡ false
        → (has (seen ++ (name, e) ∷ []) other ≡ false → Apart seen name other) → Apart (x ∷ seen) name other
    by true is k next = absurd (cc)
    by false is k next = let r = next k in record { first = ap (λ (b : Bool). is_some (cond b (Some x.1) (entry_of seen other))) is ∙ r.first; last = r.last }

differs : (name other : List ℕ) → bytes_eq other name ≡ false → slice_cmp nat_cmp other name ≡ Equal → ⊥
differs name other h e = let same : bytes_eq other name ≡ true = texts_ties other name ∙ ap is_eq e in absurd (cc)

absent_placed : {X : Type 0} (other name : List ℕ) (x : X) (made : List (List ℕ × X)) → (slice_cmp nat_cmp other name ≡ Equal → ⊥) → Absent other made → Absent other (placed made name x)
absent_placed other name x [] d h = (d, tt)
absent_placed {X} other name x (f ∷ fs) d h = by (slice_cmp nat_cmp name f.0) (absent_placed other name x fs d h.1)
  where
    by : (c : Ordering) → Absent other (placed fs name x) → Absent other (match_ordering c ((name, x) ∷ f ∷ fs) ((f.0, x) ∷ fs) (f ∷ placed fs name x))
    by Less later = (d, h)
    by Equal later = (h.0, h.1)
    by Greater later = (h.0, later)

pub seen_more : {X : Type 0} (seen : Scope) (made : List (List ℕ × X)) (name : List ℕ) (e : Entry) (x : X) → has seen name ≡ false → Seen seen made → Seen (with_name seen name e) (placed made name x)
seen_more {X} seen made name e x new h = record { absent = λ (other : List ℕ) (k : has (with_name seen name e) other ≡ false). by other (has seen name) new k }
  where
    by : (other : List ℕ) (b : Bool) → b ≡ false → has (if b then seen else seen ++ (name, e) ∷ []) other ≡ false → Absent other (placed made name x)
    by other true is k = absurd (cc)
    by other false is k =
        let r = apart seen name other e k in
        absent_placed other name x made (differs name other r.last) (h.absent other r.first)

-- ---- what fields count

module _ {A : Type 0} (c : Counts A) (swap : (x y z : A) → c.both x (c.both y z) ≡ c.both y (c.both x z)) (f : ℕ → A) where
  pub tally-placed : (made : List (List ℕ × Expr ℕ)) (name : List ℕ) (x : Expr ℕ) → Absent name made → field_tallies c f (fields_of (placed made name x)) ≡ c.both (tally c f x) (field_tallies c f (fields_of made))
  tally-placed [] name x h = refl
  tally-placed (g ∷ gs) name x h = by (slice_cmp nat_cmp name g.0) refl (tally-placed gs name x h.1)
    where
      by : (o : Ordering) → slice_cmp nat_cmp name g.0 ≡ o → field_tallies c f (fields_of (placed gs name x)) ≡ c.both (tally c f x) (field_tallies c f (fields_of gs))
          → field_tallies c f (fields_of (match_ordering o ((name, x) ∷ g ∷ gs) ((g.0, x) ∷ gs) (g ∷ placed gs name x))) ≡ c.both (tally c f x) (c.both (tally c f g.1) (field_tallies c f (fields_of gs)))
      by Less e next = refl
      by Equal e next = absurd (h.0 e)
      by Greater e next = ap (c.both (tally c f g.1)) next ∙ swap (tally c f g.1) (tally c f x) (field_tallies c f (fields_of gs))

swap_nodes : (x y z : ℕ) → x + (y + z) ≡ y + (x + z)
swap_nodes x y z = omega arith

swap_heights : (x y z : ℕ) → max x (max y z) ≡ max y (max x z)
swap_heights x y z = omega arith

swap_uses : (x y z : Usage) → both_uses x (both_uses y z) ≡ both_uses y (both_uses x z)
swap_uses x y z = same_use (omega arith) (omega arith) (omega arith)

pub content-placed : (p j : ℕ) (made : List (List ℕ × Expr ℕ)) (name : List ℕ) (x : Expr ℕ) → Absent name made
    → field_contents p j (fields_of (placed made name x)) ≡ beside (content p j x) (field_contents p j (fields_of made))
content-placed p j made name x h =
    same_content (tally-placed by_nodes swap_nodes (beyond p) made name x h) (tally-placed by_nodes swap_nodes one_each made name x h) (tally-placed by_height swap_heights one_each made name x h)
    (tally-placed by_use swap_uses (single p j) made name x h)

pub turned : (x y : Content) → beside x y ≡ beside y x
turned x y = same_content (omega arith) (omega arith) (omega arith) (same_use (omega arith) (omega arith) (omega arith))

-- ---- the same of types

size-placed : (made : List (List ℕ × core.Ty)) (name : List ℕ) (x : core.Ty) → Absent name made → size_field_tys (field_tys_of (placed made name x)) ≡ size_ty x + size_field_tys (field_tys_of made)
size-placed [] name x h = refl
size-placed (g ∷ gs) name x h = by (slice_cmp nat_cmp name g.0) refl (size-placed gs name x h.1)
  where
    by : (o : Ordering) → slice_cmp nat_cmp name g.0 ≡ o → size_field_tys (field_tys_of (placed gs name x)) ≡ size_ty x + size_field_tys (field_tys_of gs)
        → size_field_tys (field_tys_of (match_ordering o ((name, x) ∷ g ∷ gs) ((g.0, x) ∷ gs) (g ∷ placed gs name x))) ≡ size_ty x + (size_ty g.1 + size_field_tys (field_tys_of gs))
    by Less e next = refl
    by Equal e next = absurd (h.0 e)
    by Greater e next = ap (λ (n : ℕ). size_ty g.1 + n) next ∙ swap_nodes (size_ty g.1) (size_ty x) (size_field_tys (field_tys_of gs))

height-placed : (made : List (List ℕ × core.Ty)) (name : List ℕ) (x : core.Ty) → Absent name made → height_field_tys (field_tys_of (placed made name x)) ≡ max (height_ty x) (height_field_tys (field_tys_of made))
height-placed [] name x h = refl
height-placed (g ∷ gs) name x h = by (slice_cmp nat_cmp name g.0) refl (height-placed gs name x h.1)
  where
    by : (o : Ordering) → slice_cmp nat_cmp name g.0 ≡ o → height_field_tys (field_tys_of (placed gs name x)) ≡ max (height_ty x) (height_field_tys (field_tys_of gs))
        → height_field_tys (field_tys_of (match_ordering o ((name, x) ∷ g ∷ gs) ((g.0, x) ∷ gs) (g ∷ placed gs name x))) ≡ max (height_ty x) (max (height_ty g.1) (height_field_tys (field_tys_of gs)))
    by Less e next = refl
    by Equal e next = absurd (h.0 e)
    by Greater e next = ap (max (height_ty g.1)) next ∙ swap_heights (height_ty g.1) (height_ty x) (height_field_tys (field_tys_of gs))

abbrev pub field_ty_content : core.FieldTys → Content
field_ty_content fs = record { fixed = size_field_tys fs; nodes = size_field_tys fs; height = height_field_tys fs; usage = unused }

pub ty_content-placed : (made : List (List ℕ × core.Ty)) (name : List ℕ) (x : core.Ty) → Absent name made → field_ty_content (field_tys_of (placed made name x)) ≡ beside (field_ty_content (field_tys_of made)) (ty_content x)
ty_content-placed made name x h =
    let size : size_field_tys (field_tys_of (placed made name x)) ≡ size_field_tys (field_tys_of made) + size_ty x = size-placed made name x h ∙ omega arith in
    let high : height_field_tys (field_tys_of (placed made name x)) ≡ max (height_field_tys (field_tys_of made)) (height_ty x) = height-placed made name x h ∙ omega arith in
    same_content size size high (same_use (omega arith) (omega arith) (omega arith))
