-- Which properties' expansions end, and in which order they are summed up.
use Rattle.std.specs.Prelude.{◌≡◌, ◌<◌, ◌≤◌, ℕ, suc, ◌+◌, Bool, true, false, not, ◌&&◌, ◌||◌, ◌-◌, ◌==◌, nat_lt, List, [], ◌∷◌, Option, Some, None, slice_get, if◌then◌else◌}
use Rattle.wy_ast.specs.SurfaceTree.{Decl, AliasDecl, FunctionDecl, MethodDecl, PropertyDecl}
use Rattle.wy_graph.specs.cycles.Cycles as cycles
use Rattle.wy_names_recursion.specs.declared.edges.Edge.{Edge}
use Rattle.wy_names_recursion.specs.declared.edges.Way.{Way}
use Rattle.wy_names_recursion.specs.declared.edges.Way.TheVariants as way
use Rattle.wy_names_recursion.specs.Uses.{Edges}

abbrev pub is_property : Option Decl → Bool
is_property None = false
is_property (Some (AliasDecl a)) = false
is_property (Some (FunctionDecl f)) = false
is_property (Some (MethodDecl m)) = false
is_property (Some (PropertyDecl p)) = true

abbrev pub is_use_way : Way → Bool
is_use_way way.Bare = false
is_use_way way.Guarded = false
is_use_way way.Mention = false
is_use_way way.Use = true

-- the use of a property
abbrev pub is_use : List Decl → Edge → Bool
is_use ds e = is_use_way e.way && is_property (slice_get ds e.to)

-- the expansion of the property with this index ends: that of each property which it uses does
pub data Ends (ds : List Decl) (es : Edges) : ℕ → Type 0 where
  ends : {p : ℕ} → ((i : ℕ) (e : Edge) → slice_get es i ≡ Some e → is_use ds e ≡ true → e.from ≡ p → Ends ds es e.to) → Ends ds es p

-- the property stands in the order at this place
abbrev pub StandsAt : List ℕ → ℕ → ℕ → Type 0
StandsAt order k p = slice_get order k ≡ Some p

-- the order has exactly the properties whose expansion ends, each behind those that it uses
pub record IsOrder (ds : List Decl) (es : Edges) (order : List ℕ) : Type 0 where
  pub property : (k p : ℕ) → StandsAt order k p → is_property (slice_get ds p) ≡ true
  pub ending : (k p : ℕ) → StandsAt order k p → Ends ds es p
  pub whole : (p : ℕ) → is_property (slice_get ds p) ≡ true → Ends ds es p → (k : ℕ) × StandsAt order k p
  pub behind : (k : ℕ) (i : ℕ) (e : Edge) → slice_get es i ≡ Some e → is_use ds e ≡ true → StandsAt order k e.from → (j : ℕ) × (j < k) × StandsAt order j e.to

-- ---- the test of an order

-- the number at the index, and 0 where there is none
abbrev pub number_at : List ℕ → ℕ → ℕ
number_at list i = cycles.label list i

abbrev pub is_at : Option ℕ → ℕ → Bool
is_at None p = false
is_at (Some q) p = q == p

-- a position is one more than the place in the order, and 0 where there is none. The declaration stands where its position says
abbrev pub stands : List ℕ → List ℕ → ℕ → Bool
stands order positions p = is_at (slice_get order (number_at positions p - 1)) p

-- the use, where there is one, is a use by this property of one that has no position
abbrev pub opens : List Decl → List ℕ → ℕ → Option Edge → Bool
opens ds positions p None = false
opens ds positions p (Some e) = is_use ds e && ((e.from == p) && (number_at positions e.to == 0))

-- the declaration stands where its position says; or it has none and is no property, or uses another one that has none
abbrev pub is_settled : List Decl → Edges → List ℕ → List ℕ → List ℕ → ℕ → Bool
is_settled ds es order positions witnesses p =
    if number_at positions p == 0 then not (is_property (slice_get ds p)) || opens ds positions p (slice_get es (number_at witnesses p)) else stands order positions p

-- what is used stands before what uses it
abbrev pub is_before : List ℕ → List ℕ → Edge → Bool
is_before order positions e = not (number_at positions e.to == 0) && (nat_lt (number_at positions e.to) (number_at positions e.from) && stands order positions e.to)

abbrev pub falls : List Decl → List ℕ → List ℕ → Edge → Bool
falls ds order positions e = not (is_use ds e) || ((number_at positions e.from == 0) || is_before order positions e)

abbrev pub each_falls : List Decl → List ℕ → List ℕ → Edges → Bool
each_falls ds order positions [] = true
each_falls ds order positions (e ∷ es) = falls ds order positions e && each_falls ds order positions es

-- each item of the order, from this place on, is a property, and its position is its own
abbrev pub each_placed : List Decl → List ℕ → ℕ → List ℕ → Bool
each_placed ds positions k [] = true
each_placed ds positions k (p ∷ ps) = (is_property (slice_get ds p) && (number_at positions p == k + 1)) && each_placed ds positions (k + 1) ps
