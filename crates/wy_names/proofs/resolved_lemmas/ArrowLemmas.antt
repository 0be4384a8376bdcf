-- Uses that are listed lead along arrows.
use Rattle.std.proofs.Common.{◌≡◌, ◌∙◌, ℕ, zero, suc, Bool, true, false, List, [], ◌∷◌, Some, refl, sym, ap, subst, if◌then◌else◌}
use Rattle.std.specs.List.{slice_get}
use Rattle.wy_graph.specs.declared.cycles.graph.Arrow.{Arrow}
use Rattle.wy_graph.specs.cycles.Cycles.{Leads, stays, goes}
use Rattle.wy_names_recursion.specs.declared.edges.Edge.{Edge}
use Rattle.wy_names_recursion.specs.declared.edges.Way.{Way}
use Rattle.wy_names_recursion.specs.declared.edges.Way.TheVariants as way
use Rattle.wy_names_recursion.specs.Uses.{Edges}
use Rattle.wy_names_recursion.specs.Arrows.{counts, arrow_of, arrows_of}

pub some_edge : (x y : Edge) → Some x ≡ Some y → x ≡ y
some_edge x y e = cc

abbrev pub HasArrow : Bool → Edges → Arrow → Type 0
HasArrow all es arrow = (j : ℕ) × (slice_get (arrows_of all es) j ≡ Some arrow)

pub arrow_in : (all : Bool) (es : Edges) (i : ℕ) (e : Edge) → slice_get es i ≡ Some e → counts all e.way ≡ true → HasArrow all es (arrow_of e)
arrow_in all [] i e h c = absurd (cc)
arrow_in all (x ∷ es) zero e h c = by (counts all x.way) (ap (λ (y : Edge). counts all y.way) same ∙ c)
  where
    same : x ≡ e
    same = some_edge x e h

    by : (b : Bool) → b ≡ true → (j : ℕ) × (slice_get (if b then arrow_of x ∷ arrows_of all es else arrows_of all es) j ≡ Some (arrow_of e))
    by true k = (0, ap (λ (y : Edge). Some (arrow_of y)) same)
    by false k = absurd (cc)
arrow_in all (x ∷ es) (suc i) e h c = by (counts all x.way) (arrow_in all es i e h c)
  where
    by : (b : Bool) → HasArrow all es (arrow_of e) → (j : ℕ) × (slice_get (if b then arrow_of x ∷ arrows_of all es else arrows_of all es) j ≡ Some (arrow_of e))
    by true r = (suc r.0, r.1)
    by false r = r

pub leads_on : (arrows : List Arrow) (a b d : ℕ) → Leads arrows a b → Leads arrows b d → Leads arrows a d
leads_on arrows a b d (stays e) k = subst (λ (z : ℕ). Leads arrows z d) (sym e) k
leads_on arrows a b d (goes i arrow at is rest) k = goes i arrow at is (leads_on arrows arrow.to b d rest k)

abbrev pub Member : Edges → Edge → Type 0
Member es e = (i : ℕ) × (slice_get es i ≡ Some e)

pub edge_leads : (all : Bool) (es : Edges) (e : Edge) → Member es e → counts all e.way ≡ true → Leads (arrows_of all es) e.from e.to
edge_leads all es e m c = let r = arrow_in all es m.0 e m.1 c in goes r.0 (arrow_of e) r.1 refl (stays refl)

pub every_way : (w : Way) → counts true w ≡ true
every_way way.Bare = refl
every_way way.Guarded = refl
every_way way.Mention = refl
every_way way.Use = refl

-- an arrow of the fewer is one of all
pub arrow_among : (es : Edges) (j : ℕ) (arrow : Arrow) → slice_get (arrows_of false es) j ≡ Some arrow → HasArrow true es arrow
arrow_among [] j arrow h = absurd (cc)
arrow_among (x ∷ es) j arrow h = by (counts false x.way) (counts true x.way) (every_way x.way) j (λ (k : ℕ) (q : slice_get (arrows_of false es) k ≡ Some arrow). arrow_among es k arrow q) h
  where
    by : (b c : Bool) → c ≡ true → (k : ℕ) → ((n : ℕ) → slice_get (arrows_of false es) n ≡ Some arrow → HasArrow true es arrow)
        → slice_get (if b then arrow_of x ∷ arrows_of false es else arrows_of false es) k ≡ Some arrow
        → (n : ℕ) × (slice_get (if c then arrow_of x ∷ arrows_of true es else arrows_of true es) n ≡ Some arrow)
    by b false e k next q = absurd (cc)
    by true true e zero next q = (0, q)
    by true true e (suc k) next q = let r = next k q in (suc r.0, r.1)
    by false true e k next q = let r = next k q in (suc r.0, r.1)

pub among : (es : Edges) (a b : ℕ) → Leads (arrows_of false es) a b → Leads (arrows_of true es) a b
among es a b (stays e) = stays e
among es a b (goes i arrow at is rest) = let r = arrow_among es i arrow at in goes r.0 arrow r.1 is (among es arrow.to b rest)

pub lifted : (all : Bool) (es : Edges) (a b : ℕ) → Leads (arrows_of false es) a b → Leads (arrows_of all es) a b
lifted true es a b h = among es a b h
lifted false es a b h = h
