-- Labels of cycles mark exactly the uses by which a type recurs.
use Rattle.std.proofs.Common.{◌≡◌, ◌↔◌, ℕ, zero, suc, Bool, true, false, ◌&&◌, ◌==◌, List, [], ◌∷◌, length, map, cond, Option, Some, None, refl, sym, ap, subst, ◌∙◌}
use Rattle.std.specs.List.{slice_get}
use Rattle.std.specs.Option.{option_map}
use Rattle.std.proofs.lemmas.Option.{slice_get-map}
use Rattle.std.proofs.lemmas.Bool.{eqb-true, eq-eqb}
use Rattle.wy_ast.specs.SurfaceTree as tree
use Rattle.wy_ast.specs.SurfaceSeen.{seen_decl}
use Rattle.wy_ast.specs.declared.declarations.Decl.{Decl}
use Rattle.wy_graph.specs.declared.cycles.graph.Arrow.{Arrow}
use Rattle.wy_graph.specs.cycles.Cycles.{Leads, TellCycles}
use Rattle.wy_lemmas.proofs.Choices.{both_parts as both}
use Rattle.wy_names_scope.specs.Faults.{Found}
use Rattle.wy_names_recursion.specs.declared.edges.Edge.{Edge}
use Rattle.wy_names_recursion.specs.declared.edges.Way.{Way}
use Rattle.wy_names_recursion.specs.declared.edges.Way.TheVariants as way
use Rattle.wy_names_recursion.specs.Uses.{Edges}
use Rattle.wy_names_recursion.specs.Arrows.{counts, arrow_of, arrows_of}
use Rattle.wy_names_recursion.specs.Recursion.{is_type, label, has_one_label, recurs_by, recurs_by_way, recurs_in, Recurs, OnCycle, InClause, noted_marked, noted_by, NotesRecursion}

pub decl_found : (ds : List Decl) (i : ℕ) → slice_get (map seen_decl ds) i ≡ option_map seen_decl (slice_get ds i)
decl_found ds i = slice_get-map seen_decl ds i

pub decls_seen : (ds : List Decl) → length (map seen_decl ds) ≡ length ds
decls_seen [] = refl
decls_seen (d ∷ ds) = ap (λ n. suc n) (decls_seen ds)

-- an arrow that stands in a list
record Stands (arrows : List Arrow) (a : Arrow) : Type 0 where
  at : ℕ
  is : slice_get arrows at ≡ Some a

behind_one : (b : Bool) (x a : Arrow) (rest : List Arrow) → Stands rest a → Stands (cond b (x ∷ rest) rest) a
behind_one true x a rest s = record { at = suc s.at; is = s.is }
behind_one false x a rest s = s

first_of : (b : Bool) (x : Arrow) (rest : List Arrow) → b ≡ true → Stands (cond b (x ∷ rest) rest) x
first_of true x rest h = record { at = zero; is = refl }
first_of false x rest h = absurd (cc)

arrow_stands : (all : Bool) (es : Edges) (i : ℕ) (e : Edge) → slice_get es i ≡ Some e → counts all e.way ≡ true → Stands (arrows_of all es) (arrow_of e)
arrow_stands all [] i e h k = absurd (cc)
arrow_stands all (x ∷ xs) zero e h k =
    let same : x ≡ e = cc in
    subst (λ (y : Edge). Stands (cond (counts all x.way) (arrow_of x ∷ arrows_of all xs) (arrows_of all xs)) (arrow_of y)) same
    (first_of (counts all x.way) (arrow_of x) (arrows_of all xs) (subst (λ (y : Edge). counts all y.way ≡ true) (sym same) k))
arrow_stands all (x ∷ xs) (suc i) e h k = behind_one (counts all x.way) (arrow_of x) (arrow_of e) (arrows_of all xs) (arrow_stands all xs i e h k)

-- one label at both ends is a cycle
on_cycle : (all : Bool) (es : Edges) (labels : List ℕ) → TellCycles (arrows_of all es) labels → (i : ℕ) (e : Edge) → slice_get es i ≡ Some e → counts all e.way ≡ true
    → (has_one_label labels e ≡ true) ↔ OnCycle all es e
on_cycle all es labels tell i e h k = (there, back)
  where
    stands : Stands (arrows_of all es) (arrow_of e)
    stands = arrow_stands all es i e h k

    there : has_one_label labels e ≡ true → OnCycle all es e
    there one = (tell.tells stands.at (arrow_of e) stands.is).0 (eqb-true (label labels e.from) (label labels e.to) one)

    back : OnCycle all es e → has_one_label labels e ≡ true
    back leads = eq-eqb (label labels e.from) (label labels e.to) ((tell.tells stands.at (arrow_of e) stands.is).1 leads)

in_clause : (ds : List tree.Decl) (es : Edges) (e : Edge) (b : Bool) → (b ≡ true) ↔ OnCycle true es e → ((is_type (slice_get ds e.from) && b) ≡ true) ↔ InClause ds es e
in_clause ds es e b cycle = (there, back)
  where
    there : (is_type (slice_get ds e.from) && b) ≡ true → InClause ds es e
    there h = let parts = both (is_type (slice_get ds e.from)) b h in (parts.0, cycle.0 parts.1)

    back : InClause ds es e → (is_type (slice_get ds e.from) && b) ≡ true
    back h = rw (h.0, cycle.1 h.1)

exact_by : (ds : List tree.Decl) (es : Edges) (bare all : List ℕ) → TellCycles (arrows_of false es) bare → TellCycles (arrows_of true es) all → (i : ℕ) (e : Edge) → slice_get es i ≡ Some e
    → (w : Way) → e.way ≡ w → (recurs_by_way w bare all ds e ≡ true) ↔ recurs_in w ds es e
exact_by ds es bare all tells_bare tells_all i e h way.Bare is = on_cycle false es bare tells_bare i e h (ap (counts false) is)
exact_by ds es bare all tells_bare tells_all i e h way.Guarded is = ((λ (k : false ≡ true). absurd (cc)), (λ (k : ⊥). absurd k))
exact_by ds es bare all tells_bare tells_all i e h way.Mention is = in_clause ds es e (has_one_label all e) (on_cycle true es all tells_all i e h (ap (counts true) is))
exact_by ds es bare all tells_bare tells_all i e h way.Use is = in_clause ds es e (has_one_label all e) (on_cycle true es all tells_all i e h (ap (counts true) is))

pub exactly_noted : (ds : List tree.Decl) (es : Edges) (bare all : List ℕ) (found f : Found) → TellCycles (arrows_of false es) bare → TellCycles (arrows_of true es) all
    → f ≡ noted_by bare all ds es found → NotesRecursion ds es found f
exactly_noted ds es bare all found f tells_bare tells_all is = record {
  mark = recurs_by bare all ds;
  exact = λ (i : ℕ) (e : Edge) (h : slice_get es i ≡ Some e). exact_by ds es bare all tells_bare tells_all i e h e.way refl;
  noted = is;
}
