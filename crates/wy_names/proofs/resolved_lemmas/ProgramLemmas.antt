-- The fault that is given is the first of those that a program shows.
use Rattle.std.proofs.Common.{◌≡◌, ◌⊎◌, inl, inr, ℕ, zero, suc, Bool, true, List, [], ◌∷◌, Some, None, refl, sym, ap, subst, ◌∙◌}
use Rattle.std.specs.List.{slice_get}
use Rattle.wy_ast.specs.SurfaceTree.{Decl}
use Rattle.wy_names.proofs.resolved_lemmas.OnceLemmas.{before_once}
use Rattle.wy_names_scope.specs.Declarations.{behind, builtins, declared, declared_behind, entry_of, name_of, place_of, routine_count}
use Rattle.wy_names_scope.specs.declared.fault.Cause.TheVariants as cause
use Rattle.wy_names_scope.specs.declared.fault.Fault.{Fault}
use Rattle.wy_names_scope.specs.Faults.{Found}
use Rattle.wy_names_scope.specs.Scope.{Scope, has, with_name}
use Rattle.wy_core.specs.declared.declarations.Core.{Core}
use Rattle.wy_names_recursion.specs.DeclNames as bind
use Rattle.wy_names_recursion.specs.declared.edges.Edge.{Edge}
use Rattle.wy_names_recursion.specs.Uses.{Edges}
use Rattle.wy_names_recursion.specs.Recursion.{NotesRecursion, noted_marked}
use Rattle.wy_names_recursion.specs.Endings.{IsOrder}
use Rattle.wy_names.specs.Named.{expansions_of, found_before, scope_of, uses_of, Judges, IsNamed, IsRefused}
use Rattle.wy_names.specs.declared.name_fault.NameFault.{NameFault}
use Rattle.wy_names.specs.resolved.Shown.{Stands, Never, Either}
use Rattle.wy_names.specs.resolved.Programs.{NamedTwice, AtRecursion, Shows, IsFirst}
use Rattle.wy_names.proofs.resolved_lemmas.NotesLemmas.{Notes, nothing, both, one}
use Rattle.wy_names.proofs.resolved_lemmas.ExpansionLemmas as expanded
use Rattle.wy_names.proofs.resolved_lemmas.NodeLemmas as bound

-- ---- declarations

named_notes : (s : Scope) (x : Found) (n : _) (ds : List Decl) → Notes (NamedTwice entry_of behind s n ds) x (declared_behind s x n ds).1
named_notes s x n [] = nothing x
named_notes s x n (d ∷ ds) = both (one (has s (name_of d)) x (place_of d) cause.Twice) (named_notes (with_name s (name_of d) (entry_of d n)) _ (behind d n) ds)

-- ---- recursion

abbrev MarkedIn : (Edge → Bool) → Edges → Fault → Type 0
MarkedIn mark [] = Never
MarkedIn mark (e ∷ es) = Either (Stands (mark e) e.at cause.BareRecursion) (MarkedIn mark es)

marked_notes : (mark : Edge → Bool) (es : Edges) (x : Found) → Notes (MarkedIn mark es) x (noted_marked mark es x)
marked_notes mark [] x = nothing x
marked_notes mark (e ∷ es) x = both (one (mark e) x e.at cause.BareRecursion) (marked_notes mark es _)

record UseAt (mark : Edge → Bool) (es : Edges) (f : Fault) : Type 0 where
  place : ℕ
  edge : Edge
  listed : slice_get es place ≡ Some edge
  marked : mark edge ≡ true
  is : f ≡ record { at = edge.at; cause = cause.BareRecursion }

use_behind : (mark : Edge → Bool) (e : Edge) (es : Edges) (f : Fault) → UseAt mark es f → UseAt mark (e ∷ es) f
use_behind mark e es f u = record { place = suc u.place; edge = u.edge; listed = u.listed; marked = u.marked; is = u.is }

use_of : (mark : Edge → Bool) (es : Edges) (f : Fault) → MarkedIn mark es f → UseAt mark es f
use_of mark [] f h = absurd h
use_of mark (e ∷ es) f (inl h) = record { place = zero; edge = e; listed = refl; marked = h.0; is = h.1 }
use_of mark (e ∷ es) f (inr h) = use_behind mark e es f (use_of mark es f h)

of_use : (mark : Edge → Bool) (es : Edges) (f : Fault) (place : ℕ) (edge : Edge) → slice_get es place ≡ Some edge → mark edge ≡ true → f ≡ record { at = edge.at; cause = cause.BareRecursion } → MarkedIn mark es f
of_use mark [] f place edge l m is = absurd (cc)
of_use mark (e ∷ es) f zero edge l m is =
    let same : e ≡ edge = cc in
    inl (ap mark same ∙ m, subst (λ (y : Edge). f ≡ record { at = y.at; cause = cause.BareRecursion }) (sym same) is)
of_use mark (e ∷ es) f (suc place) edge l m is = inr (of_use mark es f place edge l m is)

turned : {P Q : Fault → Type 0} {x y : Found} → ((f : Fault) → P f → Q f) → ((f : Fault) → Q f → P f) → Notes P x y → Notes Q x y
turned {P} {Q} {x} {y} there back n = record { shown = λ f e. over f (n.shown f e); least = λ f q. n.least f (back f q); kept = λ f h. n.kept f h }
  where
    over : (f : Fault) → (x ≡ Some f) ⊎ P f → (x ≡ Some f) ⊎ Q f
    over f (inl e) = inl e
    over f (inr p) = inr (there f p)

recursion_notes : (ds : List Decl) (es : Edges) (x y : Found) → NotesRecursion ds es x y → Notes (AtRecursion ds es) x y
recursion_notes ds es x y n = subst (λ (z : Found). Notes (AtRecursion ds es) x z) (sym n.noted) (turned there back (marked_notes n.mark es x))
  where
    there : (f : Fault) → MarkedIn n.mark es f → AtRecursion ds es f
    there f h =
        let u : UseAt n.mark es f = use_of n.mark es f h in
        record { place = u.place; edge = u.edge; listed = u.listed; recurs = (n.exact u.place u.edge u.listed).0 u.marked; is = u.is }

    back : (f : Fault) → AtRecursion ds es f → MarkedIn n.mark es f
    back f r = of_use n.mark es f r.place r.edge r.listed ((n.exact r.place r.edge r.listed).1 r.recurs) r.is

-- ---- programs

judged_notes : (ds : List Decl) (order : List ℕ) (y : Found) → Judges ds order y → Notes (Shows ds order) None y
judged_notes ds order y j =
    both (named_notes (builtins (routine_count ds)) None (record { types = 0; routines = 0; decls = 0 }) ds)
    (both (bound.decls_note (scope_of ds) ds (declared ds).1)
    (both (expanded.decls_note (scope_of ds) (expansions_of ds order) ds (bind.in_decls (scope_of ds) ds (declared ds).1))
    (recursion_notes ds (uses_of ds) (found_before ds order) y j.noted)))

-- judged by another order
judged_by : (ds : List Decl) (first second : List ℕ) (y : Found) → Judges ds first y → IsOrder ds (uses_of ds) second → Judges ds second y
judged_by ds first second y j k = record {
  ordered = k;
  noted = subst (λ (x : Found). NotesRecursion ds (uses_of ds) x y) (before_once ds first second j.ordered k) j.noted;
}

none_found : (f : Fault) → None ≡ Some f → ⊥
none_found f e = absurd (cc)

only : {A : Type 0} (f : Fault) → (None ≡ Some f) ⊎ A → A
only f (inl e) = absurd (none_found f e)
only f (inr a) = a

pub first_shown : (ds : List Decl) (order : List ℕ) (given : NameFault) → IsOrder ds (uses_of ds) order → IsRefused ds given → IsFirst ds order given
first_shown ds order given k r =
    let n : Notes (Shows ds order) None (Some r.fault) = judged_notes ds order (Some r.fault) (judged_by ds r.order order (Some r.fault) r.faulty k) in
    record { fault = r.fault; named = r.named; shown = only r.fault (n.shown r.fault refl); first = n.least }

pub none_shown : (ds : List Decl) (core : Core) (order : List ℕ) (f : Fault) → IsOrder ds (uses_of ds) order → IsNamed ds core → Shows ds order f → ⊥
none_shown ds core order f k named s =
    (judged_notes ds order None (judged_by ds named.order order None named.faultless k)).least f s
