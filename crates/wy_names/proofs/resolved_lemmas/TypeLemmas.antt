-- The types of a program without a fault of names are bound.
use Rattle.std.proofs.Common.{◌≡◌, ◌∙◌, ◌<◌, ℕ, true, not, List, [], Option, Some, None, refl, sym, ap, subst}
use Rattle.wy_ast.specs.SurfaceTree.{Ty, FieldTys, NullTy, BoolTy, IntTy, AnyTy, VoidTy, RecordTy, ArrayTy, UnionTy, InterTy, NotTy, NamedTy, NoFieldTys, MoreFieldTys}
use Rattle.wy_core.specs.Types as core
use Rattle.wy_core.specs.CoreSeen.{field_tys_of}
use Rattle.wy_lemmas.proofs.Choices.{not_false}
use Rattle.wy_lemmas.proofs.Lists.{Each, keys}
use Rattle.wy_names_scope.specs.declared.fault.Cause.TheVariants as cause
use Rattle.wy_names_scope.specs.declared.table.Entry.{Entry}
use Rattle.wy_names_scope.specs.declared.table.Entry.TheVariants as entry
use Rattle.wy_names_scope.specs.Faults.{Found, noted_where}
use Rattle.wy_names_scope.specs.Places.{place_of_ty}
use Rattle.wy_names_scope.specs.Scope.{Scope, entry_of, has, with_name}
use Rattle.wy_names_recursion.specs.Calls.{is_type}
use Rattle.wy_names_recursion.specs.TypeNames as bind
use Rattle.wy_names_recursion.specs.TypeNames.{just_a_name}
use Rattle.wy_names_lower.specs.Uses.{Template}
use Rattle.wy_names_lower.specs.Variables.{type_of}
use Rattle.wy_names_lower.specs.TypesLowered.{placed, in_ty, in_fields}
use Rattle.wy_core.specs.formed.Offers.{Offers}
use Rattle.wy_core.specs.formed.Bound as formed
use Rattle.wy_core.specs.formed.Bound.{Rise, BoundTy}
use Rattle.wy_names.proofs.resolved_lemmas.NotedLemmas.{noted_none}
use Rattle.wy_names.proofs.resolved_lemmas.BindLemmas.{before_ty, field_ty}
use Rattle.wy_names.proofs.resolved_lemmas.ScopeLemmas.{erased, erased_option, seen_entry, Leads, entry_leads}
use Rattle.wy_names.proofs.resolved_lemmas.FieldLemmas.{rise_placed, each_placed, names_tys, each_ty}

module _ (o : Offers) (ts : List Template) (vs : formed.Scope) where
  named_bound : (b s : Scope) (name : List ℕ) → b ≡ erased s → Leads o ts vs s → is_type (entry_of b name) ≡ true → type_of (entry_of s name) < o.types
  named_bound b s name h l is = by (entry_of s name) refl (ap is_type (sym (seen_entry b s name h)) ∙ is)
    where
      by : (e : Option Entry) → entry_of s name ≡ e → is_type (erased_option e) ≡ true → type_of e < o.types
      by None at k = absurd (cc)
      by (Some (entry.Type n decl)) at k = entry_leads o ts vs s name (entry.Type n decl) l at
      by (Some (entry.Routine r)) at k = absurd (cc)
      by (Some (entry.Property decl arity)) at k = absurd (cc)
      by (Some (entry.Variable n)) at k = absurd (cc)

  -- fields that are made so far
  abbrev Made : List (List ℕ × core.Ty) → Type 0
  Made fs = Rise (keys fs) × Each (BoundTy o.types) fs

  made_record : (fs : List (List ℕ × core.Ty)) → Made fs → BoundTy o.types (core.RecordTy (field_tys_of fs))
  made_record fs m = (subst (λ (ns : List (List ℕ)). Rise ns) (names_tys fs) m.0, each_ty o.types fs m.1)

  mutual
    pub bound_ty : (b s : Scope) → b ≡ erased s → Leads o ts vs s → (t : Ty) (found : Found) → bind.in_ty b t found ≡ None → BoundTy o.types (in_ty s t)
    bound_ty b s h l (NullTy at) found k = tt
    bound_ty b s h l (BoolTy at) found k = tt
    bound_ty b s h l (IntTy at) found k = tt
    bound_ty b s h l (AnyTy at) found k = tt
    bound_ty b s h l (VoidTy at) found k = tt
    bound_ty b s h l (RecordTy at fs) found k = made_record (in_fields s [] fs) (bound_field_tys b s h l [] [] fs found k (tt, tt))
    bound_ty b s h l (ArrayTy at item) found k = bound_ty b s h l item found k
    bound_ty b s h l (UnionTy at x y) found k = (bound_ty b s h l x found (before_ty b y (bind.in_ty b x found) k), bound_ty b s h l y (bind.in_ty b x found) k)
    bound_ty b s h l (InterTy at x y) found k = (bound_ty b s h l x found (before_ty b y (bind.in_ty b x found) k), bound_ty b s h l y (bind.in_ty b x found) k)
    bound_ty b s h l (NotTy at t) found k = bound_ty b s h l t found k
    bound_ty b s h l (NamedTy at name) found k = named_bound b s name h l (not_false (is_type (entry_of b name)) (noted_none (not (is_type (entry_of b name))) found at cause.Unknown k).1)

    bound_field_tys : (b s : Scope) → b ≡ erased s → Leads o ts vs s → (seen : Scope) (made : List (List ℕ × core.Ty)) (fs : FieldTys) (found : Found) → bind.in_fields b seen fs found ≡ None → Made made
        → Made (in_fields s made fs)
    bound_field_tys b s h l seen made NoFieldTys found k m = m
    bound_field_tys b s h l seen made (MoreFieldTys name t rest) found k m =
        let here : BoundTy o.types (in_ty s t) = bound_ty b s h l t found (field_ty b seen name t rest found k) in
        bound_field_tys b s h l (with_name seen name just_a_name) (placed made name (in_ty s t)) rest (noted_where (has seen name) (bind.in_ty b t found) (place_of_ty t) cause.Twice) k
        (rise_placed made name (in_ty s t) m.0, each_placed (BoundTy o.types) made name (in_ty s t) here m.1)
