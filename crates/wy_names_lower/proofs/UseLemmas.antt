-- Templates by their indices.
use Rattle.std.proofs.Common.{◌≡◌, ◌+◌, ◌<◌, ◌≤◌, ℕ, zero, suc, Bool, true, false, cond, List, [], ◌∷◌, length, map, drop, Option, refl, sym, ap, ◌∙◌, arith}
use Rattle.std.specs.List.{slice_get}
use Rattle.std.specs.Prelude.{slice_set}
use Rattle.std.specs.Bool.{nat_lt}
use Rattle.std.specs.Option.{option_map}
use Rattle.std.proofs.lemmas.Option.{slice_get-map}
use Rattle.std.proofs.lemmas.Bool.{lt-ltb, ltb-true}
use Rattle.wy_ast.specs.SurfaceSeen.{seen_decl}
use Rattle.wy_ast.specs.declared.declarations.Decl.{Decl}
use Rattle.wy_names_lower.specs.declared.uses.Template as rust
use Rattle.wy_names_lower.specs.Uses.{Template, seen_template, seen_templates, seen_maybe}
use Rattle.wy_names_scope.specs.Scope.{Scope}
use Rattle.wy_names_expand.specs.declared.measure.Expansion.{Expansion}
use Rattle.wy_names_lower.specs.Templates.{set_at, used_of, with_option, filled}

pub template_found : (ts : List rust.Template) (i : ℕ) → slice_get (seen_templates ts) i ≡ seen_maybe (slice_get ts i)
template_found ts i = slice_get-map seen_template ts i

pub decl_found : (ds : List Decl) (i : ℕ) → slice_get (map seen_decl ds) i ≡ option_map seen_decl (slice_get ds i)
decl_found ds i = slice_get-map seen_decl ds i

map_set : (ts : List rust.Template) (i : ℕ) (t : rust.Template) → seen_templates (slice_set ts i t) ≡ slice_set (seen_templates ts) i (seen_template t)
map_set [] i t = refl
map_set (x ∷ xs) zero t = refl
map_set (x ∷ xs) (suc i) t = ap (λ l. seen_template x ∷ l) (map_set xs i t)

seen_length : (ts : List rust.Template) → length (seen_templates ts) ≡ length ts
seen_length [] = refl
seen_length (x ∷ xs) = ap (λ n. suc n) (seen_length xs)

within_by : (ts : List Template) (i : ℕ) (t : Template) → i < length ts → set_at ts i t ≡ slice_set ts i t
within_by ts i t h = ap (λ b. cond b (slice_set ts i t) ts) (lt-ltb i (length ts) h)

beyond_by : (ts : List Template) (i : ℕ) (t : Template) → length ts ≤ i → set_at ts i t ≡ ts
beyond_by ts i t h = by (nat_lt i (length ts)) refl
  where
    by : (b : Bool) → nat_lt i (length ts) ≡ b → cond b (slice_set ts i t) ts ≡ ts
    by true e = let less : i < length ts = ltb-true i (length ts) e in absurd (omega arith)
    by false e = refl

pub set_within : (ts : List rust.Template) (i : ℕ) (t : rust.Template) → i < length ts → seen_templates (slice_set ts i t) ≡ set_at (seen_templates ts) i (seen_template t)
set_within ts i t h =
    let n = seen_length ts in
    let less : i < length (seen_templates ts) = omega arith in
    map_set ts i t ∙ sym (within_by (seen_templates ts) i (seen_template t) less)

pub set_beyond : (ts : List rust.Template) (i : ℕ) (t : rust.Template) → length ts ≤ i → seen_templates ts ≡ set_at (seen_templates ts) i (seen_template t)
set_beyond ts i t h =
    let n = seen_length ts in
    let over : length (seen_templates ts) ≤ i = omega arith in
    sym (beyond_by (seen_templates ts) i (seen_template t) over)

-- a turn of the loop over the order
pub filled_turn : (s s1 : Scope) (ds : List Decl) (x : List Expansion) (order : List ℕ) (i p : ℕ) (made made2 : List rust.Template) (used : List Bool) (e : Option Expansion) (d : Option Decl) (whole : List Template)
    → drop i order ≡ p ∷ drop (i + 1) order → s1 ≡ s → e ≡ slice_get x p → used ≡ used_of e → d ≡ slice_get ds p
    → seen_templates made2 ≡ with_option s1 (seen_templates made) used p (option_map seen_decl d)
    → filled s (map seen_decl ds) x (seen_templates made) (drop i order) ≡ whole → filled s (map seen_decl ds) x (seen_templates made2) (drop (i + 1) order) ≡ whole
filled_turn s s1 ds x order i p made made2 used e d whole dropped scope e_is used_is d_is step before =
    ap (λ (t : List Template). filled s (map seen_decl ds) x t (drop (i + 1) order))
    (step
    ∙ ap (λ (z : Scope). with_option z (seen_templates made) used p (option_map seen_decl d)) scope
    ∙ ap (λ (u : List Bool). with_option s (seen_templates made) u p (option_map seen_decl d)) (used_is ∙ ap used_of e_is)
    ∙ ap (with_option s (seen_templates made) (used_of (slice_get x p)) p) (ap (option_map seen_decl) d_is ∙ sym (decl_found ds p)))
    ∙ ap (filled s (map seen_decl ds) x (seen_templates made)) (sym dropped)
    ∙ before
