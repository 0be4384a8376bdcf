-- Numbers among flow types.
use Rattle.std.proofs.Common.{◌≡◌, ℕ, zero, suc, ◌+◌, Bool, false, List, [], ◌∷◌, ◌++◌, map, take, slice_get, slice_index_or, Some, Result, Ok, Err, IfOk, refl, sym, ap, ◌∙◌, arith}
use Rattle.wy_core.specs.Types as ty
use Rattle.wy_core.specs.CoreSeen.{seen_core}
use Rattle.wy_core.specs.declared.declarations.Core.{Core}
use Rattle.wy_vc_spec.specs.Named.{is_number_type}
use Rattle.wy_vc_spec.specs.Numbered.{Node, numbered_core}
use Rattle.wy_vc_spec.specs.Programs.{setting_of}
use Rattle.wy_vc_spec.specs.Values.{Setting}
use Rattle.wy_vc_tables.specs.declared.program_names.program.Program.{Program}
use Rattle.wy_vc_tables.specs.program_names.Described.{is_number_in, setting, types_of}
use mathlib.Core.Path.{fun_ext}

-- ---- flow types

number_read : (flow : List ty.Ty) (n : ℕ) → slice_index_or (map is_number_type flow) n false ≡ is_number_type (slice_index_or flow n ty.VoidTy)
number_read [] n = refl
number_read (t ∷ flow) zero = refl
number_read (t ∷ flow) (suc n) = number_read flow n

-- the first n of a list, with the next
mapped_more : (flow : List ty.Ty) (i : ℕ) (t : ty.Ty) → slice_get flow i ≡ Some t → map is_number_type (take i flow) ++ is_number_type t ∷ [] ≡ map is_number_type (take (suc i) flow)
mapped_more [] i t got = absurd cc
mapped_more (x ∷ flow) zero t got = let same : x ≡ t = cc in ap (λ (y : ty.Ty). is_number_type y ∷ []) (sym same)
mapped_more (x ∷ flow) (suc i) t got = ap (λ (l : List Bool). is_number_type x ∷ l) (mapped_more flow i t got)

-- one mark more
pub mapped_push : (flow : List ty.Ty) (i : ℕ) (t : ty.Ty) (marks new : List Bool) (b : Bool) → new ≡ marks ++ b ∷ [] → marks ≡ map is_number_type (take i flow) → b ≡ is_number_type t → slice_get flow i ≡ Some t
    → new ≡ map is_number_type (take (i + 1) flow)
mapped_push flow i t marks new b pushed are is got =
    let e : suc i ≡ i + 1 = omega arith in
    pushed
    ∙ (ap (λ (l : List Bool). l ++ b ∷ []) are
    ∙ (ap (λ (x : Bool). map is_number_type (take i flow) ++ x ∷ []) is ∙ (mapped_more flow i t got ∙ ap (λ (k : ℕ). map is_number_type (take k flow)) e)))

abbrev with_numbers : Core → (Node → Bool) → Setting Node
with_numbers core f = record { place = (λ k. k.at); is_number = f; types = types_of core }

-- what walks go by is what the definition goes by
setting_same : (core : Core) (p : Program) (flow : List ty.Ty) → p.is_number.items ≡ map is_number_type flow → setting core p ≡ setting_of (numbered_core (seen_core core)) flow
setting_same core p flow is =
    ap (λ (f : Node → Bool). with_numbers core f) (fun_ext (λ k. ap (λ (marks : List Bool). is_number_in marks k) is ∙ number_read flow k.number))

pub setting_if : {E : Type 0} (core : Core) (flow : List ty.Ty) (marks : List Bool) (result : Result Program E) → marks ≡ map is_number_type flow → IfOk result (λ p. p.is_number.items ≡ marks)
    → IfOk result (λ p. setting core p ≡ setting_of (numbered_core (seen_core core)) flow)
setting_if core flow marks (Err e) are so = tt
setting_if core flow marks (Ok p) are so = setting_same core p flow (so ∙ are)
