-- Where names lead where they should, parameters and results are variables of their own, of types that a source may write.
use Rattle.std.proofs.Common.{◌≡◌, inl, inr, ◌<◌, ℕ, List, [], ◌∷◌, Option, Some, None, sym, subst}
use Rattle.wy_core.specs.CoreTree as tree
use Rattle.wy_core.specs.CoreTree.{Param, Routine}
use Rattle.wy_core.specs.formed.Offers.{Offers}
use Rattle.wy_core.specs.formed.Bound.{Scope, Has, IsNewOption, BoundParams, BoundResult, result_variable}
use Rattle.wy_sound_types.proofs.members_lemmas.WrittenLemmas.{bound_written}
use Rattle.wy_sound_types.specs.Routines.{ParamsAmong, ResultAmong}
use Rattle.wy_sound_types.specs.sound_routines.Entries.{IsNone, ParamsApart}

pub params_among : (o : Offers) (n : ℕ) (vs : Scope) (ps : List Param) → BoundParams o n vs ps → ParamsAmong n ps
params_among o n vs [] h = tt
params_among o n vs (p ∷ ps) h = (h.1.0, bound_written o.types p.ty h.0, params_among o n (p.variable ∷ vs) ps h.2)

-- a variable in scope is none of the parameters behind
none_of : (o : Offers) (n : ℕ) (vs : Scope) (x : ℕ) (ps : List Param) → BoundParams o n vs ps → Has vs x → IsNone x ps
none_of o n vs x [] h has = tt
none_of o n vs x (p ∷ ps) h has = (λ e. h.1.1 (subst (Has vs) (sym e) has), none_of o n (p.variable ∷ vs) x ps h.2 (inr has))

pub params_apart : (o : Offers) (n : ℕ) (vs : Scope) (ps : List Param) → BoundParams o n vs ps → ParamsApart n ps
params_apart o n vs [] h = tt
params_apart o n vs (p ∷ ps) h =
    (h.1.0, bound_written o.types p.ty h.0, none_of o n (p.variable ∷ vs) p.variable ps h.2 (inl (λ i. p.variable)), params_apart o n (p.variable ∷ vs) ps h.2)

-- a variable that may be absent is one of so many
new_below : (n : ℕ) (vs : Scope) (x : Option ℕ) → IsNewOption n vs x → (y : ℕ) → x ≡ Some y → y < n
new_below n vs None h y e = absurd cc
new_below n vs (Some x) h y e = let is : x ≡ y = cc in subst (λ (z : ℕ). z < n) is h.0

pub result_among : (o : Offers) (n : ℕ) (vs : Scope) (out : Option tree.Output) → BoundResult o out → IsNewOption n vs (result_variable out) → ResultAmong n out
result_among o n vs None h new = tt
result_among o n vs (Some out) h new = (bound_written o.types out.ty h, new_below n vs out.variable new)
