-- A name put last leaves what stood before, so a table is cut back to what it was.
use Rattle.std.proofs.Common.{◌≡◌, ◌≤◌, ℕ, Option, Some, None, is_some, Bool, true, false, List, [], ◌∷◌, ◌++◌, length, take, refl, ap, ◌∙◌, cond, arith}
use Rattle.std.proofs.lemmas.List.{take-append-le, length-take}
use Rattle.wy_names_scope.specs.declared.table.Entry.{Entry}
use Rattle.wy_names_scope.specs.Scope.{Scope, has, with_name}

pub cut-with : (scope s : Scope) (name : List ℕ) (e : Entry) → take (length scope) s ≡ scope → take (length scope) (with_name s name e) ≡ scope
cut-with scope s name e h = by (has s name)
  where
    fits : length scope ≤ length s
    fits = let n = length-take (length scope) s in let m = ap length h in omega arith

    by : (b : Bool) → take (length scope) (cond b s (s ++ (name, e) ∷ [])) ≡ scope
    by true = h
    by false = take-append-le (length scope) s ((name, e) ∷ []) fits ∙ h

pub put-last : (s : Scope) (name : List ℕ) (e : Entry) → has s name ≡ false → with_name s name e ≡ s ++ (name, e) ∷ []
put-last s name e h = ap (λ b. cond b s (s ++ (name, e) ∷ [])) h

pub none-of : {A : Type 0} (o : Option A) → is_some o ≡ false → o ≡ None
none-of None h = refl
none-of (Some a) h = absurd (cc)
