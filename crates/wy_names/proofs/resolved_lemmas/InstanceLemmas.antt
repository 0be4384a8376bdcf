-- A property's clauses at a use of it are bound where the use stands: its parameters are what is given for them, and its own variables have new numbers there.
use Rattle.std.proofs.Common.{◌≡◌, ◌<◌, ◌≤◌, inl, inr, ℕ, zero, suc, ◌+◌, ◌-◌, Bool, true, false, List, [], ◌∷◌, length, Option, Some, None, refl, sym, ap, subst, arith}
use Rattle.std.specs.List.{slice_get}
use Rattle.wy_core.specs.CoreTree.{Expr, NullExpr, BoolExpr, IntExpr, VarExpr, CallExpr, NegExpr, NotExpr, LenExpr, BinaryExpr, IsExpr, IndexExpr, FieldExpr, ListExpr, RepeatExpr, RecordExpr, QuantExpr, Exprs, NoExprs, MoreExprs, Fields, NoFields, MoreFields}
use Rattle.wy_core.specs.declared.expressions.Op.TheVariants as op
use Rattle.wy_names_lower.specs.wy_core_build.Instances.{renumbered, argument_or, variable, instance_of, instances, instance_fields, joined_behind, joined}
use Rattle.wy_names_lower.specs.Uses.{Template}
use Rattle.wy_names_lower.specs.Variables.{Variables}
use Rattle.wy_core.specs.formed.Offers.{Offers, IsCall}
use Rattle.wy_core.specs.formed.Bound.{Scope, Has, IsNew, Rise, names_of, count_of, BoundExpr, BoundExprs, BoundFields, BoundClauses}
use Rattle.wy_core.specs.formed.Moves.{Moves}
use Rattle.wy_core.proofs.formed_lemmas.MoveLemmas.{moved_expr}
use Rattle.wy_names.proofs.resolved_lemmas.NumberLemmas.{some_expr}
use Rattle.wy_names.proofs.resolved_lemmas.ScopeLemmas.{below, has_below, below_has, TemplateLeads, Below}

-- clauses that name n variables, of which the first k are parameters, fit in where m are named, those from base on for them
pub record Fits (k n base m : ℕ) (given vs ws : Scope) : Type 0 where
  pub room : base + n ≤ m + k
  pub params : (i : ℕ) → i < k → Has vs i
  pub maps : (v : ℕ) → Has vs v → k ≤ v → Has ws ((v - k) + base)
  pub back : (w : ℕ) → Has ws w → base ≤ w → (v : ℕ) × Has vs v × (k ≤ v) × (w ≡ (v - k) + base)
  pub moves : Moves base m given ws

-- the same behind the declaration of a variable that is no parameter
fits_more : {k n base m : ℕ} {given vs ws : Scope} (v : ℕ) → k ≤ v → Fits k n base m given vs ws → Fits k n base m given (v ∷ vs) (((v - k) + base) ∷ ws)
fits_more {k} {n} {base} {m} {given} {vs} {ws} v le f = record { room = f.room; params = params; maps = maps; back = back; moves = moves }
  where
    params : (i : ℕ) → i < k → Has (v ∷ vs) i
    params i lt = inr (f.params i lt)

    maps : (x : ℕ) → Has (v ∷ vs) x → k ≤ x → Has (((v - k) + base) ∷ ws) ((x - k) + base)
    maps x (inl e) more = inl (ap (λ (y : ℕ). (y - k) + base) e)
    maps x (inr h) more = inr (f.maps x h more)

    back : (w : ℕ) → Has (((v - k) + base) ∷ ws) w → base ≤ w → (x : ℕ) × Has (v ∷ vs) x × (k ≤ x) × (w ≡ (x - k) + base)
    back w (inl e) more = (v, inl refl, le, sym e)
    back w (inr h) more = let b = f.back w h more in (b.0, inr b.1, b.2, b.3)

    none : (w : ℕ) → Has (((v - k) + base) ∷ ws) w → w < base → Has given w
    none w (inl e) less = absurd (omega (arith, e, less))
    none w (inr h) less = f.moves.none w h less

    moves : Moves base m given (((v - k) + base) ∷ ws)
    moves = record { within = f.moves.within; all = λ (x : ℕ) (h : Has given x). inr (f.moves.all x h); none = none }

no_argument : (args : List (Expr ℕ)) (i : ℕ) → slice_get args i ≡ None → length args ≤ i
no_argument [] i h = omega arith
no_argument (a ∷ args) zero h = absurd (cc)
no_argument (a ∷ args) (suc i) h = let less = no_argument args i h in omega (arith, less)

argument_bound : (o : Offers) (n : ℕ) (vs : Scope) (args : List (Expr ℕ)) (i : ℕ) (x : Expr ℕ) → BoundClauses o n vs args → slice_get args i ≡ Some x → BoundExpr o n vs x
argument_bound o n vs [] i x b h = absurd (cc)
argument_bound o n vs (a ∷ args) zero x b h = subst (λ (z : Expr ℕ). BoundExpr o n vs z) (some_expr a x h) b.0
argument_bound o n vs (a ∷ args) (suc i) x b h = argument_bound o n vs args i x b.1 h

count_instances : (at : ℕ) (args : List (Expr ℕ)) (base : ℕ) (es : Exprs ℕ) → count_of (instances at args base es) ≡ count_of es
count_instances at args base NoExprs = refl
count_instances at args base (MoreExprs e rest) = ap (λ (n : ℕ). n + 1) (count_instances at args base rest)

names_instances : (at : ℕ) (args : List (Expr ℕ)) (base : ℕ) (fs : Fields ℕ) → names_of (instance_fields at args base fs) ≡ names_of fs
names_instances at args base NoFields = refl
names_instances at args base (MoreFields name e rest) = ap (λ (ns : List (List ℕ)). name ∷ ns) (names_instances at args base rest)

module _ (o : Offers) (at : ℕ) (args : List (Expr ℕ)) (n base m : ℕ) (given : Scope) (b : BoundClauses o base given args) where
  bound_variable : (vs ws : Scope) → Fits (length args) n base m given vs ws → (v : ℕ) → Has vs v → BoundExpr o m ws (variable at args base v)
  bound_variable vs ws f v h = by (slice_get args v) refl
    where
      by : (x : Option (Expr ℕ)) → slice_get args v ≡ x → BoundExpr o m ws (argument_or (VarExpr at (renumbered args base v)) x)
      by None e = f.maps v h (no_argument args v e)
      by (Some x) e = moved_expr o f.moves x (argument_bound o base given args v x b e)

  -- a variable that is declared in a clause is no parameter, and its new number is new
  bound_new : (vs ws : Scope) → Fits (length args) n base m given vs ws → (v : ℕ) → IsNew n vs v → (length args ≤ v) × IsNew m ws (renumbered args base v)
  bound_new vs ws f v new = (own, (within, fresh))
    where
      less : v < n
      less = new.0

      room : base + n ≤ m + length args
      room = f.room

      own : length args ≤ v
      own = by (f.params v) (λ (h : Has vs v). new.1 h)
        where
          by : (v < length args → Has vs v) → (Has vs v → ⊥) → length args ≤ v
          by there out = let past : v < length args → ⊥ = λ (lt : v < length args). out (there lt) in omega (arith, past)

      within : renumbered args base v < m
      within = omega (arith, less, room, own)

      fresh : Has ws (renumbered args base v) → ⊥
      fresh h = by (f.back (renumbered args base v) h (omega arith))
        where
          by : (x : ℕ) × Has vs x × (length args ≤ x) × (renumbered args base v ≡ (x - length args) + base) → ⊥
          by p =
              let high : length args ≤ p.0 = p.2 in
              let is : (v - length args) + base ≡ (p.0 - length args) + base = p.3 in
              let same : p.0 ≡ v = omega (arith, own, high, is) in
              new.1 (subst (λ (z : ℕ). Has vs z) same p.1)

  mutual
    instance_expr : (vs ws : Scope) → Fits (length args) n base m given vs ws → (e : Expr ℕ) → BoundExpr o n vs e → BoundExpr o m ws (instance_of at args base e)
    instance_expr vs ws f (NullExpr p) h = tt
    instance_expr vs ws f (BoolExpr p truth) h = tt
    instance_expr vs ws f (IntExpr p z) h = tt
    instance_expr vs ws f (VarExpr p v) h = bound_variable vs ws f v h
    instance_expr vs ws f (CallExpr p routine es) h =
        (subst (λ (c : ℕ). IsCall o true routine c) (sym (count_instances at args base es)) h.0, instance_exprs vs ws f es h.1)
    instance_expr vs ws f (NegExpr p a) h = instance_expr vs ws f a h
    instance_expr vs ws f (NotExpr p a) h = instance_expr vs ws f a h
    instance_expr vs ws f (LenExpr p a) h = instance_expr vs ws f a h
    instance_expr vs ws f (BinaryExpr p op x y) h = (instance_expr vs ws f x h.0, instance_expr vs ws f y h.1)
    instance_expr vs ws f (IsExpr p a t) h = (instance_expr vs ws f a h.0, h.1)
    instance_expr vs ws f (IndexExpr p x y) h = (instance_expr vs ws f x h.0, instance_expr vs ws f y h.1)
    instance_expr vs ws f (FieldExpr p a name) h = instance_expr vs ws f a h
    instance_expr vs ws f (ListExpr p items) h = instance_exprs vs ws f items h
    instance_expr vs ws f (RepeatExpr p x y) h = (instance_expr vs ws f x h.0, instance_expr vs ws f y h.1)
    instance_expr vs ws f (RecordExpr p fs) h =
        (subst (λ (ns : List (List ℕ)). Rise ns) (sym (names_instances at args base fs)) h.0, instance_fields_bound vs ws f fs h.1)
    instance_expr vs ws f (QuantExpr p all v from to body) h =
        let new = bound_new vs ws f v h.0 in
        (new.1, instance_expr vs ws f from h.1, instance_expr vs ws f to h.2, instance_expr (v ∷ vs) (((v - length args) + base) ∷ ws) (fits_more v new.0 f) body h.3)

    instance_exprs : (vs ws : Scope) → Fits (length args) n base m given vs ws → (es : Exprs ℕ) → BoundExprs o n vs es → BoundExprs o m ws (instances at args base es)
    instance_exprs vs ws f NoExprs h = tt
    instance_exprs vs ws f (MoreExprs e rest) h = (instance_expr vs ws f e h.0, instance_exprs vs ws f rest h.1)

    instance_fields_bound : (vs ws : Scope) → Fits (length args) n base m given vs ws → (fs : Fields ℕ) → BoundFields o n vs fs → BoundFields o m ws (instance_fields at args base fs)
    instance_fields_bound vs ws f NoFields h = tt
    instance_fields_bound vs ws f (MoreFields name e rest) h = (instance_expr vs ws f e h.0, instance_fields_bound vs ws f rest h.1)

  joined_bound : (vs ws : Scope) → Fits (length args) n base m given vs ws → (first : Bool) (e : Expr ℕ) → BoundExpr o m ws e → (cs : List (Expr ℕ)) → BoundClauses o n vs cs
      → BoundExpr o m ws (joined_behind at args base first e cs)
  joined_bound vs ws f first e h [] k = h
  joined_bound vs ws f true e h (c ∷ cs) k = joined_bound vs ws f false (instance_of at args base c) (instance_expr vs ws f c k.0) cs k.1
  joined_bound vs ws f false e h (c ∷ cs) k =
      joined_bound vs ws f false (BinaryExpr at op.And e (instance_of at args base c)) (h, instance_expr vs ws f c k.0) cs k.1

-- the use of a property with as many arguments as it has parameters
pub expansion_bound : (o : Offers) (at : ℕ) (t : Template) (names : Variables) (vs : Scope) (args : List (Expr ℕ)) (m : ℕ) → Below vs (length names) → BoundClauses o (length names) vs args
    → TemplateLeads o (length args) (Some t) → length names + length t.names ≤ m → BoundExpr o m vs (joined at args (length names) t.clauses)
expansion_bound o at t names vs args m low b leads le =
    joined_bound o at args (length args + length t.names) (length names) m vs b (below (length args)) vs fits true (BoolExpr at true) tt t.clauses leads
  where
    none : (v : ℕ) → Has vs v → v < length names → Has vs v
    none v h less = h

    maps : (v : ℕ) → Has (below (length args)) v → length args ≤ v → Has vs ((v - length args) + length names)
    maps v h high = absurd (let less : v < length args = below_has (length args) v h in omega (arith, less, high))

    back : (w : ℕ) → Has vs w → length names ≤ w → (v : ℕ) × Has (below (length args)) v × (length args ≤ v) × (w ≡ (v - length args) + length names)
    back w h high = absurd (let less : w < length names = low.less w h in omega (arith, less, high))

    fits : Fits (length args) (length args + length t.names) (length names) m vs (below (length args)) vs
    fits = record {
      room = omega (arith, le);
      params = has_below (length args);
      maps = maps;
      back = back;
      moves = record { within = omega (arith, le); all = λ (v : ℕ) (h : Has vs v). h; none = none };
    }
