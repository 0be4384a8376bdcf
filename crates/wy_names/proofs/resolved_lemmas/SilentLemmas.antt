-- Where calls stand in a property's clauses with arguments put in.
use Rattle.std.proofs.Common.{◌≡◌, ◌<◌, ℕ, zero, suc, ◌+◌, List, [], ◌∷◌, length, Option, Some, None, refl, ap, arith}
use Rattle.std.specs.List.{slice_get}
use Rattle.wy_core.specs.CoreTree.{Expr, NullExpr, BoolExpr, IntExpr, VarExpr, CallExpr, NegExpr, NotExpr, LenExpr, BinaryExpr, IsExpr, IndexExpr, FieldExpr, ListExpr, RepeatExpr, RecordExpr, QuantExpr, Exprs, NoExprs, MoreExprs, Fields, NoFields, MoreFields}
use Rattle.wy_core.specs.declared.expressions.Op.TheVariants as op
use Rattle.wy_names_lower.specs.wy_core_build.Instances.{renumbered, argument_or, variable, instance_of, instances, instance_fields}
use Rattle.wy_core.specs.formed.Calls.{CallsExpr, CallsExprs, CallsFields, CallsClauses, Nothing}
use Rattle.wy_core.specs.formed.Wholes.{IsQuiet, AreQuiet, FieldsQuiet}
use Rattle.wy_names.proofs.resolved_lemmas.TallyLemmas.{tally, tallies, field_tallies}
use Rattle.wy_names.proofs.resolved_lemmas.ContentLemmas.{by_use, Usage, single}
use Rattle.wy_names.proofs.resolved_lemmas.PutLemmas.{single_there, conjoined, whole_of}

-- ---- what calls nothing is quiet

mutual
  pub quiet_silent : (e : Expr ℕ) → CallsExpr Nothing e → IsQuiet e
  quiet_silent (NullExpr at) h = tt
  quiet_silent (BoolExpr at truth) h = tt
  quiet_silent (IntExpr at number) h = tt
  quiet_silent (VarExpr at v) h = tt
  quiet_silent (CallExpr at routine args) h = absurd h.0
  quiet_silent (NegExpr at a) h = quiet_silent a h
  quiet_silent (NotExpr at a) h = quiet_silent a h
  quiet_silent (LenExpr at a) h = quiet_silent a h
  quiet_silent (BinaryExpr at op a b) h = (quiet_silent a h.0, quiet_silent b h.1)
  quiet_silent (IsExpr at a t) h = quiet_silent a h
  quiet_silent (IndexExpr at a b) h = (quiet_silent a h.0, quiet_silent b h.1)
  quiet_silent (FieldExpr at a name) h = quiet_silent a h
  quiet_silent (ListExpr at items) h = all_quiet items h
  quiet_silent (RepeatExpr at a b) h = (quiet_silent a h.0, quiet_silent b h.1)
  quiet_silent (RecordExpr at fields) h = fields_quiet fields h
  quiet_silent (QuantExpr at all v from to body) h = h

  all_quiet : (es : Exprs ℕ) → CallsExprs Nothing es → AreQuiet es
  all_quiet NoExprs h = tt
  all_quiet (MoreExprs e rest) h = (quiet_silent e h.0, all_quiet rest h.1)

  fields_quiet : (fs : Fields ℕ) → CallsFields Nothing fs → FieldsQuiet fs
  fields_quiet NoFields h = tt
  fields_quiet (MoreFields name e rest) h = (quiet_silent e h.0, fields_quiet rest h.1)

-- ---- clauses with arguments put in

left_more : (a b : ℕ) → 0 < a → 0 < a + b
left_more a b lt = omega (arith, lt)

right_more : (a b : ℕ) → 0 < b → 0 < a + b
right_more a b lt = omega (arith, lt)

module _ (at : ℕ) (args : List (Expr ℕ)) (base : ℕ) (n : ℕ) (all : length args ≡ n) where
  past : (xs : List (Expr ℕ)) (v : ℕ) (a : Expr ℕ) → slice_get xs v ≡ Some a → v < length xs
  past [] v a h = absurd (cc)
  past (x ∷ xs) zero a h = omega arith
  past (x ∷ xs) (suc v) a h = let lt = past xs v a h in omega (arith, lt)

  stands : (v : ℕ) (a : Expr ℕ) → slice_get args v ≡ Some a → 0 < (single n v v).times
  stands v a h =
      let short = past args v a h in
      let lt : v < n = omega (arith, short, all) in
      let one : (single n v v).times ≡ 1 = ap (λ (u : Usage). u.times) (single_there n v v lt refl) in
      omega (arith, one)

  -- arguments that stand somewhere call nothing
  abbrev Silent : (ℕ → Usage) → Type 0
  Silent f = (i : ℕ) (a : Expr ℕ) → slice_get args i ≡ Some a → 0 < (f i).times → CallsExpr Nothing a

  variable_silent : (v : ℕ) → Silent (λ (i : ℕ). single n i v) → CallsExpr Nothing (variable at args base v)
  variable_silent v h = by (slice_get args v) refl
    where
      by : (o : Option (Expr ℕ)) → slice_get args v ≡ o → CallsExpr Nothing (argument_or (VarExpr at (renumbered args base v)) o)
      by None e = tt
      by (Some a) e = h v a e (stands v a e)

  first_silent : (f g : ℕ → Usage) → ((i : ℕ) (a : Expr ℕ) → slice_get args i ≡ Some a → 0 < (f i).times + (g i).times → CallsExpr Nothing a) → Silent f
  first_silent f g h i a e lt = h i a e (left_more (f i).times (g i).times lt)

  second_silent : (f g : ℕ → Usage) → ((i : ℕ) (a : Expr ℕ) → slice_get args i ≡ Some a → 0 < (f i).times + (g i).times → CallsExpr Nothing a) → Silent g
  second_silent f g h i a e lt = h i a e (right_more (f i).times (g i).times lt)

  abbrev uses : Expr ℕ → ℕ → Usage
  uses e i = tally by_use (single n i) e

  abbrev all_uses : Exprs ℕ → ℕ → Usage
  all_uses es i = tallies by_use (single n i) es

  abbrev field_uses : Fields ℕ → ℕ → Usage
  field_uses fs i = field_tallies by_use (single n i) fs

  abbrev two_uses : Expr ℕ → Expr ℕ → ℕ → Usage
  two_uses a b i = tally by_use (single n i) (BinaryExpr 0 op.And a b)

  mutual
    pub instance_silent : (e : Expr ℕ) → CallsExpr Nothing e → Silent (uses e) → CallsExpr Nothing (instance_of at args base e)
    instance_silent (NullExpr p) c h = tt
    instance_silent (BoolExpr p truth) c h = tt
    instance_silent (IntExpr p number) c h = tt
    instance_silent (VarExpr p v) c h = variable_silent v h
    instance_silent (CallExpr p routine es) c h = absurd c.0
    instance_silent (NegExpr p a) c h = instance_silent a c h
    instance_silent (NotExpr p a) c h = instance_silent a c h
    instance_silent (LenExpr p a) c h = instance_silent a c h
    instance_silent (BinaryExpr p op a b) c h = (instance_silent a c.0 (first_silent (uses a) (uses b) h), instance_silent b c.1 (second_silent (uses a) (uses b) h))
    instance_silent (IsExpr p a t) c h = instance_silent a c (first_silent (uses a) (λ (i : ℕ). record { times = 0; depth = 0; quants = 0 }) h)
    instance_silent (IndexExpr p a b) c h = (instance_silent a c.0 (first_silent (uses a) (uses b) h), instance_silent b c.1 (second_silent (uses a) (uses b) h))
    instance_silent (FieldExpr p a name) c h = instance_silent a c h
    instance_silent (ListExpr p es) c h = instances_silent es c h
    instance_silent (RepeatExpr p a b) c h = (instance_silent a c.0 (first_silent (uses a) (uses b) h), instance_silent b c.1 (second_silent (uses a) (uses b) h))
    instance_silent (RecordExpr p fs) c h = instance_fields_silent fs c h
    instance_silent (QuantExpr p all v from to body) c h = (
      instance_silent from c.0 (first_silent (uses from) (two_uses to body) h),
      instance_silent to c.1 (first_silent (uses to) (uses body) (second_silent (uses from) (two_uses to body) h)),
      instance_silent body c.2 (second_silent (uses to) (uses body) (second_silent (uses from) (two_uses to body) h)),
    )

    instances_silent : (es : Exprs ℕ) → CallsExprs Nothing es → Silent (all_uses es) → CallsExprs Nothing (instances at args base es)
    instances_silent NoExprs c h = tt
    instances_silent (MoreExprs e rest) c h = (instance_silent e c.0 (first_silent (uses e) (all_uses rest) h), instances_silent rest c.1 (second_silent (uses e) (all_uses rest) h))

    instance_fields_silent : (fs : Fields ℕ) → CallsFields Nothing fs → Silent (field_uses fs) → CallsFields Nothing (instance_fields at args base fs)
    instance_fields_silent NoFields c h = tt
    instance_fields_silent (MoreFields name e rest) c h = (instance_silent e c.0 (first_silent (uses e) (field_uses rest) h), instance_fields_silent rest c.1 (second_silent (uses e) (field_uses rest) h))

  -- arguments that stand in a quantifier call nothing
  abbrev Wrapped : (ℕ → Usage) → Type 0
  Wrapped f = (i : ℕ) (a : Expr ℕ) → slice_get args i ≡ Some a → 0 < (f i).quants → CallsExpr Nothing a

  -- and those that stand somewhere are quiet
  abbrev Quiet : (ℕ → Usage) → Type 0
  Quiet f = (i : ℕ) (a : Expr ℕ) → slice_get args i ≡ Some a → 0 < (f i).times → IsQuiet a

  variable_quiet : (v : ℕ) → Quiet (λ (i : ℕ). single n i v) → IsQuiet (variable at args base v)
  variable_quiet v h = by (slice_get args v) refl
    where
      by : (o : Option (Expr ℕ)) → slice_get args v ≡ o → IsQuiet (argument_or (VarExpr at (renumbered args base v)) o)
      by None e = tt
      by (Some a) e = h v a e (stands v a e)

  first_wrapped : (f g : ℕ → Usage) → ((i : ℕ) (a : Expr ℕ) → slice_get args i ≡ Some a → 0 < (f i).quants + (g i).quants → CallsExpr Nothing a) → Wrapped f
  first_wrapped f g h i a e lt = h i a e (left_more (f i).quants (g i).quants lt)

  second_wrapped : (f g : ℕ → Usage) → ((i : ℕ) (a : Expr ℕ) → slice_get args i ≡ Some a → 0 < (f i).quants + (g i).quants → CallsExpr Nothing a) → Wrapped g
  second_wrapped f g h i a e lt = h i a e (right_more (f i).quants (g i).quants lt)

  first_quiet : (f g : ℕ → Usage) → ((i : ℕ) (a : Expr ℕ) → slice_get args i ≡ Some a → 0 < (f i).times + (g i).times → IsQuiet a) → Quiet f
  first_quiet f g h i a e lt = h i a e (left_more (f i).times (g i).times lt)

  second_quiet : (f g : ℕ → Usage) → ((i : ℕ) (a : Expr ℕ) → slice_get args i ≡ Some a → 0 < (f i).times + (g i).times → IsQuiet a) → Quiet g
  second_quiet f g h i a e lt = h i a e (right_more (f i).times (g i).times lt)

  mutual
    pub instance_quiet : (e : Expr ℕ) → CallsExpr Nothing e → Wrapped (uses e) → Quiet (uses e) → IsQuiet (instance_of at args base e)
    instance_quiet (NullExpr p) c w h = tt
    instance_quiet (BoolExpr p truth) c w h = tt
    instance_quiet (IntExpr p number) c w h = tt
    instance_quiet (VarExpr p v) c w h = variable_quiet v h
    instance_quiet (CallExpr p routine es) c w h = absurd c.0
    instance_quiet (NegExpr p a) c w h = instance_quiet a c w h
    instance_quiet (NotExpr p a) c w h = instance_quiet a c w h
    instance_quiet (LenExpr p a) c w h = instance_quiet a c w h
    instance_quiet (BinaryExpr p op a b) c w h =
        (instance_quiet a c.0 (first_wrapped (uses a) (uses b) w) (first_quiet (uses a) (uses b) h), instance_quiet b c.1 (second_wrapped (uses a) (uses b) w) (second_quiet (uses a) (uses b) h))
    instance_quiet (IsExpr p a t) c w h =
        instance_quiet a c (first_wrapped (uses a) (λ (i : ℕ). record { times = 0; depth = 0; quants = 0 }) w) (first_quiet (uses a) (λ (i : ℕ). record { times = 0; depth = 0; quants = 0 }) h)
    instance_quiet (IndexExpr p a b) c w h =
        (instance_quiet a c.0 (first_wrapped (uses a) (uses b) w) (first_quiet (uses a) (uses b) h), instance_quiet b c.1 (second_wrapped (uses a) (uses b) w) (second_quiet (uses a) (uses b) h))
    instance_quiet (FieldExpr p a name) c w h = instance_quiet a c w h
    instance_quiet (ListExpr p es) c w h = instances_quiet es c w h
    instance_quiet (RepeatExpr p a b) c w h =
        (instance_quiet a c.0 (first_wrapped (uses a) (uses b) w) (first_quiet (uses a) (uses b) h), instance_quiet b c.1 (second_wrapped (uses a) (uses b) w) (second_quiet (uses a) (uses b) h))
    instance_quiet (RecordExpr p fs) c w h = instance_fields_quiet fs c w h
    instance_quiet (QuantExpr p all v from to body) c w h =
        let inside : (i : ℕ) (a : Expr ℕ) → slice_get args i ≡ Some a → 0 < (uses from i).times + ((uses to i).times + (uses body i).times) → CallsExpr Nothing a =
        (λ (i : ℕ) (a : Expr ℕ) (e : slice_get args i ≡ Some a) (lt : 0 < (uses from i).times + ((uses to i).times + (uses body i).times)).
        w i a e (left_more ((uses from i).times + ((uses to i).times + (uses body i).times)) ((uses from i).quants + ((uses to i).quants + (uses body i).quants)) lt))
        in (
          instance_silent from c.0 (first_silent (uses from) (two_uses to body) inside),
          instance_silent to c.1 (first_silent (uses to) (uses body) (second_silent (uses from) (two_uses to body) inside)),
          instance_silent body c.2 (second_silent (uses to) (uses body) (second_silent (uses from) (two_uses to body) inside)),
        )

    instances_quiet : (es : Exprs ℕ) → CallsExprs Nothing es → Wrapped (all_uses es) → Quiet (all_uses es) → AreQuiet (instances at args base es)
    instances_quiet NoExprs c w h = tt
    instances_quiet (MoreExprs e rest) c w h =
        (instance_quiet e c.0 (first_wrapped (uses e) (all_uses rest) w) (first_quiet (uses e) (all_uses rest) h), instances_quiet rest c.1 (second_wrapped (uses e) (all_uses rest) w) (second_quiet (uses e) (all_uses rest) h))

    instance_fields_quiet : (fs : Fields ℕ) → CallsFields Nothing fs → Wrapped (field_uses fs) → Quiet (field_uses fs) → FieldsQuiet (instance_fields at args base fs)
    instance_fields_quiet NoFields c w h = tt
    instance_fields_quiet (MoreFields name e rest) c w h =
        (instance_quiet e c.0 (first_wrapped (uses e) (field_uses rest) w) (first_quiet (uses e) (field_uses rest) h), instance_fields_quiet rest c.1 (second_wrapped (uses e) (field_uses rest) w) (second_quiet (uses e) (field_uses rest) h))

-- ---- clauses that call nothing

conjoined_silent : (e : Expr ℕ) (cs : List (Expr ℕ)) → CallsExpr Nothing e → CallsClauses Nothing cs → CallsExpr Nothing (conjoined e cs)
conjoined_silent e [] h k = h
conjoined_silent e (c ∷ cs) h k = conjoined_silent (BinaryExpr 0 op.And e c) cs (h, k.0) k.1

pub whole_silent : (cs : List (Expr ℕ)) → CallsClauses Nothing cs → CallsExpr Nothing (whole_of cs)
whole_silent [] h = tt
whole_silent (c ∷ cs) h = conjoined_silent c cs h.0 h.1
