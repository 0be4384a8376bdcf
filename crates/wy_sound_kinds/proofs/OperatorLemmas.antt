-- Answers of operators.
use Rattle.std.proofs.Common.{◌≡◌, inl, inr, ℕ, List, [], ◌∷◌, ◌++◌, Bool, true, false, not, ◌&&◌, ◌||◌, ℤ, pos, neg_ℤ, ◌+ℤ◌, ◌-ℤ◌, ◌*ℤ◌, int_le, int_lt, refl, sym, ap, ◌∙◌, subst}
use Rattle.std.specs.Int.{int_div_euclid, int_rem_euclid}
use Rattle.wy_lemmas.proofs.Choices.{false_true, no_call as true_false}
use Rattle.wy_value.specs.Datum.{Datum, Null, Truth, Whole, Array, Record}
use Rattle.wy_value.specs.Numbers.{is_int}
use Rattle.wy_value.specs.Values.{length_of}
use Rattle.wy_core.specs.Types.{Ty}
use Rattle.wy_core.specs.declared.expressions.Op.{Op}
use Rattle.wy_core.specs.declared.expressions.Op.TheVariants.{Add, Sub, Mul, Div, Mod, Equal, Less, LessEqual, Greater, GreaterEqual, And, Or}
use Rattle.wy_term.specs.declared.cond.CondKind.TheVariants as kind
use Rattle.wy_types.specs.Names.{Declared, Up}
use Rattle.wy_types.specs.Recursion.{RecurThroughParts}
use Rattle.wy_flow_spec.specs.environment.Variables.{Environment, Changes, int_type, bool_type}
use Rattle.wy_flow_spec.specs.typing.Outcomes.{Gives}
use Rattle.wy_flow_spec.specs.typing.Contexts.{Found}
use Rattle.wy_flow_spec.specs.typing.Leaves.{found}
use Rattle.wy_flow_spec.specs.typing.Narrowing.{with_variables}
use Rattle.wy_flow_spec.specs.typing.Operators.{Binary, right_side}
use Rattle.wy_sound_walks.specs.wy_sem.Meter.{Meter, Done, Run, ◌>>=◌, check, choose}
use Rattle.wy_sound_walks.specs.wy_sem.Operations.{same, same_number, as_number, as_truth, as_items, in_range, negated, denied, length_result, numbers, applied, second, operated}
use Rattle.wy_sound_walks.specs.wy_sem.Expressions.{Store}
use Rattle.wy_sound_kinds.specs.Bounded.{IsBounded}
use Rattle.wy_sound_kinds.specs.Kinds.{HasTypes, Kind}
use Rattle.wy_sound_kinds.proofs.frames_lemmas.EveryLemmas.{Every, every_bind, every_map, every_check, every_choose, every_number, every_truth, every_items}
use Rattle.wy_sound_kinds.proofs.DatumLemmas.{length_is_int, rest_bounded}
use Rattle.wy_sound_kinds.proofs.TypeLemmas.{then_gives, given_is, types_nothing, types_more, either_all}

pub every_numbers : {X : Type 0} (at : ℕ) (v w : Datum) (next : ℤ → ℤ → Run X) (m : Meter) (P : X → Type 0) → ((x y : ℤ) → v ≡ Whole x → w ≡ Whole y → Every (next x y m) P) → Every (numbers at v w next m) P
every_numbers at v w next m P h = every_number at v (λ x. as_number at w (λ y. next x y)) m P (λ x e. every_number at w (λ y. next x y) m P (λ y f. h x y e f))

truth_is : (a b : Bool) → Truth a ≡ Truth b → a ≡ b
truth_is a b e = cc

module _ (names : List Declared) (env : Environment) (over : Changes) (seen : ℕ → Bool) (s : Store) where
  abbrev pub K : Found → Datum → Type 0
  K v d = Kind names env over seen s v d

  pub as_found : (v u : Found) (d : Datum) → Gives v ≡ Gives u → K u d → K v d
  as_found v u d e h = subst (λ (x : Found). K x d) (sym (given_is v u e)) h

  -- of a type, where no variable is changed
  pub kind_plain : (d : Datum) (t : Ty) (flow : List Ty) → HasTypes names env over seen s → IsBounded d → Up names d t ≡ true → K (found t [] [] flow) d
  kind_plain d t flow h b e = record { bounded = b; inside = e; if_true = λ q. types_nothing names env seen s over h; if_false = λ q. types_nothing names env seen s over h }

  pub kind_int : (z : ℤ) (flow : List Ty) → HasTypes names env over seen s → is_int z ≡ true → K (found int_type [] [] flow) (Whole z)
  kind_int z flow h e = kind_plain (Whole z) int_type flow h e refl

  pub kind_truth : (b : Bool) (up down : Changes) (flow : List Ty) → (b ≡ true → HasTypes names env (over ++ up) seen s) → (b ≡ false → HasTypes names env (over ++ down) seen s) → K (found bool_type up down flow) (Truth b)
  kind_truth b up down flow h g = record { bounded = tt; inside = refl; if_true = λ q. h (truth_is b true q); if_false = λ q. g (truth_is b false q) }

  pub kind_bool : (b : Bool) (flow : List Ty) → HasTypes names env over seen s → K (found bool_type [] [] flow) (Truth b)
  kind_bool b flow h = kind_plain (Truth b) bool_type flow h tt refl

  module _ (h : HasTypes names env over seen s) (flow : List Ty) where
    pub in_range_kind : (at : ℕ) (z : ℤ) (m : Meter) → Every (in_range at z m) (K (found int_type [] [] flow))
    in_range_kind at z m = every_check (is_int z) kind.Range at (Done (Whole z)) m (K (found int_type [] [] flow)) (λ e. kind_int z flow h e)

    pub negated_kind : (at : ℕ) (d : Datum) (m : Meter) → Every (negated at d m) (K (found int_type [] [] flow))
    negated_kind at d m = every_number at d (λ x. in_range at (neg_ℤ x)) m (K (found int_type [] [] flow)) (λ z e. in_range_kind at (neg_ℤ z) m)

    pub length_kind : (at : ℕ) (d : Datum) (m : Meter) → IsBounded d → Every (length_result at d m) (K (found int_type [] [] flow))
    length_kind at d m b =
        every_items at d (λ ds. Done (Whole (pos (length_of ds)))) m (K (found int_type [] [] flow))
        (λ ds e. let c : IsBounded (Array ds) = subst IsBounded e b in kind_int (pos (length_of ds)) flow h (length_is_int ds c.0))

    whole_bounded : (d : Datum) (z : ℤ) → d ≡ Whole z → IsBounded d → is_int z ≡ true
    whole_bounded d z e b = let c : IsBounded (Whole z) = subst IsBounded e b in c

    pub arithmetic_kind : (at : ℕ) (d e : Datum) (f : ℤ → ℤ → ℤ) (m : Meter) → Every (numbers at d e (λ x y. in_range at (f x y)) m) (K (found int_type [] [] flow))
    arithmetic_kind at d e f m = every_numbers at d e (λ x y. in_range at (f x y)) m (K (found int_type [] [] flow)) (λ x y p q. in_range_kind at (f x y) m)

    pub quotient_kind : (at : ℕ) (d e : Datum) (m : Meter) → Every (applied Div at d e m) (K (found int_type [] [] flow))
    quotient_kind at d e m =
        every_numbers at d e (λ x y. check (not (same_number y (pos 0))) kind.Divisor at (in_range at (int_div_euclid x y))) m (K (found int_type [] [] flow))
        (λ x y p q. every_check (not (same_number y (pos 0))) kind.Divisor at (in_range at (int_div_euclid x y)) m (K (found int_type [] [] flow)) (λ n. in_range_kind at (int_div_euclid x y) m))

    pub rest_kind : (at : ℕ) (d e : Datum) (m : Meter) → IsBounded e → Every (applied Mod at d e m) (K (found int_type [] [] flow))
    rest_kind at d e m b =
        every_numbers at d e (λ x y. check (not (same_number y (pos 0))) kind.Divisor at (Done (Whole (int_rem_euclid x y)))) m (K (found int_type [] [] flow))
        (λ x y p q. every_check (not (same_number y (pos 0))) kind.Divisor at (Done (Whole (int_rem_euclid x y))) m (K (found int_type [] [] flow))
        (λ n. kind_int (int_rem_euclid x y) flow h (rest_bounded x y n (whole_bounded e y q b))))

    pub compared_kind : (at : ℕ) (d e : Datum) (f : ℤ → ℤ → Bool) (m : Meter) → Every (numbers at d e (λ x y. Done (Truth (f x y))) m) (K (found bool_type [] [] flow))
    compared_kind at d e f m = every_numbers at d e (λ x y. Done (Truth (f x y))) m (K (found bool_type [] [] flow)) (λ x y p q. kind_bool (f x y) flow h)

-- ---- `!`

pub denied_kind : (names : List Declared) (env : Environment) (over : Changes) (seen : ℕ → Bool) (s : Store) (at : ℕ) (v : Found) (d : Datum) (m : Meter) → Kind names env over seen s v d
    → Every (denied at d m) (Kind names env over seen s (found bool_type v.no v.yes v.flow))
denied_kind names env over seen s at v d m h =
    every_truth at d (λ b. Done (Truth (not b))) m (Kind names env over seen s (found bool_type v.no v.yes v.flow)) (λ b e. by b e)
  where
    by : (b : Bool) → d ≡ Truth b → Kind names env over seen s (found bool_type v.no v.yes v.flow) (Truth (not b))
    by true e = kind_truth names env over seen s false v.no v.yes v.flow (λ q. false_true q) (λ q. h.if_true e)
    by false e = kind_truth names env over seen s true v.no v.yes v.flow (λ q. h.if_false e) (λ q. true_false q)

-- ---- two operands

module _ (names : List Declared) (recur : RecurThroughParts names) (env : Environment) (reached : env.reached ≡ true) (over : Changes) (seen : ℕ → Bool) (s : Store) (h : HasTypes names env over seen s) (node at : ℕ) where
  -- an operator that evaluates both
  plain : (o : Op) (right : Run Datum) (d : Datum) (m : Meter) (b u : Found) → ((i : Meter) → Every (right i) (Kind names env over seen s b))
      → ((e : Datum) (i : Meter) → Kind names env over seen s b e → Every (applied o at d e i) (Kind names env over seen s u)) → Every (second o at right d m) (Kind names env over seen s u)
  plain o right d m b u g f = every_bind (right m) (λ e. applied o at d e) (Kind names env over seen s b) (Kind names env over seen s u) (g m) (λ e i q k. f e i k)

  told : (u v : Found) (o : Run Datum) (m : Meter) → Gives u ≡ Gives v → Every (o m) (Kind names env over seen s v) → Every (o m) (Kind names env over seen s u)
  told u v o m e g = every_map (o m) (Kind names env over seen s v) (Kind names env over seen s u) g (λ d k. as_found names env over seen s u v d e k)

  and_right : (a b : Found) (off : Changes) (e : Datum) (i : Meter) → Kind names env (over ++ a.yes) seen s b e
      → (HasTypes names env (over ++ (a.yes ++ b.no)) seen s → HasTypes names env (over ++ off) seen s)
      → Every (applied And at (Truth true) e i) (Kind names env over seen s (found bool_type (a.yes ++ b.yes) off b.flow))
  and_right a b off e i k either =
      every_truth at e (λ c. Done (Truth c)) i (Kind names env over seen s (found bool_type (a.yes ++ b.yes) off b.flow))
      (λ c q. kind_truth names env over seen s c (a.yes ++ b.yes) off b.flow
      (λ t. types_more names env seen s over a.yes b.yes (k.if_true (q ∙ ap Truth t)))
      (λ f. either (types_more names env seen s over a.yes b.no (k.if_false (q ∙ ap Truth f)))))

  or_right_kind : (a b : Found) (on : Changes) (e : Datum) (i : Meter) → Kind names env (over ++ a.no) seen s b e
      → (HasTypes names env (over ++ (a.no ++ b.yes)) seen s → HasTypes names env (over ++ on) seen s)
      → Every (applied Or at (Truth false) e i) (Kind names env over seen s (found bool_type on (a.no ++ b.no) b.flow))
  or_right_kind a b on e i k either =
      every_truth at e (λ c. Done (Truth c)) i (Kind names env over seen s (found bool_type on (a.no ++ b.no) b.flow))
      (λ c q. kind_truth names env over seen s c on (a.no ++ b.no) b.flow
      (λ t. either (types_more names env seen s over a.no b.yes (k.if_true (q ∙ ap Truth t))))
      (λ f. types_more names env seen s over a.no b.no (k.if_false (q ∙ ap Truth f))))

  and_kind : (right : Run Datum) (d : Datum) (m : Meter) (a b u : Found) → Kind names env over seen s a d → Binary names node env over And a b (Gives u)
      → ((i : Meter) → HasTypes names env (over ++ a.yes) seen s → Every (right i) (Kind names env (over ++ a.yes) seen s b))
      → Every (operated And at right d m) (Kind names env over seen s u)
  and_kind right d m a b u k typed g =
      let t1 = then_gives _ _ u typed in
      let t2 = then_gives _ _ u t1.2 in
      let start = types_nothing names env seen s over h in
      let R : Datum → Type 0 = Kind names env over seen s (found bool_type (a.yes ++ b.yes) t2.0 b.flow) in
      told u (found bool_type (a.yes ++ b.yes) t2.0 b.flow) (operated And at right d) m t2.2
      (every_truth at d (λ c. choose c (second And at right d) (Done (Truth false))) m R
      (λ c e. every_choose c (second And at right d) (Done (Truth false)) m R
      (λ on. every_bind (right m) (λ x. applied And at d x) (Kind names env (over ++ a.yes) seen s b) R (g m (k.if_true (e ∙ ap Truth on)))
      (λ x i q kx. and_right a b t2.0 x i kx (λ both. either_all names recur env reached seen s node over (over ++ a.no) (over ++ (a.yes ++ b.no)) (with_variables (with_variables [] a.no) (a.yes ++ b.no)) [] t2.0 t2.1 start (inr both))))
      (λ off. kind_truth names env over seen s false (a.yes ++ b.yes) t2.0 b.flow (λ q. false_true q)
      (λ q. either_all names recur env reached seen s node over (over ++ a.no) (over ++ (a.yes ++ b.no)) (with_variables (with_variables [] a.no) (a.yes ++ b.no)) [] t2.0 t2.1 start (inl (k.if_false (e ∙ ap Truth off)))))))

  or_kind : (right : Run Datum) (d : Datum) (m : Meter) (a b u : Found) → Kind names env over seen s a d → Binary names node env over Or a b (Gives u)
      → ((i : Meter) → HasTypes names env (over ++ a.no) seen s → Every (right i) (Kind names env (over ++ a.no) seen s b))
      → Every (operated Or at right d m) (Kind names env over seen s u)
  or_kind right d m a b u k typed g =
      let t1 = then_gives _ _ u typed in
      let t2 = then_gives _ _ u t1.2 in
      let start = types_nothing names env seen s over h in
      let R : Datum → Type 0 = Kind names env over seen s (found bool_type t2.0 (a.no ++ b.no) b.flow) in
      told u (found bool_type t2.0 (a.no ++ b.no) b.flow) (operated Or at right d) m t2.2
      (every_truth at d (λ c. choose c (Done (Truth true)) (second Or at right d)) m R
      (λ c e. every_choose c (Done (Truth true)) (second Or at right d) m R
      (λ on. kind_truth names env over seen s true t2.0 (a.no ++ b.no) b.flow
      (λ q. either_all names recur env reached seen s node over (over ++ a.yes) (over ++ (a.no ++ b.yes)) (with_variables (with_variables [] a.yes) (a.no ++ b.yes)) [] t2.0 t2.1 start (inl (k.if_true (e ∙ ap Truth on))))
      (λ q. true_false q))
      (λ off. every_bind (right m) (λ x. applied Or at d x) (Kind names env (over ++ a.no) seen s b) R (g m (k.if_false (e ∙ ap Truth off)))
      (λ x i q kx. or_right_kind a b t2.0 x i kx (λ both. either_all names recur env reached seen s node over (over ++ a.yes) (over ++ (a.no ++ b.yes)) (with_variables (with_variables [] a.yes) (a.no ++ b.yes)) [] t2.0 t2.1 start (inr both))))))

  -- both operands, where the right one is evaluated under the changes of the left one
  pub operated_kind : (o : Op) (right : Run Datum) (d : Datum) (m : Meter) (a b u : Found) → Kind names env over seen s a d → Binary names node env over o a b (Gives u)
      → ((i : Meter) → HasTypes names env (right_side over o a) seen s → Every (right i) (Kind names env (right_side over o a) seen s b))
      → Every (operated o at right d m) (Kind names env over seen s u)
  operated_kind And right d m a b u k typed g = and_kind right d m a b u k typed g
  operated_kind Or right d m a b u k typed g = or_kind right d m a b u k typed g
  operated_kind Add right d m a b u k typed g =
      plain Add right d m b u (λ i. g i h) (λ e i ke. told u (found int_type [] [] b.flow) (applied Add at d e) i (then_gives _ _ u typed).2 (arithmetic_kind names env over seen s h b.flow at d e (λ x y. x +ℤ y) i))
  operated_kind Sub right d m a b u k typed g =
      plain Sub right d m b u (λ i. g i h) (λ e i ke. told u (found int_type [] [] b.flow) (applied Sub at d e) i (then_gives _ _ u typed).2 (arithmetic_kind names env over seen s h b.flow at d e (λ x y. x -ℤ y) i))
  operated_kind Mul right d m a b u k typed g =
      plain Mul right d m b u (λ i. g i h) (λ e i ke. told u (found int_type [] [] b.flow) (applied Mul at d e) i (then_gives _ _ u typed).2 (arithmetic_kind names env over seen s h b.flow at d e (λ x y. x *ℤ y) i))
  operated_kind Div right d m a b u k typed g =
      plain Div right d m b u (λ i. g i h) (λ e i ke. told u (found int_type [] [] b.flow) (applied Div at d e) i (then_gives _ _ u typed).2 (quotient_kind names env over seen s h b.flow at d e i))
  operated_kind Mod right d m a b u k typed g =
      plain Mod right d m b u (λ i. g i h) (λ e i ke. told u (found int_type [] [] b.flow) (applied Mod at d e) i (then_gives _ _ u typed).2 (rest_kind names env over seen s h b.flow at d e i ke.bounded))
  operated_kind Equal right d m a b u k typed g =
      plain Equal right d m b u (λ i. g i h) (λ e i ke. told u (found bool_type [] [] b.flow) (applied Equal at d e) i typed (kind_bool names env over seen s (same d e) b.flow h))
  operated_kind Less right d m a b u k typed g =
      plain Less right d m b u (λ i. g i h) (λ e i ke. told u (found bool_type [] [] b.flow) (applied Less at d e) i (then_gives _ _ u typed).2 (compared_kind names env over seen s h b.flow at d e (λ x y. int_lt x y) i))
  operated_kind LessEqual right d m a b u k typed g =
      plain LessEqual right d m b u (λ i. g i h) (λ e i ke. told u (found bool_type [] [] b.flow) (applied LessEqual at d e) i (then_gives _ _ u typed).2 (compared_kind names env over seen s h b.flow at d e (λ x y. int_le x y) i))
  operated_kind Greater right d m a b u k typed g =
      plain Greater right d m b u (λ i. g i h) (λ e i ke. told u (found bool_type [] [] b.flow) (applied Greater at d e) i (then_gives _ _ u typed).2 (compared_kind names env over seen s h b.flow at d e (λ x y. int_lt y x) i))
  operated_kind GreaterEqual right d m a b u k typed g =
      plain GreaterEqual right d m b u (λ i. g i h) (λ e i ke. told u (found bool_type [] [] b.flow) (applied GreaterEqual at d e) i (then_gives _ _ u typed).2 (compared_kind names env over seen s h b.flow at d e (λ x y. int_le y x) i))
