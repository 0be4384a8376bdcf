-- A property's clauses, joined, with arguments put in one after the other.
use Rattle.std.proofs.Common.{◌≡◌, ◌≢◌, ◌∙◌, ◌<◌, ◌≤◌, ◌⊎◌, inl, inr, ℕ, zero, suc, max, Bool, true, false, ◌&&◌, ◌==◌, nat_lt, List, [], ◌∷◌, ◌++◌, length, Option, Some, None, refl, sym, ap, arith, if◌then◌else◌}
use Rattle.std.specs.List.{slice_get}
use Rattle.std.proofs.Math.Dec.{eqb}
use Rattle.std.proofs.lemmas.Bool.Decides.{eqb_tells}
use borrow.Author.Tests.{ltb-true}
use Rattle.wy_core.specs.Types.{Ty}
use Rattle.wy_core.specs.CoreTree.{Expr, BoolExpr, VarExpr, BinaryExpr}
use Rattle.wy_core.specs.declared.expressions.Op.TheVariants as op
use Rattle.wy_names_lower.specs.wy_core_build.Instances.{renumbered, argument_or, instance_of, joined_behind, joined}
use Rattle.wy_lemmas.proofs.Choices.{both_true, less_is}
use Rattle.wy_names.proofs.resolved_lemmas.TallyLemmas.{Counts, tally, put_in, tally-instance, same_tally, Together, summed, tally_sum, Related, related}
use Rattle.wy_names.proofs.resolved_lemmas.ContentLemmas.{by_nodes, by_height, Usage, unused, both_uses, around, quantified_use, by_use, one_each, Content, one_use, beyond, single, content, lift, nodes_put, height_put, use_put, put, nodes_together, height_together, use_together, same_use, Sound, sound_uses, some_height, higher, lone_variable}
use Rattle.wy_names.proofs.resolved_lemmas.AfterLemmas.{same_content}

-- ---- clauses as one expression

abbrev pub conjoined : Expr ℕ → List (Expr ℕ) → Expr ℕ
conjoined e [] = e
conjoined e (c ∷ cs) = conjoined (BinaryExpr 0 op.And e c) cs

-- the clauses joined by `&&` from the left
abbrev pub whole_of : List (Expr ℕ) → Expr ℕ
whole_of [] = BoolExpr 0 true
whole_of (c ∷ cs) = conjoined c cs

instance-conjoined : (at : ℕ) (args : List (Expr ℕ)) (base : ℕ) (e : Expr ℕ) (cs : List (Expr ℕ)) → joined_behind at args base false (instance_of at args base e) cs ≡ instance_of at args base (conjoined e cs)
instance-conjoined at args base e [] = refl
instance-conjoined at args base e (c ∷ cs) = instance-conjoined at args base (BinaryExpr 0 op.And e c) cs

pub instance-whole : (at : ℕ) (args : List (Expr ℕ)) (base : ℕ) (cs : List (Expr ℕ)) → joined at args base cs ≡ instance_of at args base (whole_of cs)
instance-whole at args base [] = refl
instance-whole at args base (c ∷ cs) = instance-conjoined at args base c cs

-- ---- variables for which something is put

-- what is put for the variable, or d
abbrev pub given_or : {A : Type 0} → (Expr ℕ → A) → A → Option (Expr ℕ) → A
given_or own d None = d
given_or own d (Some a) = own a

abbrev pub given : {A : Type 0} → (Expr ℕ → A) → (ℕ → A) → List (Expr ℕ) → ℕ → A
given own g done v = given_or own (g v) (slice_get done v)

at_end : (done : List (Expr ℕ)) (a : Expr ℕ) → slice_get (done ++ a ∷ []) (length done) ≡ Some a
at_end [] a = refl
at_end (x ∷ done) a = at_end done a

no_more : (done : List (Expr ℕ)) → slice_get done (length done) ≡ None
no_more [] = refl
no_more (x ∷ done) = no_more done

elsewhere : (done : List (Expr ℕ)) (a : Expr ℕ) (v : ℕ) → v ≢ length done → slice_get (done ++ a ∷ []) v ≡ slice_get done v
elsewhere [] a zero ne = absurd (ne refl)
elsewhere [] a (suc v) ne = refl
elsewhere (x ∷ done) a zero ne = refl
elsewhere (x ∷ done) a (suc v) ne = elsewhere done a v (λ (e : v ≡ length done). ne (ap suc e))

second_false : (a b : Bool) → b ≡ false → (a && b) ≡ false
second_false a b q = by a
  where
    by : (c : Bool) → (c && b) ≡ false
    by true = q
    by false = refl

not_less : (v n : ℕ) → n ≤ v → nat_lt v n ≡ false
not_less v n le = by (nat_lt v n) refl
  where
    by : (b : Bool) → nat_lt v n ≡ b → nat_lt v n ≡ false
    by true e = absurd (let lt = ltb-true v n e in omega (arith, lt, le))
    by false e = e

pub single_there : (n j v : ℕ) → v < n → v ≡ j → single n j v ≡ one_use
single_there n j v lt e = by (eqb_tells v j)
  where
    by : ((eqb v j ≡ true) × (v ≡ j)) ⊎ ((eqb v j ≡ false) × (v ≢ j)) → single n j v ≡ one_use
    by (inl x) = ap (λ (b : Bool). if b then one_use else unused) (both_true (nat_lt v n) (v == j) (less_is v n lt) x.0)
    by (inr x) = absurd (x.1 e)

pub single_other : (n j v : ℕ) → v ≢ j → single n j v ≡ unused
single_other n j v ne = by (eqb_tells v j)
  where
    by : ((eqb v j ≡ true) × (v ≡ j)) ⊎ ((eqb v j ≡ false) × (v ≢ j)) → single n j v ≡ unused
    by (inl x) = absurd (ne x.1)
    by (inr x) = ap (λ (b : Bool). if b then one_use else unused) (second_false (nat_lt v n) (v == j) x.0)

pub single_beyond : (n j v : ℕ) → n ≤ v → single n j v ≡ unused
single_beyond n j v le = ap (λ (b : Bool). if b && (v == j) then one_use else unused) (not_less v n le)

pub beyond_less : (n v : ℕ) → v < n → beyond n v ≡ 0
beyond_less n v lt = ap (λ (b : Bool). if b then 0 else 1) (less_is v n lt)

pub beyond_more : (n v : ℕ) → n ≤ v → beyond n v ≡ 1
beyond_more n v le = ap (λ (b : Bool). if b then 0 else 1) (not_less v n le)

-- what is put where a variable stands
pub record Puts {A : Type 0} (sum : A → A → Usage → A) (bare : A) : Type 0 where
  pub here : (w : A) → sum w bare one_use ≡ w
  pub other : (w x : A) → sum w x unused ≡ x

-- one more argument
module _ {A : Type 0} (c : Counts A) (sum : A → A → Usage → A) (bare : A) (law : (w : A) → Together c by_use (sum w)) (puts : Puts sum bare) (own : Expr ℕ → A) (g : ℕ → A) (n : ℕ) (low : (v : ℕ) → v < n → g v ≡ bare) where
  one_put : (done : List (Expr ℕ)) (a : Expr ℕ) → length done < n → (v : ℕ) → sum (own a) (given own g done v) (single n (length done) v) ≡ given own g (done ++ a ∷ []) v
  one_put done a lt v = by (eqb_tells v (length done))
    where
      by : ((eqb v (length done) ≡ true) × (v ≡ length done)) ⊎ ((eqb v (length done) ≡ false) × (v ≢ length done)) → sum (own a) (given own g done v) (single n (length done) v) ≡ given own g (done ++ a ∷ []) v
      by (inl x) =
          let e : v ≡ length done = x.1 in
          let less : v < n = omega (arith, e, lt) in
          let nothing : slice_get done v ≡ None = ap (slice_get done) e ∙ no_more done in
          let something : slice_get (done ++ a ∷ []) v ≡ Some a = ap (slice_get (done ++ a ∷ [])) e ∙ at_end done a in
          ap (λ (u : Usage). sum (own a) (given own g done v) u) (single_there n (length done) v less e) ∙ ap (λ (o : Option (Expr ℕ)). sum (own a) (given_or own (g v) o) one_use) nothing
          ∙ ap (λ (z : A). sum (own a) z one_use) (low v less) ∙ puts.here (own a) ∙ ap (given_or own (g v)) (sym something)
      by (inr x) =
          ap (λ (u : Usage). sum (own a) (given own g done v) u) (single_other n (length done) v x.1) ∙ puts.other (own a) (given own g done v) ∙ ap (given_or own (g v)) (sym (elsewhere done a v x.1))

  pub tally_put : (e : Expr ℕ) (done : List (Expr ℕ)) (a : Expr ℕ) → length done < n → sum (own a) (tally c (given own g done) e) (tally by_use (single n (length done)) e) ≡ tally c (given own g (done ++ a ∷ [])) e
  tally_put e done a lt =
      tally_sum c by_use (sum (own a)) (law (own a)) (given own g done) (single n (length done)) e
      ∙ same_tally c (summed c by_use (sum (own a)) (law (own a)) (given own g done) (single n (length done))) (given own g (done ++ a ∷ [])) (one_put done a lt) e

-- all arguments
module _ {A : Type 0} (c : Counts A) (f g : ℕ → A) (at : ℕ) (args : List (Expr ℕ)) (base : ℕ) (rest : (v : ℕ) → length args ≤ v → g v ≡ f (renumbered args base v)) where
  past : (xs : List (Expr ℕ)) (v : ℕ) → slice_get xs v ≡ None → length xs ≤ v
  past [] v h = omega arith
  past (x ∷ xs) zero h = absurd (cc)
  past (x ∷ xs) (suc v) h = let le = past xs v h in omega (arith, le)

  all_given : (v : ℕ) → given (tally c f) g args v ≡ put_in c f at args base v
  all_given v = by (slice_get args v) refl
    where
      by : (o : Option (Expr ℕ)) → slice_get args v ≡ o → given_or (tally c f) (g v) o ≡ tally c f (argument_or (VarExpr at (renumbered args base v)) o)
      by None e = rest v (past args v e)
      by (Some a) e = refl

  pub tally_all : (e : Expr ℕ) → tally c (given (tally c f) g args) e ≡ tally c f (instance_of at args base e)
  tally_all e = same_tally c (given (tally c f) g args) (put_in c f at args base) all_given e ∙ sym (tally-instance c f at args base e)

-- ---- the four ways at once

nodes_puts : Puts nodes_put 0
nodes_puts = record { here = λ (w : ℕ). omega arith; other = λ (w x : ℕ). omega arith }

lift_one : (w : ℕ) → max 0 (lift 1 w) ≡ w
lift_one zero = omega arith
lift_one (suc w) = omega arith

height_puts : Puts height_put 0
height_puts = record { here = lift_one; other = λ (w x : ℕ). omega arith }

use_puts : Puts use_put unused
use_puts = record {
  here = λ (w : Usage). same_use (omega arith) (lift_one w.depth) (omega arith);
  other = λ (w x : Usage). same_use (omega arith) (omega arith) (omega arith);
}

-- no parameter
abbrev no_use : ℕ → Usage
no_use v = unused

module _ (p j n : ℕ) (e : Expr ℕ) where
  -- the height that a property's clauses have by themselves, where a node of theirs counts
  abbrev pub own_height : ℕ
  own_height = if tally by_nodes (beyond n) e == 0 then 0 else tally by_height one_each e

  -- the clauses with so many arguments put in
  abbrev pub partly : List (Expr ℕ) → Content
  partly done = record {
    fixed = tally by_nodes (given (tally by_nodes (beyond p)) (beyond n) done) e;
    nodes = tally by_nodes (given (tally by_nodes one_each) (beyond n) done) e;
    height = max own_height (tally by_height (given (tally by_height one_each) (beyond n) done) e);
    usage = tally by_use (given (tally by_use (single p j)) no_use done) e;
  }

  max_out : (h x w d : ℕ) → max (max h x) (lift d w) ≡ max h (max x (lift d w))
  max_out h x w d = omega arith

  pub partly_more : (done : List (Expr ℕ)) (a : Expr ℕ) → length done < n → put (content p j a) (partly done) (tally by_use (single n (length done)) e) ≡ partly (done ++ a ∷ [])
  partly_more done a lt =
      let y : Usage = tally by_use (single n (length done)) e in
      let before : ℕ = tally by_height (given (tally by_height one_each) (beyond n) done) e in
      same_content (tally_put by_nodes nodes_put 0 nodes_together nodes_puts (tally by_nodes (beyond p)) (beyond n) n (beyond_less n) e done a lt)
      (tally_put by_nodes nodes_put 0 nodes_together nodes_puts (tally by_nodes one_each) (beyond n) n (beyond_less n) e done a lt)
      (max_out own_height before (tally by_height one_each a) y.depth ∙ ap (max own_height) (tally_put by_height height_put 0 height_together height_puts (tally by_height one_each) (beyond n) n (beyond_less n) e done a lt))
      (tally_put by_use use_put unused use_together use_puts (tally by_use (single p j)) no_use n (λ (v : ℕ) (less : v < n). refl) e done a lt)

  -- an argument that isn't used may be any
  pub partly_unused : (done : List (Expr ℕ)) (w a : Content) → (tally by_use (single n (length done)) e).times ≡ 0 → put w (partly done) (tally by_use (single n (length done)) e) ≡ put a (partly done) (tally by_use (single n (length done)) e)
  partly_unused done w a z =
      let y : Usage = tally by_use (single n (length done)) e in
      let sound : Sound y = sound_uses n (length done) e in
      let spare : y ≡ unused = same_use z (sound.nowhere z).0 (sound.nowhere z).1 in
      let nothing : (x : Content) → put x (partly done) unused ≡ partly done = λ (x : Content). same_content (nodes_puts.other x.fixed (partly done).fixed) (nodes_puts.other x.nodes (partly done).nodes) (height_puts.other x.height (partly done).height) (use_puts.other x.usage (partly done).usage) in
      ap (put w (partly done)) spare ∙ nothing w ∙ sym (nothing a) ∙ ap (put a (partly done)) (sym spare)

  unused_law : Related by_use by_use (λ (x y : Usage). x ≡ unused)
  unused_law = record {
    none = refl;
    both = λ (x z y w : Usage) (h : x ≡ unused) (k : z ≡ unused). ap (λ (u : Usage). both_uses u z) h ∙ ap (λ (u : Usage). both_uses unused u) k ∙ same_use (omega arith) (omega arith) (omega arith);
    node = λ (x y : Usage) (h : x ≡ unused). ap around h;
    quant = λ (x y : Usage) (h : x ≡ unused). ap quantified_use h ∙ same_use refl refl (omega arith);
    ty = λ (t : Ty). refl;
  }

  -- no argument yet
  pub partly_none : partly [] ≡ record { fixed = tally by_nodes (beyond n) e; nodes = tally by_nodes (beyond n) e; height = own_height; usage = unused }
  partly_none = same_content refl refl (high (eqb_tells (tally by_nodes (beyond n) e) 0)) (related by_use by_use (λ (x y : Usage). x ≡ unused) unused_law no_use no_use (λ (v : ℕ). refl) e)
    where
      under : (v : ℕ) → beyond n v ≤ 1
      under v = by (nat_lt v n)
        where
          by : (b : Bool) → (if b then 0 else 1) ≤ 1
          by true = omega arith
          by false = omega arith

      high : ((eqb (tally by_nodes (beyond n) e) 0 ≡ true) × (tally by_nodes (beyond n) e ≡ 0)) ⊎ ((eqb (tally by_nodes (beyond n) e) 0 ≡ false) × (tally by_nodes (beyond n) e ≢ 0))
          → max own_height (tally by_height (beyond n) e) ≡ own_height
      high (inl x) = ap (max own_height) (lone_variable n (beyond n) e (beyond_less n) x.1) ∙ omega arith
      high (inr x) =
          let is : own_height ≡ tally by_height one_each e = ap (λ (b : Bool). if b then 0 else tally by_height one_each e) x.0 in
          let less = higher (beyond n) one_each under e in
          omega (arith, is, less)

  -- all arguments
  pub partly_all : (at : ℕ) (args : List (Expr ℕ)) (base : ℕ) → length args ≡ n → p ≤ base → partly args ≡ content p j (instance_of at args base e)
  partly_all at args base is le =
      same_content (tally_all by_nodes (beyond p) (beyond n) at args base new_node e)
      (tally_all by_nodes one_each (beyond n) at args base (λ (v : ℕ) (more : length args ≤ v). beyond_more n v (omega (arith, is, more))) e)
      (lower ∙ tally_all by_height one_each (beyond n) at args base (λ (v : ℕ) (more : length args ≤ v). beyond_more n v (omega (arith, is, more))) e)
      (tally_all by_use (single p j) no_use at args base (λ (v : ℕ) (more : length args ≤ v). sym (single_beyond p j (renumbered args base v) (omega (arith, le)))) e)
    where
      new_node : (v : ℕ) → length args ≤ v → beyond n v ≡ beyond p (renumbered args base v)
      new_node v more = beyond_more n v (omega (arith, is, more)) ∙ sym (beyond_more p (renumbered args base v) (omega (arith, le)))

      at_least : (v : ℕ) → 1 ≤ given (tally by_height one_each) (beyond n) args v
      at_least v = by (slice_get args v) refl
        where
          past_all : (xs : List (Expr ℕ)) (k : ℕ) → slice_get xs k ≡ None → length xs ≤ k
          past_all [] k h = omega arith
          past_all (x ∷ xs) zero h = absurd (cc)
          past_all (x ∷ xs) (suc k) h = let less = past_all xs k h in omega (arith, less)

          by : (o : Option (Expr ℕ)) → slice_get args v ≡ o → 1 ≤ given_or (tally by_height one_each) (beyond n v) o
          by None h = let more = past_all args v h in let one = beyond_more n v (omega (arith, is, more)) in omega (arith, one)
          by (Some a) h = some_height one_each (λ (k : ℕ). omega arith) a

      own_less : own_height ≤ tally by_height one_each e
      own_less = by (tally by_nodes (beyond n) e == 0)
        where
          by : (b : Bool) → (if b then 0 else tally by_height one_each e) ≤ tally by_height one_each e
          by true = omega arith
          by false = omega arith

      lower : max own_height (tally by_height (given (tally by_height one_each) (beyond n) args) e) ≡ tally by_height (given (tally by_height one_each) (beyond n) args) e
      lower = let less = higher one_each (given (tally by_height one_each) (beyond n) args) at_least e in omega (arith, less, own_less)
