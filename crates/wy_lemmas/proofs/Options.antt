-- What may be there, and what may be refused.
use Rattle.std.proofs.Common.{◌≡◌, ℕ, Bool, Some, Option, None, sym, ◌∙◌, OnOk, ℤ, ◌≤◌, suc, true, false, cond, arith, ◌+◌, ◌<◌}
use Rattle.std.specs.Prelude.{Result, Ok, Err, OnErr, IfErr, IfOk}

pub pair_is : (x y : ℕ × Bool) → Some x ≡ Some y → x ≡ y
pair_is x y e = cc

pub some_number_is : (x y : ℕ) → Some x ≡ Some y → x ≡ y
some_number_is x y e = cc

pub some_one : {X : Type 0} (o : Option X) (x y : X) → o ≡ Some x → o ≡ Some y → x ≡ y
some_one o x y e f = cc

pub no-some : {X : Type 0} (x : X) (o : Option X) → o ≡ None → o ≡ Some x → ⊥
no-some {X} x o e f = let n : Option X = None in let g : n ≡ Some x = sym e ∙ f in absurd cc

pub some_is : {X : Type 0} (x y : X) → Some x ≡ Some y → x ≡ y
some_is x y e = cc

pub on_any_err : {T E : Type 0} (r : Result T E) (Q : Type 0) → Q → OnErr r Q
on_any_err (Ok x) Q q = tt
on_any_err (Err e) Q q = q

-- where what is done ends well
pub on_ok : {X E : Type 0} (r : Result X E) (P Q : Type 0) → (P → Q) → OnOk r P → OnOk r Q
on_ok (Ok x) P Q f h = f h
on_ok (Err e) P Q f h = h

abbrev pub no_place : Option ℕ
no_place = None

abbrev pub some : {A : Type 0} → A → Option A
some x = Some x

abbrev pub some_number : ℤ → Option ℤ
some_number z = Some z

abbrev pub some_place : ℕ → Option ℕ
some_place k = Some k

abbrev pub some_ratio : ℤ → Option ℤ
some_ratio z = Some z

pub above_step : (b : Bool) (k i : ℕ) (o : Option ℕ) → (o ≡ Some i → suc k ≤ i) → cond b (Some k) o ≡ Some i → k ≤ i
above_step true k i o later e = let same : k ≡ i = some_number_is k i e in omega (arith, same)
above_step false k i o later e = omega (arith, later e)

pub below_step : (b : Bool) (k i n : ℕ) (o : Option ℕ) → (o ≡ Some i → i < suc k + n) → cond b (Some k) o ≡ Some i → i < k + suc n
below_step true k i n o later e = let same : k ≡ i = some_number_is k i e in omega (arith, same)
below_step false k i n o later e = omega (arith, later e)

pub if_err : {T E : Type 0} (r : Result T E) (P Q : E → Type 0) → ((e : E) → P e → Q e) → IfErr r P → IfErr r Q
if_err (Ok x) P Q f p = tt
if_err (Err e) P Q f p = f e p

pub if_ok : {X E : Type 0} (r : Result X E) (P Q : X → Type 0) → ((x : X) → P x → Q x) → IfOk r P → IfOk r Q
if_ok (Ok x) P Q f h = f x h
if_ok (Err e) P Q f h = h

pub some_same : {A : Type 0} (x y : A) → some x ≡ some y → x ≡ y
some_same x y e = cc
