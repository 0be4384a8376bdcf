-- The nodes, the height and the uses of a parameter, as ways to count.
use Rattle.std.proofs.Common.{◌≡◌, ◌∙◌, ◌<◌, ◌≤◌, ◌⊎◌, inl, inr, ℕ, zero, suc, ◌+◌, ◌*◌, max, Bool, true, false, ◌&&◌, ◌==◌, nat_lt, refl, sym, ap, arith, if◌then◌else◌}
use borrow.Author.Tests.{ltb-true}
use Rattle.wy_core.specs.Types.{Ty}
use Rattle.wy_core.specs.CoreTree.{Expr, NullExpr, BoolExpr, IntExpr, VarExpr, CallExpr, NegExpr, NotExpr, LenExpr, BinaryExpr, IsExpr, IndexExpr, FieldExpr, ListExpr, RepeatExpr, RecordExpr, QuantExpr, Exprs, NoExprs, MoreExprs, Fields, NoFields, MoreFields}
use Rattle.wy_core.specs.formed.Sizes.{size_ty, height_ty, size, sizes, field_sizes, height, heights, field_heights}
use Rattle.wy_names.proofs.resolved_lemmas.TallyLemmas.{Counts, tally, tallies, field_tallies, Together, Related, related}

-- ---- three ways to count

abbrev pub by_nodes : Counts ℕ
by_nodes = record { none = 0; both = λ (x y : ℕ). x + y; node = λ (x : ℕ). x + 1; quant = λ (x : ℕ). x + 1; ty = size_ty }

abbrev pub by_height : Counts ℕ
by_height = record { none = 0; both = λ (x y : ℕ). max x y; node = λ (x : ℕ). x + 1; quant = λ (x : ℕ). x + 1; ty = height_ty }

-- how often a parameter stands, how deep at most (0: nowhere), and how many quantifiers stand around it, over all places
pub record Usage : Type 0 where
  pub times : ℕ
  pub depth : ℕ
  pub quants : ℕ

-- one node around it
abbrev pub up : ℕ → ℕ
up zero = 0
up (suc d) = suc (suc d)

abbrev pub unused : Usage
unused = record { times = 0; depth = 0; quants = 0 }

abbrev pub both_uses : Usage → Usage → Usage
both_uses x y = record { times = x.times + y.times; depth = max x.depth y.depth; quants = x.quants + y.quants }

abbrev pub around : Usage → Usage
around x = record { times = x.times; depth = up x.depth; quants = x.quants }

abbrev pub quantified_use : Usage → Usage
quantified_use x = record { times = x.times; depth = up x.depth; quants = x.times + x.quants }

abbrev pub by_use : Counts Usage
by_use = record { none = unused; both = both_uses; node = around; quant = quantified_use; ty = λ (t : Ty). unused }

-- ---- sizes are counted so

abbrev pub one_each : ℕ → ℕ
one_each v = 1

mutual
  pub size-is : (e : Expr ℕ) → tally by_nodes one_each e ≡ size e
  size-is (NullExpr at) = refl
  size-is (BoolExpr at truth) = refl
  size-is (IntExpr at number) = refl
  size-is (VarExpr at v) = refl
  size-is (CallExpr at routine args) = ap (λ (n : ℕ). n + 1) (sizes-are args)
  size-is (NegExpr at a) = ap (λ (n : ℕ). n + 1) (size-is a)
  size-is (NotExpr at a) = ap (λ (n : ℕ). n + 1) (size-is a)
  size-is (LenExpr at a) = ap (λ (n : ℕ). n + 1) (size-is a)
  size-is (BinaryExpr at op a b) = let x = size-is a in let y = size-is b in omega (arith, x, y)
  size-is (IsExpr at a t) = ap (λ (n : ℕ). (n + size_ty t) + 1) (size-is a)
  size-is (IndexExpr at a b) = let x = size-is a in let y = size-is b in omega (arith, x, y)
  size-is (FieldExpr at a name) = ap (λ (n : ℕ). n + 1) (size-is a)
  size-is (ListExpr at items) = ap (λ (n : ℕ). n + 1) (sizes-are items)
  size-is (RepeatExpr at a b) = let x = size-is a in let y = size-is b in omega (arith, x, y)
  size-is (RecordExpr at members) = ap (λ (n : ℕ). n + 1) (field_sizes-are members)
  size-is (QuantExpr at all v from to body) = let x = size-is from in let y = size-is to in let z = size-is body in omega (arith, x, y, z)

  sizes-are : (es : Exprs ℕ) → tallies by_nodes one_each es ≡ sizes es
  sizes-are NoExprs = refl
  sizes-are (MoreExprs e rest) = let x = size-is e in let y = sizes-are rest in omega (arith, x, y)

  field_sizes-are : (fs : Fields ℕ) → field_tallies by_nodes one_each fs ≡ field_sizes fs
  field_sizes-are NoFields = refl
  field_sizes-are (MoreFields name e rest) = let x = size-is e in let y = field_sizes-are rest in omega (arith, x, y)

mutual
  pub height-is : (e : Expr ℕ) → tally by_height one_each e ≡ height e
  height-is (NullExpr at) = refl
  height-is (BoolExpr at truth) = refl
  height-is (IntExpr at number) = refl
  height-is (VarExpr at v) = refl
  height-is (CallExpr at routine args) = ap (λ (n : ℕ). n + 1) (heights-are args)
  height-is (NegExpr at a) = ap (λ (n : ℕ). n + 1) (height-is a)
  height-is (NotExpr at a) = ap (λ (n : ℕ). n + 1) (height-is a)
  height-is (LenExpr at a) = ap (λ (n : ℕ). n + 1) (height-is a)
  height-is (BinaryExpr at op a b) = ap (λ (n : ℕ). max n (tally by_height one_each b) + 1) (height-is a) ∙ ap (λ (n : ℕ). max (height a) n + 1) (height-is b)
  height-is (IsExpr at a t) = ap (λ (n : ℕ). max n (height_ty t) + 1) (height-is a)
  height-is (IndexExpr at a b) = ap (λ (n : ℕ). max n (tally by_height one_each b) + 1) (height-is a) ∙ ap (λ (n : ℕ). max (height a) n + 1) (height-is b)
  height-is (FieldExpr at a name) = ap (λ (n : ℕ). n + 1) (height-is a)
  height-is (ListExpr at items) = ap (λ (n : ℕ). n + 1) (heights-are items)
  height-is (RepeatExpr at a b) = ap (λ (n : ℕ). max n (tally by_height one_each b) + 1) (height-is a) ∙ ap (λ (n : ℕ). max (height a) n + 1) (height-is b)
  height-is (RecordExpr at members) = ap (λ (n : ℕ). n + 1) (field_heights-are members)
  height-is (QuantExpr at all v from to body) =
      ap (λ (n : ℕ). max n (max (tally by_height one_each to) (tally by_height one_each body)) + 1) (height-is from)
      ∙ ap (λ (n : ℕ). max (height from) (max n (tally by_height one_each body)) + 1) (height-is to)
      ∙ ap (λ (n : ℕ). max (height from) (max (height to) n) + 1) (height-is body)

  heights-are : (es : Exprs ℕ) → tallies by_height one_each es ≡ heights es
  heights-are NoExprs = refl
  heights-are (MoreExprs e rest) = ap (λ (n : ℕ). max n (tallies by_height one_each rest)) (height-is e) ∙ ap (λ (n : ℕ). max (height e) n) (heights-are rest)

  field_heights-are : (fs : Fields ℕ) → field_tallies by_height one_each fs ≡ field_heights fs
  field_heights-are NoFields = refl
  field_heights-are (MoreFields name e rest) = ap (λ (n : ℕ). max n (field_tallies by_height one_each rest)) (height-is e) ∙ ap (λ (n : ℕ). max (height e) n) (field_heights-are rest)

-- ---- what an expression has

-- its nodes without the first so many variables, its nodes, its height, and the uses of one of these variables
pub record Content : Type 0 where
  pub fixed : ℕ
  pub nodes : ℕ
  pub height : ℕ
  pub usage : Usage

-- a variable counts as a node where it is none of the first p
abbrev pub beyond : ℕ → ℕ → ℕ
beyond p v = if nat_lt v p then 0 else 1

abbrev pub one_use : Usage
one_use = record { times = 1; depth = 1; quants = 0 }

-- the variable j, where it is one of the first p
abbrev pub single : ℕ → ℕ → ℕ → Usage
single p j v = if nat_lt v p && (v == j) then one_use else unused

abbrev pub content : ℕ → ℕ → Expr ℕ → Content
content p j e = record { fixed = tally by_nodes (beyond p) e; nodes = tally by_nodes one_each e; height = tally by_height one_each e; usage = tally by_use (single p j) e }

abbrev pub contents : ℕ → ℕ → Exprs ℕ → Content
contents p j es = record { fixed = tallies by_nodes (beyond p) es; nodes = tallies by_nodes one_each es; height = tallies by_height one_each es; usage = tallies by_use (single p j) es }

abbrev pub field_contents : ℕ → ℕ → Fields ℕ → Content
field_contents p j fs = record {
  fixed = field_tallies by_nodes (beyond p) fs;
  nodes = field_tallies by_nodes one_each fs;
  height = field_tallies by_height one_each fs;
  usage = field_tallies by_use (single p j) fs;
}

abbrev pub ty_content : Ty → Content
ty_content t = record { fixed = size_ty t; nodes = size_ty t; height = height_ty t; usage = unused }

abbrev pub empty : Content
empty = record { fixed = 0; nodes = 0; height = 0; usage = unused }

abbrev pub beside : Content → Content → Content
beside x y = record { fixed = x.fixed + y.fixed; nodes = x.nodes + y.nodes; height = max x.height y.height; usage = both_uses x.usage y.usage }

abbrev pub one_node : Content → Content
one_node x = record { fixed = x.fixed + 1; nodes = x.nodes + 1; height = x.height + 1; usage = around x.usage }

abbrev pub one_quant : Content → Content
one_quant x = record { fixed = x.fixed + 1; nodes = x.nodes + 1; height = x.height + 1; usage = quantified_use x.usage }

-- ---- an expression in place of a variable

-- depth d of the variable and height x of what takes its place
abbrev pub lift : ℕ → ℕ → ℕ
lift zero x = 0
lift (suc d) zero = 0
lift (suc d) (suc x) = suc (d + x)

lift-up : (d x : ℕ) → up (lift d x) ≡ lift (up d) x
lift-up zero x = refl
lift-up (suc d) zero = refl
lift-up (suc d) (suc x) = let e : suc (suc (d + x)) ≡ suc (suc d + x) = omega arith in e

up-max : (x y : ℕ) → up (max x y) ≡ max (up x) (up y)
up-max zero zero = let e : max 0 0 ≡ 0 = omega arith in ap up e ∙ omega arith
up-max zero (suc y) = let e : max 0 (suc y) ≡ suc y = omega arith in ap up e ∙ omega arith
up-max (suc x) zero = let e : max (suc x) 0 ≡ suc x = omega arith in ap up e ∙ omega arith
up-max (suc x) (suc y) = let e : max (suc x) (suc y) ≡ suc (max x y) = omega arith in ap up e ∙ omega arith

lift-max : (x y w : ℕ) → lift (max x y) w ≡ max (lift x w) (lift y w)
lift-max zero y w = let e : max 0 y ≡ y = omega arith in ap (λ (n : ℕ). lift n w) e ∙ omega arith
lift-max (suc x) zero w = let e : max (suc x) 0 ≡ suc x = omega arith in ap (λ (n : ℕ). lift n w) e ∙ omega arith
lift-max (suc x) (suc y) zero = let e : max (suc x) (suc y) ≡ suc (max x y) = omega arith in ap (λ (n : ℕ). lift n 0) e ∙ omega arith
lift-max (suc x) (suc y) (suc w) = let e : max (suc x) (suc y) ≡ suc (max x y) = omega arith in ap (λ (n : ℕ). lift n (suc w)) e ∙ omega arith

-- the nodes, where y says how the variable is used and w how many nodes take its place
abbrev pub nodes_put : ℕ → ℕ → Usage → ℕ
nodes_put w x y = x + y.times * w

abbrev pub height_put : ℕ → ℕ → Usage → ℕ
height_put w x y = max x (lift y.depth w)

abbrev pub use_put : Usage → Usage → Usage → Usage
use_put w x y = record { times = x.times + y.times * w.times; depth = max x.depth (lift y.depth w.depth); quants = x.quants + (y.quants * w.times + y.times * w.quants) }

abbrev pub put : Content → Content → Usage → Content
put w x y = record { fixed = nodes_put w.fixed x.fixed y; nodes = nodes_put w.nodes x.nodes y; height = height_put w.height x.height y; usage = use_put w.usage x.usage y }

pub nodes_together : (w : ℕ) → Together by_nodes by_use (nodes_put w)
nodes_together w = record {
  none = omega arith;
  both = λ (x z : ℕ) (y u : Usage). omega arith;
  node = λ (x : ℕ) (y : Usage). omega arith;
  quant = λ (x : ℕ) (y : Usage). omega arith;
  ty = λ (t : Ty). omega arith;
}

height_node : (w x d : ℕ) → max (x + 1) (lift (up d) w) ≡ max x (lift d w) + 1
height_node w x zero = omega arith
height_node zero x (suc d) = omega arith
height_node (suc w) x (suc d) = omega arith

height_both : (w x z d e : ℕ) → max (max x z) (lift (max d e) w) ≡ max (max x (lift d w)) (max z (lift e w))
height_both w x z d e = ap (λ (n : ℕ). max (max x z) n) (lift-max d e w) ∙ omega arith

pub height_together : (w : ℕ) → Together by_height by_use (height_put w)
height_together w = record {
  none = omega arith;
  both = λ (x z : ℕ) (y u : Usage). height_both w x z y.depth u.depth;
  node = λ (x : ℕ) (y : Usage). height_node w x y.depth;
  quant = λ (x : ℕ) (y : Usage). height_node w x y.depth;
  ty = λ (t : Ty). omega arith;
}

-- uses are equal by their parts
abbrev usage_of : ℕ → ℕ → ℕ → Usage
usage_of t d q = record { times = t; depth = d; quants = q }

pub same_use : {x y : Usage} → x.times ≡ y.times → x.depth ≡ y.depth → x.quants ≡ y.quants → x ≡ y
same_use {x} {y} p q r =
    ap (λ (n : ℕ). usage_of n x.depth x.quants) p ∙ ap (λ (n : ℕ). usage_of y.times n x.quants) q ∙ ap (λ (n : ℕ). usage_of y.times y.depth n) r

use_node : (w x d : ℕ) → max (up x) (lift (up d) w) ≡ up (max x (lift d w))
use_node w x d = ap (λ (n : ℕ). max (up x) n) (sym (lift-up d w)) ∙ sym (up-max x (lift d w))

pub use_together : (w : Usage) → Together by_use by_use (use_put w)
use_together w = record {
  none = same_use (omega arith) (omega arith) (omega arith);
  both = λ (x z y u : Usage). same_use (omega arith) (height_both w.depth x.depth z.depth y.depth u.depth) (omega arith);
  node = λ (x y : Usage). same_use refl (use_node w.depth x.depth y.depth) refl;
  quant = λ (x y : Usage). same_use refl (use_node w.depth x.depth y.depth) (omega arith);
  ty = λ (t : Ty). same_use (omega arith) (omega arith) (omega arith);
}

-- ---- what holds of all uses

-- a parameter that stands nowhere has no depth and no quantifier around it, and one that stands somewhere has a depth
pub record Sound (x : Usage) : Type 0 where
  pub nowhere : x.times ≡ 0 → (x.depth ≡ 0) × (x.quants ≡ 0)
  pub somewhere : 0 < x.times → 0 < x.depth

up_more : (d : ℕ) → 0 < d → 0 < up d
up_more zero lt = lt
up_more (suc d) lt = omega arith

up_none : (d : ℕ) → d ≡ 0 → up d ≡ 0
up_none d e = ap up e

abbrev pub SoundBoth : Usage → Usage → Type 0
SoundBoth x y = Sound x

one_more : (a b : ℕ) → 0 < a + b → (0 < a) ⊎ (0 < b)
one_more zero b lt = inr (omega (arith, lt))
one_more (suc a) b lt = inl (omega arith)

sound_both : (x z : Usage) → Sound x → Sound z → Sound (both_uses x z)
sound_both x z h k = record { nowhere = nowhere; somewhere = somewhere }
  where
    nowhere : x.times + z.times ≡ 0 → (max x.depth z.depth ≡ 0) × (x.quants + z.quants ≡ 0)
    nowhere e =
        let a : x.times ≡ 0 = omega (arith, e) in
        let b : z.times ≡ 0 = omega (arith, e) in
        let p : x.depth ≡ 0 = (h.nowhere a).0 in
        let q : x.quants ≡ 0 = (h.nowhere a).1 in
        let r : z.depth ≡ 0 = (k.nowhere b).0 in
        let t : z.quants ≡ 0 = (k.nowhere b).1 in
        (omega (arith, p, r), omega (arith, q, t))

    somewhere : 0 < x.times + z.times → 0 < max x.depth z.depth
    somewhere lt = by (one_more x.times z.times lt)
      where
        by : (0 < x.times) ⊎ (0 < z.times) → 0 < max x.depth z.depth
        by (inl p) = let a : 0 < x.depth = h.somewhere p in omega (arith, a)
        by (inr p) = let a : 0 < z.depth = k.somewhere p in omega (arith, a)

sound_node : (x : Usage) → Sound x → Sound (around x)
sound_node x h = record {
  nowhere = λ (e : x.times ≡ 0). (up_none x.depth (h.nowhere e).0, (h.nowhere e).1);
  somewhere = λ (lt : 0 < x.times). up_more x.depth (h.somewhere lt);
}

sound_quant : (x : Usage) → Sound x → Sound (quantified_use x)
sound_quant x h = record {
  nowhere = λ (e : x.times ≡ 0). (up_none x.depth (h.nowhere e).0, let q : x.quants ≡ 0 = (h.nowhere e).1 in omega (arith, e, q));
  somewhere = λ (lt : 0 < x.times). up_more x.depth (h.somewhere lt);
}

pub sound_unused : Sound unused
sound_unused = record { nowhere = λ (e : 0 ≡ 0). (refl, refl); somewhere = λ (lt : 0 < 0). lt }

sound_law : Related by_use by_use SoundBoth
sound_law = record {
  none = sound_unused;
  both = λ (x z y w : Usage) (h : Sound x) (k : Sound z). sound_both x z h k;
  node = λ (x y : Usage) (h : Sound x). sound_node x h;
  quant = λ (x y : Usage) (h : Sound x). sound_quant x h;
  ty = λ (t : Ty). sound_unused;
}

sound_single : (p j v : ℕ) → Sound (single p j v)
sound_single p j v = by (nat_lt v p && (v == j))
  where
    by : (b : Bool) → Sound (if b then one_use else unused)
    by true = record { nowhere = λ (e : 1 ≡ 0). absurd (omega (arith, e)); somewhere = λ (lt : 0 < 1). omega arith }
    by false = sound_unused

pub sound_uses : (p j : ℕ) (e : Expr ℕ) → Sound (tally by_use (single p j) e)
sound_uses p j e = related by_use by_use SoundBoth sound_law (single p j) (single p j) (sound_single p j) e

-- ---- heights

pub some_height : (f : ℕ → ℕ) → ((v : ℕ) → 0 < f v) → (e : Expr ℕ) → 0 < tally by_height f e
some_height f h (NullExpr at) = omega arith
some_height f h (BoolExpr at truth) = omega arith
some_height f h (IntExpr at number) = omega arith
some_height f h (VarExpr at v) = h v
some_height f h (CallExpr at routine args) = omega arith
some_height f h (NegExpr at a) = omega arith
some_height f h (NotExpr at a) = omega arith
some_height f h (LenExpr at a) = omega arith
some_height f h (BinaryExpr at op a b) = omega arith
some_height f h (IsExpr at a t) = omega arith
some_height f h (IndexExpr at a b) = omega arith
some_height f h (FieldExpr at a name) = omega arith
some_height f h (ListExpr at items) = omega arith
some_height f h (RepeatExpr at a b) = omega arith
some_height f h (RecordExpr at members) = omega arith
some_height f h (QuantExpr at all v from to body) = omega arith

abbrev AtMost : ℕ → ℕ → Type 0
AtMost x y = x ≤ y

height_law : Related by_height by_height AtMost
height_law = record {
  none = omega arith;
  both = λ (x z y w : ℕ) (h : x ≤ y) (k : z ≤ w). omega (arith, h, k);
  node = λ (x y : ℕ) (h : x ≤ y). omega (arith, h);
  quant = λ (x y : ℕ) (h : x ≤ y). omega (arith, h);
  ty = λ (t : Ty). omega arith;
}

-- higher variables make nothing lower
pub higher : (f g : ℕ → ℕ) → ((v : ℕ) → f v ≤ g v) → (e : Expr ℕ) → tally by_height f e ≤ tally by_height g e
higher f g h e = related by_height by_height AtMost height_law f g h e

-- where no node counts, the expression is a variable
pub lone_variable : (p : ℕ) (f : ℕ → ℕ) (e : Expr ℕ) → ((v : ℕ) → v < p → f v ≡ 0) → tally by_nodes (beyond p) e ≡ 0 → tally by_height f e ≡ 0
lone_variable p f (NullExpr at) h z = absurd (omega (arith, z))
lone_variable p f (BoolExpr at truth) h z = absurd (omega (arith, z))
lone_variable p f (IntExpr at number) h z = absurd (omega (arith, z))
lone_variable p f (VarExpr at v) h z = by (nat_lt v p) refl z
  where
    by : (b : Bool) → nat_lt v p ≡ b → ◌≡◌ {A = ℕ} (if b then 0 else 1) 0 → f v ≡ 0
    by true e k = h v (ltb-true v p e)
    by false e k = absurd (omega (arith, k))
lone_variable p f (CallExpr at routine args) h z = absurd (omega (arith, z))
lone_variable p f (NegExpr at a) h z = absurd (omega (arith, z))
lone_variable p f (NotExpr at a) h z = absurd (omega (arith, z))
lone_variable p f (LenExpr at a) h z = absurd (omega (arith, z))
lone_variable p f (BinaryExpr at op a b) h z = absurd (omega (arith, z))
lone_variable p f (IsExpr at a t) h z = absurd (omega (arith, z))
lone_variable p f (IndexExpr at a b) h z = absurd (omega (arith, z))
lone_variable p f (FieldExpr at a name) h z = absurd (omega (arith, z))
lone_variable p f (ListExpr at items) h z = absurd (omega (arith, z))
lone_variable p f (RepeatExpr at a b) h z = absurd (omega (arith, z))
lone_variable p f (RecordExpr at members) h z = absurd (omega (arith, z))
lone_variable p f (QuantExpr at all v from to body) h z = absurd (omega (arith, z))
