-- A table of types whose names recur through records or arrays is ranked, by fewer ranks than it has nodes and one.
use Rattle.std.proofs.Common.{◌≡◌, ℕ, zero, suc, ◌+◌, ◌*◌, ◌<◌, ◌≤◌, max, List, length, Bool, true, false, cond, Option, Some, None, refl, sym, ap, subst, ◌∙◌, arith, inl, inr, ◌⊎◌}
use Rattle.std.specs.Prelude.{slice_get, nat_lt}
use Rattle.std.specs.Option.{unwrap_or}
use Rattle.std.proofs.lemmas.Option.{slice_get_within}
use Rattle.std.proofs.lemmas.Bool.Decides.{nat_tests}
use Rattle.std.proofs.Math.Nat.{le-max_left, le-max_right, max-le, mul-le-mul_right, suc-mul}
use Rattle.wy_core.specs.Types.{Ty, NullTy, BoolTy, IntTy, AnyTy, VoidTy, RecordTy, ArrayTy, UnionTy, InterTy, NotTy, NamedTy, NormalTy}
use Rattle.wy_types.specs.declared.table.Node.{Node}
use Rattle.wy_types.specs.declared.table.Node.TheVariants as node
use Rattle.wy_types.specs.declared.table.Definition.{Definition}
use Rattle.wy_types.specs.declared.table.Table.{Table}
use Rattle.wy_types.specs.Names.{Declared}
use Rattle.wy_types.specs.Membership.{node_of, definition_of}
use Rattle.wy_types.specs.Ranked.{IsNameBelow, IsBelow, IsRanked}
use Rattle.wy_types.specs.Nodes.{IsAfterParts, AreGrounded}
use Rattle.wy_types.specs.Standing.{Stands, NameStands, NamesStand}
use Rattle.wy_types.specs.Recursion.{IsDeclaredBelow, HasBareBelow, IsOrdered}
use Rattle.wy_types.proofs.StandLemmas.{stands_within}

-- ---- how many numbers are below a bound by a measure

pub one_if : Bool → ℕ
one_if b = cond b 1 0

pub count : (ℕ → ℕ) → ℕ → ℕ → ℕ
count f b zero = 0
count f b (suc n) = one_if (nat_lt (f n) b) + count f b n

count_within : (f : ℕ → ℕ) (b n : ℕ) → count f b n ≤ n
unfolding count one_if
count_within f b zero = omega arith
count_within f b (suc n) = by (nat_lt (f n) b) (count_within f b n)
  where
    by : (t : Bool) → count f b n ≤ n → cond t 1 0 + count f b n ≤ suc n
    by true h = omega (arith, h)
    by false h = omega (arith, h)

less_one : (x b c : ℕ) → b ≤ c → one_if (nat_lt x b) ≤ one_if (nat_lt x c)
unfolding one_if
less_one x b c le = grind (arith, nat_tests)

gain_one : (x b c : ℕ) → b ≤ x → x < c → one_if (nat_lt x b) < one_if (nat_lt x c)
unfolding one_if
gain_one x b c le lt = grind (arith, nat_tests)

count_more : (f : ℕ → ℕ) (b c n : ℕ) → b ≤ c → count f b n ≤ count f c n
unfolding count
count_more f b c zero le = omega arith
count_more f b c (suc n) le = let h = count_more f b c n le in let o = less_one (f n) b c le in omega (arith, h, o)

count_less : (f : ℕ → ℕ) (b c n u : ℕ) → u < n → b ≤ f u → f u < c → count f b n < count f c n
unfolding count
count_less f b c zero u lt le less = absurd (omega (arith, lt))
count_less f b c (suc n) u lt le less = elim (same_or_less u n lt) as (λ _. one_if (nat_lt (f n) b) + count f b n < one_if (nat_lt (f n) c) + count f c n) [
  | inl e ↦ let g = gain_one (f n) b c (subst (λ (v : ℕ). b ≤ f v) e le) (subst (λ (v : ℕ). f v < c) e less) in let h = count_more f b c n (omega (arith, le, less)) in omega (arith, g, h)
  | inr d ↦ let h = count_less f b c n u d le less in let o = less_one (f n) b c (omega (arith, le, less)) in omega (arith, h, o)
]
  where
    same_or_less : (u n : ℕ) → u < suc n → (u ≡ n) ⊎ (u < n)
    same_or_less zero zero lt = inl refl
    same_or_less zero (suc n) lt = inr (omega arith)
    same_or_less (suc u) zero lt = absurd (omega (arith, lt))
    same_or_less (suc u) (suc n) lt = elim (same_or_less u n (omega (arith, lt))) [ inl e ↦ inl (ap suc e) | inr d ↦ inr (omega (arith, d)) ]

-- ---- the level of a term: above the orders of the names that it uses bare

pub name_level : (ℕ → ℕ) → ℕ → Option Definition → ℕ
name_level order n None = 0
name_level order n (Some x) = suc (order n)

pub node_level : Table → (ℕ → ℕ) → (ℕ → ℕ) → Node → ℕ
node_level table order at node.Null = 0
node_level table order at node.Bool = 0
node_level table order at node.Int = 0
node_level table order at node.Any = 0
node_level table order at node.Void = 0
node_level table order at (node.Record fs) = 0
node_level table order at (node.Array t) = 0
node_level table order at (node.Union a b) = max (at a) (at b)
node_level table order at (node.Inter a b) = max (at a) (at b)
node_level table order at (node.Not a) = at a
node_level table order at (node.Named n) = name_level order n (definition_of table n)
node_level table order at (node.Normal cs) = 0

pub level : Table → (ℕ → ℕ) → ℕ → ℕ → ℕ
level table order zero t = 0
level table order (suc k) t = node_level table order (level table order k) (node_of table t)

-- ---- numbers deeper than a term's own change nothing of its level

sides_same : (table : Table) (order : ℕ → ℕ) (f g : ℕ → ℕ) (i : ℕ) (n : Node) → ((u : ℕ) → u < i → f u ≡ g u) → IsAfterParts i n → node_level table order f n ≡ node_level table order g n
unfolding node_level
sides_same table order f g i node.Null e a = refl
sides_same table order f g i node.Bool e a = refl
sides_same table order f g i node.Int e a = refl
sides_same table order f g i node.Any e a = refl
sides_same table order f g i node.Void e a = refl
sides_same table order f g i (node.Record fs) e a = refl
sides_same table order f g i (node.Array t) e a = refl
sides_same table order f g i (node.Union x y) e a = rw (e x a.0, e y a.1) refl
sides_same table order f g i (node.Inter x y) e a = rw (e x a.0, e y a.1) refl
sides_same table order f g i (node.Not x) e a = e x a
sides_same table order f g i (node.Named m) e a = refl
sides_same table order f g i (node.Normal cs) e a = refl

at_or_void : (o : Option Node) (i : ℕ) → ((n : Node) → o ≡ Some n → IsAfterParts i n) → IsAfterParts i (unwrap_or o node.Void)
at_or_void None i h = tt
at_or_void (Some n) i h = h n refl

pub after_sides : (table : Table) → AreGrounded table.nodes → (t : ℕ) → IsAfterParts t (node_of table t)
after_sides table grounded t = at_or_void (slice_get table.nodes t) t (grounded t)

level_deeper : (table : Table) (order : ℕ → ℕ) → AreGrounded table.nodes → (k t : ℕ) → t < k → level table order k t ≡ level table order (suc k) t
unfolding level
level_deeper table order grounded zero t lt = absurd (omega (arith, lt))
level_deeper table order grounded (suc k) t lt =
    sides_same table order (level table order k) (level table order (suc k)) t (node_of table t) (λ u less. level_deeper table order grounded k u (omega (arith, less, lt))) (after_sides table grounded t)

-- so it is by a number as large as there are nodes
level_is : (table : Table) (order : ℕ → ℕ) → AreGrounded table.nodes → (k t : ℕ) → t < k → level table order k t ≡ node_level table order (level table order k) (node_of table t)
unfolding level
level_is table order grounded k t lt = level_deeper table order grounded k t lt

-- ---- a type's level is at most the number that its bare names are below

name_level-below : (ns : List Node) (order : ℕ → ℕ) (j n : ℕ) (o : Option Declared) (x : Option Definition) → NameStands ns o x → IsDeclaredBelow (order n) j o → name_level order n x ≤ j
unfolding name_level
name_level-below ns order j n None None s b = omega arith
name_level-below ns order j n None (Some x) s b = absurd s
name_level-below ns order j n (Some d) None s b = absurd s
name_level-below ns order j n (Some d) (Some x) s b = omega (arith, b)

node_is : (table : Table) (t : ℕ) (n : Node) → slice_get table.nodes t ≡ Some n → node_of table t ≡ n
node_is table t n e = ap (λ o. unwrap_or o node.Void) e

module _ (table : Table) (names : List Declared) (order : ℕ → ℕ) (stand : NamesStand table.nodes names table.definitions) where
  level_by : (k t j : ℕ) (n : Node) → slice_get table.nodes t ≡ Some n → node_level table order (level table order k) n ≤ j → level table order (suc k) t ≤ j
  unfolding level
  level_by k t j n e le = subst (λ (m : Node). node_level table order (level table order k) m ≤ j) (sym (node_is table t n e)) le

  level-below : (k : ℕ) (j : ℕ) (t : Ty) (m : ℕ) → HasBareBelow names order j t → Stands table.nodes t m → level table order k m ≤ j
  unfolding level node_level
  level-below zero j t m b s = omega arith
  level-below (suc k) j NullTy m b s = level_by k m j node.Null s (omega arith)
  level-below (suc k) j BoolTy m b s = level_by k m j node.Bool s (omega arith)
  level-below (suc k) j IntTy m b s = level_by k m j node.Int s (omega arith)
  level-below (suc k) j AnyTy m b s = level_by k m j node.Any s (omega arith)
  level-below (suc k) j VoidTy m b s = level_by k m j node.Void s (omega arith)
  level-below (suc k) j (RecordTy fs) m b s = level_by k m j (node.Record s.0) s.1.0 (omega arith)
  level-below (suc k) j (ArrayTy u) m b s = level_by k m j (node.Array s.0) s.1.0 (omega arith)
  level-below (suc k) j (UnionTy u v) m b s = level_by k m j (node.Union s.0 s.1.0) s.1.1.0 (max-le (level-below k j u s.0 b.0 s.1.1.1.0) (level-below k j v s.1.0 b.1 s.1.1.1.1))
  level-below (suc k) j (InterTy u v) m b s = level_by k m j (node.Inter s.0 s.1.0) s.1.1.0 (max-le (level-below k j u s.0 b.0 s.1.1.1.0) (level-below k j v s.1.0 b.1 s.1.1.1.1))
  level-below (suc k) j (NotTy u) m b s = level_by k m j (node.Not s.0) s.1.0 (level-below k j u s.0 b s.1.1)
  level-below (suc k) j (NamedTy n) m b s = level_by k m j (node.Named n) s (name_level-below table.nodes order j n (slice_get names n) (definition_of table n) (stand n) b)
  level-below (suc k) j (NormalTy cs) m b s = level_by k m j (node.Normal s.0) s.1.0 (omega arith)

-- ---- ranks

module _ (table : Table) (names : List Declared) (order : ℕ → ℕ) (stand : NamesStand table.nodes names table.definitions) (ordered : IsOrdered names order) (grounded : AreGrounded table.nodes) where
  abbrev pub size : ℕ
  size = length table.nodes

  -- the level first, and then the number
  pub key : ℕ → ℕ
  key t = level table order size t * suc size + t

  abbrev pub rank : ℕ → ℕ
  rank t = count key (key t) size

  rank_less : (a t : ℕ) → a < size → key a < key t → rank a < rank t
  rank_less a t lt less = count_less key (key a) (key t) size a lt (omega arith) less

  key_side : (a t : ℕ) → a < t → level table order size a ≤ level table order size t → key a < key t
  unfolding key
  key_side a t lt le = let m = mul-le-mul_right {m = level table order size a} {n = level table order size t} (suc size) le in lower (level table order size a * suc size) (level table order size t * suc size) a t m lt
    where
      lower : (x y a t : ℕ) → x ≤ y → a < t → x + a < y + t
      lower x y a t le lt = omega (arith, le, lt)

  key_name : (s t : ℕ) → s < size → level table order size s < level table order size t → key s < key t
  unfolding key
  key_name s t lt less =
      let m = mul-le-mul_right {m = suc (level table order size s)} {n = level table order size t} (suc size) (omega (arith, less)) in
      lower (level table order size s * suc size) (level table order size t * suc size) s t size (subst (λ (x : ℕ). x ≤ level table order size t * suc size) (suc-mul (level table order size s) (suc size)) m) lt
    where
      lower : (x y s t n : ℕ) → x + suc n ≤ y → s < n → x + s < y + t
      lower x y s t n le lt = omega (arith, le, lt)

  name_below : (t n : ℕ) → t < size → level table order size t ≡ name_level order n (definition_of table n) → (o : Option Declared) (x : Option Definition) → slice_get names n ≡ o → definition_of table n ≡ x → NameStands table.nodes o x → IsNameBelow rank (rank t) x
  unfolding name_level
  name_below t n lt e None None g h s = tt
  name_below t n lt e None (Some x) g h s = absurd s
  name_below t n lt e (Some d) None g h s = absurd s
  name_below t n lt e (Some d) (Some x) g h s =
      let above : level table order size t ≡ suc (order n) = e ∙ ap (name_level order n) h in
      let within = stands_within table.nodes d.ty x.term s.1 in
      let low = level-below table names order stand size (order n) d.ty x.term (ordered n d g).1 s.1 in
      rank_less x.term t within (key_name x.term t within (omega (arith, above, low)))

  node_below : (t : ℕ) → t < size → (n : Node) → level table order size t ≡ node_level table order (level table order size) n → IsAfterParts t n → IsBelow table rank (rank t) n
  unfolding node_level
  node_below t lt node.Null e a = tt
  node_below t lt node.Bool e a = tt
  node_below t lt node.Int e a = tt
  node_below t lt node.Any e a = tt
  node_below t lt node.Void e a = tt
  node_below t lt (node.Record fs) e a = tt
  node_below t lt (node.Array s) e a = tt
  node_below t lt (node.Union x y) e a =
      let left : level table order size x ≤ level table order size t = rw e (le-max_left (level table order size x) (level table order size y)) in
      let right : level table order size y ≤ level table order size t = rw e (le-max_right (level table order size x) (level table order size y)) in
      (rank_less x t (omega (arith, lt, a.0)) (key_side x t a.0 left), rank_less y t (omega (arith, lt, a.1)) (key_side y t a.1 right))
  node_below t lt (node.Inter x y) e a =
      let left : level table order size x ≤ level table order size t = rw e (le-max_left (level table order size x) (level table order size y)) in
      let right : level table order size y ≤ level table order size t = rw e (le-max_right (level table order size x) (level table order size y)) in
      (rank_less x t (omega (arith, lt, a.0)) (key_side x t a.0 left), rank_less y t (omega (arith, lt, a.1)) (key_side y t a.1 right))
  node_below t lt (node.Not x) e a = rank_less x t (omega (arith, lt, a)) (key_side x t a (omega (arith, e)))
  node_below t lt (node.Named n) e a = name_below t n lt e (slice_get names n) (definition_of table n) refl refl (stand n)
  node_below t lt (node.Normal cs) e a = tt

  below_or_void : (t : ℕ) (o : Option Node) → slice_get table.nodes t ≡ o → IsBelow table rank (rank t) (unwrap_or o node.Void)
  below_or_void t None e = tt
  below_or_void t (Some n) e =
      let lt = slice_get_within table.nodes t n e in
      node_below t lt n (level_is table order grounded size t lt ∙ ap (node_level table order (level table order size)) (node_is table t n e)) (grounded t n e)

  pub are_ranked : IsRanked table rank (suc size)
  are_ranked t = (let w = count_within key (key t) size in omega (arith, w), below_or_void t (slice_get table.nodes t) refl)

pub some_rank : (table : Table) (names : List Declared) → NamesStand table.nodes names table.definitions → (order : ℕ → ℕ) → IsOrdered names order → AreGrounded table.nodes → (rank : ℕ → ℕ) × IsRanked table rank (suc (length table.nodes))
some_rank table names stand order ordered grounded = (rank table names order stand ordered grounded, are_ranked table names order stand ordered grounded)
