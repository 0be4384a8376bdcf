-- What is counted of an expression of the core, in whatever way it is counted.
use Rattle.std.proofs.Common.{◌≡◌, ◌∙◌, ℕ, List, refl, ap}
use Rattle.wy_core.specs.Types.{Ty}
use Rattle.wy_core.specs.CoreTree.{Expr, NullExpr, BoolExpr, IntExpr, VarExpr, CallExpr, NegExpr, NotExpr, LenExpr, BinaryExpr, IsExpr, IndexExpr, FieldExpr, ListExpr, RepeatExpr, RecordExpr, QuantExpr, Exprs, NoExprs, MoreExprs, Fields, NoFields, MoreFields}
use Rattle.wy_names_lower.specs.wy_core_build.Instances.{variable, instance_of, instances, instance_fields}

-- a way to count: nothing, two beside each other, a node or a quantifier around its parts, and the type of a test
pub record Counts (A : Type 0) : Type 0 where
  pub none : A
  pub both : A → A → A
  pub node : A → A
  pub quant : A → A
  pub ty : Ty → A

abbrev mutual
  -- what is counted of the expression, each variable counting as f says
  pub tally : {A : Type 0} → Counts A → (ℕ → A) → Expr ℕ → A
  tally c f (NullExpr at) = c.node c.none
  tally c f (BoolExpr at truth) = c.node c.none
  tally c f (IntExpr at number) = c.node c.none
  tally c f (VarExpr at v) = f v
  tally c f (CallExpr at routine args) = c.node (tallies c f args)
  tally c f (NegExpr at a) = c.node (tally c f a)
  tally c f (NotExpr at a) = c.node (tally c f a)
  tally c f (LenExpr at a) = c.node (tally c f a)
  tally c f (BinaryExpr at op a b) = c.node (c.both (tally c f a) (tally c f b))
  tally c f (IsExpr at a t) = c.node (c.both (tally c f a) (c.ty t))
  tally c f (IndexExpr at a b) = c.node (c.both (tally c f a) (tally c f b))
  tally c f (FieldExpr at a name) = c.node (tally c f a)
  tally c f (ListExpr at items) = c.node (tallies c f items)
  tally c f (RepeatExpr at a b) = c.node (c.both (tally c f a) (tally c f b))
  tally c f (RecordExpr at fields) = c.node (field_tallies c f fields)
  tally c f (QuantExpr at all v from to body) = c.quant (c.both (tally c f from) (c.both (tally c f to) (tally c f body)))

  pub tallies : {A : Type 0} → Counts A → (ℕ → A) → Exprs ℕ → A
  tallies c f NoExprs = c.none
  tallies c f (MoreExprs e rest) = c.both (tally c f e) (tallies c f rest)

  pub field_tallies : {A : Type 0} → Counts A → (ℕ → A) → Fields ℕ → A
  field_tallies c f NoFields = c.none
  field_tallies c f (MoreFields name e rest) = c.both (tally c f e) (field_tallies c f rest)

-- ---- parts that count the same

two : {A : Type 0} (c : Counts A) {x y z w : A} → x ≡ y → z ≡ w → c.both x z ≡ c.both y w
two {A} c {x} {y} {z} {w} p q = ap (λ (u : A). c.both u z) p ∙ ap (λ (u : A). c.both y u) q

tested : {A : Type 0} (c : Counts A) {x y : A} (t : Ty) → x ≡ y → c.node (c.both x (c.ty t)) ≡ c.node (c.both y (c.ty t))
tested {A} c t p = ap (λ (u : A). c.node (c.both u (c.ty t))) p

three : {A : Type 0} (c : Counts A) {x y z w u v : A} → x ≡ y → z ≡ w → u ≡ v → c.quant (c.both x (c.both z u)) ≡ c.quant (c.both y (c.both w v))
three c p q r = ap c.quant (two c p (two c q r))

-- ---- a property's clauses at a use of it

module _ {A : Type 0} (c : Counts A) (f : ℕ → A) (at : ℕ) (args : List (Expr ℕ)) (base : ℕ) where
  -- what a variable of the clauses counts there
  abbrev pub put_in : ℕ → A
  put_in v = tally c f (variable at args base v)

  mutual
    pub tally-instance : (e : Expr ℕ) → tally c f (instance_of at args base e) ≡ tally c put_in e
    tally-instance (NullExpr n) = refl
    tally-instance (BoolExpr n truth) = refl
    tally-instance (IntExpr n number) = refl
    tally-instance (VarExpr n v) = refl
    tally-instance (CallExpr n routine es) = ap c.node (tallies-instances es)
    tally-instance (NegExpr n a) = ap c.node (tally-instance a)
    tally-instance (NotExpr n a) = ap c.node (tally-instance a)
    tally-instance (LenExpr n a) = ap c.node (tally-instance a)
    tally-instance (BinaryExpr n op a b) = ap c.node (two c (tally-instance a) (tally-instance b))
    tally-instance (IsExpr n a t) = tested c t (tally-instance a)
    tally-instance (IndexExpr n a b) = ap c.node (two c (tally-instance a) (tally-instance b))
    tally-instance (FieldExpr n a name) = ap c.node (tally-instance a)
    tally-instance (ListExpr n es) = ap c.node (tallies-instances es)
    tally-instance (RepeatExpr n a b) = ap c.node (two c (tally-instance a) (tally-instance b))
    tally-instance (RecordExpr n fs) = ap c.node (field_tallies-instances fs)
    tally-instance (QuantExpr n all v from to body) = three c (tally-instance from) (tally-instance to) (tally-instance body)

    tallies-instances : (es : Exprs ℕ) → tallies c f (instances at args base es) ≡ tallies c put_in es
    tallies-instances NoExprs = refl
    tallies-instances (MoreExprs e rest) = two c (tally-instance e) (tallies-instances rest)

    field_tallies-instances : (fs : Fields ℕ) → field_tallies c f (instance_fields at args base fs) ≡ field_tallies c put_in fs
    field_tallies-instances NoFields = refl
    field_tallies-instances (MoreFields name e rest) = two c (tally-instance e) (field_tallies-instances rest)

-- ---- variables that count the same

module _ {A : Type 0} (c : Counts A) (f g : ℕ → A) (same : (v : ℕ) → f v ≡ g v) where
  mutual
    pub same_tally : (e : Expr ℕ) → tally c f e ≡ tally c g e
    same_tally (NullExpr n) = refl
    same_tally (BoolExpr n truth) = refl
    same_tally (IntExpr n number) = refl
    same_tally (VarExpr n v) = same v
    same_tally (CallExpr n routine es) = ap c.node (same_tallies es)
    same_tally (NegExpr n a) = ap c.node (same_tally a)
    same_tally (NotExpr n a) = ap c.node (same_tally a)
    same_tally (LenExpr n a) = ap c.node (same_tally a)
    same_tally (BinaryExpr n op a b) = ap c.node (two c (same_tally a) (same_tally b))
    same_tally (IsExpr n a t) = tested c t (same_tally a)
    same_tally (IndexExpr n a b) = ap c.node (two c (same_tally a) (same_tally b))
    same_tally (FieldExpr n a name) = ap c.node (same_tally a)
    same_tally (ListExpr n es) = ap c.node (same_tallies es)
    same_tally (RepeatExpr n a b) = ap c.node (two c (same_tally a) (same_tally b))
    same_tally (RecordExpr n fs) = ap c.node (same_fields fs)
    same_tally (QuantExpr n all v from to body) = three c (same_tally from) (same_tally to) (same_tally body)

    same_tallies : (es : Exprs ℕ) → tallies c f es ≡ tallies c g es
    same_tallies NoExprs = refl
    same_tallies (MoreExprs e rest) = two c (same_tally e) (same_tallies rest)

    same_fields : (fs : Fields ℕ) → field_tallies c f fs ≡ field_tallies c g fs
    same_fields NoFields = refl
    same_fields (MoreFields name e rest) = two c (same_tally e) (same_fields rest)

-- ---- a sum of two ways to count

-- the two together count as the first does
pub record Together {A B : Type 0} (c : Counts A) (d : Counts B) (sum : A → B → A) : Type 0 where
  pub none : sum c.none d.none ≡ c.none
  pub both : (x z : A) (y w : B) → sum (c.both x z) (d.both y w) ≡ c.both (sum x y) (sum z w)
  pub node : (x : A) (y : B) → sum (c.node x) (d.node y) ≡ c.node (sum x y)
  pub quant : (x : A) (y : B) → sum (c.quant x) (d.quant y) ≡ c.quant (sum x y)
  pub ty : (t : Ty) → sum (c.ty t) (d.ty t) ≡ c.ty t

module _ {A B : Type 0} (c : Counts A) (d : Counts B) (sum : A → B → A) (law : Together c d sum) (f : ℕ → A) (g : ℕ → B) where
  abbrev pub summed : ℕ → A
  summed v = sum (f v) (g v)

  leaf : sum (c.node c.none) (d.node d.none) ≡ c.node c.none
  leaf = law.node c.none d.none ∙ ap c.node law.none

  one : (x : A) (y : B) (p : A) → sum x y ≡ p → sum (c.node x) (d.node y) ≡ c.node p
  one x y p e = law.node x y ∙ ap c.node e

  beside : (x z : A) (y w : B) (p q : A) → sum x y ≡ p → sum z w ≡ q → sum (c.both x z) (d.both y w) ≡ c.both p q
  beside x z y w p q e k = law.both x z y w ∙ two c e k

  mutual
    pub tally_sum : (e : Expr ℕ) → sum (tally c f e) (tally d g e) ≡ tally c summed e
    tally_sum (NullExpr n) = leaf
    tally_sum (BoolExpr n truth) = leaf
    tally_sum (IntExpr n number) = leaf
    tally_sum (VarExpr n v) = refl
    tally_sum (CallExpr n routine es) = one (tallies c f es) (tallies d g es) (tallies c summed es) (tallies_sum es)
    tally_sum (NegExpr n a) = one (tally c f a) (tally d g a) (tally c summed a) (tally_sum a)
    tally_sum (NotExpr n a) = one (tally c f a) (tally d g a) (tally c summed a) (tally_sum a)
    tally_sum (LenExpr n a) = one (tally c f a) (tally d g a) (tally c summed a) (tally_sum a)
    tally_sum (BinaryExpr n op a b) =
        one (c.both (tally c f a) (tally c f b)) (d.both (tally d g a) (tally d g b)) (c.both (tally c summed a) (tally c summed b))
        (beside (tally c f a) (tally c f b) (tally d g a) (tally d g b) (tally c summed a) (tally c summed b) (tally_sum a) (tally_sum b))
    tally_sum (IsExpr n a t) =
        one (c.both (tally c f a) (c.ty t)) (d.both (tally d g a) (d.ty t)) (c.both (tally c summed a) (c.ty t))
        (beside (tally c f a) (c.ty t) (tally d g a) (d.ty t) (tally c summed a) (c.ty t) (tally_sum a) (law.ty t))
    tally_sum (IndexExpr n a b) =
        one (c.both (tally c f a) (tally c f b)) (d.both (tally d g a) (tally d g b)) (c.both (tally c summed a) (tally c summed b))
        (beside (tally c f a) (tally c f b) (tally d g a) (tally d g b) (tally c summed a) (tally c summed b) (tally_sum a) (tally_sum b))
    tally_sum (FieldExpr n a name) = one (tally c f a) (tally d g a) (tally c summed a) (tally_sum a)
    tally_sum (ListExpr n es) = one (tallies c f es) (tallies d g es) (tallies c summed es) (tallies_sum es)
    tally_sum (RepeatExpr n a b) =
        one (c.both (tally c f a) (tally c f b)) (d.both (tally d g a) (tally d g b)) (c.both (tally c summed a) (tally c summed b))
        (beside (tally c f a) (tally c f b) (tally d g a) (tally d g b) (tally c summed a) (tally c summed b) (tally_sum a) (tally_sum b))
    tally_sum (RecordExpr n fs) = one (field_tallies c f fs) (field_tallies d g fs) (field_tallies c summed fs) (fields_sum fs)
    tally_sum (QuantExpr n all v from to body) =
        law.quant (c.both (tally c f from) (c.both (tally c f to) (tally c f body))) (d.both (tally d g from) (d.both (tally d g to) (tally d g body)))
        ∙ ap c.quant
        (beside (tally c f from) (c.both (tally c f to) (tally c f body)) (tally d g from) (d.both (tally d g to) (tally d g body)) (tally c summed from) (c.both (tally c summed to) (tally c summed body)) (tally_sum from)
        (beside (tally c f to) (tally c f body) (tally d g to) (tally d g body) (tally c summed to) (tally c summed body) (tally_sum to) (tally_sum body)))

    tallies_sum : (es : Exprs ℕ) → sum (tallies c f es) (tallies d g es) ≡ tallies c summed es
    tallies_sum NoExprs = law.none
    tallies_sum (MoreExprs e rest) = beside (tally c f e) (tallies c f rest) (tally d g e) (tallies d g rest) (tally c summed e) (tallies c summed rest) (tally_sum e) (tallies_sum rest)

    fields_sum : (fs : Fields ℕ) → sum (field_tallies c f fs) (field_tallies d g fs) ≡ field_tallies c summed fs
    fields_sum NoFields = law.none
    fields_sum (MoreFields name e rest) =
        beside (tally c f e) (field_tallies c f rest) (tally d g e) (field_tallies d g rest) (tally c summed e) (field_tallies c summed rest) (tally_sum e) (fields_sum rest)

-- ---- what two ways to count keep

-- a relation that holds of what two ways count of nothing, and is kept by each step
pub record Related {A B : Type 0} (c : Counts A) (d : Counts B) (R : A → B → Type 0) : Type 0 where
  pub none : R c.none d.none
  pub both : (x z : A) (y w : B) → R x y → R z w → R (c.both x z) (d.both y w)
  pub node : (x : A) (y : B) → R x y → R (c.node x) (d.node y)
  pub quant : (x : A) (y : B) → R x y → R (c.quant x) (d.quant y)
  pub ty : (t : Ty) → R (c.ty t) (d.ty t)

module _ {A B : Type 0} (c : Counts A) (d : Counts B) (R : A → B → Type 0) (law : Related c d R) (f : ℕ → A) (g : ℕ → B) (own : (v : ℕ) → R (f v) (g v)) where
  bare : R (c.node c.none) (d.node d.none)
  bare = law.node c.none d.none law.none

  around : (x z : A) (y w : B) → R x y → R z w → R (c.node (c.both x z)) (d.node (d.both y w))
  around x z y w p q = law.node (c.both x z) (d.both y w) (law.both x z y w p q)

  mutual
    pub related : (e : Expr ℕ) → R (tally c f e) (tally d g e)
    related (NullExpr n) = bare
    related (BoolExpr n truth) = bare
    related (IntExpr n number) = bare
    related (VarExpr n v) = own v
    related (CallExpr n routine es) = law.node (tallies c f es) (tallies d g es) (all_related es)
    related (NegExpr n a) = law.node (tally c f a) (tally d g a) (related a)
    related (NotExpr n a) = law.node (tally c f a) (tally d g a) (related a)
    related (LenExpr n a) = law.node (tally c f a) (tally d g a) (related a)
    related (BinaryExpr n op a b) = around (tally c f a) (tally c f b) (tally d g a) (tally d g b) (related a) (related b)
    related (IsExpr n a t) = around (tally c f a) (c.ty t) (tally d g a) (d.ty t) (related a) (law.ty t)
    related (IndexExpr n a b) = around (tally c f a) (tally c f b) (tally d g a) (tally d g b) (related a) (related b)
    related (FieldExpr n a name) = law.node (tally c f a) (tally d g a) (related a)
    related (ListExpr n es) = law.node (tallies c f es) (tallies d g es) (all_related es)
    related (RepeatExpr n a b) = around (tally c f a) (tally c f b) (tally d g a) (tally d g b) (related a) (related b)
    related (RecordExpr n fs) = law.node (field_tallies c f fs) (field_tallies d g fs) (fields_related fs)
    related (QuantExpr n all v from to body) =
        law.quant (c.both (tally c f from) (c.both (tally c f to) (tally c f body))) (d.both (tally d g from) (d.both (tally d g to) (tally d g body)))
        (law.both (tally c f from) (c.both (tally c f to) (tally c f body)) (tally d g from) (d.both (tally d g to) (tally d g body)) (related from)
        (law.both (tally c f to) (tally c f body) (tally d g to) (tally d g body) (related to) (related body)))

    all_related : (es : Exprs ℕ) → R (tallies c f es) (tallies d g es)
    all_related NoExprs = law.none
    all_related (MoreExprs e rest) = law.both (tally c f e) (tallies c f rest) (tally d g e) (tallies d g rest) (related e) (all_related rest)

    fields_related : (fs : Fields ℕ) → R (field_tallies c f fs) (field_tallies d g fs)
    fields_related NoFields = law.none
    fields_related (MoreFields name e rest) = law.both (tally c f e) (field_tallies c f rest) (tally d g e) (field_tallies d g rest) (related e) (fields_related rest)
