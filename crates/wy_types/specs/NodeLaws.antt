-- What is the same is equal, where the test of terms says so, and equal things are the same.
use Rattle.std.proofs.Common.{◌≡◌, ℕ, zero, suc, List, [], ◌∷◌, Bool, true, false, ◌&&◌, ◌==◌, refl, sym, ap, subst, ◌∙◌}
use Rattle.std.specs.Cmp.{IsEquivalence}
use Rattle.std.specs.Str.{bytes_eq}
use Rattle.std.proofs.lemmas.Bool.{eqb-true, eq-eqb, false≢true}
use Rattle.std.proofs.lemmas.Slice.Eq.{bytes_eq-Decides}
use Rattle.wy_types.specs.declared.conjuncts.Signed.{Signed}
use Rattle.wy_types.specs.declared.conjuncts.Part.{Part}
use Rattle.wy_types.specs.declared.conjuncts.Atom.{Atom}
use Rattle.wy_types.specs.declared.conjuncts.Atom.TheVariants as atom
use Rattle.wy_types.specs.declared.conjuncts.Conjunct.{Conjunct}
use Rattle.wy_types.specs.declared.table.Node.{Node}
use Rattle.wy_types.specs.declared.table.Node.TheVariants as node
use Rattle.wy_types.specs.Shape.{signed_as}
use Rattle.wy_types.specs.Conjuncts.{same_term}
use Rattle.wy_types.specs.Same.{same_signed, same_terms, same_fields, same_atom, same_atoms, same_conjunct, same_conjuncts}
use Rattle.wy_types.specs.Nodes.{form_of, left_of, right_of, fields_of, conjuncts_of, same_numbers, same_node, hash_input}

-- ---- truth

both : (a b : Bool) → (a && b) ≡ true → (a ≡ true) × (b ≡ true)
both true true e = (refl, refl)
both true false e = absurd (false≢true e)
both false b e = absurd (false≢true e)

all_so : (a b : Bool) → a ≡ true → b ≡ true → (a && b) ≡ true
all_so true b e f = f
all_so false b e f = e

signed_as-true : (a b : Bool) → signed_as a b ≡ true → a ≡ b
signed_as-true true true e = refl
signed_as-true false false e = refl
signed_as-true true false e = absurd (false≢true e)
signed_as-true false true e = absurd (false≢true e)

sign_self : (b : Bool) → signed_as b b ≡ true
sign_self true = refl
sign_self false = refl

pub bytes_are : (xs ys : List ℕ) → bytes_eq xs ys ≡ true → xs ≡ ys
bytes_are xs ys e = (bytes_eq-Decides xs ys).0 e

bytes_self : (xs : List ℕ) → bytes_eq xs xs ≡ true
bytes_self xs = (bytes_eq-Decides xs xs).1 refl

longer : {X : Type 0} (x y : X) (xs ys : List X) → x ≡ y → xs ≡ ys → x ∷ xs ≡ y ∷ ys
longer x y xs ys e f = λ i. e i ∷ f i

-- ---- what is the same is equal

module _ {T : Type 0} (same : T → T → Bool) (is : (x y : T) → same x y ≡ true → x ≡ y) where
  signed_made : (t u : T) (a b i j : Bool) → t ≡ u → a ≡ b → i ≡ j → (let x : Signed T = record { term = t; up = a; inside = i } in let y : Signed T = record { term = u; up = b; inside = j } in x ≡ y)
  signed_made t u a b i j e f g = λ k. record { term = e k; up = f k; inside = g k }

  field_made : (m n : List ℕ) (ts us : List (Signed T)) → m ≡ n → ts ≡ us
      → (let p : Part T = record { terms = ts } in let q : Part T = record { terms = us } in let x : List ℕ × Part T = (m, p) in let y : List ℕ × Part T = (n, q) in x ≡ y)
  field_made m n ts us e f = λ k. (e k, record { terms = f k })

  conjunct_made : (a b : Atom T) (xs ys : List (Atom T)) → a ≡ b → xs ≡ ys → (let x : Conjunct T = record { positive = a; negatives = xs } in let y : Conjunct T = record { positive = b; negatives = ys } in x ≡ y)
  conjunct_made a b xs ys e f = λ k. record { positive = e k; negatives = f k }

  pub same_signed_is : (x y : Signed T) → same_signed same x y ≡ true → x ≡ y
  same_signed_is x y e =
      let a = both (same x.term y.term) (signed_as x.up y.up && signed_as x.inside y.inside) e in
      let b = both (signed_as x.up y.up) (signed_as x.inside y.inside) a.1 in
      signed_made x.term y.term x.up y.up x.inside y.inside (is x.term y.term a.0) (signed_as-true x.up y.up b.0) (signed_as-true x.inside y.inside b.1)

  pub same_terms_are : (xs ys : List (Signed T)) → same_terms same xs ys ≡ true → xs ≡ ys
  same_terms_are [] [] e = refl
  same_terms_are [] (y ∷ ys) e = absurd (false≢true e)
  same_terms_are (x ∷ xs) [] e = absurd (false≢true e)
  same_terms_are (x ∷ xs) (y ∷ ys) e =
      let a = both (same_signed same x y) (same_terms same xs ys) e in
      longer x y xs ys (same_signed_is x y a.0) (same_terms_are xs ys a.1)

  pub same_fields_are : (xs ys : List (List ℕ × Part T)) → same_fields same xs ys ≡ true → xs ≡ ys
  same_fields_are [] [] e = refl
  same_fields_are [] (y ∷ ys) e = absurd (false≢true e)
  same_fields_are (x ∷ xs) [] e = absurd (false≢true e)
  same_fields_are (x ∷ xs) (y ∷ ys) e =
      let a = both (bytes_eq x.0 y.0) (same_terms same x.1.terms y.1.terms && same_fields same xs ys) e in
      let b = both (same_terms same x.1.terms y.1.terms) (same_fields same xs ys) a.1 in
      longer x y xs ys (field_made x.0 y.0 x.1.terms y.1.terms (bytes_are x.0 y.0 a.0) (same_terms_are x.1.terms y.1.terms b.0)) (same_fields_are xs ys b.1)

  pub same_atom_is : (x y : Atom T) → same_atom same x y ≡ true → x ≡ y
  same_atom_is atom.Null atom.Null e = refl
  same_atom_is atom.Null atom.Bool e = absurd (false≢true e)
  same_atom_is atom.Null atom.Int e = absurd (false≢true e)
  same_atom_is atom.Null (atom.Array q) e = absurd (false≢true e)
  same_atom_is atom.Null (atom.Record ys) e = absurd (false≢true e)
  same_atom_is atom.Null atom.AnyRecord e = absurd (false≢true e)
  same_atom_is atom.Bool atom.Null e = absurd (false≢true e)
  same_atom_is atom.Bool atom.Bool e = refl
  same_atom_is atom.Bool atom.Int e = absurd (false≢true e)
  same_atom_is atom.Bool (atom.Array q) e = absurd (false≢true e)
  same_atom_is atom.Bool (atom.Record ys) e = absurd (false≢true e)
  same_atom_is atom.Bool atom.AnyRecord e = absurd (false≢true e)
  same_atom_is atom.Int atom.Null e = absurd (false≢true e)
  same_atom_is atom.Int atom.Bool e = absurd (false≢true e)
  same_atom_is atom.Int atom.Int e = refl
  same_atom_is atom.Int (atom.Array q) e = absurd (false≢true e)
  same_atom_is atom.Int (atom.Record ys) e = absurd (false≢true e)
  same_atom_is atom.Int atom.AnyRecord e = absurd (false≢true e)
  same_atom_is (atom.Array p) atom.Null e = absurd (false≢true e)
  same_atom_is (atom.Array p) atom.Bool e = absurd (false≢true e)
  same_atom_is (atom.Array p) atom.Int e = absurd (false≢true e)
  same_atom_is (atom.Array p) (atom.Array q) e = λ k. atom.Array (record { terms = same_terms_are p.terms q.terms e k })
  same_atom_is (atom.Array p) (atom.Record ys) e = absurd (false≢true e)
  same_atom_is (atom.Array p) atom.AnyRecord e = absurd (false≢true e)
  same_atom_is (atom.Record xs) atom.Null e = absurd (false≢true e)
  same_atom_is (atom.Record xs) atom.Bool e = absurd (false≢true e)
  same_atom_is (atom.Record xs) atom.Int e = absurd (false≢true e)
  same_atom_is (atom.Record xs) (atom.Array q) e = absurd (false≢true e)
  same_atom_is (atom.Record xs) (atom.Record ys) e = ap atom.Record (same_fields_are xs ys e)
  same_atom_is (atom.Record xs) atom.AnyRecord e = absurd (false≢true e)
  same_atom_is atom.AnyRecord atom.Null e = absurd (false≢true e)
  same_atom_is atom.AnyRecord atom.Bool e = absurd (false≢true e)
  same_atom_is atom.AnyRecord atom.Int e = absurd (false≢true e)
  same_atom_is atom.AnyRecord (atom.Array q) e = absurd (false≢true e)
  same_atom_is atom.AnyRecord (atom.Record ys) e = absurd (false≢true e)
  same_atom_is atom.AnyRecord atom.AnyRecord e = refl

  pub same_atoms_are : (xs ys : List (Atom T)) → same_atoms same xs ys ≡ true → xs ≡ ys
  same_atoms_are [] [] e = refl
  same_atoms_are [] (y ∷ ys) e = absurd (false≢true e)
  same_atoms_are (x ∷ xs) [] e = absurd (false≢true e)
  same_atoms_are (x ∷ xs) (y ∷ ys) e =
      let a = both (same_atom same x y) (same_atoms same xs ys) e in
      longer x y xs ys (same_atom_is x y a.0) (same_atoms_are xs ys a.1)

  pub same_conjunct_is : (x y : Conjunct T) → same_conjunct same x y ≡ true → x ≡ y
  same_conjunct_is x y e =
      let a = both (same_atom same x.positive y.positive) (same_atoms same x.negatives y.negatives) e in
      conjunct_made x.positive y.positive x.negatives y.negatives (same_atom_is x.positive y.positive a.0) (same_atoms_are x.negatives y.negatives a.1)

  pub same_conjuncts_are : (xs ys : List (Conjunct T)) → same_conjuncts same xs ys ≡ true → xs ≡ ys
  same_conjuncts_are [] [] e = refl
  same_conjuncts_are [] (y ∷ ys) e = absurd (false≢true e)
  same_conjuncts_are (x ∷ xs) [] e = absurd (false≢true e)
  same_conjuncts_are (x ∷ xs) (y ∷ ys) e =
      let a = both (same_conjunct same x y) (same_conjuncts same xs ys) e in
      longer x y xs ys (same_conjunct_is x y a.0) (same_conjuncts_are xs ys a.1)

pub same_term_is : (x y : ℕ) → same_term x y ≡ true → x ≡ y
same_term_is x y e = eqb-true x y e

-- ---- each is the same as itself

number_self : (n : ℕ) → (n == n) ≡ true
number_self n = eq-eqb n n refl

signed_self : (s : Signed ℕ) → same_signed same_term s s ≡ true
signed_self s = all_so (same_term s.term s.term) (signed_as s.up s.up && signed_as s.inside s.inside) (number_self s.term) (all_so (signed_as s.up s.up) (signed_as s.inside s.inside) (sign_self s.up) (sign_self s.inside))

terms_self : (ss : List (Signed ℕ)) → same_terms same_term ss ss ≡ true
terms_self [] = refl
terms_self (s ∷ ss) = all_so (same_signed same_term s s) (same_terms same_term ss ss) (signed_self s) (terms_self ss)

parts_self : (fs : List (List ℕ × Part ℕ)) → same_fields same_term fs fs ≡ true
parts_self [] = refl
parts_self (f ∷ fs) =
    all_so (bytes_eq f.0 f.0) (same_terms same_term f.1.terms f.1.terms && same_fields same_term fs fs) (bytes_self f.0)
    (all_so (same_terms same_term f.1.terms f.1.terms) (same_fields same_term fs fs) (terms_self f.1.terms) (parts_self fs))

atom_self : (a : Atom ℕ) → same_atom same_term a a ≡ true
atom_self atom.Null = refl
atom_self atom.Bool = refl
atom_self atom.Int = refl
atom_self (atom.Array p) = terms_self p.terms
atom_self (atom.Record fs) = parts_self fs
atom_self atom.AnyRecord = refl

atoms_self : (xs : List (Atom ℕ)) → same_atoms same_term xs xs ≡ true
atoms_self [] = refl
atoms_self (a ∷ more) = all_so (same_atom same_term a a) (same_atoms same_term more more) (atom_self a) (atoms_self more)

conjunct_self : (c : Conjunct ℕ) → same_conjunct same_term c c ≡ true
conjunct_self c = all_so (same_atom same_term c.positive c.positive) (same_atoms same_term c.negatives c.negatives) (atom_self c.positive) (atoms_self c.negatives)

conjuncts_self : (cs : List (Conjunct ℕ)) → same_conjuncts same_term cs cs ≡ true
conjuncts_self [] = refl
conjuncts_self (c ∷ cs) = all_so (same_conjunct same_term c c) (same_conjuncts same_term cs cs) (conjunct_self c) (conjuncts_self cs)

numbers_self : (fs : List (List ℕ × ℕ)) → same_numbers fs fs ≡ true
numbers_self [] = refl
numbers_self (f ∷ fs) = all_so (bytes_eq f.0 f.0) ((f.1 == f.1) && same_numbers fs fs) (bytes_self f.0) (all_so (f.1 == f.1) (same_numbers fs fs) (number_self f.1) (numbers_self fs))

pub node_self : (n : Node) → same_node n n ≡ true
node_self n =
    all_so (form_of n == form_of n) ((left_of n == left_of n) && ((right_of n == right_of n) && (same_numbers (fields_of n) (fields_of n) && same_conjuncts same_term (conjuncts_of n) (conjuncts_of n)))) (number_self (form_of n))
    (all_so (left_of n == left_of n) ((right_of n == right_of n) && (same_numbers (fields_of n) (fields_of n) && same_conjuncts same_term (conjuncts_of n) (conjuncts_of n))) (number_self (left_of n))
    (all_so (right_of n == right_of n) (same_numbers (fields_of n) (fields_of n) && same_conjuncts same_term (conjuncts_of n) (conjuncts_of n)) (number_self (right_of n))
    (all_so (same_numbers (fields_of n) (fields_of n)) (same_conjuncts same_term (conjuncts_of n) (conjuncts_of n)) (numbers_self (fields_of n)) (conjuncts_self (conjuncts_of n)))))

-- ---- the same node is equal

field_is : (m n : List ℕ) (s t : ℕ) → m ≡ n → s ≡ t → (let x : List ℕ × ℕ = (m, s) in let y : List ℕ × ℕ = (n, t) in x ≡ y)
field_is m n s t e f = λ k. (e k, f k)

numbers_are : (xs ys : List (List ℕ × ℕ)) → same_numbers xs ys ≡ true → xs ≡ ys
numbers_are [] [] e = refl
numbers_are [] (y ∷ ys) e = absurd (false≢true e)
numbers_are (x ∷ xs) [] e = absurd (false≢true e)
numbers_are (x ∷ xs) (y ∷ ys) e =
    let a = both (bytes_eq x.0 y.0) ((x.1 == y.1) && same_numbers xs ys) e in
    let b = both (x.1 == y.1) (same_numbers xs ys) a.1 in
    longer x y xs ys (field_is x.0 y.0 x.1 y.1 (bytes_are x.0 y.0 a.0) (eqb-true x.1 y.1 b.0)) (numbers_are xs ys b.1)

-- the node with this form and these parts
abbrev made : ℕ → ℕ → ℕ → List (List ℕ × ℕ) → List (Conjunct ℕ) → Node
made zero l r fs cs = node.Null
made (suc zero) l r fs cs = node.Bool
made (suc (suc zero)) l r fs cs = node.Int
made (suc (suc (suc zero))) l r fs cs = node.Any
made (suc (suc (suc (suc zero)))) l r fs cs = node.Void
made (suc (suc (suc (suc (suc zero))))) l r fs cs = node.Record fs
made (suc (suc (suc (suc (suc (suc zero)))))) l r fs cs = node.Array l
made (suc (suc (suc (suc (suc (suc (suc zero))))))) l r fs cs = node.Union l r
made (suc (suc (suc (suc (suc (suc (suc (suc zero)))))))) l r fs cs = node.Inter l r
made (suc (suc (suc (suc (suc (suc (suc (suc (suc zero))))))))) l r fs cs = node.Not l
made (suc (suc (suc (suc (suc (suc (suc (suc (suc (suc zero)))))))))) l r fs cs = node.Named l
made (suc (suc (suc (suc (suc (suc (suc (suc (suc (suc (suc n))))))))))) l r fs cs = node.Normal cs

made_of : (n : Node) → made (form_of n) (left_of n) (right_of n) (fields_of n) (conjuncts_of n) ≡ n
made_of node.Null = refl
made_of node.Bool = refl
made_of node.Int = refl
made_of node.Any = refl
made_of node.Void = refl
made_of (node.Record fs) = refl
made_of (node.Array t) = refl
made_of (node.Union a b) = refl
made_of (node.Inter a b) = refl
made_of (node.Not a) = refl
made_of (node.Named n) = refl
made_of (node.Normal cs) = refl

pub node_is : (m n : Node) → same_node m n ≡ true → m ≡ n
node_is m n e =
    let a = both (form_of m == form_of n) ((left_of m == left_of n) && ((right_of m == right_of n) && (same_numbers (fields_of m) (fields_of n) && same_conjuncts same_term (conjuncts_of m) (conjuncts_of n)))) e in
    let b = both (left_of m == left_of n) ((right_of m == right_of n) && (same_numbers (fields_of m) (fields_of n) && same_conjuncts same_term (conjuncts_of m) (conjuncts_of n))) a.1 in
    let c = both (right_of m == right_of n) (same_numbers (fields_of m) (fields_of n) && same_conjuncts same_term (conjuncts_of m) (conjuncts_of n)) b.1 in
    let d = both (same_numbers (fields_of m) (fields_of n)) (same_conjuncts same_term (conjuncts_of m) (conjuncts_of n)) c.1 in
    let form = eqb-true (form_of m) (form_of n) a.0 in
    let left = eqb-true (left_of m) (left_of n) b.0 in
    let right = eqb-true (right_of m) (right_of n) c.0 in
    let fields = numbers_are (fields_of m) (fields_of n) d.0 in
    let conjuncts = same_conjuncts_are same_term same_term_is (conjuncts_of m) (conjuncts_of n) d.1 in
    sym (made_of m) ∙ (λ k. made (form k) (left k) (right k) (fields k) (conjuncts k)) ∙ made_of n

-- ---- the test is an equivalence

one_way : (a b : Bool) → (a ≡ true → b ≡ true) → (b ≡ true → a ≡ true) → a ≡ b
one_way true b f g = sym (f refl)
one_way false true f g = g refl
one_way false false f g = refl

whole : (x y : Node) → x ≡ y → same_node x y ≡ true
whole x y e = subst (λ (z : Node). same_node x z ≡ true) e (node_self x)

pub node_equiv : IsEquivalence same_node
node_equiv = record {
  refl = node_self;
  symm = λ x y. one_way (same_node x y) (same_node y x) (λ e. whole y x (sym (node_is x y e))) (λ e. whole x y (sym (node_is y x e)));
  congr = λ x y z e. ap (λ (w : Node). same_node w z) (node_is x y e);
}

-- so what is the same has one hash
pub one_hash : (m n : Node) → same_node m n ≡ true → hash_input m ≡ hash_input n
one_hash m n e = ap hash_input (node_is m n e)
