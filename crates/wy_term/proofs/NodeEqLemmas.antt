-- The derived comparison of nodes compares their plain data.
use Rattle.std.proofs.Common.{◌≡◌, ℕ, List, [], ◌∷◌, Bool, true, false, eqb, ◌&&◌, refl, sym, ap, map, ◌∙◌}
use lib.Pointwise.{pointwise}
use Rattle.std.specs.Prelude.{bytes_eq}
use Rattle.wy_value.proofs.wy_lemmas_proofs.Choices.{both_parts as both}
use Rattle.wy_value.proofs.wy_lemmas_proofs.Lists.{bytes_self, bytes_are}
use Rattle.wy_term.specs.contracts.node.NodePartialEq.TheImpl.{eq-value}
use Rattle.wy_term.specs.contracts.node.KindPartialEq.TheImpl as kind_eq
use Rattle.wy_term.specs.declared.node.Node.{Node}
use Rattle.wy_term.specs.declared.node.Node.TheVariants as node
use Rattle.wy_term.specs.declared.node.Kind.{Kind}
use Rattle.wy_term.specs.declared.node.Kind.TheVariants as kind
use Rattle.wy_term.specs.Term.{Symbol}
use Rattle.wy_term.specs.Same.{same_names, same_kind, same_symbol}
use Rattle.wy_term.specs.Nodes.{Plain, of, plain_kind, plain, same_plain}
use Rattle.wy_term.proofs.SameLemmas.{symbols_are, symbols_self}

-- ---- tests in another order

last : (x : Bool) → x ≡ (x && true)
last true = refl
last false = refl

second : (x y : Bool) → (x && y) ≡ (x && (y && true))
second true y = last y
second false y = refl

third : (x y z : Bool) → (x && (y && z)) ≡ (x && (y && (z && true)))
third true y z = second y z
third false y z = refl

turned : (x y : Bool) → (x && y) ≡ (y && (x && true))
turned true true = refl
turned true false = refl
turned false true = refl
turned false false = refl

middle : (x y z : Bool) → (x && (y && z)) ≡ (y && (x && (z && true)))
middle true true z = last z
middle true false z = refl
middle false true z = refl
middle false false z = refl

bound : (x n f b g : Bool) → (x && (n && (f && (b && g)))) ≡ ((x && n) && (f && (b && (g && true))))
bound true true f b g = third f b g
bound true false f b g = refl
bound false n f b g = refl

crossed : (a b c d : Bool) → ((a && b) && (c && d)) ≡ ((a && c) && (b && d))
crossed true true c d = refl
crossed true false true d = refl
crossed true false false d = refl
crossed false b c d = refl

-- ---- lists and kinds

pub names_by_pairs : (ns ms : List (List ℕ)) → pointwise {A = List ℕ} {B = List ℕ} bytes_eq ns ms ≡ same_names ns ms
names_by_pairs [] [] = refl
names_by_pairs [] (m ∷ ms) = refl
names_by_pairs (n ∷ ns) [] = refl
names_by_pairs (n ∷ ns) (m ∷ ms) = ap (λ (b : Bool). bytes_eq n m && b) (names_by_pairs ns ms)

fields_apart : (fs gs : List (List ℕ × ℕ)) → pointwise {A = List ℕ × ℕ} {B = List ℕ × ℕ} (λ x y. bytes_eq x.0 y.0 && eqb x.1 y.1) fs gs ≡ (same_names (map (λ p. p.0) fs) (map (λ p. p.0) gs) && bytes_eq (map (λ p. p.1) fs) (map (λ p. p.1) gs))
fields_apart [] [] = refl
fields_apart [] (g ∷ gs) = refl
fields_apart (f ∷ fs) [] = refl
fields_apart (f ∷ fs) (g ∷ gs) =
    ap (λ (b : Bool). (bytes_eq f.0 g.0 && eqb f.1 g.1) && b) (fields_apart fs gs)
    ∙ crossed (bytes_eq f.0 g.0) (eqb f.1 g.1) (same_names (map (λ p. p.0) fs) (map (λ p. p.0) gs)) (bytes_eq (map (λ p. p.1) fs) (map (λ p. p.1) gs))

kind_eq_is : (k l : Kind) → kind_eq.eq-value.it k l ≡ same_kind (plain_kind k) (plain_kind l)
kind_eq_is (kind.Record fs) (kind.Record gs) = names_by_pairs fs.items gs.items
kind_eq_is kind.Null kind.Null = refl
kind_eq_is kind.Bool kind.Bool = refl
kind_eq_is kind.Int kind.Int = refl
kind_eq_is kind.Array kind.Array = refl
kind_eq_is k l = refl

-- ---- nodes

eq_is : (a b : Node) → eq-value.it a b ≡ same_plain (plain a) (plain b)
eq_is (node.Number z) (node.Number y) = last _
eq_is (node.IntName x m) (node.IntName y n) = last _
eq_is (node.Add s t) (node.Add u v) = second (eqb s u) (eqb t v)
eq_is (node.Sub s t) (node.Sub u v) = second (eqb s u) (eqb t v)
eq_is (node.Neg s) (node.Neg u) = last _
eq_is (node.Mul s t) (node.Mul u v) = second (eqb s u) (eqb t v)
eq_is (node.Div s t) (node.Div u v) = second (eqb s u) (eqb t v)
eq_is (node.Mod s t) (node.Mod u v) = second (eqb s u) (eqb t v)
eq_is (node.Num s) (node.Num u) = last _
eq_is (node.Len s) (node.Len u) = last _
eq_is (node.ValName x m) (node.ValName y n) = last _
eq_is (node.Bool a) (node.Bool b) = last _
eq_is (node.Int s) (node.Int u) = last _
eq_is (node.Truth s) (node.Truth u) = last _
eq_is (node.Repeat s t) (node.Repeat u v) = second (eqb s u) (eqb t v)
eq_is (node.Update s t w) (node.Update u v x) = third (eqb s u) (eqb t v) (eqb w x)
eq_is (node.Get s t) (node.Get u v) = second (eqb s u) (eqb t v)
eq_is (node.Record fs) (node.Record gs) = fields_apart fs.items gs.items
eq_is (node.Field v n) (node.Field w m) = turned (eqb v w) (bytes_eq n m)
eq_is (node.SetField v n w) (node.SetField u m x) = middle (eqb v u) (bytes_eq n m) (eqb w x)
eq_is (node.AtMost s t) (node.AtMost u v) = second (eqb s u) (eqb t v)
eq_is (node.Equal s t) (node.Equal u v) = second (eqb s u) (eqb t v)
eq_is (node.Kind v k) (node.Kind w l) = ap (λ (b : Bool). eqb v w && b) (kind_eq_is k l) ∙ turned (eqb v w) (same_kind (plain_kind k) (plain_kind l))
eq_is (node.In v m) (node.In w n) = turned (eqb v w) (eqb m n)
eq_is (node.All q) (node.All r) = bound (bytes_eq q.word r.word) (eqb q.number r.number) (eqb q.from r.from) (eqb q.below r.below) (eqb q.body r.body)
eq_is (node.Some q) (node.Some r) = bound (bytes_eq q.word r.word) (eqb q.number r.number) (eqb q.from r.from) (eqb q.below r.below) (eqb q.body r.body)
eq_is (node.Not f) (node.Not g) = last _
eq_is node.Null node.Null = refl
eq_is (node.Array vs) (node.Array ws) = refl
eq_is (node.And fs) (node.And gs) = refl
eq_is (node.Or fs) (node.Or gs) = refl
eq_is a b = refl

-- ---- plain data

made_same : (a b : Symbol) (ps qs : List ℕ) → a ≡ b → ps ≡ qs → of a ps ≡ of b qs
made_same a b ps qs e f = cc

pub plain_self : (p : Plain) → same_plain p p ≡ true
plain_self p = rw (symbols_self p.symbol, bytes_self p.parts) refl

pub plain_are : (p q : Plain) → same_plain p q ≡ true → p ≡ q
plain_are p q e =
    let h = both (same_symbol p.symbol q.symbol) (bytes_eq p.parts q.parts) e in
    made_same p.symbol q.symbol p.parts q.parts (symbols_are p.symbol q.symbol h.0) (bytes_are p.parts q.parts h.1)

-- nodes that compare as equal have the same plain data
pub nodes_are : (a b : Node) → eq-value.it a b ≡ true → plain a ≡ plain b
nodes_are a b e = plain_are (plain a) (plain b) (sym (eq_is a b) ∙ e)

-- nodes with the same plain data compare as equal
pub nodes_compare : (a b : Node) → plain a ≡ plain b → eq-value.it a b ≡ true
nodes_compare a b e = eq_is a b ∙ ap (λ (p : Plain). same_plain (plain a) p) (sym e) ∙ plain_self (plain a)
