-- Loops over fields, expressions and clauses: what was made and what is left are all.
use Rattle.std.proofs.Common.{◌≡◌, ◌<◌, ◌≤◌, ◌+◌, ℕ, List, [], ◌∷◌, ◌++◌, length, map, drop, take, get_or, refl, ◌∙◌, ap, subst, sym, append_assoc, arith}
use Rattle.std.proofs.lemmas.List.{append-nil, drop_all, drop_more, take_all, take_more, map_push}
use Rattle.std.proofs.lemmas.List.Elements.{All-nil, All-cons, All-append}
use Rattle.wy_core.specs.CoreTree.{exprs_of}
use Rattle.wy_core.specs.CoreSeen.{seen_ty, seen_expr, seen_exprs, seen_fields}
use Rattle.wy_core.specs.declared.types.Ty as rust
use Rattle.wy_core.specs.declared.expressions.Expr as e
use Rattle.wy_term.specs.Term.{Term}
use Rattle.wy_term.specs.Nodes.{Plain, tree_at}
use Rattle.wy_term.specs.Numbers.{IsAt}
use Rattle.wy_vc_tables.specs.wy_vc_spec.Numbered.{Node, numbered, numbered_all, numbered_fields, numbered_list}
use Rattle.wy_vc_tables.specs.wy_vc_spec.Sizes.{exprs_in, exprs_in_all, exprs_in_fields}
use Rattle.wy_vc_tables.specs.wy_vc_spec.Making as made
use Rattle.wy_vc_tables.specs.wy_vc_spec.Values.{Setting, Naming, ValuedAll, valued, valued_all, holds, fields_hold, value, values, field_values, field_names, clause_formulas}
use Rattle.wy_vc_tables.specs.wy_vc_spec.Variables.{Vars}
use Rattle.wy_vc_operations.specs.Growing.{Kept, Makes, AreAt, AreBelow}
use Rattle.wy_vc_operations.proofs.GrowingLemmas.{kept_on, onward, all_kept, none_at, more_at, below_on, below_head, below_tail}
use Rattle.wy_vc_terms.specs.Made.{IsMadeAt, AreMade, IsUnderway}
use Rattle.wy_vc_terms.specs.Wholes.{tys_of}

-- ---- lists

pub at_item : {A : Type 0} (P : List A → Type 0) (xs : List A) (i : ℕ) (x : A) → i < length xs → x ≡ get_or xs i x → P (drop i xs) → P (x ∷ drop (i + 1) xs)
at_item P xs i x within is h = subst P (drop_more xs i x within ∙ ap (λ y. y ∷ drop (i + 1) xs) (sym is)) h

pub at_end : {A : Type 0} (P : List A → Type 0) (xs : List A) (i : ℕ) → length xs ≤ i → P (drop i xs) → P []
at_end P xs i over h = subst P (drop_all i xs over) h

-- one more term behind others
pub pushed_at : {ns : List Plain} (ks : List ℕ) (ts : List Term) {k : ℕ} {t : Term} → AreAt ns ks ts → IsAt ns k t → AreAt ns (ks ++ k ∷ []) (ts ++ t ∷ [])
pushed_at {ns} [] [] are at = more_at at (none_at ns)
pushed_at {ns} [] (t ∷ ts) are at = absurd (nothing are.are)
  where
    nothing : [] ≡ t ∷ ts → ⊥
    nothing h = cc
pushed_at {ns} (k ∷ ks) [] are at = absurd (something are.are)
  where
    something : tree_at ns k ∷ map (tree_at ns) ks ≡ [] → ⊥
    something h = cc
pushed_at {ns} (k ∷ ks) (t ∷ ts) are at =
    let h : tree_at ns k ∷ map (tree_at ns) ks ≡ t ∷ ts = are.are in
    let first : tree_at ns k ≡ t = cc in
    let rest : map (tree_at ns) ks ≡ ts = cc in
    more_at (record { within = below_head (length ns) k ks are.within; is = first }) (pushed_at ks ts (record { within = below_tail (length ns) k ks are.within; are = rest }) at)

-- ---- what is under way

-- nothing was made yet
pub begun : (ns : List Plain) (all : ValuedAll) → IsUnderway ns ns [] all all
begun ns all = record { done = []; terms = none_at ns; kept = record { grows = omega arith; trees = λ t lt. refl }; joined = refl; names = refl }

-- one was made
pub begun_with : {a b : List Plain} {k : ℕ} {t : Term} (left : ValuedAll) → Makes a b k t → IsUnderway a b (k ∷ []) left (valued_all left.count (t ∷ left.terms))
begun_with {a} {b} {k} {t} left m = record { done = t ∷ []; terms = more_at m.here (none_at b); kept = m.kept; joined = refl; names = refl }

-- one more is made
pub onward_with : {a b c : List Plain} {ks : List ℕ} {k n : ℕ} {t : Term} {ts : List Term} {all : ValuedAll} → IsUnderway a b ks (valued_all n (t ∷ ts)) all → Makes b c k t → IsUnderway a c (ks ++ k ∷ []) (valued_all n ts) all
onward_with {a} {b} {c} {ks} {k} {n} {t} {ts} {all} u m = record {
  done = u.done ++ t ∷ [];
  terms = pushed_at ks u.done (all_kept m.kept u.terms) m.here;
  kept = kept_on u.kept m.kept;
  joined = append_assoc u.done (t ∷ []) ts ∙ u.joined;
  names = u.names;
}

-- others were made meanwhile
pub onward_past : {a b c : List Plain} {ks : List ℕ} {left all : ValuedAll} → IsUnderway a b ks left all → Kept b c → IsUnderway a c ks left all
onward_past u k = record { done = u.done; terms = all_kept k u.terms; kept = kept_on u.kept k; joined = u.joined; names = u.names }

-- none is left
pub arrived : {a b : List Plain} {ks : List ℕ} {n : ℕ} {all : ValuedAll} → IsUnderway a b ks (valued_all n []) all → AreMade a b ks n all
arrived {a} {b} {ks} {n} {all} u = record {
  terms = subst (λ (ts : List Term). AreAt b ks ts) (sym (append-nil u.done) ∙ u.joined) u.terms;
  kept = u.kept;
  names = u.names;
}

-- ---- fields of a type

pub field_turn : (named : Naming) (t : Term) (n : ℕ) {old a b c : List Plain} {ks : List ℕ} {part r m : ℕ} {all : ValuedAll} (fields : List (List ℕ × rust.Ty)) (i : ℕ) (f : List ℕ × rust.Ty)
    → i < length fields → f ≡ get_or fields i f
    → IsUnderway old a ks (fields_hold named (tys_of (drop i fields)) t n) all
    → Makes a b part (made.field f.0 t) → IsMadeAt b c r m (holds named (seen_ty f.1) (made.field f.0 t) n)
    → IsUnderway old c (ks ++ r ∷ []) (fields_hold named (tys_of (drop (i + 1) fields)) t m) all
field_turn named t n {old} {a} {b} {c} {ks} {part} {r} {m} {all} fields i f within is u p h =
    let here = at_item (λ (l : List (List ℕ × rust.Ty)). IsUnderway old a ks (fields_hold named (tys_of l) t n) all) fields i f within is u in
    let next = onward_with (onward_past here p.kept) h.term in
    subst (λ (z : ℕ). IsUnderway old c (ks ++ r ∷ []) (fields_hold named (tys_of (drop (i + 1) fields)) t z) all) (sym h.names) next

pub fields_end : (named : Naming) (t : Term) {old a b : List Plain} {ks : List ℕ} {r n : ℕ} (all : ValuedAll) (fields : List (List ℕ × rust.Ty)) (i : ℕ)
    → length fields ≤ i → IsUnderway old a ks (fields_hold named (tys_of (drop i fields)) t n) all → (AreAt a ks all.terms → Makes a b r (made.all_of all.terms)) → IsMadeAt old b r n (valued all.count (made.all_of all.terms))
fields_end named t {old} {a} {b} {ks} {r} {n} all fields i over u m =
    let z : AreMade old a ks n all = arrived (at_end (λ (l : List (List ℕ × rust.Ty)). IsUnderway old a ks (fields_hold named (tys_of l) t n) all) fields i over u) in
    record { term = onward z.kept (m z.terms); names = z.names }

-- ---- expressions

pub value_turn : (s : Setting Node) (named : Naming) (words : List (List ℕ)) (vars : Vars) (n k : ℕ) {old a b : List Plain} {ks : List ℕ} {r m j : ℕ} {all : ValuedAll} (items : List e.Expr) (i : ℕ) (x : e.Expr)
    → i < length items → x ≡ get_or items i x
    → IsUnderway old a ks (values s named words (numbered_all (exprs_of (seen_exprs (drop i items))) k) vars n) all
    → IsMadeAt a b r m (value s named words (numbered (seen_expr x) k) vars n) → j ≡ k + exprs_in (seen_expr x)
    → IsUnderway old b (ks ++ r ∷ []) (values s named words (numbered_all (exprs_of (seen_exprs (drop (i + 1) items))) j) vars m) all
value_turn s named words vars n k {old} {a} {b} {ks} {r} {m} {j} {all} items i x within is u h numbered_so =
    let here = at_item (λ (l : List e.Expr). IsUnderway old a ks (values s named words (numbered_all (exprs_of (seen_exprs l)) k) vars n) all) items i x within is u in
    let next = onward_with here h.term in
    let named_so = subst (λ (z : ℕ). IsUnderway old b (ks ++ r ∷ []) (values s named words (numbered_all (exprs_of (seen_exprs (drop (i + 1) items))) (k + exprs_in (seen_expr x))) vars z) all) (sym h.names) next in
    subst (λ (z : ℕ). IsUnderway old b (ks ++ r ∷ []) (values s named words (numbered_all (exprs_of (seen_exprs (drop (i + 1) items))) z) vars m) all) (sym numbered_so) named_so

pub field_value_turn : (s : Setting Node) (named : Naming) (words : List (List ℕ)) (vars : Vars) (n k : ℕ) {old a b : List Plain} {ks : List ℕ} {r m j : ℕ} {all : ValuedAll} (items : List (List ℕ × e.Expr)) (i : ℕ) (x : List ℕ × e.Expr)
    → i < length items → x ≡ get_or items i x
    → IsUnderway old a ks (field_values s named words (numbered_fields (seen_fields (drop i items)) k) vars n) all
    → IsMadeAt a b r m (value s named words (numbered (seen_expr x.1) k) vars n) → j ≡ k + exprs_in (seen_expr x.1)
    → IsUnderway old b (ks ++ r ∷ []) (field_values s named words (numbered_fields (seen_fields (drop (i + 1) items)) j) vars m) all
field_value_turn s named words vars n k {old} {a} {b} {ks} {r} {m} {j} {all} items i x within is u h numbered_so =
    let here = at_item (λ (l : List (List ℕ × e.Expr)). IsUnderway old a ks (field_values s named words (numbered_fields (seen_fields l) k) vars n) all) items i x within is u in
    let next = onward_with here h.term in
    let named_so = subst (λ (z : ℕ). IsUnderway old b (ks ++ r ∷ []) (field_values s named words (numbered_fields (seen_fields (drop (i + 1) items)) (k + exprs_in (seen_expr x.1))) vars z) all) (sym h.names) next in
    subst (λ (z : ℕ). IsUnderway old b (ks ++ r ∷ []) (field_values s named words (numbered_fields (seen_fields (drop (i + 1) items)) z) vars m) all) (sym numbered_so) named_so

-- ---- clauses

pub clause_turn : (s : Setting Node) (named : Naming) (words : List (List ℕ)) (vars : Vars) (n k : ℕ) {old a b c : List Plain} {ks : List ℕ} {v r m j : ℕ} {all : ValuedAll} (items : List e.Expr) (i : ℕ) (x : e.Expr)
    → i < length items → x ≡ get_or items i x
    → IsUnderway old a ks (clause_formulas s named words (numbered_list (seen_exprs (drop i items)) k) vars n) all
    → IsMadeAt a b v m (value s named words (numbered (seen_expr x) k) vars n) → j ≡ k + exprs_in (seen_expr x)
    → Makes b c r (made.formula (value s named words (numbered (seen_expr x) k) vars n).term)
    → IsUnderway old c (ks ++ r ∷ []) (clause_formulas s named words (numbered_list (seen_exprs (drop (i + 1) items)) j) vars m) all
clause_turn s named words vars n k {old} {a} {b} {c} {ks} {v} {r} {m} {j} {all} items i x within is u h numbered_so f =
    let here = at_item (λ (l : List e.Expr). IsUnderway old a ks (clause_formulas s named words (numbered_list (seen_exprs l) k) vars n) all) items i x within is u in
    let next = onward_with (onward_past here h.term.kept) f in
    let named_so = subst (λ (z : ℕ). IsUnderway old c (ks ++ r ∷ []) (clause_formulas s named words (numbered_list (seen_exprs (drop (i + 1) items)) (k + exprs_in (seen_expr x))) vars z) all) (sym h.names) next in
    subst (λ (z : ℕ). IsUnderway old c (ks ++ r ∷ []) (clause_formulas s named words (numbered_list (seen_exprs (drop (i + 1) items)) z) vars m) all) (sym numbered_so) named_so

pub clauses_end : (s : Setting Node) (named : Naming) (words : List (List ℕ)) (vars : Vars) (k : ℕ) {old a b : List Plain} {ks : List ℕ} {r n : ℕ} (all : ValuedAll) (items : List e.Expr) (i : ℕ)
    → length items ≤ i → IsUnderway old a ks (clause_formulas s named words (numbered_list (seen_exprs (drop i items)) k) vars n) all → (AreAt a ks all.terms → Makes a b r (made.all_of all.terms)) → IsMadeAt old b r n (valued all.count (made.all_of all.terms))
clauses_end s named words vars k {old} {a} {b} {ks} {r} {n} all items i over u m =
    let z : AreMade old a ks n all = arrived (at_end (λ (l : List e.Expr). IsUnderway old a ks (clause_formulas s named words (numbered_list (seen_exprs l) k) vars n) all) items i over u) in
    record { term = onward z.kept (m z.terms); names = z.names }

pub values_end : (s : Setting Node) (named : Naming) (words : List (List ℕ)) (vars : Vars) (k : ℕ) {old a : List Plain} {ks : List ℕ} {n : ℕ} {all : ValuedAll} (items : List e.Expr) (i : ℕ)
    → length items ≤ i → IsUnderway old a ks (values s named words (numbered_all (exprs_of (seen_exprs (drop i items))) k) vars n) all → AreMade old a ks n all
values_end s named words vars k {old} {a} {ks} {n} {all} items i over u =
    arrived (at_end (λ (l : List e.Expr). IsUnderway old a ks (values s named words (numbered_all (exprs_of (seen_exprs l)) k) vars n) all) items i over u)

pub field_values_end : (s : Setting Node) (named : Naming) (words : List (List ℕ)) (vars : Vars) (k : ℕ) {old a : List Plain} {ks : List ℕ} {n : ℕ} {all : ValuedAll} (items : List (List ℕ × e.Expr)) (i : ℕ)
    → length items ≤ i → IsUnderway old a ks (field_values s named words (numbered_fields (seen_fields (drop i items)) k) vars n) all → AreMade old a ks n all
field_values_end s named words vars k {old} {a} {ks} {n} {all} items i over u =
    arrived (at_end (λ (l : List (List ℕ × e.Expr)). IsUnderway old a ks (field_values s named words (numbered_fields (seen_fields l) k) vars n) all) items i over u)

-- ---- names of fields

pub names_numbered : (fields : List (List ℕ × e.Expr)) (k : ℕ) → field_names (numbered_fields (seen_fields fields) k) ≡ field_names (seen_fields fields)
names_numbered [] k = refl
names_numbered (f ∷ fs) k = ap (λ (l : List (List ℕ)). f.0 ∷ l) (names_numbered fs (k + exprs_in (seen_expr f.1)))

-- ---- numbers of terms

pub below_pushed : (n m : ℕ) (ks : List ℕ) (k : ℕ) → n ≤ m → k < m → AreBelow n ks → AreBelow m (ks ++ k ∷ [])
below_pushed n m ks k h lt below = All-append (λ j. j < m) ks (k ∷ []) (below_on n m ks h below) (All-cons (λ j. j < m) k [] lt (All-nil (λ j. j < m)))

-- the number of the next expression, with those that are left, stays the number behind all
pub next_node : (items : List e.Expr) (i : ℕ) (x : e.Expr) → i < length items → x ≡ get_or items i x → (n m all : ℕ) → n + exprs_in_all (exprs_of (seen_exprs (drop i items))) ≡ all → m ≡ n + exprs_in (seen_expr x) → m + exprs_in_all (exprs_of (seen_exprs (drop (i + 1) items))) ≡ all
next_node items i x within is n m all so counted =
    let h : n + exprs_in_all (exprs_of (seen_exprs (x ∷ drop (i + 1) items))) ≡ all = at_item (λ (l : List e.Expr). n + exprs_in_all (exprs_of (seen_exprs l)) ≡ all) items i x within is so in
    omega (arith, h, counted)

pub next_field_node : (items : List (List ℕ × e.Expr)) (i : ℕ) (x : List ℕ × e.Expr) → i < length items → x ≡ get_or items i x → (n m all : ℕ) → n + exprs_in_fields (seen_fields (drop i items)) ≡ all → m ≡ n + exprs_in (seen_expr x.1) → m + exprs_in_fields (seen_fields (drop (i + 1) items)) ≡ all
next_field_node items i x within is n m all so counted =
    let h : n + exprs_in_fields (seen_fields (x ∷ drop (i + 1) items)) ≡ all = at_item (λ (l : List (List ℕ × e.Expr)). n + exprs_in_fields (seen_fields l) ≡ all) items i x within is so in
    omega (arith, h, counted)

-- the names so far, and one more
pub names_turn : (items : List (List ℕ × e.Expr)) (i : ℕ) (x : List ℕ × e.Expr) (name : List ℕ) (names : List (List ℕ)) → i < length items → x ≡ get_or items i x → name ≡ x.0 → names ≡ map (λ f. f.0) (take i items) → names ++ name ∷ [] ≡ map (λ f. f.0) (take (i + 1) items)
names_turn items i x name names within is named so =
    let more : take (i + 1) items ≡ take i items ++ x ∷ [] = take_more items i x within ∙ ap (λ (y : List ℕ × e.Expr). take i items ++ y ∷ []) (sym is) in
    ap (λ (l : List (List ℕ)). l ++ name ∷ []) so ∙ (ap (λ (n : List ℕ). map (λ f. f.0) (take i items) ++ n ∷ []) named ∙ (sym (map_push (λ (f : List ℕ × e.Expr). f.0) (take i items) x) ∙ ap (λ (l : List (List ℕ × e.Expr)). map (λ f. f.0) l) (sym more)))

names_seen : (items : List (List ℕ × e.Expr)) → map (λ f. f.0) items ≡ field_names (seen_fields items)
names_seen [] = refl
names_seen (f ∷ fs) = ap (λ (l : List (List ℕ)). f.0 ∷ l) (names_seen fs)

pub names_end : (items : List (List ℕ × e.Expr)) (i : ℕ) (names : List (List ℕ)) → length items ≤ i → names ≡ map (λ f. f.0) (take i items) → names ≡ field_names (seen_fields items)
names_end items i names over so = so ∙ (ap (λ (l : List (List ℕ × e.Expr)). map (λ f. f.0) l) (take_all i items over) ∙ names_seen items)
