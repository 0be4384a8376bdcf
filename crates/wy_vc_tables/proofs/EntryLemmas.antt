-- What is told of entries is told of named types.
use Rattle.std.proofs.Common.{◌≡◌, ℕ, zero, suc, ◌+◌, Bool, not, ◌&&◌, ◌||◌, ◌==◌, nat_le, if◌then◌else◌, List, [], ◌∷◌, length, map, refl, ap, ◌∙◌, arith}
use Rattle.std.proofs.lemmas.List.{length-map}
use Rattle.wy_core.specs.CoreTree.{Expr, Alias}
use Rattle.wy_vc_spec.specs.wy_sem.TypeTests.{alias_at, has_clauses, mentions, is_constrained_name}
use Rattle.wy_vc_spec.specs.Named as named
use Rattle.wy_vc_spec.specs.Named.{alias_mentions, nodes_of_alias, nodes_of_ty, nodes_of_clauses, some_test_in}
use Rattle.wy_graph.specs.declared.reach.entries.Entry.{Entry}
use Rattle.wy_graph.specs.reach.Reach as reach
use Rattle.wy_graph.specs.reach.Reach.{entry_at, names_at, no_entry, nodes_of, some, sum_of}
use Rattle.wy_vc_tables.specs.Mentions.{with_ty, with_clauses, entry_of}
use Rattle.wy_vc_tables.proofs.MentionLemmas.{some_ty, some_clauses, sum_ty, sum_clauses}

-- ---- lists of names

some_same : (p q : ℕ → Bool) (ns : List ℕ) → ((m : ℕ) → p m ≡ q m) → some p ns ≡ some q ns
some_same p q [] same = refl
some_same p q (n ∷ ns) same = ap (λ (b : Bool). b || some p ns) (same n) ∙ ap (λ (b : Bool). q n || b) (some_same p q ns same)

sum_same : (f g : ℕ → ℕ) (ns : List ℕ) → ((m : ℕ) → f m ≡ g m) → sum_of f ns ≡ sum_of g ns
sum_same f g [] same = refl
sum_same f g (n ∷ ns) same = ap (λ (x : ℕ). x + sum_of f ns) (same n) ∙ ap (λ (x : ℕ). g n + x) (sum_same f g ns same)

-- ---- one named type

some_alias : {N : Type 0} (p : ℕ → Bool) (a : Alias N) → some p (entry_of a).names ≡ alias_mentions p a
some_alias p a = some_clauses p (with_ty [] a.ty) a.clauses ∙ ap (λ (b : Bool). b || some_test_in (mentions p) a.clauses) (some_ty p [] a.ty)

sum_alias : {N : Type 0} (f : ℕ → ℕ) (a : Alias N) → nodes_of f (entry_of a) ≡ nodes_of_alias f a
sum_alias f a =
    let h = sum_ty f [] a.ty in
    let g = sum_clauses f (with_ty [] a.ty) a.clauses in
    omega (arith, h, g)

clause_or : {N : Type 0} (p : ℕ → Bool) (ns : List ℕ) (es : List (Expr N)) → (has_clauses es || some p (with_clauses ns es)) ≡ (has_clauses es || some p ns)
clause_or p ns [] = refl
clause_or p ns (e ∷ es) = refl

-- clauses, or names in the definition alone
constrained_alias : {N : Type 0} (p : ℕ → Bool) (a : Alias N) → ((entry_of a).has_clauses || some p (entry_of a).names) ≡ (has_clauses a.clauses || mentions p a.ty)
constrained_alias p a = clause_or p (with_ty [] a.ty) a.clauses ∙ ap (λ (b : Bool). has_clauses a.clauses || b) (some_ty p [] a.ty)

pub entry_found : {N : Type 0} (types : List (Alias N)) (n : ℕ) → entry_at (map entry_of types) n ≡ entry_of (alias_at types n)
entry_found [] n = refl
entry_found (a ∷ types) zero = refl
entry_found (a ∷ types) (suc n) = entry_found types n

-- ---- all

leads_same : {N : Type 0} (types : List (Alias N)) (to j n : ℕ) → reach.leads_to (map entry_of types) to j n ≡ named.leads_to types to j n
leads_same types to zero n = refl
leads_same types to (suc j) n =
    some_same (λ m. (m == to) || reach.leads_to (map entry_of types) to j m) (λ m. (m == to) || named.leads_to types to j m) (names_at (map entry_of types) n) (λ m. ap (λ (b : Bool). (m == to) || b) (leads_same types to j m))
    ∙ (ap (λ (e : Entry). some (λ m. (m == to) || named.leads_to types to j m) e.names) (entry_found types n) ∙ some_alias (λ m. (m == to) || named.leads_to types to j m) (alias_at types n))

count_same : {N : Type 0} (types : List (Alias N)) → length (map entry_of types) ≡ length types
count_same types = length-map types entry_of

recursive_same : {N : Type 0} (types : List (Alias N)) (n : ℕ) → reach.is_recursive (map entry_of types) n ≡ named.is_recursive types n
recursive_same types n = leads_same types n (length (map entry_of types)) n ∙ ap (λ (k : ℕ). named.leads_to types n k n) (count_same types)

nodes_same : {N : Type 0} (types : List (Alias N)) (j n : ℕ) → reach.written_nodes (map entry_of types) j n ≡ named.written_nodes types j n
nodes_same types zero n = refl
nodes_same types (suc j) n =
    ap (λ (b : Bool). if b then 1 else nodes_of (reach.written_nodes (map entry_of types) j) (entry_at (map entry_of types) n)) (recursive_same types n)
    ∙ ap (λ (x : ℕ). if named.is_recursive types n then 1 else x)
    (ap (λ (x : ℕ). (entry_at (map entry_of types) n).own + x) (sum_same (reach.written_nodes (map entry_of types) j) (named.written_nodes types j) (names_at (map entry_of types) n) (λ m. nodes_same types j m))
    ∙ (ap (λ (e : Entry). nodes_of (named.written_nodes types j) e) (entry_found types n) ∙ sum_alias (named.written_nodes types j) (alias_at types n)))

pub written_same : {N : Type 0} (types : List (Alias N)) (n : ℕ) → reach.is_written (map entry_of types) n ≡ named.is_written types n
written_same types n =
    ap (λ (b : Bool). not b && nat_le (reach.written_nodes (map entry_of types) (suc (length (map entry_of types))) n) 64) (recursive_same types n)
    ∙ ap (λ (x : ℕ). not (named.is_recursive types n) && nat_le x 64) (nodes_same types (suc (length (map entry_of types))) n ∙ ap (λ (k : ℕ). named.written_nodes types (suc k) n) (count_same types))

reaches_same : {N : Type 0} (types : List (Alias N)) (j n : ℕ) → reach.reaches_clauses (map entry_of types) j n ≡ is_constrained_name types j n
reaches_same types zero n = refl
reaches_same types (suc j) n =
    ap (λ (b : Bool). (entry_at (map entry_of types) n).has_clauses || b) (some_same (reach.reaches_clauses (map entry_of types) j) (is_constrained_name types j) (names_at (map entry_of types) n) (λ m. reaches_same types j m))
    ∙ (ap (λ (e : Entry). e.has_clauses || some (is_constrained_name types j) e.names) (entry_found types n) ∙ constrained_alias (is_constrained_name types j) (alias_at types n))

pub constrained_same : {N : Type 0} (types : List (Alias N)) (n : ℕ) → reach.reaches_clauses (map entry_of types) (suc (length (map entry_of types))) n ≡ is_constrained_name types (suc (length types)) n
constrained_same types n = reaches_same types (suc (length (map entry_of types))) n ∙ ap (λ (k : ℕ). is_constrained_name types (suc k) n) (count_same types)
