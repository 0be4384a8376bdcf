-- A node that is put into a set of nodes stands there once: where it stood, or last.
use Rattle.std.proofs.Common.{◌≡◌, ℕ, zero, suc, ◌+◌, ◌<◌, List, [], ◌∷◌, ◌++◌, length, get_or, map, Bool, true, false, cond, not, ◌||◌, pos, refl, sym, ap, ◌∙◌, subst, arith, length-append, inl, inr, ◌⊎◌}
use Rattle.std.specs.List.{list_any, position_or_len}
use Rattle.std.proofs.lemmas.List.{get_or_append_left, map-append, append-nil}
use Rattle.std.proofs.Math.Seq.{get_or-append_seam}
use Rattle.wy_value.proofs.wy_lemmas_proofs.Choices.{or_false}
use Rattle.wy_term.specs.contracts.node.NodePartialEq.TheImpl.{eq-value}
use Rattle.wy_term.specs.declared.node.Node.{Node}
use Rattle.wy_term.specs.Term as term
use Rattle.wy_term.specs.Nodes.{Plain, of, plain, node_at, HasPartsBelow, AreDistinct, AreNodes, Extends, Adds}
use Rattle.wy_term.proofs.NodesLemmas.{AreGrounded-push}
use Rattle.wy_term.proofs.NodeEqLemmas.{nodes_are, nodes_compare}

abbrev test_of : Node → Node → Bool
test_of n = λ m. eq-value.it n m

behind : (p : Plain) (ps : List Plain) (k : ℕ) → node_at (p ∷ ps) (1 + k) ≡ node_at ps k
behind p ps k = let e : 1 + k ≡ suc k = omega arith in ap (node_at (p ∷ ps)) e

-- a node that is found stands at its place
found_at : (n : Node) (ks : List Node) → list_any (test_of n) ks ≡ true → (position_or_len (test_of n) ks < length (map plain ks)) × (node_at (map plain ks) (position_or_len (test_of n) ks) ≡ plain n)
found_at n [] e = absurd cc
found_at n (k ∷ ks) e = here (test_of n k) refl e (λ any. found_at n ks any)
  where
    here : (b : Bool) → test_of n k ≡ b → (b || list_any (test_of n) ks) ≡ true → (list_any (test_of n) ks ≡ true → (position_or_len (test_of n) ks < length (map plain ks)) × (node_at (map plain ks) (position_or_len (test_of n) ks) ≡ plain n)) → (cond (not b) (1 + position_or_len (test_of n) ks) 0 < suc (length (map plain ks))) × (node_at (plain k ∷ map plain ks) (cond (not b) (1 + position_or_len (test_of n) ks) 0) ≡ plain n)
    here true t any rest = (omega arith, sym (nodes_are n k t))
    here false t any rest = (omega (arith, (rest any).0), behind (plain k) (map plain ks) (position_or_len (test_of n) ks) ∙ (rest any).1)

-- a node that isn't found stands nowhere
found_nowhere : (n : Node) (ks : List Node) → list_any (test_of n) ks ≡ false → (k : ℕ) → k < length (map plain ks) → node_at (map plain ks) k ≡ plain n → ⊥
found_nowhere n [] e k inside same = omega arith
found_nowhere n (m ∷ ks) e zero inside same =
    let other = or_false (test_of n m) (list_any (test_of n) ks) e in
    let equal = nodes_compare n m (sym same) in
    cc
found_nowhere n (m ∷ ks) e (suc k) inside same = found_nowhere n ks (or_false (test_of n m) (list_any (test_of n) ks) e).1 k (omega arith) same

-- and its place is behind all
last_place : (n : Node) (ks : List Node) → list_any (test_of n) ks ≡ false → position_or_len (test_of n) ks ≡ length (map plain ks)
last_place n [] e = refl
last_place n (m ∷ ks) e =
    let apart = or_false (test_of n m) (list_any (test_of n) ks) e in
    here (test_of n m) apart.0 (last_place n ks apart.1)
  where
    here : (b : Bool) → b ≡ false → position_or_len (test_of n) ks ≡ length (map plain ks) → cond (not b) (1 + position_or_len (test_of n) ks) 0 ≡ suc (length (map plain ks))
    here true e rest = absurd cc
    here false e rest = omega (arith, rest)

-- ---- plain data with one more

below_or_last : (n s : ℕ) → s < suc n → (s < n) ⊎ (s ≡ n)
below_or_last zero zero lt = inr refl
below_or_last zero (suc s) lt = absurd (omega arith)
below_or_last (suc n) zero lt = inl (omega arith)
below_or_last (suc n) (suc s) lt = elim (below_or_last n s (omega arith)) as (λ _. (suc s < suc n) ⊎ (suc s ≡ suc n)) [ inl b ↦ inl (omega arith) | inr e ↦ inr (ap suc e) ]

at_older : (ns : List Plain) (p : Plain) (s : ℕ) → s < length ns → node_at (ns ++ p ∷ []) s ≡ node_at ns s
at_older ns p s lt = get_or_append_left ns (p ∷ []) (of (term.number (pos 0)) []) s lt

at_last : (ns : List Plain) (p : Plain) (s : ℕ) → s ≡ length ns → node_at (ns ++ p ∷ []) s ≡ p
at_last ns p s e = ap (node_at (ns ++ p ∷ [])) e ∙ get_or-append_seam ns p [] (of (term.number (pos 0)) [])

AreDistinct-push : (ns : List Plain) (p : Plain) → AreDistinct ns → ((k : ℕ) → k < length ns → node_at ns k ≡ p → ⊥) → AreDistinct (ns ++ p ∷ [])
AreDistinct-push ns p distinct nowhere s t in_s in_t same = elim (below_or_last (length ns) s (omega (arith, length-append ns (p ∷ [])))) as (λ _. s ≡ t) [
  | inl below_s ↦ elim (below_or_last (length ns) t (omega (arith, length-append ns (p ∷ [])))) as (λ _. s ≡ t) [
    | inl below_t ↦ distinct s t below_s below_t (sym (at_older ns p s below_s) ∙ same ∙ at_older ns p t below_t)
    | inr last_t ↦ absurd (nowhere s below_s (sym (at_older ns p s below_s) ∙ same ∙ at_last ns p t last_t))
  ]
  | inr last_s ↦ elim (below_or_last (length ns) t (omega (arith, length-append ns (p ∷ [])))) as (λ _. s ≡ t) [
    | inl below_t ↦ absurd (nowhere t below_t (sym (at_older ns p t below_t) ∙ sym same ∙ at_last ns p s last_s))
    | inr last_t ↦ last_s ∙ sym last_t
  ]
]

AreNodes-push : (ns : List Plain) (p : Plain) → AreNodes ns → HasPartsBelow (length ns) p → ((k : ℕ) → k < length ns → node_at ns k ≡ p → ⊥) → AreNodes (ns ++ p ∷ [])
AreNodes-push ns p are below nowhere = record { grounded = AreGrounded-push 0 ns p are.grounded (λ k d lt. let at : get_or p.parts k d < length ns = below k d lt in omega (arith, at)); distinct = AreDistinct-push ns p are.distinct nowhere }

pub no_more : (ns : List Plain) → Extends ns ns
no_more ns = ([], sym (append-nil ns))

-- ---- a node that is put into a set

adds_either : (n : Node) (ks : List Node) (b : Bool) → list_any (test_of n) ks ≡ b → Adds (map plain ks) (map plain (cond b ks (ks ++ n ∷ []))) (plain n) (position_or_len (test_of n) ks)
adds_either n ks true any =
    let found = found_at n ks any in
    record { within = found.0; here = found.1; extends = no_more (map plain ks); nodes = λ are below. are }
adds_either n ks false any =
    let longer : map plain (ks ++ n ∷ []) ≡ map plain ks ++ plain n ∷ [] = map-append plain ks (n ∷ []) in
    let place = last_place n ks any in
    subst (λ (new : List Plain). Adds (map plain ks) new (plain n) (position_or_len (test_of n) ks)) (sym longer) (record {
      within = omega (arith, place, length-append (map plain ks) (plain n ∷ []));
      here = at_last (map plain ks) (plain n) (position_or_len (test_of n) ks) place;
      extends = (plain n ∷ [], refl);
      nodes = λ are below. AreNodes-push (map plain ks) (plain n) are below (found_nowhere n ks any);
    })

pub adds : (n : Node) (ks : List Node) → Adds (map plain ks) (map plain (cond (list_any (test_of n) ks) ks (ks ++ n ∷ []))) (plain n) (position_or_len (test_of n) ks)
adds n ks = adds_either n ks (list_any (test_of n) ks) refl

pub added_by : (n : Node) (ks new : List Node) (t : ℕ) → new ≡ cond (list_any (test_of n) ks) ks (ks ++ n ∷ []) → t ≡ position_or_len (test_of n) ks → Adds (map plain ks) (map plain new) (plain n) t
added_by n ks new t e place =
    subst (λ (k : ℕ). Adds (map plain ks) (map plain new) (plain n) k) (sym place) (subst (λ (ns : List Node). Adds (map plain ks) (map plain ns) (plain n) (position_or_len (test_of n) ks)) (sym e) (adds n ks))
