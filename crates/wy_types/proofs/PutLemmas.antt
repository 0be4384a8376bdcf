-- A node that is put into a list stands there once; a type that is put in has a number that stands for it.
use Rattle.std.proofs.Common.{◌≡◌, ℕ, zero, suc, ◌+◌, List, [], ◌∷◌, ◌++◌, length, Bool, true, false, cond, not, ◌||◌, Some, refl, sym, ap, subst, ◌∙◌, arith, inl, inr}
use Rattle.std.specs.Prelude.{slice_get}
use Rattle.std.specs.List.{list_any}
use Rattle.wy_core.proofs.wy_lemmas_proofs.Choices.{or_false}
use Rattle.wy_core.proofs.wy_lemmas_proofs.Lists.{get_front, last_or}
use Rattle.wy_core.proofs.wy_lemmas_proofs.Options.{some_one as some_is}
use Rattle.wy_types.specs.declared.table.Node.{Node}
use Rattle.wy_types.specs.Nodes.{same_node, place_of, AreOnce, IsAfterParts, AreGrounded}
use Rattle.wy_types.specs.Numbering.{put}
use Rattle.wy_types.specs.Standing.{Grows}
use Rattle.wy_types.specs.NodeLaws.{node_is, node_self}

-- ---- places

-- ---- a node that is looked for

found_at : (n : Node) (ns : List Node) → list_any (same_node n) ns ≡ true → slice_get ns (place_of ns n) ≡ Some n
unfolding place_of
found_at n [] e = absurd cc
found_at n (m ∷ ns) e = here (same_node n m) refl e (found_at n ns)
  where
    here : (b : Bool) → same_node n m ≡ b → (b || list_any (same_node n) ns) ≡ true → (list_any (same_node n) ns ≡ true → slice_get ns (place_of ns n) ≡ Some n) → slice_get (m ∷ ns) (cond (not b) (1 + place_of ns n) 0) ≡ Some n
    here true t e rest = ap Some (sym (node_is n m t))
    here false t e rest = let s : 1 + place_of ns n ≡ suc (place_of ns n) = omega arith in rw s (rest e)

found_nowhere : (n : Node) (ns : List Node) → list_any (same_node n) ns ≡ false → (i : ℕ) → slice_get ns i ≡ Some n → ⊥
found_nowhere n [] e i at = absurd cc
found_nowhere n (m ∷ ns) e zero at =
    let same : m ≡ n = some_is (Some m) m n refl at in
    let whole : same_node n m ≡ true = subst (λ (x : Node). same_node n x ≡ true) (sym same) (node_self n) in
    let apart = or_false (same_node n m) (list_any (same_node n) ns) e in
    cc
found_nowhere n (m ∷ ns) e (suc i) at = found_nowhere n ns (or_false (same_node n m) (list_any (same_node n) ns) e).1 i at

last_place : (n : Node) (ns : List Node) → list_any (same_node n) ns ≡ false → slice_get (ns ++ n ∷ []) (place_of ns n) ≡ Some n
unfolding place_of
last_place n [] e = refl
last_place n (m ∷ ns) e =
    let apart = or_false (same_node n m) (list_any (same_node n) ns) e in
    here (same_node n m) apart.0 (last_place n ns apart.1)
  where
    here : (b : Bool) → b ≡ false → slice_get (ns ++ n ∷ []) (place_of ns n) ≡ Some n → slice_get (m ∷ (ns ++ n ∷ [])) (cond (not b) (1 + place_of ns n) 0) ≡ Some n
    here true e rest = absurd cc
    here false e rest = let s : 1 + place_of ns n ≡ suc (place_of ns n) = omega arith in rw s rest

-- ---- a node that is put in

once_push : (ns : List Node) (n : Node) → ((i : ℕ) → slice_get ns i ≡ Some n → ⊥) → AreOnce ns → AreOnce (ns ++ n ∷ [])
once_push ns n nowhere once i j m at_i at_j = elim (last_or ns n m i at_i) as (λ _. i ≡ j) [
  | inl a ↦ elim (last_or ns n m j at_j) as (λ _. i ≡ j) [
    | inl b ↦ once i j m a b
    | inr b ↦ absurd (nowhere i (subst (λ (x : Node). slice_get ns i ≡ Some x) (sym b.1) a))
  ]
  | inr a ↦ elim (last_or ns n m j at_j) as (λ _. i ≡ j) [
    | inl b ↦ absurd (nowhere j (subst (λ (x : Node). slice_get ns j ≡ Some x) (sym a.1) b))
    | inr b ↦ a.0 ∙ sym b.0
  ]
]

grounded_push : (ns : List Node) (n : Node) → IsAfterParts (length ns) n → AreGrounded ns → AreGrounded (ns ++ n ∷ [])
grounded_push ns n after grounded i m at = elim (last_or ns n m i at) as (λ _. IsAfterParts i m) [
  | inl a ↦ grounded i m a
  | inr b ↦ subst (λ (x : Node). IsAfterParts i x) b.1 (subst (λ (j : ℕ). IsAfterParts j n) (sym b.0) after)
]

pub same_grows : (ns : List Node) → Grows ns ns
same_grows ns = record { keeps = λ i x e. e; once = λ e. e; grounded = λ e. e }

pub grows_more : (xs ys zs : List Node) → Grows xs ys → Grows ys zs → Grows xs zs
grows_more xs ys zs f g = record { keeps = λ i x e. g.keeps i x (f.keeps i x e); once = λ e. g.once (f.once e); grounded = λ e. g.grounded (f.grounded e) }

grown_by : (ns : List Node) (n : Node) → IsAfterParts (length ns) n → (b : Bool) → list_any (same_node n) ns ≡ b → Grows ns (cond b ns (ns ++ n ∷ []))
grown_by ns n after true e = same_grows ns
grown_by ns n after false e = record { keeps = λ i x a. get_front ns (n ∷ []) i x a; once = once_push ns n (found_nowhere n ns e); grounded = grounded_push ns n after }

pub put_grows : (ns : List Node) (n : Node) → IsAfterParts (length ns) n → Grows ns (put ns n).0
put_grows ns n after = grown_by ns n after (list_any (same_node n) ns) refl

placed_by : (ns : List Node) (n : Node) (b : Bool) → list_any (same_node n) ns ≡ b → slice_get (cond b ns (ns ++ n ∷ [])) (place_of ns n) ≡ Some n
placed_by ns n true e = found_at n ns e
placed_by ns n false e = last_place n ns e

pub put_at : (ns : List Node) (n : Node) → slice_get (put ns n).0 (put ns n).1 ≡ Some n
put_at ns n = placed_by ns n (list_any (same_node n) ns) refl
