-- The table of a question says of a datum what its types do, and is ranked.
use Rattle.std.proofs.Common.{◌≡◌, ℕ, zero, suc, List, [], ◌∷◌, length, Bool, Option, Some, None, refl, sym, ap, subst, ◌∙◌}
use Rattle.std.specs.Prelude.{slice_get, take}
use Rattle.wy_core.proofs.wy_lemmas_proofs.Options.{some_one as some_is}
use Rattle.wy_core.specs.wy_value.Datum.{Datum}
use Rattle.wy_core.specs.Types.{Ty}
use Rattle.wy_types.specs.declared.table.Node.{Node}
use Rattle.wy_types.specs.declared.table.Definition.{Definition}
use Rattle.wy_types.specs.declared.question.Question.{Question}
use Rattle.wy_types.specs.Names.{Declared, shape_of, is_in_ty, is_in_normal}
use Rattle.wy_types.specs.declared.conjuncts.Conjunct.{Conjunct}
use Rattle.wy_types.specs.Membership as terms
use Rattle.wy_types.specs.Membership.{member}
use Rattle.wy_types.specs.Shape.{any_in}
use Rattle.wy_types.specs.Reading.{ty_at, conjuncts_at}
use Rattle.wy_types.specs.Ranked.{IsRanked}
use Rattle.wy_types.specs.Nodes.{Keeps, AreOnce, AreGrounded}
use Rattle.wy_types.specs.Numbering.{put_ty, put_declared}
use Rattle.wy_types.specs.Standing.{Stands, NameStands, NamesStand, Grows}
use Rattle.wy_types.specs.Recursion.{RecurThroughParts}
use Rattle.wy_types.specs.Questions.{numbered, IsOver}
use Rattle.wy_types.proofs.PutLemmas.{same_grows, grows_more}
use Rattle.wy_types.proofs.StandLemmas.{stands_still, ty_put}
use Rattle.wy_types.proofs.RankLemmas.{some_rank}
use Rattle.wy_types.proofs.AgreeLemmas.{member_agrees}
use Rattle.wy_types.proofs.ReadingLemmas.{conjuncts_say}

-- ---- names

name_still : (xs ys : List Node) → Keeps xs ys → (d : Option Declared) (x : Option Definition) → NameStands xs d x → NameStands ys d x
name_still xs ys f None None s = tt
name_still xs ys f None (Some x) s = absurd s
name_still xs ys f (Some d) None s = absurd s
name_still xs ys f (Some d) (Some x) s = (s.0, stands_still xs ys f d.ty x.term s.1)

names_still : (xs ys : List Node) → Keeps xs ys → (ds : List Declared) (zs : List Definition) → NamesStand xs ds zs → NamesStand ys ds zs
names_still xs ys f ds zs s n = name_still xs ys f (slice_get ds n) (slice_get zs n) (s n)

more_names : (ns : List Node) (d : Declared) (t : ℕ) (ds : List Declared) (zs : List Definition) → Stands ns d.ty t → NamesStand ns ds zs → NamesStand ns (d ∷ ds) (record { term = t; constrained = d.constrained } ∷ zs)
more_names ns d t ds zs s more zero = (refl, s)
more_names ns d t ds zs s more (suc n) = more n

declared_put : (ds : List Declared) (ns : List Node) → Grows ns (put_declared ns ds).0 × NamesStand (put_declared ns ds).0 ds (put_declared ns ds).1
declared_put [] ns = (same_grows ns, λ n. tt)
declared_put (d ∷ ds) ns =
    let first = ty_put d.ty ns in
    let rest = declared_put ds (put_ty ns d.ty).0 in
    let term = stands_still (put_ty ns d.ty).0 (put_declared (put_ty ns d.ty).0 ds).0 rest.0.keeps d.ty (put_ty ns d.ty).1 first.1 in (
      grows_more ns (put_ty ns d.ty).0 (put_declared (put_ty ns d.ty).0 ds).0 first.0 rest.0,
      more_names (put_declared (put_ty ns d.ty).0 ds).0 d (put_ty ns d.ty).1 ds (put_declared (put_ty ns d.ty).0 ds).1 term rest.1,
    )

-- ---- the table of a question

nothing_once : AreOnce []
nothing_once i j n e f = absurd cc

nothing_grounded : AreGrounded []
nothing_grounded i n e = absurd cc

-- what is known of the table of a question
pub record IsAsked (names : List Declared) (a b : Ty) (q : Question) : Type 0 where
  pub deep : q.depth ≡ suc (length q.table.nodes)
  pub once : AreOnce q.table.nodes
  pub grounded : AreGrounded q.table.nodes
  pub names_stand : NamesStand q.table.nodes names q.table.definitions
  pub first_stands : Stands q.table.nodes a q.first
  pub second_stands : Stands q.table.nodes b q.second

pub is_asked : (names : List Declared) (a b : Ty) → IsAsked names a b (numbered names a b)
unfolding numbered
is_asked names a b =
    let x = declared_put names [] in
    let y = ty_put a (put_declared [] names).0 in
    let z = ty_put b (put_ty (put_declared [] names).0 a).0 in
    let ns = (put_declared [] names).0 in
    let ms = (put_ty ns a).0 in
    let os = (put_ty ms b).0 in
    let g = grows_more [] ns os x.0 (grows_more ns ms os y.0 z.0) in
    let more = grows_more ns ms os y.0 z.0 in
    record {
      deep = refl;
      once = g.once nothing_once;
      grounded = g.grounded nothing_grounded;
      names_stand = names_still ns os more.keeps names (put_declared [] names).1 x.1;
      first_stands = stands_still ms os z.0.keeps a (put_ty ns a).1 y.1;
      second_stands = z.1;
    }

-- the question that its parts make
pub numbered_by : (names : List Declared) (a b : Ty) (ns ms os : List Node) (zs : List Definition) (x y base depth : ℕ)
    → ns ≡ (put_declared [] names).0 → zs ≡ (put_declared [] names).1 → base ≡ length (put_declared [] names).0 → ms ≡ (put_ty ns a).0 → x ≡ (put_ty ns a).1 → os ≡ (put_ty ms b).0 → y ≡ (put_ty ms b).1 → depth ≡ suc (length os)
    → (let q : Question = record { table = record { nodes = os; definitions = zs }; base = base; depth = depth; first = x; second = y } in q ≡ numbered names a b)
unfolding numbered
numbered_by names a b ns ms os zs x y base depth e f count g h u v w =
    let ms_is = g ∙ ap (λ n. (put_ty n a).0) e in
    let x_is = h ∙ ap (λ n. (put_ty n a).1) e in
    let os_is = u ∙ ap (λ n. (put_ty n b).0) ms_is in
    let y_is = v ∙ ap (λ n. (put_ty n b).1) ms_is in
    let depth_is = w ∙ ap (λ (n : List Node). suc (length n)) os_is in
    λ i. record { table = record { nodes = os_is i; definitions = f i }; base = count i; depth = depth_is i; first = x_is i; second = y_is i }

-- ---- the terms of the declared types stay in front

take_front : {X : Type 0} (xs ys : List X) → Keeps xs ys → take (length xs) ys ≡ xs
take_front [] ys k = refl
take_front (x ∷ xs) [] k = absurd (let e = k zero x refl in cc)
take_front {X} (x ∷ xs) (y ∷ ys) k =
    let e : Some y ≡ Some x = k zero x refl in
    let f : y ≡ x = some_is (Some y) y x refl e in
    let g : take (length xs) ys ≡ xs = take_front xs ys (λ i z h. k (suc i) z h) in
    λ i. f i ∷ g i

pub numbered_over : (names : List Declared) (a b : Ty) → IsOver names (numbered names a b)
unfolding numbered
numbered_over names a b =
    let ns = (put_declared [] names).0 in
    let more = grows_more ns (put_ty ns a).0 (put_ty (put_ty ns a).0 b).0 (ty_put a ns).0 (ty_put b (put_ty ns a).0).0 in
    record { count = refl; front = take_front ns (put_ty (put_ty ns a).0 b).0 more.keeps; definitions = refl }

pub over_by : (names : List Declared) (a b : Ty) (q : Question) → q ≡ numbered names a b → IsOver names q
over_by names a b q e = subst (λ (x : Question). IsOver names x) (sym e) (numbered_over names a b)

pub asked_by : (names : List Declared) (a b : Ty) (q : Question) → q ≡ numbered names a b → IsAsked names a b q
asked_by names a b q e = subst (λ (x : Question). IsAsked names a b x) (sym e) (is_asked names a b)

module _ (names : List Declared) (a b : Ty) (q : Question) (asked : IsAsked names a b q) (recur : RecurThroughParts names) where
  pub question_ranked : (rank : ℕ → ℕ) × IsRanked q.table rank q.depth
  question_ranked =
      let deep : suc (length q.table.nodes) ≡ q.depth = sym asked.deep in
      subst (λ (k : ℕ). (rank : ℕ → ℕ) × IsRanked q.table rank k) deep (some_rank q.table names asked.names_stand recur.0 recur.1 asked.grounded)

  pub first_agrees : (d : Datum) (up : Bool) → member q.table q.depth d up q.first ≡ is_in_ty names (shape_of names d) up a
  first_agrees d up = member_agrees q.table names recur.0 recur.1 asked.names_stand question_ranked.0 q.depth question_ranked.1 d up a q.first asked.first_stands

  pub second_agrees : (d : Datum) (up : Bool) → member q.table q.depth d up q.second ≡ is_in_ty names (shape_of names d) up b
  second_agrees d up = member_agrees q.table names recur.0 recur.1 asked.names_stand question_ranked.0 q.depth question_ranked.1 d up b q.second asked.second_stands

  pub conjuncts_agree : (d : Datum) (cs : List (Conjunct ℕ)) → any_in (terms.shape_of q.table q.depth d) cs ≡ is_in_normal (shape_of names d) (conjuncts_at (ty_at q.table q.depth) cs)
  conjuncts_agree d cs =
      let P : ℕ → Type 0 = λ k. IsRanked q.table question_ranked.0 k → any_in (terms.shape_of q.table k d) cs ≡ is_in_normal (shape_of names d) (conjuncts_at (ty_at q.table k) cs) in
      subst P (sym asked.deep) (λ ranked. conjuncts_say q.table names recur.0 recur.1 asked.names_stand asked.grounded question_ranked.0 ranked d cs) question_ranked.1
