-- Where paths come together.
use Rattle.std.proofs.Common.{◌≡◌, ◌<◌, ◌≤◌, ℕ, List, [], ◌∷◌, ◌++◌, All, map, length, take, drop, Vec, Bool, Option, Some, refl, sym, ◌∙◌, ap, subst, arith}
use Rattle.std.specs.declared.alloc.Global.{Global}
use Rattle.std.proofs.lemmas.List.{append-nil, map-append, take_all, drop_at, length-append}
use Rattle.wy_term.specs.Term.{Term}
use Rattle.wy_term.specs.Nodes.{Plain, tree_at}
use Rattle.wy_vc_exprs.specs.wy_vc_spec.Joins as spec
use Rattle.wy_vc_exprs.specs.wy_vc_spec.Making.{any_of}
use Rattle.wy_vc_exprs.specs.wy_vc_spec.Owed.{assume}
use Rattle.wy_vc_exprs.specs.wy_vc_spec.Clauses.{passed}
use Rattle.wy_vc_exprs.specs.wy_vc_spec.Spots.{Spot, spot}
use Rattle.wy_vc_exprs.specs.wy_vc_spec.Variables.{Vars}
use Rattle.wy_vc_exprs.specs.wy_vc_operations.Growing.{Kept, Makes, AreAt, AreBelow}
use Rattle.wy_vc_body.specs.declared.here.Here.{Here}
use Rattle.wy_vc_exprs.specs.wy_vc_terms.declared.maker.Maker.{Maker}
use Rattle.wy_vc_exprs.specs.Numbered.{trees_of}
use Rattle.wy_vc_exprs.specs.Slots.{slots_of}
use Rattle.wy_vc_exprs.specs.State.{IsGoal, IsSound, Steps, hyps_of, owed_of, seen_goal}
use Rattle.wy_vc_exprs.specs.declared.walk.Walk.{Walk}
use Rattle.wy_vc_exprs.specs.declared.goal.Goal.{Goal}
use Rattle.wy_vc_exprs.proofs.NumberedLemmas.{kept_then}
use Rattle.wy_vc_exprs.proofs.SlotLemmas.{slots_kept, slots_on}
use Rattle.wy_vc_exprs.proofs.StateLemmas.{steps_made, steps_on}
use Rattle.wy_vc_body.specs.declared.known.Joined.{Joined}
use Rattle.wy_vc_body.specs.declared.paths.Path.{Path}
use Rattle.wy_vc_body.specs.Known.{Known, known_from, path_term, seen_names, seen_joined, IsJoined}
use Rattle.wy_vc_body.specs.Paths.{ArePaths, Meets, seen_path, seen_paths, seen_end, seen_ends}
use Rattle.wy_vc_body.proofs.LawLemmas.{join_is}
use Rattle.wy_vc_body.proofs.PathLemmas.{paths_kept, path_at}
use Rattle.std.proofs.lemmas.List.Elements.{All-take}
use Rattle.std.proofs.lemmas.List.{length-take}

-- ---- two paths or more

-- one of the formulas holds
pub join_meets : (words : List (List ℕ)) (a d e : Walk) (b c : Maker) (j : Joined) (paths : List Path) (ks : List ℕ) (one : ℕ)
    → IsSound a → ArePaths a.maker.terms paths
    → Kept a.maker.terms b.terms → IsJoined b.terms j
    → seen_joined b.terms b.count j ≡ known_from words (seen_paths a.maker.terms paths) 0 (spec.most_vars (seen_paths a.maker.terms paths)) a.maker.count
    → Kept b.terms c.terms → c.count ≡ b.count
    → AreAt c.terms ks (map (path_term (seen_names b.terms j.names.items)) (seen_paths b.terms paths))
    → ((fs : List Term) → AreAt c.terms ks fs → Makes c.terms d.maker.terms one (any_of fs))
    → d.maker.count ≡ c.count → d.hyps.items ≡ a.hyps.items → d.owed.items ≡ a.owed.items
    → Steps d e (passed d.maker.count (assume (hyps_of d) (tree_at d.maker.terms one)) [])
    → Meets a e (length a.hyps.items) (Some j.here) (spec.join words (hyps_of a) (seen_paths a.maker.terms paths) a.maker.count)
join_meets words a d e b c j paths ks one sound are kept_b is_joined value kept_c count_c at made count_d hyps owed s =
    let A = seen_paths a.maker.terms paths in
    let K = known_from words A 0 (spec.most_vars A) a.maker.count in
    let names : seen_names b.terms j.names.items ≡ K.names = ap (λ (k : Known). k.names) value in
    let at1 = subst (λ (es : List (ℕ × Term)). AreAt c.terms ks (map (path_term es) (seen_paths b.terms paths))) names at in
    let at2 = subst (λ (ps : List spec.Path). AreAt c.terms ks (map (path_term K.names) ps)) (paths_kept a.maker.terms b.terms kept_b paths are) at1 in
    let O = any_of (map (path_term K.names) A) in
    let m = made (map (path_term K.names) A) at2 in
    let kept_d = kept_then (kept_then kept_b kept_c) m.kept in
    let s' = subst (λ (t : Term). Steps d e (passed d.maker.count (assume (hyps_of d) t) [])) m.here.is s in
    let all = steps_on (λ hs n. passed n (assume hs O) []) a d e (passed d.maker.count (hyps_of a) []) (steps_made a d sound kept_d hyps owed) s' in
    let kept_e = kept_then (kept_then kept_c m.kept) s.kept in
    let count : e.maker.count ≡ K.count = all.count ∙ count_d ∙ count_c ∙ ap (λ (k : Known). k.count) value in
    subst (λ (x : spec.Met). Meets a e (length a.hyps.items) (Some j.here) x) (sym (join_is words (hyps_of a) A a.maker.count))
    (record {
      sound = all.sound;
      kept = all.kept;
      count = count;
      owed = all.owed ∙ append-nil (owed_of a);
      front = all.longer ∙ sym (take_all (length a.hyps.items) a.hyps.items (omega arith));
      ends = record {
        slots = slots_on b.terms e.maker.terms kept_e j.here.vars.items is_joined.vars;
        is =
            ap (λ (hs : List Term). spot hs (slots_of e.maker.terms j.here.vars.items) j.here.set.items) all.hyps
            ∙ ap (λ (vs : Vars). spot (assume (hyps_of a) O) vs j.here.set.items) (slots_kept b.terms e.maker.terms kept_e j.here.vars.items is_joined.vars ∙ ap (λ (k : Known). k.vars) value)
            ∙ ap (λ (bs : List Bool). spot (assume (hyps_of a) O) K.vars bs) (ap (λ (k : Known). k.set) value);
      };
    })

-- ---- how many there are

-- nothing behind so many hypotheses is assumed
pub cut_sound : (a b : Walk) (base : ℕ) → IsSound a → b.maker ≡ a.maker → b.owed ≡ a.owed → b.hyps.items ≡ take base a.hyps.items → IsSound b
cut_sound a b base sound maker owed hyps = record {
  hyps = subst (λ (m : Maker). AreBelow (length m.terms) b.hyps.items) (sym maker) (subst (λ (xs : List ℕ). AreBelow (length a.maker.terms) xs) (sym hyps) (front a.hyps.items base sound.hyps));
  owed = subst (λ (m : Maker). All (IsGoal m.terms) b.owed.items) (sym maker) (subst (λ (os : Vec Goal Global). All (IsGoal a.maker.terms) os.items) (sym owed) sound.owed);
}
  where
    front : (ks : List ℕ) (n : ℕ) → AreBelow (length a.maker.terms) ks → AreBelow (length a.maker.terms) (take n ks)
    front ks n all = All-take (λ k. k < length a.maker.terms) n ks all

-- from behind the cut it is as from before
pub cut_meets : (a b c : Walk) (base : ℕ) (h : Option Here) (m m' : spec.Met) → base ≤ length a.hyps.items → b.maker ≡ a.maker → b.owed ≡ a.owed → b.hyps.items ≡ take base a.hyps.items → m ≡ m' → Meets b c (length b.hyps.items) h m → Meets a c base h m'
cut_meets a b c base h m m' within maker owed hyps same meets =
    let count : length b.hyps.items ≡ base = ap length hyps ∙ short a.hyps.items base within in
    let front : take base c.hyps.items ≡ b.hyps.items = ap (λ (n : ℕ). take n c.hyps.items) (sym count) ∙ meets.front ∙ take_all (length b.hyps.items) b.hyps.items (omega arith) in
    subst (λ (x : spec.Met). Meets a c base h x) same
    (record {
      sound = meets.sound;
      kept = subst (λ (x : Maker). Kept x.terms c.maker.terms) maker meets.kept;
      count = meets.count;
      owed = meets.owed ∙ ap (λ (x : Maker). map (seen_goal x.terms) b.owed.items) maker ∙ ap (λ (os : Vec Goal Global). map (seen_goal a.maker.terms) os.items) owed;
      front = front ∙ hyps;
      ends = meets.ends;
    })
  where
    short : (xs : List ℕ) (n : ℕ) → n ≤ length xs → length (take n xs) ≡ n
    short xs n le = omega (arith, length-take n xs)

-- what a path assumed since the paths parted
path_from : (nodes : List Plain) (base : List ℕ) (p : Path) → spec.path_of (trees_of nodes base) (seen_end nodes base p) ≡ seen_path nodes p
path_from nodes base p =
    ap (λ (ts : List Term). path_at ts (slots_of nodes p.here.vars.items) p.here.set.items)
    (ap (λ (ts : List Term). drop (length (trees_of nodes base)) ts) (map-append (tree_at nodes) base p.since.items) ∙ drop_at (trees_of nodes base) (trees_of nodes p.since.items) (length (trees_of nodes base)) refl)

paths_from : (nodes : List Plain) (base : List ℕ) (ps : List Path) → seen_paths nodes ps ≡ map (spec.path_of (trees_of nodes base)) (seen_ends nodes base ps)
paths_from nodes base [] = refl
paths_from nodes base (p ∷ ps) =
    ap (λ (q : spec.Path). q ∷ seen_paths nodes ps) (sym (path_from nodes base p)) ∙ ap (λ (qs : List spec.Path). spec.path_of (trees_of nodes base) (seen_end nodes base p) ∷ qs) (paths_from nodes base ps)

pub many_meet : (words : List (List ℕ)) (nodes : List Plain) (base : List ℕ) (ps : List Path) (n : ℕ) → 1 < length ps → spec.join words (trees_of nodes base) (seen_paths nodes ps) n ≡ spec.meet words (trees_of nodes base) (seen_ends nodes base ps) n
many_meet words nodes base [] n lt = absurd (omega arith)
many_meet words nodes base (p ∷ []) n lt = absurd (omega arith)
many_meet words nodes base (p ∷ q ∷ ps) n lt = ap (λ (l : List spec.Path). spec.join words (trees_of nodes base) l n) (paths_from nodes base (p ∷ q ∷ ps))

-- one path was all
pub one_meet : (words : List (List ℕ)) (nodes : List Plain) (base : List ℕ) (ps rest : List Path) (p : Path) (n : ℕ) → ps ≡ rest ++ p ∷ [] → length ps ≤ 1
    → spec.meet words (trees_of nodes base) (seen_ends nodes base ps) n ≡ record { count = n; ends = Some (seen_end nodes base p) }
one_meet words nodes base ps rest p n is le = ap (λ (l : List Path). spec.meet words (trees_of nodes base) (seen_ends nodes base l) n) (is ∙ ap (λ (l : List Path). l ++ p ∷ []) (none rest few))
  where
    few : length rest ≤ 0
    few = omega (arith, ap length is, length-append rest (p ∷ []), le)

    none : (l : List Path) → length l ≤ 0 → l ≡ []
    none [] h = refl
    none (q ∷ qs) h = absurd (omega arith)

-- ---- in the code

pub many_meets : (words : List (List ℕ)) (a b c : Walk) (base : ℕ) (h : Here) (xs ps : List Path) → base ≤ length a.hyps.items → b.maker ≡ a.maker → b.owed ≡ a.owed → b.hyps.items ≡ take base a.hyps.items → xs ≡ ps → 1 < length xs
    → Meets b c (length b.hyps.items) (Some h) (spec.join words (hyps_of b) (seen_paths b.maker.terms xs) b.maker.count)
    → Meets a c base (Some h) (spec.meet words (trees_of a.maker.terms (take base a.hyps.items)) (seen_ends a.maker.terms (take base a.hyps.items) ps) a.maker.count)
many_meets words a b c base h xs ps within maker owed hyps same lt meets =
    cut_meets a b c base (Some h) (spec.join words (hyps_of b) (seen_paths b.maker.terms xs) b.maker.count) _ within maker owed hyps
    (ap (λ (m : Maker). spec.join words (trees_of m.terms b.hyps.items) (seen_paths m.terms xs) m.count) maker
    ∙ ap (λ (hs : List ℕ). spec.join words (trees_of a.maker.terms hs) (seen_paths a.maker.terms xs) a.maker.count) hyps
    ∙ many_meet words a.maker.terms (take base a.hyps.items) xs a.maker.count lt
    ∙ ap (λ (l : List Path). spec.meet words (trees_of a.maker.terms (take base a.hyps.items)) (seen_ends a.maker.terms (take base a.hyps.items) l) a.maker.count) same) meets

abbrev met_at : ℕ → Spot → spec.Met
met_at n p = record { count = n; ends = Some p }

pub one_goes : (words : List (List ℕ)) (a b c : Walk) (base : ℕ) (h : Here) (p : Path) (xs ps rest : List Path) → base ≤ length a.hyps.items → b.maker ≡ a.maker → b.owed ≡ a.owed → b.hyps.items ≡ take base a.hyps.items → xs ≡ ps → length xs ≤ 1
    → ps ≡ rest ++ p ∷ []
    → Meets b c (length b.hyps.items) (Some h) (met_at b.maker.count (seen_end b.maker.terms b.hyps.items p))
    → Meets a c base (Some h) (spec.meet words (trees_of a.maker.terms (take base a.hyps.items)) (seen_ends a.maker.terms (take base a.hyps.items) ps) a.maker.count)
one_goes words a b c base h p xs ps rest within maker owed hyps same le is meets =
    let few : length ps ≤ 1 = omega (arith, le, ap length same) in
    cut_meets a b c base (Some h) (met_at b.maker.count (seen_end b.maker.terms b.hyps.items p)) _ within maker owed hyps
    (ap (λ (m : Maker). met_at m.count (seen_end m.terms b.hyps.items p)) maker
    ∙ ap (λ (hs : List ℕ). met_at a.maker.count (seen_end a.maker.terms hs p)) hyps
    ∙ sym (one_meet words a.maker.terms (take base a.hyps.items) ps rest p a.maker.count is few)) meets
