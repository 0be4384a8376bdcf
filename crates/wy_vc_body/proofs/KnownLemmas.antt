-- What is known of one variable after the other.
use Rattle.std.proofs.Common.{◌≡◌, ◌<◌, ◌≤◌, ◌+◌, ◌-◌, ℕ, suc, List, [], ◌∷◌, ◌++◌, map, length, Bool, true, false, Option, Some, option_map, if◌then◌else◌, refl, sym, ◌∙◌, ap, subst, arith}
use Rattle.std.proofs.lemmas.List.{append_assoc, append-nil, map-append}
use Rattle.std.proofs.lemmas.List.Elements.{All-append, All-nil, All-cons, All-head, All-tail}
use Rattle.wy_term.specs.Term.{Term}
use Rattle.wy_term.specs.Nodes.{Plain, tree_at}
use Rattle.wy_vc_exprs.specs.wy_vc_spec.Joins as spec
use Rattle.wy_vc_exprs.specs.wy_vc_spec.Making.{val_name}
use Rattle.wy_vc_exprs.specs.wy_vc_spec.Values.{word_at}
use Rattle.wy_vc_exprs.specs.wy_vc_spec.Variables.{Vars}
use Rattle.wy_vc_exprs.proofs.wy_vc_operations_proofs.GrowingLemmas.{kept_all}
use Rattle.wy_vc_exprs.specs.wy_vc_operations.Growing.{AreAt, Kept, Makes, IsSlotBelow, AreSlotsBelow}
use Rattle.wy_vc_exprs.specs.Slots.{AreSlots, slots_of}
use Rattle.wy_vc_exprs.proofs.NumberedLemmas.{kept_then}
use Rattle.wy_vc_exprs.proofs.SlotLemmas.{slots_kept, slots_on}
use Rattle.wy_vc_exprs.specs.wy_vc_terms.declared.maker.Maker.{Maker}
use Rattle.wy_vc_body.specs.declared.known.Joined.{Joined}
use Rattle.wy_vc_body.specs.declared.paths.Path.{Path}
use Rattle.wy_vc_body.specs.Paths.{ArePaths, seen_paths}
use Rattle.wy_vc_body.specs.Known.{Known, known, onto, renamed, unnamed, one_variable, known_from, path_term, seen_names, AreNames, seen_joined, IsJoined}
use Rattle.wy_vc_body.proofs.PathLemmas.{paths_kept}

-- ---- as terms grow

pub names_kept : (old new : List Plain) → Kept old new → (es : List (ℕ × ℕ)) → AreNames old es → seen_names new es ≡ seen_names old es
names_kept old new k [] are = refl
names_kept old new k (e ∷ es) are =
    ap (λ (t : Term). (e.0, t) ∷ seen_names new es) (k.trees e.1 (All-head (λ (d : ℕ × ℕ). d.1 < length old) e es are))
    ∙ ap (λ (ds : List (ℕ × Term)). (e.0, tree_at old e.1) ∷ ds) (names_kept old new k es (All-tail (λ (d : ℕ × ℕ). d.1 < length old) e es are))

pub names_on : (old new : List Plain) → Kept old new → (es : List (ℕ × ℕ)) → AreNames old es → AreNames new es
names_on old new k [] are = All-nil (λ (d : ℕ × ℕ). d.1 < length new)
names_on old new k (e ∷ es) are =
    All-cons (λ (d : ℕ × ℕ). d.1 < length new) e es (omega (arith, k.grows, All-head (λ (d : ℕ × ℕ). d.1 < length old) e es are)) (names_on old new k es (All-tail (λ (d : ℕ × ℕ). d.1 < length old) e es are))

-- ---- slots

pub slots_below_append : (n : ℕ) (vs ws : List (Option ℕ)) → AreSlotsBelow n vs → AreSlotsBelow n ws → AreSlotsBelow n (vs ++ ws)
slots_below_append n [] ws a b = b
slots_below_append n (v ∷ vs) ws a b = (a.0, slots_below_append n vs ws a.1 b)

-- ---- one variable

pub onto_assoc : (a b c : Known) → onto (onto a b) c ≡ onto a (onto b c)
onto_assoc a b c =
    ap (λ (es : List (ℕ × Term)). known c.count es ((a.vars ++ b.vars) ++ c.vars) ((a.set ++ b.set) ++ c.set)) (append_assoc a.names b.names c.names)
    ∙ ap (λ (vs : Vars). known c.count (a.names ++ (b.names ++ c.names)) vs ((a.set ++ b.set) ++ c.set)) (append_assoc a.vars b.vars c.vars)
    ∙ ap (λ (bs : List Bool). known c.count (a.names ++ (b.names ++ c.names)) (a.vars ++ (b.vars ++ c.vars)) bs) (append_assoc a.set b.set c.set)

pub onto_end : (a : Known) → onto a (known a.count [] [] []) ≡ a
onto_end a =
    ap (λ (es : List (ℕ × Term)). known a.count es (a.vars ++ []) (a.set ++ [])) (append-nil a.names)
    ∙ ap (λ (vs : Vars). known a.count a.names vs (a.set ++ [])) (append-nil a.vars)
    ∙ ap (λ (bs : List Bool). known a.count a.names a.vars bs) (append-nil a.set)

-- the variable took a new name
pub renamed_joined : (old new : List Plain) (j j' : Joined) (x name : ℕ) (N : Term) → IsJoined old j → Makes old new name N → j'.names.items ≡ j.names.items ++ (x, name) ∷ [] → j'.here.vars.items ≡ j.here.vars.items ++ Some name ∷ [] → IsJoined new j'
renamed_joined old new j j' x name N is made names vars = record {
  names = subst (λ (es : List (ℕ × ℕ)). AreNames new es) (sym names)
      (All-append (λ (d : ℕ × ℕ). d.1 < length new) j.names.items ((x, name) ∷ []) (names_on old new made.kept j.names.items is.names)
      (All-cons (λ (d : ℕ × ℕ). d.1 < length new) (x, name) [] made.here.within (All-nil (λ (d : ℕ × ℕ). d.1 < length new))));
  vars = subst (λ (vs : List (Option ℕ)). AreSlots new vs) (sym vars) (slots_below_append (length new) j.here.vars.items (Some name ∷ []) (slots_on old new made.kept j.here.vars.items is.vars) (made.here.within, tt));
}

pub renamed_seen : (words : List (List ℕ)) (old new : List Plain) (n m : ℕ) (j j' : Joined) (ps : List spec.Path) (x name : ℕ) (has : Bool) → IsJoined old j → Makes old new name (val_name (word_at words x) n) → m ≡ suc n
    → has ≡ spec.set_on_all ps x → j'.names.items ≡ j.names.items ++ (x, name) ∷ [] → j'.here.vars.items ≡ j.here.vars.items ++ Some name ∷ [] → j'.here.set.items ≡ j.here.set.items ++ has ∷ []
    → seen_joined new m j' ≡ onto (seen_joined old n j) (renamed words ps x n)
renamed_seen words old new n m j j' ps x name has is made count set names vars sets =
    let N = val_name (word_at words x) n in
    ap (λ (k : ℕ). known k (seen_names new j'.names.items) (slots_of new j'.here.vars.items) j'.here.set.items) count
    ∙ ap (λ (es : List (ℕ × Term)). known (suc n) es (slots_of new j'.here.vars.items) j'.here.set.items)
    (ap (λ (es : List (ℕ × ℕ)). seen_names new es) names ∙ map-append (λ (e : ℕ × ℕ). (e.0, tree_at new e.1)) j.names.items ((x, name) ∷ [])
    ∙ ap (λ (es : List (ℕ × Term)). es ++ (x, tree_at new name) ∷ []) (names_kept old new made.kept j.names.items is.names) ∙ ap (λ (t : Term). seen_names old j.names.items ++ (x, t) ∷ []) made.here.is)
    ∙ ap (λ (vs : Vars). known (suc n) (seen_names old j.names.items ++ (x, N) ∷ []) vs j'.here.set.items)
    (ap (λ (vs : List (Option ℕ)). slots_of new vs) vars ∙ map-append (option_map (tree_at new)) j.here.vars.items (Some name ∷ [])
    ∙ ap (λ (vs : Vars). vs ++ Some (tree_at new name) ∷ []) (slots_kept old new made.kept j.here.vars.items is.vars) ∙ ap (λ (t : Term). slots_of old j.here.vars.items ++ Some t ∷ []) made.here.is)
    ∙ ap (λ (bs : List Bool). known (suc n) (seen_names old j.names.items ++ (x, N) ∷ []) (slots_of old j.here.vars.items ++ Some N ∷ []) bs) (sets ∙ ap (λ (b : Bool). j.here.set.items ++ b ∷ []) set)

-- the variable stands for what it stood for
pub unnamed_joined : (nodes : List Plain) (j j' : Joined) (o : Option ℕ) → IsJoined nodes j → IsSlotBelow (length nodes) o → j'.names ≡ j.names → j'.here.vars.items ≡ j.here.vars.items ++ o ∷ [] → IsJoined nodes j'
unnamed_joined nodes j j' o is below names vars = record {
  names = subst (λ es. AreNames nodes es.items) (sym names) is.names;
  vars = subst (λ (vs : List (Option ℕ)). AreSlots nodes vs) (sym vars) (slots_below_append (length nodes) j.here.vars.items (o ∷ []) is.vars (below, tt));
}

pub unnamed_seen : (nodes : List Plain) (n : ℕ) (j j' : Joined) (ps : List spec.Path) (x : ℕ) (o : Option ℕ) (has : Bool) → option_map (tree_at nodes) o ≡ spec.first_term ps x → has ≡ spec.set_on_all ps x
    → j'.names ≡ j.names → j'.here.vars.items ≡ j.here.vars.items ++ o ∷ [] → j'.here.set.items ≡ j.here.set.items ++ has ∷ []
    → seen_joined nodes n j' ≡ onto (seen_joined nodes n j) (unnamed ps x n)
unnamed_seen nodes n j j' ps x o has term set names vars sets =
    ap (λ es. known n (seen_names nodes es.items) (slots_of nodes j'.here.vars.items) j'.here.set.items) names
    ∙ ap (λ (es : List (ℕ × Term)). known n es (slots_of nodes j'.here.vars.items) j'.here.set.items) (sym (append-nil (seen_names nodes j.names.items)))
    ∙ ap (λ (vs : Vars). known n (seen_names nodes j.names.items ++ []) vs j'.here.set.items)
    (ap (λ (vs : List (Option ℕ)). slots_of nodes vs) vars ∙ map-append (option_map (tree_at nodes)) j.here.vars.items (o ∷ []) ∙ ap (λ (t : Option Term). slots_of nodes j.here.vars.items ++ t ∷ []) term)
    ∙ ap (λ (bs : List Bool). known n (seen_names nodes j.names.items ++ []) (slots_of nodes j.here.vars.items ++ spec.first_term ps x ∷ []) bs) (sets ∙ ap (λ (b : Bool). j.here.set.items ++ b ∷ []) set)

-- the one or the other
pub one_renamed : (words : List (List ℕ)) (ps : List spec.Path) (x n : ℕ) → spec.differ ps x ≡ true → renamed words ps x n ≡ one_variable words ps x n
one_renamed words ps x n is = sym (ap (λ (b : Bool). if b then renamed words ps x n else unnamed ps x n) is)

pub one_unnamed : (words : List (List ℕ)) (ps : List spec.Path) (x n : ℕ) → spec.differ ps x ≡ false → unnamed ps x n ≡ one_variable words ps x n
one_unnamed words ps x n is = sym (ap (λ (b : Bool). if b then renamed words ps x n else unnamed ps x n) is)

-- ---- all variables

-- so many were looked at, and with those left they are all
pub record IsKnown (words : List (List ℕ)) (paths : List Path) (a b : Maker) (j : Joined) (x left : ℕ) (all : Known) : Type 0 where
  pub kept : Kept a.terms b.terms
  pub node : b.node ≡ a.node
  pub joined : IsJoined b.terms j
  pub value : onto (seen_joined b.terms b.count j) (known_from words (seen_paths a.terms paths) x left b.count) ≡ all

pub known_begin : (words : List (List ℕ)) (paths : List Path) (a : Maker) (j : Joined) (most : ℕ) → j.names.items ≡ [] → j.here.vars.items ≡ [] → j.here.set.items ≡ []
    → IsKnown words paths a a j 0 most (known_from words (seen_paths a.terms paths) 0 most a.count)
known_begin words paths a j most names vars sets = record {
  kept = kept_all a.terms;
  node = refl;
  joined = record {
    names = subst (λ (es : List (ℕ × ℕ)). AreNames a.terms es) (sym names) (All-nil (λ (d : ℕ × ℕ). d.1 < length a.terms));
    vars = subst (λ (vs : List (Option ℕ)). AreSlots a.terms vs) (sym vars) tt;
  };
  value =
      let K = known_from words (seen_paths a.terms paths) 0 most a.count in
      ap (λ (es : List (ℕ × ℕ)). onto (known a.count (seen_names a.terms es) (slots_of a.terms j.here.vars.items) j.here.set.items) K) names
      ∙ ap (λ (vs : List (Option ℕ)). onto (known a.count [] (slots_of a.terms vs) j.here.set.items) K) vars
      ∙ ap (λ (bs : List Bool). onto (known a.count [] [] bs) K) sets;
}

pub known_turn : (words : List (List ℕ)) (paths : List Path) (a b c : Maker) (j j' : Joined) (x most : ℕ) (all : Known) → ArePaths a.terms paths → x < most
    → IsKnown words paths a b j x (most - x) all
    → Kept b.terms c.terms → c.node ≡ b.node → IsJoined c.terms j'
    → seen_joined c.terms c.count j' ≡ onto (seen_joined b.terms b.count j) (one_variable words (seen_paths b.terms paths) x b.count)
    → IsKnown words paths a c j' (x + 1) (most - (x + 1)) all
known_turn words paths a b c j j' x most all are lt inv kept node joined step =
    let A = seen_paths a.terms paths in
    let one = one_variable words A x b.count in
    let step' = subst (λ (ps : List spec.Path). seen_joined c.terms c.count j' ≡ onto (seen_joined b.terms b.count j) (one_variable words ps x b.count)) (paths_kept a.terms b.terms inv.kept paths are) step in
    let counts : c.count ≡ one.count = ap (λ (k : Known). k.count) step' in
    let cut : most - x ≡ suc (most - (x + 1)) = omega arith in
    let next : x + 1 ≡ suc x = omega arith in
    record {
      kept = kept_then inv.kept kept;
      node = node ∙ inv.node;
      joined = joined;
      value =
          ap (λ (k : Known). onto k (known_from words A (x + 1) (most - (x + 1)) c.count)) step'
          ∙ onto_assoc (seen_joined b.terms b.count j) one (known_from words A (x + 1) (most - (x + 1)) c.count)
          ∙ ap (λ (y : ℕ). onto (seen_joined b.terms b.count j) (onto one (known_from words A y (most - (x + 1)) c.count))) next
          ∙ ap (λ (m : ℕ). onto (seen_joined b.terms b.count j) (onto one (known_from words A (suc x) (most - (x + 1)) m))) counts
          ∙ sym (ap (λ (k : ℕ). onto (seen_joined b.terms b.count j) (known_from words A x k b.count)) cut)
          ∙ inv.value;
    }

pub known_end : (words : List (List ℕ)) (paths : List Path) (a b : Maker) (j : Joined) (x most : ℕ) (all : Known) → most ≤ x → IsKnown words paths a b j x (most - x) all → seen_joined b.terms b.count j ≡ all
known_end words paths a b j x most all past inv =
    let none : most - x ≡ 0 = omega arith in
    sym (ap (λ (k : ℕ). onto (seen_joined b.terms b.count j) (known_from words (seen_paths a.terms paths) x k b.count)) none ∙ onto_end (seen_joined b.terms b.count j)) ∙ inv.value

pub same_maker_kept : (a b : Maker) → b ≡ a → Kept a.terms b.terms
same_maker_kept a b is = subst (λ (m : Maker). Kept a.terms m.terms) (sym is) (kept_all a.terms)

pub same_maker_node : (a b : Maker) → b ≡ a → b.node ≡ a.node
same_maker_node a b is = ap (λ (m : Maker). m.node) is

pub known_start : (words : List (List ℕ)) (paths : List Path) (a : Maker) (j : Joined) (most : ℕ) → j.names.items ≡ [] → j.here.vars.items ≡ [] → j.here.set.items ≡ []
    → IsKnown words paths a a j 0 (most - 0) (known_from words (seen_paths a.terms paths) 0 most a.count)
known_start words paths a j most names vars sets =
    let whole : most ≡ most - 0 = omega arith in
    subst (λ (m : ℕ). IsKnown words paths a a j 0 m (known_from words (seen_paths a.terms paths) 0 most a.count)) whole (known_begin words paths a j most names vars sets)

-- the names as they are read
pub joined_read : (nodes old new : List Plain) (ks : List ℕ) (es ds : List (ℕ × ℕ)) (paths : List Path) → es ≡ ds → AreAt new ks (map (path_term (seen_names nodes es)) (seen_paths old paths)) → AreAt new ks (map (path_term (seen_names nodes ds)) (seen_paths old paths))
joined_read nodes old new ks es ds paths same at = subst (λ (l : List (ℕ × ℕ)). AreAt new ks (map (path_term (seen_names nodes l)) (seen_paths old paths))) same at
