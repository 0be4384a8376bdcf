-- Parts along a path.
use Rattle.std.proofs.Common.{◌≡◌, ◌<◌, ◌+◌, ℕ, List, [], ◌∷◌, ◌++◌, map, length, drop, take, get_or, add-zero, add_assoc, Option, refl, sym, ◌∙◌, ap, subst, arith}
use Rattle.std.proofs.lemmas.List.{append-nil, append_assoc, map-append}
use Rattle.std.proofs.lemmas.List.Elements.{All-append, All-cons, All-nil, All-head, All-tail}
use Rattle.wy_core.specs.CoreSeen.{seen_step}
use Rattle.wy_core.specs.CoreTree as tree
use Rattle.wy_core.specs.CoreTree.{IndexStep, FieldStep}
use Rattle.wy_core.specs.declared.statements.Step.{Step}
use Rattle.wy_lemmas.proofs.Lists.{front, next_of}
use Rattle.wy_term.specs.declared.cond.CondKind.TheVariants as kind
use Rattle.wy_term.specs.Term.{Term}
use Rattle.wy_term.specs.Nodes.{Plain, tree_at}
use Rattle.wy_vc_exprs.specs.wy_vc_spec.Calls.{Walked}
use Rattle.wy_vc_exprs.specs.wy_vc_spec.Clauses.{passed}
use Rattle.wy_vc_exprs.specs.wy_vc_spec.Making.{field}
use Rattle.wy_vc_exprs.specs.wy_vc_spec.Numbered.{Node, numbered, numbered_path}
use Rattle.wy_vc_exprs.specs.wy_vc_spec.Operations as op
use Rattle.wy_vc_exprs.specs.wy_vc_spec.Owed.{Owed, assume_all, owe}
use Rattle.wy_vc_exprs.specs.wy_vc_spec.Sizes.{exprs_in, exprs_in_step, exprs_in_path}
use Rattle.wy_vc_exprs.specs.wy_vc_spec.Statements as spec
use Rattle.wy_vc_exprs.specs.wy_vc_spec.Variables.{Vars}
use Rattle.wy_vc_exprs.specs.wy_vc_spec.Walks.{goals_of, index_goals}
use Rattle.wy_vc_exprs.proofs.wy_vc_operations_proofs.GrowingLemmas.{here_kept}
use Rattle.wy_vc_exprs.specs.wy_vc_operations.Growing.{Kept, Makes}
use Rattle.wy_vc_exprs.specs.Owing.{passed_goals}
use Rattle.wy_vc_exprs.specs.Slots.{AreSlots, slots_of}
use Rattle.wy_vc_exprs.specs.State.{IsSound, Steps, Walks, hyps_of, owed_of, passed_by}
use Rattle.wy_vc_exprs.specs.declared.walk.Walk.{Walk}
use Rattle.wy_vc_exprs.proofs.SlotLemmas.{slots_kept}
use Rattle.wy_vc_exprs.proofs.StateLemmas.{kept_on, steps_on, steps_as, steps_made}
use Rattle.wy_vc_body.specs.declared.frame.Frame.{Frame}
use Rattle.wy_vc_body.specs.declared.places.Part.{Part}
use Rattle.wy_vc_body.specs.declared.places.Part.TheVariants as part
use Rattle.wy_vc_body.specs.Frames.{IsFrame, body_at}
use Rattle.wy_vc_body.specs.Places.{Along, AreParts, IsPart, Stepped, Stepping, numbered_step, seen_part, seen_parts, stepped}
use Rattle.wy_vc_body.proofs.FrameLemmas.{body_kept}

-- ---- as terms grow

pub part_on : (old new : List Plain) → Kept old new → (p : Part) → IsPart old p → IsPart new p
part_on old new k (part.Element whole index) is = (omega (arith, k.grows, is.0), omega (arith, k.grows, is.1))
part_on old new k (part.Field name whole) is = omega (arith, k.grows, is)

pub part_kept : (old new : List Plain) → Kept old new → (p : Part) → IsPart old p → seen_part new p ≡ seen_part old p
part_kept old new k (part.Element whole index) is = ap (λ (t : Term). spec.ElementOf t (tree_at new index)) (k.trees whole is.0) ∙ ap (λ (t : Term). spec.ElementOf (tree_at old whole) t) (k.trees index is.1)
part_kept old new k (part.Field name whole) is = ap (λ (t : Term). spec.FieldOf name t) (k.trees whole is)

pub parts_on : (old new : List Plain) → Kept old new → (ps : List Part) → AreParts old ps → AreParts new ps
parts_on old new k [] are = All-nil (IsPart new)
parts_on old new k (p ∷ ps) are = All-cons (IsPart new) p ps (part_on old new k p (All-head (IsPart old) p ps are)) (parts_on old new k ps (All-tail (IsPart old) p ps are))

pub parts_kept : (old new : List Plain) → Kept old new → (ps : List Part) → AreParts old ps → seen_parts new ps ≡ seen_parts old ps
parts_kept old new k [] are = refl
parts_kept old new k (p ∷ ps) are =
    ap (λ (q : spec.Part). q ∷ seen_parts new ps) (part_kept old new k p (All-head (IsPart old) p ps are)) ∙ ap (λ (qs : List spec.Part). seen_part old p ∷ qs) (parts_kept old new k ps (All-tail (IsPart old) p ps are))

-- ---- one step

pub element_step : (body : spec.Body Node) (e : tree.Expr Node) (at whole place inner : ℕ) (w : Walked) (vars : Vars) (a b c d : Walk) → whole < length a.maker.terms
    → Walks a b place w → w ≡ spec.expr body e vars (hyps_of a) a.maker.count
    → Steps b c (passed_goals at b.maker.count (hyps_of b) (goals_of kind.Index (index_goals (tree_at b.maker.terms whole) (tree_at b.maker.terms place)) ∷ []))
    → Makes c.maker.terms d.maker.terms inner (op.element (tree_at c.maker.terms whole) (tree_at c.maker.terms place))
    → d.hyps.items ≡ c.hyps.items → d.owed.items ≡ c.owed.items → d.maker.count ≡ c.maker.count
    → Stepping a d (part.Element whole place) inner (stepped body (IndexStep at e) (tree_at a.maker.terms whole) vars (hyps_of a) a.maker.count)
element_step body e at whole place inner w vars a b c d within first is second made hyps owed count =
    let W = tree_at a.maker.terms whole in
    let F = λ (hs : List Term) (n : ℕ). passed n (assume_all hs (index_goals W w.term)) (owe kind.Index at hs (index_goals W w.term) ++ []) in
    let s1 = subst (λ (t : Term). Steps b c (passed_goals at b.maker.count (hyps_of b) (goals_of kind.Index (index_goals t (tree_at b.maker.terms place)) ∷ []))) (first.steps.kept.trees whole within) second in
    let s2 = subst (λ (t : Term). Steps b c (passed_goals at b.maker.count (hyps_of b) (goals_of kind.Index (index_goals W t) ∷ []))) first.is.is s1 in
    let to_c = steps_on F a b c (passed_by w) first.steps s2 in
    let G = index_goals W w.term in
    let end = passed w.count (assume_all w.hyps G) (w.owed ++ owe kind.Index at w.hyps G) in
    let to_c' = steps_as a c (passed w.count (assume_all w.hyps G) (w.owed ++ (owe kind.Index at w.hyps G ++ []))) end (ap (λ (os : List Owed). passed w.count (assume_all w.hyps G) (w.owed ++ os)) (append-nil (owe kind.Index at w.hyps G))) to_c in
    let to_d = steps_on (λ hs n. passed d.maker.count hs []) a c d end to_c' (steps_made c d to_c'.sound made.kept hyps owed) in
    let to_d' = steps_as a d (passed d.maker.count (assume_all w.hyps G) ((w.owed ++ owe kind.Index at w.hyps G) ++ [])) end
    (ap (λ (n : ℕ). passed n (assume_all w.hyps G) ((w.owed ++ owe kind.Index at w.hyps G) ++ [])) (count ∙ to_c'.count) ∙ ap (λ (os : List Owed). passed w.count (assume_all w.hyps G) os) (append-nil (w.owed ++ owe kind.Index at w.hyps G))) to_d in
    let kept_d = kept_on a.maker.terms c.maker.terms d.maker.terms to_c'.kept made.kept in
    let place_c = here_kept second.kept first.is in
    let whole_c : tree_at c.maker.terms whole ≡ W = to_c'.kept.trees whole within in
    let is_place : tree_at d.maker.terms place ≡ w.term = made.kept.trees place place_c.within ∙ place_c.is in
    subst (λ (v : Walked). Stepping a d (part.Element whole place) inner (record { passed = passed v.count (assume_all v.hyps (index_goals W v.term)) (v.owed ++ owe kind.Index at v.hyps (index_goals W v.term)); part = spec.ElementOf W v.term; whole = op.element W v.term })) is
    (record {
      steps = to_d';
      is_part = (omega (arith, kept_d.grows, within), omega (arith, made.kept.grows, place_c.within));
      part = ap (λ (t : Term). spec.ElementOf t (tree_at d.maker.terms place)) (kept_d.trees whole within) ∙ ap (λ (t : Term). spec.ElementOf W t) is_place;
      whole = record {
        within = made.here.within;
        is = made.here.is ∙ ap (λ (t : Term). op.element t (tree_at c.maker.terms place)) whole_c ∙ ap (λ (t : Term). op.element W t) place_c.is;
      };
    })

pub field_step : (body : spec.Body Node) (at whole inner : ℕ) (name : List ℕ) (vars : Vars) (a b : Walk) (p : Part) → IsSound a → whole < length a.maker.terms
    → Makes a.maker.terms b.maker.terms inner (field name (tree_at a.maker.terms whole))
    → b.hyps.items ≡ a.hyps.items → b.owed.items ≡ a.owed.items → b.maker.count ≡ a.maker.count → p ≡ part.Field name whole
    → Stepping a b p inner (stepped body (FieldStep at name) (tree_at a.maker.terms whole) vars (hyps_of a) a.maker.count)
field_step body at whole inner name vars a b p sound within made hyps owed count same =
    subst (λ (q : Part). Stepping a b q inner (stepped body (FieldStep at name) (tree_at a.maker.terms whole) vars (hyps_of a) a.maker.count)) (sym same)
    (record {
      steps = steps_as a b (passed b.maker.count (hyps_of a) []) (passed a.maker.count (hyps_of a) []) (ap (λ (n : ℕ). passed n (hyps_of a) []) count) (steps_made a b sound made.kept hyps owed);
      is_part = omega (arith, made.kept.grows, within);
      part = ap (λ (t : Term). spec.FieldOf name t) (made.kept.trees whole within);
      whole = made.here;
    })

-- ---- all steps

-- the first step, and behind it the others
abbrev pub joined : Stepped → spec.Along → spec.Along
joined s rest = record { count = rest.count; hyps = rest.hyps; parts = s.part ∷ rest.parts; owed = s.passed.owed ++ rest.owed }

abbrev pub along_behind : spec.Body Node → List (tree.Step ℕ) → ℕ → Stepped → Vars → spec.Along
along_behind b steps k s vars = joined s (spec.along b (numbered_path steps k) s.whole vars s.passed.hyps s.passed.count)

abbrev along_with : ℕ → List Term → List spec.Part → List Owed → spec.Along
along_with n hyps parts os = record { count = n; hyps = hyps; parts = parts; owed = os }

pub along_more : (b : spec.Body Node) (step : tree.Step ℕ) (steps : List (tree.Step ℕ)) (k : ℕ) (whole : Term) (vars : Vars) (hyps : List Term) (n : ℕ)
    → spec.along b (numbered_path (step ∷ steps) k) whole vars hyps n ≡ along_behind b steps (k + exprs_in_step step) (stepped b (numbered_step step k) whole vars hyps n) vars
along_more b (IndexStep at e) steps k whole vars hyps n =
    let i = spec.expr b (numbered e k) vars hyps n in
    let rest = spec.along b (numbered_path steps (k + exprs_in e)) (op.element whole i.term) vars (assume_all i.hyps (index_goals whole i.term)) i.count in
    ap (λ (os : List Owed). along_with rest.count rest.hyps (spec.ElementOf whole i.term ∷ rest.parts) os) (sym (append_assoc i.owed (owe kind.Index at i.hyps (index_goals whole i.term)) rest.owed))
along_more b (FieldStep at name) steps k whole vars hyps n =
    ap (λ (m : ℕ). along_behind b steps m (stepped b (FieldStep at name) whole vars hyps n) vars) (sym (add-zero k))

-- what is left of the path
abbrev pub left_of : Frame → List (Option ℕ) → Walk → Walk → ℕ → List Step → spec.Along
left_of frame vars a b inner left =
    spec.along (body_at a.maker.terms frame) (numbered_path (map seen_step left) b.maker.node) (tree_at b.maker.terms inner) (slots_of a.maker.terms vars) (hyps_of b) b.maker.count

-- so many steps were made, and with those left they are all
pub record IsAlong (frame : Frame) (vars : List (Option ℕ)) (a b : Walk) (ps : List Part) (inner : ℕ) (left : List Step) (all : spec.Along) : Type 0 where
  pub sound : IsSound b
  pub kept : Kept a.maker.terms b.maker.terms
  pub longer : take (length a.hyps.items) b.hyps.items ≡ a.hyps.items
  pub are : AreParts b.maker.terms ps
  pub within : inner < length b.maker.terms
  pub count : (left_of frame vars a b inner left).count ≡ all.count
  pub hyps : (left_of frame vars a b inner left).hyps ≡ all.hyps
  pub parts : seen_parts b.maker.terms ps ++ (left_of frame vars a b inner left).parts ≡ all.parts
  pub owed : owed_of b ++ (left_of frame vars a b inner left).owed ≡ owed_of a ++ all.owed

-- one step more
pub along_turn : (frame : Frame) (vars : List (Option ℕ)) (a b c : Walk) (parts parts' : List Part) (p : Part) (inner whole i : ℕ) (path : List Step) (step : Step) (all : spec.Along)
    → IsFrame a.maker.terms frame → AreSlots a.maker.terms vars → i < length path → step ≡ get_or path i step
    → IsAlong frame vars a b parts inner (drop i path) all
    → Stepping b c p whole (stepped (body_at b.maker.terms frame) (numbered_step (seen_step step) b.maker.node) (tree_at b.maker.terms inner) (slots_of b.maker.terms vars) (hyps_of b) b.maker.count)
    → c.maker.node ≡ b.maker.node + exprs_in_step (seen_step step) → parts' ≡ parts ++ p ∷ []
    → IsAlong frame vars a c parts' whole (drop (i + 1) path) all
along_turn frame vars a b c parts parts' p inner whole i path step all is_frame slots lt is inv made node pushed =
    let B = body_at a.maker.terms frame in
    let V = slots_of a.maker.terms vars in
    let T = tree_at b.maker.terms inner in
    let S = stepped B (numbered_step (seen_step step) b.maker.node) T V (hyps_of b) b.maker.count in
    let made' = subst (λ (v : Vars). Stepping b c p whole (stepped B (numbered_step (seen_step step) b.maker.node) T v (hyps_of b) b.maker.count)) (slots_kept a.maker.terms b.maker.terms inv.kept vars slots)
    (subst (λ (x : spec.Body Node). Stepping b c p whole (stepped x (numbered_step (seen_step step) b.maker.node) T (slots_of b.maker.terms vars) (hyps_of b) b.maker.count)) (body_kept a.maker.terms b.maker.terms inv.kept frame is_frame) made) in
    let rest = map seen_step (drop (i + 1) path) in
    let R = left_of frame vars a b inner (drop i path) in
    let N = left_of frame vars a c whole (drop (i + 1) path) in
    let M = spec.along B (numbered_path rest (b.maker.node + exprs_in_step (seen_step step))) S.whole V S.passed.hyps S.passed.count in
    let cut : R ≡ joined S M =
    ap (λ (l : List Step). left_of frame vars a b inner l) (next_of path i step lt is) ∙ along_more B (seen_step step) rest b.maker.node T V (hyps_of b) b.maker.count in
    let same : N ≡ M =
    ap (λ (k : ℕ). spec.along B (numbered_path rest k) (tree_at c.maker.terms whole) V (hyps_of c) c.maker.count) node
    ∙ ap (λ (t : Term). spec.along B (numbered_path rest (b.maker.node + exprs_in_step (seen_step step))) t V (hyps_of c) c.maker.count) made'.whole.is
    ∙ ap (λ (hs : List Term). spec.along B (numbered_path rest (b.maker.node + exprs_in_step (seen_step step))) S.whole V hs c.maker.count) made'.steps.hyps
    ∙ ap (λ (n : ℕ). spec.along B (numbered_path rest (b.maker.node + exprs_in_step (seen_step step))) S.whole V S.passed.hyps n) made'.steps.count in
    record {
      sound = made'.steps.sound;
      kept = kept_on a.maker.terms b.maker.terms c.maker.terms inv.kept made'.steps.kept;
      longer = front a.hyps.items b.hyps.items c.hyps.items inv.longer made'.steps.longer;
      are = subst (λ (ps : List Part). AreParts c.maker.terms ps) (sym pushed)
          (All-append (IsPart c.maker.terms) parts (p ∷ []) (parts_on b.maker.terms c.maker.terms made'.steps.kept parts inv.are) (All-cons (IsPart c.maker.terms) p [] made'.is_part (All-nil (IsPart c.maker.terms))));
      within = made'.whole.within;
      count = ap (λ (x : spec.Along). x.count) same ∙ sym (ap (λ (x : spec.Along). x.count) cut) ∙ inv.count;
      hyps = ap (λ (x : spec.Along). x.hyps) same ∙ sym (ap (λ (x : spec.Along). x.hyps) cut) ∙ inv.hyps;
      parts =
          ap (λ (ps : List Part). seen_parts c.maker.terms ps ++ N.parts) pushed
          ∙ ap (λ (ps : List spec.Part). ps ++ N.parts) (map-append (seen_part c.maker.terms) parts (p ∷ []))
          ∙ append_assoc (seen_parts c.maker.terms parts) (seen_part c.maker.terms p ∷ []) N.parts
          ∙ ap (λ (ps : List spec.Part). ps ++ (seen_part c.maker.terms p ∷ N.parts)) (parts_kept b.maker.terms c.maker.terms made'.steps.kept parts inv.are)
          ∙ ap (λ (q : spec.Part). seen_parts b.maker.terms parts ++ (q ∷ N.parts)) made'.part
          ∙ ap (λ (x : spec.Along). seen_parts b.maker.terms parts ++ (S.part ∷ x.parts)) same
          ∙ sym (ap (λ (x : spec.Along). seen_parts b.maker.terms parts ++ x.parts) cut)
          ∙ inv.parts;
      owed =
          ap (λ (os : List Owed). os ++ N.owed) made'.steps.owed
          ∙ append_assoc (owed_of b) S.passed.owed N.owed
          ∙ ap (λ (x : spec.Along). owed_of b ++ (S.passed.owed ++ x.owed)) same
          ∙ sym (ap (λ (x : spec.Along). owed_of b ++ x.owed) cut)
          ∙ inv.owed;
    }

-- numbers of what was passed
pub path_turn : (es : List Step) (i : ℕ) (x : Step) (k m n : ℕ) → i < length es → x ≡ get_or es i x → k + exprs_in_path (map seen_step (drop i es)) ≡ n → m ≡ k + exprs_in_step (seen_step x) → m + exprs_in_path (map seen_step (drop (i + 1) es)) ≡ n
path_turn es i x k m n lt is inv node =
    ap (λ (y : ℕ). y + exprs_in_path (map seen_step (drop (i + 1) es))) node ∙ add_assoc k (exprs_in_step (seen_step x)) (exprs_in_path (map seen_step (drop (i + 1) es)))
    ∙ sym (ap (λ (l : List Step). k + exprs_in_path (map seen_step l)) (next_of es i x lt is)) ∙ inv

-- ---- the whole with another value

rebuilt_append : (ps qs : List spec.Part) (v : Term) → spec.rebuilt (ps ++ qs) v ≡ spec.rebuilt ps (spec.rebuilt qs v)
rebuilt_append [] qs v = refl
rebuilt_append (spec.ElementOf whole i ∷ ps) qs v = ap (λ (t : Term). op.with_element whole i t) (rebuilt_append ps qs v)
rebuilt_append (spec.FieldOf name whole ∷ ps) qs v = ap (λ (t : Term). op.with_field name whole t) (rebuilt_append ps qs v)

-- with the parts that are left, all comes out
pub record IsRebuilt (old new : List Plain) (left parts : List Part) (value whole : ℕ) : Type 0 where
  pub kept : Kept old new
  pub are : AreParts old left
  pub within : whole < length new
  pub is : spec.rebuilt (seen_parts old left) (tree_at new whole) ≡ spec.rebuilt (seen_parts old parts) (tree_at old value)

last_part : (nodes : List Plain) (ps : List Part) (p : Part) → AreParts nodes (ps ++ p ∷ []) → IsPart nodes p
last_part nodes [] p all = All-head (IsPart nodes) p [] all
last_part nodes (q ∷ qs) p all = last_part nodes qs p (All-tail (IsPart nodes) q (qs ++ p ∷ []) all)

first_parts : (nodes : List Plain) (ps : List Part) (p : Part) → AreParts nodes (ps ++ p ∷ []) → AreParts nodes ps
first_parts nodes [] p all = All-nil (IsPart nodes)
first_parts nodes (q ∷ qs) p all = All-cons (IsPart nodes) q qs (All-head (IsPart nodes) q (qs ++ p ∷ []) all) (first_parts nodes qs p (All-tail (IsPart nodes) q (qs ++ p ∷ []) all))

pub rebuilt_turn : (old new next : List Plain) (left rest parts : List Part) (p : Part) (value whole made : ℕ) → IsRebuilt old new left parts value whole → left ≡ rest ++ p ∷ []
    → Makes new next made (spec.rebuilt (seen_part new p ∷ []) (tree_at new whole)) → IsRebuilt old next rest parts value made
rebuilt_turn old new next left rest parts p value whole made inv is m =
    let are = subst (λ (ps : List Part). AreParts old ps) is inv.are in
    record {
      kept = kept_on old new next inv.kept m.kept;
      are = first_parts old rest p are;
      within = m.here.within;
      is =
          ap (λ (t : Term). spec.rebuilt (seen_parts old rest) t) (m.here.is ∙ ap (λ (q : spec.Part). spec.rebuilt (q ∷ []) (tree_at new whole)) (part_kept old new inv.kept p (last_part old rest p are)))
          ∙ sym (rebuilt_append (seen_parts old rest) (seen_part old p ∷ []) (tree_at new whole))
          ∙ sym (ap (λ (ps : List spec.Part). spec.rebuilt ps (tree_at new whole)) (ap (λ (ps : List Part). seen_parts old ps) is ∙ map-append (seen_part old) rest (p ∷ [])))
          ∙ inv.is;
    }
