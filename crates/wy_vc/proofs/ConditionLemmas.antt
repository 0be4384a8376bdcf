-- The conditions of a program.
use Rattle.std.proofs.Common.{Vec, ◌≡◌, ◌<◌, ◌≤◌, ◌+◌, ◌⊎◌, inl, inr, ℕ, zero, suc, Bool, true, false, List, [], ◌∷◌, ◌++◌, All, length, take, drop, map, refl, sym, ◌∙◌, ap, subst, arith}
use Rattle.std.specs.declared.alloc.Global.{Global}
use Rattle.std.specs.Prelude.{nat_lt, if◌then◌else◌}
use Rattle.std.proofs.lemmas.Bool.{lt-ltb, ltb-false, ltb-true}
use Rattle.std.proofs.lemmas.List.{append-nil, append_assoc, drop_all, length-map, length-take, map-append, take-append-drop}
use Rattle.std.proofs.lemmas.List.Elements.{All-cons, All-head, All-nil, All-tail, All-take, All-weaker}
use Rattle.wy_core.specs.CoreSeen.{seen_core}
use Rattle.wy_core.specs.CoreTree as tree
use Rattle.wy_core.specs.CoreTree.{routines_of}
use Rattle.wy_core.specs.declared.declarations.Core.{Core}
use Rattle.wy_term.specs.Term.{Term}
use Rattle.wy_term.specs.Nodes.{Plain}
use Rattle.wy_term.specs.Unfolding.{AreListedOnce, IsUnlisted}
use Rattle.wy_term.specs.declared.cond.Cond.{Cond}
use Rattle.wy_vc_spec.specs.Limits as limits
use Rattle.wy_vc_spec.specs.Limits.{is_among, rising_among, unfolded}
use Rattle.wy_vc_spec.specs.Numbered.{Node, numbered_core}
use Rattle.wy_vc_spec.specs.Owed.{Owed}
use Rattle.wy_vc_spec.specs.Programs as programs
use Rattle.wy_vc_spec.specs.Values.{Setting}
use Rattle.wy_vc_spec.specs.Walks as walks
use Rattle.wy_flow_spec.specs.typing.TypedPrograms.{Triple, core_of, flow_of}
use Rattle.wy_vc_body.specs.Frames as frames
use Rattle.wy_vc.specs.Counted.{passing_told}
use Rattle.wy_vc.specs.Told.{Told, seen_cond, told}
use Rattle.wy_vc_tables.specs.program_names.Described.{setting}
use Rattle.wy_vc_tables.specs.declared.program_names.program.Program.{Program}
use Rattle.wy_vc_body.specs.wy_vc_operations.Growing.{Kept}
use Rattle.wy_vc_body.specs.wy_vc_exprs.State.{IsGoal, IsSound, owed_of, seen_goal}
use Rattle.wy_vc_body.specs.wy_vc_exprs.declared.goal.Goal.{Goal}
use Rattle.wy_vc_body.specs.wy_vc_exprs.declared.walk.Walk.{Walk}
use Rattle.wy_vc_body.proofs.wy_vc_exprs_proofs.StateLemmas.{goal_kept, goals_kept}
use Rattle.wy_vc.specs.Entering.{OwesFirst}
use Rattle.wy_vc_body.specs.wy_vc_operations.Growing.{AreBelow}
use Rattle.wy_vc_body.specs.wy_vc_terms.declared.maker.Maker.{Maker}
use Rattle.wy_vc.specs.Listed.{AreFirst, HasTypesOnce, limit_of, owed_by, setting_in, told_of}

-- ---- the list

-- what the program's tables say is what the definition goes by
setting_is : (typed : Triple) (core : Core) (p : Program) → seen_core core ≡ core_of typed → setting core p ≡ programs.setting_of (numbered_core (seen_core core)) (flow_of typed) → setting core p ≡ setting_in typed
setting_is typed core p same is = is ∙ ap (λ (c : tree.Core ℕ). programs.setting_of (numbered_core c) (flow_of typed)) same

abbrev program_with : Setting Node → Core → walks.Program Node
program_with s core = record { setting = s; routines = routines_of (numbered_core (seen_core core)) }

owed_is : (typed : Triple) (core : Core) (p : Program) → seen_core core ≡ core_of typed → setting core p ≡ programs.setting_of (numbered_core (seen_core core)) (flow_of typed)
    → programs.decls_conditions (frames.program_of core p) (numbered_core (seen_core core)) ≡ owed_by typed
owed_is typed core p same is =
    ap (λ (s : Setting Node). programs.decls_conditions (program_with s core) (numbered_core (seen_core core))) is ∙ ap (λ (c : tree.Core ℕ). programs.conditions_of c (flow_of typed)) same

-- of what is kept of the goals
pub first_is : (typed : Triple) (core : Core) (p : Program) (w : Walk) (new : List Plain) (list : List Cond) → seen_core core ≡ core_of typed → setting core p ≡ programs.setting_of (numbered_core (seen_core core)) (flow_of typed)
    → IsSound w → Kept w.maker.terms new
    → map (seen_cond new) list ≡ map (told (setting core p)) (map (seen_goal new) w.owed.items) → map (seen_cond new) list ≡ map (told (setting_in typed)) (owed_of w)
first_is typed core p w new list same is sound kept told_is =
    told_is
    ∙ ap (λ (os : List Owed). map (told (setting core p)) os) (goals_kept w.maker.terms new kept w.owed.items sound.owed)
    ∙ ap (λ (s : Setting Node). map (told s) (owed_of w)) (setting_is typed core p same is)

pub are_first : (typed : Triple) (core : Core) (p : Program) (w : Walk) → seen_core core ≡ core_of typed → setting core p ≡ programs.setting_of (numbered_core (seen_core core)) (flow_of typed)
    → AreFirst (owed_of w) (programs.decls_conditions (frames.program_of core p) (numbered_core (seen_core core))) → AreFirst (owed_of w) (owed_by typed)
are_first typed core p w same is first = subst (λ (all : List Owed). AreFirst (owed_of w) all) (owed_is typed core p same is) first

-- the goals' numbers are those of terms
pub goals_on : (w : Walk) (new : List Plain) → IsSound w → Kept w.maker.terms new → All (IsGoal new) w.owed.items
goals_on w new sound kept = All-weaker (IsGoal w.maker.terms) (IsGoal new) (goal_kept w.maker.terms new kept) w.owed.items sound.owed

-- ---- the limits

-- of what is told as of what is owed
told_passing : (s : Setting Node) (before : List Term) (k : ℕ) (cs : List Owed) → passing_told before k (map (told s) cs) ≡ limits.passing_from s before k cs
told_passing s before k [] = refl
told_passing s before k (c ∷ cs) =
    ap (λ (p : limits.Passing). if nat_lt limits.most_conditions k then limits.TooMany else (if limits.is_too_large s before c then limits.TooLarge k else p)) (told_passing s (before ++ limits.terms_of s c) (suc k) cs)

-- up to so many conditions, and one more, the others change nothing
first_passing : (s : Setting Node) (before : List Term) (k : ℕ) (os rest : List Owed) → k ≤ limits.most_conditions → (rest ≡ []) ⊎ (limits.most_conditions < k + length os)
    → limits.passing_from s before (suc k) os ≡ limits.passing_from s before (suc k) (os ++ rest)
first_passing s before k [] rest le (inl none) = ap (λ (l : List Owed). limits.passing_from s before (suc k) l) (sym none)
first_passing s before k [] rest le (inr past) = absurd (omega (arith, le, past))
first_passing s before k (o ∷ os) rest le w =
    same_unless (nat_lt limits.most_conditions (suc k)) limits.TooMany
    (λ few. ap (λ (p : limits.Passing). if limits.is_too_large s before o then limits.TooLarge (suc k) else p) (first_passing s (before ++ limits.terms_of s o) (suc k) os rest (ltb-false limits.most_conditions (suc k) few) (behind w)))
  where
    same_unless : {a b : limits.Passing} (c : Bool) (x : limits.Passing) → (c ≡ false → a ≡ b) → (if c then x else a) ≡ (if c then x else b)
    same_unless true x f = refl
    same_unless false x f = f refl

    behind : (rest ≡ []) ⊎ (limits.most_conditions < k + suc (length os)) → (rest ≡ []) ⊎ (limits.most_conditions < suc k + length os)
    behind (inl none) = inl none
    behind (inr past) = inr (omega (arith, past))

-- where the limits are kept there are few enough
pub few_if : (n k m : ℕ) (many large : Bool) (left : limits.Passing) → (many ≡ false → n ≤ m) → (n ≤ m → left ≡ limits.Within → n + k ≤ m) → (if many then limits.TooMany else (if large then limits.TooLarge n else left)) ≡ limits.Within → n + k ≤ m
few_if n k m true large left less rest is = absurd (let e : limits.TooMany ≡ limits.Within = is in cc)
few_if n k m false true left less rest is = absurd (let e : limits.TooLarge n ≡ limits.Within = is in cc)
few_if n k m false false left less rest is = rest (less refl) is

pub few_within : (s : Setting Node) (before : List Term) (k : ℕ) (os : List Owed) → k ≤ limits.most_conditions → limits.passing_from s before (suc k) os ≡ limits.Within → k + length os ≤ limits.most_conditions
few_within s before k [] le is = omega (arith, le)
few_within s before k (o ∷ os) le is =
    let n : suc k + length os ≤ limits.most_conditions =
    few_if (suc k) (length os) limits.most_conditions (nat_lt limits.most_conditions (suc k)) (limits.is_too_large s before o) (limits.passing_from s (before ++ limits.terms_of s o) (suc (suc k)) os)
    (λ few. ltb-false limits.most_conditions (suc k) few) (λ next so. few_within s (before ++ limits.terms_of s o) (suc k) os next so) is in
    omega (arith, n)

-- the limit that the first conditions pass is that of all
pub limit_is : (typed : Triple) (os : List Owed) (ts : List Told) → AreFirst os (owed_by typed) → ts ≡ map (told (setting_in typed)) os → passing_told [] 1 ts ≡ limit_of typed
limit_is typed os ts first is =
    ap (λ (l : List Told). passing_told [] 1 l) is ∙ told_passing (setting_in typed) [] 1 os
    ∙ first_passing (setting_in typed) [] 0 os first.rest (omega arith) (counted first.whole)
    ∙ ap (λ (l : List Owed). limits.passing_from (setting_in typed) [] 1 l) first.is
  where
    counted : (first.rest ≡ []) ⊎ (nat_lt limits.most_conditions (length os) ≡ true) → (first.rest ≡ []) ⊎ (limits.most_conditions < 0 + length os)
    counted (inl none) = inl none
    counted (inr past) = inr (let lt = ltb-true limits.most_conditions (length os) past in omega (arith, lt))

-- where the limits are kept, the first conditions are all
pub list_is : (typed : Triple) (os : List Owed) (ts : List Told) → AreFirst os (owed_by typed) → ts ≡ map (told (setting_in typed)) os → passing_told [] 1 ts ≡ limits.Within → ts ≡ told_of typed
list_is typed os ts first is within =
    is ∙ ap (λ (l : List Owed). map (told (setting_in typed)) l) (sym (append-nil os) ∙ ap (λ (l : List Owed). os ++ l) (sym (none first.whole)) ∙ first.is)
  where
    few : length os ≤ limits.most_conditions
    few =
        let le = few_within (setting_in typed) [] 0 os (omega arith) (sym (told_passing (setting_in typed) [] 1 os) ∙ ap (λ (l : List Told). passing_told [] 1 l) (sym is) ∙ within) in
        omega (arith, le)

    none : (first.rest ≡ []) ⊎ (nat_lt limits.most_conditions (length os) ≡ true) → first.rest ≡ []
    none (inl e) = e
    none (inr past) = let lt = ltb-true limits.most_conditions (length os) past in let le = few in absurd (omega (arith, lt, le))

-- ---- what is kept of the goals

pub cut_sound : (a b : Walk) → b.maker ≡ a.maker → b.hyps ≡ a.hyps → b.owed.items ≡ take (suc limits.most_conditions) a.owed.items → IsSound a → IsSound b
cut_sound a b maker hyps owed sound = record {
  hyps = subst (λ (m : Maker). AreBelow (length m.terms) b.hyps.items) (sym maker) (subst (λ (hs : Vec ℕ Global). AreBelow (length a.maker.terms) hs.items) (sym hyps) sound.hyps);
  owed = subst (λ (m : Maker). All (IsGoal m.terms) b.owed.items) (sym maker) (subst (λ (gs : List Goal). All (IsGoal a.maker.terms) gs) (sym owed) (All-take (IsGoal a.maker.terms) (suc limits.most_conditions) a.owed.items sound.owed));
}

pub cut_first : (z a b : Walk) (all : List Owed) → b.maker ≡ a.maker → b.owed.items ≡ take (suc limits.most_conditions) a.owed.items → owed_of z ≡ [] → OwesFirst limits.most_conditions z a all → AreFirst (owed_of b) all
cut_first z a b all maker owed none o = record {
  rest = map S behind ++ o.rest;
  is = ap (λ (os : List Owed). os ++ (map S behind ++ o.rest)) kept ∙ sym (append_assoc (map S front) (map S behind) o.rest) ∙ ap (λ (os : List Owed). os ++ o.rest) (sym (map-append S front behind) ∙ ap (λ (gs : List Goal). map S gs) (take-append-drop (suc limits.most_conditions) items)) ∙ o.owed ∙ ap (λ (os : List Owed). os ++ all) none;
  whole = by_count (nat_lt limits.most_conditions (length items)) refl o.whole;
}
  where
    S : Goal → Owed
    S = seen_goal a.maker.terms

    items : List Goal
    items = a.owed.items

    front : List Goal
    front = take (suc limits.most_conditions) a.owed.items

    behind : List Goal
    behind = drop (suc limits.most_conditions) a.owed.items

    kept : owed_of b ≡ map S front
    kept = ap (λ (m : Maker). map (seen_goal m.terms) b.owed.items) maker ∙ ap (λ (gs : List Goal). map S gs) owed

    long : limits.most_conditions < length items → nat_lt limits.most_conditions (length (owed_of b)) ≡ true
    long past = lt-ltb limits.most_conditions (length (owed_of b)) (let n = ap length kept ∙ length-map front S ∙ length-take (suc limits.most_conditions) items in omega (arith, n, past))

    by_count : (c : Bool) → nat_lt limits.most_conditions (length items) ≡ c → (o.rest ≡ []) ⊎ (nat_lt limits.most_conditions (length items) ≡ true)
        → (map S behind ++ o.rest ≡ []) ⊎ (nat_lt limits.most_conditions (length (owed_of b)) ≡ true)
    by_count true past w = inr (long (ltb-true limits.most_conditions (length items) past))
    by_count false few (inr past) = inr (long (ltb-true limits.most_conditions (length items) past))
    by_count false few (inl e) =
        let le = ltb-false limits.most_conditions (length items) few in
        inl (ap (λ (gs : List Goal). map S gs ++ o.rest) (drop_all (suc limits.most_conditions) items (omega (arith, le))) ∙ e)

-- ---- each type once

unlisted_if : (s : Setting Node) (m n : ℕ) (ns : List ℕ) → m < n → IsUnlisted m (map (unfolded s) ns) → (b : Bool) → IsUnlisted m (map (unfolded s) (if b then n ∷ ns else ns))
unlisted_if s m n ns lt rest true = ((λ e. omega (arith, e, lt)), rest)
unlisted_if s m n ns lt rest false = rest

unlisted : (s : Setting Node) (ns : List ℕ) (m from j : ℕ) → m < from → IsUnlisted m (map (unfolded s) (rising_among ns from j))
unlisted s ns m from zero lt = tt
unlisted s ns m from (suc j) lt = unlisted_if s m from (rising_among ns (suc from) j) lt (unlisted s ns m (suc from) j (omega (arith, lt))) (is_among ns from)

once_if : (s : Setting Node) (n : ℕ) (ns : List ℕ) → IsUnlisted n (map (unfolded s) ns) → AreListedOnce (map (unfolded s) ns) → (b : Bool) → AreListedOnce (map (unfolded s) (if b then n ∷ ns else ns))
once_if s n ns here rest true = (here, rest)
once_if s n ns here rest false = rest

rising_once : (s : Setting Node) (ns : List ℕ) (from j : ℕ) → AreListedOnce (map (unfolded s) (rising_among ns from j))
rising_once s ns from zero = tt
rising_once s ns from (suc j) = once_if s from (rising_among ns (suc from) j) (unlisted s ns from (suc from) j (omega arith)) (rising_once s ns (suc from) j) (is_among ns from)

-- what is told of a condition has each type once
abbrev IsOnce : Told → Type 0
IsOnce t = AreListedOnce t.condition.types

told_once : (s : Setting Node) (cs : List Owed) → All IsOnce (map (told s) cs)
told_once s [] = All-nil IsOnce
told_once s (c ∷ cs) = All-cons IsOnce (told s c) (map (told s) cs) (rising_once s (limits.mentioned s (length s.types) (limits.tests_in_all (c.hyps ++ c.goal ∷ []))) 0 (length s.types)) (told_once s cs)

seen_once : (nodes : List Plain) (list : List Cond) → All IsOnce (map (seen_cond nodes) list) → All (HasTypesOnce nodes) list
seen_once nodes [] are = All-nil (HasTypesOnce nodes)
seen_once nodes (c ∷ list) are = All-cons (HasTypesOnce nodes) c list (All-head IsOnce (seen_cond nodes c) (map (seen_cond nodes) list) are) (seen_once nodes list (All-tail IsOnce (seen_cond nodes c) (map (seen_cond nodes) list) are))

pub types_once : (typed : Triple) (os : List Owed) (nodes : List Plain) (list : List Cond) → map (seen_cond nodes) list ≡ map (told (setting_in typed)) os → All (HasTypesOnce nodes) list
types_once typed os nodes list is = seen_once nodes list (subst (λ (l : List Told). All IsOnce l) (sym is) (told_once (setting_in typed) os))
