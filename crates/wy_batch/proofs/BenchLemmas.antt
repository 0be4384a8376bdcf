-- What stands on a worker's bench.
use Rattle.std.proofs.Common.{◌≡◌, ◌∙◌, ◌<◌, ◌≤◌, ◌+◌, ℕ, List, [], ◌∷◌, ◌++◌, All, length, get_or, map, take, Option, Some, None, refl, sym, ap, subst, arith}
use Rattle.std.proofs.lemmas.List.{map-append, take_more}
use Rattle.std.proofs.lemmas.List.Elements.{All-head, All-nil, All-push, All-tail, All-weaker}
use Rattle.wy_check.proofs.wy_check_nodes_proofs.fronts_lemmas.FrontLemmas.{front_stays}
use Rattle.wy_search.proofs.wy_search_bounds_proofs.KnownLemmas.{known_stays, noted_agree}
use Rattle.wy_search.proofs.wy_search_bounds_proofs.wy_facts_proofs.SharedLemmas.{entries_stay}
use Rattle.wy_search.specs.Carried.{IsCarried}
use Rattle.wy_search.specs.declared.carried.Carried.{Carried}
use Rattle.wy_search.specs.wy_search_bounds.Known.{AreKnown, lasting_place}
use Rattle.wy_search.specs.wy_search_bounds.declared.known.KnownForms.{KnownForms}
use Rattle.wy_search.specs.wy_search_bounds.wy_facts.Seen.{AreBelow, Stays}
use Rattle.wy_term.specs.Condition.{Condition, Entry, condition_of, entry_of}
use Rattle.wy_term.specs.Copying.{AreCopied}
use Rattle.wy_term.specs.Nodes.{Plain, tree_at}
use Rattle.wy_term.specs.Term.{Term}
use Rattle.wy_term.specs.declared.cond.Cond.{Cond}

-- ---- terms that are as before

pub stays_on : (old mid new : List Plain) → Stays old mid → Stays mid new → Stays old new
stays_on old mid new a b = record {
  grows = omega (arith, a.grows, b.grows);
  trees = λ t lt. b.trees t (omega (arith, lt, a.grows)) ∙ a.trees t lt;
}

pub stays_same : (nodes : List Plain) → Stays nodes nodes
stays_same nodes = record { grows = omega arith; trees = λ t lt. refl }

-- ---- copies

no_copy : (r : ℕ) → (let o : Option ℕ = None in o ≡ Some r) → ⊥
no_copy r e = absurd cc

-- none yet
pub none_copied : (from to : List Plain) (found : ℕ → Option ℕ) → ((q : ℕ) → found q ≡ None) → AreCopied from to found
none_copied from to found none = record { copied = λ q r is. absurd (no_copy r (sym (none q) ∙ is)) }

-- copies stay
pub copied_stays : (from old new : List Plain) (found : ℕ → Option ℕ) → Stays old new → AreCopied from old found → AreCopied from new found
copied_stays from old new found stays are = record {
  copied = λ q r e.
      let m = are.copied q r e in
      let is = m.1 in
      (m.0, record { within = omega (arith, stays.grows, is.within); is = stays.trees r is.within ∙ is.is });
}

-- ---- what a search leaves

pub carried_stays : (old new : List Plain) (c : Carried) → Stays old new → IsCarried old c → IsCarried new c
carried_stays old new c stays is = record { forms = known_stays old new c.forms stays is.forms; front = front_stays old new c.front stays is.front }

-- forms of literals over all terms last
pub floor_raised : (nodes : List Plain) (old : KnownForms) (n : ℕ) → n ≡ length nodes → AreKnown nodes old → AreKnown nodes (record old { floor = n })
floor_raised nodes old n is are = record {
  floor = omega (arith, is);
  lasting = noted_agree old.floor n (tree_at nodes) (tree_at nodes) (lasting_place old.lasting) old.lasting.made.items (λ t lt. refl) (omega (arith, is, are.floor)) are.lasting;
  passing = are.passing;
}

-- ---- lists of copies

trees_stay : (old new : List Plain) (rs : List ℕ) → Stays old new → AreBelow (length old) rs → map (tree_at new) rs ≡ map (tree_at old) rs
trees_stay old new [] stays below = refl
trees_stay old new (r ∷ rs) stays below =
    ap (λ (t : Term). t ∷ map (tree_at new) rs) (stays.trees r (All-head (λ (k : ℕ). k < length old) r rs below))
    ∙ ap (λ (ts : List Term). tree_at old r ∷ ts) (trees_stay old new rs stays (All-tail (λ (k : ℕ). k < length old) r rs below))

pub below_more : (old new : List Plain) (rs all : List ℕ) (r : ℕ) → length old ≤ length new → all ≡ rs ++ r ∷ [] → AreBelow (length old) rs → r < length new → AreBelow (length new) all
below_more old new rs all r grows pushed below lt =
    subst (AreBelow (length new)) (sym pushed)
    (All-push (λ (k : ℕ). k < length new) rs r (All-weaker (λ (k : ℕ). k < length old) (λ (k : ℕ). k < length new) (λ k h. omega (arith, h, grows)) rs below) lt)

-- one copy more
pub trees_more : (from old new : List Plain) (hs rs all : List ℕ) (i r : ℕ) → Stays old new → AreBelow (length old) rs → map (tree_at old) rs ≡ map (tree_at from) (take i hs) → i < length hs → all ≡ rs ++ r ∷ []
    → tree_at new r ≡ tree_at from (get_or hs i 0) → map (tree_at new) all ≡ map (tree_at from) (take (i + 1) hs)
trees_more from old new hs rs all i r stays below so lt pushed here =
    ap (map (tree_at new)) pushed
    ∙ map-append (tree_at new) rs (r ∷ [])
    ∙ ap (λ (ts : List Term). ts ++ tree_at new r ∷ []) (trees_stay old new rs stays below ∙ so)
    ∙ ap (λ (t : Term). map (tree_at from) (take i hs) ++ t ∷ []) here
    ∙ sym (ap (map (tree_at from)) (take_more hs i 0 lt) ∙ map-append (tree_at from) (take i hs) (get_or hs i 0 ∷ []))

pub none_below : (n : ℕ) (rs : List ℕ) → rs ≡ [] → AreBelow n rs
none_below n rs none = subst (AreBelow n) (sym none) (All-nil (λ (k : ℕ). k < n))

-- ---- entries

abbrev pub Triple : Type 0
Triple = ℕ × ℕ × ℕ

-- both terms of an entry are among the first n
abbrev pub IsEntryBelow : ℕ → Triple → Type 0
IsEntryBelow n e = (e.1 < n) × (e.2 < n)

pub entries_below_more : (old new : List Plain) (es all : List Triple) (e : Triple) → length old ≤ length new → all ≡ es ++ e ∷ [] → All (IsEntryBelow (length old)) es → IsEntryBelow (length new) e → All (IsEntryBelow (length new)) all
entries_below_more old new es all e grows pushed below here =
    subst (All (IsEntryBelow (length new))) (sym pushed)
    (All-push (IsEntryBelow (length new)) es e (All-weaker (IsEntryBelow (length old)) (IsEntryBelow (length new)) (λ k h. (omega (arith, h.0, grows), omega (arith, h.1, grows))) es below) here)

pub no_entries : (n : ℕ) (es : List Triple) → es ≡ [] → All (IsEntryBelow n) es
no_entries n es none = subst (All (IsEntryBelow n)) (sym none) (All-nil (IsEntryBelow n))

abbrev entry_with : ℕ → Term → Term → Entry
entry_with n v f = record { type_number = n; name = v; formula = f }

-- the copy of an entry
pub entry_same : (from mid new : List Plain) (d : Triple) (name formula : ℕ) → Stays mid new → name < length mid → tree_at mid name ≡ tree_at from d.1 → tree_at new formula ≡ tree_at from d.2 → entry_of new (d.0, name, formula) ≡ entry_of from d
entry_same from mid new d name formula stays lt a b =
    ap (λ (t : Term). entry_with d.0 t (tree_at new formula)) (stays.trees name lt ∙ a) ∙ ap (entry_with d.0 (tree_at from d.1)) b

-- one entry more
pub entries_more : (from old new : List Plain) (ds es all : List Triple) (i : ℕ) (z e : Triple) → Stays old new → All (IsEntryBelow (length old)) es → map (entry_of old) es ≡ map (entry_of from) (take i ds) → i < length ds → all ≡ es ++ e ∷ []
    → entry_of new e ≡ entry_of from (get_or ds i z) → map (entry_of new) all ≡ map (entry_of from) (take (i + 1) ds)
entries_more from old new ds es all i z e stays below so lt pushed here =
    ap (map (entry_of new)) pushed
    ∙ map-append (entry_of new) es (e ∷ [])
    ∙ ap (λ (fs : List Entry). fs ++ entry_of new e ∷ []) (entries_stay old new es stays below ∙ so)
    ∙ ap (λ (f : Entry). map (entry_of from) (take i ds) ++ f ∷ []) here
    ∙ sym (ap (map (entry_of from)) (take_more ds i z lt) ∙ map-append (entry_of from) (take i ds) (get_or ds i z ∷ []))

-- ---- conditions

abbrev spelled : List Term → Term → List Entry → Condition
spelled hs g es = record { hyps = hs; goal = g; types = es }

-- the copy of a condition says what the condition says
pub same_spelled : (from to : List Plain) (c d : Cond) → map (tree_at to) d.hyps.items ≡ map (tree_at from) c.hyps.items → tree_at to d.goal ≡ tree_at from c.goal → map (entry_of to) d.unfold.list.items ≡ map (entry_of from) c.unfold.list.items
    → condition_of to d ≡ condition_of from c
same_spelled from to c d hyps goal types =
    ap (λ (hs : List Term). spelled hs (tree_at to d.goal) (map (entry_of to) d.unfold.list.items)) hyps
    ∙ ap (λ (g : Term). spelled (map (tree_at from) c.hyps.items) g (map (entry_of to) d.unfold.list.items)) goal
    ∙ ap (spelled (map (tree_at from) c.hyps.items) (tree_at from c.goal)) types

-- trees of numbers that were there before
pub trees_stay_on : (from old new : List Plain) (hs rs : List ℕ) → Stays old new → AreBelow (length old) rs → map (tree_at old) rs ≡ map (tree_at from) hs → map (tree_at new) rs ≡ map (tree_at from) hs
trees_stay_on from old new hs rs stays below so = trees_stay old new rs stays below ∙ so

pub below_stays : (old new : List Plain) (rs : List ℕ) → length old ≤ length new → AreBelow (length old) rs → AreBelow (length new) rs
below_stays old new rs grows below = All-weaker (λ (k : ℕ). k < length old) (λ (k : ℕ). k < length new) (λ k h. omega (arith, h, grows)) rs below
