-- The pending formulas that a literal more can refute, one after the other.
use Rattle.std.proofs.Common.{◌≡◌, ◌∙◌, ◌+◌, ◌≤◌, ◌&&◌, ◌||◌, ℕ, zero, suc, Bool, true, false, cond, List, [], ◌∷◌, ◌++◌, map, drop, length, Result, Ok, Err, Some, inl, inr, refl, sym, ap, subst}
use Rattle.std.specs.Prelude.{slice_get, OnOk}
use Rattle.wy_cong.proofs.MoreLemmas.{apart_turned}
use Rattle.wy_cong.proofs.OnceLemmas.{has_once}
use Rattle.wy_cong.specs.Once.{once}
use Rattle.wy_cong.specs.Reached.{refuted_by, seen_unmet, AreEnough, AreWithin, IsWithin, Notes, NotesShared}
use Rattle.wy_cong.specs.Unmet.{with_one, HasOpen, IsFree, IsOpenPart, IsSafeBut, StaysOpen}
use Rattle.wy_cong.specs.declared.unmet.Reached.{Reached}
use Rattle.wy_search_spec.specs.wy_check_spec.judge.Judgement.{judged}
use Rattle.wy_search_spec.specs.wy_check_spec.judge.Node.{Literal, Node, has_formula}
use Rattle.wy_search_spec.specs.wy_check_spec.declared.judge.verdict.Verdict.{Verdict}
use Rattle.wy_search_spec.specs.wy_check_spec.declared.judge.verdict.Verdict.TheVariants.{Yes, No, Open}
use Rattle.wy_check_splits.proofs.wy_check_nodes_proofs.JudgingLemmas.{no_by_sign}
use Rattle.wy_check_splits.specs.wy_check_nodes.Judged.{fails}
use Rattle.wy_check_splits.specs.wy_check_nodes.Seen.{seen_formula}
use Rattle.wy_lemmas.proofs.Choices.{or_none, or_assoc as or_one}
use Rattle.wy_lemmas.proofs.Lists.{drop_here, drop_end}
use Rattle.wy_lemmas.proofs.Options.{some_is}
use Rattle.wy_search_spec.specs.Splitting.{is_open}
use Rattle.wy_term.proofs.SameLemmas.{terms_are}
use Rattle.wy_term.specs.Nodes.{parts_at}
use Rattle.wy_term.specs.Same.{same_term}
use Rattle.wy_term.specs.Term.{Term}
use Rattle.wy_search_spec.specs.wy_check_spec.valid.Literals.{any_no, is_no}

-- ---- lists

pub within_last : (n : ℕ) (u : Reached) (old new : List Reached) → AreWithin n old → IsWithin n u → new ≡ old ++ u ∷ [] → AreWithin n new
within_last n u old new all this made = subst (AreWithin n) (sym made) (go old all)
  where
    go : (us : List Reached) → AreWithin n us → AreWithin n (us ++ u ∷ [])
    go [] h = (this, tt)
    go (v ∷ vs) h = (h.0, go vs h.1)

pub within_at : (n : ℕ) (us : List Reached) (i : ℕ) (u : Reached) → AreWithin n us → slice_get us i ≡ Some u → IsWithin n u
within_at n [] i u all here = absurd (cc)
within_at n (v ∷ vs) zero u all here = subst (IsWithin n) (some_is v u here) all.0
within_at n (v ∷ vs) (suc i) u all here = within_at n vs i u all.1 here

pub where_ok : {X E : Type 0} {P Q : Type 0} (r : Result X E) → (P → Q) → OnOk r P → OnOk r Q
where_ok (Ok x) step h = step h
where_ok (Err e) step h = tt

-- ---- one formula more

refuted_last : (at : ℕ → Term) (ls : List Literal) (us : List Reached) (u : Reached) (a : Term) (holds : Bool)
    → refuted_by at ls (us ++ u ∷ []) a holds ≡ (refuted_by at ls us a holds || (same_term (at u.by) a && is_no (judged (with_one ls a holds) (seen_unmet at u))))
refuted_last at ls [] u a holds = or_none (same_term (at u.by) a && is_no (judged (with_one ls a holds) (seen_unmet at u)))
refuted_last at ls (v ∷ vs) u a holds =
    let this : Bool = same_term (at v.by) a && is_no (judged (with_one ls a holds) (seen_unmet at v)) in
    ap (λ (x : Bool). this || x) (refuted_last at ls vs u a holds)
    ∙ sym (or_one this (refuted_by at ls vs a holds) (same_term (at u.by) a && is_no (judged (with_one ls a holds) (seen_unmet at u))))

this_alone : (s n : Bool) → (s ≡ false → n ≡ false) → (s && n) ≡ n
this_alone true n h = refl
this_alone false n h = sym (h refl)

-- one, with the only atom whose literals refute it
pub notes_one : (at : ℕ → Term) (ls : List Literal) (u : Reached) (old new : List Reached) → IsSafeBut ls (seen_unmet at u) (at u.by) → new ≡ old ++ u ∷ [] → Notes at ls (seen_unmet at u) old new
notes_one at ls u old new but made = λ a holds free.
    ap (λ (us : List Reached). refuted_by at ls us a holds) made
    ∙ refuted_last at ls old u a holds
    ∙ ap (λ (x : Bool). refuted_by at ls old a holds || x)
    (this_alone (same_term (at u.by) a) (is_no (judged (with_one ls a holds) (seen_unmet at u))) (λ e. but a holds free.1 (apart_turned (at u.by) a e)))

-- ---- atoms that stand in both of two lists, one after the other

-- what is noted, and what the rest of the first list brings, is what the whole brings
abbrev pub Leads : (ℕ → Term) → Term → List Term → List Term → List Term → List Reached → List Reached → Type 0
Leads at g xs ys rest old new =
    (ls : List Literal) (a : Term) (holds : Bool) → (refuted_by at ls new a holds || ((has_formula rest a && has_formula ys a) && is_no (judged (with_one ls a holds) g)))
    ≡ (refuted_by at ls old a holds || ((has_formula xs a && has_formula ys a) && is_no (judged (with_one ls a holds) g)))

passed_by : (s r y n : Bool) → (s ≡ true → y ≡ false) → ((r && y) && n) ≡ ((cond s true r && y) && n)
passed_by false r y n h = refl
passed_by true r true n h = let e : true ≡ false = h refl in absurd (cc)
passed_by true true false n h = refl
passed_by true false false n h = refl

pub shared_without : (at : ℕ → Term) (g : Term) (ks : List ℕ) (i k : ℕ) (xs ys : List Term) (old new : List Reached) → slice_get ks i ≡ Some k → has_formula ys (at k) ≡ false
    → Leads at g xs ys (map at (drop i ks)) old new → Leads at g xs ys (map at (drop (i + 1) ks)) old new
shared_without at g ks i k xs ys old new here un_so leads = λ ls a holds.
    let n : Bool = is_no (judged (with_one ls a holds) g) in
    let rest : List Term = map at (drop (i + 1) ks) in
    ap (λ (x : Bool). refuted_by at ls new a holds || x)
    (passed_by (same_term (at k) a) (has_formula rest a) (has_formula ys a) n (λ s. ap (has_formula ys) (sym (terms_are (at k) a s)) ∙ un_so))
    ∙ sym (ap (λ (js : List ℕ). refuted_by at ls new a holds || ((has_formula (map at js) a && has_formula ys a) && n)) (drop_here ks i k here))
    ∙ leads ls a holds

taken_in : (o s r y n : Bool) → (s ≡ true → y ≡ true) → ((o || (s && n)) || ((r && y) && n)) ≡ (o || ((cond s true r && y) && n))
taken_in true s r y n h = refl
taken_in false false r y n h = refl
taken_in false true r false n h = let e : false ≡ true = h refl in absurd (cc)
taken_in false true true true true h = refl
taken_in false true true true false h = refl
taken_in false true false true true h = refl
taken_in false true false true false h = refl

pub shared_with : (at : ℕ → Term) (g : Term) (ks : List ℕ) (i k : ℕ) (xs ys : List Term) (u : Reached) (old now new : List Reached) → slice_get ks i ≡ Some k → has_formula ys (at k) ≡ true
    → u.by ≡ k → seen_unmet at u ≡ g → new ≡ now ++ u ∷ []
    → Leads at g xs ys (map at (drop i ks)) old now → Leads at g xs ys (map at (drop (i + 1) ks)) old new
shared_with at g ks i k xs ys u old now new here up by is made leads = λ ls a holds.
    let n : Bool = is_no (judged (with_one ls a holds) g) in
    let rest : List Term = map at (drop (i + 1) ks) in
    let put : refuted_by at ls new a holds ≡ (refuted_by at ls now a holds || (same_term (at k) a && n)) =
    ap (λ (us : List Reached). refuted_by at ls us a holds) made
    ∙ refuted_last at ls now u a holds
    ∙ ap (λ (j : ℕ). refuted_by at ls now a holds || (same_term (at j) a && is_no (judged (with_one ls a holds) (seen_unmet at u)))) by
    ∙ ap (λ (f : Term). refuted_by at ls now a holds || (same_term (at k) a && is_no (judged (with_one ls a holds) f))) is in
    ap (λ (x : Bool). x || ((has_formula rest a && has_formula ys a) && n)) put
    ∙ taken_in (refuted_by at ls now a holds) (same_term (at k) a) (has_formula rest a) (has_formula ys a) n (λ s. ap (has_formula ys) (sym (terms_are (at k) a s)) ∙ up)
    ∙ sym (ap (λ (js : List ℕ). refuted_by at ls now a holds || ((has_formula (map at js) a && has_formula ys a) && n)) (drop_here ks i k here))
    ∙ leads ls a holds

pub shared_end : (at : ℕ → Term) (g : Term) (ks : List ℕ) (i : ℕ) (xs ys : List Term) (old new : List Reached) → length ks ≤ i → Leads at g xs ys (map at (drop i ks)) old new → NotesShared at g xs ys old new
shared_end at g ks i xs ys old new le leads = λ ls a holds.
    sym (or_none (refuted_by at ls new a holds))
    ∙ sym (ap (λ (js : List ℕ). refuted_by at ls new a holds || ((has_formula (map at js) a && has_formula ys a) && is_no (judged (with_one ls a holds) g))) (drop_end ks i le))
    ∙ leads ls a holds

-- of formulas whose atoms are listed once each
pub shared_in : (at : ℕ → Term) (g : Term) (xs ys fs gs : List Term) (old new : List Reached) → xs ≡ once [] fs → ys ≡ once [] gs → NotesShared at g xs ys old new → NotesShared at g fs gs old new
shared_in at g xs ys fs gs old new one other shared = λ ls a holds.
    let n : Bool = is_no (judged (with_one ls a holds) g) in
    let here : has_formula xs a ≡ has_formula fs a = ap (λ (ts : List Term). has_formula ts a) one ∙ has_once [] fs a in
    let there : has_formula ys a ≡ has_formula gs a = ap (λ (ts : List Term). has_formula ts a) other ∙ has_once [] gs a in
    shared ls a holds
    ∙ ap (λ (x : Bool). refuted_by at ls old a holds || ((x && has_formula ys a) && n)) here
    ∙ ap (λ (x : Bool). refuted_by at ls old a holds || ((has_formula fs a && x) && n)) there

-- ---- one pending formula after the other

-- what is left and what comes are judged as all is, with a literal more
abbrev pub SoFar : (ℕ → Term) → List Literal → List Term → List Reached → List (ℕ × Bool) → Type 0
SoFar at ls fs left ps = (a : Term) (holds : Bool) → IsFree ls a → (refuted_by at ls left a holds || any_no (with_one ls a holds) (map (seen_formula at) ps)) ≡ any_no (with_one ls a holds) fs

pub enough_next : (at : ℕ → Term) (ls : List Literal) (fs : List Term) (ps : List (ℕ × Bool)) (i : ℕ) (p : ℕ × Bool) (old new : List Reached) → slice_get ps i ≡ Some p → Notes at ls (seen_formula at p) old new
    → SoFar at ls fs old (drop i ps) → SoFar at ls fs new (drop (i + 1) ps)
enough_next at ls fs ps i p old new here notes so = λ a holds free.
    let rest : Bool = any_no (with_one ls a holds) (map (seen_formula at) (drop (i + 1) ps)) in
    ap (λ (x : Bool). x || rest) (notes a holds free)
    ∙ or_one (refuted_by at ls old a holds) (is_no (judged (with_one ls a holds) (seen_formula at p))) rest
    ∙ sym (ap (λ (qs : List (ℕ × Bool)). refuted_by at ls old a holds || any_no (with_one ls a holds) (map (seen_formula at) qs)) (drop_here ps i p here))
    ∙ so a holds free

pub enough_end : (at : ℕ → Term) (node : Node) (ps : List (ℕ × Bool)) (left : List Reached) (i : ℕ) → length ps ≤ i → SoFar at node.literals node.pending left (drop i ps) → AreEnough at node left
enough_end at node ps left i le so = λ a holds free.
    sym (or_none (refuted_by at node.literals left a holds))
    ∙ sym (ap (λ (qs : List (ℕ × Bool)). refuted_by at node.literals left a holds || any_no (with_one node.literals a holds) (map (seen_formula at) qs)) (drop_end ps i le))
    ∙ so a holds free

pub by_verdict : (at : ℕ → Term) (ls : List Literal) (p : ℕ × Bool) (v : Verdict) → v ≡ judged ls (at p.0) → is_no (judged ls (seen_formula at p)) ≡ fails v p.1
by_verdict at ls p v is = no_by_sign ls (at p.0) p.1 ∙ ap (λ (w : Verdict). fails w p.1) (sym is)

pub no_at : (at : ℕ → Term) (ls : List Literal) (ps : List (ℕ × Bool)) (i : ℕ) (p : ℕ × Bool) → slice_get ps i ≡ Some p → is_no (judged ls (seen_formula at p)) ≡ true → any_no ls (map (seen_formula at) ps) ≡ true
no_at at ls [] i p here up = absurd (cc)
no_at at ls (q ∷ qs) zero p here up =
    ap (λ (b : Bool). b || any_no ls (map (seen_formula at) qs)) (ap (λ (r : ℕ × Bool). is_no (judged ls (seen_formula at r))) (some_is q p here) ∙ up)
no_at at ls (q ∷ qs) (suc i) p here up = ap (λ (b : Bool). is_no (judged ls (seen_formula at q)) || b) (no_at at ls qs i p here up) ∙ or_so (is_no (judged ls (seen_formula at q)))
  where
    or_so : (x : Bool) → (x || true) ≡ true
    or_so true = refl
    or_so false = refl

-- ---- members

pub open_here : (at : ℕ → Term) (ls : List Literal) (ks : List ℕ) (i k : ℕ) (c : Term) → slice_get ks i ≡ Some k → StaysOpen ls (at k) c → HasOpen ls (parts_at at ks) c
open_here at ls [] i k c here stays = absurd (cc)
open_here at ls (j ∷ js) zero k c here stays = inl (subst (λ (m : ℕ). StaysOpen ls (at m) c) (sym (some_is j k here)) stays)
open_here at ls (j ∷ js) (suc i) k c here stays = inr (open_here at ls js i k c here stays)

open_is : (v : Verdict) → is_open v ≡ true → v ≡ Open
open_is Yes up = absurd (cc)
open_is No up = absurd (cc)
open_is Open up = refl

pub part_here : (at : ℕ → Term) (ls : List Literal) (ks : List ℕ) (i k : ℕ) (v : Verdict) → slice_get ks i ≡ Some k → v ≡ judged ls (at k) → is_open v ≡ true → IsOpenPart ls (parts_at at ks) (at k)
part_here at ls [] i k v here is up = absurd (cc)
part_here at ls (j ∷ js) zero k v here is up = inl (ap at (some_is j k here), sym is ∙ open_is v up)
part_here at ls (j ∷ js) (suc i) k v here is up = inr (part_here at ls js i k v here is up)
