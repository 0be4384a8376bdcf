-- A tree of steps, line by line.
use Rattle.std.proofs.Common.{◌≡◌, ℕ, ◌+◌, ◌-◌, ◌<◌, ◌≤◌, List, [], ◌∷◌, ◌++◌, Bool, All, map, Result, Ok, Err, refl, ap, ◌∙◌, subst, arith}
use Rattle.std.proofs.lemmas.List.Elements.{All-head, All-tail}
use Rattle.wy_term_text.specs.wy_term.Term.{Term}
use Rattle.wy_cert.specs.declared.fault.CertFault.{CertFault}
use Rattle.wy_cert.specs.declared.fault.CertFault.TheVariants.{BadStep, Truncated}
use Rattle.wy_cert.specs.declared.step.Step.{Step}
use Rattle.wy_cert.specs.declared.step.Step.TheVariants as step
use Rattle.wy_cert.specs.Only.{IsTheOne, HasNone, AreSame}
use Rattle.wy_cert.specs.Steps.{Written, written, IsBelow, children, split, shut, chain, clash, sum_of, cut, inst, wit, fact, prod}
use Rattle.wy_cert.specs.Lines.{IsStep}
use Rattle.wy_cert.specs.File.{IsLine, NoLine, Tree, ReadsTree, whole_tree, tree_ends_early, no_step, one_step}
use Rattle.wy_cert.proofs.OneLemmas.{the_same}
use Rattle.wy_cert.proofs.FirstLine.{one_line, no_line}
use Rattle.wy_cert.proofs.ArgumentLemmas.{map_kept}

-- ---- the ends

abbrev whole : List Written → ℕ → List ℕ → Tree
whole done n text = record { steps = done; line = n; rest = text }

pub complete_only : (products : Bool) (done : List Written) (lacking n : ℕ) (text : List ℕ) (out : Result Tree CertFault) → lacking ≡ 0 → ReadsTree products done lacking n text out → out ≡ Ok (whole done n text)
complete_only products done lacking n text out none (whole_tree d l m t o e is) = is
complete_only products done lacking n text out none (tree_ends_early d l m t o some never is) = absurd (omega (arith, none, some))
complete_only products done lacking n text out none (no_step d l m t o line rest some here never is) = absurd (omega (arith, none, some))
complete_only products done lacking n text out none (one_step d l m t o line rest s some here is more) = absurd (omega (arith, none, some))

pub tree_complete : (products : Bool) (W : Result Tree CertFault → Type 0) (done : List Written) (lacking n : ℕ) (text : List ℕ) → lacking ≡ 0 → AreSame (ReadsTree products done lacking n text) W → IsTheOne W (Ok (whole done n text))
tree_complete products W done lacking n text none same =
    the_same (ReadsTree products done lacking n text) W (Ok (whole done n text)) same (record {
      holds = whole_tree done lacking n text (Ok (whole done n text)) none refl;
      only = λ out h. complete_only products done lacking n text out none h;
    })

pub early_only : (products : Bool) (done : List Written) (lacking n : ℕ) (text : List ℕ) (out : Result Tree CertFault) → 0 < lacking → NoLine text → ReadsTree products done lacking n text out → out ≡ Err (Truncated n)
early_only products done lacking n text out some never (whole_tree d l m t o e is) = absurd (omega (arith, e, some))
early_only products done lacking n text out some never (tree_ends_early d l m t o s q is) = is
early_only products done lacking n text out some never (no_step d l m t o line rest s here q is) = absurd (no_line text line rest never here)
early_only products done lacking n text out some never (one_step d l m t o line rest w s here is more) = absurd (no_line text line rest never here)

pub tree_early : (products : Bool) (W : Result Tree CertFault → Type 0) (done : List Written) (lacking n : ℕ) (text : List ℕ) → 0 < lacking → NoLine text → AreSame (ReadsTree products done lacking n text) W → IsTheOne W (Err (Truncated n))
tree_early products W done lacking n text some never same =
    the_same (ReadsTree products done lacking n text) W (Err (Truncated n)) same (record {
      holds = tree_ends_early done lacking n text (Err (Truncated n)) some never refl;
      only = λ out h. early_only products done lacking n text out some never h;
    })

pub bad_only : (products : Bool) (done : List Written) (lacking n : ℕ) (text line rest : List ℕ) (out : Result Tree CertFault) → 0 < lacking → IsLine text line rest → HasNone (IsStep products line)
    → ReadsTree products done lacking n text out → out ≡ Err (BadStep n)
bad_only products done lacking n text line rest out some here none (whole_tree d l m t o e is) = absurd (omega (arith, e, some))
bad_only products done lacking n text line rest out some here none (tree_ends_early d l m t o s q is) = absurd (no_line text line rest q here)
bad_only products done lacking n text line rest out some here none (no_step d l m t o k r s there q is) = is
bad_only products done lacking n text line rest out some here none (one_step d l m t o k r w s there is more) =
    absurd (none.none w (subst (λ i. IsStep products i w) (one_line text k line r rest there here).line is))

pub tree_bad : (products : Bool) (W : Result Tree CertFault → Type 0) (done : List Written) (lacking n : ℕ) (text line rest : List ℕ) → 0 < lacking → IsLine text line rest → HasNone (IsStep products line)
    → AreSame (ReadsTree products done lacking n text) W → IsTheOne W (Err (BadStep n))
tree_bad products W done lacking n text line rest some here none same =
    the_same (ReadsTree products done lacking n text) W (Err (BadStep n)) same (record {
      holds = no_step done lacking n text (Err (BadStep n)) line rest some here none refl;
      only = λ out h. bad_only products done lacking n text line rest out some here none h;
    })

-- ---- a step

pub step_back : (products : Bool) (done : List Written) (lacking n : ℕ) (text line rest : List ℕ) (out : Result Tree CertFault) (w : Written) → 0 < lacking → IsLine text line rest → IsTheOne (IsStep products line) w
    → ReadsTree products done lacking n text out → ReadsTree products (done ++ w ∷ []) (lacking - 1 + children w) (n + 1) rest out
step_back products done lacking n text line rest out w some here step (whole_tree d l m t o e is) = absurd (omega (arith, e, some))
step_back products done lacking n text line rest out w some here step (tree_ends_early d l m t o s q is) = absurd (no_line text line rest q here)
step_back products done lacking n text line rest out w some here step (no_step d l m t o k r s there q is) =
    absurd (q.none w (subst (λ i. IsStep products i w) (one_line text line k rest r here there).line step.holds))
step_back products done lacking n text line rest out w some here step (one_step d l m t o k r v s there is more) =
    let one = one_line text k line r rest there here in
    let same : v ≡ w = step.only v (subst (λ i. IsStep products i v) one.line is) in
    subst (λ i. ReadsTree products (done ++ w ∷ []) (lacking - 1 + children w) (n + 1) i out) one.rest
    (subst (λ (x : Written). ReadsTree products (done ++ x ∷ []) (lacking - 1 + children x) (n + 1) r out) same more)

pub tree_turn : (products : Bool) (W : Result Tree CertFault → Type 0) (done : List Written) (lacking n : ℕ) (text line rest : List ℕ) (w : Written) → 0 < lacking → IsLine text line rest → IsTheOne (IsStep products line) w
    → AreSame (ReadsTree products done lacking n text) W → AreSame (ReadsTree products (done ++ w ∷ []) (lacking - 1 + children w) (n + 1) rest) W
tree_turn products W done lacking n text line rest w some here step same = record {
  to = λ out h. same.to out (one_step done lacking n text out line rest w some here step.holds h);
  back = λ out h. step_back products done lacking n text line rest out w some here step (same.back out h);
}

-- ---- steps that are named in a longer list

pub written_kept : (new old : ℕ → Term) (n : ℕ) (s : Step) → IsBelow n s → ((k : ℕ) → k < n → new k ≡ old k) → written new s ≡ written old s
written_kept new old n (step.Split f) below kept = let e : new f ≡ old f = kept f below in cc
written_kept new old n step.Shut below kept = refl
written_kept new old n (step.Chain ts) below kept = ap chain (map_kept new old n ts.items below kept)
written_kept new old n (step.Clash i other) below kept = refl
written_kept new old n (step.Sum pairs) below kept = refl
written_kept new old n (step.Cut d pairs) below kept = refl
written_kept new old n (step.Inst i t) below kept = let e : new t ≡ old t = kept t below in cc
written_kept new old n (step.Wit i) below kept = refl
written_kept new old n (step.Fact k ts) below kept = ap (fact k) (map_kept new old n ts.items below kept)
written_kept new old n (step.Prod i j p) below kept = let e : new p ≡ old p = kept p below in cc

pub all_kept : (new old : ℕ → Term) (n : ℕ) (ss : List Step) → All (IsBelow n) ss → ((k : ℕ) → k < n → new k ≡ old k) → map (written new) ss ≡ map (written old) ss
all_kept new old n [] below kept = refl
all_kept new old n (s ∷ ss) below kept =
    let first : written new s ≡ written old s = written_kept new old n s (All-head (IsBelow n) s ss below) kept in
    let others : map (written new) ss ≡ map (written old) ss = all_kept new old n ss (All-tail (IsBelow n) s ss below) kept in
    cc

pub all_lt : (m n : ℕ) (ks : List ℕ) → m ≤ n → All (λ k. k < m) ks → All (λ k. k < n) ks
all_lt m n ks le below j d lt = omega (arith, le, below j d lt)

pub below_more : (m n : ℕ) (s : Step) → m ≤ n → IsBelow m s → IsBelow n s
below_more m n (step.Split f) le below = omega (arith, le, below)
below_more m n step.Shut le below = tt
below_more m n (step.Chain ts) le below = all_lt m n ts.items le below
below_more m n (step.Clash i other) le below = tt
below_more m n (step.Sum pairs) le below = tt
below_more m n (step.Cut d pairs) le below = tt
below_more m n (step.Inst i t) le below = omega (arith, le, below)
below_more m n (step.Wit i) le below = tt
below_more m n (step.Fact k ts) le below = all_lt m n ts.items le below
below_more m n (step.Prod i j p) le below = omega (arith, le, below)

pub all_below_more : (m n : ℕ) (ss : List Step) → m ≤ n → All (IsBelow m) ss → All (IsBelow n) ss
all_below_more m n ss le below k d lt = below_more m n _ le (below k d lt)

written_push : (at : ℕ → Term) (ss : List Step) (s : Step) → map (written at) (ss ++ s ∷ []) ≡ map (written at) ss ++ written at s ∷ []
written_push at [] s = refl
written_push at (x ∷ ss) s = ap (λ ys. written at x ∷ ys) (written_push at ss s)

-- the steps, with one more, where the list of terms has grown
pub steps_pushed : (new old : ℕ → Term) (n : ℕ) (ss more : List Step) (s : Step) → more ≡ ss ++ s ∷ [] → All (IsBelow n) ss → ((k : ℕ) → k < n → new k ≡ old k) → map (written new) more ≡ map (written old) ss ++ written new s ∷ []
steps_pushed new old n ss more s is below kept = ap (map (written new)) is ∙ written_push new ss s ∙ ap (λ ys. ys ++ written new s ∷ []) (all_kept new old n ss below kept)

pub children_small : (w : Written) → children w ≤ 2
children_small (split f) = omega arith
children_small shut = omega arith
children_small (chain ts) = omega arith
children_small (clash i other) = omega arith
children_small (sum_of pairs) = omega arith
children_small (cut d pairs) = omega arith
children_small (inst i t) = omega arith
children_small (wit i) = omega arith
children_small (fact n ts) = omega arith
children_small (prod i j p) = omega arith
