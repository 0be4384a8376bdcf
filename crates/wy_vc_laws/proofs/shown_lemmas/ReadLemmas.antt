-- Steps, certificates and files that are read have sorted terms.
use Rattle.std.proofs.Common.{ℕ, ◌+◌, ◌-◌, List, [], ◌∷◌, ◌++◌, Bool, true, false, Option, Some, None, inl, inr, Result, Ok, Err, sym, subst}
use Rattle.wy_check_laws.specs.wy_term.Term.{Term}
use Rattle.wy_check_laws.specs.wy_term.Sorts.{int_sort, val_sort, formula_sort}
use Rattle.wy_sound_terms.specs.wy_term_subst.sorted.Sorted.{IsSorted}
use Rattle.wy_check_laws.specs.wy_cert.declared.verb.Verb.{Verb}
use Rattle.wy_check_laws.specs.wy_cert.declared.verb.Verb.TheVariants as verb
use Rattle.wy_check_laws.specs.wy_cert.declared.fault.CertFault.{CertFault}
use Rattle.wy_check_laws.specs.wy_cert.Steps.{Written, Certificates, children}
use Rattle.wy_check_laws.specs.wy_cert.Arguments.{IsTerm, IsArgument, FollowBy, AreArguments}
use Rattle.wy_check_laws.specs.wy_cert.Lines.{IsBody, IsStep}
use Rattle.wy_check_laws.specs.wy_cert.File.{Tree, ReadsTree, whole_tree, tree_ends_early, no_step, one_step, ReadsCerts, ends_early, complete, goes_behind_end, outside, twice, absent, bad_tree, goes_on, first, second, no_header}
use Rattle.wy_check_laws.specs.sound.Sortedness.{AreSortedTerms, IsSortedStep, AreSortedSteps}
use Rattle.wy_vc_laws.specs.shown.ReadSorted.{AreSortedCertificates, ReadsSorted}
use Rattle.wy_vc_laws.proofs.shown_lemmas.SpelledLemmas.{spelled_sorted}

-- ---- arguments

term_sorted : (text : List ℕ) (t : Term) → IsTerm text t → IsSorted t
term_sorted text t (inl h) = (spelled_sorted int_sort text t h).0
term_sorted text t (inr h) = (spelled_sorted val_sort text t h).0

argument_sorted : (formulas : Bool) (text : List ℕ) (t : Term) → IsArgument formulas text t → IsSorted t
argument_sorted false text t h = term_sorted text t h
argument_sorted true text t (inl h) = term_sorted text t h
argument_sorted true text t (inr h) = (spelled_sorted formula_sort text t h.1).0

followed_sorted : (formulas : Bool) (more : Option (List ℕ)) (ts : List Term) → ((rest : List ℕ) → AreArguments formulas rest ts → AreSortedTerms ts) → FollowBy (λ rest. AreArguments formulas rest ts) more ts → AreSortedTerms ts
followed_sorted formulas None ts later h = subst AreSortedTerms (sym h) tt
followed_sorted formulas (Some rest) ts later h = later rest h

arguments_sorted : (formulas : Bool) (text : List ℕ) (ts : List Term) → AreArguments formulas text ts → AreSortedTerms ts
arguments_sorted formulas text [] h = absurd h
arguments_sorted formulas text (t ∷ ts) h = (argument_sorted formulas h.0 t h.3, followed_sorted formulas h.1 ts (λ rest g. arguments_sorted formulas rest ts g) h.4)

-- ---- steps

body_sorted : (products : Bool) (kind : Verb) (text : List ℕ) (w : Written) → IsBody products kind text w → IsSortedStep w
body_sorted products verb.Split text w h = subst IsSortedStep (sym h.is) (spelled_sorted formula_sort text h.formula h.spelled)
body_sorted products verb.Shut text w h = subst IsSortedStep (sym h.is) tt
body_sorted products verb.Chain text w h = subst IsSortedStep (sym h.is) (arguments_sorted false text h.terms h.spelled)
body_sorted products verb.Clash text w h = subst IsSortedStep (sym h.is) tt
body_sorted products verb.Sum text w h = subst IsSortedStep (sym h.is) tt
body_sorted products verb.Cut text w h = subst IsSortedStep (sym h.is) tt
body_sorted products verb.Inst text w h = subst IsSortedStep (sym h.is) (spelled_sorted int_sort h.rest h.term h.spelled).0
body_sorted products verb.Wit text w h = subst IsSortedStep (sym h.is) tt
body_sorted products verb.Fact text w h = subst IsSortedStep (sym h.is) (arguments_sorted true h.rest h.arguments h.spelled)
body_sorted products verb.Prod text w h = subst IsSortedStep (sym h.is) (spelled_sorted int_sort h.rest h.term h.spelled).0

step_sorted : (products : Bool) (line : List ℕ) (w : Written) → IsStep products line w → IsSortedStep w
step_sorted products line w h = body_sorted products h.kind h.text w h.body

steps_push : (steps : List Written) (s : Written) → AreSortedSteps steps → IsSortedStep s → AreSortedSteps (steps ++ s ∷ [])
steps_push [] s h g = (g, tt)
steps_push (x ∷ xs) s h g = (h.0, steps_push xs s h.1 g)

certs_push : (certs : Certificates) (n : ℕ) (steps : List Written) → AreSortedCertificates certs → AreSortedSteps steps → AreSortedCertificates (certs ++ (n, steps) ∷ [])
certs_push [] n steps h g = (g, tt)
certs_push (c ∷ cs) n steps h g = (h.0, certs_push cs n steps h.1 g)

-- ---- trees

abbrev TreeSorted : Result Tree CertFault → Type 0
TreeSorted (Ok tree) = AreSortedSteps tree.steps
TreeSorted (Err fault) = Unit {0}

tree_sorted : (products : Bool) (done : List Written) (lacking n : ℕ) (text : List ℕ) (out : Result Tree CertFault) → AreSortedSteps done → ReadsTree products done lacking n text out → TreeSorted out
tree_sorted products done lacking n text out h (whole_tree _ _ _ _ _ none is) = subst TreeSorted (sym is) h
tree_sorted products done lacking n text out h (tree_ends_early _ _ _ _ _ some line is) = subst TreeSorted (sym is) tt
tree_sorted products done lacking n text out h (no_step _ _ _ _ _ line rest some at none is) = subst TreeSorted (sym is) tt
tree_sorted products done lacking n text out h (one_step _ _ _ _ _ line rest s some at step more) = tree_sorted products (done ++ s ∷ []) (lacking - 1 + children s) (n + 1) rest out (steps_push done s h (step_sorted products line s step)) more

-- ---- files

abbrev CertsSorted : Result Certificates CertFault → Type 0
CertsSorted (Ok certs) = AreSortedCertificates certs
CertsSorted (Err fault) = Unit {0}

certs_sorted : (products : Bool) (conds : ℕ) (done : Certificates) (n : ℕ) (text : List ℕ) (out : Result Certificates CertFault) → AreSortedCertificates done → ReadsCerts products conds done n text out → CertsSorted out
certs_sorted products conds done n text out h (ends_early _ _ _ _ at is) = subst CertsSorted (sym is) tt
certs_sorted products conds done n text out h (complete _ _ _ _ at is) = subst CertsSorted (sym is) h
certs_sorted products conds done n text out h (goes_behind_end _ _ _ _ rest at some is) = subst CertsSorted (sym is) tt
certs_sorted products conds done n text out h (outside _ _ _ _ line rest at other none is) = subst CertsSorted (sym is) tt
certs_sorted products conds done n text out h (twice _ _ _ _ line rest c at cond listed is) = subst CertsSorted (sym is) tt
certs_sorted products conds done n text out h (absent _ _ _ _ line rest c at cond listed above is) = subst CertsSorted (sym is) tt
certs_sorted products conds done n text out h (bad_tree _ _ _ _ line rest c fault at cond listed below tree is) = subst CertsSorted (sym is) tt
certs_sorted products conds done n text out h (goes_on _ _ _ _ line rest c tree at cond listed below reads more) =
    certs_sorted products conds (done ++ (c, tree.steps) ∷ []) tree.line tree.rest out (certs_push done c tree.steps h (tree_sorted products [] 1 (n + 1) rest (Ok tree) tt reads)) more

pub reads_sorted : ReadsSorted
reads_sorted conds bytes certs (first rest at reads) = certs_sorted false conds [] 2 rest (Ok certs) tt reads
reads_sorted conds bytes certs (second rest at reads) = certs_sorted true conds [] 2 rest (Ok certs) tt reads
reads_sorted conds bytes certs (no_header a b is) = absurd cc
