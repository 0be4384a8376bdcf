-- A valid certificate that was read can be written.
use Rattle.std.proofs.Common.{◌≡◌, ◌<◌, ◌+◌, ◌^◌, ℕ, List, [], ◌∷◌, ◌++◌, Bool, true, false, cond, codes, length, Option, Some, None, inl, inr, refl, sym, ap, subst, arith}
use Rattle.std.specs.Prelude.{◌==◌}
use Rattle.std.specs.Fmt.{decimal}
use Rattle.std.proofs.lemmas.List.{length-append}
use Rattle.wy_term_text.specs.spell.Made.{IsSpelled}
use Rattle.wy_term_text.proofs.reread_lemmas.RereadLemmas.{made_folded}
use Rattle.wy_term_text.specs.reread.Folded.{IsFolded}
use Rattle.wy_term.specs.Condition.{Condition, Entry}
use Rattle.wy_term.specs.Rewriting.{decided}
use Rattle.wy_term.specs.Sorts.{Sort, formula_sort, int_sort, val_sort}
use Rattle.wy_term.specs.Term as term
use Rattle.wy_term.specs.Term.{Term, Of, no_parts}
use Rattle.wy_cert.specs.Arguments.{AreArguments, FollowBy, IsArgument, IsPieceAt, IsTerm}
use Rattle.wy_cert.specs.Lines.{IsBody, IsOther, word_of}
use Rattle.wy_cert.specs.declared.verb.Verb.{Verb}
use Rattle.wy_cert.specs.declared.verb.Verb.TheVariants as verb
use Rattle.wy_cert.specs.Numbers.{ArePairs, IsPlaceAt}
use Rattle.wy_cert.specs.Steps.{Certificates, Written, fact}
use Rattle.wy_check.proofs.wy_check_laws_proofs.reread_lemmas.FileLemmas.{files_are_read}
use Rattle.wy_check.specs.Verdicts.{certificate_for}
use Rattle.wy_check.specs.wy_check_laws.reread.Grammar.{AreCertificates, AreLines, IsFile, IsHeaded}
use Rattle.wy_check.specs.wy_check_laws.reread.Writable.{AreFactors, AreWritable, AreWritableArguments, AreWritableTerms, IsNoConstant, IsOptional, IsWritable, IsWritableArgument, IsWritableAt, IsWritableTerm}
use Rattle.wy_check.specs.wy_lin.Linear.{◌>>=◌}
use Rattle.wy_check.specs.wy_vc_laws.wy_check_spec.judge.Node.{Node, first_node}
use Rattle.wy_check.specs.wy_vc_laws.wy_check_spec.valid.Membership.{fact_among, membership}
use Rattle.wy_check.specs.wy_vc_laws.wy_check_spec.valid.Validity.{IsValid, after, first_bad_by, left_with_one, or_bad}
use Rattle.wy_check.specs.wy_vc_laws.wy_facts.Schema.{as_element, by_one, by_two, datum_by_kind, division, element_elsewhere, element_of_array, element_of_copies, element_updated, elements_at_one_index, equal_numbers, field_elsewhere, field_updated, kind_of_field_updated, kind_of_updated, length_is_natural, length_of_copies, length_of_updated}
use Rattle.wy_cache.specs.Kept.{IsSteps, file_with}
use Rattle.wy_cache.proofs.FineLemmas.{read_is_of}

-- ---- no fact takes `true` or `false` as a formula

none_either : {A : Type 0} (b : Bool) (o p : Option A) → o ≡ None → p ≡ None → cond b o p ≡ None
none_either true o p e f = e
none_either false o p e f = f

bind_none : {A B : Type 0} (o : Option A) (f : A → Option B) → ((x : A) → f x ≡ None) → (o >>= f) ≡ None
bind_none None f none = refl
bind_none (Some x) f none = none x

none_bound : {A B : Type 0} (o : Option A) (f : A → Option B) → o ≡ None → (o >>= f) ≡ None
none_bound None f e = refl
none_bound (Some x) f e = absurd cc

at_constant : {A : Type 0} (f : Term → Option A) (b : Bool) → f (decided true) ≡ None → f (decided false) ≡ None → f (decided b) ≡ None
at_constant f true e g = e
at_constant f false e g = g

plain_none : (n : ℕ) (b : Bool) → by_one n (decided b) ≡ None
plain_none n b =
    none_either (n == 10) _ _ (at_constant field_elsewhere b refl refl)
    (none_either (n == 12) _ _ (at_constant kind_of_updated b refl refl)
    (none_either (n == 13) _ _ (at_constant kind_of_field_updated b refl refl)
    (none_either (n == 15) _ _ (at_constant division b refl refl)
    (none_either (n == 1) _ _ (at_constant length_is_natural b refl refl)
    (none_either (n == 2) _ _ (at_constant length_of_copies b refl refl)
    (none_either (n == 3) _ _ (at_constant length_of_updated b refl refl)
    (none_either (n == 5) _ _ (at_constant element_of_copies b refl refl)
    (none_either (n == 6) _ _ (at_constant element_updated b refl refl)
    (none_either (n == 7) _ _ (at_constant element_elsewhere b refl refl)
    (none_either (n == 9) _ _ (at_constant field_updated b refl refl)
    (none_either (n == 11) _ _ (at_constant equal_numbers b refl refl)
    (none_either (n == 14) _ _ (at_constant datum_by_kind b refl refl) refl))))))))))))

first_none : (n : ℕ) (b : Bool) (t : Term) → by_two n (decided b) t ≡ None
first_none n b t = none_either (n == 4) _ _ (at_constant (λ s. element_of_array s t) b refl refl) (none_either (n == 8) _ _ (at_constant (λ s. elements_at_one_index s t) b refl refl) refl)

second_none : (n : ℕ) (b : Bool) (s : Term) → by_two n s (decided b) ≡ None
second_none n b s =
    none_either (n == 4) _ _ (at_constant (element_of_array s) b (bind_none (as_element s) _ (λ g. refl)) (bind_none (as_element s) _ (λ g. refl)))
    (none_either (n == 8) _ _ (at_constant (elements_at_one_index s) b (bind_none (as_element s) _ (λ g. refl)) (bind_none (as_element s) _ (λ g. refl))) refl)

abbrev AreNoConstants : List Term → Type 0
AreNoConstants [] = Unit {0}
AreNoConstants (t ∷ ts) = IsNoConstant t × AreNoConstants ts

no_constant : (t : Term) → ((b : Bool) → t ≡ decided b → ⊥) → IsNoConstant t
no_constant (Of term.all_of no_parts) never = never true refl
no_constant (Of term.any_of no_parts) never = never false refl
no_constant t never = tt

none_is_some : {A : Type 0} (o : Option A) (x : A) → o ≡ None → o ≡ Some x → ⊥
none_is_some o x e f = cc

takes : (types : List Entry) (n : ℕ) (ts : List Term) (f : Term) → fact_among types n ts ≡ Some f → AreNoConstants ts
takes types n [] f e = tt
takes types n (t ∷ []) f e = (
  no_constant t (λ b is. none_is_some (fact_among types n (t ∷ [])) f
      (subst (λ (s : Term). fact_among types n (s ∷ []) ≡ None) (sym is)
      (none_either (n == 16) _ _ (at_constant (membership types) b refl refl) (none_bound (by_one n (decided b)) _ (plain_none n b)))) e),
  tt,
)
takes types n (s ∷ t ∷ []) f e = (
  no_constant s (λ b is. none_is_some (fact_among types n (s ∷ t ∷ [])) f
      (subst (λ (u : Term). fact_among types n (u ∷ t ∷ []) ≡ None) (sym is) (none_either (n == 16) _ _ refl (none_bound (by_two n (decided b) t) _ (first_none n b t)))) e),
  (
    no_constant t (λ b is. none_is_some (fact_among types n (s ∷ t ∷ [])) f
        (subst (λ (u : Term). fact_among types n (s ∷ u ∷ []) ≡ None) (sym is) (none_either (n == 16) _ _ refl (none_bound (by_two n s (decided b)) _ (second_none n b s)))) e),
    tt,
  ),
)
takes types n (s ∷ t ∷ u ∷ us) f e = absurd (none_is_some (fact_among types n (s ∷ t ∷ u ∷ us)) f (none_either (n == 16) _ _ refl refl) e)

-- the arguments of a fact are such
abbrev Takes : Written → Type 0
Takes (fact n ts) = AreNoConstants ts
Takes s = Unit {0}

abbrev AllTake : List Written → Type 0
AllTake [] = Unit {0}
AllTake (s ∷ steps) = Takes s × AllTake steps

fact_takes : (types : List Entry) (node : Node) (n : ℕ) (ts : List Term) (o : Option Term) (below : List Node) → fact_among types n ts ≡ o → (o >>= left_with_one node) ≡ Some below → AreNoConstants ts
fact_takes types node n ts None below is e = absurd cc
fact_takes types node n ts (Some f) below is e = takes types n ts f is

step_takes : (types : List Entry) (node : Node) (s : Written) (below : List Node) → after types node s ≡ Some below → Takes s
step_takes types node (fact n ts) below e = fact_takes types node n ts (fact_among types n ts) below refl e
step_takes types node s below e = tt

module _ (types : List Entry) where
  behind_step : (s : Written) (node : Node) (k : ℕ) (nodes : List Node) (steps : List Written) (o : Option (List Node)) → after types node s ≡ o → or_bad k o (λ below. first_bad_by (after types) (k + 1) (below ++ nodes) steps) ≡ None
      → ((j : ℕ) (all : List Node) → first_bad_by (after types) j all steps ≡ None → AllTake steps) → Takes s × AllTake steps
  behind_step s node k nodes steps None is e rest = absurd cc
  behind_step s node k nodes steps (Some below) is e rest = (step_takes types node s below is, rest (k + 1) (below ++ nodes) e)

  all_take : (steps : List Written) (k : ℕ) (nodes : List Node) → first_bad_by (after types) k nodes steps ≡ None → AllTake steps
  all_take [] k nodes e = tt
  all_take (s ∷ steps) k [] e = absurd cc
  all_take (s ∷ steps) k (node ∷ nodes) e = behind_step s node k nodes steps (after types node s) refl e (λ j all h. all_take steps j all h)

-- ---- what is read

abbrev IsShort : List ℕ → Type 0
IsShort text = length text < 2 ^ 126

short_front : (front rest text : List ℕ) → text ≡ front ++ rest → IsShort text → IsShort front
short_front front rest text is few = omega (arith, few, ap (λ (x : List ℕ). length x) is, length-append front rest)

short_rest : (front rest text : List ℕ) → text ≡ front ++ rest → IsShort text → IsShort rest
short_rest front rest text is few = omega (arith, few, ap (λ (x : List ℕ). length x) is, length-append front rest)

written_at : (sort : Sort) (text : List ℕ) (t : Term) → IsShort text → IsSpelled sort text t → IsWritableAt sort t
written_at sort text t few h = (subst IsFolded (sym h.folds) (made_folded h.raw), read_is_of sort text t few h)

term_written : (text : List ℕ) (t : Term) → IsShort text → IsTerm text t → IsWritableTerm t
term_written text t few (inl h) = inl (written_at int_sort text t few h)
term_written text t few (inr h) = inr (written_at val_sort text t few h)

argument_written : (text : List ℕ) (t : Term) → IsShort text → IsNoConstant t → IsArgument true text t → IsWritableArgument t
argument_written text t few apart (inl h) = inl (term_written text t few h)
argument_written text t few apart (inr h) = inr (apart, written_at formula_sort text t few h.1)

piece_short : (text front : List ℕ) (more : Option (List ℕ)) → IsPieceAt text front more → IsShort text → IsShort front
piece_short text front None h few = subst IsShort (sym h.1) few
piece_short text front (Some rest) h few = short_front front (codes " ; " ++ rest) text h.is few

terms_written : (text : List ℕ) (ts : List Term) → IsShort text → AreArguments false text ts → AreWritableTerms ts
terms_written text [] few h = tt
terms_written text (t ∷ ts) few h = (term_written h.0 t (piece_short text h.0 h.1 h.2 few) h.3, by (λ rest small g. terms_written rest ts small g) h.1 h.2 h.4)
  where
    by : ((rest : List ℕ) → IsShort rest → AreArguments false rest ts → AreWritableTerms ts) → (more : Option (List ℕ)) → IsPieceAt text h.0 more → FollowBy (λ rest. AreArguments false rest ts) more ts → AreWritableTerms ts
    by later None piece none = subst AreWritableTerms (sym none) tt
    by later (Some rest) piece g = later rest (short_rest (codes " ; ") rest (codes " ; " ++ rest) refl (short_rest h.0 (codes " ; " ++ rest) text piece.is few)) g

arguments_written : (text : List ℕ) (ts : List Term) → IsShort text → AreNoConstants ts → AreArguments true text ts → AreWritableArguments ts
arguments_written text [] few apart h = tt
arguments_written text (t ∷ ts) few apart h = (argument_written h.0 t (piece_short text h.0 h.1 h.2 few) apart.0 h.3, by (λ rest small g. arguments_written rest ts small apart.1 g) h.1 h.2 h.4)
  where
    by : ((rest : List ℕ) → IsShort rest → AreArguments true rest ts → AreWritableArguments ts) → (more : Option (List ℕ)) → IsPieceAt text h.0 more → FollowBy (λ rest. AreArguments true rest ts) more ts → AreWritableArguments ts
    by later None piece none = subst AreWritableArguments (sym none) tt
    by later (Some rest) piece g = later rest (short_rest (codes " ; ") rest (codes " ; " ++ rest) refl (short_rest h.0 (codes " ; " ++ rest) text piece.is few)) g

some_arguments : (formulas : Bool) (text : List ℕ) (ts : List Term) → AreArguments formulas text ts → 0 < length ts
some_arguments formulas text [] h = absurd h
some_arguments formulas text (t ∷ ts) h = omega arith

factors_written : (text : List ℕ) (pairs : List (ℕ × ℕ)) → ArePairs text pairs → AreFactors pairs
factors_written text [] h = tt
factors_written text (p ∷ ps) h = let m = h.1.multiplier in let i = h.1.literal in ((m.some, m.number.small), (i.some, i.small), factors_written h.0 ps h.2)

other_written : (text : List ℕ) (other : Option ℕ) → IsOther text other → IsOptional other
other_written text None h = tt
other_written text (Some j) h = let i = h.2 in (i.some, i.small)

-- what stands behind a number and a space
behind_place : (text : List ℕ) (n : ℕ) (rest : List ℕ) → IsPlaceAt text n (32 ∷ rest) → IsShort text → IsShort rest
behind_place text n rest h few = let i = h.number in let at = short_rest (decimal n) (32 ∷ rest) text i.is few in omega (arith, at)

body_written : (products : Bool) (kind : Verb) (text : List ℕ) (s : Written) → IsShort text → Takes s → IsBody products kind text s → IsWritable s
body_written products verb.Split text s few takes h = subst IsWritable (sym h.is) (written_at formula_sort text h.formula few h.spelled)
body_written products verb.Shut text s few takes h = subst IsWritable (sym h.is) tt
body_written products verb.Chain text s few takes h = subst IsWritable (sym h.is) (some_arguments false text h.terms h.spelled, terms_written text h.terms few h.spelled)
body_written products verb.Clash text s few takes h = let i = h.literal in subst IsWritable (sym h.is) ((i.some, i.small), other_written h.rest h.second h.other)
body_written products verb.Sum text s few takes h = subst IsWritable (sym h.is) (h.some, factors_written text h.pairs h.spelled)
body_written products verb.Cut text s few takes h = let d = h.number in let n = d.number in subst IsWritable (sym h.is) ((d.some, n.small), h.large, h.some, factors_written h.rest h.pairs h.spelled)
body_written products verb.Inst text s few takes h =
    let i = h.literal in subst IsWritable (sym h.is) ((i.some, i.small), written_at int_sort h.rest h.term (behind_place text h.first h.rest i few) h.spelled)
body_written products verb.Wit text s few takes h = let i = h.literal in subst IsWritable (sym h.is) (i.some, i.small)
body_written products verb.Fact text s few takes h =
    let n = h.number in
    subst IsWritable (sym h.is) ((n.some, n.small), h.small, some_arguments true h.rest h.arguments h.spelled, arguments_written h.rest h.arguments (behind_place text h.schema h.rest n few) (subst Takes h.is takes) h.spelled)
body_written products verb.Prod text s few takes h =
    let i = h.literal in
    let j = h.other in
    subst IsWritable (sym h.is) ((i.some, i.small), (j.some, j.small), written_at int_sort h.rest h.term (behind_place h.between h.second h.rest j (behind_place text h.first h.between i few)) h.spelled)

lines_written : (products : Bool) (steps : List Written) (text : List ℕ) → IsShort text → AllTake steps → AreLines products steps text → AreWritable steps
lines_written products [] text few take h = tt
lines_written products (s ∷ steps) text few take h =
    let first = h.2 in
    let line = short_front h.0 (10 ∷ h.1) text first.is few in
    let rest = short_rest h.0 (10 ∷ h.1) text first.is few in
    let step = h.3 in
    let begins = step.begins in
    (body_written products step.kind step.text s (short_rest (word_of step.kind) step.text h.0 begins.is line) take.0 step.body, lines_written products steps h.1 (omega (arith, rest)) take.1 h.4)

-- the certificate for condition 1
one_written : (products : Bool) (certs : Certificates) (text : List ℕ) (steps : List Written) → IsShort text → AllTake steps → AreCertificates products certs text → certificate_for certs 1 ≡ Some steps → AreWritable steps
one_written products [] text steps few take h is = absurd cc
one_written products (c ∷ cs) text steps few take h is = either (λ e. one_written products cs h.1 steps (short_rest h.0 h.1 text h.2 few) take h.4 e) (c.0 == 1) refl is
  where
    either : (certificate_for cs 1 ≡ Some steps → AreWritable steps) → (b : Bool) → (c.0 == 1) ≡ b → cond b (let o : Option (List Written) = Some c.1 in o) (certificate_for cs 1) ≡ Some steps → AreWritable steps
    either later true here e =
        let same : c.1 ≡ steps = cc in
        let one = h.3 in
        let begins = one.begins in
        subst AreWritable same
        (lines_written products c.1 one.body (let at = short_rest one.line (10 ∷ one.body) h.0 begins.is (short_front h.0 h.1 text h.2 few) in omega (arith, at)) (subst AllTake (sym same) take) one.steps)
    either later false other e = later e

headed : (header : List ℕ) (products : Bool) (certs : Certificates) (bytes : List ℕ) (steps : List Written) → IsShort bytes → AllTake steps → IsHeaded header products 1 certs bytes → certificate_for certs 1 ≡ Some steps → AreWritable steps
headed header products certs bytes steps few take h is =
    let on = h.goes_on in
    one_written products certs on.body steps (short_front on.body (codes "end\n") h.rest on.is (short_rest header h.rest bytes h.is few)) take on.spelled is

file_written : (bytes : List ℕ) (certs : Certificates) (steps : List Written) → IsShort bytes → AllTake steps → IsFile 1 bytes certs → certificate_for certs 1 ≡ Some steps → AreWritable steps
file_written bytes certs steps few take (inl h) is = headed (codes "wycert 1\n") false certs bytes steps few take h is
file_written bytes certs steps few take (inr h) is = headed (codes "wycert 2\n") true certs bytes steps few take h is

pub read_is_writable : (lines : List ℕ) (c : Condition) (steps : List Written) → length lines < 2 ^ 125 → IsSteps lines steps → IsValid c steps → AreWritable steps
read_is_writable lines c steps few h valid =
    let front = length-append (codes "wycert 2\ncond 1\n") (lines ++ codes "end\n") in
    let back = length-append lines (codes "end\n") in
    file_written (file_with lines) h.certs steps (omega (arith, few, front, back)) (all_take c.types steps 1 (first_node c ∷ []) valid) ((files_are_read 1 (file_with lines) h.certs).1 h.read) h.first
