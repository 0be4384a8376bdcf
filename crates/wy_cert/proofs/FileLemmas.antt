-- Certificates, one after the other.
use Rattle.std.proofs.Common.{◌≡◌, ◌≢◌, ℕ, ◌+◌, ◌<◌, ◌≤◌, List, [], ◌∷◌, ◌++◌, Bool, true, false, cond, codes, length, get_or, map, Option, Some, None, MatchOption, IfOk, Result, Ok, Err, refl, sym, ap, ◌∙◌, subst, arith}
use Rattle.std.specs.Prelude.{◌==◌, ◌||◌, nat_lt}
use Rattle.std.specs.Ordering.{nat_cmp, is_eq}
use Rattle.std.specs.declared.cmp.Ordering.TheVariants.{Less, Equal, Greater}
use Rattle.std.specs.BTreeSet.{BTreeSet, contains}
use Rattle.std.proofs.lemmas.Bool.Decides.{nat_tests}
use Rattle.wy_term_text.proofs.wy_lemmas_proofs.Choices.{unlike as true_false}
use Rattle.wy_term_text.proofs.wy_lemmas_proofs.Lists.{append_cancel, map_pushed as map_more}
use Rattle.wy_data.specs.scan.Front.{IsBehind, NotBehind}
use Rattle.wy_cert.specs.declared.fault.CertFault.{CertFault}
use Rattle.wy_cert.specs.declared.fault.CertFault.TheVariants.{BadStep, Truncated, TwiceCond, NoSuchCond}
use Rattle.wy_cert.specs.Only.{IsTheOne, HasNone, AreSame}
use Rattle.wy_cert.specs.Steps.{Written, Certificates}
use Rattle.wy_cert.specs.Numbers.{IsPlaceAt, NoLastPlace}
use Rattle.wy_cert.specs.File.{IsLine, NoLine, Tree, ReadsTree, IsCondition, is_listed, ReadsCerts, ends_early, complete, goes_behind_end, outside, twice, absent, bad_tree, goes_on, ReadsFile, first, second, no_header}
use Rattle.wy_cert.proofs.OneLemmas.{the_same}
use Rattle.wy_cert.proofs.FirstLine.{one_line, no_line}
use Rattle.wy_cert.proofs.NumberLemmas.{one_place, length_none}

-- ---- a line that opens a certificate

pub condition_no_word : (line : List ℕ) → NotBehind (codes "cond ") line → HasNone (IsCondition line)
condition_no_word line never = record { none = λ c h. never h.text h.opens }

pub text_same : (line t u : List ℕ) → IsBehind (codes "cond ") line t → IsBehind (codes "cond ") line u → t ≡ u
text_same line t u a b = append_cancel (codes "cond ") t u (sym a.is ∙ b.is)

pub condition_no_number : (line text : List ℕ) → IsBehind (codes "cond ") line text → NoLastPlace text → HasNone (IsCondition line)
condition_no_number line text opens never = record { none = λ c h. never.none c (subst (λ i. IsPlaceAt i c []) (text_same line h.text text h.opens opens) h.number) }

pub condition_here : (line text : List ℕ) (n : ℕ) → IsBehind (codes "cond ") line text → IsPlaceAt text n [] → IsTheOne (IsCondition line) n
condition_here line text n opens place = record {
  holds = record { text = text; opens = opens; number = place };
  only = λ c h. (one_place text c n [] [] (subst (λ i. IsPlaceAt i c []) (text_same line h.text text h.opens opens) h.number) place).number;
}

-- what `last_place` answers
pub condition_answer : {E : Type 0} (line text : List ℕ) (r : Result (Option ℕ) E) → IsBehind (codes "cond ") line text → IfOk r (λ o. MatchOption o (NoLastPlace text) (λ n. IsPlaceAt text n []))
    → IfOk r (λ o. MatchOption o (HasNone (IsCondition line)) (λ c. IsTheOne (IsCondition line) c))
condition_answer line text (Ok None) opens h = condition_no_number line text opens h
condition_answer line text (Ok (Some n)) opens h = condition_here line text n opens h
condition_answer line text (Err e) opens h = h

pub ruleset condition_steps = (condition_no_word, condition_answer)

pub end_no_condition : (line : List ℕ) (c : ℕ) → line ≡ codes "end" → IsCondition line c → ⊥
end_no_condition line c e h = absurd (let i : line ≡ codes "cond " ++ h.text = h.opens.is in cc)

-- ---- which outcome there is, for the first line and the certificates so far

abbrev Out : Type 0
Out = Result Certificates CertFault

module _ (products : Bool) (conds : ℕ) where
  early_only : (done : Certificates) (n : ℕ) (text : List ℕ) (out : Out) → NoLine text → ReadsCerts products conds done n text out → out ≡ Err (Truncated n)
  early_only done n text out never (ends_early d m t o q is) = is
  early_only done n text out never (complete d m t o here is) = absurd (no_line text (codes "end") [] never here)
  early_only done n text out never (goes_behind_end d m t o rest here some is) = absurd (no_line text (codes "end") rest never here)
  early_only done n text out never (outside d m t o line rest here other none is) = absurd (no_line text line rest never here)
  early_only done n text out never (twice d m t o line rest c here cond listed is) = absurd (no_line text line rest never here)
  early_only done n text out never (absent d m t o line rest c here cond listed large is) = absurd (no_line text line rest never here)
  early_only done n text out never (bad_tree d m t o line rest c fault here cond listed small reads is) = absurd (no_line text line rest never here)
  early_only done n text out never (goes_on d m t o line rest c tree here cond listed small reads more) = absurd (no_line text line rest never here)

  pub certs_early : (W : Out → Type 0) (done : Certificates) (n : ℕ) (text : List ℕ) → NoLine text → AreSame (ReadsCerts products conds done n text) W → IsTheOne W (Err (Truncated n))
  certs_early W done n text never same =
      the_same (ReadsCerts products conds done n text) W (Err (Truncated n)) same (record {
        holds = ends_early done n text (Err (Truncated n)) never refl;
        only = λ out h. early_only done n text out never h;
      })

  -- the line is the end: nothing follows, or something does
  end_only : (done : Certificates) (n : ℕ) (text line rest : List ℕ) (out : Out) → IsLine text line rest → line ≡ codes "end" → ReadsCerts products conds done n text out
      → (rest ≡ [] → out ≡ Ok done) × (0 < length rest → out ≡ Err (BadStep (n + 1)))
  end_only done n text line rest out here is (ends_early d m t o q e) = absurd (no_line text line rest q here)
  end_only done n text line rest out here is (complete d m t o there e) =
      let one = one_line text line (codes "end") rest [] here there in (λ none. e, λ some. absurd (omega (arith, some, ap length one.rest)))
  end_only done n text line rest out here is (goes_behind_end d m t o r there some e) =
      let one = one_line text line (codes "end") rest r here there in (λ none. absurd (omega (arith, some, ap length (sym one.rest ∙ none))), λ more. e)
  end_only done n text line rest out here is (outside d m t o l r there other none e) = absurd (other ((one_line text l line r rest there here).line ∙ is))
  end_only done n text line rest out here is (twice d m t o l r c there cond listed e) = absurd (end_no_condition l c ((one_line text l line r rest there here).line ∙ is) cond)
  end_only done n text line rest out here is (absent d m t o l r c there cond listed large e) = absurd (end_no_condition l c ((one_line text l line r rest there here).line ∙ is) cond)
  end_only done n text line rest out here is (bad_tree d m t o l r c fault there cond listed small reads e) = absurd (end_no_condition l c ((one_line text l line r rest there here).line ∙ is) cond)
  end_only done n text line rest out here is (goes_on d m t o l r c tree there cond listed small reads more) = absurd (end_no_condition l c ((one_line text l line r rest there here).line ∙ is) cond)

  line_at : (text line rest : List ℕ) → IsLine text line rest → line ≡ codes "end" → IsLine text (codes "end") rest
  line_at text line rest here is = subst (λ l. IsLine text l rest) is here

  pub certs_complete : (W : Out → Type 0) (done : Certificates) (n : ℕ) (text line rest : List ℕ) → IsLine text line rest → line ≡ codes "end" → length rest ≡ 0 → AreSame (ReadsCerts products conds done n text) W → IsTheOne W (Ok done)
  certs_complete W done n text line rest here is empty same =
      let ends = length_none rest empty in
      the_same (ReadsCerts products conds done n text) W (Ok done) same (record {
        holds = complete done n text (Ok done) (subst (IsLine text (codes "end")) ends (line_at text line rest here is)) refl;
        only = λ out h. (end_only done n text line rest out here is h).0 ends;
      })

  pub certs_behind_end : (W : Out → Type 0) (done : Certificates) (n : ℕ) (text line rest : List ℕ) → IsLine text line rest → line ≡ codes "end" → 0 < length rest → AreSame (ReadsCerts products conds done n text) W
      → IsTheOne W (Err (BadStep (n + 1)))
  certs_behind_end W done n text line rest here is some same =
      the_same (ReadsCerts products conds done n text) W (Err (BadStep (n + 1))) same (record {
        holds = goes_behind_end done n text (Err (BadStep (n + 1))) rest (line_at text line rest here is) some refl;
        only = λ out h. (end_only done n text line rest out here is h).1 some;
      })

  outside_only : (done : Certificates) (n : ℕ) (text line rest : List ℕ) (out : Out) → IsLine text line rest → line ≢ codes "end" → HasNone (IsCondition line) → ReadsCerts products conds done n text out → out ≡ Err (BadStep n)
  outside_only done n text line rest out here other none (ends_early d m t o q e) = absurd (no_line text line rest q here)
  outside_only done n text line rest out here other none (complete d m t o there e) = absurd (other (one_line text line (codes "end") rest [] here there).line)
  outside_only done n text line rest out here other none (goes_behind_end d m t o r there some e) = absurd (other (one_line text line (codes "end") rest r here there).line)
  outside_only done n text line rest out here other none (outside d m t o l r there q z e) = e
  outside_only done n text line rest out here other none (twice d m t o l r c there cond listed e) = absurd (none.none c (subst (λ i. IsCondition i c) (one_line text l line r rest there here).line cond))
  outside_only done n text line rest out here other none (absent d m t o l r c there cond listed large e) = absurd (none.none c (subst (λ i. IsCondition i c) (one_line text l line r rest there here).line cond))
  outside_only done n text line rest out here other none (bad_tree d m t o l r c fault there cond listed small reads e) = absurd (none.none c (subst (λ i. IsCondition i c) (one_line text l line r rest there here).line cond))
  outside_only done n text line rest out here other none (goes_on d m t o l r c tree there cond listed small reads more) = absurd (none.none c (subst (λ i. IsCondition i c) (one_line text l line r rest there here).line cond))

  pub certs_outside : (W : Out → Type 0) (done : Certificates) (n : ℕ) (text line rest : List ℕ) → IsLine text line rest → line ≢ codes "end" → HasNone (IsCondition line) → AreSame (ReadsCerts products conds done n text) W
      → IsTheOne W (Err (BadStep n))
  certs_outside W done n text line rest here other none same =
      the_same (ReadsCerts products conds done n text) W (Err (BadStep n)) same (record {
        holds = outside done n text (Err (BadStep n)) line rest here other none refl;
        only = λ out h. outside_only done n text line rest out here other none h;
      })

  -- the line opens the certificate of condition c: what the outcome is then
  record Opened (done : Certificates) (n : ℕ) (rest : List ℕ) (c : ℕ) (out : Out) : Type 0 where
    listed : is_listed done c ≡ true → out ≡ Err (TwiceCond n)
    large : is_listed done c ≡ false → conds < c → out ≡ Err (NoSuchCond n)
    bad : (fault : CertFault) → is_listed done c ≡ false → c ≤ conds → IsTheOne (ReadsTree products [] 1 (n + 1) rest) (Err fault) → out ≡ Err fault
    good : (tree : Tree) → is_listed done c ≡ false → c ≤ conds → IsTheOne (ReadsTree products [] 1 (n + 1) rest) (Ok tree) → ReadsCerts products conds (done ++ (c, tree.steps) ∷ []) tree.line tree.rest out

  opened_twice : (done : Certificates) (n : ℕ) (rest : List ℕ) (c : ℕ) (out : Out) → is_listed done c ≡ true → out ≡ Err (TwiceCond n) → Opened done n rest c out
  opened_twice done n rest c out yes_listed e = record {
    listed = λ t. e;
    large = λ f large. true_false (is_listed done c) yes_listed f;
    bad = λ fault f small tree. true_false (is_listed done c) yes_listed f;
    good = λ tree f small reads. true_false (is_listed done c) yes_listed f;
  }

  opened_absent : (done : Certificates) (n : ℕ) (rest : List ℕ) (c : ℕ) (out : Out) → is_listed done c ≡ false → conds < c → out ≡ Err (NoSuchCond n) → Opened done n rest c out
  opened_absent done n rest c out not_listed above e = record {
    listed = λ t. true_false (is_listed done c) t not_listed;
    large = λ f large. e;
    bad = λ fault f small tree. absurd (omega (arith, above, small));
    good = λ tree f small reads. absurd (omega (arith, above, small));
  }

  opened_bad : (done : Certificates) (n : ℕ) (rest : List ℕ) (c : ℕ) (out : Out) (fault : CertFault) → is_listed done c ≡ false → c ≤ conds → ReadsTree products [] 1 (n + 1) rest (Err fault) → out ≡ Err fault → Opened done n rest c out
  opened_bad done n rest c out fault not_listed below reads e = record {
    listed = λ t. true_false (is_listed done c) t not_listed;
    large = λ f large. absurd (omega (arith, below, large));
    bad = λ other f small tree. let s : Err fault ≡ Err other = tree.only (Err fault) reads in e ∙ (let q : fault ≡ other = cc in cc);
    good = λ tree f small good. absurd (let s : Err fault ≡ Ok tree = good.only (Err fault) reads in cc);
  }

  opened_good : (done : Certificates) (n : ℕ) (rest : List ℕ) (c : ℕ) (out : Out) (tree : Tree) → is_listed done c ≡ false → c ≤ conds → ReadsTree products [] 1 (n + 1) rest (Ok tree)
      → ReadsCerts products conds (done ++ (c, tree.steps) ∷ []) tree.line tree.rest out → Opened done n rest c out
  opened_good done n rest c out tree not_listed below reads more = record {
    listed = λ t. true_false (is_listed done c) t not_listed;
    large = λ f large. absurd (omega (arith, below, large));
    bad = λ fault f small bad. absurd (let s : Ok tree ≡ Err fault = bad.only (Ok tree) reads in cc);
    good = λ other f small good.
        let s : Ok tree ≡ Ok other = good.only (Ok tree) reads in
        let q : tree ≡ other = cc in
        subst (λ (t : Tree). ReadsCerts products conds (done ++ (c, t.steps) ∷ []) t.line t.rest out) q more;
  }

  moved : (done : Certificates) (n : ℕ) (r rest : List ℕ) (b c : ℕ) (out : Out) → r ≡ rest → b ≡ c → Opened done n r b out → Opened done n rest c out
  moved done n r rest b c out er ec h = subst (λ x. Opened done n rest x out) ec (subst (λ i. Opened done n i b out) er h)

  opened : (done : Certificates) (n : ℕ) (text line rest : List ℕ) (c : ℕ) (out : Out) → IsLine text line rest → IsTheOne (IsCondition line) c → ReadsCerts products conds done n text out → Opened done n rest c out
  opened done n text line rest c out here the (ends_early d m t o q e) = absurd (no_line text line rest q here)
  opened done n text line rest c out here the (complete d m t o there e) = absurd (end_no_condition line c (one_line text line (codes "end") rest [] here there).line the.holds)
  opened done n text line rest c out here the (goes_behind_end d m t o r there some e) = absurd (end_no_condition line c (one_line text line (codes "end") rest r here there).line the.holds)
  opened done n text line rest c out here the (outside d m t o l r there other none e) = absurd (none.none c (subst (λ i. IsCondition i c) (one_line text line l rest r here there).line the.holds))
  opened done n text line rest c out here the (twice d m t o l r b there cond listed e) =
      let one = one_line text l line r rest there here in
      moved done n r rest b c out one.rest (the.only b (subst (λ i. IsCondition i b) one.line cond)) (opened_twice done n r b out listed e)
  opened done n text line rest c out here the (absent d m t o l r b there cond listed large e) =
      let one = one_line text l line r rest there here in
      moved done n r rest b c out one.rest (the.only b (subst (λ i. IsCondition i b) one.line cond)) (opened_absent done n r b out listed large e)
  opened done n text line rest c out here the (bad_tree d m t o l r b fault there cond listed small reads e) =
      let one = one_line text l line r rest there here in
      moved done n r rest b c out one.rest (the.only b (subst (λ i. IsCondition i b) one.line cond)) (opened_bad done n r b out fault listed small reads e)
  opened done n text line rest c out here the (goes_on d m t o l r b tree there cond listed small reads more) =
      let one = one_line text l line r rest there here in
      moved done n r rest b c out one.rest (the.only b (subst (λ i. IsCondition i b) one.line cond)) (opened_good done n r b out tree listed small reads more)

  pub certs_twice : (W : Out → Type 0) (done : Certificates) (n : ℕ) (text line rest : List ℕ) (c : ℕ) → IsLine text line rest → IsTheOne (IsCondition line) c → is_listed done c ≡ true → AreSame (ReadsCerts products conds done n text) W
      → IsTheOne W (Err (TwiceCond n))
  certs_twice W done n text line rest c here the listed same =
      the_same (ReadsCerts products conds done n text) W (Err (TwiceCond n)) same (record {
        holds = twice done n text (Err (TwiceCond n)) line rest c here the.holds listed refl;
        only = λ out h. (opened done n text line rest c out here the h).listed listed;
      })

  pub certs_absent : (W : Out → Type 0) (done : Certificates) (n : ℕ) (text line rest : List ℕ) (c : ℕ) → IsLine text line rest → IsTheOne (IsCondition line) c → is_listed done c ≡ false → conds < c
      → AreSame (ReadsCerts products conds done n text) W → IsTheOne W (Err (NoSuchCond n))
  certs_absent W done n text line rest c here the listed large same =
      the_same (ReadsCerts products conds done n text) W (Err (NoSuchCond n)) same (record {
        holds = absent done n text (Err (NoSuchCond n)) line rest c here the.holds listed large refl;
        only = λ out h. (opened done n text line rest c out here the h).large listed large;
      })

  pub certs_bad_tree : (W : Out → Type 0) (done : Certificates) (n : ℕ) (text line rest : List ℕ) (c : ℕ) (fault : CertFault) → IsLine text line rest → IsTheOne (IsCondition line) c → is_listed done c ≡ false → c ≤ conds
      → IsTheOne (ReadsTree products [] 1 (n + 1) rest) (Err fault) → AreSame (ReadsCerts products conds done n text) W → IsTheOne W (Err fault)
  certs_bad_tree W done n text line rest c fault here the listed small tree same =
      the_same (ReadsCerts products conds done n text) W (Err fault) same (record {
        holds = bad_tree done n text (Err fault) line rest c fault here the.holds listed small tree.holds refl;
        only = λ out h. (opened done n text line rest c out here the h).bad fault listed small tree;
      })

  pub certs_turn : (W : Out → Type 0) (done : Certificates) (n : ℕ) (text line rest : List ℕ) (c : ℕ) (tree : Tree) → IsLine text line rest → IsTheOne (IsCondition line) c → is_listed done c ≡ false → c ≤ conds
      → IsTheOne (ReadsTree products [] 1 (n + 1) rest) (Ok tree) → AreSame (ReadsCerts products conds done n text) W → AreSame (ReadsCerts products conds (done ++ (c, tree.steps) ∷ []) tree.line tree.rest) W
  certs_turn W done n text line rest c tree here the listed small reads same = record {
    to = λ out h. same.to out (goes_on done n text out line rest c tree here the.holds listed small reads.holds h);
    back = λ out h. (opened done n text line rest c out here the (same.back out h)).good tree listed small reads;
  }

-- ---- conditions that are listed

pub lt_apart : (k q : ℕ) → nat_lt k q ≡ true → (k == q) ≡ false
lt_apart k q t = grind (arith, nat_tests, t)

pub at_same : (k q : ℕ) → is_eq (nat_cmp k q) ≡ (k == q)
at_same k q = by (nat_lt k q) (k == q) (lt_apart k q)
  where
    by : (less same : Bool) → (less ≡ true → same ≡ false) → is_eq (cond less Less (cond same Equal Greater)) ≡ same
    by true same h = sym (h refl)
    by false true h = refl
    by false false h = refl

pub listed_push : (cs : Certificates) (k : ℕ) (s : List Written) (q : ℕ) → is_listed (cs ++ (k, s) ∷ []) q ≡ cond (k == q) true (is_listed cs q)
listed_push [] k s q = by (k == q)
  where
    by : (b : Bool) → (b || false) ≡ cond b true false
    by true = refl
    by false = refl
listed_push (d ∷ ds) k s q = ap (λ b. (d.0 == q) || b) (listed_push ds k s q) ∙ by (d.0 == q) (k == q) (is_listed ds q)
  where
    by : (a b c : Bool) → (a || cond b true c) ≡ cond b true (a || c)
    by true true c = refl
    by true false c = refl
    by false true c = refl
    by false false c = refl

-- the set with one number more is that of the list with it
pub seen_more : (old new : BTreeSet ℕ) (cs : Certificates) (k : ℕ) (s : List Written) → ((q : ℕ) → contains nat_cmp new q ≡ cond (is_eq (nat_cmp k q)) true (contains nat_cmp old q)) → ((q : ℕ) → contains nat_cmp old q ≡ is_listed cs q)
    → (q : ℕ) → contains nat_cmp new q ≡ is_listed (cs ++ (k, s) ∷ []) q
seen_more old new cs k s more same q = more q ∙ ap (λ b. cond b true (contains nat_cmp old q)) (at_same k q) ∙ ap (λ b. cond (k == q) true b) (same q) ∙ sym (listed_push cs k s q)

pub mapped : {A B : Type 0} (f : A → B) (xs more : List A) (x : A) → more ≡ xs ++ x ∷ [] → map f more ≡ map f xs ++ f x ∷ []
mapped f xs more x is = ap (map f) is ∙ map_more f xs x

-- ---- headers

pub headers_apart : (bytes r s : List ℕ) → IsBehind (codes "wycert 1\n") bytes r → IsBehind (codes "wycert 2\n") bytes s → ⊥
headers_apart bytes r s a b =
    let e : codes "wycert 1\n" ++ r ≡ codes "wycert 2\n" ++ s = sym a.is ∙ b.is in
    let digit : 49 ≡ 50 = ap (λ (i : List ℕ). get_or i 7 0) e in
    absurd (omega (arith, digit))

-- under the first header the file is read as its lines are
pub file_first : (conds : ℕ) (bytes rest : List ℕ) → IsBehind (codes "wycert 1\n") bytes rest → AreSame (ReadsCerts false conds [] 2 rest) (ReadsFile conds bytes)
file_first conds bytes rest here = record { to = λ out h. first rest here h; back = λ out h. by out h }
  where
    by : (out : Out) → ReadsFile conds bytes out → ReadsCerts false conds [] 2 rest out
    by out (first r there h) = subst (λ i. ReadsCerts false conds [] 2 i out) (append_cancel (codes "wycert 1\n") r rest (sym there.is ∙ here.is)) h
    by out (second r there h) = absurd (headers_apart bytes rest r here there)
    by out (no_header one two e) = absurd (one rest here)

pub file_second : (conds : ℕ) (bytes rest : List ℕ) → IsBehind (codes "wycert 2\n") bytes rest → AreSame (ReadsCerts true conds [] 2 rest) (ReadsFile conds bytes)
file_second conds bytes rest here = record { to = λ out h. second rest here h; back = λ out h. by out h }
  where
    by : (out : Out) → ReadsFile conds bytes out → ReadsCerts true conds [] 2 rest out
    by out (first r there h) = absurd (headers_apart bytes r rest there here)
    by out (second r there h) = subst (λ i. ReadsCerts true conds [] 2 i out) (append_cancel (codes "wycert 2\n") r rest (sym there.is ∙ here.is)) h
    by out (no_header one two e) = absurd (two rest here)
