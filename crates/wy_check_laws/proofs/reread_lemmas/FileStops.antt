-- Where a file of certificates stops to be read.
use Rattle.std.proofs.Common.{◌≡◌, ◌≢◌, inl, inr, ◌<◌, ◌≤◌, ◌+◌, ℕ, suc, List, [], ◌∷◌, ◌++◌, length, Bool, true, false, eqb, codes, get_or, Result, Ok, Err, refl, sym, ap, ◌∙◌, subst, arith}
use Rattle.std.specs.Prelude.{◌||◌, not, ◌==◌}
use Rattle.std.proofs.lemmas.Bool.{eqb-true}
use Rattle.wy_lemmas.proofs.Choices.{or_assoc as or_grouped, unlike as true_false}
use Rattle.wy_lemmas.proofs.Lists.{append_cancel, none_behind}
use Rattle.wy_lemmas.proofs.Numbers.{one_over as one_more}
use Rattle.wy_data.specs.scan.Front.{AllPass}
use Rattle.wy_check_spec.specs.wy_cert.declared.fault.CertFault.{CertFault}
use Rattle.wy_check_spec.specs.wy_cert.declared.fault.CertFault.TheVariants.{BadHeader, BadStep, Truncated, TwiceCond, NoSuchCond, NoMemory}
use Rattle.wy_check_spec.specs.wy_cert.Only.{HasNone}
use Rattle.wy_check_spec.specs.wy_cert.Steps.{Written, Certificates}
use Rattle.wy_check_spec.specs.wy_cert.File.{is_inside, IsLine, NoLine, Tree, ReadsTree, IsCondition, is_listed, ReadsCerts, ends_early, complete, goes_behind_end, outside, twice, absent, bad_tree, goes_on, first, second, no_header}
use Rattle.wy_check_spec.proofs.wy_cert_proofs.FirstLine.{one_line, no_line}
use Rattle.wy_check_laws.specs.reread.Grammar.{IsBody, IsFile}
use Rattle.wy_check_laws.specs.reread.Faults.{AreWholeLines, BeginsFile, IsOnLine, StopsAt, EndsAt, StandsAt, FaultsStand}
use Rattle.wy_check_laws.proofs.reread_lemmas.LineLemmas.{same_condition, end_opens_none}
use Rattle.wy_check_laws.proofs.reread_lemmas.ReadLemmas.{grouped, no_more, ok_tree, tree_is_read}
use Rattle.wy_check_laws.proofs.reread_lemmas.SpelledLemmas.{ok_err, behind_line, tree_spelled}
use Rattle.wy_check_laws.proofs.reread_lemmas.FileLemmas.{body_is_read, body_is_spelled}
use Rattle.wy_check_laws.proofs.reread_lemmas.TreeStops.{line_number, Ends, Goes, IsUsual, on_line, cut_line, line_again, line_before, lines_append, steps_lines, same_end, TreeStop, tree_stops, err_is}

-- ---- conditions that have certificates

listed_append : (a b : Certificates) (x : ℕ) → is_listed (a ++ b) x ≡ (is_listed a x || is_listed b x)
listed_append [] b x = refl
listed_append (c ∷ a) b x = ap (λ (t : Bool). (c.0 == x) || t) (listed_append a b x) ∙ sym (or_grouped (c.0 == x) (is_listed a x) (is_listed b x))

-- both have certificates for the same conditions
abbrev AreAlike : Certificates → Certificates → Type 0
AreAlike a b = (x : ℕ) → is_listed a x ≡ is_listed b x

alike_more : (a b : Certificates) (c : ℕ) (s t : List Written) → AreAlike a b → AreAlike (a ++ (c, s) ∷ []) (b ++ (c, t) ∷ [])
alike_more a b c s t same x = listed_append a ((c, s) ∷ []) x ∙ (ap (λ (u : Bool). u || ((c == x) || false)) (same x) ∙ sym (listed_append b ((c, t) ∷ []) x))

-- ---- a reading that goes through

record NextCertificate (products : Bool) (conds : ℕ) (done : Certificates) (n : ℕ) (line rest : List ℕ) (out : Result Certificates CertFault) : Type 0 where
  number : ℕ
  opens : IsCondition line number
  other : is_listed done number ≡ false
  small : number ≤ conds
  tree : Tree
  steps : ReadsTree products [] 1 (n + 1) rest (Ok tree)
  more : ReadsCerts products conds (done ++ (number, tree.steps) ∷ []) tree.line tree.rest out

-- a first line other than the end opens a certificate
next_certificate : (products : Bool) (conds : ℕ) (done : Certificates) (n : ℕ) (text line rest : List ℕ) (out : Result Certificates CertFault) (all : Certificates) → ReadsCerts products conds done n text out → out ≡ Ok all → IsLine text line rest → line ≢ codes "end" → NextCertificate products conds done n line rest out
next_certificate products conds done n text line rest out all (ends_early d m x o never is) e here other = absurd (ok_err all _ (sym is ∙ e))
next_certificate products conds done n text line rest out all (complete d m x o there is) e here other = absurd (other (one_line text line (codes "end") rest [] here there).line)
next_certificate products conds done n text line rest out all (goes_behind_end d m x o r there some is) e here other = absurd (ok_err all _ (sym is ∙ e))
next_certificate products conds done n text line rest out all (outside d m x o l r there q none is) e here other = absurd (ok_err all _ (sym is ∙ e))
next_certificate products conds done n text line rest out all (twice d m x o l r c there opens listed is) e here other = absurd (ok_err all _ (sym is ∙ e))
next_certificate products conds done n text line rest out all (absent d m x o l r c there opens listed large is) e here other = absurd (ok_err all _ (sym is ∙ e))
next_certificate products conds done n text line rest out all (bad_tree d m x o l r c f there opens listed small reads is) e here other = absurd (ok_err all _ (sym is ∙ e))
next_certificate products conds done n text line rest out all (goes_on d m x o l r c tree there opens listed small reads more) e here other =
    let one = one_line text l line r rest there here in
    record {
      number = c;
      opens = subst (λ (i : List ℕ). IsCondition i c) one.line opens;
      other = listed;
      small = small;
      tree = tree;
      steps = subst (λ (i : List ℕ). ReadsTree products [] 1 (n + 1) i (Ok tree)) one.rest reads;
      more = more;
    }

-- there is a line
no_line_read : (products : Bool) (conds : ℕ) (done : Certificates) (n : ℕ) (text : List ℕ) (out : Result Certificates CertFault) (all : Certificates) → ReadsCerts products conds done n text out → out ≡ Ok all → NoLine text → ⊥
no_line_read products conds done n text out all (ends_early d m x o q is) e never = ok_err all _ (sym is ∙ e)
no_line_read products conds done n text out all (complete d m x o here is) e never = no_line text (codes "end") [] never here
no_line_read products conds done n text out all (goes_behind_end d m x o r here some is) e never = no_line text (codes "end") r never here
no_line_read products conds done n text out all (outside d m x o l r here q none is) e never = no_line text l r never here
no_line_read products conds done n text out all (twice d m x o l r c here opens listed is) e never = no_line text l r never here
no_line_read products conds done n text out all (absent d m x o l r c here opens listed large is) e never = no_line text l r never here
no_line_read products conds done n text out all (bad_tree d m x o l r c f here opens listed small reads is) e never = no_line text l r never here
no_line_read products conds done n text out all (goes_on d m x o l r c tree here opens listed small reads more) e never = no_line text l r never here

end_opens : (text l r rest : List ℕ) (c : ℕ) → IsLine text l r → IsLine text (codes "end") rest → IsCondition l c → ⊥
end_opens text l r rest c here there opens = end_opens_none c (subst (λ (i : List ℕ). IsCondition i c) (one_line text l (codes "end") r rest here there).line opens)

-- nothing follows the end
end_read : (products : Bool) (conds : ℕ) (done : Certificates) (n : ℕ) (text rest : List ℕ) (out : Result Certificates CertFault) (all : Certificates) → ReadsCerts products conds done n text out → out ≡ Ok all → IsLine text (codes "end") rest → rest ≡ []
end_read products conds done n text rest out all (ends_early d m x o never is) e here = absurd (ok_err all _ (sym is ∙ e))
end_read products conds done n text rest out all (complete d m x o there is) e here = (one_line text (codes "end") (codes "end") rest [] here there).rest
end_read products conds done n text rest out all (goes_behind_end d m x o r there some is) e here = absurd (ok_err all _ (sym is ∙ e))
end_read products conds done n text rest out all (outside d m x o l r there q none is) e here = absurd (ok_err all _ (sym is ∙ e))
end_read products conds done n text rest out all (twice d m x o l r c there opens listed is) e here = absurd (ok_err all _ (sym is ∙ e))
end_read products conds done n text rest out all (absent d m x o l r c there opens listed large is) e here = absurd (ok_err all _ (sym is ∙ e))
end_read products conds done n text rest out all (bad_tree d m x o l r c f there opens listed small reads is) e here = absurd (ok_err all _ (sym is ∙ e))
end_read products conds done n text rest out all (goes_on d m x o l r c tree there opens listed small reads more) e here = absurd (end_opens text l r rest c there here opens)

-- ---- where certificates are refused

record Stop (products : Bool) (conds : ℕ) (done : Certificates) (n : ℕ) (text : List ℕ) (fault : CertFault) : Type 0 where
  before : ℕ
  front : List ℕ
  next : List ℕ
  after : List ℕ
  usual : IsUsual fault
  number : line_number fault ≡ n + before
  cut : text ≡ front ++ (next ++ after)
  lines : AreWholeLines before front
  ends : Ends fault next after
  more : List ℕ
  all : Certificates
  begins : ReadsCerts products conds done n (front ++ more) (Ok all)
  none : (tail : List ℕ) → Goes fault next tail → (others : Certificates) → AreAlike done others → (m : ℕ) (certs : Certificates) → ReadsCerts products conds others m (front ++ tail) (Ok certs) → ⊥

ends_now : (products : Bool) (conds : ℕ) (done : Certificates) (n : ℕ) (rest : List ℕ) → rest ≡ codes "end\n" → ReadsCerts products conds done n rest (Ok done)
ends_now products conds done n rest is = complete done n rest (Ok done) (record { is = is; passes = (refl, (refl, (refl, tt))); ends = refl }) refl

early : (products : Bool) (conds : ℕ) (done : Certificates) (n : ℕ) (text : List ℕ) → NoLine text → Stop products conds done n text (Truncated n)
early products conds done n text never = record {
  before = 0;
  front = [];
  next = text;
  after = [];
  usual = tt;
  number = sym (no_more n);
  cut = sym (none_behind text);
  lines = refl;
  ends = (never, refl);
  more = codes "end\n";
  all = done;
  begins = ends_now products conds done n (codes "end\n") refl;
  none = λ tail goes others same m certs reads. no_line_read products conds others m tail (Ok certs) certs reads refl (subst NoLine (sym goes) never);
}

-- one byte stands on one line
one_byte : (b : ℕ) → IsOnLine (b ∷ [])
one_byte b = by (eqb b 10) refl
  where
    by : (t : Bool) → eqb b 10 ≡ t → IsOnLine (b ∷ [])
    by false e = inl (ap not e, tt)
    by true e = inr ([], record { is = ap (λ (x : ℕ). x ∷ []) (eqb-true b 10 e); inside = tt })

never_none : (x : ℕ) (xs : List ℕ) → x ∷ xs ≡ [] → ⊥
never_none x xs e = cc

behind_end : (products : Bool) (conds : ℕ) (done : Certificates) (n : ℕ) (text rest : List ℕ) → IsLine text (codes "end") rest → 0 < length rest → Stop products conds done n text (BadStep (n + 1))
behind_end products conds done n text [] here some = absurd (omega (arith, some))
behind_end products conds done n text (b ∷ rest) here some = record {
  before = 1;
  front = codes "end\n";
  next = b ∷ [];
  after = rest;
  usual = tt;
  number = refl;
  cut = here.is;
  lines = (codes "end", [], record { is = refl; inside = here.passes }, refl);
  ends = one_byte b;
  more = [];
  all = done;
  begins = ends_now products conds done n (codes "end\n" ++ []) refl;
  none = λ tail goes others same m certs reads. (
      let none : tail ≡ [] = end_read products conds others m (codes "end\n" ++ tail) tail (Ok certs) certs reads refl (record { is = refl; passes = here.passes; ends = refl }) in
      never_none b goes.0 (sym goes.1 ∙ none));
}

-- a line that neither ends the file nor goes on: with it no file is read
wrong_line : (products : Bool) (conds : ℕ) (done : Certificates) (n : ℕ) (text line rest : List ℕ) (fault : CertFault) → IsLine text line rest → IsUsual fault → line_number fault ≡ n → Ends fault (line ++ 10 ∷ []) rest
    → ((tail : List ℕ) → Goes fault (line ++ 10 ∷ []) tail → (others : Certificates) → AreAlike done others → (m : ℕ) (certs : Certificates) → ReadsCerts products conds others m tail (Ok certs) → ⊥)
    → Stop products conds done n text fault
wrong_line products conds done n text line rest fault here usual number ends none = record {
  before = 0;
  front = [];
  next = line ++ 10 ∷ [];
  after = rest;
  usual = usual;
  number = number ∙ sym (no_more n);
  cut = cut_line text line rest here;
  lines = refl;
  ends = ends;
  more = codes "end\n";
  all = done;
  begins = ends_now products conds done n (codes "end\n") refl;
  none = none;
}

opened : (line : List ℕ) (c : ℕ) → IsCondition line c → line ≢ codes "end"
opened line c opens e = end_opens_none c (subst (λ (i : List ℕ). IsCondition i c) e opens)

is_outside : (products : Bool) (conds : ℕ) (done : Certificates) (n : ℕ) (text line rest : List ℕ) → IsLine text line rest → line ≢ codes "end" → HasNone (IsCondition line) → Stop products conds done n text (BadStep n)
is_outside products conds done n text line rest here other wrong =
    wrong_line products conds done n text line rest (BadStep n) here tt refl (on_line line here.passes)
    (λ tail goes others same m certs reads. (let x = next_certificate products conds others m tail line goes.0 (Ok certs) certs reads refl (line_again line goes.0 tail here.passes goes.1) other in wrong.none x.number x.opens))

is_twice : (products : Bool) (conds : ℕ) (done : Certificates) (n : ℕ) (text line rest : List ℕ) (c : ℕ) → IsLine text line rest → IsCondition line c → is_listed done c ≡ true → Stop products conds done n text (TwiceCond n)
is_twice products conds done n text line rest c here opens listed =
    wrong_line products conds done n text line rest (TwiceCond n) here tt refl (on_line line here.passes)
    (λ tail goes others same m certs reads. (
    let x = next_certificate products conds others m tail line goes.0 (Ok certs) certs reads refl (line_again line goes.0 tail here.passes goes.1) (opened line c opens) in
    true_false (is_listed others c) (sym (same c) ∙ listed) (subst (λ (d : ℕ). is_listed others d ≡ false) (same_condition line x.number c x.opens opens) x.other)))

is_absent : (products : Bool) (conds : ℕ) (done : Certificates) (n : ℕ) (text line rest : List ℕ) (c : ℕ) → IsLine text line rest → IsCondition line c → conds < c → Stop products conds done n text (NoSuchCond n)
is_absent products conds done n text line rest c here opens large =
    wrong_line products conds done n text line rest (NoSuchCond n) here tt refl (on_line line here.passes)
    (λ tail goes others same m certs reads. (
    let x = next_certificate products conds others m tail line goes.0 (Ok certs) certs reads refl (line_again line goes.0 tail here.passes goes.1) (opened line c opens) in
    absurd (omega (arith, large, subst (λ (d : ℕ). d ≤ conds) (same_condition line x.number c x.opens opens) x.small))))

in_tree : (products : Bool) (conds : ℕ) (done : Certificates) (n : ℕ) (text line rest : List ℕ) (c : ℕ) (fault : CertFault) → IsLine text line rest → IsCondition line c → is_listed done c ≡ false → c ≤ conds → TreeStop products [] 1 (n + 1) rest fault → Stop products conds done n text fault
in_tree products conds done n text line rest c fault here opens other small r =
    let closed = r.closes (codes "end\n") in
    record {
      before = suc r.before;
      front = line ++ 10 ∷ r.front;
      next = r.next;
      after = r.after;
      usual = r.usual;
      number = r.number ∙ sym (one_more n r.before);
      cut = behind_line text line rest r.front (r.next ++ r.after) here.is r.cut;
      lines = (line, r.front, record { is = refl; inside = here.passes }, r.lines);
      ends = r.ends;
      more = r.more ++ codes "end\n";
      all = done ++ (c, closed.0.steps) ∷ [];
      begins = goes_on done n ((line ++ 10 ∷ r.front) ++ (r.more ++ codes "end\n")) (Ok (done ++ (c, closed.0.steps) ∷ [])) line (r.front ++ (r.more ++ codes "end\n")) c closed.0 (line_before line r.front (r.more ++ codes "end\n") here.passes) opens other small closed.1
          (ends_now products conds (done ++ (c, closed.0.steps) ∷ []) closed.0.line closed.0.rest closed.2);
      none = λ tail goes others same m certs reads. (
          let x = next_certificate products conds others m ((line ++ 10 ∷ r.front) ++ tail) line (r.front ++ tail) (Ok certs) certs reads refl (line_before line r.front tail here.passes) (opened line c opens) in
          r.none tail goes [] (m + 1) x.tree x.steps);
    }

count : (a b d : ℕ) → a + 1 + b + d ≡ a + suc (b + d)
count a b d = omega arith

behind_tree : (products : Bool) (conds : ℕ) (done : Certificates) (n : ℕ) (text line rest : List ℕ) (c : ℕ) (tree : Tree) (fault : CertFault) → IsLine text line rest → IsCondition line c → is_listed done c ≡ false → c ≤ conds → ReadsTree products [] 1 (n + 1) rest (Ok tree) → Stop products conds (done ++ (c, tree.steps) ∷ []) tree.line tree.rest fault → Stop products conds done n text fault
behind_tree products conds done n text line rest c tree fault here opens other small reads r =
    let s = tree_spelled products [] 1 (n + 1) rest (Ok tree) tree reads refl in
    record {
      before = suc (length s.steps + r.before);
      front = line ++ 10 ∷ (s.front ++ r.front);
      next = r.next;
      after = r.after;
      usual = r.usual;
      number = r.number ∙ (ap (λ (k : ℕ). k + r.before) s.line ∙ count n (length s.steps) r.before);
      cut = behind_line text line rest (s.front ++ r.front) (r.next ++ r.after) here.is (s.cut ∙ (ap (λ (i : List ℕ). s.front ++ i) r.cut ∙ sym (grouped s.front r.front (r.next ++ r.after))));
      lines = (line, s.front ++ r.front, record { is = refl; inside = here.passes }, lines_append (length s.steps) r.before s.front r.front (steps_lines products s.steps s.front s.lines) r.lines);
      ends = r.ends;
      more = r.more;
      all = r.all;
      begins = goes_on done n ((line ++ 10 ∷ (s.front ++ r.front)) ++ r.more) (Ok r.all) line ((s.front ++ r.front) ++ r.more) c (record { steps = tree.steps; line = tree.line; rest = r.front ++ r.more }) (line_before line (s.front ++ r.front) r.more here.passes) opens other small
          (subst (λ (i : List ℕ). ReadsTree products [] 1 (n + 1) i (ok_tree tree.steps tree.line (r.front ++ r.more))) (sym (grouped s.front r.front r.more))
          (tree_is_read products s.steps [] 1 (n + 1) s.front (r.front ++ r.more) (ok_tree tree.steps tree.line (r.front ++ r.more)) s.trees s.lines
          (ap (λ (l : List Written). ok_tree l tree.line (r.front ++ r.more)) s.all ∙ ap (λ (k : ℕ). ok_tree s.steps k (r.front ++ r.more)) s.line)))
          r.begins;
      none = λ tail goes others same m certs again. (
          let x = next_certificate products conds others m ((line ++ 10 ∷ (s.front ++ r.front)) ++ tail) line ((s.front ++ r.front) ++ tail) (Ok certs) certs again refl (line_before line (s.front ++ r.front) tail here.passes) (opened line c opens) in
          let steps : ReadsTree products [] 1 (m + 1) (s.front ++ (r.front ++ tail)) (Ok x.tree) = subst (λ (i : List ℕ). ReadsTree products [] 1 (m + 1) i (Ok x.tree)) (grouped s.front r.front tail) x.steps in
          let ends : x.tree.rest ≡ r.front ++ tail = same_end products s.steps [] 1 (m + 1) s.front (r.front ++ tail) (Ok x.tree) x.tree s.lines s.trees steps refl in
          r.none tail goes (others ++ (x.number, x.tree.steps) ∷ []) (subst (λ (d : ℕ). AreAlike (done ++ (c, tree.steps) ∷ []) (others ++ (d, x.tree.steps) ∷ [])) (same_condition line c x.number opens x.opens) (alike_more done others c tree.steps x.tree.steps same)) x.tree.line certs
          (subst (λ (i : List ℕ). ReadsCerts products conds (others ++ (x.number, x.tree.steps) ∷ []) x.tree.line i (Ok certs)) ends x.more));
    }

abbrev err_tree : CertFault → Result Tree CertFault
err_tree f = Err f

stops : (products : Bool) (conds : ℕ) (done : Certificates) (n : ℕ) (text : List ℕ) (out : Result Certificates CertFault) (fault : CertFault) → ReadsCerts products conds done n text out → out ≡ Err fault → Stop products conds done n text fault
stops products conds done n text out fault (ends_early d m x o never is) e = subst (Stop products conds done n text) (err_is (Truncated n) fault (sym is ∙ e)) (early products conds done n text never)
stops products conds done n text out fault (complete d m x o here is) e = absurd (ok_err done fault (sym e ∙ is))
stops products conds done n text out fault (goes_behind_end d m x o rest here some is) e = subst (Stop products conds done n text) (err_is (BadStep (n + 1)) fault (sym is ∙ e)) (behind_end products conds done n text rest here some)
stops products conds done n text out fault (outside d m x o line rest here other none is) e = subst (Stop products conds done n text) (err_is (BadStep n) fault (sym is ∙ e)) (is_outside products conds done n text line rest here other none)
stops products conds done n text out fault (twice d m x o line rest c here opens listed is) e = subst (Stop products conds done n text) (err_is (TwiceCond n) fault (sym is ∙ e)) (is_twice products conds done n text line rest c here opens listed)
stops products conds done n text out fault (absent d m x o line rest c here opens listed large is) e = subst (Stop products conds done n text) (err_is (NoSuchCond n) fault (sym is ∙ e)) (is_absent products conds done n text line rest c here opens large)
stops products conds done n text out fault (bad_tree d m x o line rest c f here opens listed small reads is) e = in_tree products conds done n text line rest c fault here opens listed small (tree_stops products [] 1 (n + 1) rest (Err f) fault reads (ap err_tree (err_is f fault (sym is ∙ e))))
stops products conds done n text out fault (goes_on d m x o line rest c tree here opens listed small reads more) e = behind_tree products conds done n text line rest c tree fault here opens listed small reads (stops products conds (done ++ (c, tree.steps) ∷ []) tree.line tree.rest out fault more e)

-- ---- files

bytes_apart : (q r : List ℕ) → codes "wycert 1\n" ++ q ≡ codes "wycert 2\n" ++ r → ⊥
bytes_apart q r e = absurd (let t : eqb (get_or (codes "wycert 1\n" ++ q) 7 0) 49 ≡ eqb (get_or (codes "wycert 2\n" ++ r) 7 0) 49 = ap (λ (i : List ℕ). eqb (get_or i 7 0) 49) e in cc)

-- the files that begin with a first line
record Header (b : Bool) (conds : ℕ) (name : List ℕ) : Type 0 where
  inside : AllPass is_inside name
  only : (text : List ℕ) (certs : Certificates) → IsFile conds (name ++ 10 ∷ text) certs → IsBody b conds certs text
  make : (text : List ℕ) (certs : Certificates) → IsBody b conds certs text → IsFile conds (name ++ 10 ∷ text) certs

first_header : (conds : ℕ) → Header false conds (codes "wycert 1")
first_header conds = record { inside = (refl, (refl, (refl, (refl, (refl, (refl, (refl, (refl, tt)))))))); only = only; make = λ text certs h. inl (record { rest = text; is = refl; goes_on = h }) }
  where
    only : (text : List ℕ) (certs : Certificates) → IsFile conds (codes "wycert 1" ++ 10 ∷ text) certs → IsBody false conds certs text
    only text certs (inl h) = subst (IsBody false conds certs) (sym (append_cancel (codes "wycert 1\n") text h.rest h.is)) h.goes_on
    only text certs (inr h) = absurd (bytes_apart text h.rest h.is)

second_header : (conds : ℕ) → Header true conds (codes "wycert 2")
second_header conds = record { inside = (refl, (refl, (refl, (refl, (refl, (refl, (refl, (refl, tt)))))))); only = only; make = λ text certs h. inr (record { rest = text; is = refl; goes_on = h }) }
  where
    only : (text : List ℕ) (certs : Certificates) → IsFile conds (codes "wycert 2" ++ 10 ∷ text) certs → IsBody true conds certs text
    only text certs (inl h) = absurd (bytes_apart h.rest text (sym h.is))
    only text certs (inr h) = subst (IsBody true conds certs) (sym (append_cancel (codes "wycert 2\n") text h.rest h.is)) h.goes_on

begins_file : (b : Bool) (conds : ℕ) (name rest : List ℕ) (fault : CertFault) → Header b conds name → (s : Stop b conds [] 2 rest fault) → BeginsFile conds (name ++ 10 ∷ s.front)
begins_file b conds name rest fault h s = record {
  more = s.more;
  certs = s.all;
  is = subst (λ (i : List ℕ). IsFile conds i s.all) (sym (grouped name (10 ∷ s.front) s.more)) (h.make (s.front ++ s.more) s.all (body_is_spelled b conds s.all (s.front ++ s.more) s.begins));
}

-- no file goes on so
none_goes : (b : Bool) (conds : ℕ) (name rest : List ℕ) (fault : CertFault) → Header b conds name → (s : Stop b conds [] 2 rest fault) → (tail : List ℕ) → Goes fault s.next tail → (certs : Certificates) → IsFile conds ((name ++ 10 ∷ s.front) ++ tail) certs → ⊥
none_goes b conds name rest fault h s tail goes certs is =
    s.none tail goes [] (λ x. refl) 2 certs (body_is_read b conds certs (s.front ++ tail) (h.only (s.front ++ tail) certs (subst (λ (i : List ℕ). IsFile conds i certs) (grouped name (10 ∷ s.front) tail) is)))

two_more : (n k : ℕ) → n ≡ 2 + k → n ≡ suc k + 1
two_more n k e = omega (arith, e)

stops_at : (b : Bool) (conds : ℕ) (name rest : List ℕ) (fault : CertFault) → Header b conds name → (s : Stop b conds [] 2 rest fault) → IsOnLine s.next → ((more : List ℕ) → Goes fault s.next (s.next ++ more)) → StopsAt conds (name ++ 10 ∷ rest) (line_number fault)
stops_at b conds name rest fault h s on goes = record {
  before = suc s.before;
  number = two_more (line_number fault) s.before s.number;
  front = name ++ 10 ∷ s.front;
  next = s.next;
  after = s.after;
  cut = behind_line (name ++ 10 ∷ rest) name rest s.front (s.next ++ s.after) refl s.cut;
  lines = (name, s.front, record { is = refl; inside = h.inside }, s.lines);
  on = on;
  begins = begins_file b conds name rest fault h s;
  none = λ more certs is. none_goes b conds name rest fault h s (s.next ++ more) (goes more) certs is;
}

ends_at : (b : Bool) (conds : ℕ) (name rest : List ℕ) (n : ℕ) → Header b conds name → (s : Stop b conds [] 2 rest (Truncated n)) → EndsAt conds (name ++ 10 ∷ rest) n
ends_at b conds name rest n h s =
    let cut : name ++ 10 ∷ rest ≡ (name ++ 10 ∷ s.front) ++ s.next =
    behind_line (name ++ 10 ∷ rest) name rest s.front s.next refl (s.cut ∙ (ap (λ (i : List ℕ). s.front ++ (s.next ++ i)) s.ends.1 ∙ ap (λ (i : List ℕ). s.front ++ i) (none_behind s.next))) in
    record {
      before = suc s.before;
      number = two_more n s.before s.number;
      front = name ++ 10 ∷ s.front;
      next = s.next;
      cut = cut;
      lines = (name, s.front, record { is = refl; inside = h.inside }, s.lines);
      inside = s.ends.0;
      begins = begins_file b conds name rest (Truncated n) h s;
      none = λ certs is. none_goes b conds name rest (Truncated n) h s s.next refl certs (subst (λ (i : List ℕ). IsFile conds i certs) cut is);
    }

stands_behind : (b : Bool) (conds : ℕ) (name rest : List ℕ) (fault : CertFault) → Header b conds name → Stop b conds [] 2 rest fault → StandsAt conds (name ++ 10 ∷ rest) fault
stands_behind b conds name rest (BadHeader n) h s = absurd s.usual
stands_behind b conds name rest NoMemory h s = absurd s.usual
stands_behind b conds name rest (Truncated n) h s = ends_at b conds name rest n h s
stands_behind b conds name rest (BadStep n) h s = stops_at b conds name rest (BadStep n) h s s.ends (λ more. (more, refl))
stands_behind b conds name rest (TwiceCond n) h s = stops_at b conds name rest (TwiceCond n) h s s.ends (λ more. (more, refl))
stands_behind b conds name rest (NoSuchCond n) h s = stops_at b conds name rest (NoSuchCond n) h s s.ends (λ more. (more, refl))

stands_under : (b : Bool) (conds : ℕ) (name rest bytes : List ℕ) (fault : CertFault) → Header b conds name → bytes ≡ name ++ 10 ∷ rest → ReadsCerts b conds [] 2 rest (Err fault) → StandsAt conds bytes fault
stands_under b conds name rest bytes fault h is reads =
    subst (λ (i : List ℕ). StandsAt conds i fault) (sym is) (stands_behind b conds name rest fault h (stops b conds [] 2 rest (Err fault) fault reads refl))

pub faults_stand : FaultsStand
faults_stand conds bytes fault (first rest behind reads) = stands_under false conds (codes "wycert 1") rest bytes fault (first_header conds) behind.is reads
faults_stand conds bytes fault (second rest behind reads) = stands_under true conds (codes "wycert 2") rest bytes fault (second_header conds) behind.is reads
faults_stand conds bytes fault (no_header no_first no_second is) = subst (StandsAt conds bytes) (sym (err_is fault (BadHeader 1) is)) (refl, no_first, no_second)
