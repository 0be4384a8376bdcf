-- What is read is spelled by the grammar.
use Rattle.std.proofs.Common.{◌≡◌, ◌<◌, ◌+◌, ◌-◌, ℕ, zero, suc, List, [], ◌∷◌, ◌++◌, length, Bool, codes, Result, Ok, Err, refl, sym, ap, ◌∙◌, subst, arith}
use Rattle.wy_check_spec.specs.wy_cert.declared.fault.CertFault.{CertFault}
use Rattle.wy_check_spec.specs.wy_cert.Steps.{Written, children, Certificates}
use Rattle.wy_check_spec.specs.wy_cert.File.{Tree, ReadsTree, whole_tree, tree_ends_early, no_step, one_step, ReadsCerts, ends_early, complete, goes_behind_end, outside, twice, absent, bad_tree, goes_on}
use Rattle.wy_check_laws.specs.reread.Grammar.{AreLines, AreTrees, AreCertificates, AreApart}
use Rattle.wy_check_laws.proofs.reread_lemmas.ReadLemmas.{grouped, no_more}
use Rattle.wy_lemmas.proofs.Lists.{none_behind}
use Rattle.wy_lemmas.proofs.Numbers.{one_over as one_more}

-- ---- answers

pub ok_is : {X E : Type 0} (x y : X) → (let o : Result X E = Ok x in o) ≡ Ok y → x ≡ y
ok_is x y e = cc

pub ok_err : {X E : Type 0} (x : X) (f : E) → (let o : Result X E = Err f in o) ≡ Ok x → ⊥
ok_err x f e = cc

-- ---- lines

-- a line before a text that is two parts
pub behind_line : (text line rest front more : List ℕ) → text ≡ line ++ 10 ∷ rest → rest ≡ front ++ more → text ≡ (line ++ 10 ∷ front) ++ more
behind_line text line rest front more is cut = is ∙ (ap (λ (l : List ℕ). line ++ 10 ∷ l) cut ∙ sym (grouped line (10 ∷ front) more))

-- ---- trees

trees_up : (lacking : ℕ) (s : Written) (steps : List Written) → 0 < lacking → AreTrees (lacking - 1 + children s) steps → AreTrees lacking (s ∷ steps)
trees_up zero s steps some h = absurd (omega (arith, some))
trees_up (suc k) s steps some h = subst (λ (m : ℕ). AreTrees m steps) less_one h
  where
    less_one : suc k - 1 + children s ≡ k + children s
    less_one = omega arith

no_trees : (lacking : ℕ) → lacking ≡ 0 → AreTrees lacking []
no_trees lacking is = subst (λ (m : ℕ). AreTrees m []) (sym is) tt

-- behind the steps that are done, the text begins with the lines of the others
pub record IsSpelled (products : Bool) (done : List Written) (lacking n : ℕ) (text : List ℕ) (t : Tree) : Type 0 where
  pub steps : List Written
  pub front : List ℕ
  pub cut : text ≡ front ++ t.rest
  pub lines : AreLines products steps front
  pub trees : AreTrees lacking steps
  pub all : t.steps ≡ done ++ steps
  pub line : t.line ≡ n + length steps

pub tree_spelled : (products : Bool) (done : List Written) (lacking n : ℕ) (text : List ℕ) (out : Result Tree CertFault) (t : Tree) → ReadsTree products done lacking n text out → out ≡ Ok t → IsSpelled products done lacking n text t
tree_spelled products done lacking n text out t (whole_tree d l m x o ends is) e =
    subst (IsSpelled products done lacking n text) (ok_is (record { steps = done; line = n; rest = text }) t (sym is ∙ e))
    (record { steps = []; front = []; cut = refl; lines = refl; trees = no_trees lacking ends; all = sym (none_behind done); line = sym (no_more n) })
tree_spelled products done lacking n text out t (tree_ends_early d l m x o some never is) e = absurd (ok_err t _ (sym is ∙ e))
tree_spelled products done lacking n text out t (no_step d l m x o line rest some here none is) e = absurd (ok_err t _ (sym is ∙ e))
tree_spelled products done lacking n text out t (one_step d l m x o line rest s some here spelled more) e =
    let r = tree_spelled products (done ++ s ∷ []) (lacking - 1 + children s) (n + 1) rest out t more e in
    record {
      steps = s ∷ r.steps;
      front = line ++ 10 ∷ r.front;
      cut = behind_line text line rest r.front t.rest here.is r.cut;
      lines = (line, r.front, record { is = refl; inside = here.passes }, spelled, r.lines);
      trees = trees_up lacking s r.steps some r.trees;
      all = r.all ∙ grouped done (s ∷ []) r.steps;
      line = r.line ∙ sym (one_more n (length r.steps));
    }

-- ---- certificates

-- behind the certificates that are done, the text is that of the others and the end
pub record AreSpelled (products : Bool) (conds : ℕ) (done : Certificates) (text : List ℕ) (all : Certificates) : Type 0 where
  pub certs : Certificates
  pub body : List ℕ
  pub cut : text ≡ body ++ codes "end\n"
  pub spelled : AreCertificates products certs body
  pub apart : AreApart conds done certs
  pub are : all ≡ done ++ certs

none_left : (products : Bool) (conds : ℕ) (done : Certificates) (text : List ℕ) → text ≡ codes "end\n" → AreSpelled products conds done text done
none_left products conds done text is = record { certs = []; body = []; cut = is; spelled = refl; apart = tt; are = sym (none_behind done) }

pub certificates_spelled : (products : Bool) (conds : ℕ) (done : Certificates) (n : ℕ) (text : List ℕ) (out : Result Certificates CertFault) (all : Certificates) → ReadsCerts products conds done n text out → out ≡ Ok all → AreSpelled products conds done text all
certificates_spelled products conds done n text out all (ends_early d m x o never is) e = absurd (ok_err all _ (sym is ∙ e))
certificates_spelled products conds done n text out all (complete d m x o here is) e =
    subst (AreSpelled products conds done text) (ok_is done all (sym is ∙ e)) (none_left products conds done text here.is)
certificates_spelled products conds done n text out all (goes_behind_end d m x o rest here some is) e = absurd (ok_err all _ (sym is ∙ e))
certificates_spelled products conds done n text out all (outside d m x o line rest here other none is) e = absurd (ok_err all _ (sym is ∙ e))
certificates_spelled products conds done n text out all (twice d m x o line rest c here cond listed is) e = absurd (ok_err all _ (sym is ∙ e))
certificates_spelled products conds done n text out all (absent d m x o line rest c here cond listed large is) e = absurd (ok_err all _ (sym is ∙ e))
certificates_spelled products conds done n text out all (bad_tree d m x o line rest c fault here cond listed small reads is) e = absurd (ok_err all _ (sym is ∙ e))
certificates_spelled products conds done n text out all (goes_on d m x o line rest c tree here cond listed small reads more) e =
    let t = tree_spelled products [] 1 (n + 1) rest (Ok tree) tree reads refl in
    let r = certificates_spelled products conds (done ++ (c, tree.steps) ∷ []) tree.line tree.rest out all more e in
    record {
      certs = (c, tree.steps) ∷ r.certs;
      body = (line ++ 10 ∷ t.front) ++ r.body;
      cut = behind_line text line rest t.front tree.rest here.is t.cut ∙ (ap (λ (l : List ℕ). (line ++ 10 ∷ t.front) ++ l) r.cut ∙ sym (grouped (line ++ 10 ∷ t.front) r.body (codes "end\n")));
      spelled = (
        line ++ 10 ∷ t.front,
        r.body,
        refl,
        record {
          line = line;
          body = t.front;
          begins = record { is = refl; inside = here.passes };
          opens = cond;
          steps = subst (λ (l : List Written). AreLines products l t.front) (sym t.all) t.lines;
          whole = subst (AreTrees 1) (sym t.all) t.trees;
        },
        r.spelled,
      );
      apart = (small, listed, r.apart);
      are = r.are ∙ grouped done ((c, tree.steps) ∷ []) r.certs;
    }
