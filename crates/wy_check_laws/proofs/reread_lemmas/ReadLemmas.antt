-- What the grammar spells is read.
use Rattle.std.proofs.Common.{◌≡◌, ◌+◌, ℕ, zero, suc, List, [], ◌∷◌, ◌++◌, length, Bool, codes, Result, Ok, refl, sym, ap, ◌∙◌, subst, arith}
use Rattle.wy_check_spec.specs.wy_cert.declared.fault.CertFault.{CertFault}
use Rattle.wy_check_spec.specs.wy_cert.Steps.{Written, children, Certificates}
use Rattle.wy_check_spec.specs.wy_cert.File.{IsLine, Tree, ReadsTree, whole_tree, one_step, ReadsCerts, complete, goes_on}
use Rattle.wy_check_laws.specs.reread.Grammar.{IsFirst, AreLines, AreTrees, AreCertificates, AreApart}
use Rattle.wy_lemmas.proofs.Lists.{none_behind}
use Rattle.wy_lemmas.proofs.Numbers.{some_more, less_one, one_over as one_more}

pub grouped : {X : Type 0} (a b c : List X) → (a ++ b) ++ c ≡ a ++ (b ++ c)
grouped [] b c = refl
grouped (x ∷ a) b c = ap (λ (l : List _). x ∷ l) (grouped a b c)

-- a text that begins with a line, where more follows it
pub line_of : (line rest text more : List ℕ) → IsFirst line rest text → IsLine (text ++ more) line (rest ++ more)
line_of line rest text more h = record { is = ap (λ (l : List ℕ). l ++ more) h.is ∙ grouped line (10 ∷ rest) more; passes = h.inside; ends = refl }

-- ---- trees

abbrev pub ok_tree : List Written → ℕ → List ℕ → Result Tree CertFault
ok_tree steps n rest = Ok (record { steps = steps; line = n; rest = rest })

abbrev pub ok_certs : Certificates → Result Certificates CertFault
ok_certs c = Ok c

pub no_more : (n : ℕ) → n + 0 ≡ n
no_more n = omega arith

pub tree_is_read : (products : Bool) (steps done : List Written) (lacking n : ℕ) (text rest : List ℕ) (out : Result Tree CertFault) → AreTrees lacking steps → AreLines products steps text → out ≡ ok_tree (done ++ steps) (n + length steps) rest → ReadsTree products done lacking n (text ++ rest) out
tree_is_read products [] done zero n text rest out trees lines is =
    subst (λ (t : List ℕ). ReadsTree products done 0 n (t ++ rest) out) (sym lines)
    (whole_tree done zero n rest out refl (is ∙ (ap (λ (l : List Written). ok_tree l (n + 0) rest) (none_behind done) ∙ ap (λ (k : ℕ). ok_tree done k rest) (no_more n))))
tree_is_read products [] done (suc k) n text rest out trees lines is = absurd trees
tree_is_read products (s ∷ steps) done zero n text rest out trees lines is = absurd trees
tree_is_read products (s ∷ steps) done (suc k) n text rest out trees (line, more, here, spelled, lines) is =
    one_step done (suc k) n (text ++ rest) out line (more ++ rest) s (some_more k) (line_of line more text rest here) spelled
    (subst (λ (m : ℕ). ReadsTree products (done ++ s ∷ []) m (n + 1) (more ++ rest) out) (sym (less_one k (children s)))
    (tree_is_read products steps (done ++ s ∷ []) (k + children s) (n + 1) more rest out trees lines
    (is ∙ (ap (λ (l : List Written). ok_tree l (n + suc (length steps)) rest) (sym (grouped done (s ∷ []) steps)) ∙ ap (λ (m : ℕ). ok_tree ((done ++ s ∷ []) ++ steps) m rest) (one_more n (length steps))))))

-- ---- certificates

pub certificates_are_read : (products : Bool) (conds : ℕ) (certs done : Certificates) (n : ℕ) (body : List ℕ) (out : Result Certificates CertFault) → AreCertificates products certs body → AreApart conds done certs → out ≡ ok_certs (done ++ certs) → ReadsCerts products conds done n (body ++ codes "end\n") out
certificates_are_read products conds [] done n body out spelled apart is =
    subst (λ (t : List ℕ). ReadsCerts products conds done n (t ++ codes "end\n") out) (sym spelled)
    (complete done n (codes "end\n") out (record { is = refl; passes = (refl, (refl, (refl, tt))); ends = refl }) (is ∙ ap ok_certs (none_behind done)))
certificates_are_read products conds (c ∷ cs) done n body out (front, rest, cut, here, spelled) apart is =
    subst (λ (t : List ℕ). ReadsCerts products conds done n t out) (sym (ap (λ (l : List ℕ). l ++ codes "end\n") cut ∙ grouped front rest (codes "end\n")))
    (goes_on done n (front ++ (rest ++ codes "end\n")) out here.line (here.body ++ (rest ++ codes "end\n")) c.0
    (record { steps = c.1; line = (n + 1) + length c.1; rest = rest ++ codes "end\n" })
    (line_of here.line here.body front (rest ++ codes "end\n") here.begins)
    here.opens
    apart.1
    apart.0
    (tree_is_read products c.1 [] 1 (n + 1) here.body (rest ++ codes "end\n") _ here.whole here.steps refl)
    (certificates_are_read products conds cs (done ++ c ∷ []) ((n + 1) + length c.1) rest out spelled apart.2 (is ∙ ap ok_certs (sym (grouped done (c ∷ []) cs)))))
