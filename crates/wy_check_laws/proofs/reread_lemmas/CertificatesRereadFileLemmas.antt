-- The text of certificates is read as these certificates.
use Rattle.std.proofs.Common.{◌≡◌, ◌+◌, ℕ, zero, suc, List, [], ◌∷◌, ◌++◌, length, Bool, true, false, codes, Result, Ok, refl, sym, ap, ◌∙◌, subst, arith}
use Rattle.std.specs.Fmt.{decimal}
use Rattle.wy_check_laws.proofs.reread_lemmas.ReadLemmas.{ok_certs}
use Rattle.wy_lemmas.proofs.Choices.{or_left, or_right}
use Rattle.wy_lemmas.proofs.Lists.{none_behind}
use Rattle.wy_lemmas.proofs.Numbers.{some_more, less_one, one_over as one_more}
use Rattle.wy_data.specs.scan.Front.{AllPass}
use Rattle.wy_check_spec.specs.wy_cert.declared.fault.CertFault.{CertFault}
use Rattle.wy_check_spec.specs.wy_cert.Steps.{Written, children, Certificates}
use Rattle.wy_check_spec.specs.wy_cert.File.{is_inside, IsLine, IsCondition, Tree, ReadsTree, whole_tree, one_step, ReadsCerts, complete, goes_on, ReadsFile, first, second}
use Rattle.wy_check_spec.specs.wy_cert.writing.Text.{texts, step_text, line_text, certificate_text, is_product, some_pass, has_product, header}
use Rattle.wy_check_laws.specs.reread.Writable.{IsPlace, AreWritable, AreTrees, AreWritableBehind, ReadsWhatIsWritten}
use Rattle.wy_check_laws.proofs.reread_lemmas.StepLemmas.{line_spells, place_inside, step_inside, last_place}

-- ---- lists

grouped : {X : Type 0} (a b c : List X) → (a ++ b) ++ c ≡ a ++ (b ++ c)
grouped [] b c = refl
grouped (x ∷ a) b c = ap (λ (l : List _). x ∷ l) (grouped a b c)

-- ---- lines

a_line : (line rest : List ℕ) → AllPass is_inside line → IsLine ((line ++ codes "\n") ++ rest) line rest
a_line line rest h = record { is = grouped line (codes "\n") rest; passes = h; ends = refl }

-- ---- trees

abbrev ok_tree : Tree → Result Tree CertFault
ok_tree t = Ok t

-- a product stands only where products are allowed
abbrev AreAllowed : Bool → List Written → Type 0
AreAllowed products [] = Unit {0}
AreAllowed products (s ∷ steps) = (is_product s ≡ true → products ≡ true) × AreAllowed products steps

tree_is_read : (products : Bool) (steps done : List Written) (lacking n : ℕ) (rest : List ℕ) (out : Result Tree CertFault) → AreAllowed products steps → AreTrees lacking steps → AreWritable steps → out ≡ Ok (record { steps = done ++ steps; line = n + length steps; rest = rest }) → ReadsTree products done lacking n (texts line_text steps ++ rest) out
tree_is_read products [] done zero n rest out allowed trees writable is =
    whole_tree done zero n rest out refl (is ∙ ap (λ (l : List Written). let t : Tree = record { steps = l; line = n + 0; rest = rest } in ok_tree t) (none_behind done) ∙ ap (λ (k : ℕ). let t : Tree = record { steps = done; line = k; rest = rest } in ok_tree t) no_more)
  where
    no_more : n + 0 ≡ n
    no_more = omega arith
tree_is_read products [] done (suc k) n rest out allowed trees writable is = absurd trees
tree_is_read products (s ∷ steps) done zero n rest out allowed trees writable is = absurd trees
tree_is_read products (s ∷ steps) done (suc k) n rest out allowed trees writable is =
    one_step done (suc k) n ((line_text s ++ texts line_text steps) ++ rest) out (step_text s) (texts line_text steps ++ rest) s (some_more k)
    (subst (λ (l : List ℕ). IsLine l (step_text s) (texts line_text steps ++ rest)) (sym (grouped (line_text s) (texts line_text steps) rest)) (a_line (step_text s) (texts line_text steps ++ rest) (step_inside s writable.0)))
    (line_spells products s allowed.0 writable.0)
    (subst (λ (m : ℕ). ReadsTree products (done ++ s ∷ []) m (n + 1) (texts line_text steps ++ rest) out) (sym (less_one k (children s)))
    (tree_is_read products steps (done ++ s ∷ []) (k + children s) (n + 1) rest out allowed.1 trees writable.1
    (is ∙ (ap (λ (l : List Written). ok_tree (record { steps = l; line = n + suc (length steps); rest = rest })) (sym (grouped done (s ∷ []) steps)) ∙ ap (λ (m : ℕ). ok_tree (record { steps = (done ++ s ∷ []) ++ steps; line = m; rest = rest })) (one_more n (length steps))))))

-- ---- certificates

opens : (n : ℕ) → IsPlace n → IsCondition (codes "cond " ++ decimal n) n
opens n h = record { text = decimal n; opens = record { is = refl }; number = last_place n h }

cond_inside : (n : ℕ) → IsPlace n → AllPass is_inside (codes "cond " ++ decimal n)
cond_inside n h = (refl, (refl, (refl, (refl, (refl, place_inside n h)))))

abbrev AllAllowed : Bool → Certificates → Type 0
AllAllowed products [] = Unit {0}
AllAllowed products (c ∷ cs) = AreAllowed products c.1 × AllAllowed products cs

-- the text of a certificate and what follows, as a line and the lines of steps
spread : (n : ℕ) (steps : List Written) (more : List ℕ) → certificate_text (n, steps) ++ more ≡ ((codes "cond " ++ decimal n) ++ codes "\n") ++ (texts line_text steps ++ more)
spread n steps more =
    ap (λ (l : List ℕ). codes "cond " ++ l)
    (grouped (decimal n) (codes "\n" ++ texts line_text steps) more
    ∙ sym (grouped (decimal n) (codes "\n") (texts line_text steps ++ more)))

certs_are_read : (products : Bool) (conds : ℕ) (certs done : Certificates) (n : ℕ) (out : Result Certificates CertFault) → AllAllowed products certs → AreWritableBehind conds done certs → out ≡ Ok (done ++ certs) → ReadsCerts products conds done n (texts certificate_text certs ++ codes "end\n") out
certs_are_read products conds [] done n out allowed writable is =
    complete done n (codes "end\n") out (record { is = refl; passes = (refl, (refl, (refl, tt))); ends = refl }) (is ∙ ap ok_certs (none_behind done))
certs_are_read products conds (c ∷ cs) done n out allowed writable is =
    subst (λ (text : List ℕ). ReadsCerts products conds done n text out) (sym (grouped (certificate_text c) (texts certificate_text cs) (codes "end\n") ∙ spread c.0 c.1 (texts certificate_text cs ++ codes "end\n")))
    (goes_on done n (((codes "cond " ++ decimal c.0) ++ codes "\n") ++ (texts line_text c.1 ++ (texts certificate_text cs ++ codes "end\n"))) out (codes "cond " ++ decimal c.0) (texts line_text c.1 ++ (texts certificate_text cs ++ codes "end\n")) c.0
    (record { steps = c.1; line = (n + 1) + length c.1; rest = texts certificate_text cs ++ codes "end\n" })
    (a_line (codes "cond " ++ decimal c.0) (texts line_text c.1 ++ (texts certificate_text cs ++ codes "end\n")) (cond_inside c.0 writable.0))
    (opens c.0 writable.0)
    writable.2
    writable.1
    (tree_is_read products c.1 [] 1 (n + 1) (texts certificate_text cs ++ codes "end\n") _ allowed.0 writable.3 writable.4 refl)
    (certs_are_read products conds cs (done ++ c ∷ []) ((n + 1) + length c.1) out allowed.1 writable.5 (is ∙ ap ok_certs (sym (grouped done (c ∷ []) cs)))))

-- ---- files

steps_allowed : (b : Bool) (steps : List Written) → (some_pass is_product steps ≡ true → b ≡ true) → AreAllowed b steps
steps_allowed b [] h = tt
steps_allowed b (s ∷ steps) h = (λ e. h (or_left (is_product s) (some_pass is_product steps) e), steps_allowed b steps (λ e. h (or_right (is_product s) (some_pass is_product steps) e)))

certs_allowed : (b : Bool) (certs : Certificates) → (some_pass has_product certs ≡ true → b ≡ true) → AllAllowed b certs
certs_allowed b [] h = tt
certs_allowed b (c ∷ cs) h = (steps_allowed b c.1 (λ e. h (or_left (has_product c) (some_pass has_product cs) e)), certs_allowed b cs (λ e. h (or_right (has_product c) (some_pass has_product cs) e)))

pub reads_what_is_written : ReadsWhatIsWritten
reads_what_is_written conds certs writable = by (some_pass has_product certs) refl
  where
    by : (b : Bool) → some_pass has_product certs ≡ b → ReadsFile conds (header b ++ (texts certificate_text certs ++ codes "end\n")) (Ok certs)
    by false is = first (texts certificate_text certs ++ codes "end\n") (record { is = refl }) (certs_are_read false conds certs [] 2 (Ok certs) (certs_allowed false certs (λ e. sym is ∙ e)) writable refl)
    by true is = second (texts certificate_text certs ++ codes "end\n") (record { is = refl }) (certs_are_read true conds certs [] 2 (Ok certs) (certs_allowed true certs (λ e. refl)) writable refl)
