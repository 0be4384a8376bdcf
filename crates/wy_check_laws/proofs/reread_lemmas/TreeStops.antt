-- Where the lines of a tree of steps stop to be read.
use Rattle.std.proofs.Common.{◌≡◌, inr, ◌<◌, ◌+◌, ◌-◌, ℕ, zero, suc, List, [], ◌∷◌, ◌++◌, length, Bool, codes, Result, Ok, Err, refl, sym, ap, ◌∙◌, subst, arith}
use Rattle.wy_lemmas.proofs.Lists.{none_behind}
use Rattle.wy_lemmas.proofs.Numbers.{some_more, less_one, one_over as one_more}
use Rattle.wy_data.specs.scan.Front.{AllPass}
use Rattle.wy_check_spec.specs.wy_cert.declared.fault.CertFault.{CertFault}
use Rattle.wy_check_spec.specs.wy_cert.declared.fault.CertFault.TheVariants.{BadHeader, BadStep, Truncated, TwiceCond, NoSuchCond, NoMemory}
use Rattle.wy_check_spec.specs.wy_cert.Only.{HasNone}
use Rattle.wy_check_spec.specs.wy_cert.Steps.{Written, shut, children}
use Rattle.wy_check_spec.specs.wy_cert.Lines.{IsStep}
use Rattle.wy_check_spec.specs.wy_cert.File.{is_inside, IsLine, NoLine, Tree, ReadsTree, whole_tree, tree_ends_early, no_step, one_step}
use Rattle.wy_check_spec.proofs.wy_cert_proofs.FirstLine.{one_line, no_line}
use Rattle.wy_check_laws.specs.reread.Grammar.{AreLines, AreTrees}
use Rattle.wy_check_laws.specs.reread.Faults.{AreWholeLines, IsOnLine}
use Rattle.wy_check_laws.proofs.reread_lemmas.LineLemmas.{shut_line, same_children}
use Rattle.wy_check_laws.proofs.reread_lemmas.ReadLemmas.{grouped, line_of, no_more}
use Rattle.wy_check_laws.proofs.reread_lemmas.SpelledLemmas.{ok_is, ok_err, behind_line}

-- ---- lines

abbrev pub line_number : CertFault → ℕ
line_number (BadHeader n) = n
line_number (BadStep n) = n
line_number (Truncated n) = n
line_number (TwiceCond n) = n
line_number (NoSuchCond n) = n
line_number NoMemory = 0

-- what stands on the fault's line, and what follows
abbrev pub Ends : CertFault → List ℕ → List ℕ → Type 0
Ends (Truncated n) next after = AllPass is_inside next × (after ≡ [])
Ends fault next after = IsOnLine next

-- a text that goes on as the one that is refused: a text that isn't at its end may go on otherwise
abbrev pub Goes : CertFault → List ℕ → List ℕ → Type 0
Goes (Truncated n) next tail = tail ≡ next
Goes fault next tail = (more : List ℕ) × (tail ≡ next ++ more)

-- a fault behind the header
abbrev pub IsUsual : CertFault → Type 0
IsUsual (BadHeader n) = ⊥
IsUsual NoMemory = ⊥
IsUsual fault = Unit {0}

-- a line, its end and no more
pub on_line : (line : List ℕ) → AllPass is_inside line → IsOnLine (line ++ 10 ∷ [])
on_line line inside = inr (line, record { is = refl; inside = inside })

pub cut_line : (text line rest : List ℕ) → IsLine text line rest → text ≡ (line ++ 10 ∷ []) ++ rest
cut_line text line rest here = here.is ∙ sym (grouped line (10 ∷ []) rest)

pub line_again : (line more tail : List ℕ) → AllPass is_inside line → tail ≡ (line ++ 10 ∷ []) ++ more → IsLine tail line more
line_again line more tail inside is = record { is = is ∙ grouped line (10 ∷ []) more; passes = inside; ends = refl }

-- a line before two texts
pub line_before : (line front tail : List ℕ) → AllPass is_inside line → IsLine ((line ++ 10 ∷ front) ++ tail) line (front ++ tail)
line_before line front tail inside = record { is = grouped line (10 ∷ front) tail; passes = inside; ends = refl }

none_more : (b : ℕ) → b ≡ 0 + b
none_more b = omega arith

one_of_more : (a b : ℕ) → suc (a + b) ≡ suc a + b
one_of_more a b = omega arith

pub lines_append : (a b : ℕ) (x y : List ℕ) → AreWholeLines a x → AreWholeLines b y → AreWholeLines (a + b) (x ++ y)
lines_append zero b x y none lines = subst (λ (m : ℕ). AreWholeLines m (x ++ y)) (none_more b) (subst (λ (t : List ℕ). AreWholeLines b (t ++ y)) (sym none) lines)
lines_append (suc a) b x y (line, rest, first, more) lines =
    let all : AreWholeLines (suc (a + b)) (x ++ y) = (line, rest ++ y, record { is = ap (λ (t : List ℕ). t ++ y) first.is ∙ grouped line (10 ∷ rest) y; inside = first.inside }, lines_append a b rest y more lines) in
    subst (λ (m : ℕ). AreWholeLines m (x ++ y)) (one_of_more a b) all

pub steps_lines : (products : Bool) (steps : List Written) (text : List ℕ) → AreLines products steps text → AreWholeLines (length steps) text
steps_lines products [] text lines = lines
steps_lines products (s ∷ steps) text (line, rest, first, spelled, lines) = (line, rest, first, steps_lines products steps rest lines)

-- ---- a reading that goes through

record NextStep (products : Bool) (done : List Written) (lacking n : ℕ) (line rest : List ℕ) (out : Result Tree CertFault) : Type 0 where
  step : Written
  spelled : IsStep products line step
  reads : ReadsTree products (done ++ step ∷ []) (lacking - 1 + children step) (n + 1) rest out

none_lacks : (lacking : ℕ) → 0 < lacking → lacking ≡ 0 → ⊥
none_lacks lacking some none = omega (arith, some, none)

-- where a step is still to come, it stands on the first line
next_step : (products : Bool) (done : List Written) (lacking n : ℕ) (text line rest : List ℕ) (out : Result Tree CertFault) (t : Tree) → ReadsTree products done lacking n text out → out ≡ Ok t → 0 < lacking → IsLine text line rest → NextStep products done lacking n line rest out
next_step products done lacking n text line rest out t (whole_tree d l m x o ends is) e some here = absurd (none_lacks lacking some ends)
next_step products done lacking n text line rest out t (tree_ends_early d l m x o q never is) e some here = absurd (ok_err t _ (sym is ∙ e))
next_step products done lacking n text line rest out t (no_step d l m x o line2 rest2 q there none is) e some here = absurd (ok_err t _ (sym is ∙ e))
next_step products done lacking n text line rest out t (one_step d l m x o line2 rest2 s q there spelled more) e some here =
    let one = one_line text line2 line rest2 rest there here in
    record {
      step = s;
      spelled = subst (λ (i : List ℕ). IsStep products i s) one.line spelled;
      reads = subst (λ (i : List ℕ). ReadsTree products (done ++ s ∷ []) (lacking - 1 + children s) (n + 1) i out) one.rest more;
    }

-- a step that is still to come has a line
no_line_left : (products : Bool) (done : List Written) (lacking n : ℕ) (text : List ℕ) (out : Result Tree CertFault) (t : Tree) → ReadsTree products done lacking n text out → out ≡ Ok t → 0 < lacking → NoLine text → ⊥
no_line_left products done lacking n text out t (whole_tree d l m x o ends is) e some never = none_lacks lacking some ends
no_line_left products done lacking n text out t (tree_ends_early d l m x o q r is) e some never = ok_err t _ (sym is ∙ e)
no_line_left products done lacking n text out t (no_step d l m x o line rest q here none is) e some never = no_line text line rest never here
no_line_left products done lacking n text out t (one_step d l m x o line rest s q here spelled more) e some never = no_line text line rest never here

-- where no step is to come, nothing is read
nothing_left : (products : Bool) (done : List Written) (lacking n : ℕ) (text : List ℕ) (out : Result Tree CertFault) (t : Tree) → ReadsTree products done lacking n text out → out ≡ Ok t → lacking ≡ 0 → t.rest ≡ text
nothing_left products done lacking n text out t (whole_tree d l m x o ends is) e none = sym (ap (λ (u : Tree). u.rest) (ok_is (record { steps = done; line = n; rest = text }) t (sym is ∙ e)))
nothing_left products done lacking n text out t (tree_ends_early d l m x o some never is) e none = absurd (none_lacks lacking some none)
nothing_left products done lacking n text out t (no_step d l m x o line rest some here q is) e none = absurd (none_lacks lacking some none)
nothing_left products done lacking n text out t (one_step d l m x o line rest s some here spelled more) e none = absurd (none_lacks lacking some none)

-- a reading of the lines of a tree ends behind them
pub same_end : (products : Bool) (steps done : List Written) (lacking n : ℕ) (front rest : List ℕ) (out : Result Tree CertFault) (t : Tree) → AreLines products steps front → AreTrees lacking steps → ReadsTree products done lacking n (front ++ rest) out → out ≡ Ok t → t.rest ≡ rest
same_end products [] done zero n front rest out t lines trees reads e = nothing_left products done 0 n (front ++ rest) out t reads e refl ∙ ap (λ (i : List ℕ). i ++ rest) lines
same_end products [] done (suc k) n front rest out t lines trees reads e = absurd trees
same_end products (s ∷ steps) done zero n front rest out t lines trees reads e = absurd trees
same_end products (s ∷ steps) done (suc k) n front rest out t (line, more, first, spelled, lines) trees reads e =
    let next = next_step products done (suc k) n (front ++ rest) line (more ++ rest) out t reads e (some_more k) (line_of line more front rest first) in
    let same : suc k - 1 + children next.step ≡ k + children s = less_one k (children next.step) ∙ ap (λ (c : ℕ). k + c) (same_children products line next.step s next.spelled spelled) in
    same_end products steps (done ++ next.step ∷ []) (k + children s) (n + 1) more rest out t lines trees (subst (λ (m : ℕ). ReadsTree products (done ++ next.step ∷ []) m (n + 1) (more ++ rest) out) same next.reads) e

-- ---- closing what is still to come

record Closing (products : Bool) (done : List Written) (lacking n : ℕ) (more rest : List ℕ) : Type 0 where
  tree : Tree
  reads : ReadsTree products done lacking n (more ++ rest) (Ok tree)
  goes_on : tree.rest ≡ rest

abbrev shuts : ℕ → List ℕ
shuts zero = []
shuts (suc k) = codes "shut\n" ++ shuts k

closing : (products : Bool) (k : ℕ) (done : List Written) (n : ℕ) (rest : List ℕ) → Closing products done k n (shuts k) rest
closing products zero done n rest = record { tree = record { steps = done; line = n; rest = rest }; reads = whole_tree done 0 n rest _ refl refl; goes_on = refl }
closing products (suc k) done n rest =
    let r = closing products k (done ++ shut ∷ []) (n + 1) rest in
    record {
      tree = r.tree;
      reads = one_step done (suc k) n (codes "shut\n" ++ shuts k ++ rest) (Ok r.tree) (codes "shut") (shuts k ++ rest) shut (some_more k) (record { is = refl; passes = (refl, (refl, (refl, (refl, tt)))); ends = refl }) (shut_line products)
          (subst (λ (m : ℕ). ReadsTree products (done ++ shut ∷ []) m (n + 1) (shuts k ++ rest) (Ok r.tree)) (sym (less_one k 0 ∙ no_more k)) r.reads);
      goes_on = r.goes_on;
    }

-- ---- where a tree is refused

pub record TreeStop (products : Bool) (done : List Written) (lacking n : ℕ) (text : List ℕ) (fault : CertFault) : Type 0 where
  pub before : ℕ
  pub front : List ℕ
  pub next : List ℕ
  pub after : List ℕ
  pub usual : IsUsual fault
  pub number : line_number fault ≡ n + before
  pub cut : text ≡ front ++ (next ++ after)
  pub lines : AreWholeLines before front
  pub ends : Ends fault next after
  pub more : List ℕ
  pub closes : (rest : List ℕ) → (tree : Tree) × ReadsTree products done lacking n (front ++ (more ++ rest)) (Ok tree) × (tree.rest ≡ rest)
  pub none : (tail : List ℕ) → Goes fault next tail → (others : List Written) (m : ℕ) (t : Tree) → ReadsTree products others lacking m (front ++ tail) (Ok t) → ⊥

closes_here : (products : Bool) (done : List Written) (lacking n : ℕ) (rest : List ℕ) → (tree : Tree) × ReadsTree products done lacking n (shuts lacking ++ rest) (Ok tree) × (tree.rest ≡ rest)
closes_here products done lacking n rest = let c = closing products lacking done n rest in (c.tree, c.reads, c.goes_on)

pub err_is : {X E : Type 0} (f g : E) → (let o : Result X E = Err f in o) ≡ Err g → f ≡ g
err_is f g e = cc

ends_here : (products : Bool) (done : List Written) (lacking n : ℕ) (text : List ℕ) → 0 < lacking → NoLine text → TreeStop products done lacking n text (Truncated n)
ends_here products done lacking n text some never = record {
  before = 0;
  front = [];
  next = text;
  after = [];
  usual = tt;
  number = sym (no_more n);
  cut = sym (none_behind text);
  lines = refl;
  ends = (never, refl);
  more = shuts lacking;
  closes = closes_here products done lacking n;
  none = λ tail goes others m t reads. no_line_left products others lacking m tail (Ok t) t reads refl some (subst NoLine (sym goes) never);
}

stops_here : (products : Bool) (done : List Written) (lacking n : ℕ) (text line rest : List ℕ) → 0 < lacking → IsLine text line rest → HasNone (IsStep products line) → TreeStop products done lacking n text (BadStep n)
stops_here products done lacking n text line rest some here wrong = record {
  before = 0;
  front = [];
  next = line ++ 10 ∷ [];
  after = rest;
  usual = tt;
  number = sym (no_more n);
  cut = cut_line text line rest here;
  lines = refl;
  ends = on_line line here.passes;
  more = shuts lacking;
  closes = closes_here products done lacking n;
  none = λ tail goes others m t reads. (let s = next_step products others lacking m tail line goes.0 (Ok t) t reads refl some (line_again line goes.0 tail here.passes goes.1) in wrong.none s.step s.spelled);
}

stops_behind : (products : Bool) (done : List Written) (lacking n : ℕ) (text line rest : List ℕ) (s : Written) (fault : CertFault) → 0 < lacking → IsLine text line rest → IsStep products line s → TreeStop products (done ++ s ∷ []) (lacking - 1 + children s) (n + 1) rest fault → TreeStop products done lacking n text fault
stops_behind products done lacking n text line rest s fault some here spelled r = record {
  before = suc r.before;
  front = line ++ 10 ∷ r.front;
  next = r.next;
  after = r.after;
  usual = r.usual;
  number = r.number ∙ sym (one_more n r.before);
  cut = behind_line text line rest r.front (r.next ++ r.after) here.is r.cut;
  lines = (line, r.front, record { is = refl; inside = here.passes }, r.lines);
  ends = r.ends;
  more = r.more;
  closes = λ end. (let c = r.closes end in (c.0, one_step done lacking n ((line ++ 10 ∷ r.front) ++ (r.more ++ end)) (Ok c.0) line (r.front ++ (r.more ++ end)) s some (line_before line r.front (r.more ++ end) here.passes) spelled c.1, c.2));
  none = λ tail goes others m t reads. (
      let x = next_step products others lacking m ((line ++ 10 ∷ r.front) ++ tail) line (r.front ++ tail) (Ok t) t reads refl some (line_before line r.front tail here.passes) in
      r.none tail goes (others ++ x.step ∷ []) (m + 1) t (subst (λ (k : ℕ). ReadsTree products (others ++ x.step ∷ []) (lacking - 1 + k) (m + 1) (r.front ++ tail) (Ok t)) (same_children products line x.step s x.spelled spelled) x.reads));
}

pub tree_stops : (products : Bool) (done : List Written) (lacking n : ℕ) (text : List ℕ) (out : Result Tree CertFault) (fault : CertFault) → ReadsTree products done lacking n text out → out ≡ Err fault → TreeStop products done lacking n text fault
tree_stops products done lacking n text out fault (whole_tree d l m x o ends is) e = absurd (ok_err _ fault (sym e ∙ is))
tree_stops products done lacking n text out fault (tree_ends_early d l m x o some never is) e = subst (TreeStop products done lacking n text) (err_is (Truncated n) fault (sym is ∙ e)) (ends_here products done lacking n text some never)
tree_stops products done lacking n text out fault (no_step d l m x o line rest some here wrong is) e = subst (TreeStop products done lacking n text) (err_is (BadStep n) fault (sym is ∙ e)) (stops_here products done lacking n text line rest some here wrong)
tree_stops products done lacking n text out fault (one_step d l m x o line rest s some here spelled more) e =
    stops_behind products done lacking n text line rest s fault some here spelled (tree_stops products (done ++ s ∷ []) (lacking - 1 + children s) (n + 1) rest out fault more e)
