-- Bounds by which the variables of a literal's form are replaced, and what has been stated of a node's forms.
use Rattle.std.specs.Prelude.{◌≡◌, ◌<◌, ℕ, List, [], ◌∷◌, map, true, false, Option, Some, None}
use Rattle.wy_term.specs.Term.{two, at_most}
use Rattle.wy_term.specs.Condition.{Entry}
use Rattle.wy_lin.specs.Linear.{Linear}
use Rattle.wy_lin.specs.TermForm.{form_of_literal}
use Rattle.wy_lin.specs.Seen.{linear_form, seen}
use Rattle.wy_facts.specs.Made.{is_at_most}
use Rattle.wy_prove_drafts.specs.wy_check_spec.judge.Node.{Literal, Node, has_literal}
use Rattle.wy_prove_drafts.specs.wy_check_spec.valid.Literals.{formula_of}
use Rattle.wy_search_spec.specs.Standing.{present}
use Rattle.wy_search_spec.specs.Classes.{classes}
use Rattle.wy_search_spec.specs.Bounds.{order_form, Replaced, is_refuting, is_leaving, any_so, forms_in, with_form}
use Rattle.wy_prove_drafts.specs.Progress.{Progress, Ends}
use Rattle.wy_prove_leaves.specs.linked.Linked.{AreLinkedClasses, IsBase}
use Rattle.wy_prove_leaves.specs.stated_sums.Named.{at, holding, IsVariable, IsNamed, AreNamed}
use Rattle.wy_prove_leaves.specs.stated_sums.Cuts.{Grows}
use Rattle.wy_prove_leaves.specs.declared.stated_sums.stated.Stated.{Stated}
use Rattle.wy_prove_leaves.specs.declared.stated_sums.stated.Turn.{Turn}
use Rattle.wy_prove_leaves.specs.declared.stated_sums.stated.Turn.TheVariants.{GoesOn, Closes, Lacks}

-- the first node is given, and its classes are joined in the second
pub record IsLinked (base node : Node) : Type 0 where
  pub given : IsBase base node
  pub joined : AreLinkedClasses base node

-- ---- bounds

-- the form is that of a bound of two variables, and the bound is a literal
pub record IsBound (base : Node) (ls : List Literal) (f : Linear ℕ) : Type 0 where
  pub lower : ℕ
  pub upper : ℕ
  pub is : f ≡ order_form lower upper
  pub first : IsVariable base lower
  pub second : IsVariable base upper
  pub form : form_of_literal (two at_most (at base lower) (at base upper)) ≡ Some (seen (at base) (order_form lower upper))
  pub made : is_at_most (at base lower) (at base upper) ≡ two at_most (at base lower) (at base upper)
  pub there : has_literal ls (holding (two at_most (at base lower) (at base upper))) ≡ true

-- so for each form that takes a variable away, which it does at least once
abbrev pub AreBounds : Node → List Literal → List (ℕ × Linear ℕ) → Type 0
AreBounds base ls [] = Unit {0}
AreBounds base ls (t ∷ ts) = (0 < t.0) × IsBound base ls t.1 × AreBounds base ls ts

-- the number has a literal with this form, and bounds take its variables away
pub record IsReplaceable (base : Node) (ls : List Literal) (own : ℕ) (f : Linear ℕ) (ts : List (ℕ × Linear ℕ)) : Type 0 where
  pub named : IsNamed base ls own f
  pub bounds : AreBounds base ls ts

-- each pair says how often a form is taken, and which literal has it
abbrev pub AreTaken : Node → List Literal → List (ℕ × Linear ℕ) → List (ℕ × ℕ) → Type 0
AreTaken base ls [] [] = Unit {0}
AreTaken base ls [] (p ∷ ps) = ⊥
AreTaken base ls (t ∷ ts) [] = ⊥
AreTaken base ls (t ∷ ts) (p ∷ ps) = (p.0 ≡ t.0) × IsNamed base ls p.1 t.1 × AreTaken base ls ts ps

-- so behind a literal that is taken once
abbrev pub AreSummands : Node → List Literal → ℕ → List (ℕ × Linear ℕ) → Option (List (ℕ × ℕ)) → Type 0
AreSummands base ls own ts None = ⊥
AreSummands base ls own ts (Some pairs) = (rest : List (ℕ × ℕ)) × (pairs ≡ (1, own) ∷ rest) × AreTaken base ls ts rest

-- ---- what is left of forms

-- none of these refutes, it is known whether a number leaves 128 bits in one, and the forms among them are those of literals with these numbers
pub record AreStated (base : Node) (ls : List Literal) (rs : List Replaced) (s : Stated) : Type 0 where
  pub refutes : any_so is_refuting rs ≡ false
  pub leaves : s.leaves ≡ any_so is_leaving rs
  pub forms : map linear_form s.forms.items ≡ forms_in rs
  pub named : AreNamed base ls s.numbers.items (forms_in rs)

-- these are stated, or the node is closed
abbrev pub Turns : List Entry → Node → Progress → Progress → List Replaced → Stated → Turn → Type 0
Turns types base old new rs s GoesOn = Grows types old new × AreStated base new.node.literals rs s
Turns types base old new rs s Closes = Ends types old new
Turns types base old new rs s Lacks = ⊥

-- what replacing leaves of a literal of the node
abbrev pub left_of : Node → Literal → List Replaced
left_of base l = with_form (present base) (classes (present base) base.literals) [] (form_of_literal (formula_of l))
