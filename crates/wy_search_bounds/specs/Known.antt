-- Which forms are known.
use Rattle.std.specs.Prelude.{◌≡◌, ◌<◌, ◌≤◌, ◌++◌, ℕ, List, Bool, true, false, Option, Some, None, IfSome, length, option_map, slice_get}
use Rattle.std.specs.HashMap.{get}
use Rattle.wy_cong.specs.wy_check_nodes.Seen.{same_signed, seen_literal}
use Rattle.wy_lin.specs.Linear.{Linear}
use Rattle.wy_lin.specs.Seen.{linear_form, seen_form, IsOver}
use Rattle.wy_lin.specs.TermForm.{form_of_literal}
use Rattle.wy_lin.specs.declared.linear.Form.{Form}
use Rattle.wy_term.specs.Nodes.{Plain, tree_at}
use Rattle.wy_term.specs.Term.{Term}
use Rattle.wy_cong.specs.wy_check_spec.valid.Literals.{formula_of}
use Rattle.wy_search_bounds.specs.declared.known.KnownForms.{KnownForms}
use Rattle.wy_search_bounds.specs.declared.known.Place.{Place}
use Rattle.wy_search_bounds.specs.declared.known.Place.TheVariants.{Lasting, Passing}
use Rattle.wy_search_bounds.specs.declared.lasting.LastingForms.{LastingForms}

-- ---- one table

-- the form of an atom, or of its denial
abbrev pub form_of_signed : (ℕ → Term) → ℕ × Bool → Option (Linear Term)
form_of_signed at l = form_of_literal (formula_of (seen_literal at l))

-- at the place stands the form, over the first n terms
pub record IsPlaced (n : ℕ) (at : ℕ → Term) (fs : List Form) (k : ℕ) (given : Option (Linear Term)) : Type 0 where
  pub form : Form
  pub here : slice_get fs k ≡ Some form
  pub is : given ≡ Some (seen_form at form)
  pub over : IsOver n (linear_form form)

-- the form stands at the place, and there is none where there is no place
abbrev pub IsFormIn : ℕ → (ℕ → Term) → List Form → Option ℕ → Option (Linear Term) → Type 0
IsFormIn n at fs None given = given ≡ None
IsFormIn n at fs (Some k) given = IsPlaced n at fs k given

-- the literal is one of the first n terms, and this is the place of its form
pub record IsKnown (n : ℕ) (at : ℕ → Term) (fs : List Form) (l : ℕ × Bool) (o : Option ℕ) : Type 0 where
  pub within : l.0 < n
  pub form : IsFormIn n at fs o (form_of_signed at l)

-- what a table has of a literal is the place of its form
abbrev pub AreNoted : ℕ → (ℕ → Term) → (ℕ × Bool → Option (Option ℕ)) → List Form → Type 0
AreNoted n at noted fs = (l : ℕ × Bool) (o : Option ℕ) → noted l ≡ Some o → IsKnown n at fs l o

-- the literal is one of the first n terms, and its form is this one, over them
pub record IsFormOf (n : ℕ) (at : ℕ → Term) (l : ℕ × Bool) (form : Option Form) : Type 0 where
  pub within : l.0 < n
  pub is : option_map (seen_form at) form ≡ form_of_signed at l
  pub over : IfSome form (λ f. IsOver n (linear_form f))

-- whatever terms the first table is over, where the form is that of the literal, the second is over them too, and has it there
abbrev pub Notes : (ℕ × Bool → Option (Option ℕ)) → List Form → (ℕ × Bool → Option (Option ℕ)) → List Form → ℕ × Bool → Option Form → Option ℕ → Type 0
Notes was fs now gs l form o =
    (n : ℕ) (at : ℕ → Term) → AreNoted n at was fs → IsFormOf n at l form
    → AreNoted n at now gs × IsFormIn n at gs o (form_of_signed at l)

-- the second list begins with the first
abbrev pub StartsWithForms : List Form → List Form → Type 0
StartsWithForms fs gs = (more : List Form) × (gs ≡ fs ++ more)

-- ---- the table of what lasts

abbrev pub if_there : Option (Option (Option ℕ)) → Option (Option ℕ)
if_there None = None
if_there (Some o) = o

-- what stands at an atom's number, if anything
abbrev pub place_there : List (Option (Option ℕ)) → ℕ → Option (Option ℕ)
place_there os a = if_there (slice_get os a)

abbrev pub place_by : Bool → List (Option (Option ℕ)) → List (Option (Option ℕ)) → ℕ → Option (Option ℕ)
place_by true os ps a = place_there os a
place_by false os ps a = place_there ps a

abbrev pub lasting_place : LastingForms → ℕ × Bool → Option (Option ℕ)
lasting_place t l = place_by l.1 t.holding.items t.denied.items l.0

-- ---- both tables

-- what lasts is over the terms below the floor, and the rest over all terms
pub record AreKnown (nodes : List Plain) (known : KnownForms) : Type 0 where
  pub floor : known.floor ≤ length nodes
  pub lasting : AreNoted known.floor (tree_at nodes) (lasting_place known.lasting) known.lasting.made.items
  pub passing : AreNoted (length nodes) (tree_at nodes) (get same_signed known.passing.places) known.passing.made.items

-- the form with a place
abbrev pub form_placed : KnownForms → Place → Option Form
form_placed known (Lasting k) = slice_get known.lasting.made.items k
form_placed known (Passing k) = slice_get known.passing.made.items k

-- a form has the place
abbrev pub IsPlace : KnownForms → Place → Type 0
IsPlace known (Lasting k) = k < length known.lasting.made.items
IsPlace known (Passing k) = k < length known.passing.made.items

-- the form with the place is this one, over the terms
pub record HasForm (nodes : List Plain) (known : KnownForms) (p : Place) (given : Option (Linear Term)) : Type 0 where
  pub form : Form
  pub here : form_placed known p ≡ Some form
  pub is : given ≡ Some (seen_form (tree_at nodes) form)
  pub over : IsOver (length nodes) (linear_form form)

-- the form has the place, and there is none where there is no place
abbrev pub IsFormAt : List Plain → KnownForms → Option Place → Option (Linear Term) → Type 0
IsFormAt nodes known None given = given ≡ None
IsFormAt nodes known (Some p) given = HasForm nodes known p given

-- ---- fewer terms

-- up to the count both lists name the same
pub record AgreesUpTo (count : ℕ) (old new : List Plain) : Type 0 where
  pub within : count ≤ length new
  pub trees : (t : ℕ) → t < count → tree_at new t ≡ tree_at old t
