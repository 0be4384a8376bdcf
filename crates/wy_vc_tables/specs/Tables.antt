-- What is known of each declaration, in order.
use Rattle.std.specs.Prelude.{◌≡◌, ℕ, suc, ◌+◌, List, [], ◌∷◌, ◌++◌, slice_index_or, Bool, false}
use Rattle.wy_core.specs.CoreSeen.{seen_alias, seen_block, seen_decl, seen_exprs}
use Rattle.wy_core.specs.CoreTree as tree
use Rattle.wy_core.specs.declared.declarations.Alias.{Alias}
use Rattle.wy_core.specs.declared.declarations.Routine.{Routine}
use Rattle.wy_core.specs.declared.declarations.Decl.{Decl}
use Rattle.wy_core.specs.declared.declarations.Decl.TheVariants as decl
use Rattle.wy_vc_spec.specs.Numbered.{exprs_in_decl}
use Rattle.wy_vc_spec.specs.Sizes.{exprs_in_block, exprs_in_list}
use Rattle.wy_vc_tables.specs.declared.program_names.declared.Declared.{Declared}
use Rattle.wy_vc_tables.specs.declared.program_names.program.Called.{Called}
use Rattle.wy_graph.specs.declared.reach.entries.Entry.{Entry}
use Rattle.wy_vc_tables.specs.Mentions.{entry_of}
use Rattle.wy_vc_tables.specs.declared.tables.Place.{Place}
use Rattle.wy_vc_tables.specs.declared.tables.Tables.{Tables}

-- a named type: the number of its declaration, and of its first expression
abbrev pub place : ℕ → ℕ → List Place
place number first = record { decl = number; first = first } ∷ []

abbrev pub entry : tree.Alias ℕ → List Entry
entry a = entry_of a ∷ []

-- a function or method: the number of its declaration, and of the first expression of each of its parts
abbrev pub called_at : Routine → ℕ → ℕ → Called
called_at r number first = record {
  decl = number;
  preconditions = first;
  postconditions = first + exprs_in_list (seen_exprs r.preconditions);
  body = first + exprs_in_list (seen_exprs r.preconditions) + exprs_in_list (seen_exprs r.postconditions);
}

abbrev pub called : Routine → ℕ → ℕ → List Called
called r number first = called_at r number first ∷ []

abbrev pub alias_exprs : Alias → ℕ
alias_exprs a = exprs_in_list (seen_exprs a.clauses)

abbrev pub routine_exprs : Routine → ℕ
routine_exprs r = exprs_in_list (seen_exprs r.preconditions) + exprs_in_list (seen_exprs r.postconditions) + exprs_in_block (seen_block r.body)

abbrev pub place_in : Decl → ℕ → ℕ → List Place
place_in (decl.Alias a) number first = place number first
place_in (decl.Routine r) number first = []

abbrev pub entry_in : Decl → List Entry
entry_in (decl.Alias a) = entry (seen_alias a)
entry_in (decl.Routine r) = []

abbrev pub called_in : Decl → ℕ → ℕ → List Called
called_in (decl.Alias a) number first = []
called_in (decl.Routine r) number first = called r number first

-- the number of the first expression behind a declaration
abbrev pub behind : Decl → ℕ → ℕ
behind d first = first + exprs_in_decl (seen_decl d)

-- those of declarations in order, the first of which has this number
abbrev pub places_of : List Decl → ℕ → ℕ → List Place
places_of [] number first = []
places_of (d ∷ ds) number first = place_in d number first ++ places_of ds (suc number) (behind d first)

abbrev pub entries_of : List Decl → List Entry
entries_of [] = []
entries_of (d ∷ ds) = entry_in d ++ entries_of ds

abbrev pub called_of : List Decl → ℕ → ℕ → List Called
called_of [] number first = []
called_of (d ∷ ds) number first = called_in d number first ++ called_of ds (suc number) (behind d first)

-- named types with their marks; the first has this number
abbrev pub declared_of : List Place → List Bool → ℕ → List Declared
declared_of [] marks n = []
declared_of (p ∷ ps) marks n = record { decl = p.decl; first = p.first; is_written = slice_index_or marks n false } ∷ declared_of ps marks (suc n)

-- one more declaration
pub record IsAdded (old new : Tables) (number : ℕ) (d : Decl) : Type 0 where
  pub places : new.places.items ≡ old.places.items ++ place_in d number old.next
  pub entries : new.entries.items ≡ old.entries.items ++ entry_in d
  pub routines : new.routines.items ≡ old.routines.items ++ called_in d number old.next
  pub next : new.next ≡ behind d old.next
