-- The tables are those of the program.
use Rattle.std.proofs.Common.{◌≡◌, ℕ, zero, suc, ◌+◌, ◌<◌, ◌≤◌, ◌⊎◌, inl, inr, Bool, true, false, List, [], ◌∷◌, length, map, slice_get, slice_index_or, Option, Some, refl, sym, ap, subst, ◌∙◌, arith}
use Rattle.std.proofs.lemmas.Bool.{cases_lt}
use Rattle.std.proofs.lemmas.List.{length-map}
use Rattle.wy_core.specs.CoreTree as tree
use Rattle.wy_core.specs.CoreTree.{aliases_of, routines_of}
use Rattle.wy_core.specs.CoreSeen.{seen_alias, seen_core, seen_decl, seen_routine}
use Rattle.wy_core.specs.declared.declarations.Decl.{Decl}
use Rattle.wy_core.specs.declared.declarations.Decl.TheVariants as decl
use Rattle.wy_core.specs.declared.declarations.Core.{Core}
use Rattle.wy_vc_spec.specs.wy_sem.TypeTests.{alias_at}
use Rattle.wy_vc_spec.specs.Named as named
use Rattle.wy_vc_spec.specs.Numbered.{Node, numbered_decls, numbered_routine}
use Rattle.wy_vc_tables.specs.declared.program_names.declared.Declared.{Declared}
use Rattle.wy_vc_tables.specs.declared.program_names.program.Called.{Called}
use Rattle.wy_vc_tables.specs.declared.program_names.program.Program.{Program}
use Rattle.wy_vc_tables.specs.program_names.Described.{IsDescribed, IsRoutine, AreRoutines, alias_in, alias_of, first_of, numbered_at, routine_in, types_of, written_at}
use Rattle.wy_vc_tables.specs.sizes.Marks.{mark_at}
use Rattle.wy_graph.specs.declared.reach.entries.Entry.{Entry}
use Rattle.wy_graph.specs.reach.Reach as reach
use Rattle.wy_graph.proofs.reach_lemmas.SizeLemmas.{written_past}
use Rattle.wy_vc_tables.specs.declared.tables.Place.{Place}
use Rattle.wy_vc_tables.specs.Mentions.{entry_of}
use Rattle.wy_vc_tables.specs.Tables.{behind, called_at, called_of, declared_of, entries_of, places_of}
use Rattle.wy_vc_tables.proofs.NumberedLemmas.{entry_numbered}
use Rattle.wy_vc_tables.proofs.EntryLemmas.{written_same, constrained_same}

-- the declarations from this number on
abbrev pub IsFrom : Core → List Decl → ℕ → Type 0
IsFrom core ds number = (i : ℕ) → slice_get ds i ≡ slice_get core.decls (number + i)

all_from : (core : Core) → IsFrom core core.decls 0
all_from core i = let e : i ≡ 0 + i = omega arith in ap (λ (k : ℕ). slice_get core.decls k) e

rest_from : (core : Core) (d : Decl) (ds : List Decl) (number : ℕ) → IsFrom core (d ∷ ds) number → IsFrom core ds (suc number)
rest_from core d ds number from i = let e : number + suc i ≡ suc number + i = omega arith in from (suc i) ∙ ap (λ (k : ℕ). slice_get core.decls k) e

first_from : (core : Core) (d : Decl) (ds : List Decl) (number : ℕ) → IsFrom core (d ∷ ds) number → Some d ≡ slice_get core.decls number
first_from core d ds number from = let e : number + 0 ≡ number = omega arith in from 0 ∙ ap (λ (k : ℕ). slice_get core.decls k) e

-- ---- named types

abbrev typed : List Decl → ℕ → List (tree.Alias Node)
typed ds first = aliases_of (numbered_decls (map seen_decl ds) first)

found : (core : Core) (ds : List Decl) (number first : ℕ) (marks : List Bool) (q n : ℕ) → IsFrom core ds number
    → numbered_at (alias_of core (slice_get (declared_of (places_of ds number first) marks q) n)) (first_of (slice_get (declared_of (places_of ds number first) marks q) n)) ≡ alias_at (typed ds first) n
found core [] number first marks q n from = refl
found core (decl.Alias a ∷ ds) number first marks q zero from =
    ap (λ (o : Option Decl). numbered_at (alias_in o) first) (sym (first_from core (decl.Alias a) ds number from))
found core (decl.Alias a ∷ ds) number first marks q (suc n) from =
    found core ds (suc number) (behind (decl.Alias a) first) marks (suc q) n (rest_from core (decl.Alias a) ds number from)
found core (decl.Routine r ∷ ds) number first marks q n from =
    found core ds (suc number) (behind (decl.Routine r) first) marks q n (rest_from core (decl.Routine r) ds number from)

counted : (ds : List Decl) (number first : ℕ) (marks : List Bool) (q : ℕ) → length (declared_of (places_of ds number first) marks q) ≡ length (typed ds first)
counted [] number first marks q = refl
counted (decl.Alias a ∷ ds) number first marks q = ap (λ (k : ℕ). suc k) (counted ds (suc number) (behind (decl.Alias a) first) marks (suc q))
counted (decl.Routine r ∷ ds) number first marks q = counted ds (suc number) (behind (decl.Routine r) first) marks q

marked : (ps : List Place) (marks : List Bool) (q n : ℕ) → n < length (declared_of ps marks q) → written_at (declared_of ps marks q) n ≡ slice_index_or marks (q + n) false
marked [] marks q n lt = absurd (omega (arith, lt))
marked (p ∷ ps) marks q zero lt = let e : q ≡ q + 0 = omega arith in ap (λ (k : ℕ). slice_index_or marks k false) e
marked (p ∷ ps) marks q (suc n) lt = let e : suc q + n ≡ q + suc n = omega arith in marked ps marks (suc q) n (omega (arith, lt)) ∙ ap (λ (k : ℕ). slice_index_or marks k false) e

unmarked : (ds : List Declared) (n : ℕ) → length ds ≤ n → written_at ds n ≡ true
unmarked [] n le = refl
unmarked (d ∷ ds) zero le = absurd (omega (arith, le))
unmarked (d ∷ ds) (suc n) le = unmarked ds n (omega (arith, le))

-- ---- entries

entries_same : (ds : List Decl) (first : ℕ) → entries_of ds ≡ map entry_of (typed ds first)
entries_same [] first = refl
entries_same (decl.Alias a ∷ ds) first =
    ap (λ (l : List Entry). entry_of (seen_alias a) ∷ l) (entries_same ds (behind (decl.Alias a) first))
    ∙ ap (λ (e : Entry). e ∷ map entry_of (typed ds (behind (decl.Alias a) first))) (sym (entry_numbered (seen_alias a) first))
entries_same (decl.Routine r ∷ ds) first = entries_same ds (behind (decl.Routine r) first)

-- ---- functions and methods

routines_found : (core : Core) (ds : List Decl) (number first : ℕ) → IsFrom core ds number → AreRoutines core (routines_of (numbered_decls (map seen_decl ds) first)) (called_of ds number first)
routines_found core [] number first from = tt
routines_found core (decl.Alias a ∷ ds) number first from = routines_found core ds (suc number) (behind (decl.Alias a) first) (rest_from core (decl.Alias a) ds number from)
routines_found core (decl.Routine r ∷ ds) number first from = (
  subst (λ (o : Option Decl). IsRoutine (numbered_routine (seen_routine r) first) (routine_in o) (called_at r number first)) (first_from core (decl.Routine r) ds number from)
      (record { is = refl; ensures_from = refl; body_from = refl }),
  routines_found core ds (suc number) (behind (decl.Routine r) first) (rest_from core (decl.Routine r) ds number from),
)

-- ---- the program

-- what is known of the parts of the tables
pub record AreParts (core : Core) (p : Program) (marks : List Bool) : Type 0 where
  pub types : p.types.items ≡ declared_of (places_of core.decls 0 0) marks 0
  pub written : (n : ℕ) → n < length (entries_of core.decls) → mark_at marks n ≡ reach.is_written (entries_of core.decls) n
  pub constrained : (n : ℕ) → mark_at p.constrained.items n ≡ reach.reaches_clauses (entries_of core.decls) (suc (length (entries_of core.decls))) n
  pub routines : p.routines.items ≡ called_of core.decls 0 0

pub described : (core : Core) (p : Program) (marks : List Bool) → AreParts core p marks → IsDescribed core p
described core p marks parts = record {
  count = ap (λ (l : List Declared). length l) parts.types ∙ counted core.decls 0 0 marks 0;
  written = λ n. ap (λ (l : List Declared). written_at l n) parts.types ∙ told n;
  constrained = λ n. parts.constrained n ∙ (ap (λ (l : List Entry). reach.reaches_clauses l (suc (length l)) n) (entries_same core.decls 0) ∙ constrained_same (types_of core) n);
  aliases = λ n. ap (λ (l : List Declared). numbered_at (alias_of core (slice_get l n)) (first_of (slice_get l n))) parts.types ∙ found core core.decls 0 0 marks 0 n (all_from core);
  called = subst (λ (l : List Called). AreRoutines core (routines_of (numbered_decls (seen_core core) 0)) l) (sym parts.routines) (routines_found core core.decls 0 0 (all_from core));
}
  where
    size : length (entries_of core.decls) ≡ length (declared_of (places_of core.decls 0 0) marks 0)
    size = ap (λ (l : List Entry). length l) (entries_same core.decls 0) ∙ (length-map (types_of core) entry_of ∙ sym (counted core.decls 0 0 marks 0))

    same : (n : ℕ) → reach.is_written (entries_of core.decls) n ≡ named.is_written (types_of core) n
    same n = ap (λ (l : List Entry). reach.is_written l n) (entries_same core.decls 0) ∙ written_same (types_of core) n

    told : (n : ℕ) → written_at (declared_of (places_of core.decls 0 0) marks 0) n ≡ named.is_written (types_of core) n
    told n = by (cases_lt n (length (entries_of core.decls)))
      where
        by : (n < length (entries_of core.decls)) ⊎ (length (entries_of core.decls) ≤ n) → written_at (declared_of (places_of core.decls 0 0) marks 0) n ≡ named.is_written (types_of core) n
        by (inl lt) =
            let e : 0 + n ≡ n = omega arith in
            let within : n < length (declared_of (places_of core.decls 0 0) marks 0) = omega (arith, lt, size) in
            marked (places_of core.decls 0 0) marks 0 n within ∙ (ap (λ (k : ℕ). slice_index_or marks k false) e ∙ (parts.written n lt ∙ same n))
        by (inr le) =
            let past : length (declared_of (places_of core.decls 0 0) marks 0) ≤ n = omega (arith, le, size) in
            unmarked (declared_of (places_of core.decls 0 0) marks 0) n past ∙ (sym (written_past (entries_of core.decls) n le) ∙ same n)

-- the same from what the parts are made of
pub described_by : (core : Core) (p : Program) (decls : List Decl) (places placed : List Place) (entries first second : List Entry) (marks marked : List Bool)
    → decls ≡ core.decls → places ≡ places_of decls 0 0 → placed ≡ places → marked ≡ marks → p.types.items ≡ declared_of placed marked 0
    → entries ≡ entries_of decls → first ≡ entries → ((n : ℕ) → n < length first → mark_at marks n ≡ reach.is_written first n)
    → second ≡ entries → ((n : ℕ) → mark_at p.constrained.items n ≡ reach.reaches_clauses second (suc (length second)) n)
    → p.routines.items ≡ called_of decls 0 0 → IsDescribed core p
described_by core p decls places placed entries first second marks marked is places_are placed_are marked_are types entries_are first_is written second_is constrained routines =
    let all : entries ≡ entries_of core.decls = entries_are ∙ ap entries_of is in
    described core p marks (record {
      types = types ∙ (ap (λ (l : List Place). declared_of l marked 0) (placed_are ∙ (places_are ∙ ap (λ (l : List Decl). places_of l 0 0) is)) ∙ ap (λ (l : List Bool). declared_of (places_of core.decls 0 0) l 0) marked_are);
      written = subst (λ (l : List Entry). (n : ℕ) → n < length l → mark_at marks n ≡ reach.is_written l n) (first_is ∙ all) written;
      constrained = subst (λ (l : List Entry). (n : ℕ) → mark_at p.constrained.items n ≡ reach.reaches_clauses l (suc (length l)) n) (second_is ∙ all) constrained;
      routines = routines ∙ ap (λ (l : List Decl). called_of l 0 0) is;
    })
