-- One declaration after the other.
use Rattle.std.proofs.Common.{◌≡◌, ◌<◌, ◌≤◌, ◌+◌, inl, inr, ℕ, Bool, true, nat_lt, List, [], ◌++◌, length, drop, get_or, map, refl, sym, ◌∙◌, ap, subst, arith}
use Rattle.std.proofs.lemmas.List.{append_assoc, drop_all}
use Rattle.wy_core.specs.CoreSeen.{seen_alias, seen_block, seen_decl, seen_exprs, seen_routine}
use Rattle.wy_core.specs.CoreTree as tree
use Rattle.wy_core.specs.declared.declarations.Alias.{Alias}
use Rattle.wy_core.specs.declared.declarations.Decl.{Decl}
use Rattle.wy_core.specs.declared.declarations.Routine.{Routine}
use Rattle.wy_core.specs.declared.expressions.Expr as e
use Rattle.wy_core.specs.declared.statements.Stmt as st
use Rattle.wy_vc_spec.specs.Numbered.{Node, exprs_in_decl, numbered_decl, numbered_decls, numbered_routine}
use Rattle.wy_vc_spec.specs.Owed.{Owed}
use Rattle.wy_vc_spec.specs.Programs.{decl_conditions, decls_conditions}
use Rattle.wy_vc_spec.specs.Sizes.{exprs_in_block, exprs_in_list}
use Rattle.wy_vc_spec.specs.Walks as walks
use Rattle.wy_lemmas.proofs.Lists.{next_of}
use Rattle.wy_vc_body.proofs.wy_vc_operations_proofs.GrowingLemmas.{kept_all}
use Rattle.wy_vc_body.specs.wy_vc_operations.Growing.{Kept}
use Rattle.wy_vc_body.specs.wy_vc_exprs.State.{IsSound, owed_of}
use Rattle.wy_vc_body.specs.wy_vc_exprs.declared.walk.Walk.{Walk}
use Rattle.wy_vc_body.proofs.wy_vc_exprs_proofs.NumberedLemmas.{kept_then}
use Rattle.wy_vc_tables.specs.program_names.Described.{IsCalled}
use Rattle.wy_vc_tables.specs.declared.program_names.program.Called.{Called}
use Rattle.wy_vc.specs.Entering.{Owes, OwesFirst}

-- the numbers of the parts of a function or method
pub called_here : (routine : Routine) (first before between after last : ℕ) (c : Called) → c.preconditions ≡ first → c.postconditions ≡ after → c.body ≡ last
    → before ≡ exprs_in_list (seen_exprs routine.preconditions) → between ≡ exprs_in_list (seen_exprs routine.postconditions) → after ≡ first + before → last ≡ after + between
    → IsCalled (numbered_routine (seen_routine routine) first) routine c
called_here routine first before between after last c is_first is_after is_last pre_is post_is after_is last_is = record {
  is = ap (λ (k : ℕ). numbered_routine (seen_routine routine) k) is_first;
  ensures_from = is_after ∙ after_is ∙ ap (λ (n : ℕ). first + n) pre_is ∙ ap (λ (k : ℕ). k + exprs_in_list (seen_exprs routine.preconditions)) (sym is_first);
  body_from = is_last ∙ last_is ∙ ap (λ (n : ℕ). after + n) post_is ∙ ap (λ (k : ℕ). k + exprs_in_list (seen_exprs routine.postconditions)) (sym is_after);
}

-- the number behind a function or method
pub next_routine : (routine : Routine) (first next inside : ℕ) (c : Called) (block : List st.Stmt) → IsCalled (numbered_routine (seen_routine routine) first) routine c → c.preconditions ≡ first → block ≡ routine.body → inside ≡ exprs_in_block (seen_block block) → next ≡ c.body + inside
    → next ≡ first + exprs_in_decl (tree.RoutineDecl (seen_routine routine))
next_routine routine first next inside c block is first_is same inside_is next_is =
    sum first next inside c.preconditions c.postconditions c.body (exprs_in_list (seen_exprs routine.preconditions)) (exprs_in_list (seen_exprs routine.postconditions)) (exprs_in_block (seen_block routine.body)) first_is is.ensures_from is.body_from
    (inside_is ∙ ap (λ (b : List st.Stmt). exprs_in_block (seen_block b)) same) next_is
  where
    sum : (a n i p q b x y z : ℕ) → p ≡ a → q ≡ p + x → b ≡ q + y → i ≡ z → n ≡ b + i → n ≡ a + (x + y + z)
    sum a n i p q b x y z e f g h j = omega (arith, e, f, g, h, j)

-- the number behind a declared type
pub next_alias : (alias : Alias) (first next inside : ℕ) (clauses : List e.Expr) → clauses ≡ alias.clauses → inside ≡ exprs_in_list (seen_exprs clauses) → next ≡ first + inside → next ≡ first + exprs_in_decl (tree.AliasDecl (seen_alias alias))
next_alias alias first next inside clauses same inside_is next_is = next_is ∙ ap (λ (n : ℕ). first + n) (inside_is ∙ ap (λ (es : List e.Expr). exprs_in_list (seen_exprs es)) same)

-- so much was owed, and with what is left it is all
pub record IsOwing (p : walks.Program Node) (a b : Walk) (ds : List Decl) (k : ℕ) (all : List Owed) : Type 0 where
  pub sound : IsSound b
  pub kept : Kept a.maker.terms b.maker.terms
  pub owed : owed_of b ++ decls_conditions p (numbered_decls (map seen_decl ds) k) ≡ owed_of a ++ all

pub owing_begin : (p : walks.Program Node) (a : Walk) (ds : List Decl) → IsSound a → IsOwing p a a ds 0 (decls_conditions p (numbered_decls (map seen_decl ds) 0))
owing_begin p a ds sound = record { sound = sound; kept = kept_all a.maker.terms; owed = refl }

pub owing_turn : (p : walks.Program Node) (a b c : Walk) (ds : List Decl) (i : ℕ) (d : Decl) (k n : ℕ) (all : List Owed) → i < length ds → d ≡ get_or ds i d
    → IsOwing p a b (drop i ds) k all → Owes b c (decl_conditions p (numbered_decl (seen_decl d) k)) → n ≡ k + exprs_in_decl (seen_decl d)
    → IsOwing p a c (drop (i + 1) ds) n all
owing_turn p a b c ds i d k n all lt is inv o next =
    let inv' = subst (λ (l : List Decl). IsOwing p a b l k all) (next_of ds i d lt is) inv in
    let D = decl_conditions p (numbered_decl (seen_decl d) k) in
    let R = λ (j : ℕ). decls_conditions p (numbered_decls (map seen_decl (drop (i + 1) ds)) j) in
    record {
      sound = o.sound;
      kept = kept_then inv'.kept o.kept;
      owed = ap (λ (j : ℕ). owed_of c ++ R j) next ∙ ap (λ (os : List Owed). os ++ R (k + exprs_in_decl (seen_decl d))) o.owed
          ∙ append_assoc (owed_of b) D (R (k + exprs_in_decl (seen_decl d))) ∙ inv'.owed;
    }

-- more than so many are owed
pub owing_enough : (p : walks.Program Node) (most : ℕ) (a b : Walk) (ds : List Decl) (i k : ℕ) (all : List Owed) (past : Bool) → past ≡ nat_lt most (length b.owed.items) → past ≡ true → IsOwing p a b (drop i ds) k all → OwesFirst most a b all
owing_enough p most a b ds i k all past is so inv = record {
  rest = decls_conditions p (numbered_decls (map seen_decl (drop i ds)) k);
  sound = inv.sound;
  kept = inv.kept;
  owed = inv.owed;
  whole = inr (sym is ∙ so);
}

pub owing_end : (p : walks.Program Node) (most : ℕ) (a b : Walk) (ds : List Decl) (i k : ℕ) (all : List Owed) → length ds ≤ i → IsOwing p a b (drop i ds) k all → OwesFirst most a b all
owing_end p most a b ds i k all past inv =
    let inv' = subst (λ (l : List Decl). IsOwing p a b l k all) (drop_all i ds past) inv in
    record { rest = []; sound = inv'.sound; kept = inv'.kept; owed = inv'.owed; whole = inl refl }
