-- Programs are read exactly, and so the parser keeps its promise.
use Rattle.std.proofs.Common.{ℕ, List, [], ◌∷◌, ◌++◌, ◌⊎◌, inl, inr, refl}
use Rattle.wy_reading.specs.Mode.{Mode}
use Rattle.wy_reading.specs.Rule.{Loop}
use Rattle.wy_reading.specs.Promise.{Promise}
use Rattle.wy_reading.proofs.Exactness.{Exact, Passes, Lacks, Any, AtEnd}
use Rattle.wy_reading.proofs.Single.{nothing}
use Rattle.wy_reading.proofs.Sequence.{sequence}
use Rattle.wy_reading.proofs.Repetition.{repetition}
use Rattle.wy_reading.proofs.Adapting.{adapt}
use Rattle.wy_reading.proofs.Theorem.{whole_text, whole-closes, promise}
use Rattle.wy_lex.specs.declared.token.TokenKind.TheVariants as k
use Rattle.wy_parse_grammar.specs.declared.sort.Class.TheVariants as class
use Rattle.wy_parse_grammar.specs.Sorts as t
use Rattle.wy_parse_grammar.specs.Sorts.{is, has, members}
use Rattle.wy_parse_grammar.specs.Steps.{R, Q, inside}
use Rattle.wy_parse_grammar.specs.Trees as parts
use Rattle.wy_parse.specs.StmtTrees.{Stmts}
use Rattle.wy_parse.specs.DeclTrees.{D, program_node}
use Rattle.wy_parse.specs.BlockGrammar.{nest}
use Rattle.wy_parse.specs.BlockReading.{nested}
use Rattle.wy_parse.specs.ProgramGrammar as rule
use Rattle.wy_parse.specs.ProgramReading as read
use Rattle.wy_parse_grammar.proofs.TokenLemmas.{some, at_other, no}
use Rattle.wy_parse_grammar.proofs.StepsExact.{mark-exact, name-exact}
use Rattle.wy_parse_grammar.proofs.InsideExact.{inside-exact}
use Rattle.wy_parse.proofs.BlocksExact.{BeginsBlock}
use Rattle.wy_parse.proofs.NestLevels.{nested_block-exact}
use Rattle.wy_parse.proofs.DeclsExact.{declaration-exact}
use Rattle.wy_parse.proofs.CappedExact.{capped-exact, AfterDecls, BeginsDecls}

-- the block of a declaration
abbrev block_rule : Mode → R Stmts
block_rule m = (nest m.strict (inside m.depth)).block

abbrev block_read : Mode → Q Stmts
block_read m = (nested m.strict (inside m.depth)).block

block-exact : (n : Mode) → Exact n (block_rule n) block_read Any BeginsBlock
block-exact n = inside-exact (λ s d. (nest s d).block) (λ s d. (nested s d).block) Any BeginsBlock (λ d s. nested_block-exact (record { depth = d; strict = s })) n.depth n.strict

abbrev decl_rule : Mode → R D
decl_rule m = rule.Declaration m.strict m.depth (block_rule m)

abbrev decl_read : Mode → Q D
decl_read m = read.declaration m.strict m.depth (block_read m)

decl-exact : (n : Mode) → Exact n (decl_rule n) decl_read Any (Passes (has class.Declaration))
decl-exact n = declaration-exact n (block_rule n) block_read (block-exact n)

decls-exact : (n : Mode) → Exact n (Loop (rule.NextDecl n.strict (decl_rule n)) (parts.none, 0)) (λ m. read.decls m.strict m.depth) AfterDecls BeginsDecls
unfolding read.decls
decls-exact n = capped-exact decl_rule decl_read decl-exact n (parts.none, 0) refl

module _ (n : Mode) where
  import-exact : (ms : List (List ℕ × ℕ)) → Exact n (rule.Import ms) (λ m. read.import ms) Any (Passes (is t.IMPORT))
  import-exact ms =
      sequence (mark-exact {F = Any} t.IMPORT (some k.Import) refl)
      (λ r. sequence (name-exact {F = Any})
      (λ w. sequence (mark-exact {F = Any} t.LINE_END (some k.LineEnd) refl) (λ r. nothing (ms ++ (w.1, w.0) ∷ [])) (λ i b. tt)) (λ i b. tt))
      (λ i b. tt)

  imports-exact : Exact n (Loop rule.Import []) (λ m. read.imports) (Lacks (is t.IMPORT)) (λ i. Lacks (is t.IMPORT) i ⊎ Passes (is t.IMPORT) i)
  unfolding read.imports
  imports-exact = repetition (is t.IMPORT) import-exact (λ i h. h) (λ i f. f) (λ i f. tt) (λ i h. tt) refl []

  program-exact : Exact n (rule.ProgramIn n.strict n.depth) (λ m. read.program_in m.strict m.depth) Any Any
  unfolding read.program_in rule.ProgramIn
  program-exact =
      adapt (sequence imports-exact
      (λ ms. sequence (decls-exact n)
      (λ c. sequence (mark-exact {F = Any} t.END (some k.End) refl) (λ r. nothing (program_node ms c.0)) (λ i b. tt)) (λ i h. h))
      (λ i b. elim b [ inl h ↦ no t.IMPORT (members class.Declaration) i refl h | inr h ↦ at_other t.IMPORT t.END i refl h ]))
      (λ i f. f) (λ i b. tt) (λ a p. tt)

  pub text-exact : Exact n (rule.Text n) read.text AtEnd Any
  unfolding read.text
  text-exact = whole_text program-exact tt

-- in every mode the tokens of a program are read exactly
pub promised : (n : Mode) → Promise n rule.Text read.text
promised n = promise rule.Text read.text Any text-exact (λ m. whole-closes (rule.ProgramIn m.strict m.depth)) n
