-- What is read from bytes, by what is read from their tokens.
use Rattle.std.proofs.Common.{◌≡◌, ◌∙◌, ◌⊎◌, ℕ, List, Result, Ok, Err, ap, sym, subst, inl, inr}
use Rattle.std.specs.Str.{IsValidUpTo}
use Rattle.wy_ast.specs.declared.declarations.Program.{Program}
use Rattle.wy_lex.specs.declared.token.Token.{Token}
use Rattle.wy_lex.specs.declared.fault.Kind.{Kind as LexKind}
use Rattle.wy_lex.specs.declared.fault.Kind.TheVariants as lex_kind
use Rattle.wy_lex.specs.declared.fault.LexFault.{LexFault}
use Rattle.wy_lex.specs.declared.fault.LexFault.TheVariants as lex
use Rattle.wy_lex.specs.Source as source_of
use Rattle.wy_parse.specs.wy_parse_grammar.declared.fault.Kind.{Kind}
use Rattle.wy_parse.specs.wy_parse_grammar.declared.fault.Kind.TheVariants as kind
use Rattle.wy_parse.specs.declared.fault.ParseFault.{ParseFault}
use Rattle.wy_parse.specs.declared.fault.ParseFault.TheVariants as parse
use Rattle.wy_parse.specs.Derivation as derivation
use Rattle.wy_parse_front.specs.declared.fault.SourceFault.{SourceFault}
use Rattle.wy_parse_front.specs.declared.fault.SourceFault.TheVariants as source
use Rattle.wy_parse_front.specs.Faults.{of_tokens, of_program}
use Rattle.wy_parse_front.specs.Front.{Answers, CutInto, IsDue, IsRefused, Spells}

-- ---- results

-- what a parse answers, as what a reading does
abbrev pub of_result : Result Program ParseFault → Result Program SourceFault
of_result (Ok p) = Ok p
of_result (Err f) = Err (of_program f)

abbrev IsCut : Result (List Token) LexFault → Type 0
IsCut (Ok ts) = Unit {0}
IsCut (Err f) = ⊥

abbrev fault_or : LexFault → Result (List Token) LexFault → LexFault
fault_or d (Ok ts) = d
fault_or d (Err f) = f

abbrev tokens_or : List Token → Result (List Token) LexFault → List Token
tokens_or d (Ok ts) = ts
tokens_or d (Err f) = d

abbrev cut_to : List Token → Result (List Token) LexFault
cut_to ts = Ok ts

abbrev cut_fails : LexFault → Result (List Token) LexFault
cut_fails f = Err f

abbrev fails : LexFault → Result Program SourceFault
fails f = Err (of_tokens f)

cut_or_fault : (ts : List Token) (f : LexFault) → cut_to ts ≡ cut_fails f → ⊥
cut_or_fault ts f h = subst IsCut h tt

same_tokens : (ts us : List Token) → cut_to ts ≡ cut_to us → ts ≡ us
same_tokens ts us h = ap (tokens_or ts) h

same_fault : (f g : LexFault) → cut_fails f ≡ cut_fails g → f ≡ g
same_fault f g h = ap (fault_or f) h

-- an answer of the parser is one of the reading
carried : (w r : Result Program ParseFault) → derivation.Answers w r → Answers (of_result w) (of_result r)
carried w (Ok p) h = ap of_result h
carried w (Err f) h = λ ne. ap of_result (h (λ e. ne (ap of_program e)))

-- ---- bytes without tokens

-- such bytes have no tokens of which anything holds, unless memory ran out
pub no_tokens : (bytes : List ℕ) (f : LexFault) (P : List Token → Type 0) (w : Result Program SourceFault)
    → ((ts : List Token) → source_of.Tokens bytes ts → source_of.Answers (Ok ts) (Err f))
    → CutInto bytes P → Answers w (Err (of_tokens f))
no_tokens bytes f P w reads h = λ ne. absurd (cut_or_fault h.tokens f (reads h.tokens h.cut (λ e. ne (ap of_tokens e))))

-- an answer of the lexer is one of the reading
carried_fault : (g f : LexFault) → source_of.Answers (Err g) (Err f) → Answers (Err (of_tokens g)) (Err (of_tokens f))
carried_fault g f h = λ ne. ap fails (same_fault g f (h (λ e. ne (ap of_tokens e))))

-- the fault that is due is the one of the tokens
pub tokens_exact : (bytes : List ℕ) (f : LexFault)
    → ((ts : List Token) → source_of.Tokens bytes ts → source_of.Answers (Ok ts) (Err f))
    → ((x : LexKind) (at : ℕ) → source_of.Meets bytes x at → source_of.Answers (Err (source_of.fault_of x at)) (Err f))
    → ((at : ℕ) → IsValidUpTo bytes at → source_of.Answers (Err (lex.NotUtf8 at)) (Err f))
    → ((at : ℕ) → source_of.Leaves bytes at → source_of.MeetsNone bytes → source_of.Answers (Err (lex.BadChar at)) (Err f))
    → (g : SourceFault) → IsDue bytes g → Answers (Err g) (Err (of_tokens f))
tokens_exact bytes f reads exact utf8 bad_char (source.NotUtf8 at) h = carried_fault (lex.NotUtf8 at) f (utf8 at h)
tokens_exact bytes f reads exact utf8 bad_char (source.BadChar at) (inl h) = carried_fault (lex.BadChar at) f (bad_char at h.0 h.1)
tokens_exact bytes f reads exact utf8 bad_char (source.BadChar at) (inr h) = carried_fault (lex.BadChar at) f (exact lex_kind.BadEscape at h)
tokens_exact bytes f reads exact utf8 bad_char (source.BadIndent at) h = carried_fault (lex.BadIndent at) f (exact lex_kind.BadIndent at h)
tokens_exact bytes f reads exact utf8 bad_char (source.BadNumeral at) h = carried_fault (lex.BadNumeral at) f (exact lex_kind.BadNumeral at h)
tokens_exact bytes f reads exact utf8 bad_char (source.OpenComment at) h = carried_fault (lex.OpenComment at) f (exact lex_kind.OpenComment at h)
tokens_exact bytes f reads exact utf8 bad_char (source.Unexpected at) h = no_tokens bytes f _ _ reads h
tokens_exact bytes f reads exact utf8 bad_char (source.Mixed at) h = no_tokens bytes f _ _ reads h
tokens_exact bytes f reads exact utf8 bad_char (source.Deep at) h = no_tokens bytes f _ _ reads h
tokens_exact bytes f reads exact utf8 bad_char (source.TooMany at) h = no_tokens bytes f _ _ reads h
tokens_exact bytes f reads exact utf8 bad_char source.NoMemory h = absurd h

-- ---- bytes with tokens, of which `slice` is another name

-- what holds of the slice holds of tokens of the bytes
cut_into : (bytes : List ℕ) (ts slice : List Token) (P : List Token → Type 0) → source_of.Tokens bytes ts → slice ≡ ts → P slice → CutInto bytes P
cut_into bytes ts slice P cut e h = record { tokens = ts; cut = cut; holds = subst P e h }

-- what holds of tokens of the bytes holds of the slice
of_slice : (bytes : List ℕ) (ts slice : List Token) (P : List Token → Type 0)
    → ((us : List Token) → source_of.Tokens bytes us → source_of.Answers (Ok us) (Ok ts)) → slice ≡ ts → CutInto bytes P → P slice
of_slice bytes ts slice P reads e h = subst P (same_tokens h.tokens ts (reads h.tokens h.cut) ∙ sym e) h.holds

-- a fault of the program is one of the bytes
pub program_refused : (bytes : List ℕ) (ts slice : List Token) (f : ParseFault) → source_of.Tokens bytes ts → slice ≡ ts → derivation.IsRefused slice f
    → IsRefused bytes (of_program f)
program_refused bytes ts slice (parse.Unexpected at) cut e h = cut_into bytes ts slice (λ us. derivation.IsRefused us (parse.Unexpected at)) cut e h
program_refused bytes ts slice (parse.Mixed at) cut e h = cut_into bytes ts slice (λ us. derivation.IsRefused us (parse.Mixed at)) cut e h
program_refused bytes ts slice (parse.Deep at) cut e h = cut_into bytes ts slice (λ us. derivation.IsRefused us (parse.Deep at)) cut e h
program_refused bytes ts slice (parse.TooMany at) cut e h = cut_into bytes ts slice (λ us. derivation.IsRefused us (parse.TooMany at)) cut e h
program_refused bytes ts slice parse.NoMemory cut e h = h

-- the program that the bytes spell is the answer
pub program_reads : (bytes : List ℕ) (ts slice : List Token) (r : Result Program ParseFault)
    → ((us : List Token) → source_of.Tokens bytes us → source_of.Answers (Ok us) (Ok ts)) → slice ≡ ts
    → ((p : Program) → derivation.Derives slice p → derivation.Answers (Ok p) r)
    → (p : Program) → Spells bytes p → Answers (Ok p) (of_result r)
program_reads bytes ts slice r cuts e reads p h = carried (Ok p) r (reads p (of_slice bytes ts slice (λ us. derivation.Derives us p) cuts e h))

-- bytes with tokens have no fault of tokens
no_fault : (ts : List Token) (g : LexFault) (w r : Result Program SourceFault) → source_of.Answers (Err g) (Ok ts) → Answers w r
no_fault ts g w r h = absurd (cut_or_fault ts g (sym h))

-- the fault that is due is the answer
pub program_exact : (bytes : List ℕ) (ts slice : List Token) (r : Result Program ParseFault)
    → ((us : List Token) → source_of.Tokens bytes us → source_of.Answers (Ok us) (Ok ts))
    → ((x : LexKind) (at : ℕ) → source_of.Meets bytes x at → source_of.Answers (Err (source_of.fault_of x at)) (Ok ts))
    → ((at : ℕ) → IsValidUpTo bytes at → source_of.Answers (Err (lex.NotUtf8 at)) (Ok ts))
    → ((at : ℕ) → source_of.Leaves bytes at → source_of.MeetsNone bytes → source_of.Answers (Err (lex.BadChar at)) (Ok ts))
    → slice ≡ ts
    → ((x : Kind) (at : ℕ) → derivation.Meets slice x at → derivation.Answers (Err (derivation.fault_of x at)) r)
    → ((at : ℕ) → derivation.IsHigh slice at → derivation.Answers (Err (parse.Deep at)) r)
    → ((at : ℕ) → derivation.Leaves slice at → derivation.MeetsNone slice → derivation.Answers (Err (parse.Unexpected at)) r)
    → (g : SourceFault) → IsDue bytes g → Answers (Err g) (of_result r)
program_exact bytes ts slice r cuts met utf8 bad_char e exact high leaves (source.NotUtf8 at) h = no_fault ts _ _ (of_result r) (utf8 at h)
program_exact bytes ts slice r cuts met utf8 bad_char e exact high leaves (source.BadChar at) (inl h) = no_fault ts _ _ (of_result r) (bad_char at h.0 h.1)
program_exact bytes ts slice r cuts met utf8 bad_char e exact high leaves (source.BadChar at) (inr h) = no_fault ts _ _ (of_result r) (met lex_kind.BadEscape at h)
program_exact bytes ts slice r cuts met utf8 bad_char e exact high leaves (source.BadIndent at) h = no_fault ts _ _ (of_result r) (met lex_kind.BadIndent at h)
program_exact bytes ts slice r cuts met utf8 bad_char e exact high leaves (source.BadNumeral at) h = no_fault ts _ _ (of_result r) (met lex_kind.BadNumeral at h)
program_exact bytes ts slice r cuts met utf8 bad_char e exact high leaves (source.OpenComment at) h = no_fault ts _ _ (of_result r) (met lex_kind.OpenComment at h)
program_exact bytes ts slice r cuts met utf8 bad_char e exact high leaves (source.Unexpected at) h =
    let left = of_slice bytes ts slice (λ us. derivation.Leaves us at × derivation.MeetsNone us) cuts e h in
    carried (Err (parse.Unexpected at)) r (leaves at left.0 left.1)
program_exact bytes ts slice r cuts met utf8 bad_char e exact high leaves (source.Mixed at) h =
    carried (Err (parse.Mixed at)) r (exact kind.Mixed at (of_slice bytes ts slice (λ us. derivation.Meets us kind.Mixed at) cuts e h))
program_exact bytes ts slice r cuts met utf8 bad_char e exact high leaves (source.Deep at) h =
    by_kind (of_slice bytes ts slice (λ us. derivation.Meets us kind.Deep at ⊎ derivation.IsHigh us at) cuts e h)
  where
    by_kind : derivation.Meets slice kind.Deep at ⊎ derivation.IsHigh slice at → Answers (Err (source.Deep at)) (of_result r)
    by_kind (inl m) = carried (Err (parse.Deep at)) r (exact kind.Deep at m)
    by_kind (inr m) = carried (Err (parse.Deep at)) r (high at m)
program_exact bytes ts slice r cuts met utf8 bad_char e exact high leaves (source.TooMany at) h =
    carried (Err (parse.TooMany at)) r (exact kind.TooMany at (of_slice bytes ts slice (λ us. derivation.Meets us kind.TooMany at) cuts e h))
program_exact bytes ts slice r cuts met utf8 bad_char e exact high leaves source.NoMemory h = absurd h
