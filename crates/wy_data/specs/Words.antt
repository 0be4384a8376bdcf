-- Which words are names. A character is its number.
use Rattle.std.specs.Prelude.{◌≡◌, ℕ, Bool, true, false, ◌&&◌, ◌||◌, ◌==◌, List, [], ◌∷◌, if◌then◌else◌}
use Rattle.std.specs.Str.{bytes_eq, chars, IsUtf8}
use Rattle.std.specs.Prelude.{codes}
use Rattle.unicode_ident.specs.Ident.{is_xid_start, is_xid_continue}

-- may begin a name
abbrev pub is_start : ℕ → Bool
is_start c = is_xid_start c || (c == 95)

-- may go on in a name
abbrev pub is_part : ℕ → Bool
is_part c = is_xid_continue c

-- the words of the language, which are no names, by their bytes
abbrev pub keywords : List (List ℕ)
keywords =
    codes "type" ∷ codes "is" ∷ codes "where" ∷ codes "function" ∷ codes "method" ∷ codes "property" ∷ codes "requires" ∷ codes "ensures"
    ∷ codes "if" ∷ codes "else" ∷ codes "while" ∷ codes "do" ∷ codes "switch" ∷ codes "case" ∷ codes "default" ∷ codes "for" ∷ codes "in"
    ∷ codes "return" ∷ codes "break" ∷ codes "continue" ∷ codes "assert" ∷ codes "fail" ∷ codes "skip" ∷ codes "all" ∷ codes "some"
    ∷ codes "null" ∷ codes "bool" ∷ codes "int" ∷ codes "any" ∷ codes "void" ∷ codes "true" ∷ codes "false" ∷ codes "import" ∷ []

-- is one of the words
abbrev pub among : List (List ℕ) → List ℕ → Bool
among [] word = false
among (w ∷ ws) word = if bytes_eq w word then true else among ws word

unfoldable pub is_keyword : List ℕ → Bool
is_keyword word = among keywords word

-- each may go on in a name
abbrev pub all_parts : List ℕ → Bool
all_parts [] = true
all_parts (c ∷ cs) = is_part c && all_parts cs

-- begins and goes on as a name does
abbrev pub is_word : List ℕ → Bool
is_word [] = false
is_word (c ∷ cs) = is_start c && all_parts cs

-- the bytes spell a name
abbrev pub IsName : List ℕ → Type 0
IsName bytes = IsUtf8 bytes × (is_word (chars bytes) ≡ true) × (is_keyword bytes ≡ false)
