-- The grammar of cache files.
use Rattle.std.specs.Prelude.{◌≡◌, ℕ, ◌+◌, ◌<◌, ◌≤◌, List, [], ◌∷◌, ◌++◌, codes}
use Rattle.std.specs.Fmt.{decimal}
use Rattle.wy_data.specs.scan.Front.{IsBehind}
use Rattle.wy_cache_text.specs.Lines.{AreLinesAt}

-- an entry: the lines of a condition, and those of steps
pub record Held : Type 0 where
  pub key : List ℕ
  pub steps : List ℕ

abbrev pub Entries : Type 0
Entries = List Held

-- the most lines of one kind in an entry
abbrev pub most : ℕ
most = 16777216

-- the text begins with a line of the word and a number, and this follows
pub record IsCountAt (word text : List ℕ) (n : ℕ) (rest : List ℕ) : Type 0 where
  pub is : text ≡ word ++ (decimal n ++ 10 ∷ rest)
  pub few : n ≤ most

abbrev pub NoCount : List ℕ → List ℕ → Type 0
NoCount word text = (n : ℕ) (rest : List ℕ) → IsCountAt word text n rest → ⊥

-- the text begins with the entry, and this follows
pub record IsEntryAt (text : List ℕ) (e : Held) (rest : List ℕ) : Type 0 where
  pub hypotheses : ℕ
  pub behind_for : List ℕ
  pub behind_key : List ℕ
  pub number : ℕ
  pub behind_by : List ℕ
  pub opens : IsCountAt (codes "for ") text hypotheses behind_for
  pub key : AreLinesAt (hypotheses + 1) behind_for e.key behind_key
  pub goes_on : IsCountAt (codes "by ") behind_key number behind_by
  pub some : 0 < number
  pub steps : AreLinesAt number behind_by e.steps rest

abbrev pub NoEntry : List ℕ → Type 0
NoEntry text = (e : Held) (rest : List ℕ) → IsEntryAt text e rest → ⊥

-- the text is these entries and the last line
abbrev pub IsBody : Entries → List ℕ → Type 0
IsBody [] text = text ≡ codes "end\n"
IsBody (e ∷ es) text = (rest : List ℕ) × IsEntryAt text e rest × IsBody es rest

abbrev pub NoBody : List ℕ → Type 0
NoBody text = (es : Entries) → IsBody es text → ⊥

-- the bytes are the file with these entries
pub record IsCacheFile (bytes : List ℕ) (es : Entries) : Type 0 where
  pub text : List ℕ
  pub opens : IsBehind (codes "wycache 1\n") bytes text
  pub body : IsBody es text

-- bytes are read as the entries of the file that they are, and as none where they are no such file
pub data IsReadAs (bytes : List ℕ) (es : Entries) : Type 0 where
  file : IsCacheFile bytes es → IsReadAs bytes es
  no_file : ((ds : Entries) → IsCacheFile bytes ds → ⊥) → es ≡ [] → IsReadAs bytes es

-- bytes are read as these entries alone
abbrev pub OneReading : Type 0
OneReading = (bytes : List ℕ) (es ds : Entries) → IsReadAs bytes es → IsReadAs bytes ds → es ≡ ds
