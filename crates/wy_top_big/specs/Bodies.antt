-- The four bodies that a function may have, with a number in them.
use Rattle.std.specs.Prelude.{ℕ, ◌==◌, List, [], ◌∷◌, ◌++◌, codes, if◌then◌else◌}
use Rattle.std.specs.Fmt.{decimal}

-- the texts, one behind the other
abbrev pub joined : List (List ℕ) → List ℕ
joined [] = []
joined (t ∷ ts) = t ++ joined ts

-- a choice between two results
abbrev pub choice : ℕ → List ℕ
choice c = joined (
    codes "    if x < " ∷ decimal c ∷ codes ":\n"
    ∷ codes "        return x + 1\n"
    ∷ codes "    return x - " ∷ decimal c ∷ codes "\n" ∷ [])

-- the middle of two numbers
abbrev pub mean : ℕ → List ℕ
mean c = joined (codes "    return (x + " ∷ decimal c ∷ codes ") / 2\n" ∷ [])

-- a loop that counts two variables up
abbrev pub count_up : ℕ → List ℕ
count_up c = joined (
    codes "    int s = 0\n"
    ∷ codes "    int i = 0\n"
    ∷ codes "    while i < " ∷ decimal c ∷ codes "\n"
    ∷ codes "    where 0 <= i && i <= " ∷ decimal c ∷ codes "\n"
    ∷ codes "    where s == i:\n"
    ∷ codes "        s = s + 1\n"
    ∷ codes "        i = i + 1\n"
    ∷ codes "    return s\n" ∷ [])

-- an array that is made, updated and measured
abbrev pub measure : ℕ → List ℕ
measure c = joined (
    codes "    int[] a = [x; " ∷ decimal c ∷ codes "]\n"
    ∷ codes "    a[0] = " ∷ decimal c ∷ codes "\n"
    ∷ codes "    return |a|\n" ∷ [])

-- the body of a template, from 0 to 3
abbrev pub body : ℕ → ℕ → List ℕ
body template c =
    if template == 0 then choice c else (if template == 1 then mean c else (if template == 2 then count_up c else measure c))
