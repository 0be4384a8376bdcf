-- A large program as a text, and what it is run on.
use Rattle.std.specs.Prelude.{ℕ, zero, suc, ◌%◌, List, [], ◌∷◌, ◌++◌, codes}
use Rattle.std.specs.Fmt.{decimal}
use Rattle.wy_top_big.specs.Draws.{state_after, template, constant}
use Rattle.wy_top_big.specs.Bodies.{joined, body}

-- a function from a number of 0 to 1000 to such a number
abbrev pub function : List ℕ → List ℕ → List ℕ
function name stmts = joined (
    codes "function " ∷ name ∷ codes "(int x) -> (int r)\n"
    ∷ codes "requires 0 <= x && x <= 1000\n"
    ∷ codes "ensures 0 <= r && r <= 1000:\n"
    ∷ stmts ∷ [])

-- the function of a number, made from a state
abbrev pub numbered : ℕ → ℕ → List ℕ
numbered number state = function (codes "f" ++ decimal number) (body (template state) (constant state))

-- so many functions, each from the state behind that of the one before it, and with a blank line behind it
abbrev pub functions : ℕ → ℕ → List ℕ
functions zero seed = []
functions (suc n) seed = functions n seed ++ numbered n (state_after (suc n) seed) ++ codes "\n"

-- the line that calls the function of a number
abbrev pub call : ℕ → List ℕ
call number = joined (codes "    y = f" ∷ decimal number ∷ codes "(y)\n" ∷ [])

-- the lines that call so many functions, in order
abbrev pub calls : ℕ → List ℕ
calls zero = []
calls (suc n) = calls n ++ call n

-- the name of the function that is run
abbrev pub entry : List ℕ
entry = codes "main"

abbrev pub main_body : ℕ → List ℕ
main_body count = joined (codes "    int y = x\n" ∷ calls count ∷ codes "    return y\n" ∷ [])

-- the function that calls so many others, in order
abbrev pub main_function : ℕ → List ℕ
main_function count = function entry (main_body count)

-- the source of a program of so many functions, and of the last one
abbrev pub source_of : ℕ → ℕ → List ℕ
source_of count seed = functions count seed ++ main_function count

-- what the last function is run on
abbrev pub argument_text : ℕ → List ℕ
argument_text seed = joined (codes "(" ∷ decimal (seed % 1001) ∷ codes ")" ∷ [])
