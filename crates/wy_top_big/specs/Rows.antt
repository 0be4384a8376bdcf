-- Sources and arguments as a user sees them.
use Rattle.std.specs.Prelude.{◌≡◌, ◌∷◌, [], codes}
use Rattle.wy_top_big.specs.Bodies.{joined}
use Rattle.wy_top_big.specs.Source.{source_of, argument_text}

-- one function made from 7; four functions made from 34, each of another template; three arguments
abbrev pub AsShown : Type 0
AsShown =
    (source_of 1 7 ≡ joined (
    codes "function f0(int x) -> (int r)\n"
    ∷ codes "requires 0 <= x && x <= 1000\n"
    ∷ codes "ensures 0 <= r && r <= 1000:\n"
    ∷ codes "    int s = 0\n"
    ∷ codes "    int i = 0\n"
    ∷ codes "    while i < 11\n"
    ∷ codes "    where 0 <= i && i <= 11\n"
    ∷ codes "    where s == i:\n"
    ∷ codes "        s = s + 1\n"
    ∷ codes "        i = i + 1\n"
    ∷ codes "    return s\n"
    ∷ codes "\n"
    ∷ codes "function main(int x) -> (int r)\n"
    ∷ codes "requires 0 <= x && x <= 1000\n"
    ∷ codes "ensures 0 <= r && r <= 1000:\n"
    ∷ codes "    int y = x\n"
    ∷ codes "    y = f0(y)\n"
    ∷ codes "    return y\n" ∷ []))
    × (source_of 4 34 ≡ joined (
    codes "function f0(int x) -> (int r)\n"
    ∷ codes "requires 0 <= x && x <= 1000\n"
    ∷ codes "ensures 0 <= r && r <= 1000:\n"
    ∷ codes "    int s = 0\n"
    ∷ codes "    int i = 0\n"
    ∷ codes "    while i < 66\n"
    ∷ codes "    where 0 <= i && i <= 66\n"
    ∷ codes "    where s == i:\n"
    ∷ codes "        s = s + 1\n"
    ∷ codes "        i = i + 1\n"
    ∷ codes "    return s\n"
    ∷ codes "\n"
    ∷ codes "function f1(int x) -> (int r)\n"
    ∷ codes "requires 0 <= x && x <= 1000\n"
    ∷ codes "ensures 0 <= r && r <= 1000:\n"
    ∷ codes "    int[] a = [x; 4]\n"
    ∷ codes "    a[0] = 4\n"
    ∷ codes "    return |a|\n"
    ∷ codes "\n"
    ∷ codes "function f2(int x) -> (int r)\n"
    ∷ codes "requires 0 <= x && x <= 1000\n"
    ∷ codes "ensures 0 <= r && r <= 1000:\n"
    ∷ codes "    if x < 76:\n"
    ∷ codes "        return x + 1\n"
    ∷ codes "    return x - 76\n"
    ∷ codes "\n"
    ∷ codes "function f3(int x) -> (int r)\n"
    ∷ codes "requires 0 <= x && x <= 1000\n"
    ∷ codes "ensures 0 <= r && r <= 1000:\n"
    ∷ codes "    return (x + 31) / 2\n"
    ∷ codes "\n"
    ∷ codes "function main(int x) -> (int r)\n"
    ∷ codes "requires 0 <= x && x <= 1000\n"
    ∷ codes "ensures 0 <= r && r <= 1000:\n"
    ∷ codes "    int y = x\n"
    ∷ codes "    y = f0(y)\n"
    ∷ codes "    y = f1(y)\n"
    ∷ codes "    y = f2(y)\n"
    ∷ codes "    y = f3(y)\n"
    ∷ codes "    return y\n" ∷ []))
    × (argument_text 7 ≡ codes "(7)")
    × (argument_text 1001 ≡ codes "(0)")
    × (argument_text 4294967295 ≡ codes "(619)")
