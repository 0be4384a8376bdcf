-- The numbers that a large program is made from: a linear congruential generator modulo 2^48.
use Rattle.std.specs.Prelude.{ℕ, zero, suc, ◌+◌, ◌*◌, ◌/◌, ◌%◌}

-- the state behind a state
abbrev pub next : ℕ → ℕ
next state = (state * 25214903917 + 11) % 281474976710656

-- the state behind so many others, from the seed on
abbrev pub state_after : ℕ → ℕ → ℕ
state_after zero seed = seed
state_after (suc n) seed = next (state_after n seed)

-- the bits of a state that count: all but the low sixteen
abbrev pub high_bits : ℕ → ℕ
high_bits state = state / 65536

-- which body a function has, from 0 to 3
abbrev pub template : ℕ → ℕ
template state = high_bits state % 4

-- the number in the body, from 1 to 100
abbrev pub constant : ℕ → ℕ
constant state = 1 + high_bits state / 4 % 100
