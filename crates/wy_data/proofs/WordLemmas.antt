-- Which ASCII characters stand in names.
use Rattle.std.proofs.Common.{◌≡◌, ℕ, ◌<◌, ◌==◌, ◌||◌, ap}
use Rattle.std.specs.Char.{is_ascii_alphabetic, is_ascii_alphanumeric}
use Rattle.unicode_ident.proofs.IdentLemmas.{is_xid_start-ascii, is_xid_continue-ascii}
use Rattle.wy_data.specs.Words.{is_start, is_part}

pub is_start-ascii : (c : ℕ) → c < 128 → is_start c ≡ (is_ascii_alphabetic c || (c == 95))
is_start-ascii c h = ap (λ b. b || (c == 95)) (is_xid_start-ascii c h)

pub is_part-ascii : (c : ℕ) → c < 128 → is_part c ≡ (is_ascii_alphanumeric c || (c == 95))
is_part-ascii c h = is_xid_continue-ascii c h
