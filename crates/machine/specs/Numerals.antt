-- Numbers as patterns, since a clause matches no numeral: `5+ zero` is 5, and `5+ n` is any number
-- from 5 on.
use Rattle.std.specs.Prelude.{ℕ, suc}

pattern abbrev pub 1+ : ℕ → ℕ
1+ n = suc n

pattern abbrev pub 2+ : ℕ → ℕ
2+ n = suc (1+ n)

pattern abbrev pub 3+ : ℕ → ℕ
3+ n = suc (2+ n)

pattern abbrev pub 4+ : ℕ → ℕ
4+ n = suc (3+ n)

pattern abbrev pub 5+ : ℕ → ℕ
5+ n = suc (4+ n)

pattern abbrev pub 6+ : ℕ → ℕ
6+ n = suc (5+ n)

pattern abbrev pub 7+ : ℕ → ℕ
7+ n = suc (6+ n)

pattern abbrev pub 8+ : ℕ → ℕ
8+ n = suc (7+ n)

pattern abbrev pub 9+ : ℕ → ℕ
9+ n = suc (8+ n)

pattern abbrev pub 10+ : ℕ → ℕ
10+ n = suc (9+ n)

pattern abbrev pub 11+ : ℕ → ℕ
11+ n = suc (10+ n)

pattern abbrev pub 12+ : ℕ → ℕ
12+ n = suc (11+ n)

pattern abbrev pub 13+ : ℕ → ℕ
13+ n = suc (12+ n)

pattern abbrev pub 14+ : ℕ → ℕ
14+ n = suc (13+ n)

pattern abbrev pub 15+ : ℕ → ℕ
15+ n = suc (14+ n)

pattern abbrev pub 16+ : ℕ → ℕ
16+ n = suc (15+ n)
