-- Which rules a build has. Assumes nothing.
use Rattle.std.specs.Prelude.{ℕ}

-- the number at the head of RULES.md, which rises whenever an answer or a pixel changes
abbrev pub rules_number : ℕ
rules_number = 7
