-- What the code's own steps work out. No promise to a caller cites this. Assumes nothing.
use Rattle.std.specs.Prelude.{ℕ, ◌+◌, ◌*◌, ◌≤◌, ◌<◌, ◌≡◌, cond, List, ◌≢◌, eqb, length, get_or}
use Rattle.pixel.specs.declared.Space.{Space}
use Rattle.pixel.specs.Alpha.{premultiplied, unpremultiplied}
use Rattle.pixel.specs.Convert.{pair_of}
use Rattle.pixel.specs.Space.{table_of}

-- the 256 colours of the rules' table, which are not premultiplied
pub record Mapped (to : Space) (map : List ℕ) : Type 0 where
  pub long : length map ≡ 256
  pub entry : (c : ℕ) → c < 256 → get_or map c 0 ≡ get_or (table_of to) c 0

-- the colour c at the alpha a, converted where there is a table for it
abbrev pub seen_colour : Space → List ℕ → ℕ → ℕ → ℕ
seen_colour to inner c a = cond (eqb (length inner) 0) c (pair_of to c a)

-- that, unpremultiplied
abbrev pub unpremultiplied_at : Space → List ℕ → ℕ → ℕ → ℕ
unpremultiplied_at to inner a c = unpremultiplied (seen_colour to inner c a) a

-- the entry i of a line: what a map has for the colour of the line, premultiplied by b
abbrev pub line_entry : List ℕ → List ℕ → ℕ → ℕ → ℕ
line_entry map line b i = premultiplied (get_or map (get_or line i 0) 0) b

-- the entry for the colour that is u unpremultiplied, at the alpha a: k is 0, 1, 2 for R, G, B
abbrev pub table_entry : List ℕ → ℕ → ℕ → ℕ → ℕ
table_entry maps k u a = premultiplied (get_or maps (256 * k + u) 0) (get_or maps (768 + a) 0)

-- d' is d with the lines of the alpha a in the three tables up to the colour a, the lines of the other alphas as before
pub record LinesFilled (maps line : List ℕ) (a : ℕ) (d d' : List ℕ) : Type 0 where
  pub inside : (k c : ℕ) → k < 3 → c ≤ a → get_or d' (65536 * k + 256 * a + c) 0 ≡ table_entry maps k (get_or line c 0) a
  pub others : (k b c : ℕ) → k < 3 → b < 256 → b ≢ a → c < 256 → get_or d' (65536 * k + 256 * b + c) 0 ≡ get_or d (65536 * k + 256 * b + c) 0
  pub long : length d' ≡ length d
