-- What a kernel that works a row asks for, and what it leaves. Assumes nothing.
use Rattle.std.specs.Prelude.{ℕ, ◌*◌, ◌≤◌, ◌<◌, ◌≡◌, List, length}
use denote.Ref.{Bor, MutBor}
use Rattle.pixel.specs.declared.Pixel.{Pixel}
use Rattle.pixel.specs.Alpha.{Bytes}
use Rattle.pixel.specs.Bytes.{pixel_at, Painted, ValidRow}
use Rattle.filter.specs.Limits.{longest_side}

-- n valid pixels of src, and the places of as many in dst
pub record Lent (src dst : List ℕ) (n : ℕ) : Type 0 where
  pub few : n ≤ longest_side
  pub valid : ValidRow src n
  pub from : length src ≡ 4 * n
  pub to : length dst ≡ 4 * n
  pub bytes : (x : ℕ) → x < n → Bytes (pixel_at src (4 * x))

-- the kernel may be called at them
abbrev pub Takes : (Bor (List ℕ) → MutBor (List ℕ) → ℕ → Type 0) → Type 0
Takes pre = (src : Bor (List ℕ)) (dst : MutBor (List ℕ)) (n : ℕ) → Lent src.now dst.now n → pre src dst n

-- and leaves f of each of them
abbrev pub Maps : (Bor (List ℕ) → MutBor (List ℕ) → ℕ → Unit {0} → MutBor (List ℕ) → Type 0) → (Pixel → Pixel) → Type 0
Maps post f = (src : Bor (List ℕ)) (dst : MutBor (List ℕ)) (n : ℕ) (dst' : MutBor (List ℕ)) → Lent src.now dst.now n → post src dst n tt dst'
    → Painted (λ x. f (pixel_at src.now (4 * x))) 0 0 n dst.now dst'.now
