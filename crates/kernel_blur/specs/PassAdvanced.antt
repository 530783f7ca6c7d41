-- What a box pass needs and leaves, line by line, which only the code needs: no promise to a caller cites it. Assumes nothing.
use Rattle.std.specs.Prelude.{◌≡◌, List, ℕ, ◌+◌, ◌*◌, ◌≤◌, ◌<◌, length, get_or}
use Rattle.window.specs.Store.{byte_at}
use Rattle.window.specs.Window.{mean}
use Rattle.window.specs.Ranges.{Apart}
use Rattle.kernel_sums.specs.declared.running.BoxPass.{BoxPass}
use Rattle.kernel_sums.specs.Reciprocal.{Divides}
use Rattle.kernel_sums.specs.Running.{columns, Sums}

-- the lines lie apart in the buffer, and the sums and the reciprocal serve
pub record PassReady (p : BoxPass) (d s : List ℕ) : Type 0 where
  pub source : p.from + p.count * p.n ≤ length d
  pub target : p.to + p.count * p.n ≤ length d
  pub apart : Apart p.from (p.count * p.n) p.to (p.count * p.n)
  pub sums : p.n ≤ length s
  pub limit : p.back + p.ahead + 1 ≤ 61
  pub few : p.count ≤ 65536
  pub divides : Divides p.by.mul p.by.shift (p.back + p.ahead + 1)

-- d' and s' are d and s after the lines y up to z: these are stored, and the sums are those before line z
pub record Advanced (p : BoxPass) (y z : ℕ) (d s d' s' : List ℕ) : Type 0 where
  pub inside : (v i : ℕ) → y ≤ v → v < z → i < p.n → byte_at d' p.to p.n v i ≡ mean p.back p.ahead (columns p d i) v
  pub before : (j : ℕ) → j < p.to + y * p.n → get_or d' j 0 ≡ get_or d j 0
  pub after : (j : ℕ) → p.to + z * p.n ≤ j → get_or d' j 0 ≡ get_or d j 0
  pub long : length d' ≡ length d
  pub sums : Sums p d z s'
  pub sums_long : length s' ≡ length s
