-- The smallest and the largest along lines: a band of each line is enough for them. Assumes nothing.
use Prim.Native.Nat.{ℕ, ◌+◌, max}
use mathlib.Core.Path.{◌≡◌, refl}
use mathlib.Core.List.{List}
use native.Mathlib.Nat.{min-zero}
use native.Mathlib.Numerals.{add-one}
use Rattle.window.specs.Window.{fold, column}
use Rattle.kernel_fold.specs.declared.Extreme.{Extreme}
use Rattle.kernel_fold.specs.declared.Extreme.TheVariants.{Least, Largest}
use Rattle.kernel_fold.specs.Operation.{operation}
use Rattle.kernel_morph.specs.Extremes.{neutral, extreme}
use Rattle.kernel_morph.specs.PingPong.{PingPong}
use Rattle.draw_window.specs.LineRules.{Worked}
use Rattle.draw_window.proofs.BandedRules.{Banded, fold-zeros, over-banded}
use Rattle.draw_morph.specs.ExtremeRule.{extremes}

zeros : (op : Extreme) (k : ℕ) → fold (operation op) (neutral op) (k + 1) (λ t. 0) ≡ 0
unfolding operation neutral fold
zeros Least k = rw add-one (min-zero _)
zeros Largest k = fold-zeros max refl (k + 1)

pub extremes-banded : (op : Extreme) (back ahead : ℕ) → Banded (extremes op back ahead) back ahead
unfolding extremes
extremes-banded op back ahead = over-banded (operation op) (neutral op) back ahead (zeros op (back + ahead))

-- lines worked in one of two places
pub worked-extremes : (op : Extreme) (back ahead a b n count r : ℕ) (d d' : List ℕ) → PingPong (λ v i. extreme op back ahead (column d 0 n count i) v) a b n count r d d'
    → Worked (extremes op back ahead) r n count d d'
unfolding extremes
worked-extremes op back ahead a b n count r d d' K = record { inside = K.inside; long = K.long }
