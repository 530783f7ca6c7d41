-- The local buffers are long enough. Assumes nothing.
use mathlib.Core.Path.{◌≡◌, refl, ap, ◌∙◌}
use mathlib.Core.List.{◌∷◌}
use Prim.Native.Nat.{ℕ, zero, suc, ◌+◌, ◌*◌, ◌≤◌, ◌<◌}
use native.Mathlib.Nat.{mul-le-mul_right}
use native.Mathlib.Omega.{arith}
use lib.ListN.{length, take, replicate, length-replicate}
use Rattle.filter.specs.Picture.{Picture}
use Rattle.filter.specs.Bytes.{size}
use Rattle.filter.specs.Limits.{most_steps, longest_text_side, text_picture}
use Rattle.text_answer.specs.Answer.{longest}
use Rattle.text_print.specs.Output.{ok_text, refused_text}
use Rattle.text_print.proofs.PrintedRows.{ok-length, lines-length, refused-length}
use Rattle.text_print.proofs.ReadBack.{decimal-few}

pub size-le : (w h : ℕ) {k : ℕ} → k ≡ size w h → w ≤ longest_text_side → h ≤ longest_text_side → k ≤ text_picture
size-le w h e a b = omega (arith, mul-le-mul_right h a)

pub layers-le : (n k : ℕ) → n ≤ most_steps → k ≤ text_picture → n * k ≤ most_steps * text_picture
layers-le n k a b = omega (arith, mul-le-mul_right k a)

-- what is printed has room
pub ok-room : (w h : ℕ) (p : Picture) (n : ℕ) → w ≤ longest_text_side → h ≤ longest_text_side → n ≡ longest → 0 + length (ok_text w h p) ≤ n
ok-room w h p n a b e = omega (arith, ok-length w h p, lines-length w h p, mul-le-mul_right (9 * w + 4) b)

pub refused-room : (number place n : ℕ) → number < 18446744073709551616 → place < 18446744073709551616 → n ≡ longest → 0 + length (refused_text number place) ≤ n
refused-room number place n a b e = omega (arith, refused-length number place, decimal-few 19 number (omega arith), decimal-few 19 place (omega arith))

pub take-zeros : (n m : ℕ) → n ≤ m → take {A = ℕ} n (replicate m 0) ≡ replicate n 0
take-zeros zero m h = refl
take-zeros (suc n) zero h = absurd (omega arith)
take-zeros (suc n) (suc m) h = ap (0 ∷◌) (take-zeros n m (omega arith))

pub zeros-long : (n m : ℕ) → n ≤ m → length (take {A = ℕ} n (replicate m 0)) ≡ n
zeros-long n m h = ap length (take-zeros n m h) ∙ length-replicate n 0
