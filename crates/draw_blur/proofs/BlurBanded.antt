-- A blur's passes along lines: a band of each line is enough for them. Assumes nothing.
use Prim.Native.Nat.{ℕ, ◌+◌, ◌-◌, ◌/◌, ◌%◌, ◌<◌}
use mathlib.Core.Path.{◌≡◌, refl, sym, ap, ◌∙◌, fun_ext}
use mathlib.Core.Bool.{Bool, true, false, cond}
use mathlib.Core.List.{List}
use native.Mathlib.Nat.{div-eq_of_lt}
use native.Mathlib.Omega.{arith}
use lib.Dec.{ltb, eqb}
use borrow.Author.Tests.{lt-ltb}
use Rattle.window.specs.Store.{byte_at}
use Rattle.window.specs.Window.{within, column, mean, box, passes_of, spread}
use Rattle.window.proofs.BandedPasses.{within_in, passes-band}
use Rattle.kernel_blur.specs.Blurred.{Blurred}
use Rattle.draw_window.specs.LineRules.{Worked}
use Rattle.draw_window.proofs.BandedRules.{Banded, band-ends, over_zeros, fold-zeros}
use Rattle.draw_blur.specs.BlurRule.{blurs}

mean-zeros : (back ahead x : ℕ) → mean back ahead (λ u. 0) x ≡ 0
unfolding mean
mean-zeros back ahead x =
    let s : ℕ = back + ahead + 1 in
    let e = over_zeros ◌+◌ 0 back ahead x (fold-zeros ◌+◌ refl s) in
    ap (λ (k : ℕ). (k + s / 2) / s) e ∙ div-eq_of_lt (omega arith)

box-zeros : (n back ahead : ℕ) → box n back ahead (λ u. 0) ≡ (λ u. 0)
unfolding box within
box-zeros n back ahead = fun_ext (λ x. ap (λ (k : ℕ). cond (ltb x n) k 0) (mean-zeros back ahead x) ∙ go (ltb x n))
  where
    go : (t : Bool) → cond {A = ℕ} t 0 0 ≡ 0
    go true = refl
    go false = refl

three-zeros : (n b₁ a₁ b₂ a₂ b₃ a₃ x : ℕ) → box n b₃ a₃ (box n b₂ a₂ (box n b₁ a₁ (λ u. 0))) x ≡ 0
three-zeros n b₁ a₁ b₂ a₂ b₃ a₃ x =
    ap (λ (f : ℕ → ℕ). box n b₃ a₃ (box n b₂ a₂ f) x) (box-zeros n b₁ a₁)
    ∙ ap (λ (f : ℕ → ℕ). box n b₃ a₃ f x) (box-zeros n b₂ a₂)
    ∙ ap (λ (f : ℕ → ℕ). f x) (box-zeros n b₃ a₃)

passes-zeros : (n : ℕ) (small odd : Bool) (e x : ℕ) → passes_of n small odd e (λ u. 0) x ≡ 0
unfolding passes_of
passes-zeros n true odd e x = refl
passes-zeros n false true e x = three-zeros n e e e e e e x
passes-zeros n false false e x = three-zeros n e (e - 1) (e - 1) e e e x

spread-banded : (d : ℕ) → Banded (blurs d) (spread d) (spread d)
unfolding blurs
spread-banded d = record {
  band = λ n a b f blank x p q s lo hi el eh. band-ends (blurs d) n a b (spread d) (spread d) f x lo hi el eh (passes-band n a b d f blank x p q s);
  zeros = λ n x. passes-zeros n (ltb d 2) (eqb (d % 2) 1) (d / 2) x;
}

pub blurs-banded : (d reach : ℕ) → reach ≡ spread d → Banded (blurs d) reach reach
blurs-banded d reach e = rw e (spread-banded d)

-- no passes: a byte of the lines stays as it is
pub byte_without_passes : (d n count : ℕ) (s : List ℕ) (v i : ℕ) → d < 2 → v < count → byte_at s 0 n v i ≡ blurs d count (column s 0 n count i) v
unfolding blurs passes_of column
byte_without_passes d n count s v i l h = rw (lt-ltb d 2 l) (sym (within_in count _ v h))

pub worked-none : (d n count : ℕ) (s : List ℕ) → d < 2 → Worked (blurs d) 0 n count s s
worked-none d n count s l = record { inside = λ v i h m. byte_without_passes d n count s v i l h; long = refl }

pub worked-passes : (d b n count : ℕ) (s s' : List ℕ) → Blurred d 0 b n count s s' → Worked (blurs d) b n count s s'
unfolding blurs
worked-passes d b n count s s' B = record { inside = B.inside; long = B.long }
