-- A lent list that is filled with the steps of a text, one line after another. Assumes nothing.
use mathlib.Core.Path.{◌≡◌, refl, sym, ap, ◌∙◌}
use mathlib.Core.List.{List, ◌++◌}
use mathlib.Core.WellFounded.InvImage
use mathlib.Core.WellFounded.{WellFounded}
use Prim.Native.Nat.{ℕ, ◌+◌, ◌-◌, ◌<◌, ◌≤◌}
use native.Mathlib.Omega.{arith}
use lib.ListN.{length, get_or, set, length-set, take, drop}
use lib.WfN.{lt-wf_rel}
use Rattle.filter.specs.declared.Step.{Step}
use Rattle.filter.specs.Steps.{blank_step}
use Rattle.text.specs.Reading.{line_at, line_after}
use Rattle.text.proofs.Stepped.{line-next, line-none, list-next}

-- where the loop stands after n lines of those from `first` on; xs are the steps of the text, ys what the list held
pub record St (s : List ℕ) (xs ys : List Step) (first count : ℕ) : Type 0 where
  pub n : ℕ
  pub at : ℕ
  pub zs : List Step
  pub few : n ≤ count
  pub at_is : at ≡ line_at s first n
  pub len : length zs ≡ length ys
  pub is : zs ≡ take n xs ++ drop n ys

module _ (s : List ℕ) (xs ys : List Step) (first count : ℕ) where
  abbrev pub Nearer : St s xs ys first count → St s xs ys first count → Type 0
  Nearer t u = count - t.n < count - u.n

  pub Nearer-wf : WellFounded Nearer
  Nearer-wf = InvImage.wf (λ (t : St s xs ys first count). count - t.n) lt-wf_rel.wf

  abbrev pub start : St s xs ys first count
  start = record { n = 0; at = first; zs = ys; few = omega arith; at_is = sym (line-none s first); len = refl; is = refl }

  abbrev pub next : (t : St s xs ys first count) → t.n < count → t.n < length xs → t.n < length ys → (y : Step) (m : ℕ) → y ≡ get_or xs t.n blank_step → m ≡ line_after s t.at → St s xs ys first count
  next t l h k y m ey em = record {
    n = t.n + 1;
    at = m;
    zs = set t.zs t.n y;
    few = omega arith;
    at_is = em ∙ ap (line_after s) t.at_is ∙ sym (line-next s first t.n);
    len = length-set t.zs t.n y ∙ t.len;
    is = ap (λ (z : List Step). set z t.n y) t.is ∙ list-next xs ys t.n y h k ey;
  }

  pub nearer : (t : St s xs ys first count) → t.n < count → count - (t.n + 1) < count - t.n
  nearer t l = omega arith

  pub last : (t : St s xs ys first count) → count ≤ t.n → t.zs ≡ take count xs ++ drop count ys
  last t l = t.is ∙ ap (λ (k : ℕ). take k xs ++ drop k ys) (let e : t.n ≡ count = omega (arith, t.few) in e)
