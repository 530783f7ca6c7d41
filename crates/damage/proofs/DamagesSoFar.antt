-- The redraw rectangles in code, and the loop that works them out one after another. Assumes nothing.
use Prim.Native.Nat.{ℕ, zero, suc, ◌+◌, ◌*◌, ◌≤◌, ◌<◌}
use mathlib.Core.Path.{◌≡◌, refl, ap, ap₂, ◌∙◌, fun_ext}
use mathlib.Core.Bool.{cond}
use mathlib.Core.List.{List, map}
use native.Mathlib.Numerals.{add-one}
use native.Mathlib.Omega.{arith}
use native.Mathlib.Decide.{ℕ_discrete}
use lib.Dec.{ltb, eqb}
use lib.ListN.{length, get_or, set, length-set, replicate}
use lib.Seq.{get_or-set_same, get_or-set_other}
use borrow.Author.Tests.{lt-ltb, eq-eqb, ne_eqb}
use Rattle.pixel.specs.declared.Space.{Space}
use Rattle.filter.specs.declared.Input.{Input}
use Rattle.filter.specs.declared.Input.TheVariants.{Source, SourceAlpha, Layer}
use Rattle.filter.specs.declared.Inputs.{Inputs}
use Rattle.filter.specs.declared.Rect.{Rect}
use Rattle.filter.specs.declared.Step.{Step}
use Rattle.filter.specs.Rect.{canvas_of, empty, meet, join, area}
use Rattle.filter.specs.Reach.{window, still, grow}
use Rattle.filter.specs.Kinds.{here, first_inputs}
use Rattle.filter.specs.Layers.{changed, replaced, reached, damage, damages, count}
use Rattle.filter.specs.Steps.{step_at}
use Rattle.filter.specs.Sheets.{space_of, effect_of, effects_of}
use Rattle.filter.specs.Accepted.{Within}
use Rattle.damage.specs.InputRects.{rect_of, AllWithin}
use Rattle.damage.proofs.StepLaws.{get_or_none}
use Rattle.filter.proofs.JoinedRects.{damages-within}
use Rattle.filter.proofs.SeenInSpaces.{damage-spaces}
use Rattle.filter.specs.Limits.{longest_side, most_pixels, most_steps}

-- a merge's inputs, as many as there are
abbrev joined : (Input → Rect) → Input → Rect → Rect
joined z i rest = join (grow (window still still) (z i)) rest

pub merge-reached : (n : ℕ) (is : Inputs) (z : Input → Rect) (a b c d : Rect) → d ≡ cond (ltb 3 n) (joined z is.fourth empty) empty → c ≡ cond (ltb 2 n) (joined z is.third d) d
    → b ≡ cond (ltb 1 n) (joined z is.second c) c → a ≡ cond (ltb 0 n) (joined z is.first b) b → a ≡ reached (map here (first_inputs n is)) z
unfolding reached
merge-reached zero is z a b c d ed ec eb ea = ea ∙ eb ∙ ec ∙ ed
merge-reached (suc zero) is z a b c d ed ec eb ea = ea ∙ ap (joined z is.first) (eb ∙ ec ∙ ed)
merge-reached (suc (suc zero)) is z a b c d ed ec eb ea = ea ∙ ap (joined z is.first) (eb ∙ ap (joined z is.second) (ec ∙ ed))
merge-reached (suc (suc (suc zero))) is z a b c d ed ec eb ea =
    ea ∙ ap (joined z is.first) (eb ∙ ap (joined z is.second) (ec ∙ ap (joined z is.third) ed))
merge-reached (suc (suc (suc (suc n)))) is z a b c d ed ec eb ea =
    (rw (lt-ltb 0 (suc (suc (suc (suc n)))) (omega arith)) at ea)
    ∙ ap (joined z is.first) ((rw (lt-ltb 1 (suc (suc (suc (suc n)))) (omega arith)) at eb)
    ∙ ap (joined z is.second) ((rw (lt-ltb 2 (suc (suc (suc (suc n)))) (omega arith)) at ec)
    ∙ ap (joined z is.third) (rw (lt-ltb 3 (suc (suc (suc (suc n)))) (omega arith)) at ed)))

-- a cut of the canvas lies on it
pub meet_within : (w h : ℕ) (p q r : Rect) → r ≡ meet (meet (canvas_of w h) p) q → Within w h r
meet_within w h p q r e = record { right = omega (arith, ap (λ (k : Rect). k.right) e); bottom = omega (arith, ap (λ (k : Rect). k.bottom) e) }

-- the largest canvas holds what a smaller one does
pub within_more : (w h : ℕ) (r : Rect) → w ≤ longest_side → h ≤ longest_side → Within w h r → Within longest_side longest_side r
within_more w h r a b k = record { right = omega arith; bottom = omega arith }

pub all_within_more : (w h : ℕ) (r : Rect) (zs : List Rect) → w ≤ longest_side → h ≤ longest_side → AllWithin w h r zs → AllWithin longest_side longest_side r zs
all_within_more w h r zs a b k = record { each = λ i. within_more w h _ a b (k.each i) }

module _ (w h : ℕ) (steps : List Step) (r : Rect) where
  abbrev rects : ℕ → Input → Rect
  rects = damages (canvas_of w h) (effects_of w h steps) r

  -- what holds after n steps
  pub record Going (n : ℕ) (zs : List Rect) (total : ℕ) : Type 0 where
    pub slots : length zs ≡ most_steps
    pub each : (i : Input) → rect_of r zs i ≡ rects n i
    pub sum : total ≡ count (canvas_of w h) (effects_of w h steps) r n
    pub few : total ≤ n * most_pixels

  pub going-none : (z : Rect) → z ≡ empty → Going 0 (replicate most_steps z) 0
  unfolding damages changed count rect_of
  going-none z e = rw e record {
    slots = refl;
    each = each;
    sum = refl;
    few = omega arith;
  }
    where
      each : (i : Input) → rect_of r (replicate most_steps empty) i ≡ rects 0 i
      each Source = refl
      each SourceAlpha = refl
      each (Layer k) = get_or_none empty most_steps k

  pub going-within : (n : ℕ) (zs : List Rect) (total : ℕ) → Going n zs total → Within w h r → AllWithin w h r zs
  going-within n zs total G k = record { each = each }
    where
      each : (i : Input) → Within w h (rect_of r zs i)
      each i = let t = damages-within (canvas_of w h) (effects_of w h steps) r (k.right, k.bottom) n i in rw (G.each i) record { right = t.0; bottom = t.1 }

  -- one more step, whose rectangle is worked out from those so far
  module _ (n : ℕ) (zs : List Rect) (total : ℕ) (G : Going n zs total) (small : n < most_steps) (spaces : Input → Space) (s : Step) (es : s ≡ step_at steps n)
      (z : Rect) (ez : z ≡ damage (canvas_of w h) (effect_of w h spaces s) (rect_of r zs)) where
    new_is : z ≡ damage (canvas_of w h) (effects_of w h steps n) (rects n)
    new_is =
        ez
        ∙ ap (λ (x : Step). damage (canvas_of w h) (effect_of w h spaces x) (rect_of r zs)) es
        ∙ damage-spaces w h spaces (space_of steps) (step_at steps n) (rect_of r zs)
        ∙ ap (damage (canvas_of w h) (effects_of w h steps n)) (fun_ext G.each)

    each_more : (i : Input) → rect_of r (set zs n z) i ≡ rects (suc n) i
    unfolding rect_of damages replaced
    each_more Source = G.each Source
    each_more SourceAlpha = G.each SourceAlpha
    each_more (Layer k) = go (ℕ_discrete k n)
      where
        go : Dec (k ≡ n) → get_or (set zs n z) k empty ≡ cond (eqb k n) (damage (canvas_of w h) (effects_of w h steps n) (rects n)) (rects n (Layer k))
        go (yes q) = rw (q, get_or-set_same zs n z empty (omega (arith, G.slots)), eq-eqb n n refl) new_is
        go (no ne) = rw (get_or-set_other zs n k z empty ne, ne_eqb k n ne) (G.each (Layer k))

    pub going_more : (a : ℕ) → a ≡ area z → a ≤ most_pixels → Going (n + 1) (set zs n z) (total + a)
    unfolding count
    going_more a ea la = record {
      slots = length-set zs n z ∙ G.slots;
      each = λ i. rw add-one (each_more i);
      sum = rw add-one (ap₂ ◌+◌ G.sum (ea ∙ ap area new_is));
      few = omega (arith, G.few);
    }
