-- From an accepted answer to what the loop over the steps asks for. Assumes nothing.
use Prim.Native.Nat.{ℕ, ◌*◌, ◌≤◌, ◌<◌}
use mathlib.Core.Path.{◌≡◌, refl, sym, ap, ◌∙◌}
use mathlib.Core.Bool.{Bool, true, false, cond}
use mathlib.Core.List.{List}
use native.Mathlib.Omega.{arith}
use lib.Dec.{eqb, leb}
use lib.ListN.{length}
use borrow.Author.Tests.{eqb-true, le-leb}
use Rattle.pixel.specs.Bytes.{first_invalid}
use Rattle.std.specs.Prelude.{Ok, Err}
use Rattle.filter.specs.declared.Refusal.TheVariants as A
use Rattle.filter.specs.declared.Call.{Call}
use Rattle.filter.specs.declared.Call.TheVariants as C
use Rattle.filter.specs.declared.Region.{Region}
use Rattle.filter.specs.declared.Sheet.{Sheet}
use Rattle.filter.specs.declared.Step.{Step}
use Rattle.filter.specs.Answers.{accepted?}
use Rattle.filter.specs.Accepted.{OnCanvas}
use Rattle.filter.specs.Checks.{sizes_answer, rectangle_answer, steps_answer, pixels_answer, contents_answer, answer_of}
use Rattle.filter.specs.Limits.{most_steps}
use Rattle.filter.specs.Steps.{step_at}
use Rattle.filter.specs.Valid.{FloodBytes}
use Rattle.filter.proofs.PassedChecks.{unless-accepted, else-accepted}
use Rattle.filter.proofs.ScannedIsValid.{scan_source, scan-layer}
use Rattle.checks.proofs.Acceptance.{accepted-sizes, accepted-steps, accepted-rectangle}
use Rattle.layers.specs.Ready.{Ready, ValidLayers}
use Rattle.layers.specs.Drawing.{ReadyFor}
use Rattle.render.specs.Code.{usable_of, AllBytes}
use Rattle.render.specs.Promise.{taken}

-- 14 was not given
scanned : (d : List ℕ) (n : ℕ) → accepted? (pixels_answer d n) ≡ true → first_invalid d n ≡ n
unfolding accepted?
scanned d n e = eqb-true (first_invalid d n) n (unless-accepted (eqb (first_invalid d n) n) (Err (A.AboveAlpha (first_invalid d n))) (Ok tt) refl e).0

source-passed : (w h n : ℕ) (src ws : List ℕ) (call : Call) → accepted? (contents_answer w h n src ws call) ≡ true → accepted? (pixels_answer src (w * h)) ≡ true
source-passed w h n src ws C.Render e = e
source-passed w h n src ws (C.Redraw g) e = (else-accepted (pixels_answer src (w * h)) _ e).0

module _ (w h : ℕ) (steps : List Step) (n : ℕ) (src ws scr : List ℕ) where
  -- checks 1 to 5, those of the steps, and 14 of the source
  ready : AllBytes src → (call : Call) → accepted? (answer_of w h steps n call src ws (length scr)) ≡ true → Ready w h steps n src ws scr
  unfolding answer_of
  ready small call e =
      let one = else-accepted (sizes_answer w h n (length src) (length ws) (length scr)) _ e in
      let two = else-accepted (rectangle_answer w h call) _ one.1 in
      let three = else-accepted (steps_answer w h steps n) _ two.1 in
      let k = accepted-sizes w h n (length src) (length ws) (length scr) one.0 in
      record {
        sheet = record { canvas = k.canvas; some = k.some; few = k.few; each = accepted-steps w h steps n three.0 };
        source = k.source_is;
        workspace = k.workspace_is;
        scratch = k.scratch_is;
        valid = scan_source w h src small (scanned src (w * h) (source-passed w h n src ws call three.1));
      }

  -- 6, and 14 of the workspace
  redraw-ready : AllBytes ws → (g : Region) → accepted? (answer_of w h steps n (C.Redraw g) src ws (length scr)) ≡ true → ValidLayers w h n ws × OnCanvas w h g
  unfolding answer_of
  redraw-ready tiny g e =
      let one = else-accepted (sizes_answer w h n (length src) (length ws) (length scr)) _ e in
      let two = else-accepted (rectangle_answer w h (C.Redraw g)) _ one.1 in
      let three = else-accepted (steps_answer w h steps n) _ two.1 in
      let four = else-accepted (pixels_answer src (w * h)) _ three.1 in
      (record { valid = scan-layer w h n ws tiny (scanned ws (n * (w * h)) four.1) }, accepted-rectangle w h g two.0)

-- no more than the list has
pub usable-le : (s : Sheet) (steps : List Step) (k : ℕ) → k ≡ usable_of (taken s steps) → k ≤ length steps
usable-le s steps k e = go (leb (taken s steps) most_steps) e
  where
    go : (t : Bool) → k ≡ cond t (taken s steps) 0 → k ≤ length steps
    go true f = omega (arith, f)
    go false f = omega (arith, f)

module _ (call : Call) (s : Sheet) (steps : List Step) (n : ℕ) (src ws scr : List ℕ) (e : accepted? (answer_of s.width s.height steps n call src ws (length scr)) ≡ true) where
  -- an accepted sheet's steps are all looked at
  pub all-used : usable_of n ≡ n
  unfolding answer_of
  all-used =
      let k = accepted-sizes s.width s.height n (length src) (length ws) (length scr) (else-accepted (sizes_answer s.width s.height n (length src) (length ws) (length scr)) _ e).0 in
      rw (le-leb n most_steps k.few)

  pub ready_for : AllBytes src → AllBytes ws → ((k : ℕ) → k < usable_of n → FloodBytes (step_at steps k).kind)
      → ReadyFor call (record { width = s.width; height = s.height; count = n }) steps src ws scr
  ready_for small tiny floods = record {
    ready = ready s.width s.height steps n src ws scr small call e;
    floods = λ k l. floods k (rw all-used l);
    redraw = λ g q. redraw-ready s.width s.height steps n src ws scr tiny g (ap (λ (c : Call). accepted? (answer_of s.width s.height steps n c src ws (length scr))) (sym q) ∙ e);
  }
