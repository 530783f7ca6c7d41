-- `kernel_row::scan::first_invalid` meets its contract: no pixel passed is invalid, and the loops are left at the first that is.
-- Assumes nothing.
use Rattle.std.proofs.Common.{◌≡◌, ℕ, ◌+◌, ◌-◌, ◌*◌, ◌≤◌, true, not, sym, refl, ap, ◌∙◌, mul_comm, add-mul, zero-mul, arith}
use borrow.Author.Tests.{not-true, not-false}
use Rattle.pixel.specs.declared.Pixel.{Pixel}
use Rattle.pixel.specs.Bytes.{pixel_at, valid?, first_invalid}
use Rattle.kernel_row.proofs.FirstInvalid.{first-invalid-more, first-at, first-row, scan-row-room}
use Rattle.kernel_row.proofs.scan.first_invalid.Goals as goal
use Rattle.kernel_row.proofs.scan.first_invalid.Goals.{then-any_exceeds+else-loop-x-test, else-any_exceeds}

pub rows-init : goal.rows-init
unfolding first_invalid
rows-init c =
    let z : 0 ≡ 0 * c.args.w = sym (zero-mul c.args.w) in
    (omega arith, z, refl, refl)

pub overflow_mul-o : goal.overflow_mul-o
overflow_mul-o c =
    let room : c.rows.p + c.args.w ≤ c.args.w * c.args.h = scan-row-room _ _ c.rows.y _ c.rows-test.true c.rows.invariant.1 in
    omega (arith, room)

pub overflow_mul-e : goal.overflow_mul-e
overflow_mul-e c =
    let room : c.rows.p + c.args.w ≤ c.args.w * c.args.h = scan-row-room _ _ c.rows.y _ c.rows-test.true c.rows.invariant.1 in
    omega (arith, room)

pub overflow_add-e : goal.overflow_add-e
overflow_add-e c =
    let room : c.rows.p + c.args.w ≤ c.args.w * c.args.h = scan-row-room _ _ c.rows.y _ c.rows-test.true c.rows.invariant.1 in
    omega (arith, room)

pub slice_bounds-any_exceeds-end : goal.slice_bounds-any_exceeds-end
slice_bounds-any_exceeds-end c =
    let room : c.rows.p + c.args.w ≤ c.args.w * c.args.h = scan-row-room _ _ c.rows.y _ c.rows-test.true c.rows.invariant.1 in
    omega (arith, room)

pub loop-x-init : goal.loop-x-init
loop-x-init c =
    let at = c.rows in
    let z : at.p + 0 ≡ at.p = omega arith in
    (omega arith, at.invariant.2, rw z at.invariant.3)

pub overflow_add-p : goal.overflow_add-p
overflow_add-p c =
    let room : c.rows.p + c.args.w ≤ c.args.w * c.args.h = scan-row-room _ _ c.rows.y _ c.rows-test.true c.rows.invariant.1 in
    omega (arith, room)

pub overflow_mul-p : goal.overflow_mul-p
overflow_mul-p c =
    let room : c.rows.p + c.args.w ≤ c.args.w * c.args.h = scan-row-room _ _ c.rows.y _ c.rows-test.true c.rows.invariant.1 in
    omega (arith, room)

pub word-requires : goal.word-requires
word-requires c =
    let room : c.rows.p + c.args.w ≤ c.args.w * c.args.h = scan-row-room _ _ c.rows.y _ c.rows-test.true c.rows.invariant.1 in
    omega (arith, room)

pub overflow_add-found : goal.overflow_add-found
overflow_add-found c =
    let room : c.rows.p + c.args.w ≤ c.args.w * c.args.h = scan-row-room _ _ c.rows.y _ c.rows-test.true c.rows.invariant.1 in
    omega (arith, room)

pub loop-x-preserved : goal.loop-x-preserved
loop-x-preserved c =
    let at = c.loop-x in
    let p = c.rows.p in
    let s = c.args.s.now in
    let v : valid? (pixel_at s (4 * (p + at.x))) ≡ true = not-false _ (sym (ap (λ (q : Pixel). not (valid? q)) c.word.ensures.holds) ∙ sym c.exceeds.ensures ∙ c.if-exceeds.false) in
    let z : p + (at.x + 1) ≡ p + at.x + 1 = omega arith in
    (omega arith, at.invariant.1, rw z (first-invalid-more _ (p + at.x) at.invariant.2 v))

pub overflow_add-p-in-rows : goal.overflow_add-p-in-rows
overflow_add-p-in-rows c =
    let room : c.rows.p + c.args.w ≤ c.args.w * c.args.h = scan-row-room _ _ c.rows.y _ c.rows-test.true c.rows.invariant.1 in
    omega (arith, room)

pub rows-preserved : goal.rows-preserved
rows-preserved c =
    let r = c.rows in
    let a = c.args in
    let next : r.p + a.w ≡ (r.y + 1) * a.w = omega (arith, add-mul r.y 1 a.w) in
    let found : c.if-any_exceeds.found ≡ a.w * a.h = elim c.if-any_exceeds.branch
    [ then-any_exceeds+else-loop-x-test w ↦ w.found-is ∙ w.loop-x.invariant.1 | else-any_exceeds w ↦ w.found-is ∙ r.invariant.2 ] in
    let none : first_invalid a.s.now (r.p + a.w) ≡ r.p + a.w = elim c.if-any_exceeds.branch [
      | then-any_exceeds+else-loop-x-test w ↦ let e : w.loop-x.x ≡ a.w = omega arith in rw e at w.loop-x.invariant.2
      | else-any_exceeds w ↦ first-row a.s.now r.p (4 * r.p + 4 * a.w - 4 * r.p) (4 * r.p) a.w refl (omega arith) r.invariant.3 (not-false _ (sym c.any_exceeds.ensures ∙ w.if-any_exceeds.false))
    ] in
    (omega arith, next, found, none)

pub returns-after-rows : goal.returns-after-rows
returns-after-rows c =
    let r = c.rows in
    let a = c.args in
    let q : r.y ≡ a.h = omega (arith, c.rows-test.false, r.invariant.0) in
    let e : r.p ≡ a.w * a.h = r.invariant.1 ∙ ap (λ (n : ℕ). n * a.w) q ∙ mul_comm a.h a.w in
    r.invariant.2 ∙ sym (rw e at r.invariant.3)

pub returns-then-exceeds : goal.returns-then-exceeds
returns-then-exceeds c =
    let room : c.rows.p + c.args.w ≤ c.args.w * c.args.h = scan-row-room _ _ c.rows.y _ c.rows-test.true c.rows.invariant.1 in
    let at = c.loop-x in
    let p = c.rows.p in
    let s = c.args.s.now in
    let l = room in
    sym (first-at s _ (p + at.x) (omega arith) at.invariant.2 (not-true _ (sym (ap (λ (q : Pixel). not (valid? q)) c.word.ensures.holds) ∙ sym c.exceeds.ensures ∙ c.if-exceeds.true)))
