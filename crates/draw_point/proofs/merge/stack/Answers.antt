-- `draw_point::merge::stack` meets its contract: each turn lays one input more over the row. Assumes nothing.
use Prim.Native.Nat.{◌<◌}
use mathlib.Core.Path.{◌≡◌, sym, ◌∙◌}
use native.Mathlib.Omega.{arith}
use Rattle.buffers.proofs.ShownInputs.{drawable-valid}
use Rattle.filter.specs.Kinds.{reads}
use Rattle.filter.specs.Accepted.{Measured}
use Rattle.buffers.specs.Shown.{shown}
use Rattle.buffers.proofs.LoadedRows.{loaded-valid, loaded-stays}
use Rattle.draw_point.specs.RowDrawn.{stack_of}
use Rattle.draw_point.proofs.StackedRows.{stacked-first, merge-allowed, stacked-row, stacked-all}
use Rattle.draw_point.proofs.merge.stack.Goals as goal

pub load_first-requires : goal.load_first-requires
unfolding Measured reads
load_first-requires c =
    let a = c.args in
    let D = c.requires.workable.0 in
    record { readable = (D.drawable.readable, c.requires.workable.1); i_value = (merge-allowed a.context.n a.count 0 a.inputs D.earlier D.measured.0 (omega arith), c.requires.work_row.2) }

pub loop-j-init : goal.loop-j-init
unfolding Measured reads
loop-j-init c =
    let a = c.args in
    let D = c.requires.workable.0 in
    let E = shown a.context a.source.now a.workspace.now in
    let ok = merge-allowed a.context.n a.count 0 a.inputs D.earlier D.measured.0 (omega arith) in (
      omega arith,
      omega arith,
      loaded-stays (E a.inputs.first) a.part.y a.part.from a.part.to _ _ c.load_first.ensures (stack_of E a.inputs 1) (λ x. stacked-first E a.inputs x a.part.y),
      loaded-valid (E a.inputs.first) a.part.y a.part.from a.part.to _ _ c.load_first.ensures ((drawable-valid _ _ _ _ D.drawable).valid _ ok),
      c.requires.work_row.0,
      c.requires.work_row.1,
    )

pub lay-requires : goal.lay-requires
unfolding Measured reads
lay-requires c =
    let a = c.args in
    let D = c.requires.workable.0 in
    let j = c.loop-j.j in
    let I = c.loop-j.invariant in
    let few : j < 4 = omega (arith, c.loop-j-test.true, D.measured.1) in
    let ok = merge-allowed a.context.n a.count j a.inputs D.earlier c.loop-j-test.true few in
    record { drawable = (D.drawable, rw c.merge_input_at-input.ensures ok, c.requires.workable.1); work_row = (I.4, I.5, I.2.long ∙ c.load_first.ensures.long ∙ c.requires.work_row.2); valid_row = I.3 }

pub overflow_step-j : goal.overflow_step-j
overflow_step-j c =
    omega (arith, c.loop-j-test.true, c.ranges.count)

pub loop-j-preserved : goal.loop-j-preserved
unfolding Measured
loop-j-preserved c =
    let a = c.args in
    let D = c.requires.workable.0 in
    let j = c.loop-j.j in
    let I = c.loop-j.invariant in
    let E = shown a.context a.source.now a.workspace.now in
    let few : j < 4 = omega (arith, c.loop-j-test.true, D.measured.1) in (
      omega arith,
      omega arith,
      stacked-row E a.inputs a.part j _ _ _ _ I.0 few c.merge_input_at-input.ensures I.2 c.lay.ensures.laid,
      c.lay.ensures.valid_row_2,
      c.lay.auto.a ∙ I.4,
      c.lay.auto.g ∙ I.5,
    )

pub shape_of-a : goal.shape_of-a
shape_of-a c =
    c.loop-j.invariant.4 ∙ sym c.requires.work_row.0

pub shape_of-g : goal.shape_of-g
shape_of-g c =
    c.loop-j.invariant.5 ∙ sym c.requires.work_row.1

pub shape_of-row : goal.shape_of-row
shape_of-row c =
    c.loop-j.invariant.2.long ∙ c.load_first.ensures.long

pub returns : goal.returns
unfolding Measured
returns c =
    let a = c.args in
    let D = c.requires.workable.0 in
    let I = c.loop-j.invariant in
    let e : c.loop-j.j ≡ a.count = omega (arith, I.0, I.1, c.loop-j-test.false, D.measured.0) in
    let E = shown a.context a.source.now a.workspace.now in
    stacked-all E a.inputs a.part _ _ _ _ _ e c.load_first.ensures I.2
