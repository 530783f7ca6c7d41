use Rattle.window.specs.Store.{byte_at}
use Rattle.kernel_blur.specs.StridedRows.{Rows}
use Rattle.kernel_blur.proofs.rows.copy_rows.Given as goal

abbrev pub invariant-loop-v : goal.invariant-loop-v
invariant-loop-v l = Rows (λ v i. byte_at l.src l.from l.stride v i) l.to l.step l.n l.v l.initial.dst l.dst
