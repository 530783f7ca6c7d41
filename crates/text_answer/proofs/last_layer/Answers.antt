-- `text_answer::last_layer` meets its contract. Assumes nothing.
use native.Mathlib.Omega.{arith}
use borrow.Author.Rules.{rules}
use Rattle.text_answer.proofs.LastLayer.{last-part, last-length, last-picture}
use Rattle.text_answer.proofs.last_layer.Goals as goal

pub overflow_mul-from : goal.overflow_mul-from
overflow_mul-from c = omega (arith, last-part c.args.width c.args.height c.args.count c.picture_size.result c.args.workspace.now c.requires.2 c.picture_size.ensures.0 c.requires.3)

pub slice_bounds-result-count : goal.slice_bounds-result-count
slice_bounds-result-count c = omega (arith, last-part c.args.width c.args.height c.args.count c.picture_size.result c.args.workspace.now c.requires.2 c.picture_size.ensures.0 c.requires.3)

pub slice_bounds-result-start : goal.slice_bounds-result-start
slice_bounds-result-start c = let l = last-part c.args.width c.args.height c.args.count c.picture_size.result c.args.workspace.now c.requires.2 c.picture_size.ensures.0 c.requires.3 in search rules

pub returns : goal.returns
returns c =
    record { result_len = last-length c.args.width c.args.height c.args.count c.picture_size.result c.args.workspace.now c.requires.2 c.picture_size.ensures.0 c.requires.3; result_value = last-picture c.args.width c.args.height c.args.count c.picture_size.result c.args.workspace.now c.requires.2 c.picture_size.ensures.0 c.requires.3 }
