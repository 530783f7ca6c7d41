-- `text_answer::print_sheet` meets its contract. The part of the workspace that is lent holds zeros. Assumes nothing.
use mathlib.Core.Path.{sym, ap, ◌∙◌}
use Prim.Native.Nat.{ℕ, ◌*◌, ◌≤◌}
use native.Mathlib.Omega.{arith}
use lib.ListN.{replicate}
use Rattle.filter.specs.Limits.{most_steps, text_picture}
use Rattle.text_answer.proofs.BuffersSuffice.{size-le, layers-le, zeros-long, take-zeros}
use Rattle.text_answer.proofs.print_sheet.Goals as goal

pub overflow_mul-n : goal.overflow_mul-n
overflow_mul-n c =
    let room : c.args.count * c.picture_size.result ≤ most_steps * text_picture = layers-le c.args.count c.picture_size.result c.requires.count_le_most_steps.0 (size-le c.args.width c.args.height c.picture_size.ensures.0 c.requires.width_le_longest_text_side.0 c.requires.width_le_longest_text_side.1) in
    omega (arith, room)

pub slice_bounds-workspace-end : goal.slice_bounds-workspace-end
slice_bounds-workspace-end c =
    let room : c.args.count * c.picture_size.result ≤ most_steps * text_picture = layers-le c.args.count c.picture_size.result c.requires.count_le_most_steps.0 (size-le c.args.width c.args.height c.picture_size.ensures.0 c.requires.width_le_longest_text_side.0 c.requires.width_le_longest_text_side.1) in
    room

pub slice_bounds-print_drawn-end : goal.slice_bounds-print_drawn-end
slice_bounds-print_drawn-end c =
    let room : c.args.count * c.picture_size.result ≤ most_steps * text_picture = layers-le c.args.count c.picture_size.result c.requires.count_le_most_steps.0 (size-le c.args.width c.args.height c.picture_size.ensures.0 c.requires.width_le_longest_text_side.0 c.requires.width_le_longest_text_side.1) in
    sym (zeros-long _ (most_steps * text_picture) (room))

pub print_drawn-requires : goal.print_drawn-requires
print_drawn-requires c =
    let room : c.args.count * c.picture_size.result ≤ most_steps * text_picture = layers-le c.args.count c.picture_size.result c.requires.count_le_most_steps.0 (size-le c.args.width c.args.height c.picture_size.ensures.0 c.requires.width_le_longest_text_side.0 c.requires.width_le_longest_text_side.1) in
    let e = ap (λ (k : ℕ). replicate {A = ℕ} (c.args.count * k) 0) c.picture_size.ensures.0 in
    record { width_le_longest_text_side = (c.requires.width_le_longest_text_side.0, c.requires.width_le_longest_text_side.1, c.requires.width_le_longest_text_side.2); workspace_value = (take-zeros _ (most_steps * text_picture) (room) ∙ e, c.requires.count_le_most_steps.1, c.requires.count_le_most_steps.2) }
