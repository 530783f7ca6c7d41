-- `text_print::lines::put_ok` meets its contract. Assumes nothing.
use native.Mathlib.Omega.{arith}
use Rattle.filter.specs.Bytes.{read}
use Rattle.text_print.specs.Output.{in_srgb}
use Rattle.text_print.proofs.PrintedRows.{ok-put, ok-length}
use Rattle.text_print.proofs.lines.put_ok.Goals as goal

pub put_word-end-requires : goal.put_word-end-requires
put_word-end-requires c = omega (arith, ok-length c.args.w c.args.h (in_srgb c.args.space (read c.args.w c.args.h c.args.layer.now 0)))

pub put_byte-rows-requires : goal.put_byte-rows-requires
put_byte-rows-requires c = omega (arith, ok-length c.args.w c.args.h (in_srgb c.args.space (read c.args.w c.args.h c.args.layer.now 0)))

pub put_rows-requires : goal.put_rows-requires
put_rows-requires c =
    record { layer_len = c.requires.layer_len; layer_in_bounds = omega (arith, ok-length c.args.w c.args.h (in_srgb c.args.space (read c.args.w c.args.h c.args.layer.now 0))) }

pub returns : goal.returns
returns c =
    ok-put _ _ _ c.put_word-end.ensures c.put_byte-rows.ensures c.put_rows.ensures c.requires.layer_in_bounds
