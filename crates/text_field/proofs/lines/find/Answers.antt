-- `text_field::lines::find` meets its contract: with no d the end is the length of what is left. Assumes nothing.
use Rattle.std.proofs.Common.{arith, length-drop, drop}
use Rattle.std.proofs.lemmas.Bool.Decides.{nat_tests}
use Rattle.std.proofs.lemmas.List.{take_rest}
use Rattle.text_field.proofs.SplitByIndex.{index-le}
use Rattle.text_field.proofs.lines.find.Goals as goal

pub returns-in-None : goal.returns-in-None
returns-in-None c =
    let l = index-le c.args.d (drop c.args.at c.args.s.now) in
    let n = length-drop c.args.at c.args.s.now in
    grind (arith, nat_tests, take_rest c.args.s.now c.args.at)
