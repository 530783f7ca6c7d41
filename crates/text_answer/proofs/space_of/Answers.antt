-- `text_answer::space_of` meets its contract. A text without steps has a list of blank ones. Assumes nothing.
use mathlib.Core.Path.{◌∙◌}
use native.Mathlib.Omega.{arith}
use borrow.Author.Rules.{rules}
use Rattle.text_answer.proofs.LastSpace.{some-steps, some_first, some-space}
use Rattle.text_answer.proofs.space_of.Goals as goal

pub last_space-requires : goal.last_space-requires
last_space-requires c =
    let a = c.args in
    (search rules, omega (arith, some-steps a.text.now a.reading c.requires), some_first a.text.now a.reading c.requires (search rules))

pub returns : goal.returns
returns c = c.last_space.ensures ∙ some-space c.args.text.now c.args.reading c.requires (search rules)
