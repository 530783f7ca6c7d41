-- `window::spread_of` meets its contract, odd and even. Assumes nothing.
use Rattle.window.specs.Window.{spread}
use borrow.Author.Tests.{eq-eqb, ne_eqb}
use native.Mathlib.Omega.{arith}
use Rattle.window.proofs.spread_of.Goals as goal

pub returns-then-d-eq1 : goal.returns-then-d-eq1
unfolding spread
returns-then-d-eq1 c = (rw (eq-eqb _ _ c.if-d-eq1.true), omega arith)

pub returns : goal.returns
unfolding spread
returns c = (rw (ne_eqb _ _ c.if-d-eq1.false) c.saturating_sub.ensures, omega arith)
