-- `text::reader::read` meets its contract. The loop keeps that the list holds the steps so far, and behind them what it held. Assumes nothing.
use mathlib.Core.Path.{refl, sym, ap, ◌∙◌}
use mathlib.Core.List.{List}
use Prim.Native.Nat.{ℕ}
use native.Mathlib.Omega.{arith}
use lib.ListN.{set}
use Rattle.filter.specs.declared.Step.{Step}
use Rattle.text.specs.Reading.{line_at, line_after}
use Rattle.text.proofs.Stepped.{read-is, step-inside, line-next, line-none, list-next}
use Rattle.text.proofs.reader.read.Goals as goal

pub loop-n-init : goal.loop-n-init
loop-n-init c = record { at_is = sym (line-none c.args.text.now _); is = refl }

pub step_from-requires : goal.step_from-requires
step_from-requires c =
    let k = read-is _ _ _ (sym c.scan.ensures ∙ c.in_ok-reading.was) in
    (omega (arith, k.1), k.2 (omega arith), c.loop-n.invariant.at_is)

pub offset_bounds-list-n : goal.offset_bounds-list-n
offset_bounds-list-n c =
    let k = read-is _ _ _ (sym c.scan.ensures ∙ c.in_ok-reading.was) in
    record { fits = omega (arith, k.0, c.loop-n.auto.list) }

pub bounds-list-n : goal.bounds-list-n
bounds-list-n c =
    let k = read-is _ _ _ (sym c.scan.ensures ∙ c.in_ok-reading.was) in
    omega (arith, k.0, c.loop-n.auto.list)

pub line_after-at-requires : goal.line_after-at-requires
line_after-at-requires c =
    let t = c.args.text.now in
    let k = read-is _ _ _ (sym c.scan.ensures ∙ c.in_ok-reading.was) in
    step-inside c.args.form t c.loop-n.n _ (omega (arith, k.1)) (c.loop-n.invariant.at_is ∙ ap (λ (i : ℕ). line_at t i c.loop-n.n) (k.2 (omega arith)))

pub loop-n-preserved : goal.loop-n-preserved
loop-n-preserved c =
    let t = c.args.text.now in
    let k = read-is _ _ _ (sym c.scan.ensures ∙ c.in_ok-reading.was) in
    record {
      at_is = c.line_after-at.ensures ∙ ap (line_after t) c.loop-n.invariant.at_is ∙ sym (line-next t c.in_ok-reading.reading.from c.loop-n.n);
      is = ap (λ (z : List Step). set z c.loop-n.n c.step_from.result) c.loop-n.invariant.is ∙ list-next _ _ c.loop-n.n _ (omega (arith, k.1)) (omega (arith, k.0)) c.step_from.ensures;
    }
