-- `tables::field::hex` meets its contract: each turn takes one digit more. Assumes nothing.
use Rattle.std.proofs.Common.{ℕ, ◌≡◌, ◌+◌, ◌-◌, ◌<◌, refl, ap, ◌∙◌, arith, drop}
use Rattle.tables.specs.Hex.{hex_of}
use Rattle.tables.proofs.HexDigits.{digits-ahead, hex-more, hex-room}
use lib.ListN.{length-take, length-drop}
use Rattle.tables.proofs.field.hex.Goals as goal

-- before one of at most sixteen digits the value has room for it
room : (c : goal.In-loop-x) → c.loop-x.value < 1152921504606846976
room c =
    let a = c.args in
    let few : c.loop-x.x-index < a.count = digits-ahead a.line.now a.at a.count c.loop-x.x-index c.requires.0 c.loop-x-test.true in
    rw c.loop-x.invariant (hex-room a.line.now a.at c.loop-x.x-index (omega arith))

pub loop-x-init : goal.loop-x-init
unfolding hex_of
loop-x-init c = refl

pub overflow_mul-value : goal.overflow_mul-value
overflow_mul-value c = omega (arith, room c)

pub overflow_add-value : goal.overflow_add-value
overflow_add-value c =
    let a = c.args in
    let few : c.loop-x.x-index < a.count = digits-ahead a.line.now a.at a.count c.loop-x.x-index c.requires.0 c.loop-x-test.true in
    let below : c.loop-x.value < 1152921504606846976 = rw c.loop-x.invariant (hex-room a.line.now a.at c.loop-x.x-index (omega arith)) in
    omega (arith, below, c.digit.ensures.1)

pub loop-x-preserved : goal.loop-x-preserved
loop-x-preserved c =
    let a = c.args in
    let i : ℕ = c.loop-x.x-index in
    let few : i < a.count = digits-ahead a.line.now a.at a.count i c.requires.0 c.loop-x-test.true in
    hex-more a.line.now a.at a.count i c.loop-x.value c.digit.result few c.loop-x.invariant c.digit.ensures.0

pub returns : goal.returns
returns c =
    let a = c.args in
    let e : c.loop-x.x-index ≡ a.count = omega (arith, length-take (a.at + a.count - a.at) (drop a.at a.line.now), length-drop a.at a.line.now) in
    c.loop-x.invariant ∙ ap (hex_of a.line.now a.at) e
