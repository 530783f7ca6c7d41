-- `kernel_convolve::divisor::Divisor::nearly` meets its contract: one too small at most. Assumes nothing.
use Rattle.std.proofs.Common.{arith}
use Rattle.kernel_convolve.proofs.QuotientByProduct.{product-fits, nearly-low, nearly-high, nearly-byte}
use Rattle.kernel_convolve.proofs.divisor.Divisor.nearly.Goals as goal

pub overflow_mul-result : goal.overflow_mul-result
overflow_mul-result c =
    let d = c.args.self in
    omega (arith, product-fits c.args.z d.size d.inverse d.some d.small d.inverts c.requires)

pub returns : goal.returns
returns c =
    let d = c.args.self in
    let z = c.args.z in (
      nearly-low z d.size d.inverse d.some d.small d.inverts c.requires,
      nearly-high z d.size d.inverse d.some d.small d.inverts c.requires,
      nearly-byte z d.size d.inverse d.some d.small d.inverts c.requires,
    )
