-- `tables::content::is_zero` meets its contract: `all` and the definition decide the same. Assumes nothing.
use Rattle.std.proofs.Common.{ℕ, ◌≡◌, ◌≢◌, ◌<◌, Bool, true, false, List, length, get_or, Decides, MatchBool, refl, arith, rules, tests}
use Rattle.std.specs.List.{HoldsAt, AllWithin}
use Rattle.std.proofs.lemmas.Iterator.{cases_from_all, YieldsList-from_slice}
use Rattle.std.proofs.lemmas.Bool.{false≢true}
use Rattle.std.proofs.lemmas.Bool.Decides.{same_from_decides}
use Rattle.tables.specs.Content.{zeros?}
use Rattle.tables.proofs.SumsAndZeros.{zeros-decide}
use Rattle.tables.proofs.content.is_zero.Goals as goal

from-cases : (r : Bool) (xs : List ℕ) → MatchBool r (AllWithin (λ x. x ≡ 0) xs 0 (length xs)) ((k : ℕ) × (k < length xs) × HoldsAt (λ x. x ≢ 0) xs k)
    → Decides r ((k : ℕ) → k < length xs → get_or xs k 0 ≡ 0)
from-cases true xs h = (λ _. λ k l. h k 0 (omega arith) l, λ _. refl)
from-cases false xs h = (λ e. absurd (false≢true e), λ w. absurd (h.2 0 (w h.0 h.1)))

pub returns : goal.returns
returns c =
    let xs = c.args.bytes.now in
    let by_call = cases_from_all _ _ _ (λ x. x ≡ 0) (λ x. x ≢ 0) c.all.ensures.ran (YieldsList-from_slice xs cc) (λ x q k. search (rules, tests)) (λ x q k. search (rules, tests)) in
    same_from_decides _ (zeros? xs (length xs)) (from-cases _ xs by_call) (zeros-decide xs (length xs))
