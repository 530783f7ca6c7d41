-- Several fields of one sort, and lists kept in arrays. Assumes nothing.
use Rattle.std.specs.Prelude.{Bool, true, cond, ◌&&◌, Option, Some, None, is_some, unwrap_or, List, [], ◌∷◌, ◌++◌, map, ℕ, ◌+◌, ◌-◌, length, replicate, take, drop}

-- each field is of the form
unfoldable pub all_fields : (List ℕ → Bool) → List (List ℕ) → Bool
all_fields good [] = true
all_fields good (f ∷ fs) = good f && all_fields good fs

-- lists one after another
unfoldable pub flattened : List (List ℕ) → List ℕ
flattened [] = []
flattened (l ∷ ls) = l ++ flattened ls

-- vs in an array of m, z behind them
unfoldable pub padded : {A : Type 0} → ℕ → A → List A → List A
padded m z vs = vs ++ replicate (m - length vs) z

-- what the fields say, in an array of m, where each of them is of the form
unfoldable pub array_of : {A : Type 0} → (List ℕ → Option A) → ℕ → A → List (List ℕ) → Option (List A)
array_of value m z fs = cond (all_fields (λ f. is_some (value f)) fs) (Some (padded m z (map (λ f. unwrap_or (value f) z) fs))) None

-- d with t stored from the index at on
unfoldable pub stored : List ℕ → ℕ → List ℕ → List ℕ
stored d at t = take at d ++ (t ++ drop (at + length t) d)
