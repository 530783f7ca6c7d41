-- A local array of records as its elements, and its elements as room again, so that it can be lent as a slice. From the kit's own array laws; the array's length and the record are parameters.
-- Assumes `Logic`.
use mathlib.Core.Path.{refl}
use Prim.Native.Nat.{ℕ}
use mathlib.Core.List.{List, [], ◌∷◌}
use seplogic.Ra.Ura.{Ura}
use base.Fraction.{full_share}
use mir.Syntax.{Ty, ty_array}
use mir.Val.{Val}
use base.Logic.{ent, sep}
use base.Fml.{fsep, fat}
use types.Logic.{Logic, sem}
use types.Kit.{‵, ◌$◌, ◌∵◌, !, qed, by, move, drop, use1, rewrite, fsplit, fjoin, fpick, fpack}
use types.Share.{arr_parts}
use denote.Memory.{cell_at, part_at, part_of, shares}
use denote.Laws.{Is, shows}
use denote.Array.{Array, array_vals, Array-Tells}
use denote.ArrayMemory.{Array-apart, Array-whole}
use denote.Steps.{only, peeks}
use denote.Struct.Laws as LL
use Rattle.filter.specs.declared.Step.{Step}
use Rattle.filter.specs.Limits.{most_steps}
use Rattle.filter.specs.contracts.Step as T
use Rattle.filter.proofs.Step.TheLaws as T'

abbrev pub arr_ty : Ty
arr_ty = ty_array T'.mir most_steps

abbrev spell : Step → List Val
spell = LL.vals T.the_type T'.the_laws

module _ {M : Type 1} {𝓤 : Ura M} (𝓛 : Logic 𝓤) (l : ℕ) (ys : List Step) where
  open 𝓛 use {H}

  pub array-out : (w : Val) → ent 𝓤 (sep 𝓤 (H.at full_share arr_ty l 0 w) (sem 𝓛 ((Array T.the_row most_steps).own_val ys (w ∷ [])))) (sem 𝓛 ((arr_parts (shares T.the_row) most_steps).part full_share ys l 0))
  unfolding part_of
  array-out w =
      qed 𝓛 (‵ (fat full_share arr_ty l 0 w) ∷ ‵ ((Array T.the_row most_steps).own_val ys (w ∷ [])) ∷ []) ∵ use1 𝓛 (‵ (cell_at full_share (Array T.the_row most_steps).mir (w ∷ []) l 0)) (𝓛.laws.at_raw full_share arr_ty l 0 w) $ fjoin ! $
      fpack ! (List Val) (λ us. fsep (cell_at full_share (Array T.the_row most_steps).mir us l 0) ((Array T.the_row most_steps).own_val ys us)) (w ∷ []) $ by ! (Array-apart 𝓛 T.the_row full_share tt most_steps ys l 0)

  pub array-room : ent 𝓤 (sem 𝓛 ((arr_parts (shares T.the_row) most_steps).part full_share ys l 0)) (H.room arr_ty l 0)
  unfolding part_of
  array-room =
      qed 𝓛 (‵ ((arr_parts (shares T.the_row) most_steps).part full_share ys l 0) ∷ []) ∵ use1 𝓛 (‵ (part_at (Array T.the_row most_steps) full_share ys l 0)) (Array-whole 𝓛 T.the_row full_share most_steps ys l 0) $
      fpick ! (λ vs. fsplit ! $ move ! (1 ∷ []) $ peeks ! (Array T.the_row most_steps) (Is (Array T.the_row most_steps)) (shows 𝓛 (Array T.the_row most_steps)) ys vs (λ is. drop ! $
      rewrite ! 0 (λ (us : List Val). ‵ (cell_at full_share (Array T.the_row most_steps).mir us l 0)) (Array-Tells T.the_row spell (LL.tells T.the_type T'.the_laws) most_steps ys vs is) refl $
      use1 𝓛 (‵ (fat full_share arr_ty l 0 (only (array_vals spell ys)))) (𝓛.laws.raw_at full_share arr_ty l 0 (only (array_vals spell ys))) $ by ! (𝓛.laws.at_room arr_ty l 0 (only (array_vals spell ys)))))
