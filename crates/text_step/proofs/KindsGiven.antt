-- A line's kind with the details that it needs. Assumes nothing.
use mathlib.Core.Path.{◌≡◌, refl, sym}
use mathlib.Core.Bool.{Bool, true, false, cond}
use mathlib.Core.List.{List, []}
use lib.ListN.{get_or}
use Prim.Native.Nat.{ℕ}
use Rattle.std.specs.Prelude.{Option, Some, None, option_and_then}
use Rattle.window.proofs.Truths.{and_no}
use Rattle.filter.specs.declared.Kind.{Kind}
use Rattle.filter.specs.declared.Kind.TheVariants as K
use Rattle.filter.specs.declared.Map.{Map}
use Rattle.pixel.specs.declared.Transfers.{Transfers}
use Rattle.text_field.specs.Words.{bytes}
use Rattle.text_step.specs.Fields.{byte_field}
use Rattle.text_step.specs.Transfers.{transfers_of, transfers_in, words?}
use Rattle.filter.specs.declared.Step.{Step}
use Rattle.filter.specs.Signature.{signature_of}
use Rattle.filter.specs.Checks.{merges?}
use Rattle.text_step.specs.Kinds.{first_kind, kind_of, kind_in, details?}
use Rattle.text_step.specs.StepLine.{step_as, step_of}

pub kind-flood : (fs : List (List ℕ)) {r g b : ℕ} → get_or fs 0 [] ≡ bytes "flood" → byte_field fs 5 ≡ Some r → byte_field fs 6 ≡ Some g → byte_field fs 7 ≡ Some b → Some (K.Flood r g b) ≡ kind_in fs
unfolding kind_of first_kind
kind-flood fs e x y z = rw (e, x, y, z)

pub kind-curve : (fs : List (List ℕ)) {t : Transfers} → get_or fs 0 [] ≡ bytes "curve" → transfers_in fs ≡ Some t → Some (K.Map (Map.Curve t)) ≡ kind_in fs
unfolding kind_of first_kind
kind-curve fs {t} e h = go (words? (transfers_of fs) fs) refl h
  where
    go : (b : Bool) → words? (transfers_of fs) fs ≡ b → cond b (Some (transfers_of fs)) None ≡ Some t → Some (K.Map (Map.Curve t)) ≡ kind_in fs
    go true q r = let z : transfers_of fs ≡ t = cc in rw (e, q, z)
    go false q r = absurd (cc)

pub kind-given : (fs : List (List ℕ)) {k : Kind} → kind_in fs ≡ Some k → (kind_of fs ≡ Some k) × (details? k fs ≡ true)
kind-given fs {k} e = go (kind_of fs) refl e
  where
    some : (j : Kind) (b : Bool) → details? j fs ≡ b → kind_of fs ≡ Some j → cond b (Some j) None ≡ Some k → (kind_of fs ≡ Some k) × (details? k fs ≡ true)
    some j true h q r = let z : j ≡ k = cc in (rw (sym z) q, rw (sym z) h)
    some j false h q r = absurd (cc)

    go : (o : Option Kind) → kind_of fs ≡ o → option_and_then (λ j. cond (details? j fs) (Some j) None) o ≡ Some k → (kind_of fs ≡ Some k) × (details? k fs ≡ true)
    go None q r = absurd (cc)
    go (Some j) q r = some j (details? j fs) refl q r

pub step-unformed : (fs : List (List ℕ)) → kind_in fs ≡ None → None ≡ step_of fs
unfolding step_of step_as
step-unformed fs e = go (kind_of fs) e
  where
    bare : (k : Kind) (b : Bool) → details? k fs ≡ b → cond b (Some k) None ≡ None → None ≡ step_as k fs
    bare k true h q = absurd (cc)
    bare k false h q = rw (h, and_no (signature_of k).tables, and_no (merges? (signature_of k)))

    go : (o : Option Kind) → option_and_then (λ j. cond (details? j fs) (Some j) None) o ≡ None → None ≡ option_and_then (λ k. step_as k fs) o
    go None q = refl
    go (Some k) q = bare k (details? k fs) refl q

pub step-formed : (fs : List (List ℕ)) {k : Kind} {o : Option Step} → kind_in fs ≡ Some k → o ≡ step_as k fs → o ≡ step_of fs
unfolding step_of
step-formed fs e d = let q = (kind-given fs e).0 in rw q d
