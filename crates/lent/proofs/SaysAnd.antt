-- A function with several `ensures` or `requires`: all are shown, where `says` of `Denote/Triple/Walked.antt` shows one. It says nothing of the crate.
use mathlib.Core.List.{List, [], ◌∷◌}
use seplogic.Ra.Ura.{Ura}
use base.Logic.{SProp, ent, sep, emp, via, mono_l, mono_r, emp∗, comm∗}
use types.Logic.{Logic}
use contract.Monad.{fact, fact_i}
use types.Kit.{Item, Step, step, prop}

module _ {M : Type 1} (𝓤 : Ura M) where
  pub and_fact : (Q : SProp 𝓤) {φ : Type 0} → φ → ent 𝓤 Q (sep 𝓤 (fact 𝓤 φ) Q)
  and_fact Q {φ} x = via 𝓤 (sep 𝓤 (emp 𝓤) Q) (emp∗ 𝓤 Q) (mono_l 𝓤 Q (fact_i 𝓤 φ (emp 𝓤) x))

  pub says_two : (P : SProp 𝓤) (φ ψ : Type 0) → φ → ψ → ent 𝓤 P (sep 𝓤 P (sep 𝓤 (fact 𝓤 φ) (fact 𝓤 ψ)))
  says_two P φ ψ x y = via 𝓤 (sep 𝓤 (fact 𝓤 ψ) P) (and_fact P y) (via 𝓤 (sep 𝓤 P (fact 𝓤 ψ)) (comm∗ 𝓤 (fact 𝓤 ψ) P) (mono_r 𝓤 P (and_fact (fact 𝓤 ψ) x)))

  pub says_three : (P : SProp 𝓤) (φ ψ χ : Type 0) → φ → ψ → χ → ent 𝓤 P (sep 𝓤 P (sep 𝓤 (fact 𝓤 φ) (sep 𝓤 (fact 𝓤 ψ) (fact 𝓤 χ))))
  says_three P φ ψ χ x y z = via 𝓤 (sep 𝓤 P (sep 𝓤 (fact 𝓤 ψ) (fact 𝓤 χ))) (says_two P ψ χ y z) (mono_r 𝓤 P (and_fact (sep 𝓤 (fact 𝓤 ψ) (fact 𝓤 χ)) x))

-- all of φ and the others, and both as facts
abbrev pub AllOf : Type 0 → List (Type 0) → Type 0
AllOf φ [] = φ
AllOf φ (ψ ∷ r) = φ × AllOf ψ r

module _ {M : Type 1} (𝓤 : Ura M) where
  abbrev pub facts_of : Type 0 → List (Type 0) → SProp 𝓤
  facts_of φ [] = fact 𝓤 φ
  facts_of φ (ψ ∷ r) = sep 𝓤 (fact 𝓤 φ) (facts_of ψ r)

  with-facts : (P : SProp 𝓤) (φ : Type 0) (r : List (Type 0)) → AllOf φ r → ent 𝓤 P (sep 𝓤 P (facts_of φ r))
  with-facts P φ [] x = via 𝓤 (sep 𝓤 (fact 𝓤 φ) P) (and_fact 𝓤 P x) (comm∗ 𝓤 (fact 𝓤 φ) P)
  with-facts P φ (ψ ∷ r) x = via 𝓤 (sep 𝓤 P (facts_of ψ r)) (with-facts P ψ r x.1) (mono_r 𝓤 P (and_fact 𝓤 (facts_of ψ r) x.0))

pub says_all : {M : Type 1} {𝓤 : Ura M} {𝓛 : Logic 𝓤} {K : Type 0} {Γ : List (Item 𝓤)} → K → {P : SProp 𝓤} (φ : Type 0) (r : List (Type 0)) → AllOf φ r → Step K 𝓛 Γ (prop P) Γ (prop (sep 𝓤 P (facts_of 𝓤 φ r)))
says_all {𝓤 = 𝓤} t {P} φ r x = step (λ s. record { prf = via 𝓤 P s.prf (with-facts 𝓤 P φ r x) })
