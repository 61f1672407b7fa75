use Rattle.std.proofs.Common.{◌≡◌, ◌⊎◌, inl, inr, Bool, true}
use Rattle.std.specs.Prelude.{IsTrue}
use Rattle.std.proofs.lemmas.Bool.{cases_Bool}
use Rattle.forward_value_laws.specs.Settling.{IsCalm, IsAmong}
use Rattle.forward_value_laws.proofs.SettleLemmas.{lowers_settled, taken_settled, calm_closed}
use Rattle.forward_value_laws.proofs.laws.search_steps_keep.Goals as goal

true_or : (b : Bool) → IsTrue b ⊎ (IsTrue b → ⊥)
true_or b = elim (cases_Bool b) [
  | inl is ↦ inl is
  | inr other ↦ inr (λ is. let e : b ≡ true = is in cc)
]

pub returns-clause-lowering : goal.returns-clause-lowering
returns-clause-lowering g c = λ p start edges weight weight' waits waits' valid lowers is.
    lowers_settled valid (g.S.Semiring.laws p.semiring) start edges weight (IsCalm waits) weight' (IsCalm waits') is.fits lowers is

pub returns-clause-taking : goal.returns-clause-taking
returns-clause-taking g c = λ p start edges weight waits taken w valid still is given.
    taken_settled valid (g.S.Semiring.laws p.semiring) start edges weight (IsCalm waits) (IsAmong taken) (λ row from. true_or (taken row from)) w still is given

pub returns-clause-done : goal.returns-clause-done
returns-clause-done g c = λ p start edges weight waits valid all is. calm_closed valid (g.S.Semiring.laws p.semiring) start edges weight (IsCalm waits) all is
