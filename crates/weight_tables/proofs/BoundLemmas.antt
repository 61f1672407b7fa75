-- How many turns there can be.
use Rattle.std.proofs.Common.{◌≡◌, ℕ, suc, ◌+◌, ◌-◌, ◌*◌, ◌^◌, ◌≤◌, true, false, List, [], ◌∷◌, length, ap, subst, arith}
use Rattle.std.specs.Prelude.{if◌then◌else◌}
use Rattle.std.specs.List.{AllByRecursion}
use Rattle.std.proofs.Math.Nat.{add-mul, suc-mul}
use Rattle.semiring_laws.specs.Semiring.{Operations, IsSemiring, Fits}
use Rattle.weight_tables.specs.Entries.{TableEntry, IsTable}
use Rattle.weight_tables.specs.Turns.{waiting, ranks_in, turns_left}

module _ {W Map : Type 0} {s : Operations W Map} (laws : IsSemiring s) where
  abbrev most : ℕ
  most = 2 * s.top_rank + 1

  rank_at_most : (w : W) → Fits s w → s.rank w ≤ s.top_rank
  rank_at_most w fw =
      let P : W → Type 0 = λ x. s.rank x ≤ s.rank s.zero in
      let Q : ℕ → Type 0 = λ n. s.rank w ≤ n in
      subst Q laws.rank-zero (subst P (laws.combine_zero w fw) (laws.rank_never_rises s.zero w laws.fits-zero fw))

  one_at_most : (e : TableEntry W) → (if e.waits then 1 else 0) ≤ 1
  one_at_most e = elim e.waits as (λ b. (if b then 1 else 0) ≤ 1) [ true ↦ omega arith | false ↦ omega arith ]

  steps_at_most : (es : List (TableEntry W)) → AllByRecursion (λ e. Fits s e.weight) es → 2 * ranks_in s es + waiting es ≤ length es * most
  steps_at_most [] fits = omega arith
  steps_at_most (e ∷ es) fits =
      let rest = steps_at_most es fits.1 in
      let rank = rank_at_most e.weight fits.0 in
      let one = one_at_most e in
      let more : suc (length es) * most ≡ length es * most + most = suc-mul (length es) most in
      omega (arith, rest, rank, one, more)

  pub turns_bounded : (es : List (TableEntry W)) → IsTable s es → turns_left s es ≤ 2 ^ 32 * (2 * s.top_rank + 1)
  turns_bounded es table =
      let few = table.few in
      let n = length es in
      let all : (2 ^ 32 - length es) + length es ≡ 2 ^ 32 = omega (arith, few) in
      let whole : ((2 ^ 32 - length es) + length es) * most ≡ 2 ^ 32 * most = ap (λ i. i * most) all in
      let parts = add-mul (2 ^ 32 - length es) (length es) most in
      let steps = steps_at_most es table.fits in
      omega (arith, whole, parts, steps)
