-- Each taking of an entry lowers how often entries can be taken still.
use Rattle.std.proofs.Common.{◌≡◌, ◌≢◌, ◌⊎◌, inl, inr, ℕ, zero, suc, ◌<◌, ◌≤◌, ◌+◌, ◌-◌, ◌*◌, ◌^◌, Bool, true, false, List, [], ◌∷◌, length, refl, sym, ap, ap₂, ◌∙◌, subst, arith}
use Rattle.std.specs.Prelude.{Some, slice_get, if◌then◌else◌}
use Rattle.std.specs.List.{AllByRecursion}
use Rattle.std.proofs.Math.Nat.{suc-mul}
use Rattle.std.proofs.lemmas.Bool.{cases_Bool}
use Rattle.semiring_laws.specs.Semiring.{Operations, IsSemiring, Fits}
use Rattle.weighted_automata.specs.declared.place.Place.{Place}
use Rattle.weighted_automata.specs.Places.{same_place}
use Rattle.weight_tables.specs.Entries.{TableEntry, lowered_entry, lowered_in, taken}
use Rattle.weight_tables.specs.Turns.{waiting, ranks_in, turns_left}

module _ {W Map : Type 0} {s : Operations W Map} (laws : IsSemiring s) where
  -- no weight is of a higher rank than zero
  rank_below_top : (w : W) → Fits s w → s.rank w ≤ s.top_rank
  rank_below_top w fw =
      let P : W → Type 0 = λ x. s.rank x ≤ s.rank s.zero in
      let Q : ℕ → Type 0 = λ n. s.rank w ≤ n in
      subst Q laws.rank-zero (subst P (laws.combine_zero w fw) (laws.rank_never_rises s.zero w laws.fits-zero fw))

  -- an entry that was lowered stands where it stood, or one was added
  record IsFewer (es es' : List (TableEntry W)) (more : ℕ) : Type 0 where
    count : length es' ≡ more + length es
    sums : 2 * ranks_in s es' + waiting es' ≤ 2 * ranks_in s es + waiting es + more * (2 * s.top_rank + 1)

  entry_fewer : (w : W) (e : TableEntry W) → Fits s e.weight → Fits s w → (rest : List (TableEntry W)) → IsFewer (e ∷ rest) (lowered_entry s w e ∷ rest) 0
  entry_fewer w e fe fw rest = elim (cases_Bool (s.same (s.combine e.weight w) e.weight)) [
    | inl same ↦ let P : Bool → Type 0 = λ b. IsFewer (e ∷ rest) ((if b then e else record { place = e.place; weight = s.combine e.weight w; waits = true }) ∷ rest) 0 in
        subst P (sym same) (record { count = omega arith; sums = omega arith })
    | inr differs ↦ let P : Bool → Type 0 = λ b. IsFewer (e ∷ rest) ((if b then e else record { place = e.place; weight = s.combine e.weight w; waits = true }) ∷ rest) 0 in
        let falls = laws.rank_falls e.weight w fe fw (λ is. let test = (laws.same_is_equal (s.combine e.weight w) e.weight (laws.fits-combine e.weight w fe fw) fe).1 is in let both : true ≡ false = sym test ∙ differs in cc) in
        subst P (sym differs) (record { count = omega arith; sums = omega (arith, falls) })
  ]

  push_fewer : (e : TableEntry W) (es es' : List (TableEntry W)) (more : ℕ) → IsFewer es es' more → IsFewer (e ∷ es) (e ∷ es') more
  push_fewer e es es' more less = record { count = let n = less.count in omega (arith, n); sums = let m = less.sums in omega (arith, m) }

  lowered_steps : (x : Place) (w : W) (es : List (TableEntry W)) → AllByRecursion (λ e. Fits s e.weight) es → Fits s w → IsFewer es (lowered_in s x w es) 0 ⊎ IsFewer es (lowered_in s x w es) 1
  lowered_steps x w [] fits fw = elim (s.same w s.zero) as (λ b. IsFewer [] (if b then [] else record { place = x; weight = w; waits = true } ∷ []) 0 ⊎ IsFewer [] (if b then [] else record { place = x; weight = w; waits = true } ∷ []) 1) [
    | true ↦ inl (record { count = omega arith; sums = omega arith })
    | false ↦ inr (record { count = omega arith; sums = let low = rank_below_top w fw in omega (arith, low) })
  ]
  lowered_steps x w (e ∷ es) fits fw = elim (same_place e.place x) as (λ b. IsFewer (e ∷ es) (if b then lowered_entry s w e ∷ es else e ∷ lowered_in s x w es) 0 ⊎ IsFewer (e ∷ es) (if b then lowered_entry s w e ∷ es else e ∷ lowered_in s x w es) 1) [
    | true ↦ inl (entry_fewer w e fits.0 fw es)
    | false ↦ elim (lowered_steps x w es fits.1 fw) [
      | inl none ↦ inl (push_fewer e es (lowered_in s x w es) 0 none)
      | inr one ↦ inr (push_fewer e es (lowered_in s x w es) 1 one)
    ]
  ]

  -- a place fewer is free, or none
  free_less : (n m k : ℕ) → m ≡ suc n → m ≤ 2 ^ 32 → (2 ^ 32 - m) * k + k ≡ (2 ^ 32 - n) * k
  free_less n m k is low =
      let e : 2 ^ 32 - n ≡ suc (2 ^ 32 - m) = omega (arith, is, low) in
      sym (ap (λ i. i * k) e ∙ suc-mul (2 ^ 32 - m) k)

  pub lowered_turns : (x : Place) (w : W) (es : List (TableEntry W)) → AllByRecursion (λ e. Fits s e.weight) es → Fits s w → length (lowered_in s x w es) ≤ 2 ^ 32 → turns_left s (lowered_in s x w es) ≤ turns_left s es
  lowered_turns x w es fits fw few = elim (lowered_steps x w es fits fw) [
    | inl none ↦
        let sums = none.sums in
        let same : length (lowered_in s x w es) ≡ length es = let n = none.count in omega (arith, n) in
        let e : (2 ^ 32 - length (lowered_in s x w es)) * (2 * s.top_rank + 1) ≡ (2 ^ 32 - length es) * (2 * s.top_rank + 1) = ap (λ n. (2 ^ 32 - n) * (2 * s.top_rank + 1)) same in
        omega (arith, sums, e)
    | inr one ↦
        let sums = one.sums in
        let more : length (lowered_in s x w es) ≡ suc (length es) = let n = one.count in omega (arith, n) in
        let e = free_less (length es) (length (lowered_in s x w es)) (2 * s.top_rank + 1) more few in
        omega (arith, sums, e)
  ]

  taken_steps : (t : ℕ) (es : List (TableEntry W)) (e : TableEntry W) → slice_get es t ≡ Some e → e.waits ≡ true → (length (taken t es) ≡ length es) × (ranks_in s (taken t es) ≡ ranks_in s es) × (waiting es ≡ suc (waiting (taken t es)))
  taken_steps t [] e there is = cc
  taken_steps zero (d ∷ es) e there is =
      let yes : d.waits ≡ true = cc in
      let n : ℕ = if d.waits then 1 else 0 in
      let one : n ≡ 1 = ap (λ (b : Bool). let m : ℕ = if b then 1 else 0 in m) yes in
      (refl, refl, omega (arith, one))
  taken_steps (suc t) (d ∷ es) e there is =
      let rest = taken_steps t es e there is in
      let n : ℕ = if d.waits then 1 else 0 in
      let m = rest.2 in
      (ap suc rest.0, ap (λ r. s.rank d.weight + r) rest.1, ap (λ w. n + w) m ∙ omega arith)

  pub taken_turns : (t : ℕ) (es : List (TableEntry W)) (e : TableEntry W) → slice_get es t ≡ Some e → e.waits ≡ true → turns_left s (taken t es) < turns_left s es
  taken_turns t es e there is =
      let steps = taken_steps t es e there is in
      let n : (2 ^ 32 - length (taken t es)) * (2 * s.top_rank + 1) ≡ (2 ^ 32 - length es) * (2 * s.top_rank + 1) = ap (λ n. (2 ^ 32 - n) * (2 * s.top_rank + 1)) steps.0 in
      let r = steps.1 in let m = steps.2 in
      omega (arith, n, r, m)
