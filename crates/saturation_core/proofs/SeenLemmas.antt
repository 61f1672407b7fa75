-- What was seen at goals, what it still tells, and the sums that are made of it.
use Rattle.std.proofs.Common.{◌≡◌, inl, inr, ℕ, zero, suc, ◌+◌, ◌<◌, List, [], ◌∷◌, ◌++◌, length, get_or, take, refl, sym, ap, ◌∙◌, subst, arith}
use Rattle.std.specs.Prelude.{All, None, Option, Some, slice_get}
use Rattle.std.specs.List.{AllByRecursion}
use Rattle.std.proofs.lemmas.Bool.{cases_lt}
use Rattle.std.proofs.lemmas.List.{length-map}
use Rattle.std.proofs.lemmas.List.Elements.{All-from_recursion}
use Rattle.std.proofs.lemmas.Option.{same_Some, slice_get_read}
use Rattle.semiring_laws.specs.Semiring.{Fits, IsSemiring, Operations}
use Rattle.weighted_automata.specs.Entries.{entry_at}
use Rattle.weighted_automata.specs.declared.transitions.Entry.{Entry}
use Rattle.saturation_laws.specs.declared.job.Job.{Job}
use Rattle.saturation_laws.specs.States.{weight_of}
use Rattle.saturation_laws.specs.Openings.{changed_weight}
use Rattle.saturation_laws.specs.Openings.{AreKept}
use Rattle.saturation_core.specs.Goals.{goals_of, CanSum, FitsGoal, StillTells, sums_of}
use Rattle.saturation_core.proofs.ChangeLemmas.{kept_of}

module _ {S W Map : Type 0} (ts : List (Entry S W Map)) (js : List (Job S W Map)) (goals : List (Option (Entry S W Map))) where
  -- the goals before a number still tell
  abbrev pub TellBefore : ℕ → Type 0
  TellBefore i = (k : ℕ) (j : Job S W Map) (seen : Option (Entry S W Map)) → k < i → slice_get js k ≡ Some j → slice_get goals k ≡ Some seen → StillTells ts j.goal seen

  -- one goal more
  pub tell_more : (i : ℕ) → i < length js → length goals ≡ length js → (j : Job S W Map) (seen : Option (Entry S W Map)) → j ≡ get_or js i j → seen ≡ get_or goals i seen
      → StillTells ts j.goal seen → TellBefore i → TellBefore (i + 1)
  tell_more i within long j seen read read' tells before k j' seen' less at at' = elim (cases_lt k i) [
    | inl earlier ↦ before k j' seen' earlier at at'
    | inr past ↦
        let here : k ≡ i = omega (arith, less, past) in
        let at_j : slice_get js i ≡ Some j = slice_get_read js (length js) i j refl within read in
        let at_seen : slice_get goals i ≡ Some seen = slice_get_read goals (length js) i seen (sym long) within read' in
        let same_j : j ≡ j' = same_Some j j' (sym at_j ∙ ap (slice_get js) (sym here) ∙ at) in
        let same_seen : seen ≡ seen' = same_Some seen seen' (sym at_seen ∙ ap (slice_get goals) (sym here) ∙ at') in
        subst (λ (x : Job S W Map). StillTells ts x.goal seen') same_j (subst (StillTells ts j.goal) same_seen tells)
  ]

module _ {S W Map : Type 0} (s : Operations W Map) where
  -- one sum for each worth
  pub sums_long : (goals : List (Option (Entry S W Map))) (ws : List W) → length goals ≡ length ws → length (sums_of s goals ws) ≡ length ws
  sums_long [] ws long = long
  sums_long (g ∷ goals) [] long = absurd (omega (arith, long))
  sums_long (g ∷ goals) (w ∷ ws) long = ap suc (sums_long goals ws (omega (arith, long)))

  -- the sum of a number is that of the goal and the worth of this number
  pub sum_at : (goals : List (Option (Entry S W Map))) (ws : List W) (k : ℕ) (seen : Option (Entry S W Map)) (w : W) (o : Option W)
      → slice_get goals k ≡ Some seen → slice_get ws k ≡ Some w → slice_get (sums_of s goals ws) k ≡ Some o → o ≡ changed_weight s (weight_of s seen) w
  sum_at [] ws k seen w o at at' sum = cc
  sum_at (g ∷ goals) [] k seen w o at at' sum = cc
  sum_at (g ∷ goals) (v ∷ ws) zero seen w o at at' sum =
      sym (same_Some (changed_weight s (weight_of s g) v) o sum)
      ∙ ap (λ h. changed_weight s (weight_of s h) v) (same_Some g seen at) ∙ ap (changed_weight s (weight_of s seen)) (same_Some v w at')
  sum_at (g ∷ goals) (v ∷ ws) (suc k) seen w o at at' sum = sum_at goals ws k seen w o at at' sum

  sums_next : (goals : List (Option (Entry S W Map))) (ws : List W) (i : ℕ) (g : Option (Entry S W Map)) (w : W) → i < length ws → length goals ≡ length ws
      → sums_of s (take (suc i) goals) (take (suc i) ws) ≡ sums_of s (take i goals) (take i ws) ++ changed_weight s (weight_of s (get_or goals i g)) (get_or ws i w) ∷ []
  sums_next [] ws i g w within long = absurd (omega (arith, within, long))
  sums_next (h ∷ goals) [] i g w within long = absurd (omega (arith, within))
  sums_next (h ∷ goals) (v ∷ ws) zero g w within long = refl
  sums_next (h ∷ goals) (v ∷ ws) (suc i) g w within long =
      ap (λ os. changed_weight s (weight_of s h) v ∷ os) (sums_next goals ws i g w (omega (arith, within)) (omega (arith, long)))

  -- one sum more
  pub sums_more : (goals : List (Option (Entry S W Map))) (ws : List W) (i : ℕ) → i < length ws → length goals ≡ length ws → (g : Option (Entry S W Map)) (w : W) (o : Option W) (made new : List (Option W))
      → made ≡ sums_of s (take i goals) (take i ws) → g ≡ get_or goals i g → w ≡ get_or ws i w → o ≡ changed_weight s (weight_of s g) w → new ≡ made ++ o ∷ []
      → new ≡ sums_of s (take (i + 1) goals) (take (i + 1) ws)
  sums_more goals ws i within long g w o made new was read read' sum added =
      let next : suc i ≡ i + 1 = omega arith in
      added
      ∙ ap (λ m. m ++ o ∷ []) was
      ∙ ap (λ p. sums_of s (take i goals) (take i ws) ++ p ∷ []) (sum ∙ ap (λ h. changed_weight s (weight_of s h) w) read ∙ ap (changed_weight s (weight_of s (get_or goals i g))) read')
      ∙ sym (sums_next goals ws i g w within long)
      ∙ ap (λ k. sums_of s (take k goals) (take k ws)) next

module _ {S W Map : Type 0} {s : Operations W Map} (laws : IsSemiring s) (ts : List (Entry S W Map)) (n : ℕ) (kept : AreKept s ts n) where
  goal_fits : (o : Option (Entry S W Map)) → Fits s (weight_of s o) → FitsGoal s o
  goal_fits None fit = tt
  goal_fits (Some t) fit = fit

  goals_fit : (js : List (Job S W Map)) → AllByRecursion (FitsGoal s) (goals_of js ts)
  goals_fit [] = tt
  goals_fit (j ∷ js) = (goal_fits (entry_at j.goal ts) (kept_of laws j.goal ts n kept (entry_at j.goal ts) refl).0, goals_fit js)

  -- what is seen at goals has weights of the semiring
  pub sums_begin : (js : List (Job S W Map)) (goals : List (Option (Entry S W Map))) (ws : List W) → goals ≡ goals_of js ts → All (Fits s) ws → CanSum s js goals ws
  sums_begin js goals ws seen worth = record {
    long = ap length seen ∙ length-map js (λ j. entry_at j.goal ts);
    seen = let P : List (Option (Entry S W Map)) → Type 0 = All (FitsGoal s) in subst P (sym seen) (All-from_recursion (FitsGoal s) (goals_of js ts) (goals_fit js));
    worth = worth;
  }
