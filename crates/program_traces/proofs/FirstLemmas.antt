-- The first of some runs whose value is not the empty relation.
use Rattle.std.proofs.Common.{◌≡◌, ℕ, zero, suc, ◌+◌, ◌<◌, ◌≤◌, Bool, true, false, List, [], ◌∷◌, ◌++◌, length, refl, sym, ap, ◌∙◌, subst, append_assoc, inl, inr, ◌⊎◌, arith}
use Rattle.std.specs.Prelude.{Some, slice_get}
use Rattle.std.proofs.lemmas.Option.{same_Some}
use Rattle.std.proofs.lemmas.List.Sums.{sum_by-cons, sum_by-append}
use Rattle.pushdown_rules.specs.Pushdown.{Pushdown}
use Rattle.pushdown_rules.specs.InSystem.{value_in, zero_in}
use Rattle.relation_laws.specs.Building.{Parts, same_parts}
use Rattle.relation_laws.proofs.CallerLemmas.{parts_equal}
use Rattle.relation_weights.specs.declared.rel_map.RelMap.{RelMap}
use Rattle.relation_weights.specs.Relations.{relation_operations}
use Rattle.boolean_programs.specs.Lists.{Each}
use Rattle.boolean_programs.specs.Programs.{Program}
use Rattle.report_text.specs.Expansions.{size_of}
use Rattle.program_traces.specs.Firsts.{IsInfeasible, IsFirst, HasFeasible, IsFirstTrace, FireFromEntry}
use Rattle.program_traces.specs.Traces.{FiresFromEntry, IsRunTrace}
use Rattle.program_traces.specs.declared.first.FirstTrace.TheVariants.{Trace, TooLong}
use Rattle.boolean_meaning.specs.declared.state.State.{State}
use Rattle.program_laws.proofs.CallerLemmas.{each_more, each_joined}
use Rattle.program_traces.specs.private.Progress.{IsSoFar}

size_one : (run : List ℕ) (runs : List (List ℕ)) → size_of (run ∷ runs) ≡ (length run + 1) + size_of runs
size_one run runs = sum_by-cons (λ (r : List ℕ). length r + 1) run runs

size_both : (a b : List (List ℕ)) → size_of (a ++ b) ≡ size_of a + size_of b
size_both a b = sum_by-append (λ (r : List ℕ). length r + 1) a b

-- the element between two lists
middle : {X : Type 0} (xs ys : List X) (x : X) → slice_get (xs ++ x ∷ ys) (length xs) ≡ Some x
middle [] ys x = refl
middle (z ∷ xs) ys x = middle xs ys x

module _ (system : Pushdown ℕ Parts RelMap) where
  abbrev None_feasible : List (List ℕ) → Type 0
  None_feasible runs = Each (IsInfeasible system) runs

  -- whether a run is feasible
  decide : (run : List ℕ) → IsInfeasible system run ⊎ (IsInfeasible system run → ⊥)
  decide run = by_test (same_parts (value_in relation_operations system run) (zero_in relation_operations system)) refl
    where
      by_test : (b : Bool) → same_parts (value_in relation_operations system run) (zero_in relation_operations system) ≡ b → IsInfeasible system run ⊎ (IsInfeasible system run → ⊥)
      by_test true e = inl ((parts_equal (value_in relation_operations system run) (zero_in relation_operations system)).0 e)
      by_test false e = inr (λ is. let f : false ≡ true = sym e ∙ (parts_equal (value_in relation_operations system run) (zero_in relation_operations system)).1 is in cc)

  abbrev Found : List (List ℕ) → Type 0
  Found runs = (before : List (List ℕ)) × (run : List ℕ) × (after : List (List ℕ)) × (runs ≡ before ++ run ∷ after) × None_feasible before × (IsInfeasible system run → ⊥)

  -- the first of a list, if any is feasible
  find : (runs : List (List ℕ)) → Found runs ⊎ None_feasible runs
  find [] = inr (λ k x at. cc)
  find (run ∷ runs) = by_run (decide run) (find runs)
    where
      by_run : IsInfeasible system run ⊎ (IsInfeasible system run → ⊥) → Found runs ⊎ None_feasible runs → Found (run ∷ runs) ⊎ None_feasible (run ∷ runs)
      by_run (inr feasible) more = inl ([], run, runs, refl, λ k x at. cc, feasible)
      by_run (inl none) (inl found) = inl (
        run ∷ found.0,
        found.1,
        found.2,
        ap (λ l. run ∷ l) found.3,
        each_first found.0 found.4,
        found.5,
      )
        where
          each_first : (rs : List (List ℕ)) → None_feasible rs → None_feasible (run ∷ rs)
          each_first rs all zero x at = subst (IsInfeasible system) (same_Some run x at) none
          each_first rs all (suc k) x at = all k x at
      by_run (inl none) (inr all) = inr each
        where
          each : None_feasible (run ∷ runs)
          each zero x at = subst (IsInfeasible system) (same_Some run x at) none
          each (suc k) x at = all k x at

  module _ (p : Program) (limit : ℕ) (runs : List (List ℕ)) (feasible : HasFeasible system runs) (room : ℕ) (left : List (List ℕ)) (so_far : IsSoFar system limit runs room left) where
    -- one of those that are left is feasible
    found_left : Found left
    found_left = by_find (find left)
      where
        by_find : Found left ⊎ None_feasible left → Found left
        by_find (inl found) = found
        by_find (inr none) = absurd (feasible.4 (each_joined (IsInfeasible system) so_far.taken left so_far.infeasible none (length feasible.0) feasible.1 (ap (λ l. slice_get l (length feasible.0)) (sym so_far.joins ∙ feasible.3) ∙ middle feasible.0 feasible.2 feasible.1)))

    first_of_all : IsFirst system runs (so_far.taken ++ found_left.0) found_left.1
    first_of_all = record {
      after = found_left.2;
      joins = so_far.joins ∙ ap (λ l. so_far.taken ++ l) found_left.3 ∙ sym (append_assoc so_far.taken found_left.0 (found_left.1 ∷ found_left.2));
      infeasible = each_joined (IsInfeasible system) so_far.taken found_left.0 so_far.infeasible found_left.4;
      feasible = found_left.5;
    }

    -- up to it there are at least those that are taken and what is there
    size_least : size_of so_far.taken < size_of ((so_far.taken ++ found_left.0) ++ found_left.1 ∷ [])
    size_least =
        omega (arith, size_both (so_far.taken ++ found_left.0) (found_left.1 ∷ []), size_both so_far.taken found_left.0, size_one found_left.1 [])

    pub some_left : left ≡ [] → ⊥
    some_left e = by_before found_left.0 (sym found_left.3 ∙ e)
      where
        by_before : (before : List (List ℕ)) → before ++ found_left.1 ∷ found_left.2 ≡ [] → ⊥
        by_before [] f = cc
        by_before (x ∷ xs) f = cc

    pub no_room : room ≡ 0 → IsFirstTrace p system limit runs TooLong
    no_room none = record { before = so_far.taken ++ found_left.0; run = found_left.1; first = first_of_all; shown = let h = size_least in let s = so_far.size in omega arith }

    pub too_long : (run : List ℕ) (more : List (List ℕ)) → left ≡ run ∷ more → room < length run + 1 → IsFirstTrace p system limit runs TooLong
    too_long run more e long = record { before = so_far.taken ++ found_left.0; run = found_left.1; first = first_of_all; shown = over found_left.0 (sym e ∙ found_left.3) }
      where
        over : (before : List (List ℕ)) → run ∷ more ≡ before ++ found_left.1 ∷ found_left.2 → limit < size_of ((so_far.taken ++ before) ++ found_left.1 ∷ [])
        over [] f =
            let same : length run ≡ length found_left.1 = ap length (let g : run ≡ found_left.1 = cc in g) in
            let s = so_far.size in
            omega (arith, size_both (so_far.taken ++ []) (found_left.1 ∷ []), size_both so_far.taken [], size_one found_left.1 [])
        over (x ∷ xs) f =
            let same : length run ≡ length x = ap length (let g : run ≡ x = cc in g) in
            let s = so_far.size in
            omega (arith, size_both (so_far.taken ++ x ∷ xs) (found_left.1 ∷ []), size_both so_far.taken (x ∷ xs), size_one found_left.1 [], size_one x xs)

    module _ (run : List ℕ) (more : List (List ℕ)) (e : left ≡ run ∷ more) (fits : length run + 1 ≤ room) where
      whole : runs ≡ so_far.taken ++ run ∷ more
      whole = so_far.joins ∙ ap (λ l. so_far.taken ++ l) e

      pub fires : FireFromEntry p system runs → FiresFromEntry p system run
      fires all = all (length so_far.taken) run (ap (λ l. slice_get l (length so_far.taken)) whole ∙ middle so_far.taken more run)

      pub shows : (states : List State) → (IsInfeasible system run → ⊥) → IsRunTrace p system run states → IsFirstTrace p system limit runs (Trace states)
      shows states is trace = record {
        before = so_far.taken;
        run = run;
        first = record { after = more; joins = whole; infeasible = so_far.infeasible; feasible = is };
        shown = (let s = so_far.size in omega (arith, size_both so_far.taken (run ∷ []), size_one run []), trace);
      }

      pub goes_on : IsInfeasible system run → (left_room : ℕ) → left_room + (length run + 1) ≡ room → IsSoFar system limit runs left_room more
      goes_on none left_room lost = record {
        taken = so_far.taken ++ run ∷ [];
        joins = whole ∙ sym (append_assoc so_far.taken (run ∷ []) more);
        infeasible = each_more (IsInfeasible system) so_far.taken run so_far.infeasible none;
        size = let s = so_far.size in omega (arith, size_both so_far.taken (run ∷ []), size_one run []);
      }
