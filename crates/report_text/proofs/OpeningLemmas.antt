-- Runs that are begun.
use Rattle.std.proofs.Common.{◌≡◌, ℕ, zero, suc, ◌+◌, ◌*◌, ◌<◌, ◌≤◌, List, [], ◌∷◌, ◌++◌, map, fold, refl, sym, ap, subst, ◌∙◌, append-nil, append_assoc, arith}
use Rattle.std.specs.Prelude.{Option, None, Some, option_to_list, IfSome, OnOk, Result, Ok, Err, nat_lt, Bool, true, false}
use Rattle.std.proofs.Math.Nat.{mul_assoc, mul-le-mul_left, mul-le-mul_right, mul-le-mul, mul-pos, add-mul, one-mul}
use Rattle.std.proofs.lemmas.Bool.{ltb-true, ltb-false}
use Rattle.std.proofs.lemmas.List.{map-append}
use Rattle.std.proofs.lemmas.List.Sums.{fold_push}
use Rattle.std.proofs.lemmas.List.Elements.{All-push}
use Rattle.witness_graph.specs.Runs.{concatenations, earlier_runs, part_runs}
use Rattle.report_text.specs.declared.beginning.Part.{Part}
use Rattle.report_text.specs.declared.beginning.Part.TheVariants.{Rule, Node}
use Rattle.report_text.specs.declared.beginning.Beginning.{Beginning}
use Rattle.report_text.specs.private.Opening.{runs_by, rest_runs, runs_behind, begun_runs, stack_runs, node_steps, steps_by, part_steps, parts_steps, earlier_steps, steps, stack_steps, IsWithin, AreWithin, IsStack, IsPut, IsEarlier, IsOpened}
use Rattle.report_text.proofs.ConcatenationLemmas.{empty_first, either_first, concatenations_assoc}

-- ---- steps

pub node_steps_some : (k : ℕ) → 3 ≤ node_steps k
unfolding node_steps
node_steps_some zero = omega arith
node_steps_some (suc k) = omega (arith, node_steps_some k)

node_steps_more : (k : ℕ) → node_steps k ≤ node_steps (suc k)
unfolding node_steps
node_steps_more k = omega arith

node_steps_rise : (j k : ℕ) → j ≤ k → node_steps j ≤ node_steps k
node_steps_rise j zero h = ap_le (omega arith)
  where
    ap_le : j ≡ zero → node_steps j ≤ node_steps zero
    ap_le e = subst (λ i. node_steps i ≤ node_steps zero) (sym e) (omega arith)
node_steps_rise j (suc k) h = go (λ (l : j ≤ k). node_steps_rise j k l) (nat_lt j (suc k)) refl
  where
    go : (j ≤ k → node_steps j ≤ node_steps k) → (b : Bool) → nat_lt j (suc k) ≡ b → node_steps j ≤ node_steps (suc k)
    go before true e = omega (arith, before (let l = ltb-true j (suc k) e in omega arith), node_steps_more k)
    go before false e = subst (λ i. node_steps j ≤ node_steps i) (let l = ltb-false j (suc k) e in let same : j ≡ suc k = omega arith in same) (omega arith)

pub steps_push : (parts : List Part) (p : Part) → steps (parts ++ p ∷ []) ≡ steps_by p * steps parts
steps_push parts p = fold_push (λ after part. steps_by part * after) 1 parts p

steps_by_some : (p : Part) → 0 < steps_by p
steps_by_some (Rule r) = omega arith
steps_by_some (Node k) = omega (arith, node_steps_some k)

steps_from : (after : ℕ) (parts : List Part) → 0 < after → 0 < fold (λ after part. steps_by part * after) after parts
steps_from after [] h = h
steps_from after (p ∷ ps) h = steps_from (steps_by p * after) ps (mul-pos (steps_by_some p) h)

pub steps_some : (parts : List Part) → 0 < steps parts
steps_some parts = steps_from 1 parts (omega arith)

part_below : (o : Option ℕ) (k : ℕ) → IfSome o (λ j. j < suc k) → part_steps o ≤ node_steps k
part_below None k h = omega (arith, node_steps_some k)
part_below (Some j) k h = node_steps_rise j k (omega arith)

earlier_below : (o : Option ℕ) (k : ℕ) → IfSome o (λ j. j < suc k) → earlier_steps o ≤ node_steps k
earlier_below None k h = omega arith
earlier_below (Some j) k h = node_steps_rise j k (omega arith)

none_below : (o : Option ℕ) → IfSome o (λ j. j < 0) → o ≡ None
none_below None h = refl
none_below (Some j) h = absurd (omega arith)

-- what a node opens takes fewer steps than the node
pub opens_fewer : (k : ℕ) (before first second : Option ℕ) → IfSome before (λ j. j < k) → IfSome first (λ j. j < k) → IfSome second (λ j. j < k)
    → earlier_steps before + parts_steps first second + 1 ≤ node_steps k
unfolding node_steps
opens_fewer zero before first second b f s =
    let e = ap earlier_steps (none_below before b) in
    let p = ap part_steps (none_below first f) in
    let q = ap part_steps (none_below second s) in
    let t : parts_steps first second ≡ 1 * (1 * 2) = ap (λ i. i * (part_steps second * 2)) p ∙ ap (λ i. 1 * (i * 2)) q in
    omega arith
opens_fewer (suc k) before first second b f s =
    omega (arith, earlier_below before k b, mul-le-mul (part_below first k f) (mul-le-mul_right 2 (part_below second k s)))

-- ---- one part more

pub rest_push : (known : ℕ → List (List ℕ)) (parts : List Part) (p : Part) → rest_runs known (parts ++ p ∷ []) ≡ concatenations (runs_by known p) (rest_runs known parts)
rest_push known parts p = fold_push (λ rest part. concatenations (runs_by known part) rest) ([] ∷ []) parts p

module _ (n : ℕ) (known : ℕ → List (List ℕ)) where
  pub put_one : (p : Part) (old new : List Part) → IsWithin n p → new ≡ old ++ p ∷ [] → IsPut n known (runs_by known p) (steps_by p) old new
  put_one p old new within e = record {
    runs = ap (rest_runs known) e ∙ rest_push known old p;
    fewer = omega (arith, ap steps e, steps_push old p);
    within = λ all. subst (AreWithin n) (sym e) (All-push (IsWithin n) old p all within);
  }

  pub put_nothing : (runs : List (List ℕ)) (times : ℕ) (old new : List Part) → runs ≡ [] ∷ [] → 0 < times → new ≡ old → IsPut n known runs times old new
  put_nothing runs times old new empty some e = record {
    runs = ap (rest_runs known) e ∙ sym (ap (λ l. concatenations l (rest_runs known old)) empty ∙ empty_first (rest_runs known old));
    fewer = omega (arith, ap steps e, one-mul (steps old), mul-le-mul_right (steps old) some);
    within = λ all. subst (AreWithin n) (sym e) all;
  }

  -- one put after another
  pub put_both : (xs ys : List (List ℕ)) (a b : ℕ) (old mid new : List Part) → IsPut n known ys b old mid → IsPut n known xs a mid new → IsPut n known (concatenations xs ys) (a * b) old new
  put_both xs ys a b old mid new p q = record {
    runs = q.runs ∙ ap (concatenations xs) p.runs ∙ sym (concatenations_assoc xs ys (rest_runs known old));
    fewer = omega (arith, q.fewer, mul-le-mul_left a p.fewer, mul_assoc a b (steps old));
    within = λ all. q.within (p.within all);
  }

  pub put_times : (xs : List (List ℕ)) (a b : ℕ) (old new : List Part) → a ≡ b → IsPut n known xs a old new → IsPut n known xs b old new
  put_times xs a b old new e h = subst (λ i. IsPut n known xs i old new) e h

  -- ---- stacks

  pub stack_push : (stack : List Beginning) (b : Beginning) → stack_runs known (stack ++ b ∷ []) ≡ begun_runs known b ++ stack_runs known stack
  stack_push stack b = fold_push (λ later b. begun_runs known b ++ later) [] stack b

pub stack_steps_push : (stack : List Beginning) (b : Beginning) → stack_steps (stack ++ b ∷ []) ≡ steps b.parts.items + stack_steps stack
stack_steps_push stack b = fold_push (λ later b. steps b.parts.items + later) 0 stack b

stack_more : (known : ℕ → List (List ℕ)) (stack : List Beginning) (o : Option Beginning) → stack_runs known (stack ++ option_to_list o) ≡ stack_runs known (option_to_list o) ++ stack_runs known stack
stack_more known stack None = ap (stack_runs known) (append-nil stack)
stack_more known stack (Some b) = stack_push 0 known stack b ∙ ap (λ l. l ++ stack_runs known stack) (sym (append-nil (begun_runs known b)))

stack_steps_more : (stack : List Beginning) (o : Option Beginning) → stack_steps (stack ++ option_to_list o) ≡ stack_steps (option_to_list o) + stack_steps stack
stack_steps_more stack None = omega (arith, ap stack_steps (append-nil stack))
stack_steps_more stack (Some b) = omega (arith, stack_steps_push stack b)

within_more : (n : ℕ) (stack : List Beginning) (o : Option Beginning) → IsStack n stack → IsStack n (option_to_list o) → IsStack n (stack ++ option_to_list o)
within_more n stack None all more = subst (IsStack n) (sym (append-nil stack)) all
within_more n stack (Some b) all more = All-push (λ x. AreWithin n x.parts.items) stack b all (more 0 b (omega arith))

-- ---- what a node opens

module _ (n : ℕ) (known : ℕ → List (List ℕ)) where
  behind_either : (rules : List ℕ) (xs ys : List (List ℕ)) (parts : List Part) → runs_behind known rules (xs ++ ys) parts ≡ runs_behind known rules xs parts ++ runs_behind known rules ys parts
  behind_either rules xs ys parts =
      ap (map (λ rest. rules ++ rest)) (either_first xs ys (rest_runs known parts))
      ∙ map-append (λ rest. rules ++ rest) (concatenations xs (rest_runs known parts)) (concatenations ys (rest_runs known parts))

  -- the runs of what has parts put before those that it had
  put_runs : (xs : List (List ℕ)) (times : ℕ) (b e : Beginning) → e.rules.items ≡ b.rules.items → IsPut n known xs times b.parts.items e.parts.items
      → begun_runs known e ≡ runs_behind known b.rules.items xs b.parts.items
  put_runs xs times b e same put =
      ap (λ rules. map (λ rest. rules ++ rest) (rest_runs known e.parts.items)) same ∙ ap (map (λ rest. b.rules.items ++ rest)) put.runs

  pub earlier_is : (before : Option ℕ) (k : ℕ) (b e : Beginning) → before ≡ Some k → AreWithin n b.parts.items → e.rules.items ≡ b.rules.items
      → IsPut n known (part_runs known before) (part_steps before) b.parts.items e.parts.items → IsEarlier n known before b (Some e)
  earlier_is None k b e is within same put = cc
  earlier_is (Some j) k b e is within same put = record {
    runs = append-nil (begun_runs known e) ∙ put_runs (known j) (node_steps j) b e same put;
    fewer = omega (arith, put.fewer);
    within = All-push (λ x. AreWithin n x.parts.items) [] e (λ i d h. absurd (omega arith)) (put.within within);
  }

  pub opened_empty : (k : ℕ) (old new : List Beginning) (b : Beginning) → known k ≡ [] ∷ [] → AreWithin n b.parts.items → new ≡ old ++ b ∷ []
      → IsOpened n known (runs_behind known b.rules.items (known k) b.parts.items) (node_steps k * steps b.parts.items) old new
  opened_empty k old new b empty within e = record {
    runs = ap (stack_runs known) e ∙ stack_push n known old b
        ∙ ap (λ l. map (λ rest. b.rules.items ++ rest) l ++ stack_runs known old)
        (sym (ap (λ l. concatenations l (rest_runs known b.parts.items)) empty ∙ empty_first (rest_runs known b.parts.items)));
    fewer = omega (arith, ap stack_steps e, stack_steps_push old b, mul-le-mul_right (steps b.parts.items) (node_steps_some k), steps_some b.parts.items);
    within = λ all. subst (IsStack n) (sym e) (All-push (λ x. AreWithin n x.parts.items) old b all within);
  }

  module _ (k : ℕ) (before first second : Option ℕ) (xs : List (List ℕ)) (old new : List Beginning) (b parts : Beginning) (earlier : Option Beginning)
      (is : known k ≡ earlier_runs known before ++ xs) (fewer : earlier_steps before + parts_steps first second + 1 ≤ node_steps k)
      (same : parts.rules.items ≡ b.rules.items) (put : IsPut n known xs (parts_steps first second) b.parts.items parts.parts.items)
      (is_earlier : IsEarlier n known before b earlier) (e : new ≡ (old ++ parts ∷ []) ++ option_to_list earlier) where
    opened_runs : stack_runs known new ≡ runs_behind known b.rules.items (known k) b.parts.items ++ stack_runs known old
    opened_runs =
        ap (stack_runs known) e
        ∙ stack_more known (old ++ parts ∷ []) earlier
        ∙ ap (λ l. l ++ stack_runs known (old ++ parts ∷ [])) is_earlier.runs
        ∙ ap (λ l. runs_behind known b.rules.items (earlier_runs known before) b.parts.items ++ l)
        (stack_push n known old parts ∙ ap (λ l. l ++ stack_runs known old) (put_runs xs (parts_steps first second) b parts same put))
        ∙ sym (append_assoc (runs_behind known b.rules.items (earlier_runs known before) b.parts.items) (runs_behind known b.rules.items xs b.parts.items) (stack_runs known old))
        ∙ ap (λ l. l ++ stack_runs known old) (sym (behind_either b.rules.items (earlier_runs known before) xs b.parts.items))
        ∙ ap (λ l. runs_behind known b.rules.items l b.parts.items ++ stack_runs known old) (sym is)

    opened_fewer : stack_steps new < node_steps k * steps b.parts.items + stack_steps old
    opened_fewer =
        let s = steps b.parts.items in
        omega (
          arith,
          ap stack_steps e,
          stack_steps_more (old ++ parts ∷ []) earlier,
          stack_steps_push old parts,
          is_earlier.fewer,
          put.fewer,
          steps_some b.parts.items,
          mul-le-mul_right s fewer,
          add-mul (earlier_steps before + parts_steps first second) 1 s,
          add-mul (earlier_steps before) (parts_steps first second) s,
          one-mul s,
        )

    pub opened_lower : AreWithin n b.parts.items → IsOpened n known (runs_behind known b.rules.items (known k) b.parts.items) (node_steps k * steps b.parts.items) old new
    opened_lower within = record {
      runs = opened_runs;
      fewer = opened_fewer;
      within = λ all. subst (IsStack n) (sym e)
          (within_more n (old ++ parts ∷ []) earlier (All-push (λ x. AreWithin n x.parts.items) old parts all (put.within within)) is_earlier.within);
    }

-- ---- nodes that are named

pub named_within : (o : Option ℕ) (k n : ℕ) → k < n → IfSome o (λ j. j < k) → IfSome o (λ j. j < n)
named_within None k n h i = tt
named_within (Some j) k n h i = omega arith

pub on_ok : {T E P Q : Type 0} (r : Result T E) → (P → Q) → OnOk r P → OnOk r Q
on_ok (Ok x) f h = f h
on_ok (Err e) f h = tt
