-- The rules of a line among those of a plan.
use Rattle.std.proofs.Common.{◌≡◌, ℕ, zero, suc, ◌+◌, ◌≤◌, List, [], ◌∷◌, ◌++◌, length, take, sym, ap, ◌∙◌, subst, arith, append_assoc}
use Rattle.std.specs.Prelude.{Some, slice_get}
use Rattle.std.proofs.lemmas.Option.{same_Some}
use Rattle.std.proofs.lemmas.List.{append-nil}
use Rattle.std.proofs.Math.ListN.{length-append}
use Rattle.boolean_programs.specs.Programs.{Program}
use Rattle.boolean_programs.specs.Lines.{Instruction, code}
use Rattle.boolean_programs.specs.Lists.{Each}
use Rattle.boolean_machine.specs.Machine.{action}
use Rattle.boolean_machine.proofs.CallerLemmas.{get_front, get_back}
use Rattle.lowering_laws.specs.Lowering.{Planned, line_rules, rules_from, plan}

module _ (p : Program) where
  abbrev rules_at : ℕ → Instruction → List Planned
  rules_at k i = line_rules p k i (action p i)

  -- what holds of each planned rule holds of those of a line
  pub each_at : (P : Planned → Type 0) (is : List Instruction) (b k : ℕ) (i : Instruction) → slice_get is k ≡ Some i → Each P (rules_from p b is) → Each P (rules_at (b + k) i)
  each_at P [] b k i e each = cc
  each_at P (j ∷ is) b zero i e each =
      let here : Each P (rules_at b j) = λ m t at. each m t (get_front (rules_at b j) (rules_from p (suc b) is) m t at) in
      subst (λ (x : Instruction). Each P (rules_at (b + 0) x)) (same_Some j i e) (subst (λ n. Each P (rules_at n j)) (let f : b ≡ b + 0 = omega arith in f) here)
  each_at P (j ∷ is) b (suc k) i e each =
      let later : Each P (rules_at (suc b + k) i) = each_at P is (suc b) k i e (λ m t at. let back = get_back (rules_at b j) (rules_from p (suc b) is) m t at in each back.0 t back.1) in
      subst (λ n. Each P (rules_at n i)) (let f : suc b + k ≡ b + suc k = omega arith in f) later

  -- the rules up to a line and those of the line are no more than all
  pub room_at : (is : List Instruction) (b k : ℕ) (i : Instruction) → slice_get is k ≡ Some i → length (rules_from p b (take k is)) + length (rules_at (b + k) i) ≤ length (rules_from p b is)
  room_at [] b k i e = cc
  room_at (j ∷ is) b zero i e =
      let all = length-append (rules_at b j) (rules_from p (suc b) is) in
      let same : length (rules_at b j) ≡ length (rules_at (b + 0) i) =
      ap (λ (x : Instruction). length (rules_at b x)) (same_Some j i e) ∙ ap (λ n. length (rules_at n i)) (let f : b ≡ b + 0 = omega arith in f) in
      omega arith
  room_at (j ∷ is) b (suc k) i e =
      let all = length-append (rules_at b j) (rules_from p (suc b) is) in
      let part = length-append (rules_at b j) (rules_from p (suc b) (take k is)) in
      let later = room_at is (suc b) k i e in
      let same : length (rules_at (suc b + k) i) ≡ length (rules_at (b + suc k) i) = ap (λ n. length (rules_at n i)) (let f : suc b + k ≡ b + suc k = omega arith in f) in
      omega arith

  -- the rules up to the next line
  pub rules_more : (is : List Instruction) (b k : ℕ) (i : Instruction) → slice_get is k ≡ Some i → rules_from p b (take (suc k) is) ≡ rules_from p b (take k is) ++ rules_at (b + k) i
  rules_more [] b k i e = cc
  rules_more (j ∷ is) b zero i e =
      append-nil (rules_at b j) ∙ ap (λ (x : Instruction). rules_at b x) (same_Some j i e) ∙ ap (λ n. rules_at n i) (let f : b ≡ b + 0 = omega arith in f)
  rules_more (j ∷ is) b (suc k) i e =
      ap (λ ts. rules_at b j ++ ts) (rules_more is (suc b) k i e ∙ ap (λ n. rules_from p (suc b) (take k is) ++ rules_at n i) (let f : suc b + k ≡ b + suc k = omega arith in f))
      ∙ sym (append_assoc (rules_at b j) (rules_from p (suc b) (take k is)) (rules_at (b + suc k) i))

  -- ---- all rules

  from_zero : (k : ℕ) → 0 + k ≡ k
  from_zero k = omega arith

  pub each_line : (P : Planned → Type 0) (k : ℕ) (i : Instruction) → slice_get (code p) k ≡ Some i → Each P (plan p) → Each P (line_rules p k i (action p i))
  each_line P k i e each = subst (λ n. Each P (rules_at n i)) (from_zero k) (each_at P (code p) 0 k i e each)

  pub room_line : (k : ℕ) (i : Instruction) → slice_get (code p) k ≡ Some i → length (rules_from p 0 (take k (code p))) + length (line_rules p k i (action p i)) ≤ length (plan p)
  room_line k i e = subst (λ n. length (rules_from p 0 (take k (code p))) + length (rules_at n i) ≤ length (plan p)) (from_zero k) (room_at (code p) 0 k i e)

  pub plan_more : (k : ℕ) (i : Instruction) → slice_get (code p) k ≡ Some i → rules_from p 0 (take (suc k) (code p)) ≡ rules_from p 0 (take k (code p)) ++ line_rules p k i (action p i)
  plan_more k i e = rules_more (code p) 0 k i e ∙ ap (λ n. rules_from p 0 (take k (code p)) ++ rules_at n i) (from_zero k)
