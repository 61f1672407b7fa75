-- Each push rule has a middle state of its own, and it is found from that state.
use Rattle.std.proofs.Common.{◌≡◌, ℕ, zero, suc, ◌+◌, ◌<◌, ◌≤◌, true, false, List, [], ◌∷◌, length, refl, sym, ap, ◌∙◌, subst, arith}
use Rattle.std.specs.Prelude.{Option, None, Some, slice_get, nat_eq, if◌then◌else◌}
use Rattle.std.proofs.lemmas.Bool.{cond_both, cond-true, eq-eqb, eqb-true}
use Rattle.std.proofs.lemmas.Option.{same_Some}
use Rattle.pushdown_rules.specs.declared.rule.Rule.{Rule}
use Rattle.pushdown_rules.specs.Pushdown.{Pushdown}
use Rattle.poststar_laws.specs.Middles.{is_push, pushes_of, count_pushes, pushes_before, middle_of, frame_from, frame_of}
use Rattle.poststar_laws.specs.Reading.{IsMiddle}

module _ {S W Map : Type 0} where
  one_more : (r : Rule S W Map) → is_push r ≡ true → pushes_of r ≡ 1
  one_more r e = cond-true (is_push r) 1 0 e

  at_most_one : (r : Rule S W Map) → pushes_of r ≤ 1
  at_most_one r = let P : ℕ → Type 0 = λ n. n ≤ 1 in cond_both (is_push r) 1 0 P (λ _. omega arith) (λ _. omega arith)

  pub few_pushes : (rs : List (Rule S W Map)) → count_pushes rs ≤ length rs
  few_pushes [] = omega arith
  few_pushes (r ∷ rs) = let one = at_most_one r in let rest = few_pushes rs in let long : length (r ∷ rs) ≡ suc (length rs) = refl in omega (arith, one, rest, long)

  -- a push rule counts for those after it, and among all
  pub push_counts : (rs : List (Rule S W Map)) (k : ℕ) (r : Rule S W Map) → slice_get rs k ≡ Some r → is_push r ≡ true → pushes_before rs k < count_pushes rs
  push_counts [] k r there push = cc
  push_counts (q ∷ rs) zero r there push =
      let one : pushes_of q ≡ 1 = one_more q (ap is_push (same_Some q r there) ∙ push) in omega (arith, one)
  push_counts (q ∷ rs) (suc k) r there push = let rest = push_counts rs k r there push in omega (arith, rest)

  -- Where a state is found to be a middle.
  pub record IsFound (n m : ℕ) (rs : List (Rule S W Map)) (q k : ℕ) : Type 0 where
    pub index : ℕ
    pub number : k ≡ n + index
    pub by : Rule S W Map
    pub there : slice_get rs index ≡ Some by
    pub push : is_push by ≡ true
    pub state : q ≡ m + pushes_before rs index

  later : (n m : ℕ) (r : Rule S W Map) (rs : List (Rule S W Map)) (q k : ℕ) (next : ℕ) → next ≡ m + pushes_of r → IsFound (suc n) next rs q k → IsFound n m (r ∷ rs) q k
  later n m r rs q k next e is =
      let number = is.number in
      let state = is.state in
      record {
        index = suc is.index;
        number = omega (arith, number);
        by = is.by;
        there = is.there;
        push = is.push;
        state = omega (arith, state, e);
      }

  not_a_push : (r : Rule S W Map) → is_push r ≡ false → pushes_of r ≡ 0
  not_a_push r e = ap (λ b. if b then 1 else 0) e

  pub found : (n m : ℕ) (rs : List (Rule S W Map)) (q k : ℕ) → frame_from n m rs q ≡ Some k → IsFound n m rs q k
  found n m [] q k e = cc
  found n m (r ∷ rs) q k e =
      let further : ℕ → Option ℕ = λ next. frame_from (suc n) next rs q in
      let P : Option ℕ → Type 0 = λ o. o ≡ Some k → IsFound n m (r ∷ rs) q k in
      cond_both (is_push r) (if nat_eq q m then Some n else further (suc m)) (further m) P
      (λ push. cond_both (nat_eq q m) (Some n) (further (suc m)) P
      (λ same h.
      let at : q ≡ m = eqb-true q m same in
      let number : n ≡ k = same_Some n k h in
      record { index = 0; number = omega (arith, number); by = r; there = refl; push = push; state = omega (arith, at) })
      (λ _ h. let one = one_more r push in later n m r rs q k (suc m) (omega (arith, one)) (found (suc n) (suc m) rs q k h)))
      (λ other h. let none = not_a_push r other in later n m r rs q k m (omega (arith, none)) (found (suc n) m rs q k h)) e

  -- a push rule is found from its middle
  pub finds : (n m : ℕ) (rs : List (Rule S W Map)) (i : ℕ) (r : Rule S W Map) → slice_get rs i ≡ Some r → is_push r ≡ true → frame_from n m rs (m + pushes_before rs i) ≡ Some (n + i)
  finds n m [] i r there push = cc
  finds n m (u ∷ rs) zero r there push =
      let first : is_push u ≡ true = ap is_push (same_Some u r there) ∙ push in
      let at : m + 0 ≡ m = omega arith in
      let number : n ≡ n + 0 = omega arith in
      cond-true (is_push u) (if nat_eq (m + 0) m then Some n else frame_from (suc n) (suc m) rs (m + 0)) (frame_from (suc n) m rs (m + 0)) first
      ∙ cond-true (nat_eq (m + 0) m) (Some n) (frame_from (suc n) (suc m) rs (m + 0)) (eq-eqb (m + 0) m at) ∙ ap Some number
  finds n m (u ∷ rs) (suc i) r there push =
      let q = m + pushes_before (u ∷ rs) (suc i) in
      let number : suc n + i ≡ n + suc i = omega arith in
      let P : Option ℕ → Type 0 = λ o. o ≡ Some (n + suc i) in
      let goes : (next : ℕ) → next + pushes_before rs i ≡ q → frame_from (suc n) next rs q ≡ Some (n + suc i) = λ next e.
      ap (frame_from (suc n) next rs) (sym e) ∙ finds (suc n) next rs i r there push ∙ ap Some number in
      cond_both (is_push u) (if nat_eq q m then Some n else frame_from (suc n) (suc m) rs q) (frame_from (suc n) m rs q) P
      (λ first.
      let one : pushes_of u ≡ 1 = one_more u first in
      cond_both (nat_eq q m) (Some n) (frame_from (suc n) (suc m) rs q) P
      (λ same. let e : q ≡ m = eqb-true q m same in absurd (omega (arith, e, one)))
      (λ _. goes (suc m) (omega (arith, one))))
      (λ other. let none = not_a_push u other in goes m (omega (arith, none)))

module _ {S W Map : Type 0} (p : Pushdown S W Map) (base : ℕ) where
  abbrev frame : ℕ → Option ℕ
  frame q = frame_of base p.rules q

  middle_pushes : (q k : ℕ) → (m : IsMiddle p base q k) → is_push m.rule ≡ true
  middle_pushes q k m = eq-eqb (length m.rule.right) 2 (ap length m.right)

  pub frame_there : (q k : ℕ) → IsMiddle p base q k → frame q ≡ Some k
  frame_there q k m =
      let e : 0 + k ≡ k = omega arith in
      ap frame m.state ∙ finds 0 base p.rules k m.rule m.there (middle_pushes q k m) ∙ ap Some e

  two_words : (word : List ℕ) → length word ≡ 2 → (g : ℕ) × (h : ℕ) × (word ≡ g ∷ h ∷ [])
  two_words [] e = cc
  two_words (g ∷ []) e = absurd (omega (arith, e))
  two_words (g ∷ h ∷ []) e = (g, h, refl)
  two_words (g ∷ h ∷ i ∷ word) e = absurd (omega (arith, e))

  pub middle_by : (k : ℕ) (r : Rule S W Map) → slice_get p.rules k ≡ Some r → is_push r ≡ true → IsMiddle p base (middle_of base p.rules k) k
  middle_by k r there push =
      let word = two_words r.right (eqb-true (length r.right) 2 push) in
      record { rule = r; there = there; callee = word.0; waits = word.1; right = word.2; state = refl }

  -- what is found is the push rule of which the state is the middle
  pub frame_is : (q k : ℕ) → frame q ≡ Some k → IsMiddle p base q k
  frame_is q k e =
      let is = found 0 base p.rules q k e in
      let number = is.number in
      let same : is.index ≡ k = omega (arith, number) in
      let P : ℕ → Type 0 = λ n. slice_get p.rules n ≡ Some is.by in
      let Q : ℕ → Type 0 = λ n. q ≡ middle_of base p.rules n in
      let m = middle_by k is.by (subst P same is.there) is.push in
      record { rule = m.rule; there = m.there; callee = m.callee; waits = m.waits; right = m.right; state = subst Q same is.state }

  -- each state is the middle of one rule at most
  pub middle_once : (q k j : ℕ) → IsMiddle p base q k → IsMiddle p base q j → k ≡ j
  middle_once q k j m n = same_Some k j (sym (frame_there q k m) ∙ frame_there q j n)

  -- middles stand behind the items
  pub middle_high : (q k : ℕ) → IsMiddle p base q k → base ≤ q
  middle_high q k m = let state = m.state in omega (arith, state)

  pub middle_last : (q k : ℕ) → IsMiddle p base q k → q < base + count_pushes p.rules
  middle_last q k m = let state = m.state in let counts = push_counts p.rules k m.rule m.there (middle_pushes q k m) in omega (arith, state, counts)

  frame_low : (q : ℕ) → q < base → (o : Option ℕ) → frame q ≡ o → o ≡ None
  frame_low q low None e = refl
  frame_low q low (Some k) e = let high = middle_high q k (frame_is q k e) in absurd (omega (arith, low, high))

  -- no state below them is one
  pub no_frame : (q : ℕ) → q < base → frame q ≡ None
  no_frame q low = frame_low q low (frame q) refl
