-- In closed weights each row lies below the runs that come to it.
use Rattle.std.proofs.Common.{◌≡◌, ◌≢◌, ◌⊎◌, inl, inr, ℕ, zero, suc, ◌+◌, ◌≤◌, true, List, [], ◌∷◌, ◌++◌, length, refl, sym, ap, ◌∙◌, subst, arith}
use Rattle.std.specs.Prelude.{Some, slice_get, unwrap_or}
use Rattle.std.proofs.lemmas.Bool.{cases_Bool}
use Rattle.std.proofs.lemmas.List.{length-append, append-nil}
use Rattle.semiring_laws.specs.Semiring.{Operations, IsSemiring, Fits, Below}
use Rattle.semiring_laws.proofs.CallerLemmas.{below_itself, below_trans, below_zero, zero_below, extend_keeps_below, extend_left_keeps_below, after_keeps_below}
use Rattle.pushdown_rules.specs.declared.rule.Rule.{Rule}
use Rattle.pushdown_rules.specs.Configuration.{Configuration, at_stack}
use Rattle.pushdown_rules.specs.Pushdown.{Pushdown, IsSystem}
use Rattle.pushdown_rules.specs.Firing.{Run}
use Rattle.pushdown_rules.specs.Values.{value_of}
use Rattle.pushdown_rules.specs.Splits.{Falls, Stays}
use Rattle.pushdown_rules.proofs.CallerLemmas.{rule_at, fired, none_from_nothing, value_fits, weight_fits, map_fits, step_value, pop_last, push_value, split}
use Rattle.config_patterns.specs.declared.edge.Edge.{Edge}
use Rattle.forward_value_laws.specs.Model.{Source, callee, head_of, IsClosed}

-- more than one symbol
pub too_long : (word : List ℕ) (h : ℕ) → (word ≡ [] → ⊥) → (stack : List ℕ) → stack ≡ word ++ h ∷ [] → length stack ≤ 1 → ⊥
too_long [] h full stack e few = full refl
too_long (g ∷ word) h full stack e few =
    let long : length stack ≡ suc (length (word ++ h ∷ [])) = ap length e in
    let more : length (word ++ h ∷ []) ≡ length word + 1 = length-append word (h ∷ []) in
    absurd (omega (arith, long, more))

module _ {W Map : Type 0} {s : Operations W Map} (laws : IsSemiring s) where
  pub zero_or : (w : W) → Fits s w → (w ≡ s.zero) ⊎ (w ≢ s.zero)
  zero_or w fit =
      let law = laws.same_is_equal w s.zero fit laws.fits-zero in
      elim (cases_Bool (s.same w s.zero)) [
        | inl is ↦ inl (law.0 is)
        | inr other ↦ inr (λ e. let same : s.same w s.zero ≡ true = law.1 e in cc)
      ]

  -- what is below a product is below a product of what is above
  pub below_product : (w a b v c : W) → Fits s w → Fits s a → Fits s b → Fits s v → Fits s c
      → Below s w (s.extend a b) → Below s a v → Below s b c → Below s w (s.extend v c)
  below_product w a b v c fw fa fb fv fc h ha hb =
      below_trans laws w (s.extend a b) (s.extend v c) fw (laws.fits-extend a b fa fb) (laws.fits-extend v c fv fc) h (extend_keeps_below laws a v b c fa fv fb fc ha hb)

  -- all is below what begins with zero
  pub below_dead : (w a v c : W) → Fits s w → Fits s v → Fits s c → a ≡ s.zero → Below s a v → Below s w (s.extend v c)
  below_dead w a v c fw fv fc none below =
      let P : W → Type 0 = λ x. Below s x v in
      let dead : v ≡ s.zero = zero_below laws v fv (subst P none below) in
      let Q : W → Type 0 = λ x. Below s w x in
      subst Q (sym (ap (λ x. s.extend x c) dead ∙ laws.extend-zero_left c fc)) (below_zero laws w fw)

module _ {S W Map : Type 0} {operations : S → Operations W Map} {p : Pushdown S W Map} (valid : IsSystem operations p) (laws : IsSemiring (operations p.semiring))
    (start : ℕ) (edges : List Edge) (weight : Configuration → Source → W) (closed : IsClosed (operations p.semiring) p start edges weight) where
  abbrev s : Operations W Map
  s = operations p.semiring

  abbrev value : List ℕ → W
  value = value_of s p

  abbrev fv : (run : List ℕ) → Fits s (value run)
  fv run = value_fits valid laws run

  -- a rule that uses up its symbol
  pub pop_value : (k : ℕ) (r : Rule S W Map) → slice_get p.rules k ≡ Some r → r.right ≡ [] → value (k ∷ []) ≡ r.weight
  pop_value k r there right =
      pop_last valid laws k r there right [] (head_of r) r.control r.symbol refl ∙ laws.extend-one_left r.weight (weight_fits valid laws k r there)

  -- what a call is worth whose callee ends by this run
  abbrev pub call_worth : Rule S W Map → List ℕ → W
  call_worth r a = s.after (unwrap_or r.map s.plain) (s.extend r.weight (value a))

  module _ (k : ℕ) (r : Rule S W Map) (there : slice_get p.rules k ≡ Some r) (g h : ℕ) (right : r.right ≡ g ∷ h ∷ []) where
    pub call_fits : (a : List ℕ) → Fits s (call_worth r a)
    call_fits a = laws.fits-after (unwrap_or r.map s.plain) (s.extend r.weight (value a)) (map_fits valid laws k r there g h right) (laws.fits-extend r.weight (value a) (weight_fits valid laws k r there) (fv a))

    pub call_value : (run : List ℕ) (x : Configuration) (f : Falls p r.to (g ∷ []) (h ∷ []) run x) → value (k ∷ run) ≡ s.extend (call_worth r f.first) (value f.rest)
    call_value run x f = ap (λ z. value (k ∷ z)) f.joins ∙ push_value valid laws k r there g h right f.first f.rest (at_stack r.to (g ∷ [])) (at_stack f.control []) f.goes refl refl

    -- a call comes back where its callee ends
    pub comes_back : (from : Source) (v : W) → Fits s v → Below s (weight (head_of r) from) v → (q : ℕ) (a : List ℕ)
        → Below s (weight (at_stack q []) (callee r.to g)) (s.extend s.one (value a)) → Below s (weight (at_stack q (h ∷ [])) from) (s.extend v (call_worth r a))
    comes_back from v fits below q a known =
        let fr = weight_fits valid laws k r there in
        let m = unwrap_or r.map s.plain in
        let fm = map_fits valid laws k r there g h right in
        let ends = weight (at_stack q []) (callee r.to g) in
        let fe = closed.fits (at_stack q []) (callee r.to g) in
        let P : W → Type 0 = Below s ends in
        let inside : Below s ends (value a) = subst P (laws.extend-one_left (value a) (fv a)) known in
        let e₁ = laws.fits-extend r.weight ends fr fe in
        let e₂ = laws.fits-extend r.weight (value a) fr (fv a) in
        below_product laws (weight (at_stack q (h ∷ [])) from) (weight (head_of r) from) (s.after m (s.extend r.weight ends)) v (call_worth r a)
        (closed.fits (at_stack q (h ∷ [])) from) (closed.fits (head_of r) from) (laws.fits-after m (s.extend r.weight ends) fm e₁) fits (call_fits a)
        (closed.returns k r there g h right q from) below
        (after_keeps_below laws m (s.extend r.weight ends) (s.extend r.weight (value a)) fm e₁ e₂ (extend_left_keeps_below laws r.weight ends (value a) fr fe (fv a) inside))

  -- a rule to at most one symbol
  module _ (k : ℕ) (r : Rule S W Map) (there : slice_get p.rules k ≡ Some r) where
    pub step_below : (word : List ℕ) → r.right ≡ word → length word ≤ 1 → (from : Source) (v : W) → Fits s v → Below s (weight (head_of r) from) v
        → Below s (weight (at_stack r.to word) from) (s.extend v r.weight)
    step_below word right few from v fits below =
        let fr = weight_fits valid laws k r there in
        let few' : length r.right ≤ 1 = let P : List ℕ → Type 0 = λ u. length u ≤ 1 in subst P (sym right) few in
        let P : List ℕ → Type 0 = λ u. Below s (weight (at_stack r.to u) from) (s.extend (weight (head_of r) from) r.weight) in
        below_product laws (weight (at_stack r.to word) from) (weight (head_of r) from) r.weight v r.weight (closed.fits (at_stack r.to word) from) (closed.fits (head_of r) from) fr fits fr
        (subst P right (closed.steps k r there few' from)) below (below_itself laws r.weight fr)

    pub pop_worth : (run : List ℕ) (x : Configuration) → r.right ≡ [] → Run p (at_stack r.to []) run x → value (k ∷ run) ≡ s.extend r.weight (value run)
    pop_worth run x right goes =
        let over : run ≡ [] = none_from_nothing p run (at_stack r.to []) x refl goes in
        ap (λ z. value (k ∷ z)) over ∙ pop_value k r there right ∙ sym (laws.extend-one_right r.weight (weight_fits valid laws k r there)) ∙ ap (λ z. s.extend r.weight (value z)) (sym over)

  -- what is known of runs of so many rules from a row whose weight is below a value
  abbrev GoesOn : ℕ → Type 0
  GoesOn n = (run : List ℕ) → length run ≤ n → (y x : Configuration) (from : Source) (v : W) → Fits s v → Below s (weight y from) v
      → length y.stack ≤ 1 → length x.stack ≤ 1 → Run p y run x → Below s (weight x from) (s.extend v (value run))

  module _ (n : ℕ) (known : GoesOn n) (k : ℕ) (r : Rule S W Map) (there : slice_get p.rules k ≡ Some r) (run : List ℕ) (short : length run ≤ n)
      (x : Configuration) (small : length x.stack ≤ 1) (from : Source) (v : W) (fits : Fits s v) (below : Below s (weight (head_of r) from) v) where
    abbrev fx : Fits s (weight x from)
    fx = closed.fits x from

    abbrev fr : Fits s r.weight
    fr = weight_fits valid laws k r there

    -- one step to at most one symbol
    stepped : (word : List ℕ) → r.right ≡ word → length word ≤ 1 → Run p (at_stack r.to word) run x → value (k ∷ run) ≡ s.extend r.weight (value run)
        → Below s (weight x from) (s.extend v (value (k ∷ run)))
    stepped word right few goes worth =
        let f' = laws.fits-extend v r.weight fits fr in
        let here = step_below k r there word right few from v fits below in
        let on = known run short (at_stack r.to word) x from (s.extend v r.weight) f' here few small goes in
        let Q : W → Type 0 = Below s (weight x from) in
        subst Q (laws.extend_assoc v r.weight (value run) fits fr (fv run) ∙ ap (s.extend v) (sym worth)) on

    returned : (g h : ℕ) → r.right ≡ g ∷ h ∷ [] → Falls p r.to (g ∷ []) (h ∷ []) run x → Below s (weight x from) (s.extend v (value (k ∷ run)))
    returned g h right f =
        let q = f.control in
        let a = f.first in
        let b = f.rest in
        let long : length run ≡ length a + length b = ap length f.joins ∙ length-append a b in
        let c = call_worth r a in
        let fc = call_fits k r there g h right a in
        let worth : value (k ∷ run) ≡ s.extend c (value b) = call_value k r there g h right run x f in
        elim (zero_or laws (weight (head_of r) from) (closed.fits (head_of r) from)) [
          | inl none ↦ below_dead laws (weight x from) (weight (head_of r) from) v (value (k ∷ run)) fx fits (fv (k ∷ run)) none below
          | inr some ↦
              let inside = known a (omega arith) (at_stack r.to (g ∷ [])) (at_stack q []) (callee r.to g) s.one laws.fits-one (closed.enters k r there g h right from some) (omega arith) (omega arith) f.goes in
              let back = comes_back k r there g h right from v fits below q a inside in
              let on = known b (omega arith) (at_stack q (h ∷ [])) x from (s.extend v c) (laws.fits-extend v c fits fc) back (omega arith) small f.goes_on in
              let Q : W → Type 0 = Below s (weight x from) in
              subst Q (laws.extend_assoc v c (value b) fits fc (fv b) ∙ ap (s.extend v) (sym worth)) on
        ]

    by_word : (word : List ℕ) → r.right ≡ word → length word ≤ 2 → Run p (at_stack r.to word) run x → Below s (weight x from) (s.extend v (value (k ∷ run)))
    by_word [] right few goes = stepped [] right (omega arith) goes (pop_worth k r there run x right goes)
    by_word (g ∷ []) right few goes = stepped (g ∷ []) right (omega arith) goes (step_value valid laws k r there g right run)
    by_word (g ∷ h ∷ []) right few goes = elim (split p run r.to (g ∷ []) (h ∷ []) x goes) [
      | inl f ↦ returned g h right f
      | inr f ↦ let f' : Stays p r.to (g ∷ []) (h ∷ []) run x = f in absurd (too_long f'.word h f'.full x.stack f'.ends small)
    ]
    by_word (g ∷ h ∷ i ∷ word) right few goes = absurd (omega arith)

  -- what fires on a row
  pub record Fires (y : Configuration) (k : ℕ) (next : Configuration) : Type 0 where
    pub rule : Rule S W Map
    pub there : slice_get p.rules k ≡ Some rule
    pub head : y ≡ head_of rule
    pub after : next ≡ at_stack rule.to rule.right

  pub fires_on : (y : Configuration) (k : ℕ) (next : Configuration) → length y.stack ≤ 1 → (rule : Rule S W Map) (rest : List ℕ) → slice_get p.rules k ≡ Some rule
      → y ≡ at_stack rule.control (rule.symbol ∷ rest) → next ≡ at_stack rule.to (rule.right ++ rest) → Fires y k next
  fires_on y k next one rule [] there head after = record {
    rule = rule;
    there = there;
    head = head;
    after = after ∙ ap (at_stack rule.to) (append-nil rule.right);
  }
  fires_on y k next one rule (g ∷ rest) there head after =
      let long : length y.stack ≡ suc (suc (length rest)) = ap (λ (c : Configuration). length c.stack) head in absurd (omega (arith, long))

  goes_on : (n : ℕ) → GoesOn n
  goes_on n [] short y x from v fits below one small same =
      let P : Configuration → Type 0 = λ c. Below s (weight c from) (s.extend v s.one) in
      let Q : W → Type 0 = Below s (weight y from) in
      subst P same (subst Q (sym (laws.extend-one_right v fits)) below)
  goes_on zero (k ∷ run) short y x from v fits below one small goes = absurd (omega arith)
  goes_on (suc n) (k ∷ run) short y x from v fits below one small goes =
      let at = fired p k y goes.0 goes.1 in
      let f = fires_on y k goes.0 one at.rule at.rest at.there at.head at.after in
      let r = f.rule in
      let P : Configuration → Type 0 = λ c. Run p c run x in
      let Q : Configuration → Type 0 = λ c. Below s (weight c from) v in
      by_word n (goes_on n) k r f.there run (omega arith) x small from v fits (subst Q f.head below) r.right refl (rule_at valid k r f.there).fits.short (subst P f.after goes.2)

  -- a run from a row whose weight is below a value, to a row
  pub row_goes_on : (run : List ℕ) (y x : Configuration) (from : Source) (v : W) → Fits s v → Below s (weight y from) v
      → length y.stack ≤ 1 → length x.stack ≤ 1 → Run p y run x → Below s (weight x from) (s.extend v (value run))
  row_goes_on run y x from v fits below one small goes = goes_on (length run) run (omega arith) y x from v fits below one small goes
