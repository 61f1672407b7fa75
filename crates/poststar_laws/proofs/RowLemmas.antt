-- What the forward rows make of one run of each input.
use Rattle.std.proofs.Common.{◌≡◌, inl, inr, ℕ, ◌<◌, ◌≤◌, List, [], ◌∷◌, ◌++◌, refl, sym, ap, ◌∙◌, subst, arith}
use Rattle.std.specs.Prelude.{Some, slice_get, unwrap_or}
use Rattle.std.proofs.lemmas.List.{append-nil}
use Rattle.std.proofs.lemmas.Option.{same_Some}
use Rattle.semiring_laws.specs.Semiring.{Operations, IsSemiring, Fits}
use Rattle.weighted_automata.specs.declared.place.Place.{Place}
use Rattle.weighted_automata.specs.declared.place.Label.TheVariants.{Symbol, Empty}
use Rattle.pushdown_rules.specs.declared.rule.Rule.{Rule}
use Rattle.pushdown_rules.specs.Configuration.{at_stack}
use Rattle.pushdown_rules.specs.Pushdown.{Pushdown, IsSystem}
use Rattle.pushdown_rules.specs.Firing.{Run}
use Rattle.pushdown_rules.specs.Values.{value_of}
use Rattle.pushdown_rules.proofs.CallerLemmas.{rule_at, value_fits, weight_fits, map_fits, fires, run_then, step_last, pop_last, push_value, open_value}
use Rattle.direction_parts.specs.Places.{arrow}
use Rattle.direction_parts.specs.Worths.{after_return}
use Rattle.poststar_laws.specs.Middles.{middle_of}
use Rattle.poststar_laws.specs.Rows.{skip, head_to}
use Rattle.poststar_laws.specs.Reading.{IsMiddle, Comes, PostRun}
use Rattle.poststar_laws.proofs.FrameLemmas.{middle_once, middle_high}
use Rattle.poststar_laws.proofs.Weights.{HasItemEdges}
use Rattle.poststar_laws.proofs.PathLemmas.{place_more}

module _ {S W Map : Type 0} {operations : S → Operations W Map} {p : Pushdown S W Map} (valid : IsSystem operations p) (laws : IsSemiring (operations p.semiring))
    (edges : List Place) (base : ℕ) (high : p.controls ≤ base) (items : HasItemEdges p base edges) where
  abbrev s : Operations W Map
  s = operations p.semiring

  abbrev value : List ℕ → W
  value = value_of s p

  abbrev fv : (run : List ℕ) → Fits s (value run)
  fv run = value_fits valid laws run

  abbrev runs : Place → List ℕ → Type 0
  runs = PostRun p edges base

  abbrev Come : ℕ → List ℕ → ℕ → List ℕ → Type 0
  Come = Comes p edges base

  module _ (k : ℕ) (r : Rule S W Map) (there : slice_get p.rules k ≡ Some r) where
    fr : Fits s r.weight
    fr = weight_fits valid laws k r there

    alone : Run p (at_stack r.control (r.symbol ∷ [])) (k ∷ []) (at_stack r.to r.right)
    alone = (at_stack r.to (r.right ++ []), fires p k r there [], ap (at_stack r.to) (append-nil r.right))

    -- from a control there is no other way
    pub from_head : (q : ℕ) (a : List ℕ) → runs (head_to r q) a → Come r.control (r.symbol ∷ []) q a
    from_head q a (inl is) = is.1
    from_head q a (inr (inl edge)) = let h = edge.item in let g = (rule_at valid k r there).control in absurd (omega (arith, h, g))
    from_head q a (inr (inr leaves)) =
        let h = middle_high p base r.control leaves.number leaves.push in let g = (rule_at valid k r there).control in absurd (omega (arith, h, g, high))

    pub goes_further : (q : ℕ) (a : List ℕ) → Come r.control (r.symbol ∷ []) q a → Come r.to r.right q (a ++ k ∷ [])
    goes_further q a (inl is) = inl (record {
      item = is.item;
      last = is.last;
      from = is.from;
      low = is.low;
      reads = is.reads;
      goes = run_then p a (k ∷ []) is.from (at_stack r.control (r.symbol ∷ [])) (at_stack r.to r.right) is.goes alone;
    })
    goes_further q a (inr is) = inr (record {
      number = is.number;
      push = is.push;
      rest = is.rest ++ k ∷ [];
      starts = ap (λ z. z ++ k ∷ []) is.starts;
      goes = run_then p is.rest (k ∷ []) (at_stack is.push.rule.to (is.push.callee ∷ [])) (at_stack r.control (r.symbol ∷ [])) (at_stack r.to r.right) is.goes alone;
    })

    to_low : r.to < p.controls
    to_low = (rule_at valid k r there).to

    pub step_run : (g : ℕ) → r.right ≡ g ∷ [] → (q : ℕ) (a : List ℕ) → runs (head_to r q) a
        → runs (arrow r.to g q) (a ++ k ∷ []) × (value (a ++ k ∷ []) ≡ s.extend (value a) r.weight)
    step_run g right q a run = let P : List ℕ → Type 0 = λ w. Come r.to w q (a ++ k ∷ []) in
        (inl (to_low, subst P right (goes_further q a (from_head q a run))), step_last valid laws k r there g right a)

    -- a pop whose state is no middle
    pub pop_run : r.right ≡ [] → (q : ℕ) → ((m : ℕ) → IsMiddle p base q m → ⊥) → (a : List ℕ) → runs (head_to r q) a
        → runs (skip r.to q) (a ++ k ∷ []) × (value (a ++ k ∷ []) ≡ s.extend (value a) r.weight)
    pop_run right q no_middle a run =
        let come = from_head q a run in
        let P : List ℕ → Type 0 = λ w. Come r.to w q (a ++ k ∷ []) in (
          inl (to_low, subst P right (goes_further q a come)),
          elim come [
            | inl is ↦ pop_last valid laws k r there right a is.from r.control r.symbol is.goes
            | inr is ↦ absurd (no_middle is.number is.push)
          ],
        )

    -- a pop whose state is the middle of a push: the return map
    pub return_run : r.right ≡ [] → (q m : ℕ) (push : IsMiddle p base q m) → (a : List ℕ) → runs (head_to r q) a
        → runs (skip r.to q) (a ++ k ∷ []) × (value (a ++ k ∷ []) ≡ after_return s push.rule (s.extend (value a) r.weight))
    return_run right q m push a run =
        let come = from_head q a run in
        let P : List ℕ → Type 0 = λ w. Come r.to w q (a ++ k ∷ []) in (
          inl (to_low, subst P right (goes_further q a come)),
          elim come [
            | inl is ↦ let h = middle_high p base q m push in let g = is.last in absurd (omega (arith, h, g))
            | inr is ↦
                let n = is.number in
                let u = is.push.rule in
                let rest = is.rest in
                let h = unwrap_or u.map s.plain in
                let callee = at_stack u.to (is.push.callee ∷ []) in
                let fu = weight_fits valid laws n u is.push.there in
                let back : Run p callee (rest ++ k ∷ []) (at_stack r.to r.right) = run_then p rest (k ∷ []) callee (at_stack r.control (r.symbol ∷ [])) (at_stack r.to r.right) is.goes alone in
                let stays : value (n ∷ rest) ≡ s.extend u.weight (value rest) =
                open_value valid laws n u is.push.there is.push.callee is.push.waits is.push.right rest callee (at_stack r.control (r.symbol ∷ [])) is.goes refl (λ e. cc) in
                let inner : value (rest ++ k ∷ []) ≡ s.extend (value rest) r.weight = pop_last valid laws k r there right rest callee r.control r.symbol is.goes in
                let met : value (n ∷ ((rest ++ k ∷ []) ++ [])) ≡ s.extend (s.after h (s.extend u.weight (value (rest ++ k ∷ [])))) (value []) =
                push_value valid laws n u is.push.there is.push.callee is.push.waits is.push.right (rest ++ k ∷ []) [] callee (at_stack r.to r.right) back refl right in
                let rule : u ≡ push.rule = same_Some u push.rule (sym is.push.there ∙ ap (slice_get p.rules) (middle_once p base q n m is.push push) ∙ push.there) in
                let fh = map_fits valid laws n u is.push.there is.push.callee is.push.waits is.push.right in
                let fi = laws.fits-after h (s.extend u.weight (value (rest ++ k ∷ []))) fh (laws.fits-extend u.weight (value (rest ++ k ∷ [])) fu (fv (rest ++ k ∷ []))) in
                ap (λ z. value (z ++ k ∷ [])) is.starts
                ∙ ap (λ z. value (n ∷ z)) (sym (append-nil (rest ++ k ∷ [])))
                ∙ met ∙ laws.extend-one_right _ fi
                ∙ ap (s.after h) (ap (s.extend u.weight) inner ∙ sym (laws.extend_assoc u.weight (value rest) r.weight fu (fv rest) fr)
                ∙ ap (λ w. s.extend w r.weight) (sym (ap value is.starts ∙ stays)))
                ∙ ap (λ (v : Rule S W Map). after_return s v (s.extend (value a) r.weight)) rule
          ],
        )

    abbrev middle : ℕ
    middle = middle_of base p.rules k

    pub enter_run : (push : IsMiddle p base middle k) → runs (arrow push.rule.to push.callee middle) (k ∷ []) × (value (k ∷ []) ≡ push.rule.weight)
    enter_run push =
        let u = push.rule in
        let callee = at_stack u.to (push.callee ∷ []) in
        let fu = weight_fits valid laws k u push.there in (
          inl ((rule_at valid k u push.there).to, inr (record { number = k; push = push; rest = []; starts = refl; goes = refl })),
          open_value valid laws k u push.there push.callee push.waits push.right [] callee callee refl refl (λ e. cc) ∙ laws.extend-one_right u.weight fu,
        )

    pub leave_run : (push : IsMiddle p base middle k) (q : ℕ) (a : List ℕ) → runs (head_to r q) a → runs (arrow middle push.waits q) a
    leave_run push q a run =
        let rule : r ≡ push.rule = same_Some r push.rule (sym there ∙ push.there) in
        let P : Rule S W Map → Type 0 = λ u. Come u.control (u.symbol ∷ []) q a in
        inr (inr (record { number = k; push = push; label = refl; comes = subst P rule (from_head q a run) }))

  -- an empty transition and one from where it leads
  pub glue_run : (from q g to : ℕ) (a b : List ℕ) → runs (skip from q) a → runs (arrow q g to) b
      → runs (arrow from g to) (b ++ a) × (value (b ++ a) ≡ s.extend (value b) (value a))
  glue_run from q g to a b (inl is) run =
      let more = place_more valid laws edges base high items from is.0 [] q a (arrow q g to) b refl (inr is.1) run in
      (inl (is.0, more.0), more.1)
  glue_run from q g to a b (inr (inl edge)) run = let label = (items.symbols (skip from q) edge.edge).1 in cc
  glue_run from q g to a b (inr (inr leaves)) run = let label : Empty ≡ Symbol leaves.push.waits = leaves.label in cc
