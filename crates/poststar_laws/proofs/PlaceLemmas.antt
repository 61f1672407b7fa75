-- The places that the forward direction can reach.
use Rattle.std.proofs.Common.{◌≡◌, ◌⊎◌, inl, inr, ℕ, suc, ◌+◌, ◌*◌, ◌<◌, ◌≤◌, true, List, [], ◌∷◌, map, length, refl, sym, ap, ap₂, ◌∙◌, subst, arith}
use Rattle.std.specs.Prelude.{Option, None, Some, IsTrue, All, ◌&&◌, nat_eq, nat_le, nat_lt, slice_get, if◌then◌else◌}
use Rattle.std.specs.List.{flat_map, list_all, range_with_len}
use Rattle.std.proofs.lemmas.Bool.{and_parts, eqb-true, leb-true, ltb-true, cond_both}
use Rattle.std.proofs.lemmas.List.{length-map, length-append}
use Rattle.std.proofs.lemmas.List.FromFn.{length-range_with_len}
use Rattle.std.proofs.Math.Nat.{add-mul, mul_assoc}
use Rattle.semiring_laws.specs.Semiring.{Operations}
use Rattle.weighted_automata.specs.declared.place.Label.{Label}
use Rattle.weighted_automata.specs.declared.place.Label.TheVariants.{Symbol, Empty}
use Rattle.weighted_automata.specs.declared.place.Place.{Place}
use Rattle.weighted_automata.specs.declared.transitions.Entry.{Entry}
use Rattle.weighted_automata.specs.Places.{same_label}
use Rattle.pushdown_rules.specs.declared.rule.Rule.{Rule}
use Rattle.pushdown_rules.specs.Pushdown.{Pushdown, IsSystem}
use Rattle.pushdown_rules.proofs.CallerLemmas.{rule_at}
use Rattle.wpds_base.specs.Lists.{IsIn}
use Rattle.wpds_base.specs.Limits.{most_controls, most_items, most_rules}
use Rattle.saturation_laws.specs.declared.opening.Opening.{Opening}
use Rattle.saturation_laws.specs.declared.job.JobKind.{JobKind}
use Rattle.saturation_laws.specs.declared.job.JobKind.TheVariants.{PreStep, PrePushControl, PrePushOther, PostStep, PostPopMiddle, PostPopOther, PostEnter, PostLeave, PostGlue}
use Rattle.saturation_laws.specs.declared.job.Job.{Job}
use Rattle.saturation_laws.specs.Jobs.{row_of, HasInput}
use Rattle.saturation_laws.proofs.CallerLemmas.{in_left, in_right, in_append, in_map, from_map, in_range, from_range, in_flat_map, from_flat_map, length-flat_map_of}
use Rattle.direction_parts.specs.Places.{arrow, reads_symbol}
use Rattle.direction_parts.specs.Passes.{two_symbols, by_rule}
use Rattle.direction_parts.proofs.CallerLemmas.{all_listed, in_rules, from_rules, two_symbols_are}
use Rattle.poststar_laws.specs.Middles.{pushes_of, count_pushes, middle_of, frame_of, base_of}
use Rattle.poststar_laws.specs.declared.drawn.Drawn.{Drawn}
use Rattle.poststar_laws.specs.Rows.{skip, draws, are_glued, glued, post_rows}
use Rattle.poststar_laws.specs.Fitting.{HasFewStates, reads_below, is_item_edge, fits_post, targets, to_each, labels, from_control, from_middle, post_places}
use Rattle.poststar_laws.specs.Reading.{IsMiddle}
use Rattle.poststar_laws.proofs.Weights.{HasItemEdges}
use Rattle.poststar_laws.proofs.FrameLemmas.{few_pushes, middle_last, middle_high}
use Rattle.poststar_laws.proofs.DrawnLemmas.{step_says, return_says, pop_says, enter_says, leave_says}
use Rattle.poststar_laws.proofs.RowTestLemmas.{row_says}

-- What an opening that fits is.
pub record Fitting {S W Map : Type 0} (items : ℕ) (p : Pushdown S W Map) (o : Opening) : Type 0 where
  pub few : items ≤ most_items
  pub edges : HasItemEdges p (base_of items p) o.edges
  pub finals : (q : ℕ) → IsIn q o.finals → q < base_of items p

symbol_below : (symbols : ℕ) (l : Label) → reads_below symbols l ≡ true → (g : ℕ) × (l ≡ Symbol g) × (g < symbols)
symbol_below symbols (Symbol g) h = (g, refl, ltb-true g symbols h)
symbol_below symbols Empty h = cc

module _ {S W Map : Type 0} (items : ℕ) (p : Pushdown S W Map) where
  abbrev base : ℕ
  base = base_of items p

  -- What an edge that passes is.
  record IsPassed (x : Place) : Type 0 where
    pub first : x.from < base
    pub item : p.controls ≤ x.to
    pub last : x.to < base
    pub symbol : (g : ℕ) × (x.label ≡ Symbol g) × (g < p.symbols)

  passed : (x : Place) → is_item_edge items p x ≡ true → IsPassed x
  passed x h =
      let one = and_parts (reads_below p.symbols x.label) (nat_lt x.from base && (nat_le p.controls x.to && nat_lt x.to base)) h in
      let two = and_parts (nat_lt x.from base) (nat_le p.controls x.to && nat_lt x.to base) one.1 in
      let three = and_parts (nat_le p.controls x.to) (nat_lt x.to base) two.1 in
      record { first = ltb-true x.from base two.0; item = leb-true p.controls x.to three.0; last = ltb-true x.to base three.1; symbol = symbol_below p.symbols x.label one.0 }

  pub fitting : (o : Opening) → IsTrue (fits_post items p o) → Fitting items p o
  fitting o fits =
      let edges = list_all (is_item_edge items p) o.edges in
      let finals = list_all (λ q. nat_lt q base) o.finals in
      let one = and_parts (nat_le items most_items) (edges && finals) fits in
      let two = and_parts edges finals one.1 in
      let each : (x : Place) → IsIn x o.edges → IsPassed x = λ x edge. passed x (all_listed (is_item_edge items p) o.edges two.0 x edge) in
      record {
        few = leb-true items most_items one.0;
        edges = record { first = λ x e. (each x e).first; items = λ x e. (each x e).item; last = λ x e. (each x e).last; symbols = λ x e. (each x e).symbol };
        finals = λ q h. ltb-true q base (all_listed (λ n. nat_lt n base) o.finals two.1 q h);
      }

  abbrev pushes : ℕ
  pushes = count_pushes p.rules

  abbrev at : ℕ → Label → ℕ → Place
  at from label to = record { from = from; label = label; to = to }

  target_in : (q : ℕ) → p.controls ≤ q → q < base + pushes → IsIn q (targets items p)
  target_in q low high = in_range p.controls (items + pushes) q low (omega (arith, high))

  in_each : (from : ℕ) (l : Label) (q : ℕ) → p.controls ≤ q → q < base + pushes → IsIn (at from l q) (to_each items p from l)
  in_each from l q low high = in_map (at from l) q (targets items p) (target_in q low high)

  in_control : (c : ℕ) → c < p.controls → (l : Label) → IsIn l (labels items p) → (q : ℕ) → p.controls ≤ q → q < base + pushes → IsIn (at c l q) (post_places items p)
  in_control c control l reads q low high =
      let controls = range_with_len 0 p.controls in
      in_left (at c l q) (flat_map (from_control items p) controls) _
      (in_flat_map (from_control items p) (at c l q) c controls (in_range 0 p.controls c (omega arith) (omega (arith, control)))
      (in_flat_map (to_each items p c) (at c l q) l (labels items p) reads (in_each c l q low high)))

  symbol_in : (g : ℕ) → g < p.symbols → IsIn (Symbol g) (labels items p)
  symbol_in g less = inr (in_map (λ h. Symbol h) g (range_with_len 0 p.symbols) (in_range 0 p.symbols g (omega arith) (omega (arith, less))))

  pub arrow_in : (c g q : ℕ) → c < p.controls → g < p.symbols → p.controls ≤ q → q < base + pushes → IsIn (arrow c g q) (post_places items p)
  arrow_in c g q control symbol low high = in_control c control (Symbol g) (symbol_in g symbol) q low high

  pub skip_in : (c q : ℕ) → c < p.controls → p.controls ≤ q → q < base + pushes → IsIn (skip c q) (post_places items p)
  skip_in c q control low high = in_control c control Empty (inl refl) q low high

  pub middle_in : (k : ℕ) (r : Rule S W Map) → slice_get p.rules k ≡ Some r → (g i : ℕ) → r.right ≡ g ∷ i ∷ [] → (q : ℕ) → p.controls ≤ q → q < base + pushes
      → IsIn (arrow (middle_of base p.rules k) i q) (post_places items p)
  middle_in k r there g i right q low high =
      let m = middle_of base p.rules k in
      let x = arrow m i q in
      let P : List ℕ → Type 0 = λ w. IsIn x (elim (two_symbols w) [ None ↦ [] | Some v ↦ to_each items p m (Symbol v.1) ]) in
      in_right x (flat_map (from_control items p) (range_with_len 0 p.controls)) _
      (in_rules (from_middle items p) k p.rules r x there (subst P (sym right) (in_each m (Symbol i) q low high)))

  -- What places are that are reached, or opening edges.
  pub record IsReached (x : Place) : Type 0 where
    pub first : x.from < base + pushes
    pub item : p.controls ≤ x.to
    pub last : x.to < base + pushes
    pub reads : ((x.label ≡ Empty) × (x.from < p.controls)) ⊎ ((g : ℕ) × (x.label ≡ Symbol g) × (g < p.symbols))

  abbrev Reads : ℕ → Label → Type 0
  Reads from l = ((l ≡ Empty) × (from < p.controls)) ⊎ ((g : ℕ) × (l ≡ Symbol g) × (g < p.symbols))

  from_each : (from : ℕ) (l : Label) → from < base + pushes → Reads from l → (x : Place) → IsIn x (to_each items p from l) → IsReached x
  from_each from l first reads x h =
      let one = from_map (at from l) x (targets items p) h in
      let within = from_range p.controls (items + pushes) one.before one.there in
      let P : Place → Type 0 = IsReached in
      let low = within.0 in
      let high = within.1 in
      subst P one.is (record { first = first; item = low; last = omega (arith, high); reads = reads })

  label_reads : (c : ℕ) → c < p.controls → (l : Label) → IsIn l (labels items p) → Reads c l
  label_reads c control l (inl same) = inl (sym same, control)
  label_reads c control l (inr h) =
      let one = from_map (λ g. Symbol g) l (range_with_len 0 p.symbols) h in
      let within = (from_range 0 p.symbols one.before one.there).1 in
      inr (one.before, sym one.is, omega (arith, within))

module _ {S W Map : Type 0} {operations : S → Operations W Map} {p : Pushdown S W Map} (valid : IsSystem operations p) (items : ℕ) where
  abbrev b : ℕ
  b = base_of items p

  -- the symbols that a rule leaves
  first_below : (k : ℕ) (r : Rule S W Map) → slice_get p.rules k ≡ Some r → (g : ℕ) (rest : List ℕ) → r.right ≡ g ∷ rest → g < p.symbols
  first_below k r there g rest right =
      let P : List ℕ → Type 0 = All (λ h. h < p.symbols) in
      let all : All (λ h. h < p.symbols) (g ∷ rest) = subst P right (rule_at valid k r there).right in
      all 0 0 (omega arith)

  second_below : (k : ℕ) (r : Rule S W Map) → slice_get p.rules k ≡ Some r → (g i : ℕ) → r.right ≡ g ∷ i ∷ [] → i < p.symbols
  second_below k r there g i right =
      let P : List ℕ → Type 0 = All (λ h. h < p.symbols) in
      let all : All (λ h. h < p.symbols) (g ∷ i ∷ []) = subst P right (rule_at valid k r there).right in
      all 1 0 (omega arith)

  middle_reached : (k : ℕ) (r : Rule S W Map) → slice_get p.rules k ≡ Some r → (o : Option (ℕ × ℕ)) → two_symbols r.right ≡ o → (x : Place)
      → IsIn x (elim o [ None ↦ [] | Some v ↦ to_each items p (middle_of b p.rules k) (Symbol v.1) ]) → IsReached items p x
  middle_reached k r there None e x h = absurd h
  middle_reached k r there (Some v) e x h =
      let right = two_symbols_are r.right v e in
      let push : IsMiddle p b (middle_of b p.rules k) k = record { rule = r; there = there; callee = v.0; waits = v.1; right = right; state = refl } in
      from_each items p (middle_of b p.rules k) (Symbol v.1) (middle_last p b (middle_of b p.rules k) k push) (inr (v.1, refl, second_below k r there v.0 v.1 right)) x h

  place_reached : (x : Place) → IsIn x (post_places items p) → IsReached items p x
  place_reached x h = elim (in_append x (flat_map (from_control items p) (range_with_len 0 p.controls)) (by_rule (from_middle items p) 0 p.rules) h) [
    | inl first ↦
        let one = from_flat_map (from_control items p) x (range_with_len 0 p.controls) first in
        let within = (from_range 0 p.controls one.before one.there).1 in
        let two = from_flat_map (to_each items p one.before) x (labels items p) one.is in
        from_each items p one.before two.before (omega (arith, within)) (label_reads items p one.before (omega (arith, within)) two.before two.there) x two.is
    | inr second ↦ let one = from_rules (from_middle items p) p.rules x second in middle_reached one.number one.by one.there (two_symbols one.by.right) refl x one.is
  ]

  edge_reached : (edges : List Place) → HasItemEdges p b edges → (x : Place) → IsIn x edges → IsReached items p x
  edge_reached edges has x edge = let first = has.first x edge in let last = has.last x edge in record { first = omega (arith, first); item = has.items x edge; last = omega (arith, last); reads = inr (has.symbols x edge) }

  -- the states of the places that are reached, at the limits
  pub states_few : items ≤ most_items → (x : Place) → IsIn x (post_places items p) → HasFewStates x
  states_few few x h =
      let is = place_reached x h in
      let first = is.first in
      let last = is.last in
      let pushes = few_pushes p.rules in
      let rules : length p.rules ≤ most_rules = valid.few in
      let controls : p.controls ≤ most_controls = valid.few_controls in
      record { from = omega (arith, first, few, pushes, rules, controls); to = omega (arith, last, few, pushes, rules, controls) }

  abbrev Goal : Place → Type 0
  Goal x = IsIn x (post_places items p)

  module _ (k : ℕ) (r : Rule S W Map) (there : slice_get p.rules k ≡ Some r) (q : ℕ) (low : p.controls ≤ q) (high : q < b + count_pushes p.rules) (d : Drawn) where
    to_low : r.to < p.controls
    to_low = (rule_at valid k r there).to

    abbrev to_goal : Drawn → Type 0
    to_goal e = Goal e.goal

    drawn_reaches : (kind : JobKind) → draws b p kind k r q ≡ Some d → Goal d.goal
    drawn_reaches PreStep h = cc
    drawn_reaches PrePushControl h = cc
    drawn_reaches PrePushOther h = cc
    drawn_reaches PostGlue h = cc
    drawn_reaches PostStep h =
        let says = step_says r q d h in
        subst to_goal says.is (arrow_in items p r.to says.top q to_low (first_below k r there says.top [] says.right) low high)
    drawn_reaches PostPopMiddle h = let says = return_says r (frame_of b p.rules q) q d h in subst to_goal says.is (skip_in items p r.to q to_low low high)
    drawn_reaches PostPopOther h = let says = pop_says r (frame_of b p.rules q) q d h in subst to_goal says.is (skip_in items p r.to q to_low low high)
    drawn_reaches PostEnter h =
        let m = middle_of b p.rules k in
        let says = enter_says r m d h in
        let push : IsMiddle p b m k = record { rule = r; there = there; callee = says.callee; waits = says.waits; right = says.right; state = refl } in
        let first = middle_high p b m k push in
        subst to_goal says.is (arrow_in items p r.to says.callee m to_low (first_below k r there says.callee (says.waits ∷ []) says.right) (omega (arith, first)) (middle_last p b m k push))
    drawn_reaches PostLeave h =
        let m = middle_of b p.rules k in
        let says = leave_says r m q d h in
        subst to_goal says.is (middle_in items p k r there says.callee says.waits says.right q low high)

  glue_reaches : (x y : Place) → are_glued x y ≡ true → IsReached items p x → IsReached items p y → Goal (glued x y)
  glue_reaches x y h deep empty =
      let parts = and_parts (reads_symbol x.label) (same_label y.label Empty && nat_eq y.to x.from) h in
      let meets = and_parts (same_label y.label Empty) (nat_eq y.to x.from) parts.1 in
      let control : y.from < p.controls = elim empty.reads [
        | inl e ↦ e.1
        | inr g ↦ let e : same_label (Symbol g.0) Empty ≡ true = ap (λ l. same_label l Empty) (sym g.1) ∙ meets.0 in cc
      ] in
      elim deep.reads [
        | inl e ↦ let none : reads_symbol Empty ≡ true = ap reads_symbol (sym e.0) ∙ parts.0 in cc
        | inr g ↦
            let P : Label → Type 0 = λ l. Goal (record { from = y.from; label = l; to = x.to }) in
            subst P (sym g.1) (arrow_in items p y.from g.0 x.to control g.2 deep.item deep.last)
      ]

  -- a row leads to a place that is reached
  pub post_reaches : (edges : List Place) → HasItemEdges p b edges → (j : Job S W Map) → post_rows b p (row_of j) ≡ true
      → ((t : Entry S W Map) → HasInput j t → IsIn t.place (post_places items p) ⊎ IsIn t.place edges) → IsIn j.goal (post_places items p)
  post_reaches edges has j row inputs =
      let reached : (t : Entry S W Map) → HasInput j t → IsReached items p t.place = λ t h. elim (inputs t h) [
        | inl place ↦ place_reached t.place place
        | inr edge ↦ edge_reached edges has t.place edge
      ] in
      let P : Job S W Map → Type 0 = λ z. Goal z.goal in
      elim (row_says b p j row) [
        | inl is ↦
            let at = reached is.input (inl (ap (λ (z : Job S W Map). z.first) is.is)) in
            subst P (sym is.is) (drawn_reaches is.number is.by is.there is.input.place.to at.item at.last is.makes is.kind is.made)
        | inr is ↦
            subst P (sym is.is) (glue_reaches is.deep.place is.empty.place is.glues (reached is.deep (inl (ap (λ (z : Job S W Map). z.first) is.is))) (reached is.empty (inr (ap (λ (z : Job S W Map). z.second) is.is))))
      ]

-- how many places there are
module _ {S W Map : Type 0} (items : ℕ) (p : Pushdown S W Map) where
  abbrev n : ℕ
  n = items + count_pushes p.rules

  length-to_each : (from : ℕ) (l : Label) → length (to_each items p from l) ≡ n
  length-to_each from l = length-map (targets items p) (λ q. at items p from l q) ∙ length-range_with_len p.controls n

  length-labels : length (labels items p) ≡ p.symbols + 1
  length-labels =
      let all : length (map (λ g. Symbol g) (range_with_len 0 p.symbols)) ≡ p.symbols = length-map (range_with_len 0 p.symbols) (λ g. Symbol g) ∙ length-range_with_len 0 p.symbols in
      omega (arith, all)

  length-controls : length (flat_map (from_control items p) (range_with_len 0 p.controls)) ≡ p.controls * (p.symbols + 1) * n
  length-controls =
      let each : (c : ℕ) → length (from_control items p c) ≡ (p.symbols + 1) * n = λ c.
      length-flat_map_of (to_each items p c) n (length-to_each c) (labels items p) ∙ ap (λ m. m * n) length-labels in
      length-flat_map_of (from_control items p) ((p.symbols + 1) * n) each (range_with_len 0 p.controls) ∙ ap (λ m. m * ((p.symbols + 1) * n)) (length-range_with_len 0 p.controls)
      ∙ sym (mul_assoc p.controls (p.symbols + 1) n)

  abbrev at_middle : ℕ → Option (ℕ × ℕ) → List Place
  at_middle m o = elim o [ None ↦ [] | Some w ↦ to_each items p m (Symbol w.1) ]

  length-middle : (m : ℕ) (word : List ℕ) → length (at_middle m (two_symbols word)) ≡ (if nat_eq (length word) 2 then 1 else 0) * n
  length-middle m [] = omega arith
  length-middle m (g ∷ []) = omega arith
  length-middle m (g ∷ h ∷ []) = let all = length-to_each m (Symbol h) in omega (arith, all)
  length-middle m (g ∷ h ∷ i ∷ word) =
      let long = suc (suc (suc (length word))) in
      let P : ℕ → Type 0 = λ x. 0 ≡ x * n in
      cond_both (nat_eq long 2) 1 0 P (λ e. let two : long ≡ 2 = eqb-true long 2 e in absurd (omega (arith, two))) (λ _. omega arith)

  length-middles : (k : ℕ) (rs : List (Rule S W Map)) → length (by_rule (from_middle items p) k rs) ≡ count_pushes rs * n
  length-middles k [] = omega arith
  length-middles k (r ∷ rs) =
      length-append (from_middle items p k r) (by_rule (from_middle items p) (suc k) rs)
      ∙ ap₂ (λ x y. x + y) (length-middle (middle_of (base_of items p) p.rules k) r.right) (length-middles (suc k) rs)
      ∙ sym (add-mul (pushes_of r) (count_pushes rs) n)

  pub length-post_places : length (post_places items p) ≡ p.controls * (p.symbols + 1) * n + count_pushes p.rules * n
  length-post_places =
      length-append (flat_map (from_control items p) (range_with_len 0 p.controls)) (by_rule (from_middle items p) 0 p.rules)
      ∙ ap₂ (λ x y. x + y) length-controls (length-middles 0 p.rules)
