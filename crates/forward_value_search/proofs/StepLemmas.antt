-- A rule with at most one symbol on its right side, and the entry of a callee.
use Rattle.std.proofs.Common.{◌≡◌, ℕ, ◌≤◌, [], ◌∷◌, length, sym, ap, ap₂, ◌∙◌, subst}
use Rattle.std.specs.Prelude.{Some, slice_get}
use Rattle.std.proofs.lemmas.Option.{same_Some}
use Rattle.semiring_laws.proofs.CallerLemmas.{below_trans}
use Rattle.semiring_laws.specs.Semiring.{Operations, IsSemiring, Below}
use Rattle.weighted_automata.specs.declared.place.Label.{Label}
use Rattle.weighted_automata.specs.declared.place.Label.TheVariants.{Symbol, Empty}
use Rattle.weighted_automata.specs.declared.place.Place.{Place}
use Rattle.pushdown_rules.specs.declared.rule.Rule.{Rule}
use Rattle.pushdown_rules.specs.Pushdown.{Pushdown, IsSystem}
use Rattle.pushdown_rules.proofs.CallerLemmas.{weight_fits}
use Rattle.config_patterns.specs.Edges.{edges_of}
use Rattle.config_patterns.specs.Membership.{PatternValue}
use Rattle.weight_tables.specs.Entries.{TableEntry}
use Rattle.weight_tables.specs.Tables.{TablesValue, with_hand}
use Rattle.forward_value_laws.specs.Model.{callee}
use Rattle.forward_value_search.specs.Places.{arrow, short_label, number_of}
use Rattle.forward_value_search.specs.Settled.{head_at}
use Rattle.forward_value_search.specs.Search.{StandsAt, HasSums, weights, IsReady, IsOnward, HasGiven, IsCall, HasMet}
use Rattle.forward_value_search.proofs.SumLemmas.{step_at, enter_at}
use Rattle.forward_value_search.proofs.OnwardLemmas.{weights_fit, at_system, of_system, entry_weight, onward_is, onward_then}
use Rattle.forward_value_search.proofs.MeetLemmas.{for_rule, step_gives, call_gives}

module _ {S W Map : Type 0} {operations : S → Operations W Map} {p : Pushdown S W Map} (valid : IsSystem operations p) (laws : IsSemiring (operations p.semiring)) (first : PatternValue) where
  abbrev s : Operations W Map
  s = operations p.semiring

  abbrev Onward : TablesValue S W Map → TablesValue S W Map → Type 0
  Onward old new = IsOnward operations p first old new

  abbrev weight : TablesValue S W Map → Place → W
  weight v = weights operations p first v

  module _ (v one : TablesValue S W Map) (ready : IsReady operations p first v) where
    -- one in hand
    pub one_hand : one ≡ with_hand (operations v.system.semiring).one v → one ≡ with_hand s.one v
    one_hand is = at_system valid laws first v ready (λ q. one ≡ with_hand (operations q.semiring).one v) is

    pub one_onward : one ≡ with_hand (operations v.system.semiring).one v → Onward v one
    one_onward is = onward_is valid laws first v one ready s.one laws.fits-one (one_hand is)

    pub entry_sums : (k : ℕ) (r : Rule S W Map) → slice_get p.rules k ≡ Some r → (a n : ℕ) → number_of (length first.items) p (callee r.to a) ≡ Some n → one ≡ with_hand (operations v.system.semiring).one v
        → HasSums operations p first (arrow r.to (Symbol a) n) one.hand
    entry_sums k r there a n number is =
        let P : TablesValue S W Map → Type 0 = λ z. HasSums operations p first (arrow r.to (Symbol a) n) z.hand in
        subst P (sym (one_hand is)) (enter_at valid laws (length first.items) first.control (edges_of first.items) k r there a n number)

    pub entry_below : (new : TablesValue S W Map) (goal : Place) → one ≡ with_hand (operations v.system.semiring).one v → Below s (weight new goal) one.hand → Below s (weight new goal) s.one
    entry_below new goal is below = let P : TablesValue S W Map → Type 0 = λ z. Below s (weight new goal) z.hand in subst P (one_hand is) below

    module _ (k : ℕ) (r : Rule S W Map) (there : slice_get p.rules k ≡ Some r) where
      -- what is in hand once a rule was put behind an entry
      pub stepped_hand : (t : ℕ) (x : Place) → StandsAt t x v.base
          → ((q : Rule S W Map) → slice_get v.system.rules k ≡ Some q → (e : TableEntry W) → slice_get v.base t ≡ Some e → one ≡ with_hand ((operations v.system.semiring).extend e.weight q.weight) v)
          → one ≡ with_hand (s.extend (weight v x) r.weight) v
      stepped_hand t x at is =
          let there_v = of_system valid laws first v ready (λ q. slice_get q.rules k ≡ Some r) there in
          at_system valid laws first v ready (λ q. one ≡ with_hand ((operations q.semiring).extend at.0.weight r.weight) v) (is r there_v at.0 at.1)
          ∙ ap (λ u. with_hand (s.extend u r.weight) v) (entry_weight valid laws first v ready t x at.0 at.1 at.2)

      module _ (x : Place) (is : one ≡ with_hand (s.extend (weight v x) r.weight) v) where
        pub step_onward : Onward v one
        step_onward = onward_is valid laws first v one ready (s.extend (weight v x) r.weight) (laws.fits-extend (weight v x) r.weight (weights_fit valid laws first v ready x) (weight_fits valid laws k r there)) is

        module _ (new : TablesValue S W Map) (onward : Onward one new) where
          pub step_then : Onward v new
          step_then = onward_then valid laws first v one new ready step_onward onward

        module _ (head : x ≡ head_at r x.to) (few : length r.right ≤ 1) (label : Label) (short : label ≡ short_label r.right) where
          pub step_sums : HasSums operations p first (arrow r.to label x.to) one.hand
          step_sums =
              let P : TablesValue S W Map → Type 0 = λ z. HasSums operations p first (arrow r.to label x.to) z.hand in
              let Q : Label → Type 0 = λ l. HasSums operations p first (arrow r.to l x.to) (s.extend (weight v x) r.weight) in
              let R : Place → Type 0 = λ y. HasSums operations p first y (weight v x) in
              subst P (sym is) (subst Q (sym short) (step_at valid laws (length first.items) first.control (edges_of first.items) k r there few x.to (weight v x) (subst R head (ready.sums x))))

        pub step_given : (new : TablesValue S W Map) → Onward one new → x ≡ head_at r x.to → length r.right ≤ 1 → (label : Label) → label ≡ short_label r.right
            → Below s (weight new (arrow r.to label x.to)) one.hand → (q : Rule S W Map) → slice_get p.rules k ≡ Some q → HasGiven operations p first new q x.to
        step_given new onward head few label short below =
            let P : TablesValue S W Map → Type 0 = λ z. Below s (weight new (arrow r.to label x.to)) z.hand in
            let Q : Label → Type 0 = λ l. Below s (weight new (arrow r.to l x.to)) (s.extend (weight v x) r.weight) in
            let R : Place → Type 0 = λ y. Below s (weight new (arrow r.to (short_label r.right) x.to)) (s.extend (weight v y) r.weight) in
            for_rule p.rules k r there (λ q. HasGiven operations p first new q x.to)
            (step_gives valid laws first k r there v new (step_then new onward) few x.to (subst R head (subst Q short (subst P is below))))

  module _ (k below number : ℕ) (x : Place) (call : IsCall operations p first k below number x) (r : Rule S W Map) (there : slice_get p.rules k ≡ Some r) (top : ℕ) (right : r.right ≡ top ∷ below ∷ []) where
    same_rule : call.rule ≡ r
    same_rule = same_Some call.rule r (sym call.there ∙ there)

    pub call_number : number_of (length first.items) p (callee r.to top) ≡ Some number
    call_number =
        let words : call.top ∷ below ∷ [] ≡ top ∷ below ∷ [] = sym call.right ∙ ap (λ (q : Rule S W Map). q.right) same_rule ∙ right in
        let tops : top ≡ call.top = cc in
        ap₂ (λ (q : Rule S W Map) a. number_of (length first.items) p (callee q.to a)) (sym same_rule) tops ∙ call.entered

    call_head : x ≡ head_at r x.to
    call_head = let P : Rule S W Map → Type 0 = λ q. x ≡ head_at q x.to in subst P same_rule call.head

    pub call_given : (v one two three : TablesValue S W Map) → IsReady operations p first v → one ≡ with_hand (operations v.system.semiring).one v → Onward one two
        → Below s (weight two (arrow r.to (Symbol top) number)) one.hand → Onward two three → ((q : ℕ) → HasMet operations p first three k below x (arrow q Empty number))
        → (q : Rule S W Map) → slice_get p.rules k ≡ Some q → HasGiven operations p first three q x.to
    call_given v one two three ready is first_onward below_one onward met =
        let entry = arrow r.to (Symbol top) number in
        let entered = entry_below v one ready two entry is below_one in
        let low = below_trans laws (weight three entry) (weight two entry) s.one (weights_fit valid laws first three onward.ready entry) (weights_fit valid laws first two first_onward.ready entry) laws.fits-one
        (onward.further.falls entry) entered in
        for_rule p.rules k r there (λ q. HasGiven operations p first three q x.to)
        (call_gives valid laws first k r there top below right three x.to number call_number low
        (λ q. let P : Place → Type 0 = λ y. HasMet operations p first three k below y (arrow q Empty number) in subst P call_head (met q)))
